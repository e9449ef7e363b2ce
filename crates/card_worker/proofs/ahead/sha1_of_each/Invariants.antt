use Rattle.std.proofs.Common.{◌≡◌, length, map, take}
use Rattle.card_worker.specs.Holding.{stored_in_slot}
use Rattle.card_worker.proofs.ahead.sha1_of_each.Given as goal

abbrev pub invariant-cards : goal.invariant-cards
invariant-cards g l = (length l.messages ≡ 32) × (map (λ m. m.now) (take l.i l.messages) ≡ map stored_in_slot (take l.i l.cards))

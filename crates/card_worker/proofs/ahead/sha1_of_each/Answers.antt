use Rattle.std.proofs.Common.{◌≡◌, ◌∙◌, length, map, ap, refl, arith}
use Rattle.std.proofs.lemmas.List.{take_all}
use Rattle.card_worker.specs.Holding.{stored_in_slot}
use Rattle.card_worker.proofs.Digests.{digests_are}
use Rattle.card_worker.proofs.ahead.sha1_of_each.Goals as goal

pub returns : goal.returns
returns g c =
    let done : c.cards.i ≡ length c.args.cards.now = omega arith in
    let all = rw done at c.cards.invariant.1 in
    digests_are (λ m. m.now) stored_in_slot _ c.args.cards.now c.digest_all.new.out _ (length c.args.cards.now) refl
    (all ∙ ap (map stored_in_slot) (take_all (length c.args.cards.now) c.args.cards.now (omega arith)))
    c.digest_all.ensures

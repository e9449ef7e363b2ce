use Rattle.std.proofs.Common.{List, ℕ, Option, [], subst, sym}
use Rattle.edge_kit.specs.Told.{Tells}
use Rattle.driver_desk.proofs.Closings.{unused_sealed, unread_bare, closes_unread}
use Rattle.driver_desk.proofs.Ended.{ends_how, unread_how}
use Rattle.driver_desk.proofs.closed_card.close_unread.Goals as goal

pub close-requires-clause-shows : goal.close-requires-clause-shows
close-requires-clause-shows g c =
    closes_unread _ _ _ _ _ c.requires.unread c.leave_unread.ensures.path c.leave_unread.ensures.shows

pub returns : goal.returns
returns g c = record {
  ends = ends_how _ _ _ _ _ (λ x e. unread_how _ _ x (
    (λ m i. unused_sealed _ _ _ m c.requires.leaf c.leave_unread.ensures.shows i),
    (λ i. subst (λ (o : Option (List ℕ)). Tells o []) (sym (c.leave_unread.ensures.stuck i)) (unread_bare _ _ _ c.requires.unread)),
  ) e) c.close.ensures.ends;
}

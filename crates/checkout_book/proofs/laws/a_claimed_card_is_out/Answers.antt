use Rattle.std.proofs.Common.{sym, refl, subst}
use Rattle.convert_plan.specs.Card.{CardSeen, IsCardOf}
use Rattle.checkout_book.specs.Sights.{sight, seen}
use Rattle.checkout_book.proofs.laws.a_claimed_card_is_out.Goals as goal

pub returns : goal.returns
returns g c cards card planned = (
  planned.0,
  planned.1,
  planned.2,
  subst (λ (z : CardSeen). IsCardOf (seen (sight g.B.Blob.told g.B.Blob.seen g.L.Leaf.seen) planned.1) z) (sym
      planned.3) refl,
)

use Rattle.std.proofs.Common.{◌∙◌, ap, ◌≡◌, Bool, Option, ℕ, refl, true, false, Some, None}
use Rattle.std.specs.Prelude.{is_none, is_some, not}
use Rattle.checkout_core.proofs.Counts.{none_lowest}
use Rattle.checkout_core.proofs.state.State.all_asked.Goals as goal

is_none_of : (o : Option ℕ) (b : Bool) → is_some o ≡ not b → b ≡ is_none o
is_none_of None true e = refl
is_none_of None false e = absurd (cc (e))
is_none_of (Some n) true e = absurd (cc (e))
is_none_of (Some n) false e = refl

pub returns-clause-asked : goal.returns-clause-asked
returns-clause-asked c =
    is_none_of c.lowest_unasked.result c.is_none.result c.is_none.ensures
    ∙ (ap is_none c.lowest_unasked.ensures.lowest ∙ none_lowest c.args.driver c.args.self.now.paths)

use Rattle.std.proofs.Common.{ℕ, List, inl, inr, refl, sym, subst}
use Rattle.checkout_engine.specs.Rehearsed.{IsSummed}
use Rattle.checkout_engine.proofs.rehearsed.show_rehearsal.Goals as goal

pub returns-in_default : goal.returns-in_default
returns-in_default g c = inr (refl, refl)

pub returns : goal.returns
returns g c = inl (c.as_bytes.result.now, subst (λ (bytes : List ℕ). IsSummed c.args.seed c.args.paths bytes) (sym c.as_bytes.ensures.value) c.in-Ok.ensures, c.say.ensures)

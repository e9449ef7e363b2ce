use Rattle.std.proofs.Common.{◌≡◌, ◌≤◌, ℕ, List, Option, Some, None, replicate, refl, sym, ap, subst, ◌∙◌, arith}
use Rattle.std.specs.Prelude.{slice_get}
use Rattle.clean_drivers.specs.CleanLines.{CleanLineView, starts_of}
use Rattle.clean_drivers.proofs.Places.{no_line}
use Rattle.clean_drivers.proofs.drivers.CleanDrivers.new.Goals as goal

pub invariant_of-result : goal.invariant_of-result
invariant_of-result g c =
    subst (λ (l : List (Option CleanLineView)). (place : ℕ) (line : CleanLineView) → slice_get l place ≡ Some (Some line) → starts_of line ≤ 0)
    (sym c.loop.invariant) (no_line c.loop.counter)

pub returns : goal.returns
returns g c =
    let all : c.loop.counter ≡ c.args.count = omega (arith, c.loop.auto.counter-end, c.loop-test.false) in
    (c.loop.invariant ∙ ap (λ (n : ℕ). replicate {A = Option CleanLineView} n None) all, refl)

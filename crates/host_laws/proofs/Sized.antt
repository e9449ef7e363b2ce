-- The paths of a talk are those of a plan that was read, so requests have a path and a name of the sizes that they may have.
use Rattle.std.proofs.Common.{◌≡◌, ◌≤◌, ◌∙◌, ℕ, zero, suc, Bool, true, List, [], ◌∷◌, length, Some, sym, ap, subst, arith}
use Rattle.std.specs.Prelude.{slice_get}
use Rattle.std.specs.List.{AllByRecursion}
use Rattle.std.proofs.lemmas.Bool.{eqb-true}
use Rattle.std.proofs.lemmas.Option.{same_Some}
use Rattle.hex.specs.Hex.{lower_digits}
use Rattle.hex.proofs.HexLemmas.{length-encode_with}
use Rattle.edge_kit.specs.Told.{Told}
use Rattle.checkout_core.specs.States.{is_at}
use Rattle.checkout_core.specs.declared.path.Start.{Start}
use Rattle.checkout_core.specs.declared.path.Start.TheVariants as start
use Rattle.checkout_core.specs.declared.verdict.Verdict.{Verdict}
use Rattle.checkout_plan.specs.declared.path_plan.PathPlan.{PathPlan}
use Rattle.checkout_paths.specs.Cards.{IsText, IsTextIn}
use Rattle.checkout_engine.specs.PlannedPaths.{AreSized}
use Rattle.checkout_paths.specs.Talks.{DriverTalk, IsOverPaths}
use Rattle.host_laws.specs.HostTalks.{ArePaths}

all_at : {X : Type 0} (P : X → Type 0) (xs : List X) (n : ℕ) (x : X) → AllByRecursion P xs → slice_get xs n ≡ Some x → P x
all_at P [] n x all at = absurd cc
all_at P (y ∷ ys) zero x all at = subst P (same_Some y x at) all.0
all_at P (y ∷ ys) (suc n) x all at = all_at P ys n x all.1 at

pub desk_of : (d : ℕ) (s : Start) → is_at d s ≡ true → (required : Bool) × (s ≡ start.Desk d required)
desk_of d (start.Desk e required) is = (required, ap (λ (k : ℕ). start.Desk k required) (sym (eqb-true d e is)))
desk_of d start.Pool is = absurd cc
desk_of d (start.Done v) is = absurd cc

pub are_paths : (object : List ℕ → Told) (ps : List PathPlan) (vs : List Verdict) (d : ℕ) (t : DriverTalk)
    → IsOverPaths object ps vs d t → AreSized ps → ArePaths t.paths t.asked
are_paths object ps vs d t over sized n is =
    let at = over.each n is in
    let desk = desk_of d at.0.start at.2 in
    let text : IsText at.0.path = subst (λ (s : Start). IsTextIn s at.0.path) desk.1 (all_at (λ p. IsTextIn p.start p.path) ps n at.0 sized.texts at.1) in
    let twenty : length (t.paths.name n) ≡ 20 = ap (λ name. length name) at.4 ∙ all_at (λ p. length p.object ≡ 20) ps n at.0 sized.names at.1 in
    let two = length-encode_with lower_digits (t.paths.name n) in
    record {
      some = subst (λ (s : List ℕ). 1 ≤ length s) (sym at.3) (omega (arith, text.some));
      long = subst (λ (s : List ℕ). length s ≤ 4096) (sym at.3) text.within;
      digits = omega (arith, two, twenty);
    }

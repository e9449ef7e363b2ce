-- The seeds of drivers, with one driver more.
use Rattle.std.proofs.Common.{◌≡◌, ℕ, zero, suc, ◌+◌, ◌<◌, List, [], ◌∷◌, ◌++◌, length, get_or, take, refl, sym, ap, ◌∙◌, subst, arith}
use Rattle.std.specs.List.{AllByRecursion}
use Rattle.std.proofs.lemmas.List.{take_more, length-take}
use Rattle.edge_kit.specs.Told.{Told}
use Rattle.edge_kit.specs.Starters.{Starts, StarterSeen, new_starter}
use Rattle.settings_view.specs.declared.view.Driver.{Driver}
use Rattle.convert_plan.specs.declared.card.Card.{Card}
use Rattle.checkout_book.specs.Sights.{Sight}
use Rattle.checkout_book.specs.Reserving.{AreNew}
use Rattle.checkout_plan.specs.declared.path_plan.PathPlan.{PathPlan}
use Rattle.writer_pool.specs.declared.pooled.DeskSeed.{DeskSeed}
use Rattle.checkout_paths.specs.Dealing.{IsIdle, AreIdle, IsSeedFor, AreSeedsFor}

-- a new starter has started nothing
pub new_idle : (s : StarterSeen) (command : List ℕ) (ahead : Starts) → s ≡ new_starter command ahead → IsIdle s
new_idle s command ahead is = subst IsIdle (sym is) refl

module _ {S B L : Type 0} (starter : S → StarterSeen) where
  pub idle_more : (xs : List (DeskSeed S B L)) (x : DeskSeed S B L) → AreIdle starter xs → IsIdle (starter x.starter) → AreIdle starter (xs ++ x ∷ [])
  idle_more [] x all one = (one, tt)
  idle_more (y ∷ ys) x all one = (all.0, idle_more ys x all.1 one)

module _ {S B L : Type 0} (starter : S → StarterSeen) (see : Sight B L) (ahead : List ℕ → Starts) (object : List ℕ → Told) (paths : List PathPlan) where
  seeds_more : (d : ℕ) (xs : List Driver) (seeds : List (DeskSeed S B L)) (x : Driver) (seed : DeskSeed S B L) → AreSeedsFor starter see ahead object paths d xs seeds
      → IsSeedFor starter see ahead object paths (d + length xs) x seed → AreSeedsFor starter see ahead object paths d (xs ++ x ∷ []) (seeds ++ seed ∷ [])
  seeds_more d [] [] x seed all one = let same : ◌≡◌ {A = ℕ} (d + length {A = Driver} []) d = omega arith in (subst (λ (k : ℕ). IsSeedFor starter see ahead object paths k x seed) same one, tt)
  seeds_more d [] (s ∷ ss) x seed all one = absurd all
  seeds_more d (y ∷ ys) [] x seed all one = absurd all
  seeds_more d (y ∷ ys) (s ∷ ss) x seed all one =
      let same : ◌≡◌ {A = ℕ} (d + length (y ∷ ys)) (suc d + length ys) = omega arith in
      (all.0, seeds_more (suc d) ys ss x seed all.1 (subst (λ (k : ℕ). IsSeedFor starter see ahead object paths k x seed) same one))

  -- the seeds of the drivers up to a place, with that of the next one
  pub step_seed : (drivers : List Driver) (n : ℕ) (x : Driver) (seeds more : List (DeskSeed S B L)) (seed : DeskSeed S B L) → n < length drivers → x ≡ get_or drivers n x
      → AreSeedsFor starter see ahead object paths 0 (take n drivers) seeds → IsSeedFor starter see ahead object paths n x seed → more ≡ seeds ++ seed ∷ []
      → AreSeedsFor starter see ahead object paths 0 (take (n + 1) drivers) more
  step_seed drivers n x seeds more seed lt at all one is =
      let count : n ≡ 0 + length (take n drivers) = omega (arith, length-take n drivers, lt) in
      let next : take (n + 1) drivers ≡ take n drivers ++ x ∷ [] = take_more drivers n x lt ∙ ap (λ (y : Driver). take n drivers ++ y ∷ []) (sym at) in
      subst (λ (l : List (DeskSeed S B L)). AreSeedsFor starter see ahead object paths 0 (take (n + 1) drivers) l) (sym is)
      (subst (λ (l : List Driver). AreSeedsFor starter see ahead object paths 0 l (seeds ++ seed ∷ [])) (sym next)
      (seeds_more 0 (take n drivers) seeds x seed all (subst (λ (k : ℕ). IsSeedFor starter see ahead object paths k x seed) count one)))

-- new cards, and then more
pub new_then : {B L : Type 0} (see : Sight B L) (xs ys : List (Card B L)) → AreNew see xs → AreNew see ys → AreNew see (xs ++ ys)
new_then see [] ys first second = second
new_then {B} {L} see (x ∷ xs) ys first second = both (new_then see xs ys (λ k c at. first (suc k) c at) second)
  where
    both : AreNew see (xs ++ ys) → AreNew see (x ∷ (xs ++ ys))
    both rest zero c at = first zero c at
    both rest (suc k) c at = rest k c at

-- an element at a place has what all have
pub all_at : {X : Type 0} (P : X → Type 0) (xs : List X) (n : ℕ) (x : X) → AllByRecursion P xs → n < length xs → x ≡ get_or xs n x → P x
all_at P [] n x all lt at = absurd (omega (arith, lt))
all_at P (y ∷ ys) zero x all lt at = subst P (sym at) all.0
all_at P (y ∷ ys) (suc n) x all lt at = all_at P ys n x all.1 (omega (arith, lt)) at

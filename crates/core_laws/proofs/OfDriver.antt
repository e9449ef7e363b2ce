-- The driver whose notes a path's are.
use Rattle.std.proofs.Common.{◌≡◌, ℕ, Bool, false, List, Option, Some, None, refl, ap, ◌∙◌}
use Rattle.std.specs.Prelude.{slice_get}
use Rattle.checkout_core.specs.declared.path.Start.{Start}
use Rattle.checkout_core.specs.declared.path.Start.TheVariants.{Pool, Desk, Done}
use Rattle.checkout_core.specs.States.{is_at}
use Rattle.checkout_core.specs.Actors.{own_driver, driver_at, is_actor}

-- the notes of the path are the driver's
abbrev pub is_of : List Start → ℕ → ℕ → Bool
is_of starts d p = is_actor d (driver_at starts p)

pub at_desk : (d : ℕ) (s : Start) → is_actor d (own_driver s) ≡ is_at d s
at_desk d (Desk e required) = refl
at_desk d Pool = refl
at_desk d (Done v) = refl

-- where the path's start is this
pub is_of_get : (starts : List Start) (d q : ℕ) (o : Option Start) → slice_get starts q ≡ o
    → is_of starts d q ≡ elim o as (λ _. Bool) [ None ↦ false | Some s ↦ is_at d s ]
is_of_get starts d q o e =
    ap (λ (o : Option Start). is_actor d (elim o as (λ _. Option ℕ) [ None ↦ None | Some s ↦ own_driver s ])) e ∙ go o
  where
    go : (o : Option Start) → is_actor d (elim o as (λ _. Option ℕ) [ None ↦ None | Some s ↦ own_driver s ])
        ≡ elim o as (λ _. Bool) [ None ↦ false | Some s ↦ is_at d s ]
    go None = refl
    go (Some s) = at_desk d s

pub is_of_is : (starts : List Start) (d q : ℕ) (s : Start) → slice_get starts q ≡ Some s
    → is_of starts d q ≡ is_at d s
is_of_is starts d q s e = is_of_get starts d q (Some s) e

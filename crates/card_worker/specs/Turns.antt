-- What a worker does, as its own events tell: it claims paths, and closes them in the order of its claims.
use Rattle.std.specs.Prelude.{◌≡◌, ◌⊎◌, ◌<◌, ℕ, List, [], ◌∷◌, ◌++◌, length}
use Rattle.checkout_core.specs.declared.event.Event.{Event}
use Rattle.checkout_core.specs.declared.event.Event.TheVariants.{Claim, Close}
use Rattle.checkout_core.specs.declared.verdict.Own.{Own}

-- the claims whose paths are in hand, in order; one more is added, and then at most 64 are in hand
abbrev pub IsClaimStep : List Event → Event → List Event → Type 0
IsClaimStep t e u = (p : ℕ) × (a : ℕ) × (e ≡ Claim p a) × (length t < 64) × (u ≡ t ++ e ∷ [])

-- the path that was claimed first is closed
abbrev pub IsCloseStep : List Event → Event → List Event → Type 0
IsCloseStep t e u = (p : ℕ) × (a : ℕ) × (o : Own) × (e ≡ Close p a o) × (t ≡ Claim p a ∷ u)

abbrev pub TurnStep : List Event → Event → List Event → Type 0
TurnStep t e u = IsClaimStep t e u ⊎ IsCloseStep t e u

abbrev pub TurnSteps : List Event → List Event → List Event → Type 0
TurnSteps t [] u = t ≡ u
TurnSteps t (e ∷ es) u = (m : List Event) × TurnStep t e m × TurnSteps m es u

-- up to 64 paths are in hand at a time, each is closed in the order of the claims, and none is left
abbrev pub AreTurns : List Event → Type 0
AreTurns es = TurnSteps [] es []

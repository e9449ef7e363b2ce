-- The steps of the core.
use Rattle.std.specs.Prelude.{◌≡◌, ℕ, List, [], ◌∷◌, take, Option, Some, None, slice_get}
use Rattle.checkout_core.specs.declared.effect.Effect.{Effect}
use Rattle.checkout_core.specs.declared.event.Event.{Event}
use Rattle.checkout_core.specs.declared.path.Start.{Start}
use Rattle.checkout_core.specs.States.{Core, start}
use Rattle.checkout_core.specs.Effects.{after}
use Rattle.checkout_core.specs.Conditions.{effect_of}

-- the next state, if the event is a step
abbrev pub done : Core → Option Effect → Option Core
done c None = None
done c (Some m) = Some (after c m)

abbrev pub step_of : Core → Event → Option Core
step_of c e = done c (effect_of c e)

-- the state after a history, if each event is a step
abbrev pub replay : Core → List Event → Option Core
replay c [] = Some c
replay c (e ∷ es) = elim (step_of c e) [ None ↦ None | Some d ↦ replay d es ]

-- the event at this place is the first that isn't a step, and x is the state before it
abbrev pub StopsAt : Core → List Event → Core → ℕ → Type 0
StopsAt c es x n = (replay c (take n es) ≡ Some x) × (e : Event) × (slice_get es n ≡ Some e) × (step_of x e ≡ None)

-- the history is legal: each event is a step, and c is the state after the last
abbrev pub IsLegal : List Start → ℕ → ℕ → List Event → Core → Type 0
IsLegal starts workers drivers history c = replay (start starts workers drivers) history ≡ Some c

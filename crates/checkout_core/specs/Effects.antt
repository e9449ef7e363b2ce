-- What a step changes: a path gets a new state, or a driver does and its delayed and named paths with it.
use Rattle.std.specs.Prelude.{◌==◌, ℕ, zero, suc, cond, List, [], ◌∷◌}
use Rattle.checkout_core.specs.declared.path.Heard.TheVariants as heard
use Rattle.checkout_core.specs.declared.path.PathState.{PathState}
use Rattle.checkout_core.specs.declared.path.PathState.TheVariants as path
use Rattle.checkout_core.specs.declared.path.PathState.TheVariants.{Waiting, Held, Unasked, Closed}
use Rattle.checkout_core.specs.declared.path.Path.{Path}
use Rattle.checkout_core.specs.declared.driver.DriverState.{DriverState}
use Rattle.checkout_core.specs.declared.effect.Sweep.{Sweep}
use Rattle.checkout_core.specs.declared.effect.Sweep.TheVariants.{Keep, Lose, OutOfMemory}
use Rattle.checkout_core.specs.declared.effect.Effect.{Effect}
use Rattle.checkout_core.specs.declared.effect.Effect.TheVariants.{Moves, Switches, Both}
use Rattle.checkout_core.specs.States.{Core, is_at, with_state}

-- what a path that was delayed or named becomes if its session ends like this
abbrev pub ended : Sweep → PathState → PathState
ended Keep s = s
ended Lose s = path.Heard heard.Lost
ended OutOfMemory s = path.Heard heard.OutOfMemory

abbrev pub swept : Sweep → PathState → PathState
swept w path.Delayed = ended w path.Delayed
swept w (path.Named t) = ended w (path.Named t)
swept w s = s

-- a path, as the end of the session of the driver d leaves it
abbrev pub swept_path : ℕ → Sweep → Path → Path
swept_path d w r = with_state r (cond (is_at d r.start) (swept w r.state) r.state)

-- one path after the effect
abbrev pub path_after : Effect → ℕ → Path → Path
path_after (Moves p s) q r = with_state r (cond (q == p) s r.state)
path_after (Switches d s w) q r = swept_path d w r
path_after (Both p s d t w) q r = cond (q == p) (with_state r s) (swept_path d w r)

-- one driver after the effect
abbrev pub driver_after : Effect → ℕ → DriverState → DriverState
driver_after (Moves p s) e x = x
driver_after (Switches d s w) e x = cond (e == d) s x
driver_after (Both p s d t w) e x = cond (e == d) t x

-- each item, by its place
abbrev pub each : {A : Type 0} → (ℕ → A → A) → List A → List A
each f [] = []
each f (x ∷ xs) = f zero x ∷ each (λ i. f (suc i)) xs

-- the state after the effect
abbrev pub after : Core → Effect → Core
after c m = record {
  workers = c.workers;
  drivers = each (driver_after m) c.drivers;
  paths =
      each (path_after m) c.paths;
}

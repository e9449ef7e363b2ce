-- A path of a driver, as one value.
use Rattle.std.specs.Prelude.{◌≡◌, ◌==◌, ◌+◌, ℕ, Bool, true, cond, Option, Some, None, slice_get}
use Rattle.checkout_core.specs.declared.path.Path.{Path}
use Rattle.checkout_core.specs.declared.path.Start.TheVariants.{Desk}
use Rattle.checkout_core.specs.declared.driver.DriverState.{DriverState}
use Rattle.checkout_core.specs.declared.driver_path.DriverPath.{DriverPath}
use Rattle.checkout_core.specs.declared.effect.Effect.{Effect}
use Rattle.checkout_core.specs.States.{Core}
use Rattle.checkout_core.specs.Conditions.{at_both}

-- it is at the place p of the state c
pub record IsDriverPath (c : Core) (p : ℕ) (k : DriverPath) : Type 0 where
  pub there : slice_get c.paths p ≡ Some k.path
  pub begun : k.path.start ≡ Desk k.driver k.required
  pub seated : slice_get c.drivers k.driver ≡ Some k.state

-- no path of a driver is there
abbrev pub LacksDriverPath : Core → ℕ → Type 0
LacksDriverPath c p = (f : Path → ℕ → Bool → DriverState → Option Effect) → at_both c p f ≡ None

-- the actor a is the desk of its driver
pub record IsDesk (c : Core) (p a : ℕ) (k : DriverPath) : Type 0 where
  pub driver_path : IsDriverPath c p k
  pub mine : (a == c.workers + k.driver) ≡ true

-- no path is there whose desk is a
abbrev pub LacksDesk : Core → ℕ → ℕ → Type 0
LacksDesk c p a = (f : Path → ℕ → Bool → DriverState → Option Effect)
    → at_both c p (λ r d required x. cond (a == c.workers + d) (f r d required x) None) ≡ None

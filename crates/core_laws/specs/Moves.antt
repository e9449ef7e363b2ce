-- What a step moves.
use Rattle.std.specs.Prelude.{◌≡◌, ◌⊎◌, ℕ, Bool, true, false, Option, Some, None, slice_get, slice_set}
use Rattle.checkout_core.specs.declared.path.Path.{Path}
use Rattle.checkout_core.specs.declared.path.PathState.{PathState}
use Rattle.checkout_core.specs.declared.path.PathState.TheVariants as path
use Rattle.checkout_core.specs.declared.path.PathState.TheVariants.{Unasked}
use Rattle.checkout_core.specs.States.{Core, with_state}

-- one path went from the one state to the other, and nothing else changed
pub record Moved (c x : Core) (p : ℕ) (s t : PathState) : Type 0 where
  pub row : Path
  pub there : slice_get c.paths p ≡ Some row
  pub was : row.state ≡ s
  pub same : x ≡ record c { paths = slice_set c.paths p (with_state row t) }

-- the path is with its driver
abbrev pub is_with_driver : PathState → Bool
is_with_driver Unasked = true
is_with_driver path.Delayed = true
is_with_driver (path.Named t) = true
is_with_driver (path.Heard h) = true
is_with_driver s = false

-- a path stays as it is, or it was and is with its driver
abbrev pub StaysOr : PathState → PathState → Type 0
StaysOr s t = (t ≡ s) ⊎ ((is_with_driver s ≡ true) × (is_with_driver t ≡ true))

abbrev pub RowStays : Option Path → Option Path → Type 0
RowStays None None = Unit {0}
RowStays (Some r) (Some s) = (s.start ≡ r.start) × StaysOr r.state s.state
RowStays None (Some s) = ⊥
RowStays (Some r) None = ⊥

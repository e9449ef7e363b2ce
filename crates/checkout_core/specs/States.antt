-- The state of the core: the drivers, and each path with how it began.
use Rattle.std.specs.Prelude.{◌≡◌, ◌==◌, ◌&&◌, ◌<◌, ℕ, zero, suc, ◌+◌, nat_lt, Bool, true, false, not, cond, List, []}
use Rattle.std.specs.Prelude.{◌∷◌, map, take, Option, Some, None, slice_get}
use Rattle.checkout_core.specs.declared.verdict.Verdict.{Verdict}
use Rattle.checkout_core.specs.declared.path.PathState.{PathState}
use Rattle.checkout_core.specs.declared.path.PathState.TheVariants as path
use Rattle.checkout_core.specs.declared.path.PathState.TheVariants.{Waiting, Held, Unasked, Closed}
use Rattle.checkout_core.specs.declared.path.Start.{Start}
use Rattle.checkout_core.specs.declared.path.Start.TheVariants.{Pool, Desk, Done}
use Rattle.checkout_core.specs.declared.path.Path.{Path}
use Rattle.checkout_core.specs.declared.driver.DriverState.{DriverState}
use Rattle.checkout_core.specs.declared.driver.DriverState.TheVariants as driver

-- worker w is actor w, and the desk of driver d is actor `workers + d`
pub record Core : Type 0 where
  pub workers : ℕ
  pub drivers : List DriverState
  pub paths : List Path

-- the path is one of the driver d's
abbrev pub is_at : ℕ → Start → Bool
is_at d (Desk e required) = d == e
is_at d _ = false

abbrev pub is_unasked : PathState → Bool
is_unasked Unasked = true
is_unasked _ = false

abbrev pub is_delayed : PathState → Bool
is_delayed path.Delayed = true
is_delayed _ = false

abbrev pub is_named : PathState → Bool
is_named (path.Named t) = true
is_named _ = false

-- it is named at a turn below n
abbrev pub is_named_below : ℕ → PathState → Bool
is_named_below n (path.Named t) = nat_lt t n
is_named_below n _ = false

-- the path has its verdict
abbrev pub is_closed : PathState → Bool
is_closed (Closed v) = true
is_closed s = false

-- no path of the driver passes the test
abbrev pub none_of : ℕ → (PathState → Bool) → List Path → Bool
none_of d f [] = true
none_of d f (r ∷ rs) = not (is_at d r.start && f r.state) && none_of d f rs

-- no path of the driver below p is unasked
abbrev pub none_below : Core → ℕ → ℕ → Bool
none_below c d p = none_of d is_unasked (take p c.paths)

-- how many paths of the driver pass the test
abbrev pub path_count : ℕ → (PathState → Bool) → List Path → ℕ
path_count d f [] = 0
path_count d f (r ∷ rs) = cond (is_at d r.start && f r.state) 1 0 + path_count d f rs

-- how many paths of the driver are listed and were not asked for again
abbrev pub named_count : ℕ → List Path → ℕ
named_count d rs = path_count d is_named rs

abbrev pub add_one : Option ℕ → Option ℕ
add_one None = None
add_one (Some n) = Some (suc n)

-- the lowest path of the driver that is unasked
abbrev pub lowest_unasked : ℕ → List Path → Option ℕ
lowest_unasked d [] = None
lowest_unasked d (r ∷ rs) = cond (is_at d r.start && is_unasked r.state) (Some zero) (add_one (lowest_unasked d rs))

-- how many paths aren't closed
abbrev pub unclosed_count : List Path → ℕ
unclosed_count [] = 0
unclosed_count (r ∷ rs) = cond (is_closed r.state) 0 1 + unclosed_count rs

-- the verdict of a closed path
abbrev pub verdict_of : PathState → Option Verdict
verdict_of (Closed v) = Some v
verdict_of _ = None

abbrev pub verdict_at : Core → ℕ → Option Verdict
verdict_at c p = elim (slice_get c.paths p) [ None ↦ None | Some r ↦ verdict_of r.state ]

abbrev pub with_state : Path → PathState → Path
with_state r s = record { start = r.start; state = s }

-- a path as it begins
abbrev pub begins : Start → PathState
begins Pool = Waiting None
begins (Desk d required) = Unasked
begins (Done v) = Closed v

abbrev pub path_of : Start → Path
path_of s = record { start = s; state = begins s }

abbrev pub offs : ℕ → List DriverState
offs zero = []
offs (suc n) = driver.Off ∷ offs n

-- the state before any event
abbrev pub start : List Start → ℕ → ℕ → Core
start starts workers drivers = record { workers = workers; drivers = offs drivers; paths = map path_of starts }

-- each driver that a start names is below this number
abbrev pub AreBelow : ℕ → List Start → Type 0
AreBelow drivers starts = (p : ℕ) (d : ℕ) (required : Bool) → slice_get starts p ≡ Some (Desk d required) → d < drivers

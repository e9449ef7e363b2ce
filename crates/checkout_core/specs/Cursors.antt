-- What is kept of each driver's paths beside them, so that a step doesn't have to look at all of them.
use Rattle.std.specs.Prelude.{◌≡◌, ◌==◌, ◌&&◌, ◌||◌, ◌<◌, ◌≤◌, ◌^◌, ℕ, ◌+◌, nat_lt, nat_le, min, max, ◌-◌, map, Bool}
use Rattle.std.specs.Prelude.{true, false, not, cond, List, length, Some, slice_get}
use Rattle.checkout_core.specs.declared.path.PathState.{PathState}
use Rattle.checkout_core.specs.declared.path.PathState.TheVariants as path
use Rattle.checkout_core.specs.declared.path.PathState.TheVariants.{Unasked}
use Rattle.checkout_core.specs.declared.path.Path.{Path}
use Rattle.checkout_core.specs.declared.driver.DriverState.{DriverState}
use Rattle.checkout_core.specs.declared.driver.DriverState.TheVariants as driver
use Rattle.checkout_core.specs.declared.cursor.Cursor.{Cursor}
use Rattle.checkout_core.specs.declared.effect.Effect.{Effect}
use Rattle.checkout_core.specs.declared.effect.Effect.TheVariants.{Moves, Switches, Both}
use Rattle.checkout_core.specs.declared.effect.Sweep.{Sweep}
use Rattle.checkout_core.specs.States.{Core, is_at, is_unasked, is_named_below, is_closed, none_of, path_count}
use Rattle.checkout_core.specs.States.{named_count, unclosed_count}
use Rattle.checkout_core.specs.Effects.{swept, swept_path}

abbrev pub is_pending : PathState → Bool
is_pending path.Delayed = true
is_pending (path.Named t) = true
is_pending s = false

abbrev pub is_named_at : ℕ → PathState → Bool
is_named_at t (path.Named u) = t == u
is_named_at t s = false

abbrev pub is_noting_list : DriverState → Bool
is_noting_list (driver.On s) = s.noting_list
is_noting_list x = false

-- the driver d still has to be asked for the path
abbrev pub asks : ℕ → Path → Bool
asks d r = is_at d r.start && is_unasked r.state

abbrev pub HoldsAt : (Path → Bool) → List Path → ℕ → Type 0
HoldsAt f paths p = (r : Path) × (slice_get paths p ≡ Some r) × (f r ≡ true)

-- the path p of the driver d is named at this turn
abbrev pub NamedThere : Core → ℕ → ℕ → ℕ → Type 0
NamedThere c p d t = (r : Path) × (slice_get c.paths p ≡ Some r) × (is_at d r.start ≡ true) × (r.state ≡ path.Named t)

-- the driver's delayed and named paths are from `first` on, before `end`
abbrev pub IsWithin : List Path → ℕ → ℕ → ℕ → Type 0
IsWithin paths d first end = (p : ℕ) (r : Path) → slice_get paths p ≡ Some r → is_at d r.start ≡ true
    → is_pending r.state ≡ true → (first ≤ p) × (p < end)

-- the cursor of the driver d follows its paths
pub record Follows (paths : List Path) (noting_list : Bool) (d : ℕ) (k : Cursor) : Type 0 where
  -- no path below this one is unasked
  pub unasked : (p : ℕ) (r : Path) → slice_get paths p ≡ Some r → is_at d r.start ≡ true → is_unasked r.state ≡ true
      → k.unasked ≤ p
  pub unasked_fits : k.unasked ≤ length paths
  pub pending : IsWithin paths d k.first k.end
  pub end_fits : k.end ≤ length paths
  pub named : named_count d paths ≡ k.named
  -- one path is named at each turn from `turn` on
  pub turns : (t : ℕ) → path_count d (is_named_at t) paths ≡ cond (nat_le k.turn t && nat_lt t (k.turn + k.named)) 1 0
  pub turn_fits : k.turn + k.named ≤ length paths
  -- turns begin with 0 in each list
  pub begins : noting_list ≡ true → k.turn ≡ 0

abbrev pub IsCursor : Core → ℕ → Cursor → Type 0
IsCursor c d k = (x : DriverState) × (slice_get c.drivers d ≡ Some x) × Follows c.paths (is_noting_list x) d k

-- the cursors of all drivers follow their paths
pub record AllFollow (paths : List Path) (drivers : List DriverState) (cursors : List Cursor) : Type 0 where
  pub same_length : length cursors ≡ length drivers
  pub follow : (d : ℕ) (x : DriverState) (k : Cursor) → slice_get drivers d ≡ Some x → slice_get cursors d ≡ Some k
      → Follows paths (is_noting_list x) d k

pub record IsSound (workers : ℕ) (paths : List Path) (drivers : List DriverState) (cursors : List Cursor) (unclosed : ℕ)
    : Type 0 where
  pub few_workers : workers ≤ 16
  pub few_drivers : length drivers ≤ 16
  pub few_paths : length paths < 2 ^ 32
  pub cursors_follow : AllFollow paths drivers cursors
  pub unclosed_is : unclosed_count paths ≡ unclosed

-- a path that changes outside of lists
abbrev pub settles : PathState → PathState → Bool
settles was s = not (is_pending was || is_closed was) && not (is_pending s || is_unasked s)

-- a path of a driver on its way through the driver's lists: `n` are named, and `is_next` is the test of the lowest turn
abbrev pub advances : ℕ → Bool → Bool → (ℕ → Bool) → PathState → PathState → Bool
advances n old new is_next Unasked path.Delayed = not new || old
advances n old new is_next Unasked (path.Heard h) = not new || old
advances n old new is_next path.Delayed (path.Named t) = t == n && (old || n == 0)
advances n old new is_next (path.Named t) (path.Heard h) = is_next t && not new
advances n old new is_next _ _ = false

-- an effect that the cursors can follow
abbrev pub IsFollowable : Core → Effect → Type 0
IsFollowable c (Moves p s) = (r : Path) × (slice_get c.paths p ≡ Some r) × (settles r.state s ≡ true)
IsFollowable c (Switches d t w) = (x : DriverState) × (slice_get c.drivers d ≡ Some x) × (is_noting_list t ≡ false)
IsFollowable c (Both p s d t w) = (r : Path) × (x : DriverState) × (slice_get c.paths p ≡ Some r)
    × (is_at d r.start ≡ true) × (slice_get c.drivers d ≡ Some x) × (swept w s ≡ s)
    × (advances (named_count d c.paths) (is_noting_list x) (is_noting_list t)
    (λ u. none_of d (is_named_below u) c.paths) r.state s ≡ true)

-- the cursor after one of the driver's paths advanced
abbrev pub delayed_after : Cursor → ℕ → Cursor
delayed_after k p = cond (nat_lt k.first k.end)
    (record { unasked = k.unasked; first = min k.first p; end = max k.end (p + 1); named = k.named; turn = k.turn })
    (record { unasked = k.unasked; first = p; end = p + 1; named = k.named; turn = k.turn })

abbrev pub named_after : Cursor → Cursor
named_after k = record { unasked = k.unasked; first = k.first; end = k.end; named = k.named + 1; turn = 0 }

abbrev pub redone_after : Cursor → Cursor
redone_after k = record { unasked = k.unasked; first = k.first; end = k.end; named = k.named - 1; turn = k.turn + 1 }

abbrev pub cursor_after : Cursor → ℕ → PathState → PathState → Cursor
cursor_after k p Unasked path.Delayed = delayed_after k p
cursor_after k p path.Delayed (path.Named t) = named_after k
cursor_after k p (path.Named t) (path.Heard h) = redone_after k
cursor_after k p _ _ = k

-- the cursor can follow within its numbers
abbrev pub CanFollow : Cursor → ℕ → PathState → PathState → Type 0
CanFollow k p Unasked path.Delayed = p + 1 < 2 ^ 32
CanFollow k p path.Delayed (path.Named t) = k.named + 1 < 2 ^ 32
CanFollow k p (path.Named t) (path.Heard h) = (1 ≤ k.named) × (k.turn + 1 < 2 ^ 32)
CanFollow k p _ _ = Unit {0}

-- all paths of the driver are swept
abbrev pub swept_paths : ℕ → Sweep → List Path → List Path
swept_paths d w rs = map (λ r. swept_path d w r) rs

abbrev pub all_swept : ℕ → Sweep → Core → Core
all_swept d w c = record { workers = c.workers; drivers = c.drivers; paths = swept_paths d w c.paths }

-- the cursor of a driver that wasn't asked yet
abbrev pub new_cursor : Cursor
new_cursor = record { unasked = 0; first = 0; end = 0; named = 0; turn = 0 }

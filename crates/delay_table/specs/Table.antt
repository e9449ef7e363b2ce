-- A table of names: the state of each, and which the driver listed.
use Rattle.std.specs.Prelude.{◌≡◌, ◌<◌, ◌+◌, ℕ, Bool, true, false, cond, ◌==◌, List, [], ◌∷◌, length, map, slice_get}
use Rattle.std.specs.Prelude.{slice_set, slice_index_or, Option, Some}
use Rattle.std.specs.Ordering.{nat_cmp, is_lt}
use Rattle.std.specs.Cmp.Lexicographic.{slice_cmp}
use Rattle.delay_table.specs.declared.place.Place.{Place}
use Rattle.delay_table.specs.declared.place.Place.TheVariants.{Idle, Delayed, Listed}

-- `turns` are the listed places, in order of listing
pub record Table : Type 0 where
  pub names : List (List ℕ)
  pub places : List Place
  pub turns : List ℕ

-- whether the first name comes before the second, byte by byte
abbrev pub stands_before : List ℕ → List ℕ → Bool
stands_before m n = is_lt (slice_cmp nat_cmp m n)

-- each name comes before the next
abbrev pub IsRising : List (List ℕ) → Type 0
IsRising names = (k : ℕ) (d : List ℕ) → k + 1 < length names
    → stands_before (slice_index_or names k d) (slice_index_or names (k + 1) d) ≡ true

abbrev pub idle_table : List (List ℕ) → Table
idle_table names = record { names = names; places = map (λ n. Idle) names; turns = [] }

-- the same table, with another place p
abbrev pub with_place : ℕ → Place → Table → Table
with_place p place t = record t { places = slice_set t.places p place }

-- the place with this name is delayed
abbrev pub IsDelayed : List ℕ → Table → ℕ → Type 0
IsDelayed name t p = (slice_get t.names p ≡ Some name) × (slice_get t.places p ≡ Some Delayed)

abbrev pub is_listed : Option Place → Bool
is_listed (Some Listed) = true
is_listed p = false

abbrev pub is_pending : Option Place → Bool
is_pending (Some Delayed) = true
is_pending (Some Listed) = true
is_pending p = false

-- it is the lowest place that is delayed or listed
pub record IsLowest (t : Table) (p : ℕ) : Type 0 where
  pub pending : is_pending (slice_get t.places p) ≡ true
  pub below : (q : ℕ) → q < p → is_pending (slice_get t.places q) ≡ false

-- no place is delayed or listed
abbrev pub NoneIsPending : Table → Type 0
NoneIsPending t = (q : ℕ) → is_pending (slice_get t.places q) ≡ false

-- whether a list has the number
abbrev pub contains : ℕ → List ℕ → Bool
contains p [] = false
contains p (q ∷ qs) = cond (p == q) true (contains p qs)

abbrev pub without : ℕ → List ℕ → List ℕ
without p [] = []
without p (q ∷ qs) = cond (p == q) (without p qs) (q ∷ without p qs)

-- no number is there twice
abbrev pub AreApart : List ℕ → Type 0
AreApart [] = Unit {0}
AreApart (p ∷ ps) = (contains p ps ≡ false) × AreApart ps

-- The turns are the listed places, each once.
pub record AreListed (t : Table) : Type 0 where
  pub each : (p : ℕ) → contains p t.turns ≡ is_listed (slice_get t.places p)
  pub once : AreApart t.turns

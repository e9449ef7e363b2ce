-- What always holds of a table's fields.
use Rattle.std.specs.Prelude.{◌≡◌, ◌<◌, ◌≤◌, ◌+◌, ◌^◌, ℕ, false, List, [], ◌∷◌, drop, length, slice_get}
use Rattle.delay_table.specs.declared.place.Place.{Place}
use Rattle.delay_table.specs.declared.place.Place.TheVariants.{Idle, Delayed, Listed, Done}
use Rattle.delay_table.specs.Table.{IsRising, is_pending, contains, is_listed, AreApart}

-- the listed places that weren't delivered
abbrev pub turns_of : ℕ → List ℕ → List ℕ
turns_of delivered order = drop delivered order

-- how many places may still be listed
abbrev pub one_left : Place → ℕ
one_left Idle = 1
one_left Delayed = 1
one_left Listed = 0
one_left Done = 0

abbrev pub left_to_list : List Place → ℕ
left_to_list [] = 0
left_to_list (p ∷ ps) = one_left p + left_to_list ps

-- There is room for each place that may still be listed.
pub record IsKept (names : List (List ℕ)) (places : List Place) (order : List ℕ)
    (room delivered lowest : ℕ) : Type 0 where
  pub rising : IsRising names
  pub few : length names < 2 ^ 32
  pub same : length places ≡ length names
  pub fits : length order + left_to_list places ≤ room
  pub within : delivered ≤ length order
  pub low : lowest ≤ length places
  pub below : (q : ℕ) → q < lowest → is_pending (slice_get places q) ≡ false
  pub each : (p : ℕ) → contains p (turns_of delivered order) ≡ is_listed (slice_get places p)
  pub once : AreApart (turns_of delivered order)

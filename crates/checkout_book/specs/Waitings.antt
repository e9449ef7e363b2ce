-- Which paths wait: a flag for each.
use Rattle.std.specs.Prelude.{◌≡◌, ◌+◌, ◌<◌, ◌≤◌, ◌^◌, ℕ, zero, suc, Bool, true, false}
use Rattle.std.specs.Prelude.{List, [], ◌∷◌, Some, length, slice_get}
use Rattle.std.specs.List.{All, Contains}
use Rattle.std.specs.Ordering.{nat_cmp}
use Rattle.std.specs.BinaryHeap.{IsHeap}

-- no path below this one waits
abbrev pub NoneBelow : List Bool → ℕ → Type 0
NoneBelow flags n = (p : ℕ) (b : Bool) → p < n → slice_get flags p ≡ Some b → b ≡ false

-- no path waits
abbrev pub NoneIs : List Bool → Type 0
NoneIs flags = (p : ℕ) (b : Bool) → slice_get flags p ≡ Some b → b ≡ false

-- the lowest path that waits
abbrev pub IsLowest : List Bool → ℕ → Type 0
IsLowest flags p = (slice_get flags p ≡ Some true) × NoneBelow flags p

-- how many of the first n flags are set
abbrev pub set_below : ℕ → List Bool → ℕ
set_below zero flags = 0
set_below (suc n) [] = 0
set_below (suc n) (false ∷ flags) = set_below n flags
set_below (suc n) (true ∷ flags) = suc (set_below n flags)

-- Each path below `next` that waits is among those that came back. A path stands there as its distance to the highest
-- number of 32 bits. No more stand there than wait.
pub record IsKept (flags : List Bool) (next : ℕ) (returned : List ℕ) : Type 0 where
  pub few : length flags < 2 ^ 32
  pub looked : next ≤ length flags
  pub ordered : IsHeap nat_cmp returned
  pub below : All (λ k. (k ≤ 4294967295) × (4294967295 < k + next)) returned
  pub counted : length returned ≤ set_below next flags
  pub all : (p k : ℕ) → p < next → p + k ≡ 4294967295 → slice_get flags p ≡ Some true → Contains returned k

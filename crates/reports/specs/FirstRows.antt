-- The first rows of a report as a text.
use Rattle.std.specs.Prelude.{◌≡◌, ℕ, ◌+◌, ◌≤◌, List, ◌++◌, length, take, Some, slice_get}
use Rattle.reports.specs.Written.{joined}

-- The first rows are a first part of all rows. One row more stands behind them.
pub record FirstRows : Type 0 where
  pub within : (rows : List (List ℕ)) (n : ℕ) → length (joined (take n rows)) ≤ length (joined rows)
  pub part : (rows : List (List ℕ)) (n : ℕ) → joined (take n rows) ≡ take (length (joined (take n rows))) (joined rows)
  pub more : (rows : List (List ℕ)) (k : ℕ) (row : List ℕ) → slice_get rows k ≡ Some row
      → joined (take (k + 1) rows) ≡ joined (take k rows) ++ row

-- What the place of a leaf names.
use Rattle.std.specs.Prelude.{ℕ, ◌+◌, ◌==◌, if◌then◌else◌, List, [], drop}

-- the path from the worktree's folder, and the path to open
pub record LeafAt : Type 0 where
  pub path : List ℕ
  pub full : List ℕ

-- In a text whose first bytes name the folder, the path stands behind them and a slash. Nothing is opened in a folder
-- without a name.
abbrev pub leaf_at : ℕ → List ℕ → LeafAt
leaf_at top text = record { path = drop (top + 1) text; full = if top == 0 then [] else text }

-- The words that `checkin` gets.
use Rattle.std.specs.Prelude.{ℕ, List, [], ◌∷◌, codes}

-- the git folder, the worktree's folder and `checkin`
abbrev pub checkin_words : List ℕ → List ℕ → List (List ℕ)
checkin_words git_dir tree = git_dir ∷ tree ∷ codes "checkin" ∷ []

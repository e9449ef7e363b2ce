-- The paths of stage 0 that the last one begins with, as a stack, the longest last.
use Rattle.std.specs.Prelude.{◌≡◌, ℕ, ◌-◌, Bool, true, false, ◌&&◌, not, nat_eq, nat_lt, List, [], ◌∷◌, ◌++◌}
use Rattle.std.specs.Prelude.{length, map, slice_get, slice_index, MatchOption, ◌==◌}
use Rattle.std.specs.List.{list_all, list_any, starts_with}
use Rattle.git_index.specs.declared.entry.Entry.{Entry}
use Rattle.git_index.specs.Spelling.{pairwise, is_before, is_below, is_in_folder, is_folder_of}
use Rattle.git_index.specs.Reading.{path_or_none}
use Rattle.byte_path.specs.Characters.{slash}

abbrev pub path_at : List Entry → ℕ → List ℕ
path_at es number = path_or_none (slice_get es number)

-- the paths of entries by their numbers
abbrev pub paths : List Entry → List ℕ → List (List ℕ)
paths es = map (path_at es)

-- each is the number of an entry
abbrev pub are_numbers : List Entry → List ℕ → Bool
are_numbers es = list_all (λ k. nat_lt k (length es))

-- the path comes after those of all entries
abbrev pub is_after : List Entry → List ℕ → Bool
is_after es path = list_all (λ e. is_before e.path path) es

-- a longer path begins with this one, which is no folder of it
abbrev pub is_under : List ℕ → List ℕ → Bool
is_under d t = starts_with nat_eq t d && nat_lt (length d) (length t) && not (slice_index t (length d) == slash)

-- The stack knows each earlier entry whose path can be a folder of a path that comes later.
pub record AreOpen (earlier : List Entry) (open_paths : List (List ℕ)) : Type 0 where
  pub rising : pairwise is_below earlier ≡ true
  pub chain : pairwise is_under open_paths ≡ true
  pub within : (q : List ℕ) → is_after earlier q ≡ true → list_all (λ d. is_before d q) open_paths ≡ true
  pub same : (q : List ℕ) → is_after earlier q ≡ true → list_any (λ e. is_folder_of e q) earlier
      ≡ list_any (λ d. is_in_folder d q) open_paths

-- What is on top that the path does not begin with is closed. Then a folder of the path can only be on top.
pub record Closes (path : List ℕ) (old new : List (List ℕ)) (clash : Bool) : Type 0 where
  pub dropped : List (List ℕ)
  pub parts : old ≡ new ++ dropped
  pub gone : list_all (λ d. not (starts_with nat_eq path d)) dropped ≡ true
  pub top : MatchOption (slice_get new (length new - 1)) (clash ≡ false) (λ t. (starts_with nat_eq path t
      ≡ true) × (clash ≡ is_in_folder t path))

-- what happens to the stack at an entry of stage 0, and at one of another stage
abbrev pub OpensAt : Bool → Entry → List (List ℕ) → List (List ℕ) → Bool → Type 0
OpensAt true e old new clash =
    (kept : List (List ℕ)) × Closes e.path old kept clash × (clash ≡ false → new ≡ kept ++ e.path ∷ [])
OpensAt false e old new clash = (clash ≡ false) × (new ≡ old)

abbrev pub Opens : Entry → List (List ℕ) → List (List ℕ) → Bool → Type 0
Opens e = OpensAt (e.stage == 0) e

-- What becomes of the paths of a rehearsal, and of any 200 that follow one another by number.
use Rattle.std.specs.Prelude.{◌≡◌, ℕ, ◌+◌, ◌*◌, ◌%◌, ◌==◌, Bool, ◌&&◌, ◌||◌, not, if◌then◌else◌, List, length, codes}
use Rattle.std.specs.Prelude.{count_by, sum_by}
use Rattle.std.specs.List.{range_with_len}
use Rattle.rehearsal.specs.Paths.{kind, line_count, line_of, content}
use Rattle.rehearsal.specs.Drivers.{is_delayed}

-- `beta` answers `error` for the path, and isn't required: its file has the content as it is
abbrev pub path_is_unfiltered : ℕ → ℕ → Bool
path_is_unfiltered seed i = kind seed i == 7

-- `alpha` delays the path and never gives it, and is required: it has no file
abbrev pub path_is_failed : ℕ → ℕ → Bool
path_is_failed seed i = is_delayed seed i && i % 5 == 0

-- each other path is written, converted or filtered
abbrev pub path_is_written : ℕ → ℕ → Bool
path_is_written seed i = not (path_is_unfiltered seed i || path_is_failed seed i)

-- how many bytes a file of this kind has, by the number of its lines `line` and of its content's bytes
abbrev pub sized : ℕ → ℕ → ℕ → ℕ
sized k count bytes =
    -- a CR for each line
    if k == 1 then bytes + count
    -- `$Id$` becomes `$Id: `, 40 digits and ` $`
    else if k == 2 then bytes + 43
    -- two bytes for each, and no mark before them
    else if k == 3 then 2 * bytes
    -- the driver's line stands first
    else if k == 4 || k == 5 then length (line_of (codes "alpha")) + bytes
    else if k == 6 then length (line_of (codes "beta")) + bytes
    else bytes

-- the same for a path, which has none if it failed
abbrev pub file_size : ℕ → ℕ → ℕ
file_size seed i =
    if path_is_failed seed i then 0 else sized (kind seed i) (line_count seed i) (length (content seed i))

-- this becomes of 200 paths
pub record IsBlock (seed : ℕ) (numbers : List ℕ) : Type 0 where
  pub written : count_by (path_is_written seed) numbers ≡ 170
  pub unfiltered : count_by (path_is_unfiltered seed) numbers ≡ 25
  pub failed : count_by (path_is_failed seed) numbers ≡ 5

-- The same becomes of any 200 paths that follow one another. Their files have the same number of bytes if the seed is a
-- multiple of 5. For another seed the failed paths have other lines.
pub record BlocksAreAlike : Type 0 where
  pub counts : (seed first : ℕ) → IsBlock seed (range_with_len first 200)
  pub bytes : (seed first : ℕ) → seed % 5 ≡ 0
      → sum_by (file_size seed) (range_with_len first 200) ≡ 29220

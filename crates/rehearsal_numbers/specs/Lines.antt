-- The line of a rehearsal, by its numbers.
use Rattle.std.specs.Prelude.{◌≡◌, ◌≤◌, ◌+◌, ◌*◌, ◌%◌, ◌==◌, ℕ, Bool, List, ◌++◌, count_by, sum_by}
use Rattle.std.specs.Prelude.{if◌then◌else◌}
use Rattle.std.specs.List.{range_with_len}
use Rattle.rehearsal.specs.Blocks.{path_is_written, path_is_unfiltered, path_is_failed, file_size}
use Rattle.checkout_engine.specs.Rehearsed.{first_words, last_words, IsSummed}

-- how many of the numbers below this one pass
abbrev pub counted : (ℕ → Bool) → ℕ → ℕ
counted test paths = count_by test (range_with_len 0 paths)

-- the status of a rehearsal with so many failed paths
abbrev pub status_with : ℕ → ℕ
status_with failed = if failed == 0 then 0 else 1

-- the bytes of the files of so many paths, and of the attribute file, which has 136
abbrev pub bytes_with : ℕ → ℕ → ℕ
bytes_with seed paths = 136 + sum_by (file_size seed) (range_with_len 0 paths)

-- The line of so many paths. The attribute file is written too.
unfoldable pub line : ℕ → ℕ → List ℕ
line seed paths =
    first_words paths (status_with (counted (path_is_failed seed) paths)) (1 + counted (path_is_written seed) paths)
    ++ last_words (counted (path_is_unfiltered seed) paths) (counted (path_is_failed seed) paths)
    (bytes_with seed paths)

-- What a rehearsal writes is that line.
abbrev pub LinesAreRight : Type 0
LinesAreRight = (seed paths : ℕ) (text : List ℕ) → paths ≤ 99999 → IsSummed seed paths text → text ≡ line seed paths

-- the line of so many blocks of 200 paths, with these bytes
abbrev pub block_line : ℕ → ℕ → List ℕ
block_line blocks bytes =
    first_words (200 * blocks) (status_with (5 * blocks)) (1 + 170 * blocks)
    ++ last_words (25 * blocks) (5 * blocks) bytes

-- Where the paths are whole blocks, each block adds the same. For a seed that is a multiple of 5 it adds 29,220 bytes.
pub record BlockLinesAreRight : Type 0 where
  pub counts : (seed blocks : ℕ) (text : List ℕ) → 200 * blocks ≤ 99999 → IsSummed seed (200 * blocks) text
      → text ≡ block_line blocks (bytes_with seed (200 * blocks))
  pub bytes : (seed blocks : ℕ) (text : List ℕ) → 200 * blocks ≤ 99999 → seed % 5 ≡ 0
      → IsSummed seed (200 * blocks) text → text ≡ block_line blocks (136 + 29220 * blocks)

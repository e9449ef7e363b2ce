-- What a text begins with.
use Rattle.std.specs.Prelude.{ℕ, Bool, false, List, [], ◌∷◌, take, drop, if◌then◌else◌}
use Rattle.std.specs.Str.{bytes_eq}

-- whether a text begins with a byte that passes a test
abbrev pub begins : (ℕ → Bool) → List ℕ → Bool
begins test [] = false
begins test (b ∷ text) = test b

-- a byte order mark of UTF-8 at the start is skipped
abbrev pub unmarked : List ℕ → List ℕ
unmarked text = if bytes_eq (take 3 text) (0xEF ∷ 0xBB ∷ 0xBF ∷ []) then drop 3 text else text

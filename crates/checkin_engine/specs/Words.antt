-- The words of a check-in.
use Rattle.std.specs.Prelude.{ℕ, Bool, false, List, [], ◌∷◌, map, codes, String, string_bytes}
use Rattle.std.specs.declared.alloc.Global.{Global}
use Rattle.std.specs.Str.{bytes_eq}

-- three words, of which the third is `checkin`
abbrev pub are_checkin : List (List ℕ) → Bool
are_checkin (repo ∷ tree ∷ name ∷ []) = bytes_eq name (codes "checkin")
are_checkin words = false

abbrev pub is_checkin : List (String Global) → Bool
is_checkin words = are_checkin (map string_bytes words)

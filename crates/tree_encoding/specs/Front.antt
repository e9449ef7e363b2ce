-- What a text begins with.
use Rattle.std.specs.Prelude.{◌≡◌, ℕ, ◌+◌, true, List, ◌++◌, length}
use Rattle.std.specs.Char.{is_ascii}
use Rattle.std.specs.List.{flat_map, list_all}
use Rattle.std.specs.Str.{IsUtf8, chars}

-- it begins with sixteen characters of ASCII, and this is after them
pub record BeginsWithSixteen (text sixteen behind : List ℕ) : Type 0 where
  pub parts : text ≡ sixteen ++ behind
  pub ascii : list_all is_ascii sixteen ≡ true
  pub utf8 : IsUtf8 behind
  pub shorter : length behind + 16 ≡ length text

-- what was written and what the text becomes are together what is written now and what the rest of the text becomes
abbrev pub GoesOn : (ℕ → List ℕ) → List ℕ → List ℕ → List ℕ → List ℕ → Type 0
GoesOn f old text new behind = new ++ flat_map f (chars behind) ≡ old ++ flat_map f (chars text)

-- The bytes of a configuration file, its ends of lines, and what a reader of them answers.
use Rattle.std.specs.Prelude.{ℕ, Bool, ◌&&◌, ◌||◌, ◌==◌, not, List, [], ◌∷◌, drop, Result, if◌then◌else◌}
use Rattle.std.specs.List.{position_or_len}
use Rattle.std.specs.Char.{is_ascii_alphanumeric}
use Rattle.byte_path.specs.Front.{begins}
use Rattle.git_config.specs.declared.fault.ConfigFault.{ConfigFault}
use Rattle.git_config.specs.declared.fault.ConfigFault.TheVariants.{NoMemory}
use Rattle.byte_path.specs.Characters.{tab, line_feed, carriage_return, space, hash, hyphen, dot, semicolon}
pub use Rattle.byte_path.specs.Steps.{◌>>=◌, want}
use Rattle.byte_path.specs.Steps.{GivesUnless}

-- a space or TAB
abbrev pub is_blank : ℕ → Bool
is_blank b = b == space || b == tab

abbrev pub is_line_end : ℕ → Bool
is_line_end b = b == line_feed

-- `#` or `;`
abbrev pub is_comment_mark : ℕ → Bool
is_comment_mark b = b == hash || b == semicolon

-- of a key: a letter, a digit or `-`
abbrev pub is_key_byte : ℕ → Bool
is_key_byte b = is_ascii_alphanumeric b || b == hyphen

-- of a section's name: the same or `.`
abbrev pub is_name_byte : ℕ → Bool
is_name_byte b = is_key_byte b || b == dot

abbrev pub is_dot : ℕ → Bool
is_dot b = b == dot

abbrev pub ends_blanks : ℕ → Bool
ends_blanks b = not (is_blank b)

abbrev pub ends_key : ℕ → Bool
ends_key b = not (is_key_byte b)

abbrev pub ends_name : ℕ → Bool
ends_name b = not (is_name_byte b)

-- what follows the blanks at the front
unfoldable pub behind_blanks : List ℕ → List ℕ
behind_blanks text = drop (position_or_len ends_blanks text) text

-- what is left from the end of the line on
unfoldable pub line_end : List ℕ → List ℕ
line_end text = drop (position_or_len is_line_end text) text

-- each CR right before LF is dropped
abbrev pub without_cr : List ℕ → List ℕ
without_cr [] = []
without_cr (b ∷ text) = if b == carriage_return && begins is_line_end text then without_cr text else b ∷ without_cr text

-- What a function returned, seen through `view`, is what the grammar gives, unless memory ran out.
abbrev pub Gives : {X Y : Type 0} → (X → Y) → Result X ConfigFault → Result Y ConfigFault → Type 0
Gives = GivesUnless NoMemory

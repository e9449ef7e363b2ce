-- How the form of a pattern decides a path.
use Rattle.std.specs.Prelude.{◌≡◌, ℕ, ◌≤◌, ◌+◌, ◌-◌, Bool, true, false, ◌&&◌, ◌||◌, not, ◌==◌, nat_eq}
use Rattle.std.specs.Prelude.{List, [], ◌∷◌, length, take, drop}
use Rattle.std.specs.Prelude.{slice_index, if◌then◌else◌}
use Rattle.std.specs.List.{prefix_len, starts_with, ends_with}
use Rattle.std.specs.Str.{bytes_eq}
use Rattle.wild_match.specs.declared.compiled.PatternForm.{PatternForm}
use Rattle.wild_match.specs.declared.compiled.Known.{Known}
use Rattle.wild_match.specs.declared.compiled.PatternForm.TheVariants.{Nothing, Name, Ending, InName, Path, InPath}
use Rattle.wild_match.specs.Fits.{is_slash, fits, is_match, last_part, without_slash}
use Rattle.wild_match.specs.Pieces.{pieces}
use Rattle.byte_path.specs.Characters.{star, question_mark, open_bracket, backslash}

-- a byte that stands for itself
abbrev pub is_plain : ℕ → Bool
is_plain b = not ((b == star) || (b == question_mark) || (b == open_bracket) || (b == backslash))

-- whether all bytes of a text stand for themselves
abbrev pub all_plain : List ℕ → Bool
all_plain text = prefix_len is_plain text == length text

-- a `*`, and then bytes that stand for themselves
abbrev pub is_ending : List ℕ → Bool
is_ending [] = false
is_ending (b ∷ text) = (b == star) && all_plain text

-- whether a pattern is empty, or ends in `/`
abbrev pub is_of_nothing : List ℕ → Bool
is_of_nothing pattern =
    if length pattern == 0 then true else is_slash (slice_index pattern (length pattern - 1))

-- whether a text has the plain bytes of a pattern that are known
abbrev pub has_known : Known → List ℕ → List ℕ → Bool
has_known known pattern text =
    starts_with nat_eq text (take known.front pattern)
    && starts_with nat_eq (drop (known.front + 1) text) (take known.more (drop known.next pattern))

-- each text has them that fits a pattern
abbrev pub IsKnown : List ℕ → Known → Type 0
IsKnown pattern known = (fresh : Bool) (text : List ℕ) → fits (pieces fresh pattern) text ≡ true
    → has_known known pattern text ≡ true

-- what a form says of a path with that last part
abbrev pub answer : PatternForm → List ℕ → List ℕ → List ℕ → Bool
answer Nothing pattern path name = false
answer Name pattern path name = bytes_eq pattern name
answer Ending pattern path name = ends_with nat_eq name (drop 1 pattern)
answer (InName known) pattern path name = has_known known pattern name && fits (pieces false pattern) name
answer Path pattern path name = bytes_eq (without_slash pattern) path
answer (InPath known) pattern path name =
    has_known known (without_slash pattern) path && fits (pieces true (without_slash pattern)) path

-- a pattern that is compared with the last part of a path
abbrev pub IsOfName : List ℕ → Type 0
IsOfName pattern = (path : List ℕ) → is_match pattern path ≡ fits (pieces false pattern) (last_part path)

-- a pattern that is compared with the whole path
abbrev pub IsOfPath : List ℕ → Type 0
IsOfPath pattern = (path : List ℕ) → is_match pattern path ≡ fits (pieces true (without_slash pattern)) path

-- the byte that a form passes over
abbrev pub passed_by : PatternForm → ℕ
passed_by Ending = 1
passed_by form = 0

-- a form that decides each path as its pattern does
pub record IsForm (form : PatternForm) (pattern : List ℕ) : Type 0 where
  pub within : passed_by form ≤ length pattern
  pub right : (path : List ℕ) → answer form pattern path (last_part path) ≡ is_match pattern path

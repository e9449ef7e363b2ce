-- What a line says of attributes: `name`, `-name`, `!name` and `name=value` (gitattributes(5), "DESCRIPTION").
use Rattle.std.specs.Prelude.{ℕ, Bool, ◌&&◌, ◌||◌, ◌==◌, nat_lt, not, List, length, drop, map, Option, Some}
use Rattle.std.specs.Prelude.{None, if◌then◌else◌}
use Rattle.std.specs.List.{list_any, list_all, before_first, after_first}
use Rattle.std.specs.Char.{is_ascii_alphanumeric}
use Rattle.byte_path.specs.Front.{begins}
use Rattle.attr_line.specs.declared.state.AttrState.{AttrState}
use Rattle.attr_line.specs.declared.state.AttrState.TheVariants.{Set, Unset, Unspecified, Value}
use Rattle.attr_line.specs.declared.file.Pair.{Pair}
use Rattle.attr_line.specs.Text.{words}
use Rattle.byte_path.specs.Characters.{bang, hyphen, dot, underscore}
pub use Rattle.byte_path.specs.Characters.{is_equals}

abbrev pub is_minus : ℕ → Bool
is_minus b = b == hyphen

-- `!`
abbrev pub is_bang : ℕ → Bool
is_bang b = b == bang

-- a letter, a digit, `-`, `_` or `.`
abbrev pub is_name_byte : ℕ → Bool
is_name_byte b = is_ascii_alphanumeric b || b == hyphen || b == underscore || b == dot

-- the name of an attribute or of a macro
abbrev pub is_name : List ℕ → Bool
is_name name = nat_lt 0 (length name) && not (begins is_minus name) && list_all is_name_byte name

-- the value after the first `=`, or `Set` if there is none
abbrev pub value_or_set : List ℕ → AttrState
value_or_set word = if list_any is_equals word then Value (after_first is_equals word) else Set

-- After a name with `-` or `!`, an `=` and what follows it are ignored.
abbrev pub pair_at : List ℕ → Pair
pair_at word =
    if begins is_minus word then record { name = before_first is_equals (drop 1 word); state = Unset }
    else if begins is_bang word then record { name = before_first is_equals (drop 1 word); state = Unspecified }
    else record { name = before_first is_equals word; state = value_or_set word }

abbrev pub has_name : List ℕ → Bool
has_name word = is_name (pair_at word).name

-- the pairs of a text, or none if one of its names is bad
abbrev pub pairs_at : List ℕ → Option (List Pair)
pairs_at text = if list_all has_name (words text) then Some (map pair_at (words text)) else None

-- Rows as JSON objects (RFC 8259), each on a line of its own.
use Rattle.std.specs.Prelude.{◌≡◌, ℕ, List, [], ◌∷◌, ◌++◌, codes, map, if◌then◌else◌}
use Rattle.std.specs.List.{flat_map}
use Rattle.std.specs.Fmt.{decimal}
use Rattle.std.specs.Str.{is_utf8}
use Rattle.json.specs.Token.{Token, begin_object, end_object, begin_array, end_array, key, string, number, boolean, null}
use Rattle.json.specs.Print.{print}
use Rattle.json.specs.Written.{Written}
use Rattle.byte_path.specs.Characters.{line_feed}
use Rattle.reports.specs.Fields.{Shown, word, absent, flag, name, Field, Number}

abbrev pub byte_token : ℕ → Token
byte_token byte = number (decimal byte)

-- the list of a name's bytes
abbrev pub list_tokens : List ℕ → List Token
list_tokens bytes = begin_array ∷ (map byte_token bytes ++ end_array ∷ [])

-- a name is a text, or the list of its bytes if it isn't UTF-8
abbrev pub name_tokens : List ℕ → List Token
name_tokens bytes = if is_utf8 bytes then string bytes ∷ [] else list_tokens bytes

abbrev pub value_tokens : Shown → List Token
value_tokens (word w) = string w ∷ []
value_tokens absent = null ∷ []
value_tokens (flag w is_set) = boolean is_set ∷ []
value_tokens (name n) = name_tokens n

abbrev pub field_tokens : Field → List Token
field_tokens f = key f.key ∷ value_tokens f.shows

-- the members of fields
abbrev pub members_of : List Field → List Token
members_of fields = flat_map field_tokens fields

abbrev pub number_tokens : Number → List Token
number_tokens n = key n.key ∷ number (decimal n.number) ∷ []

abbrev pub numbers_members : List Number → List Token
numbers_members numbers = flat_map number_tokens numbers

-- an object of these members, on a line
abbrev pub object_line : List Token → List ℕ
object_line members = print (begin_object ∷ (members ++ end_object ∷ [])) ++ line_feed ∷ []

-- the members of a path's row: the path, and its fields
abbrev pub path_members : List ℕ → List Field → List Token
path_members path fields = key (codes "path") ∷ (name_tokens path ++ members_of fields)

-- the member of a total: an object of its numbers
abbrev pub total_members : List ℕ → List Number → List Token
total_members title numbers = key title ∷ begin_object ∷ (numbers_members numbers ++ end_object ∷ [])

abbrev pub number_members : List ℕ → ℕ → List Token
number_members title n = key title ∷ number (decimal n) ∷ []

abbrev pub refusal_members : List ℕ → List Token
refusal_members words = key (codes "refused") ∷ name_tokens words

-- a writer has these tokens after those that it had
abbrev pub Appends : List Token → Written → Written → Type 0
Appends tokens old new = (new.before ≡ old.before) × (new.tokens ≡ old.tokens ++ tokens)

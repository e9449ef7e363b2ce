-- The encoding that an attribute names (gitattributes(5), "working-tree-encoding").
use Rattle.std.specs.Prelude.{ℕ, Bool, ◌==◌, ◌||◌, List, [], ◌∷◌, length, codes, Option, Some, None, Result}
use Rattle.std.specs.Prelude.{Ok, Err, if◌then◌else◌}
use Rattle.std.specs.Str.{str_eq_ignore_ascii_case}
use Rattle.attr_line.specs.declared.state.AttrState.{AttrState}
use Rattle.attr_line.specs.declared.state.AttrState.TheVariants.{Set, Unset, Unspecified, Value}
use Rattle.tree_encoding.specs.declared.encoding.Encoding.{Encoding}
use Rattle.tree_encoding.specs.declared.encoding.Encoding.TheVariants.{Utf16, Utf16Le, Utf16Be, Utf16LeBom}
use Rattle.tree_encoding.specs.declared.encoding.Encoding.TheVariants.{Utf32, Utf32Le, Utf32Be}
use Rattle.tree_encoding.specs.declared.encoding.UnknownEncoding.{UnknownEncoding}
use Rattle.byte_path.specs.Characters.{hyphen}

-- a name without its first hyphen
abbrev pub without_hyphen : List ℕ → List ℕ
without_hyphen [] = []
without_hyphen (b ∷ name) = if b == hyphen then name else b ∷ without_hyphen name

-- whether a value is this name, with case ignored and the first hyphen of the name optional
unfoldable pub is_name : List ℕ → List ℕ → Bool
is_name value name = str_eq_ignore_ascii_case value name || str_eq_ignore_ascii_case value (without_hyphen name)

-- the names of the eight encodings, of which UTF-8 changes nothing
abbrev pub names : List (List ℕ × Option Encoding)
names =
    (codes "UTF-8", None) ∷ (codes "UTF-16", Some Utf16) ∷ (codes "UTF-16LE", Some Utf16Le)
    ∷ (codes "UTF-16BE", Some Utf16Be) ∷ (codes "UTF-16LE-BOM", Some Utf16LeBom) ∷ (codes "UTF-32", Some Utf32)
    ∷ (codes "UTF-32LE", Some Utf32Le) ∷ (codes "UTF-32BE", Some Utf32Be) ∷ []

-- what stands beside the name that a value is
abbrev pub named_in : List (List ℕ × Option Encoding) → List ℕ → Result (Option Encoding) UnknownEncoding
named_in [] value = Err (record {})
named_in (row ∷ rows) value = if is_name value row.0 then Ok row.1 else named_in rows value

-- what a value names: the empty one stands for UTF-8
unfoldable pub encoding_named : List ℕ → Result (Option Encoding) UnknownEncoding
encoding_named value = if length value == 0 then Ok None else named_in names value

-- an attribute that is set has no value, and so names nothing that is known
abbrev pub encoding_of : AttrState → Result (Option Encoding) UnknownEncoding
encoding_of Set = Err (record {})
encoding_of (Value value) = encoding_named value
encoding_of Unset = Ok None
encoding_of Unspecified = Ok None

-- the name of an encoding
abbrev pub encoding_name : Encoding → List ℕ
encoding_name Utf16 = codes "UTF-16"
encoding_name Utf16Le = codes "UTF-16LE"
encoding_name Utf16Be = codes "UTF-16BE"
encoding_name Utf16LeBom = codes "UTF-16LE-BOM"
encoding_name Utf32 = codes "UTF-32"
encoding_name Utf32Le = codes "UTF-32LE"
encoding_name Utf32Be = codes "UTF-32BE"

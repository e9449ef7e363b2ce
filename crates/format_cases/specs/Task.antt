-- What a line of the table asks for, and its answer.
use Rattle.std.specs.Prelude.{◌≡◌, ℕ, Result, Ok, List, [], ◌∷◌, ◌++◌, codes, ◌==◌, Bool, Option, Some, None}
use Rattle.std.specs.Prelude.{if◌then◌else◌}
use Rattle.std.specs.List.{before_first, after_first}
use Rattle.std.specs.Str.{bytes_eq}
use Rattle.hex.specs.Hex.{encode_lower, decode_of}
use Rattle.hex.specs.declared.error.FromHexError.{FromHexError}
use Rattle.attr_line.specs.declared.state.AttrState.TheVariants.{Value}
use Rattle.eol_convert.specs.Content.{to_tree_ends}
use Rattle.eol_convert.specs.declared.setting.LineEnds.{LineEnds}
use Rattle.eol_convert.specs.declared.setting.LineEnds.TheVariants.{ToCrlf, AutoCrlf}
use Rattle.ident_convert.specs.Ident.{expanded, keyword_text}
use Rattle.tree_encoding.specs.Encode.{encoded}
use Rattle.tree_encoding.specs.Named.{encoding_of}
use Rattle.format_cases.specs.declared.task.Kind.{Kind}
use Rattle.format_cases.specs.declared.task.Kind.TheVariants.{Ends, Ident, Encoded}
use Rattle.format_cases.specs.declared.task.Task.{Task}
use Rattle.byte_path.specs.Characters.{space, line_feed}

-- the line ends of a kind
abbrev pub ends_named : List ℕ → Option LineEnds
ends_named kind =
    if bytes_eq kind (codes "crlf") then Some ToCrlf
    else if bytes_eq kind (codes "auto-crlf") then Some AutoCrlf
    else None

-- a kind by its word and what follows the content: after `ident` that is a name in hex, and any other word is the name
-- of an encoding
abbrev pub IsKind : List ℕ → List ℕ → Kind → Type 0
IsKind word behind (Ends ends) = ends_named word ≡ Some ends
IsKind word behind (Ident name) = (word ≡ codes "ident") × (decode_of behind ≡ Ok name)
IsKind word behind (Encoded encoding) = encoding_of (Value word) ≡ Ok (Some encoding)

-- bytes in hex, or `-` for none
abbrev pub read_bytes : List ℕ → Result (List ℕ) FromHexError
read_bytes word = if bytes_eq word (codes "-") then Ok [] else decode_of word

abbrev pub is_space : ℕ → Bool
is_space b = b == space

-- a line's task: the word of its kind, the content, and what the kind needs, with one space between
abbrev pub IsTask : List ℕ → Task → Type 0
IsTask line task =
    IsKind (before_first is_space line) (after_first is_space (after_first is_space line)) task.kind
    × (read_bytes (before_first is_space (after_first is_space line)) ≡ Ok task.content.items)

-- a content as it stands in the worktree
abbrev pub converted : Kind → List ℕ → List ℕ
converted (Ends ends) content = to_tree_ends content ends
converted (Ident name) content = expanded (keyword_text name) content
converted (Encoded encoding) content = (encoded content encoding).bytes

-- bytes in hex, and `-` for none
abbrev pub spelled : List ℕ → List ℕ
spelled [] = codes "-"
spelled (b ∷ bytes) = encode_lower (b ∷ bytes)

abbrev pub answer : List ℕ → List ℕ
answer bytes = spelled bytes ++ line_feed ∷ []

-- A content as it stands in the worktree.
use Rattle.std.specs.Prelude.{ℕ, Bool, true, false, List, Option, Some, None}
use Rattle.ident_convert.specs.Ident.{keyword_text, expanded}
use Rattle.eol_convert.specs.Action.{ends_of}
use Rattle.eol_convert.specs.Content.{to_tree_ends}
use Rattle.tree_encoding.specs.declared.encoding.Encoding.{Encoding}
use Rattle.tree_encoding.specs.declared.prepared.Prepared.{Prepared}
use Rattle.tree_encoding.specs.Encode.{encoded}
use Rattle.convert_plan.specs.declared.conversion.Conversion.{Conversion}

-- with the keyword `$Id$` of a blob with this name, if it is to be expanded
abbrev pub with_ident : Bool → List ℕ → List ℕ → List ℕ
with_ident true name content = expanded (keyword_text name) content
with_ident false name content = content

-- in the encoding that is named
abbrev pub in_encoding : Option Encoding → List ℕ → Prepared
in_encoding None content = record { bytes = content; unencoded = false }
in_encoding (Some encoding) content = encoded content encoding

-- first the keyword, then line ends, then the encoding
abbrev pub prepared : Conversion → List ℕ → List ℕ → Prepared
prepared conversion name content =
    in_encoding conversion.encoding
    (to_tree_ends (with_ident conversion.ident name content) (ends_of conversion.action))

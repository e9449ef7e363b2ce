-- The conversion of a path, from the states of its attributes (gitattributes(5)).
use Rattle.std.specs.Prelude.{Bool, true, false, List, [], ◌∷◌, Option, Result, Ok, Err}
use Rattle.attr_line.specs.declared.state.AttrState.{AttrState}
use Rattle.attr_line.specs.declared.state.AttrState.TheVariants.{Set}
use Rattle.eol_convert.specs.declared.setting.AutoCrlf.{AutoCrlf}
use Rattle.eol_convert.specs.declared.setting.EolSetting.{EolSetting}
use Rattle.eol_convert.specs.declared.action.Action.{Action}
use Rattle.eol_convert.specs.Action.{action_of}
use Rattle.tree_encoding.specs.declared.encoding.Encoding.{Encoding}
use Rattle.tree_encoding.specs.declared.encoding.UnknownEncoding.{UnknownEncoding}
use Rattle.tree_encoding.specs.Named.{encoding_of}
use Rattle.convert_plan.specs.declared.conversion.Conversion.{Conversion}

abbrev pub is_set : AttrState → Bool
is_set Set = true
is_set state = false

-- with the encoding that is named, if it is known
abbrev pub with_encoding : Bool → Action → Result (Option Encoding) UnknownEncoding
    → Result Conversion UnknownEncoding
with_encoding ident action (Ok encoding) = Ok (record { ident = ident; action = action; encoding = encoding })
with_encoding ident action (Err e) = Err e

-- by the states of `text`, `crlf`, `eol`, `ident` and `working-tree-encoding`
abbrev pub conversion_of : List AttrState → AutoCrlf → EolSetting → Result Conversion UnknownEncoding
conversion_of (text ∷ crlf ∷ eol ∷ ident ∷ encoding ∷ []) auto setting =
    with_encoding (is_set ident) (action_of text crlf eol auto setting) (encoding_of encoding)
conversion_of states auto setting = Err (record {})

-- What becomes of a file's line ends, from its attributes and the settings (gitattributes(5), "text" and "eol").
use Rattle.std.specs.Prelude.{codes, Option, Some, None, if◌then◌else◌}
use Rattle.std.specs.Str.{bytes_eq}
use Rattle.attr_line.specs.declared.state.AttrState.{AttrState}
use Rattle.attr_line.specs.declared.state.AttrState.TheVariants.{Set, Unset, Unspecified, Value}
use Rattle.eol_convert.specs.declared.action.Action.{Action}
use Rattle.eol_convert.specs.declared.action.Action.TheVariants.{Binary, TextLf, TextCrlf, AutoLf}
use Rattle.eol_convert.specs.declared.action.Action.TheVariants.{AutoCrlf as AutoWithCrlf}
use Rattle.eol_convert.specs.declared.action.Asked.{Asked}
use Rattle.eol_convert.specs.declared.action.Asked.TheVariants.{Undefined, Text, Auto, Is}
use Rattle.eol_convert.specs.declared.action.Ending.{Ending}
use Rattle.eol_convert.specs.declared.action.Ending.TheVariants.{Lf, Crlf}
use Rattle.eol_convert.specs.declared.setting.AutoCrlf.{AutoCrlf}
use Rattle.eol_convert.specs.declared.setting.AutoCrlf.TheVariants.{False, True, Input}
use Rattle.eol_convert.specs.declared.setting.EolSetting.{EolSetting}
use Rattle.eol_convert.specs.declared.setting.EolSetting.TheVariants as setting
use Rattle.eol_convert.specs.declared.setting.LineEnds.{LineEnds}
use Rattle.eol_convert.specs.declared.setting.LineEnds.TheVariants as ends

-- what one of the attributes `text` and `crlf` says
abbrev pub said : AttrState → Asked
said Set = Text
said Unset = Is Binary
said Unspecified = Undefined
said (Value value) =
    if bytes_eq value (codes "auto") then Auto
    else if bytes_eq value (codes "input") then Is TextLf
    else Undefined

-- step 1: what `text` says, or if it says nothing, what `crlf` says
abbrev pub first_said : Asked → Asked → Asked
first_said Undefined crlf = crlf
first_said text crlf = text

-- the line end that `eol` names
abbrev pub named_ending : AttrState → Option Ending
named_ending (Value value) =
    if bytes_eq value (codes "lf") then Some Lf
    else if bytes_eq value (codes "crlf") then Some Crlf
    else None
named_ending Set = None
named_ending Unset = None
named_ending Unspecified = None

-- a text, and a file that is a text if it looks like one, each with that line end
abbrev pub text_with : Ending → Action
text_with Lf = TextLf
text_with Crlf = TextCrlf

abbrev pub auto_with : Ending → Action
auto_with Lf = AutoLf
auto_with Crlf = AutoWithCrlf

-- step 2: with a line end that `eol` names, an automatic file stays automatic, and any other one that isn't binary is a
-- text
abbrev pub with_named : Option Ending → Asked → Asked
with_named None asked = asked
with_named (Some ending) (Is Binary) = Is Binary
with_named (Some ending) Auto = Is (auto_with ending)
with_named (Some ending) asked = Is (text_with ending)

-- the line end of the settings: `core.autocrlf` goes before `core.eol`
abbrev pub set_ending : AutoCrlf → EolSetting → Ending
set_ending True eol = Crlf
set_ending Input eol = Lf
set_ending False setting.Crlf = Crlf
set_ending False setting.Lf = Lf
set_ending False setting.Native = Lf

-- steps 3 and 4: if no attribute says anything, `core.autocrlf` decides, and a text without a line end has that of the
-- settings
abbrev pub settled : AutoCrlf → EolSetting → Asked → Action
settled False eol Undefined = Binary
settled True eol Undefined = AutoWithCrlf
settled Input eol Undefined = AutoLf
settled auto eol Text = text_with (set_ending auto eol)
settled auto eol Auto = auto_with (set_ending auto eol)
settled auto eol (Is action) = action

-- what is done with a file's line ends: the four steps
abbrev pub action_of : AttrState → AttrState → AttrState → AutoCrlf → EolSetting → Action
action_of text crlf eol auto setting =
    settled auto setting (with_named (named_ending eol) (first_said (said text) (said crlf)))

-- the line ends of a checkout: those that should be LF stay as they are
abbrev pub ends_of : Action → LineEnds
ends_of TextCrlf = ends.ToCrlf
ends_of AutoWithCrlf = ends.AutoCrlf
ends_of Binary = ends.Keep
ends_of TextLf = ends.Keep
ends_of AutoLf = ends.Keep

-- what becomes of the line ends in a checkout
abbrev pub line_ends_of : AttrState → AttrState → AttrState → AutoCrlf → EolSetting → LineEnds
line_ends_of text crlf eol auto setting = ends_of (action_of text crlf eol auto setting)

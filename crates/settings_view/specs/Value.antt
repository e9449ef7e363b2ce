-- Truth values and choices.
use Rattle.std.specs.Prelude.{ℕ, Bool, true, false, ◌||◌, ◌==◌, List, [], length, codes, Option, Some, None}
use Rattle.std.specs.Prelude.{option_map, if◌then◌else◌}
use Rattle.std.specs.Str.{bytes_eq}
use Rattle.git_config.specs.Header.{lowered}
use Rattle.eol_convert.specs.declared.setting.AutoCrlf.{AutoCrlf}
use Rattle.eol_convert.specs.declared.setting.AutoCrlf.TheVariants.{False, True, Input}
use Rattle.eol_convert.specs.declared.setting.EolSetting.{EolSetting}
use Rattle.eol_convert.specs.declared.setting.EolSetting.TheVariants.{Lf, Crlf, Native}

-- with case ignored
unfoldable pub is_word : List ℕ → List ℕ → Bool
is_word word text = bytes_eq (lowered text) (lowered word)

unfoldable pub is_true_word : List ℕ → Bool
is_true_word text =
    is_word (codes "true") text || is_word (codes "yes") text || is_word (codes "on") text || is_word (codes "1") text

unfoldable pub is_false_word : List ℕ → Bool
is_false_word text =
    is_word (codes "false") text || is_word (codes "no") text || is_word (codes "off") text
    || is_word (codes "0") text || length text == 0

abbrev pub bool_text : List ℕ → Option Bool
bool_text text = if is_true_word text then Some true else if is_false_word text then Some false else None

-- a truth value; a key without `=` is true
abbrev pub bool_of : Option (List ℕ) → Option Bool
bool_of None = Some true
bool_of (Some text) = bool_text text

abbrev pub crlf_of_bool : Bool → AutoCrlf
crlf_of_bool true = True
crlf_of_bool false = False

abbrev pub crlf_text : List ℕ → Option AutoCrlf
crlf_text text = if is_word (codes "input") text then Some Input else option_map crlf_of_bool (bool_text text)

-- `input` or a truth value
abbrev pub crlf_of : Option (List ℕ) → Option AutoCrlf
crlf_of None = Some True
crlf_of (Some text) = crlf_text text

abbrev pub eol_text : List ℕ → Option EolSetting
eol_text text =
    if is_word (codes "lf") text then Some Lf
    else if is_word (codes "crlf") text then Some Crlf
    else if is_word (codes "native") text then Some Native
    else None

-- `lf`, `crlf` or `native`
abbrev pub eol_of : Option (List ℕ) → Option EolSetting
eol_of None = None
eol_of (Some text) = eol_text text

-- `sha1`
abbrev pub is_sha1 : Option (List ℕ) → Bool
is_sha1 None = false
is_sha1 (Some text) = is_word (codes "sha1") text

-- the text of a value; a key without `=` has the empty text
abbrev pub text_of : Option (List ℕ) → List ℕ
text_of None = []
text_of (Some text) = text

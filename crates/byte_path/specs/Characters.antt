-- Bytes by the names of their characters, as they stand in the definitions of formats.
use Rattle.std.specs.Prelude.{ℕ, Bool, ◌==◌}

-- NUL
abbrev pub nul : ℕ
nul = 0

-- BEL
abbrev pub bell : ℕ
bell = 7

-- BS
abbrev pub backspace : ℕ
backspace = 8

-- TAB
abbrev pub tab : ℕ
tab = 9

-- LF
abbrev pub line_feed : ℕ
line_feed = 10

-- VT
abbrev pub vertical_tab : ℕ
vertical_tab = 11

-- FF
abbrev pub form_feed : ℕ
form_feed = 12

-- CR
abbrev pub carriage_return : ℕ
carriage_return = 13

-- SUB
abbrev pub substitute : ℕ
substitute = 26

-- ESC
abbrev pub escape : ℕ
escape = 27

-- a space
abbrev pub space : ℕ
space = 32

-- `!`
abbrev pub bang : ℕ
bang = 33

-- `"`
abbrev pub quote : ℕ
quote = 34

-- `#`
abbrev pub hash : ℕ
hash = 35

-- `$`
abbrev pub dollar : ℕ
dollar = 36

-- `*`
abbrev pub star : ℕ
star = 42

-- `-`
abbrev pub hyphen : ℕ
hyphen = 45

-- `.`
abbrev pub dot : ℕ
dot = 46

-- `/`
abbrev pub slash : ℕ
slash = 47

-- `0`
abbrev pub digit_0 : ℕ
digit_0 = 48

-- `3`
abbrev pub digit_3 : ℕ
digit_3 = 51

-- `7`
abbrev pub digit_7 : ℕ
digit_7 = 55

-- `9`
abbrev pub digit_9 : ℕ
digit_9 = 57

-- `:`
abbrev pub colon : ℕ
colon = 58

-- `;`
abbrev pub semicolon : ℕ
semicolon = 59

-- `=`
abbrev pub equals : ℕ
equals = 61

-- `?`
abbrev pub question_mark : ℕ
question_mark = 63

-- `A`
abbrev pub capital_a : ℕ
capital_a = 65

-- `F`
abbrev pub capital_f : ℕ
capital_f = 70

-- `Z`
abbrev pub capital_z : ℕ
capital_z = 90

-- `[`
abbrev pub open_bracket : ℕ
open_bracket = 91

-- `\`
abbrev pub backslash : ℕ
backslash = 92

-- `]`
abbrev pub close_bracket : ℕ
close_bracket = 93

-- `^`
abbrev pub caret : ℕ
caret = 94

-- `_`
abbrev pub underscore : ℕ
underscore = 95

-- `a`
abbrev pub letter_a : ℕ
letter_a = 97

-- `b`
abbrev pub letter_b : ℕ
letter_b = 98

-- `f`
abbrev pub letter_f : ℕ
letter_f = 102

-- `g`
abbrev pub letter_g : ℕ
letter_g = 103

-- `k`
abbrev pub letter_k : ℕ
letter_k = 107

-- `m`
abbrev pub letter_m : ℕ
letter_m = 109

-- `n`
abbrev pub letter_n : ℕ
letter_n = 110

-- `r`
abbrev pub letter_r : ℕ
letter_r = 114

-- `t`
abbrev pub letter_t : ℕ
letter_t = 116

-- `v`
abbrev pub letter_v : ℕ
letter_v = 118

-- `z`
abbrev pub letter_z : ℕ
letter_z = 122

-- `~`
abbrev pub tilde : ℕ
tilde = 126

-- DEL
abbrev pub delete : ℕ
delete = 127

-- the tests that several formats share
abbrev pub is_nul : ℕ → Bool
is_nul b = b == nul

abbrev pub is_quote : ℕ → Bool
is_quote b = b == quote

abbrev pub is_equals : ℕ → Bool
is_equals b = b == equals

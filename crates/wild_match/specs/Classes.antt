-- The ASCII classes of a set.
use Rattle.std.specs.Prelude.{ℕ, Bool, ◌&&◌, ◌||◌, not, ◌==◌, nat_lt, nat_le, List, codes, Option, Some, None}
use Rattle.std.specs.Prelude.{if◌then◌else◌}
use Rattle.std.specs.Str.{bytes_eq}
use Rattle.wild_match.specs.declared.classes.Class.{Class}
use Rattle.wild_match.specs.declared.classes.Class.TheVariants.{Alnum, Alpha, Blank, Cntrl, Digit, Graph}
use Rattle.wild_match.specs.declared.classes.Class.TheVariants.{Lower, Print, Punct, Space, Upper, Xdigit}
use Rattle.byte_path.specs.Characters.{tab, carriage_return, space, bang, digit_0, digit_9, capital_a}
use Rattle.byte_path.specs.Characters.{capital_f, capital_z, letter_a, letter_f, letter_z, tilde, delete}

-- the class of this name
unfoldable pub class_named : List ℕ → Option Class
class_named name =
    if bytes_eq name (codes "alnum") then Some Alnum
    else if bytes_eq name (codes "alpha") then Some Alpha
    else if bytes_eq name (codes "blank") then Some Blank
    else if bytes_eq name (codes "cntrl") then Some Cntrl
    else if bytes_eq name (codes "digit") then Some Digit
    else if bytes_eq name (codes "graph") then Some Graph
    else if bytes_eq name (codes "lower") then Some Lower
    else if bytes_eq name (codes "print") then Some Print
    else if bytes_eq name (codes "punct") then Some Punct
    else if bytes_eq name (codes "space") then Some Space
    else if bytes_eq name (codes "upper") then Some Upper
    else if bytes_eq name (codes "xdigit") then Some Xdigit
    else None

-- a byte from one to another, both included
abbrev pub is_between : ℕ → ℕ → ℕ → Bool
is_between low high b = nat_le low b && nat_le b high

-- whether a byte is in a class
abbrev pub is_in_class : Class → ℕ → Bool
is_in_class Digit b = is_between digit_0 digit_9 b
is_in_class Lower b = is_between letter_a letter_z b
is_in_class Upper b = is_between capital_a capital_z b
is_in_class Alpha b = is_between letter_a letter_z b || is_between capital_a capital_z b
is_in_class Alnum b = is_between letter_a letter_z b || is_between capital_a capital_z b || is_between digit_0 digit_9 b
is_in_class Blank b = (b == space) || (b == tab)
is_in_class Cntrl b = nat_lt b space || (b == delete)
is_in_class Graph b = is_between bang tilde b
is_in_class Print b = is_between space tilde b
is_in_class Punct b =
    is_between bang tilde b && not (is_between letter_a letter_z b || is_between capital_a capital_z b
    || is_between digit_0 digit_9 b)
is_in_class Space b = (b == space) || is_between tab carriage_return b
is_in_class Xdigit b =
    is_between digit_0 digit_9 b || is_between letter_a letter_f b || is_between capital_a capital_f b

-- The paths of a rehearsal, by number.
use Rattle.std.specs.Prelude.{ℕ, zero, suc, ◌+◌, ◌*◌, ◌/◌, ◌%◌, ◌==◌, List, [], ◌∷◌, ◌++◌, codes, if◌then◌else◌}

-- the last digits of a number, so many
abbrev pub digits : ℕ → ℕ → List ℕ
digits zero n = []
digits (suc count) n = digits count (n / 10) ++ (48 + n % 10) ∷ []

abbrev pub kind : ℕ → ℕ → ℕ
kind seed i = (seed + 7 * i) % 8

abbrev pub line_count : ℕ → ℕ → ℕ
line_count seed i = (seed + i) % 50

abbrev pub name : ℕ → ℕ → List ℕ
name seed i = codes "d" ++ digits 1 i ++ codes "/f" ++ digits 6 i ++ codes ".k" ++ digits 1 (kind seed i)

-- a text as a line
abbrev pub line_of : List ℕ → List ℕ
line_of text = text ++ 10 ∷ []

-- so many lines `line`
abbrev pub lines : ℕ → List ℕ
lines zero = []
lines (suc n) = lines n ++ line_of (codes "line")

-- a file of kind 2 has an ident keyword
abbrev pub ident_line : ℕ → List ℕ
ident_line k = if k == 2 then line_of (codes "$Id$") else []

abbrev pub content : ℕ → ℕ → List ℕ
content seed i = lines (line_count seed i) ++ ident_line (kind seed i)

-- the numbers below this one that end in the digit, rising
abbrev pub ending_in : ℕ → ℕ → List ℕ
ending_in digit zero = []
ending_in digit (suc n) = ending_in digit n ++ (if n % 10 == digit then n ∷ [] else [])

-- the same for all digits below this one, digit by digit
abbrev pub ending_below : ℕ → ℕ → List ℕ
ending_below zero n = []
ending_below (suc digit) n = ending_below digit n ++ ending_in digit n

-- the numbers below this one in the order of their paths
abbrev pub in_order : ℕ → List ℕ
in_order n = ending_below 10 n

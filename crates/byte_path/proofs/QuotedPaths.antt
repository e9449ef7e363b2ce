-- A path in quotes is read as itself.
use Rattle.std.proofs.Common.{◌≡◌, ℕ, zero, suc, ◌+◌, ◌-◌, ◌*◌, ◌/◌, ◌%◌, ◌<◌, Bool, true, false, ◌&&◌, cond, eqb, nat_le, List, [], ◌∷◌, ◌++◌, length, get_or, Option, Some, None, Ok, refl, sym, ◌∙◌, ap, subst, append_assoc, length-append, inl, inr, arith}
use Rattle.std.proofs.lemmas.Bool.{cases_lt}
use Rattle.std.proofs.lemmas.Grind.{common_steps}
use Rattle.std.specs.List.{flat_map, list_any}
use Rattle.byte_path.specs.Quote.{needs_escape, letter_of, escape_with, spelled_byte, quoted}
use Rattle.byte_path.specs.Unquote.{byte_of_letter, is_digit_to, has_octal, octal_value, letter_or_octal, prefixed, escaped, unquoted_behind, unquoted}
use Rattle.byte_path.proofs.Stretches.{Answer, prefixed-prefixed, unquoted_behind-skip}

-- the number in an option is b
abbrev holds : Option ℕ → ℕ → Bool
holds None b = false
holds (Some a) b = eqb a b

abbrev holds_none : Option ℕ → Bool
holds_none None = true
holds_none (Some a) = false

-- what is written after the backslash gives the byte
abbrev written_right : Option ℕ → ℕ → Bool
written_right (Some letter) b = holds (byte_of_letter letter) b
written_right None b =
    holds_none (byte_of_letter (48 + b / 64)) && is_digit_to 51 (48 + b / 64) && is_digit_to 55 (48 + b / 8 % 8) && is_digit_to 55 (48 + b % 8)
    && eqb ((48 + b / 64 - 48) * 64 + (48 + b / 8 % 8 - 48) * 8 + (48 + b % 8 - 48)) b

abbrev all_below : ℕ → (ℕ → Bool) → Bool
all_below zero test = true
all_below (suc n) test = test n && all_below n test

all_below-step : (n : ℕ) (test : ℕ → Bool) (k : ℕ) (here below : Bool) → k < suc n → test n ≡ here → (k < n → below ≡ true → test k ≡ true) → (here && below) ≡ true → test k ≡ true
all_below-step n test k true true lt here later both = elim (cases_lt k n) [
  | inl less ↦ later less refl
  | inr more ↦ let same : k ≡ n = omega arith in rw same here
]
all_below-step n test k true false lt here later both = cc
all_below-step n test k false below lt here later both = cc

all_below-at : (n : ℕ) (test : ℕ → Bool) (k : ℕ) → all_below n test ≡ true → k < n → test k ≡ true
all_below-at zero test k all lt = absurd (omega arith)
all_below-at (suc n) test k all lt = all_below-step n test k (test n) (all_below n test) lt refl (λ less below. all_below-at n test k below less) all

each_right : all_below 256 (λ b. written_right (letter_of b) b) ≡ true
each_right = refl

byte_right : (b : ℕ) → b < 256 → written_right (letter_of b) b ≡ true
byte_right b lt = all_below-at 256 (λ (k : ℕ). written_right (letter_of k) k) b each_right lt

read_letter : (letter b : ℕ) (rest : List ℕ) → byte_of_letter letter ≡ Some b → unquoted_behind 0 (92 ∷ letter ∷ rest) ≡ prefixed (b ∷ []) 2 (unquoted_behind 0 rest)
read_letter letter b rest is =
    ap (λ (o : Option ℕ). escaped (letter_or_octal o (letter ∷ rest)) (λ skip. unquoted_behind skip (letter ∷ rest))) is
    ∙ prefixed-prefixed (b ∷ []) [] 1 1 (unquoted_behind 0 rest)

record IsOctal (x y z b : ℕ) : Type 0 where
  no_letter : byte_of_letter x ≡ None
  high : is_digit_to 51 x ≡ true
  middle : is_digit_to 55 y ≡ true
  low : is_digit_to 55 z ≡ true
  value : (x - 48) * 64 + (y - 48) * 8 + (z - 48) ≡ b

has_octal-of : (x y z b : ℕ) (rest : List ℕ) → IsOctal x y z b → has_octal (x ∷ y ∷ z ∷ rest) ≡ true
has_octal-of x y z b rest octal =
    let long : nat_le 3 (length (x ∷ y ∷ z ∷ rest)) ≡ true = grind (arith, common_steps) in
    rw (long, octal.high, octal.middle, octal.low) refl

read_octal : (x y z b : ℕ) (rest : List ℕ) → IsOctal x y z b → unquoted_behind 0 (92 ∷ x ∷ y ∷ z ∷ rest) ≡ prefixed (b ∷ []) 4 (unquoted_behind 0 rest)
read_octal x y z b rest octal =
    let digits : List ℕ = x ∷ y ∷ z ∷ rest in
    let first : Answer = unquoted_behind 0 (92 ∷ digits) in
    let as_octal : unquoted_behind 0 (92 ∷ digits) ≡ escaped (cond (has_octal digits) (Some (octal_value digits, 3)) None) (λ skip. unquoted_behind skip digits) =
    ap (λ (o : Option ℕ). escaped (letter_or_octal o digits) (λ skip. unquoted_behind skip digits)) octal.no_letter in
    let is_value : escaped (cond (has_octal digits) (Some (octal_value digits, 3)) None) (λ skip. unquoted_behind skip digits) ≡ prefixed (b ∷ []) 1 (unquoted_behind 3 digits) =
    ap (λ (t : Bool). escaped (cond t (Some (octal_value digits, 3)) None) (λ skip. unquoted_behind skip digits)) (has_octal-of x y z b rest octal)
    ∙ ap (λ (n : ℕ). prefixed (n ∷ []) 1 (unquoted_behind 3 digits)) octal.value in
    as_octal ∙ is_value
    ∙ ap (prefixed (b ∷ []) 1) (unquoted_behind-skip 3 digits (omega arith))
    ∙ prefixed-prefixed (b ∷ []) [] 1 3 (unquoted_behind 0 rest)

octal_of : (b : ℕ) → written_right None b ≡ true → IsOctal (48 + b / 64) (48 + b / 8 % 8) (48 + b % 8) b
octal_of b right = record { no_letter = grind (arith, common_steps); high = grind (arith, common_steps); middle = grind (arith, common_steps); low = grind (arith, common_steps); value = grind (arith, common_steps) }

-- the escape of a byte gives it
read_escape : (o : Option ℕ) (b : ℕ) (rest : List ℕ) → written_right o b ≡ true
    → unquoted_behind 0 (escape_with o b ++ rest) ≡ prefixed (b ∷ []) (length (escape_with o b)) (unquoted_behind 0 rest)
read_escape (Some letter) b rest right = read_letter letter b rest (holds_is (byte_of_letter letter) b right)
  where
    holds_is : (o : Option ℕ) (n : ℕ) → holds o n ≡ true → o ≡ Some n
    holds_is None n is = cc
    holds_is (Some a) n is = let same : a ≡ n = grind (arith, common_steps) in rw same refl
read_escape None b rest right = read_octal (48 + b / 64) (48 + b / 8 % 8) (48 + b % 8) b rest (octal_of b right)

plain_byte : (b : ℕ) → needs_escape b ≡ false → (eqb b 34 ≡ false) × (eqb b 92 ≡ false)
plain_byte b plain = grind (arith, common_steps)

read_spelled : (t : Bool) (b : ℕ) (rest : List ℕ) → b < 256 → needs_escape b ≡ t
    → unquoted_behind 0 (cond t (escape_with (letter_of b) b) (b ∷ []) ++ rest)
    ≡ prefixed (b ∷ []) (length (cond t (escape_with (letter_of b) b) (b ∷ []))) (unquoted_behind 0 rest)
read_spelled true b rest small is = read_escape (letter_of b) b rest (byte_right b small)
read_spelled false b rest small is =
    let other : (eqb b 34 ≡ false) × (eqb b 92 ≡ false) = plain_byte b is in
    rw (other.0, other.1) refl

abbrev counted : List ℕ → ℕ → Answer
counted bytes n = Ok (bytes, n)

-- the whole path, and what follows the closing quote
read_path : (path behind : List ℕ) → ((i : ℕ) → get_or path i 0 < 256)
    → unquoted_behind 0 (flat_map spelled_byte path ++ 34 ∷ behind) ≡ Ok (path, length (flat_map spelled_byte path) + 1)
read_path [] behind small = refl
read_path (b ∷ path) behind small =
    let written : List ℕ = spelled_byte b in
    let later : List ℕ = flat_map spelled_byte path in
    let apart : (written ++ later) ++ 34 ∷ behind ≡ written ++ (later ++ 34 ∷ behind) = append_assoc written later (34 ∷ behind) in
    let first : unquoted_behind 0 (written ++ (later ++ 34 ∷ behind)) ≡ prefixed (b ∷ []) (length written) (unquoted_behind 0 (later ++ 34 ∷ behind)) =
    read_spelled (needs_escape b) b (later ++ 34 ∷ behind) (small 0) refl in
    let others : unquoted_behind 0 (later ++ 34 ∷ behind) ≡ Ok (path, length later + 1) = read_path path behind (λ i. small (suc i)) in
    let size : length written + (length later + 1) ≡ length (written ++ later) + 1 = omega (arith, length-append written later) in
    ap (unquoted_behind 0) apart ∙ first ∙ ap (prefixed (b ∷ []) (length written)) others ∙ ap (λ (n : ℕ). counted (b ∷ path) n) size

pub unquoted-quoted : (path behind : List ℕ) → ((i : ℕ) → get_or path i 0 < 256) → list_any needs_escape path ≡ true
    → unquoted (quoted path ++ behind) ≡ Ok (path, length (quoted path))
unquoted-quoted path behind small some =
    let body : List ℕ = flat_map spelled_byte path in
    let is_quoted : quoted path ≡ 34 ∷ (body ++ 34 ∷ []) = rw some refl in
    let apart : (body ++ 34 ∷ []) ++ behind ≡ body ++ 34 ∷ behind = append_assoc body (34 ∷ []) behind in
    let inner : unquoted_behind 0 ((body ++ 34 ∷ []) ++ behind) ≡ Ok (path, length body + 1) = ap (unquoted_behind 0) apart ∙ read_path path behind small in
    let size : 1 + (length body + 1) ≡ length (34 ∷ (body ++ 34 ∷ [])) = omega (arith, length-append body (34 ∷ [])) in
    let answer : unquoted ((34 ∷ (body ++ 34 ∷ [])) ++ behind) ≡ counted path (length (34 ∷ (body ++ 34 ∷ []))) =
    ap (prefixed [] 1) inner ∙ ap (counted path) size in
    let P : List ℕ → Type 0 = λ xs. unquoted (xs ++ behind) ≡ counted path (length xs) in
    subst P (sym is_quoted) answer

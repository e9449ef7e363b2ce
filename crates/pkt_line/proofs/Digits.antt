-- Four digits as a number, and back.
use Rattle.std.proofs.Common.{◌≡◌, ℕ, zero, suc, ◌+◌, ◌*◌, ◌<◌, List, [], ◌∷◌, length, Option, Some, None, Result, Ok}
use Rattle.std.proofs.Common.{Err, refl, sym, ap, ◌∙◌, arith}
use Rattle.std.specs.Prelude.{MatchResult}
use Rattle.std.specs.Int.{w16, from_be_bytes, to_be_bytes}
use Rattle.hex.specs.Hex.{IsBytes, lower_digits, hex_digit_value, decode_pairs, decode_sized, digit_or_error, ◌>>=◌}
use Rattle.hex.specs.declared.error.FromHexError.{FromHexError}
use Rattle.hex.proofs.HexLemmas.{length-encode_with, decode_pairs-encode_with, IsDigits-lower_digits}
use Rattle.std.proofs.lemmas.Nat.{from_be_bytes-to_be_bytes_2}
use Rattle.pkt_line.specs.Packets.{number_at, with_digit}
use Rattle.pkt_line.specs.Spelling.{four_digits}

-- what four digits decode to, by the values of the digits
abbrev IsNumber : Result (List ℕ) FromHexError → Option ℕ → Type 0
IsNumber r o = MatchResult r (λ bytes. o ≡ Some (from_be_bytes w16 bytes)) (λ e. o ≡ None)

four : (a b c d : ℕ) (x y z w : Option ℕ)
    → IsNumber
    ((digit_or_error a 0 x >>= (λ h. digit_or_error b 1 y >>= (λ l. Ok (h * 16 + l))))
    >>= (λ high. ((digit_or_error c 2 z >>= (λ h. digit_or_error d 3 w >>= (λ l. Ok (h * 16 + l)))) >>=
    (λ low. Ok (low ∷ []))) >>= (λ rest. Ok (high ∷ rest))))
    (with_digit (with_digit (with_digit x y) z) w)
four a b c d (Some x) (Some y) (Some z) (Some w) = ap Some (omega arith)
four a b c d None None None None = refl
four a b c d None None None (Some w) = refl
four a b c d None None (Some z) None = refl
four a b c d None None (Some z) (Some w) = refl
four a b c d None (Some y) None None = refl
four a b c d None (Some y) None (Some w) = refl
four a b c d None (Some y) (Some z) None = refl
four a b c d None (Some y) (Some z) (Some w) = refl
four a b c d (Some x) None None None = refl
four a b c d (Some x) None None (Some w) = refl
four a b c d (Some x) None (Some z) None = refl
four a b c d (Some x) None (Some z) (Some w) = refl
four a b c d (Some x) (Some y) None None = refl
four a b c d (Some x) (Some y) None (Some w) = refl
four a b c d (Some x) (Some y) (Some z) None = refl

-- four bytes decode to the bytes of the number that they give, and fail to decode if they give none
pub number_of-decode : (text : List ℕ) → length text ≡ 4 → IsNumber (decode_pairs 0 text) (number_at text)
unfolding number_at decode_pairs
number_of-decode [] e = absurd (omega arith)
number_of-decode (a ∷ []) e = absurd (omega arith)
number_of-decode (a ∷ b ∷ []) e = absurd (omega arith)
number_of-decode (a ∷ b ∷ c ∷ []) e = absurd (omega arith)
number_of-decode (a ∷ b ∷ c ∷ d ∷ []) e = four a b c d (hex_digit_value a) (hex_digit_value b) (hex_digit_value c)
    (hex_digit_value d)
number_of-decode (a ∷ b ∷ c ∷ d ∷ f ∷ more) e = absurd (omega arith)

sized : (text : List ℕ) → length text ≡ 4 → decode_sized text 2 ≡ decode_pairs 0 text
sized [] e = absurd (omega arith)
sized (a ∷ []) e = absurd (omega arith)
sized (a ∷ b ∷ []) e = absurd (omega arith)
sized (a ∷ b ∷ c ∷ []) e = absurd (omega arith)
sized (a ∷ b ∷ c ∷ d ∷ []) e = refl
sized (a ∷ b ∷ c ∷ d ∷ f ∷ more) e = absurd (omega arith)

-- what a call of the decoder ensures
abbrev Decodes : Result (List ℕ) FromHexError → Result (Unit {0}) FromHexError → List ℕ → Type 0
Decodes d r out = MatchResult d (λ bytes. (r ≡ Ok tt) × (out ≡ bytes)) (λ e. r ≡ Err e)

some_of : (d : Result (List ℕ) FromHexError) (o : Option ℕ) (r : Result (Unit {0}) FromHexError) (out : List ℕ)
    (u : Unit {0})
    → IsNumber d o → Decodes d r out → r ≡ Ok u → o ≡ Some (from_be_bytes w16 out)
some_of (Ok bytes) o r out u n m e = n ∙ ap (λ (b : List ℕ). Some (from_be_bytes w16 b)) (sym m.1)
some_of (Err x) o r out u n m e = cc

none_of : (d : Result (List ℕ) FromHexError) (o : Option ℕ) (r : Result (Unit {0}) FromHexError) (out : List ℕ)
    (x : FromHexError)
    → IsNumber d o → Decodes d r out → r ≡ Err x → o ≡ None
none_of (Ok bytes) o r out x n m e = let h = m.0 in cc
none_of (Err y) o r out x n m e = n

pub number_at-ok : (text : List ℕ) (r : Result (Unit {0}) FromHexError) (out : List ℕ) (u : Unit {0}) → length text ≡ 4
    → Decodes (decode_sized text 2) r out → r ≡ Ok u → number_at text ≡ Some (from_be_bytes w16 out)
number_at-ok text r out u len d e = some_of (decode_pairs 0 text) (number_at text) r out u (number_of-decode text len)
    (rw (sized text len) at d) e

pub number_at-err : (text : List ℕ) (r : Result (Unit {0}) FromHexError) (out : List ℕ) (x : FromHexError)
    → length text ≡ 4
    → Decodes (decode_sized text 2) r out → r ≡ Err x → number_at text ≡ None
number_at-err text r out x len d e = none_of (decode_pairs 0 text) (number_at text) r out x (number_of-decode text len)
    (rw (sized text len) at d) e

bytes_fit : (n : ℕ) → IsBytes (to_be_bytes w16 n)
bytes_fit n zero = omega arith
bytes_fit n (suc zero) = omega arith
bytes_fit n (suc (suc i)) = omega arith

-- the digits that are written for a number give the number
pub number_at-digits : (n : ℕ) → n < 65536 → number_at (four_digits n) ≡ Some n
number_at-digits n small =
    let bytes = to_be_bytes w16 n in
    let fits : IsBytes bytes = bytes_fit n in
    let len = length-encode_with lower_digits bytes in
    let back : decode_pairs 0 (four_digits n) ≡ Ok bytes = decode_pairs-encode_with lower_digits IsDigits-lower_digits 0
    bytes fits in
    let told = number_of-decode (four_digits n) (omega (arith, len)) in
    rw back at told ∙ ap Some (from_be_bytes-to_be_bytes_2 n small)

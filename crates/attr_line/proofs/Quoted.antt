-- A quoted text is within the text that begins with it.
use Rattle.std.proofs.Common.{◌≡◌, ℕ, zero, suc, ◌+◌, ◌<◌, ◌≤◌, Bool, true, false, eqb, List, [], ◌∷◌, length, drop, Option, Some, None, Result, Ok, Err, ap, arith, length-drop}
use Rattle.byte_path.specs.declared.unquoted.QuoteFault.{QuoteFault}
use Rattle.byte_path.specs.Unquote.{prefixed, escaped, escape_at, from_byte, unquoted_behind, unquoted}

abbrev size_of : Result (List ℕ × ℕ) QuoteFault → ℕ
size_of (Ok answer) = answer.1
size_of (Err fault) = 0

prefixed-size : (bytes : List ℕ) (n : ℕ) (r : Result (List ℕ × ℕ) QuoteFault) → size_of (prefixed bytes n r) ≤ n + size_of r
prefixed-size bytes n (Ok answer) = omega arith
prefixed-size bytes n (Err fault) = omega arith

escaped-size : (o : Option (ℕ × ℕ)) (behind : ℕ → Result (List ℕ × ℕ) QuoteFault) (most : ℕ) → ((skip : ℕ) → size_of (behind skip) ≤ most) → size_of (escaped o behind) ≤ suc most
escaped-size None behind most within = omega arith
escaped-size (Some escape) behind most within = omega (arith, prefixed-size (escape.0 ∷ []) 1 (behind escape.1), within escape.1)

from_byte-size : (quote backslash : Bool) (b : ℕ) (text : List ℕ) (behind : ℕ → Result (List ℕ × ℕ) QuoteFault) (most : ℕ) → ((skip : ℕ) → size_of (behind skip) ≤ most)
    → size_of (from_byte quote backslash b text behind) ≤ suc most
from_byte-size true backslash b text behind most within = omega arith
from_byte-size false true b text behind most within = escaped-size (escape_at text) behind most within
from_byte-size false false b text behind most within = omega (arith, prefixed-size (b ∷ []) 1 (behind 0), within 0)

behind-size : (text : List ℕ) (skip : ℕ) → size_of (unquoted_behind skip text) ≤ length text
behind-size [] skip = omega arith
behind-size (b ∷ text) (suc skip) = omega (arith, prefixed-size [] 1 (unquoted_behind skip text), behind-size text skip)
behind-size (b ∷ text) zero = from_byte-size (eqb b 34) (eqb b 92) b text (λ skip. unquoted_behind skip text) (length text) (behind-size text)

read_one : (text bytes : List ℕ) (n : ℕ) → 0 < length text → unquoted text ≡ Ok (bytes, n) → n ≤ length text
read_one text bytes n some is =
    let size : size_of (unquoted text) ≡ n = ap size_of is in
    omega (arith, size, prefixed-size [] 1 (unquoted_behind 0 (drop 1 text)), behind-size (drop 1 text) 0, length-drop 1 text)

pub unquoted-within : (text bytes : List ℕ) (n : ℕ) → unquoted text ≡ Ok (bytes, n) → n ≤ length text
unquoted-within [] bytes n is = cc
unquoted-within (b ∷ text) bytes n is = read_one (b ∷ text) bytes n (omega arith) is

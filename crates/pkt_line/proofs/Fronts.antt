-- What is at the front of the bytes.
use Rattle.std.proofs.Common.{◌≡◌, ℕ, zero, suc, ◌+◌, ◌<◌, ◌≤◌, List, [], ◌∷◌, length, take, drop, Some, refl, sym, ap}
use Rattle.std.proofs.Common.{◌∙◌, arith}
use Rattle.std.proofs.Math.Seq.{drop-nil}
use Rattle.std.proofs.lemmas.List.{length-take, length-drop, get_or-take}
use Rattle.pkt_line.specs.Packets.{Payload, Flush, number_at, Spells}

pub number_at-take : (n : ℕ) (bytes : List ℕ) → 4 ≤ n → number_at (take n bytes) ≡ number_at bytes
unfolding number_at
number_at-take n bytes le =
    let a : 0 < n = omega arith in
    let b : 1 < n = omega arith in
    let c : 2 < n = omega arith in
    let d : 3 < n = omega arith in
    rw (get_or-take n bytes 0 0 a, get_or-take n bytes 1 0 b, get_or-take n bytes 2 0 c, get_or-take n bytes 3 0 d) refl

no_more : (n : ℕ) (bytes : List ℕ) → length bytes ≤ n → drop n bytes ≡ []
no_more n [] le = drop-nil n
no_more zero (b ∷ bytes) le = absurd (omega arith)
no_more (suc n) (b ∷ bytes) le = no_more n bytes (omega arith)

pub flush_stands : (bytes : List ℕ) → 4 ≤ length bytes → number_at bytes ≡ Some 0 → Spells Flush (take 4 bytes)
flush_stands bytes long e = record {
  number = number_at-take 4 bytes (omega arith) ∙ e;
  limit = omega arith;
  sized = omega (arith, length-take 4 bytes);
  payload = no_more 4 (take 4 bytes) (omega (arith, length-take 4 bytes));
}

pub payload_stands : (n : ℕ) (bytes piece : List ℕ) → 4 ≤ n → n ≤ 65520 → n ≤ length bytes → number_at bytes ≡ Some n
    → piece ≡ drop 4 (take n bytes) → Spells (Payload piece) (take (4 + length piece) bytes)
payload_stands n bytes piece some few long e p =
    let len : 4 + length piece ≡ n = omega (arith, ap length p, length-drop 4 (take n bytes), length-take n bytes) in
    rw len (record {
      number = number_at-take n bytes some ∙ (e ∙ ap Some (sym len));
      limit = omega arith;
      sized = omega (arith, length-take n bytes);
      payload = sym p;
    })

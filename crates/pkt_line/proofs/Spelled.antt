-- What the writers append spells its packet.
use Rattle.std.proofs.Common.{◌≡◌, ℕ, ◌+◌, ◌≤◌, length, refl, ap, ◌∙◌, arith}
use Rattle.std.proofs.lemmas.List.{length-append, drop_at}
use Rattle.std.specs.Int.{w16, to_be_bytes}
use Rattle.hex.specs.Hex.{lower_digits}
use Rattle.hex.proofs.HexLemmas.{length-encode_with}
use Rattle.pkt_line.specs.Packets.{Packet, Payload, Flush, Spells, pkt_len, payload_of, size}
use Rattle.pkt_line.specs.Spelling.{spelling, four_digits}
use Rattle.pkt_line.proofs.Digits.{number_at-digits}
use Rattle.pkt_line.proofs.PrefixFree.{number_front}

four_long : (n : ℕ) → length (four_digits n) ≡ 4
four_long n = length-encode_with lower_digits (to_be_bytes w16 n)

size_is : (p : Packet) → 4 + length (payload_of p) ≡ size p
size_is (Payload bytes) = refl
size_is Flush = refl

pub spells : (p : Packet) → pkt_len p ≤ 65520 → Spells p (spelling p)
spells p le =
    let digits = four_digits (pkt_len p) in
    let four = four_long (pkt_len p) in
    record {
      number = number_front digits (payload_of p) (omega arith) ∙ number_at-digits (pkt_len p) (omega arith);
      limit = le;
      sized = length-append digits (payload_of p) ∙ (ap (λ (n : ℕ). n + length (payload_of p)) four ∙ size_is p);
      payload = drop_at digits (payload_of p) 4 four;
    }

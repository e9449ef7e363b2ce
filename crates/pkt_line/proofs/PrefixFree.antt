-- No packet's spelling begins another's.
use Rattle.std.proofs.Common.{◌≡◌, ℕ, ◌≤◌, List, ◌++◌, length, take, drop, Some, refl, sym, ap, ◌∙◌, arith}
use Rattle.std.proofs.lemmas.List.{take_at, drop_at}
use Rattle.pkt_line.specs.Packets.{Packet, Payload, Flush, number_at, Spells, size, pkt_len, payload_of}
use Rattle.pkt_line.proofs.Fronts.{number_at-take}

-- the number is read from the front
pub number_front : (a x : List ℕ) → 4 ≤ length a → number_at (a ++ x) ≡ number_at a
number_front a x long = sym (number_at-take (length a) (a ++ x) long) ∙ ap number_at (take_at a x (length a) refl)

pub at_least : (p : Packet) → 4 ≤ size p
at_least (Payload bytes) = omega arith
at_least Flush = omega arith

-- a length says how many bytes a packet takes
size_of : (p q : Packet) → pkt_len p ≡ pkt_len q → size p ≡ size q
size_of (Payload a) (Payload b) e = e
size_of (Payload a) Flush e = absurd (omega arith)
size_of Flush (Payload b) e = absurd (omega arith)
size_of Flush Flush e = refl

same_packet : (p q : Packet) → pkt_len p ≡ pkt_len q → payload_of p ≡ payload_of q → p ≡ q
same_packet (Payload a) (Payload b) e f = ap Payload f
same_packet (Payload a) Flush e f = absurd (omega arith)
same_packet Flush (Payload b) e f = absurd (omega arith)
same_packet Flush Flush e f = refl

some_same : (m n : ℕ) → Some m ≡ Some n → m ≡ n
some_same m n e = cc

pub prefix_free : (p q : Packet) (a b x y : List ℕ) → Spells p a → Spells q b → a ++ x ≡ b ++ y → (p ≡ q) × (a ≡ b)
    × (x ≡ y)
prefix_free p q a b x y s t e =
    let la = s.sized in
    let lb = t.sized in
    let ma = at_least p in
    let mb = at_least q in
    let na : number_at (a ++ x) ≡ Some (pkt_len p) = number_front a x (omega arith) ∙ s.number in
    let nb : number_at (b ++ y) ≡ Some (pkt_len q) = number_front b y (omega arith) ∙ t.number in
    let w : pkt_len p ≡ pkt_len q = some_same (pkt_len p) (pkt_len q) (sym na ∙ (ap number_at e ∙ nb)) in
    let z : size p ≡ size q = size_of p q w in
    let same : a ≡ b = sym (take_at a x (size p) la) ∙ (ap (take (size p)) e ∙ take_at b y (size p) (omega arith)) in
    let rest : x ≡ y = sym (drop_at a x (size p) la) ∙ (ap (drop (size p)) e ∙ drop_at b y (size p) (omega arith)) in
    (same_packet p q w (sym s.payload ∙ (ap (drop 4) same ∙ t.payload)), same, rest)

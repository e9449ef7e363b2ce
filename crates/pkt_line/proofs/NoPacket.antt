-- Bytes with no packet at their front, and that bytes can be read in one way only.
use Rattle.std.proofs.Common.{◌≡◌, inl, inr, ℕ, ◌+◌, ◌≤◌, List, [], ◌∷◌, ◌++◌, length, take, drop, Option, Some, Result}
use Rattle.std.proofs.Common.{Ok, Err, refl, sym, ap, subst, ◌∙◌, append_assoc, arith}
use Rattle.std.proofs.lemmas.List.{length-append, take-append-drop}
use Rattle.pkt_line.specs.Packets.{Packet, Payload, Flush, Spells, SpellAll, Stands, IsPartial, IsShortOf, HasBadDigits}
use Rattle.pkt_line.specs.Packets.{HasBadLength, HasFault, HasNoPacket, HasPacketOf, IsBadLength, number_at, pkt_len}
use Rattle.pkt_line.specs.Packets.{size}
use Rattle.pkt_line.specs.Reading.{Reading, Move, Took, Gave, MovesAll, with_bytes}
use Rattle.pkt_line.specs.Reader.{Answer, Gives, Wants, Refuses, answer_of, Peeks, IsFaultOf}
use Rattle.pkt_line.specs.declared.reader.Next.{Next}
use Rattle.pkt_line.specs.declared.reader.Next.TheVariants as next
use Rattle.pkt_line.specs.declared.reader.PktFault.{PktFault}
use Rattle.pkt_line.specs.declared.reader.PktFault.TheVariants as fault
use Rattle.pkt_line.proofs.PrefixFree.{prefix_free, number_front, at_least}

some_same : (m n : ℕ) → Some m ≡ Some n → m ≡ n
some_same m n e = cc

-- what a packet at the front shows
record ShowsPacket (p : Packet) (bytes : List ℕ) : Type 0 where
  pub number : number_at bytes ≡ Some (pkt_len p)
  pub limit : pkt_len p ≤ 65520
  pub long : size p ≤ length bytes

shows : (p : Packet) (head rest bytes : List ℕ) → Spells p head → bytes ≡ head ++ rest → ShowsPacket p bytes
shows p head rest bytes s e =
    let len = s.sized in
    record {
      number = ap number_at e ∙ (number_front head rest (omega (arith, at_least p)) ∙ s.number);
      limit = s.limit;
      long = omega (arith, ap length e, length-append head rest);
    }

short_of : (p : Packet) (k : ℕ) → IsShortOf (Some (pkt_len p)) k → size p ≤ k → ⊥
short_of (Payload bytes) k h le = let l = h.2 in omega arith
short_of Flush k h le = let l = h.0 in omega arith

good_length : (p : Packet) → pkt_len p ≤ 65520 → IsBadLength (pkt_len p) → ⊥
good_length (Payload bytes) le (inl b) = let c = b.1 in omega arith
good_length (Payload bytes) le (inr b) = omega arith
good_length Flush le (inl b) = let c = b.0 in omega arith
good_length Flush le (inr b) = omega arith

not_partial : (p : Packet) (bytes : List ℕ) → ShowsPacket p bytes → IsPartial bytes → ⊥
not_partial p bytes s (inl few) = let l = s.long in omega (arith, at_least p)
not_partial p bytes s (inr more) =
    short_of p (length bytes) (subst (λ (o : Option ℕ). IsShortOf o (length bytes)) s.number more) s.long

not_digits : (p : Packet) (bytes : List ℕ) → ShowsPacket p bytes → HasBadDigits bytes → ⊥
not_digits p bytes s h = let a = s.number in let b = h.1 in cc

not_length : (p : Packet) (bytes : List ℕ) (n : ℕ) → ShowsPacket p bytes → HasBadLength bytes n → ⊥
not_length p bytes n s h =
    good_length p s.limit (subst IsBadLength (some_same n (pkt_len p) (sym h.1 ∙ s.number)) h.2)

not_none : (p : Packet) (bytes : List ℕ) → ShowsPacket p bytes → HasNoPacket bytes → ⊥
not_none p bytes s (inl part) = not_partial p bytes s part
not_none p bytes s (inr (inl h)) = not_digits p bytes s h
not_none p bytes s (inr (inr h)) = not_length p bytes h.0 s h.1

pub not_at_front : (p : Packet) (head rest : List ℕ) → Spells p head → HasNoPacket (head ++ rest) → ⊥
not_at_front p head rest s none = not_none p (head ++ rest) (shows p head rest (head ++ rest) s refl) none

-- ---- lists of packets

same_fronts : (p q : Packet) (h k r s x y : List ℕ) → Spells p h → Spells q k → (h ++ r) ++ x ≡ (k ++ s) ++ y
    → (p ≡ q) × (h ≡ k) × (r ++ x ≡ s ++ y)
same_fronts p q h k r s x y a b e =
    prefix_free p q h k (r ++ x) (s ++ y) a b (sym (append_assoc h r x) ∙ (e ∙ append_assoc k s y))

-- what follows packets, with the packets spelled out
spelled_apart : (a b x y h r k s : List ℕ) → a ≡ h ++ r → b ≡ k ++ s → a ++ x ≡ b ++ y → (h ++ r) ++ x ≡ (k ++ s) ++ y
spelled_apart a b x y h r k s ea eb e = sym (ap (λ (z : List ℕ). z ++ x) ea) ∙ (e ∙ ap (λ (z : List ℕ). z ++ y) eb)

none_then_some : (q : Packet) (b x y k s : List ℕ) → Spells q k → b ≡ k ++ s → x ≡ b ++ y → HasNoPacket x → ⊥
none_then_some q b x y k s t eb e none =
    not_none q x (shows q k (s ++ y) x t (e ∙ (ap (λ (z : List ℕ). z ++ y) eb ∙ append_assoc k s y))) none

pub one_reading : (ps qs : List Packet) (a b x y : List ℕ) → SpellAll ps a → SpellAll qs b → a ++ x ≡ b ++ y
    → HasNoPacket x → HasNoPacket y
    → (ps ≡ qs) × (a ≡ b) × (x ≡ y)
one_reading [] [] a b x y sa sb e nx ny =
    (refl, sa ∙ sym sb, sym (ap (λ (z : List ℕ). z ++ x) sa) ∙ (e ∙ ap (λ (z : List ℕ). z ++ y) sb))
one_reading [] (q ∷ qs) a b x y sa sb e nx ny =
    absurd (none_then_some q b x y sb.0 sb.1 sb.2 sb.4 (sym (ap (λ (z : List ℕ). z ++ x) sa) ∙ e) nx)
one_reading (p ∷ ps) [] a b x y sa sb e nx ny =
    absurd (none_then_some p a y x sa.0 sa.1 sa.2 sa.4 (sym (ap (λ (z : List ℕ). z ++ y) sb) ∙ sym e) ny)
one_reading (p ∷ ps) (q ∷ qs) a b x y sa sb e nx ny =
    let s = same_fronts p q sa.0 sb.0 sa.1 sb.1 x y sa.2 sb.2 (spelled_apart a b x y sa.0 sa.1 sb.0 sb.1 sa.4 sb.4 e) in
    let rest = one_reading ps qs sa.1 sb.1 x y sa.3 sb.3 s.2 nx ny in (
      ap (λ (z : Packet). z ∷ ps) s.0 ∙ ap (λ (z : List Packet). q ∷ z) rest.0,
      sa.4 ∙ (ap (λ (z : List ℕ). z ++ sa.1) s.1 ∙ (ap (λ (z : List ℕ). sb.0 ++ z) rest.1 ∙ sym sb.4)),
      rest.2,
    )

-- ---- answers

abbrev Holds : Answer → Reading → Type 0
Holds (Gives p) r = Stands p r.unread
Holds Wants r = IsPartial r.unread
Holds (Refuses f) r = IsFaultOf f r

holds : (a : Result Next PktFault) (r : Reading) → Peeks a r → Holds (answer_of a) r
holds (Ok (next.Payload piece)) r h = h
holds (Ok next.Flush) r h = h
holds (Ok next.NeedMore) r h = h
holds (Err f) r h = h

shows_here : (p : Packet) (bytes : List ℕ) → Stands p bytes → ShowsPacket p bytes
shows_here p bytes s = shows p (take (size p) bytes) (drop (size p) bytes) bytes s
    (sym (take-append-drop (size p) bytes))

no_fault : (p : Packet) (f : PktFault) (r : Reading) → Stands p r.unread → IsFaultOf f r → ⊥
no_fault p (fault.BadDigits place) r s h = not_digits p r.unread (shows_here p r.unread s) h.0
no_fault p (fault.BadLength place n) r s h = not_length p r.unread n (shows_here p r.unread s) h.0

short_is_good : (n k : ℕ) → IsShortOf (Some n) k → IsBadLength n → ⊥
short_is_good n k h (inl b) = let x = h.0 in let y = b.1 in omega arith
short_is_good n k h (inr b) = let x = h.1 in omega arith

partial_digits : (bytes : List ℕ) → IsPartial bytes → HasBadDigits bytes → ⊥
partial_digits bytes (inl few) h = let l = h.0 in omega arith
partial_digits bytes (inr more) h = subst (λ (o : Option ℕ). IsShortOf o (length bytes)) h.1 more

partial_length : (bytes : List ℕ) (n : ℕ) → IsPartial bytes → HasBadLength bytes n → ⊥
partial_length bytes n (inl few) h = let l = h.0 in omega arith
partial_length bytes n (inr more) h =
    short_is_good n (length bytes) (subst (λ (o : Option ℕ). IsShortOf o (length bytes)) h.1 more) h.2

pub partial_fault : (bytes : List ℕ) → IsPartial bytes → HasFault bytes → ⊥
partial_fault bytes part (inl h) = partial_digits bytes part h
partial_fault bytes part (inr h) = partial_length bytes h.0 part h.1

no_want : (f : PktFault) (r : Reading) → IsPartial r.unread → IsFaultOf f r → ⊥
no_want (fault.BadDigits place) r part h = partial_digits r.unread part h.0
no_want (fault.BadLength place n) r part h = partial_length r.unread n part h.0

one_fault : (f g : PktFault) (r : Reading) → IsFaultOf f r → IsFaultOf g r → f ≡ g
one_fault (fault.BadDigits a) (fault.BadDigits b) r h k = ap fault.BadDigits (h.1 ∙ sym k.1)
one_fault (fault.BadDigits a) (fault.BadLength b n) r h k = let x = h.0.1 in let y = k.0.1 in cc
one_fault (fault.BadLength a m) (fault.BadDigits b) r h k = let x = h.0.1 in let y = k.0.1 in cc
one_fault (fault.BadLength a m) (fault.BadLength b n) r h k =
    let x = h.1 ∙ sym k.1 in
    let y = some_same m n (sym h.0.1 ∙ k.0.1) in cc

one_packet : (p q : Packet) (bytes : List ℕ) → Stands p bytes → Stands q bytes → p ≡ q
one_packet p q bytes s t =
    let whole = take-append-drop (size p) bytes ∙ sym (take-append-drop (size q) bytes) in
    let same = prefix_free p q (take (size p) bytes) (take (size q) bytes) (drop (size p) bytes) (drop (size q) bytes) s
    t whole in
    same.0

one_of : (a b : Answer) (r : Reading) → Holds a r → Holds b r → a ≡ b
one_of (Gives p) (Gives q) r h k = ap Gives (one_packet p q r.unread h k)
one_of (Gives p) Wants r h k = absurd (not_partial p r.unread (shows_here p r.unread h) k)
one_of (Gives p) (Refuses f) r h k = absurd (no_fault p f r h k)
one_of Wants (Gives q) r h k = absurd (not_partial q r.unread (shows_here q r.unread k) h)
one_of Wants Wants r h k = refl
one_of Wants (Refuses f) r h k = absurd (no_want f r h k)
one_of (Refuses f) (Gives q) r h k = absurd (no_fault q f r k h)
one_of (Refuses f) Wants r h k = absurd (no_want f r k h)
one_of (Refuses f) (Refuses g) r h k = ap Refuses (one_fault f g r h k)

pub one_answer : (a b : Result Next PktFault) (r : Reading) → Peeks a r → Peeks b r → answer_of a ≡ answer_of b
one_answer a b r h k = one_of (answer_of a) (answer_of b) r (holds a r h) (holds b r k)

longer : (bytes more : List ℕ) → 4 ≤ length bytes → 4 ≤ length (bytes ++ more)
longer bytes more le = omega (arith, length-append bytes more)

digits_stay : (bytes more : List ℕ) → HasBadDigits bytes → HasBadDigits (bytes ++ more)
digits_stay bytes more h = (longer bytes more h.0, number_front bytes more h.0 ∙ h.1)

length_stays : (bytes more : List ℕ) (n : ℕ) → HasBadLength bytes n → HasBadLength (bytes ++ more) n
length_stays bytes more n h = (longer bytes more h.0, number_front bytes more h.0 ∙ h.1, h.2)

pub fault_more : (bytes more : List ℕ) → HasFault bytes → HasFault (bytes ++ more)
fault_more bytes more (inl h) = inl (digits_stay bytes more h)
fault_more bytes more (inr h) = inr (h.0, length_stays bytes more h.0 h.1)

pub fault_stays : (f : PktFault) (r : Reading) (more : List ℕ) → IsFaultOf f r → IsFaultOf f (with_bytes more r)
fault_stays (fault.BadDigits place) r more h = (digits_stay r.unread more h.0, h.1)
fault_stays (fault.BadLength place n) r more h = (length_stays r.unread more n h.0, h.1)

-- whatever is called
pub fault_kept : (f : PktFault) (r s : Reading) (moves : List Move) → IsFaultOf f r → MovesAll r moves s → IsFaultOf f s
fault_kept f r s [] h m = subst (IsFaultOf f) m h
fault_kept f r s (Took piece ∷ moves) h m =
    fault_kept f m.0 s moves (subst (IsFaultOf f) (sym m.1) (fault_stays f r piece h)) m.2
fault_kept f r s (Gave p ∷ moves) h m = absurd (no_fault p f r m.1.0 h)

-- a packet at the front takes no more bytes than there are
pub packet_within : (count : ℕ) (bytes : List ℕ) → HasPacketOf count bytes → count ≤ length bytes
packet_within count bytes h = let s = (shows_here h.0 bytes h.1).long in let n = h.2 in omega arith

pub flush_there : (bytes : List ℕ) → Stands Flush bytes → HasPacketOf 4 bytes
flush_there bytes s = (Flush, s, refl)

pub payload_there : (piece bytes : List ℕ) → Stands (Payload piece) bytes → HasPacketOf (4 + length piece) bytes
payload_there piece bytes s = (Payload piece, s, refl)

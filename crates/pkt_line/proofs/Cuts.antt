-- However the input is cut, a reader gives the packets that the bytes spell.
use Rattle.std.proofs.Common.{◌≡◌, ℕ, ◌+◌, ◌-◌, ◌^◌, min, List, [], ◌∷◌, ◌++◌, length, take, drop, refl, sym, ap, ◌∙◌}
use Rattle.std.proofs.Common.{append_assoc, arith}
use Rattle.std.proofs.lemmas.List.{length-append, append-nil, take-append-drop}
use Rattle.pkt_line.specs.Packets.{Packet, Spells, SpellAll, Stands, size}
use Rattle.pkt_line.specs.Reading.{Reading, Move, Took, Gave, MovesAll, IsRead, bytes_taken, packets_given, with_bytes}
use Rattle.pkt_line.specs.Reading.{without}

-- one more packet after others
pub spell_more : (ps : List Packet) (p : Packet) (a b : List ℕ) → SpellAll ps a → Spells p b
    → SpellAll (ps ++ p ∷ []) (a ++ b)
spell_more [] p a b s t = (b, [], t, refl, ap (λ (z : List ℕ). z ++ b) s ∙ sym (append-nil b))
spell_more (q ∷ ps) p a b s t =
    (s.0, s.1 ++ b, s.2, spell_more ps p s.1 b s.3 t, ap (λ (z : List ℕ). z ++ b) s.4 ∙ append_assoc s.0 s.1 b)

abbrev most : ℕ
most = 2 ^ 64 - 1

-- what the moves so far did
record SoFar (took : List ℕ) (gave : List Packet) (read : List ℕ) (r : Reading) : Type 0 where
  pub spelled : SpellAll gave read
  pub whole : took ≡ read ++ r.unread
  pub counted : r.place ≡ min (length read) most

counts : (n k place most : ℕ) → place ≡ min n most → min (place + k) most ≡ min (n + k) most
counts n k place most e = omega arith

after_took : (took read piece : List ℕ) (gave : List Packet) (r s : Reading) → SoFar took gave read r
    → s ≡ with_bytes piece r
    → SoFar (took ++ piece) gave read s
after_took took read piece gave r s f e = record {
  spelled = f.spelled;
  whole = ap (λ (z : List ℕ). z ++ piece) f.whole
      ∙ (append_assoc read r.unread piece ∙ ap (λ (z : Reading). read ++ z.unread) (sym e));
  counted = ap (λ (z : Reading). z.place) e ∙ f.counted;
}

after_gave : (took read : List ℕ) (gave : List Packet) (p : Packet) (r s : Reading) → SoFar took gave read r
    → Stands p r.unread → s ≡ without (size p) r
    → SoFar took (gave ++ p ∷ []) (read ++ take (size p) r.unread) s
after_gave took read gave p r s f t e =
    let len = length-append read (take (size p) r.unread) ∙ ap (λ (n : ℕ). length read + n) t.sized in
    record {
      spelled = spell_more gave p read (take (size p) r.unread) f.spelled t;
      whole =
          f.whole
          ∙ (ap (λ (z : List ℕ). read ++ z) (sym (take-append-drop (size p) r.unread))
          ∙ (sym (append_assoc read (take (size p) r.unread) (drop (size p) r.unread))
          ∙ ap (λ (z : Reading). (read ++ take (size p) r.unread) ++ z.unread) (sym e)));
      counted =
          ap (λ (z : Reading). z.place) e
          ∙ (counts (length read) (size p) r.place most f.counted ∙ ap (λ (n : ℕ). min n most) (sym len));
    }

run : (moves : List Move) (took read : List ℕ) (gave : List Packet) (r t : Reading) → SoFar took gave read r
    → MovesAll r moves t
    → IsRead (took ++ bytes_taken moves) (gave ++ packets_given moves) t
run [] took read gave r t f e = record {
  read = read;
  spelled = rw append-nil f.spelled;
  whole = append-nil took ∙ (f.whole ∙ ap (λ (z : Reading). read ++ z.unread) e);
  counted = ap (λ (z : Reading). z.place) (sym e) ∙ f.counted;
}
run (Took piece ∷ moves) took read gave r t f m =
    rw (← append_assoc took piece (bytes_taken moves))
    (run moves (took ++ piece) read gave m.0 t (after_took took read piece gave r m.0 f m.1) m.2)
run (Gave p ∷ moves) took read gave r t f m =
    rw (← append_assoc gave (p ∷ []) (packets_given moves))
    (run moves took (read ++ take (size p) r.unread) (gave ++ p ∷ []) m.0 t
    (after_gave took read gave p r m.0 f m.1.0 m.1.1) m.2)

pub given_so_far : (moves : List Move) (left : Reading) → MovesAll (record { unread = []; place = 0 }) moves left
    → IsRead (bytes_taken moves) (packets_given moves) left
given_so_far moves left m =
    run moves [] [] [] (record { unread = []; place = 0 }) left
    (record { spelled = refl; whole = refl; counted = refl }) m

-- A content is written piece by piece.
use Rattle.std.proofs.Common.{◌≡◌, ℕ, suc, ◌+◌, ◌-◌, ◌*◌, ◌≤◌, min, List, ◌∷◌, ◌++◌, length, take, drop, refl, sym, ap}
use Rattle.std.proofs.Common.{◌∙◌, arith, append_assoc}
use Rattle.std.proofs.lemmas.List.{length-drop, length-take, take_min, drop_min}
use Rattle.pkt_line.specs.Packets.{Payload}
use Rattle.pkt_line.specs.Spelling.{four_digits, spelling_all, content_packets, piece_count}

-- a part of the content is written, and there is room for the rest
pub record IsUnderway (old content out rest : List ℕ) (len capacity : ℕ) : Type 0 where
  pub items : out ++ spelling_all (content_packets rest) ≡ old ++ spelling_all (content_packets content)
  pub room : len + (length rest + 4 * piece_count (length rest)) ≤ capacity

-- without one piece there is one piece fewer
pub piece_count-drop : (n : ℕ) → 1 ≤ n → piece_count n ≡ suc (piece_count (n - 65516))
piece_count-drop n some = omega arith

pub content_packets-cut : (rest : List ℕ) → 1 ≤ length rest
    → content_packets rest ≡ Payload (take 65516 rest) ∷ content_packets (drop 65516 rest)
content_packets-cut rest some =
    let e : piece_count (length rest) ≡ suc (piece_count (length (drop 65516 rest))) =
    piece_count-drop (length rest) some ∙ ap (λ (n : ℕ). suc (piece_count n)) (sym (length-drop 65516 rest)) in
    rw e refl

-- before the first piece
pub underway_first : (old out content : List ℕ) (len capacity : ℕ) → out ≡ old
    → len + (length content + 4 * piece_count (length content)) ≤ capacity
    → IsUnderway out content out content len capacity
underway_first old out content len capacity e room = record { items = refl; room = room }

-- one more piece
pub underway_next : (old content out rest digits piece after next : List ℕ) (len capacity len' capacity' : ℕ)
    → IsUnderway old content out rest len capacity → 1 ≤ length rest
    → piece ≡ take (min 65516 (length rest)) rest → after ≡ drop (min 65516 (length rest)) rest
    → digits ≡ out ++ four_digits (4 + length piece) → next ≡ digits ++ piece
    → len' ≡ len + 4 + length piece → capacity ≤ capacity'
    → IsUnderway old content next after len' capacity'
underway_next old content out rest digits piece after next len capacity len' capacity' u some p a d n l c =
    let p2 : piece ≡ take 65516 rest = p ∙ take_min 65516 rest in
    let a2 : after ≡ drop 65516 rest = a ∙ drop_min 65516 rest in
    let cut = content_packets-cut rest some in
    let room = u.room in
    let fewer = piece_count-drop (length rest) some in
    let after_len : length after ≡ length rest - 65516 = ap length a2 ∙ length-drop 65516 rest in
    let piece_len : length piece ≡ min 65516 (length rest) = ap length p2 ∙ length-take 65516 rest in
    let pieces : piece_count (length after) ≡ piece_count (length rest - 65516) = ap piece_count after_len in
    let tail = spelling_all (content_packets (drop 65516 rest)) in
    let digits_of = four_digits (4 + length piece) in
    let head : spelling_all (content_packets rest) ≡ (digits_of ++ piece) ++ tail =
    ap spelling_all cut ∙ ap (λ (x : List ℕ). (four_digits (4 + length x) ++ x) ++ tail) (sym p2) in
    let all : ((out ++ digits_of) ++ piece) ++ tail ≡ out ++ spelling_all (content_packets rest) =
    append_assoc (out ++ digits_of) piece tail
    ∙ (append_assoc out digits_of (piece ++ tail)
    ∙ ap (λ (x : List ℕ). out ++ x) (sym (append_assoc digits_of piece tail) ∙ sym head)) in
    record { items = rw (n, d, a2) (all ∙ u.items); room = omega arith }

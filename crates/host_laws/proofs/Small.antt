-- What a host answers is packets of the standard's length.
use Rattle.std.proofs.Common.{◌≡◌, ℕ, zero, suc, ◌+◌, ◌≤◌, inl, inr, Bool, true, false, List, [], ◌∷◌, ◌++◌, length, map, drop}
use Rattle.std.proofs.Common.{refl, sym, subst, arith, length-take}
use Rattle.std.specs.Prelude.{codes, nat_le}
use Rattle.std.proofs.lemmas.Grind.{common_steps}
use Rattle.pkt_line.specs.Packets.{Packet, Payload, Flush, Spells, SpellAll, pkt_len, total}
use Rattle.pkt_line.specs.Spelling.{spelling, spelling_all, pieces_of, piece_count, content_packets}
use Rattle.filter_words.specs.Outcomes.{outcome, limit}
use Rattle.filter_words.specs.declared.answer_state.AnswerState.{AnswerState}
use Rattle.filter_words.specs.declared.answer_state.AnswerState.TheVariants.{Done}
use Rattle.filter_proto.specs.Exchanges.{Good}
use Rattle.driver_line.specs.Transcripts.{IsPart, StopsAt}
use Rattle.driver_host.specs.declared.work.Choice.{Choice}
use Rattle.driver_host.specs.declared.work.Choice.TheVariants.{Give, Refuse, Later, Stop}
use Rattle.driver_host.specs.Answers.{hello_answer, caps_answer, choice_answer, list_answer, name_line, status_answer}
use Rattle.driver_host.specs.Answers.{IsListable, AreListable}

abbrev pub AreSmall : List Packet → Type 0
AreSmall [] = Unit {0}
AreSmall (p ∷ ps) = (pkt_len p ≤ 65520) × AreSmall ps

pub spelled : ((p : Packet) → pkt_len p ≤ 65520 → Spells p (spelling p)) → (ps : List Packet) → AreSmall ps
    → SpellAll ps (spelling_all ps)
spelled law [] s = refl
spelled law (p ∷ ps) s = (spelling p, spelling_all ps, law p s.0, spelled law ps s.1, refl)

pub both_small : (ps qs : List Packet) → AreSmall ps → AreSmall qs → AreSmall (ps ++ qs)
both_small [] qs s t = t
both_small (p ∷ ps) qs s t = (s.0, both_small ps qs s.1 t)

pub small_pieces : (n : ℕ) (content : List ℕ) → AreSmall (map Payload (pieces_of n content))
small_pieces zero content = tt
small_pieces (suc n) content =
    (omega (arith, length-take 65516 content), small_pieces n (drop 65516 content))

pub small_choice : (c : Choice) → AreSmall (choice_answer c)
small_choice (Give bytes) = (
  omega arith,
  (
    omega arith,
    both_small (content_packets bytes) (Flush ∷ Flush ∷ []) (small_pieces (piece_count (length bytes)) bytes)
        (omega arith, (omega arith, tt)),
  ),
)
small_choice Refuse = (omega arith, (omega arith, tt))
small_choice Later = (omega arith, (omega arith, tt))
small_choice Stop = (omega arith, (omega arith, tt))

small_name : (n : List ℕ) → IsListable n → pkt_len (name_line n) ≤ 65520
small_name n (inl le) =
    let e : nat_le (length n) 65506 ≡ true = grind (arith, common_steps, le) in
    rw e (let l : length (n ++ 10 ∷ []) ≡ length n + 1 = grind (arith, common_steps) in omega (arith, l, le))
small_name n (inr full) =
    let e : nat_le (length n) 65506 ≡ false = grind (arith, common_steps, full.0) in rw e (omega (arith, full.0))

small_names : (names : List (List ℕ)) → AreListable names → AreSmall (map name_line names)
small_names [] s = tt
small_names (n ∷ ns) s = (small_name n s.0, small_names ns s.1)

pub small_list : (names : List (List ℕ)) → AreListable names → AreSmall (list_answer names)
small_list names s = both_small (map name_line names) (Flush ∷ status_answer (codes "success")) (small_names names s)
    (omega arith, (omega arith, (omega arith, tt)))

pub small_hands : (a b : Bool) → AreSmall (hello_answer ++ caps_answer (record { smudge = a; delay = b }))
small_hands true true = (omega arith, (omega arith, (omega arith, (omega arith, (omega arith, (omega arith, tt))))))
small_hands true false = (omega arith, (omega arith, (omega arith, (omega arith, (omega arith, tt)))))
small_hands false true = (omega arith, (omega arith, (omega arith, (omega arith, (omega arith, tt)))))
small_hands false false = (omega arith, (omega arith, (omega arith, (omega arith, tt))))

pub hands_fit : (a b : Bool) → total (hello_answer ++ caps_answer (record { smudge = a; delay = b })) ≤ limit
hands_fit true true = omega arith
hands_fit true false = omega arith
hands_fit false true = omega arith
hands_fit false false = omega arith

-- packets that are a good answer
pub good_part : {P G : Type 0} (step : P → Packet → AnswerState P G) (start : AnswerState P G) (ps : List Packet)
    (rest : List ℕ) (g : G) (extra : List Packet → Type 0) → SpellAll ps (spelling_all ps)
    → outcome step limit start ps ≡ Done g → extra ps → IsPart step start (spelling_all ps) rest (Good g) extra
good_part step start ps rest g extra s e x = record {
  packets = ps;
  spelled = s;
  stops = subst (λ z. StopsAt z rest (Good g)) (sym e) refl;
  done = x;
}

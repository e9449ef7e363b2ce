-- An answer that a client takes from a host is good.
use Rattle.std.proofs.Common.{◌≡◌, ℕ, Bool, true, List, [], ◌∷◌, ◌++◌, zero, suc, take}
use Rattle.std.proofs.Common.{refl, sym, ap, ◌∙◌, append_assoc, append-nil}
use Rattle.pkt_line.specs.Packets.{Packet}
use Rattle.pkt_line.specs.Spelling.{spelling, spelling_all}
use Rattle.filter_words.specs.ListGrammar.{AreExpected}
use Rattle.filter_words.specs.declared.reply.BreakCause.TheVariants as cause
use Rattle.filter_words.specs.declared.answer_state.AnswerState.{AnswerState}
use Rattle.filter_proto.specs.Exchanges.{Good, Broke}
use Rattle.driver_line.specs.Parts.{IsPartOf}
use Rattle.driver_line.specs.Transcripts.{IsPart}
use Rattle.driver_host.specs.declared.work.Choice.{Choice}
use Rattle.driver_host.specs.declared.work.Choice.TheVariants as choice
use Rattle.driver_host.specs.Answers.{AreListable}
use Rattle.driver_host.specs.HostText.{Owed, MayChoose}

pub spelled_both : (ps qs : List Packet) → spelling_all (ps ++ qs) ≡ spelling_all ps ++ spelling_all qs
spelled_both [] qs = refl
spelled_both (p ∷ ps) qs =
    ap (λ (z : List ℕ). spelling p ++ z) (spelled_both ps qs)
    ∙ sym (append_assoc (spelling p) (spelling_all ps) (spelling_all qs))

pub good_ends : {G : Type 0} (g : G) → Good g ≡ Broke cause.Ended → ⊥
good_ends g e = cc

-- a good answer of a host, at the front of its text
abbrev pub host_part : {P G : Type 0} (step : P → Packet → AnswerState P G) (start : AnswerState P G)
    (answers first later : List Packet) (g : G) (extra : List Packet → Type 0) → answers ≡ first ++ later
    → IsPart step start (spelling_all first) (spelling_all later) (Good g) extra
    → IsPartOf step start (spelling_all answers) (spelling_all first) (spelling_all later) (Good g)
host_part step start answers first later g extra whole part = record {
  part = record { packets = part.packets; spelled = part.spelled; stops = part.stops; done = tt };
  ahead = [];
  whole = ap (λ (z : List Packet). spelling_all z) whole
      ∙ (spelled_both first later ∙ sym (append-nil (spelling_all first ++ spelling_all later)));
  ended = λ e. absurd (good_ends g e);
  settled = tt;
}

-- Later only where the request may wait
pub later_waits : (owed : Owed) (path : List ℕ) (d : Bool) (c : Choice) → MayChoose owed path d c → c ≡ choice.Later
    → d ≡ true
later_waits owed path d (choice.Give bytes) m e = absurd cc
later_waits owed path d choice.Refuse m e = absurd cc
later_waits owed path d choice.Later m e = m.0
later_waits owed path d choice.Stop m e = absurd cc

pub listable_take : (n : ℕ) (names : List (List ℕ)) → AreListable names → AreListable (take n names)
listable_take zero names s = tt
listable_take (suc n) [] s = tt
listable_take (suc n) (x ∷ xs) s = (s.0, listable_take n xs s.1)

pub expected_take : (n : ℕ) (delayed before names : List (List ℕ)) → AreExpected delayed before names
    → AreExpected delayed before (take n names)
expected_take zero delayed before names s = tt
expected_take (suc n) delayed before [] s = tt
expected_take (suc n) delayed before (x ∷ xs) s = (s.0, s.1, expected_take n delayed (before ++ x ∷ []) xs s.2)

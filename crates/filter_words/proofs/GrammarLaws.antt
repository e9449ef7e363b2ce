-- What joins a grammar and the reading of its answers.
use Rattle.std.proofs.Common.{◌≡◌, ◌≤◌, inl, inr, List, ◌++◌, sym, ap, ◌∙◌}
use Rattle.pkt_line.specs.Packets.{Packet, total}
use Rattle.filter_words.specs.Outcomes.{outcome, limit}
use Rattle.filter_words.specs.Grammar.{IsOpen, IsBroken}
use Rattle.filter_words.specs.declared.reply.BreakCause.{BreakCause}
use Rattle.filter_words.specs.declared.answer_state.AnswerState.{AnswerState}
use Rattle.filter_words.specs.declared.answer_state.AnswerState.TheVariants.{On, Done, Broken}
use Rattle.filter_words.proofs.Runs.{run, run-append, broken_stays, outcome-run, fits_of, breaks_at}

-- The reading ends well on exactly the answers of the grammar, and from each phase it can.
pub record Reads {P G : Type 0} (step : P → Packet → AnswerState P G) (start : P) (good : List Packet → G → Type 0) :
    Type 0 where
  pub reads : (ps : List Packet) (g : G) → good ps g → run step (On start) ps ≡ Done g
  pub was_read : (ps : List Packet) (g : G) → run step (On start) ps ≡ Done g → good ps g
  pub can_end : (p : P) → (more : List Packet) × (g : G) × (run step (On p) more ≡ Done g)

pub ends_well : {P G : Type 0} (step : P → Packet → AnswerState P G) (start : P) (good : List Packet → G → Type 0)
    → Reads step start good
    → (ps : List Packet) (g : G) → outcome step limit (On start) ps ≡ Done g → good ps g × (total ps ≤ limit)
ends_well step start good r ps g e =
    let f = fits_of step limit (On start) (Done g) ps e (λ x. cc) (λ x. cc) in
    (r.was_read ps g f.1, f.0)

pub read_well : {P G : Type 0} (step : P → Packet → AnswerState P G) (start : P) (good : List Packet → G → Type 0)
    → Reads step start good
    → (ps : List Packet) (g : G) → good ps g → total ps ≤ limit → outcome step limit (On start) ps ≡ Done g
read_well step start good r ps g w le = outcome-run step limit (On start) ps le ∙ r.reads ps g w

open_run : {P G : Type 0} (step : P → Packet → AnswerState P G) (start : P) (good : List Packet → G → Type 0)
    → Reads step start good
    → (ps : List Packet) (p : P) → run step (On start) ps ≡ On p → IsOpen G good ps
open_run step start good r ps p e =
    let end = r.can_end p in (
      end.0,
      end.1,
      r.was_read (ps ++ end.0) end.1 (run-append step (On start) ps end.0
          ∙ (ap (λ t. run step t end.0) e ∙ end.2)),
    )

pub open_reading : {P G : Type 0} (step : P → Packet → AnswerState P G) (start : P) (good : List Packet → G → Type 0)
    → Reads step start good
    → (ps : List Packet) (p : P) → outcome step limit (On start) ps ≡ On p → IsOpen G good ps × (total ps ≤ limit)
open_reading step start good r ps p e =
    let f = fits_of step limit (On start) (On p) ps e (λ x. cc) (λ x. cc) in
    (open_run step start good r ps p f.1, f.0)

no_good : {P G : Type 0} (step : P → Packet → AnswerState P G) (start : P) (good : List Packet → G → Type 0)
    → Reads step start good
    → (ps : List Packet) (why : BreakCause) → run step (On start) ps ≡ Broken why → (more : List Packet) (g : G)
    → good (ps ++ more) g → ⊥
no_good step start good r ps why e more g w =
    broken_stays step why more g (sym (ap (λ t. run step t more) e)
    ∙ (sym (run-append step (On start) ps more) ∙ r.reads (ps ++ more) g w))

pub broken_reading : {P G : Type 0} (step : P → Packet → AnswerState P G) (start : P) (good : List Packet → G → Type 0)
    (breaks : List Packet → BreakCause → Type 0)
    → Reads step start good → ((ps : List Packet) (why : BreakCause) → run step (On start) ps ≡ Broken why
    → breaks ps why)
    → (ps : List Packet) (why : BreakCause) → outcome step limit (On start) ps ≡ Broken why
    → IsBroken G good breaks ps why
broken_reading step start good breaks r broke ps why e =
    let b = breaks_at step limit start ps why e in
    record {
      before = b.before;
      last = b.last;
      whole = b.whole;
      fitted = b.fitted;
      was_open = open_run step start good r b.before b.phase b.was_on;
      cause_is = elim b.cause_is [
        | inl l ↦ inl l
        | inr x
            ↦ inr (x.0, broke ps why x.1, no_good step start good r ps why x.1)
      ];
    }

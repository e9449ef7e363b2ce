-- Answers that stand at the front of what was taken of one output.
use Rattle.std.specs.Prelude.{◌≡◌, ℕ, List, [], ◌++◌}
use Rattle.pkt_line.specs.Packets.{Packet}
use Rattle.filter_words.specs.declared.answer_state.AnswerState.{AnswerState}
use Rattle.filter_words.specs.declared.reply.BreakCause.TheVariants as cause
use Rattle.filter_proto.specs.Exchanges.{Ends, Broke}
use Rattle.filter_proto.specs.Complete.{IsSettled}
use Rattle.driver_line.specs.Transcripts.{IsPart}

-- An answer stands at the front of what was taken of this output. An end of input was met only if
-- all of it was taken. No fault of the link ended it, nor did memory run out.
pub record IsPartOf {P G : Type 0} (step : P → Packet → AnswerState P G)
    (start : AnswerState P G) (output : List ℕ) (used rest : List ℕ) (end : Ends G) : Type 0 where
  pub part : IsPart step start used rest end (λ _. Unit {0})
  pub ahead : List ℕ
  pub whole : output ≡ (used ++ rest) ++ ahead
  pub ended : end ≡ Broke cause.Ended → ahead ≡ []
  pub settled : IsSettled end

-- two answers at the front of one output are the same, packet by packet, and so are their bytes
abbrev pub IsOnePart : (P G : Type 0) → (P → Packet → AnswerState P G) → AnswerState P G → Type 0
IsOnePart P G step start = (output u1 r1 u2 r2 : List ℕ) (x y : Ends G)
    (one : IsPartOf step start output u1 r1 x) (two : IsPartOf step start output u2 r2 y)
    → (x ≡ y) × (one.part.packets ≡ two.part.packets) × (u1 ≡ u2)

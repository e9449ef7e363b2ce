-- An answer in what a driver sends.
use Rattle.std.specs.Prelude.{◌≡◌, ℕ, ◌⊎◌, List, []}
use Rattle.pkt_line.specs.Packets.{Packet, SpellAll, IsPartial, HasFault}
use Rattle.filter_words.specs.Outcomes.{outcome, limit}
use Rattle.filter_words.specs.declared.reply.BreakCause.TheVariants as cause
use Rattle.filter_words.specs.declared.answer_state.AnswerState.{AnswerState}
use Rattle.filter_words.specs.declared.answer_state.AnswerState.TheVariants.{On, Done, Broken, Late}

-- How the reading of an answer stops, if `rest` was taken after its packets and `ahead` was not: at its end, at bytes
-- that begin no packet, or at the end of all that is sent.
abbrev pub StopsWith : {P G : Type 0} → AnswerState P G → List ℕ → List ℕ → AnswerState P G → Type 0
StopsWith (On phase) rest ahead result =
    ((result ≡ Broken cause.BadPacket) × HasFault rest)
    ⊎ ((result ≡ Broken cause.Ended) × IsPartial rest × (ahead ≡ []))
StopsWith (Done good) rest ahead result = result ≡ Done good
StopsWith (Broken why) rest ahead result = result ≡ Broken why
StopsWith Late rest ahead result = ⊥

-- The answer at the front of all that a driver sends: its packets are spelled by `used`, `rest` was taken after them,
-- and `ahead` was not.
pub record IsAnswer {P G : Type 0} (step : P → Packet → AnswerState P G) (start : AnswerState P G) (used rest ahead :
    List ℕ) (result : AnswerState P G) : Type 0 where
  pub packets : List Packet
  pub spelled : SpellAll packets used
  pub stops : StopsWith (outcome step limit start packets) rest ahead result

-- the packets are a part of an answer, and more belong to it
abbrev pub IsUnfinished : {P G : Type 0} → (P → Packet → AnswerState P G) → AnswerState P G → List Packet → Type 0
IsUnfinished {P} step start packets = (phase : P) × (outcome step limit start packets ≡ On phase)

-- One exchange of a session: a request, and its answer.
use Rattle.std.specs.Prelude.{◌≡◌, ◌⊎◌, ℕ, ◌+◌, List, []}
use Rattle.pkt_line.specs.Packets.{Packet, SpellAll, IsPartial, HasFault, total}
use Rattle.filter_words.specs.Outcomes.{outcome, limit}
use Rattle.filter_words.specs.declared.reply.BreakCause.{BreakCause}
use Rattle.filter_words.specs.declared.reply.BreakCause.TheVariants as cause
use Rattle.filter_words.specs.declared.answer_state.AnswerState.{AnswerState}
use Rattle.filter_words.specs.declared.answer_state.AnswerState.TheVariants.{On, Done, Broken, Late}
use Rattle.edge_kit.specs.Faults.{Rose}
use Rattle.edge_kit.specs.Files.{grown}
use Rattle.edge_kit.specs.Links.{TellsLeft}
use Rattle.filter_proto.specs.Wires.{Wire, Took, IsSentPart}

-- what came of an exchange
pub data Ends (G : Type 0) : Type 0 where
  Good : (g : G) → Ends G
  Broke : (why : BreakCause) → Ends G
  OutOfMemory : Ends G

-- the counts are as they were
abbrev pub Still : Wire → Wire → Type 0
Still old new = (new.faults ≡ old.faults) × (new.ends ≡ old.ends)

-- How the reading of an answer stops: at its end, at bytes that begin no packet, at the end of what is sent, or at a
-- fault of the link with no whole packet left.
abbrev pub Stops : {P G : Type 0} → AnswerState P G → Wire → Wire → Ends G → Type 0
Stops (On phase) old new (Good g) = ⊥
Stops (On phase) old new OutOfMemory = ⊥
Stops (On phase) old new (Broke cause.BadPacket) = HasFault new.unread × Still old new
Stops (On phase) old new (Broke cause.Ended) =
    IsPartial new.unread × Rose old.ends new.ends × (new.faults ≡ old.faults) × TellsLeft new.left []
Stops (On phase) old new (Broke cause.LinkFault) =
    IsPartial new.unread × Rose old.faults new.faults × (new.ends ≡ old.ends)
Stops (On phase) old new (Broke why) = ⊥
Stops (Done good) old new end = (end ≡ Good good) × Still old new
Stops (Broken why) old new end = (end ≡ Broke why) × Still old new
Stops Late old new end = ⊥

-- An answer was read: its packets left the front, and this is what it came to. `extra` is what was done with the
-- packets.
pub record IsHeard {P G : Type 0} (step : P → Packet → AnswerState P G) (start : AnswerState P G) (old new : Wire)
    (end : Ends G) (extra : List Packet → Type 0) : Type 0 where
  pub packets : List Packet
  pub used : List ℕ
  pub spelled : SpellAll packets used
  pub took : Took old new used
  pub stops : Stops (outcome step limit start packets) old new end
  pub done : extra packets

-- An answer that is being read, with room for this many bytes.
pub record IsReading {P G : Type 0} (step : P → Packet → AnswerState P G) (start : AnswerState P G) (old new : Wire)
    (room : ℕ) (phase : P) (extra : List Packet → Type 0) : Type 0 where
  pub packets : List Packet
  pub used : List ℕ
  pub spelled : SpellAll packets used
  pub took : Took old new used
  pub gives : outcome step limit start packets ≡ On phase
  pub fits : room + total packets ≡ limit
  pub still : Still old new
  pub done : extra packets

-- why a request was not sent whole
abbrev pub Unsent : {G : Type 0} → Wire → Wire → Ends G → Type 0
Unsent old new (Good g) = ⊥
Unsent old new (Broke cause.LinkFault) = Rose old.faults new.faults
Unsent old new (Broke why) = ⊥
Unsent old new OutOfMemory = new.faults ≡ old.faults

-- a request of which a part was sent, or nothing: no answer was looked at
pub record IsUnsent {G : Type 0} (text : List ℕ) (old new : Wire) (end : Ends G)
    (extra : List Packet → Type 0) : Type 0 where
  pub sent : IsSentPart text old new
  pub why : Unsent old new end
  pub done : extra []

-- a request was sent whole, and its answer read
pub record IsAnswered {P G : Type 0} (step : P → Packet → AnswerState P G) (start : AnswerState P G) (text : List ℕ)
    (old new : Wire) (end : Ends G) (extra : List Packet → Type 0) : Type 0 where
  pub sent : new.sent ≡ grown old.sent text
  pub stage : new.stage ≡ old.stage
  pub heard : IsHeard step start old new end extra

abbrev pub IsExchange : {P G : Type 0} → (P → Packet → AnswerState P G) → AnswerState P G → List ℕ → Wire → Wire
    → Ends G → (List Packet → Type 0) → Type 0
IsExchange step start text old new end extra =
    IsUnsent text old new end extra ⊎ IsAnswered step start text old new end extra

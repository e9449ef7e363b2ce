-- Answers, packet by packet: where the reading of one stands.
use Rattle.std.specs.Prelude.{ℕ, ◌-◌, if◌then◌else◌, nat_lt, List, [], ◌∷◌}
use Rattle.pkt_line.specs.Packets.{Packet, Payload, Flush, size}
use Rattle.filter_words.specs.declared.reply.BreakCause.TheVariants as cause
use Rattle.filter_words.specs.declared.packet.ReadPacket.{ReadPacket}
use Rattle.filter_words.specs.declared.packet.ReadPacket.TheVariants as packet
use Rattle.filter_words.specs.declared.answer_state.AnswerState.{AnswerState}
use Rattle.filter_words.specs.declared.answer_state.AnswerState.TheVariants.{On, Done, Broken, Late}

-- the most bytes of packets in one answer
abbrev pub limit : ℕ
limit = 536870912

-- What packets make of an answer, with room for this many bytes. `step` says what one more packet makes of a phase. The
-- room is checked first.
abbrev pub outcome : {P G : Type 0} → (P → Packet → AnswerState P G) → ℕ → AnswerState P G → List Packet
    → AnswerState P G
outcome step room state [] = state
outcome step room (On phase) (p ∷ ps) =
    if nat_lt room (size p) then outcome step room (Broken cause.TooLong) ps
    else outcome step (room - size p) (step phase p) ps
outcome step room (Done good) (p ∷ ps) = Late
outcome step room (Broken why) (p ∷ ps) = Late
outcome step room Late (p ∷ ps) = Late

-- an answer that came to its end
abbrev pub IsEnd : {P G : Type 0} → AnswerState P G → Type 0
IsEnd (On phase) = ⊥
IsEnd (Done good) = Unit {0}
IsEnd (Broken why) = Unit {0}
IsEnd Late = ⊥

-- a packet of the code
abbrev pub packet_of : ReadPacket → Packet
packet_of (packet.Payload bytes) = Payload bytes.now
packet_of packet.Flush = Flush

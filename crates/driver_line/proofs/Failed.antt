-- Openings that failed: the counts and the link of their sessions.
use Rattle.std.proofs.Common.{◌≡◌, inl, inr, Bool, true, false, List, Some, ap, ◌∙◌}
use Rattle.std.specs.Prelude.{if◌then◌else◌}
use Rattle.std.specs.Str.{bytes_eq}
use Rattle.pkt_line.specs.Packets.{Packet, Payload, Flush}
use Rattle.filter_words.specs.Outcomes.{outcome, limit}
use Rattle.filter_words.specs.Words.{without_lf}
use Rattle.filter_words.specs.Handshake.{handshake_step, handshake_start}
use Rattle.filter_words.specs.declared.reply.BreakCause.{BreakCause}
use Rattle.filter_words.specs.declared.reply.BreakCause.TheVariants as cause
use Rattle.filter_words.specs.declared.reply.Caps.{Caps}
use Rattle.filter_words.specs.declared.handshake.HandshakePhase.{HandshakePhase}
use Rattle.filter_words.specs.declared.handshake.HandshakePhase.TheVariants.{Server, Version, EndOfHello, Capabilities}
use Rattle.filter_words.specs.declared.answer_state.AnswerState.TheVariants.{On, Broken}
use Rattle.edge_kit.specs.Starters.{SessionHad}
use Rattle.filter_proto.specs.Wires.{Wire}
use Rattle.filter_proto.specs.Exchanges.{Ends, Good, Broke, OutOfMemory, IsHeard}
use Rattle.filter_proto.specs.Openings.{IsOpening}
use Rattle.driver_line.specs.Transcripts.{FitsCounts, HasOneCount, break_in}
use Rattle.driver_line.proofs.Effects.{PlainTurn, IsQuiet, HasOne, runs_plain, stops_counts, unsent_counts, heard_one, unsent_one, seen_one, IsCaused, unsent_caused, heard_caused}

wanted_plain : (b : Bool) (p : HandshakePhase) → PlainTurn {P = HandshakePhase} {G = Caps} (if b then On p else Broken cause.BadHandshake)
wanted_plain true p = tt
wanted_plain false p = tt

pub hand_plain : (p : HandshakePhase) (x : Packet) → PlainTurn (handshake_step p x)
hand_plain Server (Payload l) = wanted_plain (bytes_eq (without_lf l) _) Version
hand_plain Server Flush = tt
hand_plain Version (Payload l) = wanted_plain (bytes_eq (without_lf l) _) EndOfHello
hand_plain Version Flush = tt
hand_plain EndOfHello (Payload l) = tt
hand_plain EndOfHello Flush = tt
hand_plain (Capabilities c) (Payload l) = tt
hand_plain (Capabilities c) Flush = tt

heard_counts : (old new : Wire) (c : BreakCause) (seen : SessionHad) (extra : List Packet → Type 0) → IsHeard handshake_step handshake_start old new (Broke c) extra
    → IsQuiet old → seen.faults ≡ new.faults → seen.ends ≡ new.ends → FitsCounts seen (Some c)
heard_counts old new c seen extra h q faults ends =
    stops_counts (outcome handshake_step limit handshake_start h.packets) old new c seen (runs_plain handshake_step limit handshake_start h.packets hand_plain tt) h.stops q faults ends

pub opening_counts : (old new : Wire) (end : Ends Caps) (seen : SessionHad) → IsOpening old new end → IsQuiet old → seen.faults ≡ new.faults → seen.ends ≡ new.ends → FitsCounts seen (break_in end)
opening_counts old new (Good caps) seen o q faults ends = tt
opening_counts old new OutOfMemory seen o q faults ends = tt
opening_counts old new (Broke c) seen (inl u) q faults ends = unsent_counts Caps old new c seen _ u.why u.sent q faults ends
opening_counts old new (Broke c) seen (inr (inl r)) q faults ends = heard_counts old new c seen _ r.heard q faults ends
opening_counts old new (Broke c) seen (inr (inr (inl u))) q faults ends =
    unsent_counts Caps u.mid new c seen _ u.unsent.why u.unsent.sent (u.hello.still.0 ∙ q.0, u.hello.still.1 ∙ q.1) faults ends
opening_counts old new (Broke c) seen (inr (inr (inr o))) q faults ends = heard_counts old new c seen _ o.heard q faults ends

opening_ends : (old new : Wire) (end : Ends Caps) → IsOpening old new end → IsQuiet old → HasOne new
opening_ends old new end (inl u) q = unsent_one _ old new u.sent q
opening_ends old new end (inr (inl r)) q = heard_one handshake_step handshake_start old new end _ r.heard q
opening_ends old new end (inr (inr (inl u))) q = unsent_one _ u.mid new u.unsent.sent (u.hello.still.0 ∙ q.0, u.hello.still.1 ∙ q.1)
opening_ends old new end (inr (inr (inr o))) q = heard_one handshake_step handshake_start old new end _ o.heard q

pub opening_one : (old new : Wire) (end : Ends Caps) (seen : SessionHad) → IsOpening old new end → IsQuiet old → seen.faults ≡ new.faults → seen.ends ≡ new.ends → HasOneCount seen
opening_one old new end seen o q faults ends = seen_one seen new (opening_ends old new end o q) faults ends

pub opening_caused : (old new : Wire) (end : Ends Caps) → IsOpening old new end → IsQuiet old → IsCaused new end
opening_caused old new end (inl u) q = unsent_caused Caps _ old new end u.sent u.why q
opening_caused old new end (inr (inl r)) q = heard_caused _ _ handshake_step handshake_start old new end _ r.heard q
opening_caused old new end (inr (inr (inl u))) q = unsent_caused Caps _ u.mid new end u.unsent.sent u.unsent.why (u.hello.still.0 ∙ q.0, u.hello.still.1 ∙ q.1)
opening_caused old new end (inr (inr (inr o))) q = heard_caused _ _ handshake_step handshake_start old new end _ o.heard q

-- no opening shuts a link
pub opening_stage : (old new : Wire) (end : Ends Caps) → IsOpening old new end → new.stage ≡ old.stage
opening_stage old new end (inl u) = ap (λ (w : Wire). w.stage) u.sent.stays
opening_stage old new end (inr (inl r)) = r.stage
opening_stage old new end (inr (inr (inl u))) = ap (λ (w : Wire). w.stage) u.unsent.sent.stays ∙ u.stage
opening_stage old new end (inr (inr (inr o))) = o.stage

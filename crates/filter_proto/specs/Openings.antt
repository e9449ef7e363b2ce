-- The opening of a session: two texts, and the two answers of a handshake.
use Rattle.std.specs.Prelude.{◌≡◌, ◌⊎◌, ℕ, List, ◌++◌}
use Rattle.std.specs.List.{list_any}
use Rattle.pkt_line.specs.Packets.{Packet, Payload, Flush, SpellAll}
use Rattle.filter_words.specs.Handshake.{handshake_step, handshake_start, IsHello, announces_clean}
use Rattle.filter_words.specs.Requests.{hello_text, caps_text}
use Rattle.filter_words.specs.declared.reply.BreakCause.{BreakCause}
use Rattle.filter_words.specs.declared.reply.Caps.{Caps}
use Rattle.std.specs.Prelude.{Bool, true, false, Result, Ok, Err, ◌+◌, ◌<◌, ◌≤◌}
use Rattle.pkt_line.specs.Packets.{size}
use Rattle.filter_words.specs.declared.reply.BreakCause.TheVariants as cause
use Rattle.filter_words.specs.declared.handshake.HandshakePhase.{HandshakePhase}
use Rattle.filter_words.specs.declared.handshake.HandshakePhase.TheVariants.{Server, Version, EndOfHello, Capabilities}
use Rattle.filter_proto.specs.declared.handshake.Announced.{Announced}
use Rattle.filter_proto.specs.declared.handshake.HandReading.{HandReading}
use Rattle.filter_proto.specs.declared.handshake.OpenFault.{OpenFault}
use Rattle.filter_proto.specs.declared.handshake.OpenFault.TheVariants as fault
use Rattle.filter_proto.specs.declared.handshake.HandStep.{HandStep}
use Rattle.filter_proto.specs.declared.handshake.HandStep.TheVariants as hand
use Rattle.filter_words.specs.declared.answer_state.AnswerState.TheVariants.{On, Done, Broken}
use Rattle.edge_kit.specs.Files.{grown}
use Rattle.filter_proto.specs.Wires.{Wire, Took}
use Rattle.filter_proto.specs.Exchanges.{Ends, Good, Broke, OutOfMemory, Still, IsHeard, IsReading, IsUnsent}

-- no first part of the packets is a right first answer
abbrev pub LacksHello : List Packet → Type 0
LacksHello ps = (front rest : List Packet) → ps ≡ front ++ rest → IsHello front → ⊥

-- some first part of the packets is a right first answer
abbrev pub BeginsHello : List Packet → Type 0
BeginsHello ps = (front : List Packet) × (rest : List Packet) × (ps ≡ front ++ rest) × IsHello front

-- a right first answer was read
pub record HasHello (old new : Wire) : Type 0 where
  pub packets : List Packet
  pub used : List ℕ
  pub spelled : SpellAll packets used
  pub took : Took old new used
  pub gives : BeginsHello packets
  pub still : Still old new

-- the first text was sent, and its answer was not right
pub record IsRefusedHello (old new : Wire) (end : Ends Caps) : Type 0 where
  pub sent : new.sent ≡ grown old.sent hello_text
  pub stage : new.stage ≡ old.stage
  pub heard : IsHeard handshake_step handshake_start old new end LacksHello
  pub broke : (why : BreakCause) × (end ≡ Broke why)

-- its answer was right, and the second text was not sent whole
pub record IsUnsentCaps (old new : Wire) (end : Ends Caps) : Type 0 where
  pub mid : Wire
  pub sent : mid.sent ≡ grown old.sent hello_text
  pub stage : mid.stage ≡ old.stage
  pub hello : HasHello old mid
  pub unsent : IsUnsent caps_text mid new end (λ _. Unit {0})

-- both texts were sent
pub record IsOpened (old new : Wire) (end : Ends Caps) : Type 0 where
  pub sent : new.sent ≡ grown old.sent (hello_text ++ caps_text)
  pub stage : new.stage ≡ old.stage
  pub heard : IsHeard handshake_step handshake_start old new end BeginsHello

abbrev pub IsOpening : Wire → Wire → Ends Caps → Type 0
IsOpening old new end = IsUnsent hello_text old new end (λ _. Unit {0}) ⊎ IsRefusedHello old new end
    ⊎ IsUnsentCaps old new end ⊎ IsOpened old new end

abbrev pub is_clean : Packet → Bool
is_clean (Payload line) = announces_clean line
is_clean Flush = false

-- some line of the packets announces `clean`
abbrev pub has_clean : List Packet → Bool
has_clean packets = list_any is_clean packets

-- Both texts were sent, a good handshake was read, and this is whether it announces `clean`.
abbrev pub Announces : Bool → Wire → Wire → Caps → Type 0
Announces clean old new caps = (opened : IsOpened old new (Good caps)) × (has_clean opened.heard.packets ≡ clean)

-- what first part of the packets is a right first answer, by whether that is still being read
abbrev pub HelloBy : Bool → List Packet → Type 0
HelloBy true ps = LacksHello ps
HelloBy false ps = BeginsHello ps

-- the same, and whether a line so far announces `clean`
abbrev pub HelloWith : Bool → Bool → List Packet → Type 0
HelloWith early clean ps = HelloBy early ps × (has_clean ps ≡ clean)

abbrev pub is_early : HandshakePhase → Bool
is_early Server = true
is_early Version = true
is_early EndOfHello = true
is_early (Capabilities caps) = false

-- what came of the reading of an answer
abbrev pub caps_end : Result Caps BreakCause → Ends Caps
caps_end (Ok caps) = Good caps
caps_end (Err why) = Broke why

-- one more packet of a handshake goes on or ends
abbrev pub HandIs : Bool → Wire → Wire → HandStep → HandReading → Type 0
HandIs early start new hand.On reading =
    IsReading handshake_step handshake_start start new reading.room reading.phase
    (HelloWith (is_early reading.phase) reading.clean)
HandIs early start new (hand.End end) reading =
    IsHeard handshake_step handshake_start start new (caps_end end) (HelloWith early reading.clean)

-- the result of a packet that was taken
abbrev pub TakesState : ℕ → HandshakePhase → Packet → HandStep → ℕ → HandshakePhase → Type 0
TakesState room phase x hand.On left next = (left + size x ≡ room) × (handshake_step phase x ≡ On next)
TakesState room phase x (hand.End (Ok caps)) left next = (size x ≤ room) × (handshake_step phase x ≡ Done caps)
TakesState room phase x (hand.End (Err why)) left next = ((room < size x) × (why ≡ cause.TooLong))
    ⊎ ((size x ≤ room) × (handshake_step phase x ≡ Broken why))

-- what came of a handshake
abbrev pub opening_end : Result Announced OpenFault → Ends Caps
opening_end (Ok a) = Good a.caps
opening_end (Err (fault.Broken why)) = Broke why
opening_end (Err fault.NoMemory) = OutOfMemory

-- after the first text: its answer was not right; or it was, and the second text was not sent whole; or that was sent
-- too
pub record StaysHello (old new : Wire) (end : Ends Caps) : Type 0 where
  pub sent : new.sent ≡ old.sent
  pub stage : new.stage ≡ old.stage
  pub heard : IsHeard handshake_step handshake_start old new end LacksHello
  pub broke : (why : BreakCause) × (end ≡ Broke why)

pub record CutsCaps (old new : Wire) (end : Ends Caps) : Type 0 where
  pub mid : Wire
  pub sent : mid.sent ≡ old.sent
  pub stage : mid.stage ≡ old.stage
  pub hello : HasHello old mid
  pub unsent : IsUnsent caps_text mid new end (λ _. Unit {0})

-- the first answer was right, and of a good handshake it is known whether it announces `clean`
abbrev pub EndHello : Result Announced OpenFault → List Packet → Type 0
EndHello (Ok a) ps = HelloWith false a.clean ps
EndHello (Err fault) ps = BeginsHello ps

pub record HearsCaps (old new : Wire) (r : Result Announced OpenFault) : Type 0 where
  pub sent : new.sent ≡ grown old.sent caps_text
  pub stage : new.stage ≡ old.stage
  pub heard : IsHeard handshake_step handshake_start old new (opening_end r) (EndHello r)

abbrev pub GoesAfter : Wire → Wire → Result Announced OpenFault → Type 0
GoesAfter old new r = StaysHello old new (opening_end r) ⊎ CutsCaps old new (opening_end r) ⊎ HearsCaps old new r

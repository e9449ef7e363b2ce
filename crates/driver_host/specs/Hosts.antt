-- A host as its callers see it.
use Rattle.std.specs.Prelude.{◌≡◌, ◌⊎◌, ℕ, Bool, true, false, List, ◌++◌, drop}
use Rattle.std.specs.Prelude.{Option, Some, None, Result, Ok, Err, ⊤}
use Rattle.pkt_line.specs.Packets.{Packet, Payload, Flush, SpellAll, Stands, IsPartial, HasFault, size}
use Rattle.filter_words.specs.declared.reply.Caps.{Caps}
use Rattle.driver_host.specs.declared.work.Choice.{Choice}
use Rattle.driver_host.specs.declared.host.HostFault.{HostFault}
use Rattle.driver_host.specs.declared.host.HostFault.TheVariants as fault
use Rattle.driver_host.specs.declared.host.HostState.{HostState}
use Rattle.driver_host.specs.declared.host.HostState.TheVariants as state
use Rattle.driver_host.specs.HostText.{Fresh, Over, Waits, Stopped, Refused}
use Rattle.driver_host.specs.Talks.{TalkSeen, Reading, IsTalkAfter, LineIs, TakesFlush, RefusesFlush, reading_at}
use Rattle.driver_host.specs.Talks.{Fits, IsSameHost}
use Rattle.driver_host.specs.Works.{WorkTold}
use Rattle.driver_host.specs.Chosen.{Contents, IsChosenText}

-- its talk, the bytes that it took and hasn't read, and the fault that it has met
pub record HostSeen (W : Type 0) : Type 0 where
  pub talk : TalkSeen W
  pub unread : List ℕ
  pub fault : Option HostFault

-- nothing was taken
abbrev pub new_talk : {W : Type 0} → Caps → ℕ → W → TalkSeen W
new_talk own batch work = record {
  own = own;
  batch = batch;
  work = work;
  stage = Fresh;
  reading = reading_at Fresh;
}

-- the packets that were read are in the talk, and the unread bytes follow them
pub record IsHeld {W : Type 0} (told : W → WorkTold) (latest : W → Contents) (bytes : List ℕ)
    (cs : List Choice) (text unread : List ℕ) (t : TalkSeen W) : Type 0 where
  pub packets : List Packet
  pub read : List ℕ
  pub spelled : SpellAll packets read
  pub whole : bytes ≡ read ++ unread
  pub talk : IsTalkAfter told latest packets cs text t

-- out of memory: the text is that of a first part of the bytes
pub record IsOfFront (told : WorkTold) (own : Caps) (batch : ℕ) (bytes : List ℕ) (cs : List Choice)
    (text : List ℕ) : Type 0 where
  pub front : List ℕ
  pub after : List ℕ
  pub cut : bytes ≡ front ++ after
  pub text_is : IsChosenText told own batch front cs text Waits

-- the text before a fault
abbrev pub RefusedBy : HostFault → WorkTold → Caps → ℕ → List ℕ → List Choice → List ℕ → Type 0
RefusedBy fault.NoMemory told own batch bytes cs text = IsOfFront told own batch bytes cs text
RefusedBy why told own batch bytes cs text = IsChosenText told own batch bytes cs text (Refused why)

-- the text before an input that goes on, or after Stop
abbrev pub GoesOn : {W : Type 0} → (W → WorkTold) → (W → Contents) → List ℕ → List Choice → List ℕ → List ℕ
    → TalkSeen W → Type 0
GoesOn told latest bytes cs text unread t =
    (IsChosenText (told t.work) t.own t.batch bytes cs text Waits × IsHeld told latest bytes cs text unread t)
    ⊎ ((t.stage ≡ Over) × IsChosenText (told t.work) t.own t.batch bytes cs text Stopped)

abbrev pub AfterBy : {W : Type 0} → (W → WorkTold) → (W → Contents) → Option HostFault → List ℕ → List Choice
    → List ℕ → HostSeen W → Type 0
AfterBy told latest None bytes cs text h = GoesOn told latest bytes cs text h.unread h.talk
AfterBy told latest (Some why) bytes cs text h = RefusedBy why (told h.talk.work) h.talk.own h.talk.batch bytes cs text

-- A host took these bytes, made these choices and gave this text: it is the host's text of them, and each choice is
-- the one that its work tells.
abbrev pub IsHostAfter : {W : Type 0} → (W → WorkTold) → (W → Contents) → List ℕ → List Choice → List ℕ → HostSeen W
    → Type 0
IsHostAfter told latest bytes cs text h = AfterBy told latest h.fault bytes cs text h

-- A piece was taken, and this was appended.
pub record TakesPiece {W : Type 0} (told : W → WorkTold) (latest : W → Contents) (bytes : List ℕ)
    (cs : List Choice) (text piece : List ℕ) (new : HostSeen W) (before after : List ℕ) : Type 0 where
  pub more : List Choice
  pub added : List ℕ
  pub grew : after ≡ before ++ added
  pub host : IsHostAfter told latest (bytes ++ piece) (cs ++ more) (text ++ added) new

-- what a call answers
abbrev pub AnswerIs : {W : Type 0} → Result HostState HostFault → HostSeen W → Type 0
AnswerIs (Ok state.Open) h = (h.fault ≡ None) × (h.talk.stage ≡ Over → ⊥)
AnswerIs (Ok state.Stopped) h = (h.fault ≡ None) × (h.talk.stage ≡ Over)
AnswerIs (Err why) h = h.fault ≡ Some why

-- a host that reads no further stays as it is, and appends nothing
abbrev pub Reads : {W : Type 0} → HostSeen W → Type 0
Reads h = (h.fault ≡ None) × (h.talk.stage ≡ Over → ⊥)

-- bytes were appended
abbrev pub Grown : List ℕ → List ℕ → Type 0
Grown before after = (added : List ℕ) × (after ≡ before ++ added)

-- one packet is taken
abbrev pub TakesPacket : {W : Type 0} → (W → WorkTold) → (W → Contents) → Packet → TalkSeen W → TalkSeen W
    → List ℕ → List ℕ → Type 0
TakesPacket told latest (Payload line) t u before after = LineIs {E = ⊤} t.reading line (Ok tt) u.reading
    × (u ≡ record t { reading = u.reading }) × (after ≡ before)
TakesPacket told latest Flush t u before after = TakesFlush told latest t u before after

-- or refused
abbrev pub RefusesPacket : {W : Type 0} → Packet → TalkSeen W → HostFault → Type 0
RefusesPacket (Payload line) t why = (r : Reading) × LineIs {E = ⊤} t.reading line (Err why) r
RefusesPacket Flush t why = RefusesFlush t why

-- no packet is at the front, or it is refused
abbrev pub IsStuck : {W : Type 0} → HostFault → List ℕ → TalkSeen W → Type 0
IsStuck why unread t = ((why ≡ fault.BadPacket) × HasFault unread)
    ⊎ ((p : Packet) × Stands p unread × RefusesPacket p t why)

-- what is at the front was taken, or more bytes are wanted, or it is refused
abbrev pub StepIs : {W : Type 0} → (W → WorkTold) → (W → Contents) → List ℕ → TalkSeen W → List ℕ → TalkSeen W
    → List ℕ → List ℕ → Result Bool HostFault → Type 0
StepIs told latest old t new u before after (Ok true) = (p : Packet) × Stands p old × (new ≡ drop (size p) old)
    × TakesPacket told latest p t u before after
StepIs told latest old t new u before after (Ok false) = IsPartial old × (new ≡ old) × (u ≡ t) × (after ≡ before)
StepIs told latest old t new u before after (Err why) = IsStuck why old t × IsSameHost told t u × (after ≡ before)

-- some packets were taken
pub record TakesOn {W : Type 0} (told : W → WorkTold) (latest : W → Contents) (bytes : List ℕ)
    (cs : List Choice) (text before after unread : List ℕ) (t : TalkSeen W) : Type 0 where
  pub more : List Choice
  pub added : List ℕ
  pub grew : after ≡ before ++ added
  pub held : IsHeld told latest bytes (cs ++ more) (text ++ added) unread t

-- and then one was refused
pub record RefusesOn {W : Type 0} (told : W → WorkTold) (why : HostFault) (bytes : List ℕ) (cs : List Choice)
    (text before after : List ℕ) (t : TalkSeen W) : Type 0 where
  pub more : List Choice
  pub added : List ℕ
  pub grew : after ≡ before ++ added
  pub refused : RefusedBy why (told t.work) t.own t.batch bytes (cs ++ more) (text ++ added)

abbrev pub Goes : {A W : Type 0} → (W → WorkTold) → (W → Contents) → Result A HostFault → List ℕ → List Choice
    → List ℕ → List ℕ → List ℕ → List ℕ → TalkSeen W → Type 0
Goes told latest (Ok x) bytes cs text before after unread t =
    TakesOn told latest bytes cs text before after unread t
Goes told latest (Err why) bytes cs text before after unread t = RefusesOn told why bytes cs text before after t

-- a first part of a piece was fed
pub record FedOn {W : Type 0} (told : W → WorkTold) (latest : W → Contents) (bytes : List ℕ)
    (cs : List Choice) (text piece rest before after unread : List ℕ) (t : TalkSeen W) : Type 0 where
  pub fed : List ℕ
  pub cut : piece ≡ fed ++ rest
  pub on : TakesOn told latest (bytes ++ fed) cs text before after unread t

-- all of it was, or it was refused, or the talk is over
pub record FedAll {W : Type 0} (told : W → WorkTold) (latest : W → Contents) (bytes : List ℕ)
    (cs : List Choice) (text before after unread : List ℕ) (t : TalkSeen W) : Type 0 where
  pub more : List Choice
  pub added : List ℕ
  pub grew : after ≡ before ++ added
  pub on : GoesOn told latest bytes (cs ++ more) (text ++ added) unread t

abbrev pub Feeds : {A W : Type 0} → (W → WorkTold) → (W → Contents) → Result A HostFault → List ℕ → List Choice
    → List ℕ → List ℕ → List ℕ → List ℕ → TalkSeen W → Type 0
Feeds told latest (Ok x) bytes cs text before after unread t = FedAll told latest bytes cs text before after unread t
Feeds told latest (Err why) bytes cs text before after unread t = RefusesOn told why bytes cs text before after t

-- the reading may go on, or is over
abbrev pub IsReady : {W : Type 0} → TalkSeen W → List ℕ → Type 0
IsReady t unread = (Fits t × IsPartial unread) ⊎ (t.stage ≡ Over)

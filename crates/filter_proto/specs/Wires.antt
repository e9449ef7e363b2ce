-- What a session's link tells, and what the session took that no answer used.
use Rattle.std.specs.Prelude.{◌≡◌, ℕ, List, [], ◌++◌, Option, Result, Ok, Err, ⊤}
use Rattle.pkt_line.specs.Packets.{HasFault}
use Rattle.pkt_line.specs.Reader.{Lends}
use Rattle.pkt_line.specs.declared.reader.Next.{Next}
use Rattle.pkt_line.specs.declared.reader.PktFault.{PktFault}
use Rattle.filter_words.specs.declared.reply.Caps.{Caps}
use Rattle.filter_words.specs.declared.reply.BreakCause.{BreakCause}
use Rattle.filter_words.specs.declared.reply.BreakCause.TheVariants as cause
use Rattle.edge_kit.specs.Faults.{Rose, AfterCall}
use Rattle.edge_kit.specs.Files.{grown}
use Rattle.edge_kit.specs.declared.faults.Failed.{Failed}
use Rattle.edge_kit.specs.declared.faults.SendFault.{SendFault}
use Rattle.edge_kit.specs.declared.faults.SendFault.TheVariants as send
use Rattle.edge_kit.specs.Links.{LinkSeen, Left, TellsLeft, Stage, led, input_shut, waited, SendsPart}
use Rattle.filter_proto.specs.declared.session.Standing.{Standing}
use Rattle.filter_proto.specs.declared.session.Standing.TheVariants as standing

pub record Wire : Type 0 where
  pub sent : Option (List ℕ)
  pub taken : Option (List ℕ)
  pub left : Left
  pub unread : List ℕ
  pub faults : ℕ
  pub ends : ℕ
  pub stage : Stage

-- a session, as its callers see it
pub record SessionSeen : Type 0 where
  pub wire : Wire
  pub caps : Caps
  pub standing : Standing

-- a link from which these bytes were taken that no answer used
abbrev pub wire_of : List ℕ → LinkSeen → Wire
wire_of unread link = record {
  sent = link.sent;
  taken = link.taken;
  left = link.left;
  unread = unread;
  faults = link.faults;
  ends = link.ends;
  stage = link.stage;
}

-- Bytes came from the link to the end of what is unread, and the used ones left its front.
pub record Took (old new : Wire) (used : List ℕ) : Type 0 where
  pub came : List ℕ
  pub taken : new.taken ≡ grown old.taken came
  pub left : old.left ≡ led came new.left
  pub unread : old.unread ++ came ≡ used ++ new.unread

-- something came, and nothing was used
abbrev pub Filled : Wire → Wire → Type 0
Filled old new = Took old new [] × (new.faults ≡ old.faults) × (new.ends ≡ old.ends)

-- nothing came: an end of input, or a fault
abbrev pub FillFails : Wire → Wire → Result ⊤ BreakCause → Type 0
FillFails old new (Ok x) = Unit {0}
FillFails old new (Err cause.Ended) =
    (new ≡ record old { ends = new.ends }) × Rose old.ends new.ends × TellsLeft old.left []
FillFails old new (Err cause.LinkFault) =
    (new ≡ record old { faults = new.faults }) × Rose old.faults new.faults
FillFails old new (Err c) = ⊥

-- what is at the front of the unread bytes, or that no packet will be
abbrev pub Sees : Result Next PktFault → List ℕ → Type 0
Sees (Ok n) unread = Lends n unread
Sees (Err fault) unread = HasFault unread

-- the input of a session that could be asked, or that was aborted, is shut and its end waited for
abbrev pub shut_after : Standing → Stage → Stage
shut_after standing.Live stage = waited (input_shut stage)
shut_after standing.Aborted stage = waited (input_shut stage)
shut_after standing.Over stage = stage

-- What the two calls of `shut` answered, against the count of faults: it rose in each that failed, and in no other.
pub record CountsCalls (input end : Result ⊤ Failed) (before after : ℕ) : Type 0 where
  pub between : ℕ
  pub closed : AfterCall before between input
  pub waited : AfterCall between after end

-- a session that is over calls neither
abbrev pub CountsShut : Standing → Result ⊤ Failed → Result ⊤ Failed → ℕ → ℕ → Type 0
CountsShut standing.Live input end before after = CountsCalls input end before after
CountsShut standing.Aborted input end before after = CountsCalls input end before after
CountsShut standing.Over input end before after = (after ≡ before) × (input ≡ Ok tt) × (end ≡ Ok tt)

-- what a session's link is after `shut`, with what the two calls answered
pub record IsShutAfter (s : Standing) (wire : Wire) (link : LinkSeen) : Type 0 where
  pub input : Result ⊤ Failed
  pub end : Result ⊤ Failed
  pub kept : wire_of wire.unread link ≡ record wire { stage = shut_after s wire.stage; faults = link.faults }
  pub counts : CountsShut s input end wire.faults link.faults

-- a proper first part of a text was sent, or nothing
pub record IsSentPart (text : List ℕ) (old new : Wire) : Type 0 where
  pub part : SendsPart old.sent text new.sent
  pub stays : new ≡ record old { sent = new.sent; faults = new.faults }

-- a text was sent whole, or a part of it
abbrev pub SendsOn : {T : Type 0} → List ℕ → Wire → Wire → Result T SendFault → Type 0
SendsOn text old new (Ok x) = new ≡ record old { sent = grown old.sent text }
SendsOn text old new (Err send.Failed) = IsSentPart text old new × Rose old.faults new.faults
SendsOn text old new (Err send.NoMemory) = IsSentPart text old new × (new.faults ≡ old.faults)

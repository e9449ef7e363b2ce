-- A smudge request and its reply, and what the leaf has of it.
use Rattle.std.specs.Prelude.{◌≡◌, ◌≢◌, ℕ, Bool, List, ◌++◌, Result, Ok, Err, ⊤, is_some}
use Rattle.pkt_line.specs.Packets.{Packet}
use Rattle.filter_words.specs.SmudgeReply.{reply_start, content_in}
use Rattle.filter_words.specs.declared.reply.Reply.{Reply}
use Rattle.filter_words.specs.declared.reply.Reply.TheVariants as reply
use Rattle.filter_words.specs.declared.smudge_reply.GoodReply.{GoodReply}
use Rattle.filter_words.specs.declared.smudge_reply.GoodReply.TheVariants as good
use Rattle.filter_words.specs.declared.smudge_reply.ReplyPhase.{ReplyPhase}
use Rattle.filter_words.specs.declared.smudge_reply.ReplyPhase.TheVariants.{KeyList, Content, LastKeyList}
use Rattle.edge_kit.specs.Faults.{Rose}
use Rattle.edge_kit.specs.Seen.{LeafSeen}
use Rattle.edge_kit.specs.Files.{grown, IsOpenLeaf}
use Rattle.edge_kit.specs.declared.faults.SendFault.{SendFault}
use Rattle.edge_kit.specs.declared.faults.SendFault.TheVariants as send
use Rattle.edge_kit.specs.declared.leaf_state.LeafState.TheVariants as leaf
use Rattle.filter_proto.specs.Exchanges.{Ends, Good, Broke, OutOfMemory}
use Rattle.filter_proto.specs.declared.session.Standing.{Standing}
use Rattle.filter_proto.specs.declared.session.Standing.TheVariants as standing

-- a first part of these bytes was put
pub record IsFrontPut (old new : LeafSeen) (content : List ℕ) : Type 0 where
  pub front : List ℕ
  pub after : List ℕ
  pub cut : content ≡ front ++ after
  pub grew : new.content ≡ grown old.content front

-- What the puts so far did to the leaf, if these bytes were to be put. Its content is told as before, or isn't.
pub record IsPut (old new : LeafSeen) (put : Result ⊤ SendFault) (content : List ℕ) : Type 0 where
  pub path : new.path ≡ old.path
  pub told : is_some new.content ≡ is_some old.content
  pub holds : put ≡ Ok tt → new.content ≡ grown old.content content
  pub part : IsFrontPut old new content
  pub usable : put ≢ Err send.Failed → IsOpenLeaf new.state × (new.faults ≡ old.faults)
  pub broken : put ≡ Err send.Failed → (new.state ≡ leaf.Broken) × Rose old.faults new.faults

-- the same, whatever was put
pub record IsKept (old new : LeafSeen) (put : Result ⊤ SendFault) : Type 0 where
  pub path : new.path ≡ old.path
  pub told : is_some new.content ≡ is_some old.content
  pub usable : put ≢ Err send.Failed → IsOpenLeaf new.state × (new.faults ≡ old.faults)
  pub broken : put ≡ Err send.Failed → (new.state ≡ leaf.Broken) × Rose old.faults new.faults

-- the content so far was put
abbrev pub HasPut : Bool → LeafSeen → LeafSeen → Result ⊤ SendFault → List Packet → Type 0
HasPut d old new put packets = IsPut old new put (content_in d reply_start packets)

-- what was put of a content that may not be whole: a first part
abbrev pub HasPutPart : Bool → LeafSeen → LeafSeen → Result ⊤ SendFault → List Packet → Type 0
HasPutPart d old new put packets = IsKept old new put × IsFrontPut old new (content_in d reply_start packets)

-- a good reply's content was put whole, unless a put failed; of any other reply's a first part was put
abbrev pub EndPut : Bool → LeafSeen → LeafSeen → Result ⊤ SendFault → Ends GoodReply → List Packet → Type 0
EndPut d old new put (Good g) packets = HasPut d old new put packets
EndPut d old new put (Broke why) packets = HasPutPart d old new put packets
EndPut d old new put OutOfMemory packets = HasPutPart d old new put packets

-- what came of a request, as a reply
abbrev pub reply_end : Reply → Ends GoodReply
reply_end reply.Content = Good good.Content
reply_end reply.Error = Good good.Error
reply_end reply.ErrorAfter = Good good.ErrorAfter
reply_end reply.Abort = Good good.Abort
reply_end reply.Delayed = Good good.Delayed
reply_end (reply.Broken why) = Broke why
reply_end reply.NoMemory = OutOfMemory

-- the standing of a session after a reply
abbrev pub standing_after : Reply → Standing
standing_after reply.Content = standing.Live
standing_after reply.Error = standing.Live
standing_after reply.ErrorAfter = standing.Live
standing_after reply.Delayed = standing.Live
standing_after reply.Abort = standing.Aborted
standing_after (reply.Broken why) = standing.Over
standing_after reply.NoMemory = standing.Over

-- nothing was put
abbrev pub IsUntouched : LeafSeen → LeafSeen → Result ⊤ SendFault → Type 0
IsUntouched old new put = (new ≡ old) × (put ≡ Ok tt)

-- a reply that is an error or a delay has no content
abbrev pub TouchesNot : Reply → LeafSeen → LeafSeen → Result ⊤ SendFault → Type 0
TouchesNot reply.Error old new put = IsUntouched old new put
TouchesNot reply.Delayed old new put = IsUntouched old new put
TouchesNot r old new put = Unit {0}

-- while the first key list is read, nothing is put
abbrev pub NotBegun : ReplyPhase → LeafSeen → LeafSeen → Result ⊤ SendFault → Type 0
NotBegun (KeyList s) old new put = IsUntouched old new put
NotBegun Content old new put = Unit {0}
NotBegun (LastKeyList s) old new put = Unit {0}

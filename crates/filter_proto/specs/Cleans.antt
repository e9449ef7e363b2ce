-- A clean request and its reply, whose content is kept in memory.
use Rattle.std.specs.Prelude.{◌≡◌, ◌⊎◌, ℕ, Bool, false, List, Result, Ok, Err, ⊤}
use Rattle.pkt_line.specs.Packets.{Packet}
use Rattle.filter_words.specs.Handshake.{handshake_step, handshake_start}
use Rattle.filter_words.specs.declared.reply.Caps.{Caps}
use Rattle.filter_words.specs.SmudgeReply.{reply_step, reply_start, content_in}
use Rattle.filter_words.specs.declared.reply.BreakCause.TheVariants as cause
use Rattle.filter_words.specs.declared.reply.Reply.{Reply}
use Rattle.filter_words.specs.declared.reply.Reply.TheVariants as reply
use Rattle.filter_words.specs.declared.smudge_reply.GoodReply.{GoodReply}
use Rattle.filter_words.specs.declared.smudge_reply.GoodReply.TheVariants as good
use Rattle.edge_kit.specs.declared.faults.SendFault.{SendFault}
use Rattle.filter_proto.specs.Wires.{Wire}
use Rattle.filter_proto.specs.Exchanges.{Ends, Good, Broke, OutOfMemory, IsExchange}
use Rattle.filter_proto.specs.Openings.{has_clean}
use Rattle.filter_proto.specs.Complete.{BeginsGood}
use Rattle.filter_proto.specs.declared.clean_session.Cleaned.{Cleaned}
use Rattle.filter_proto.specs.declared.clean_session.Cleaned.TheVariants as cleaned
use Rattle.filter_proto.specs.declared.session.Standing.{Standing}
use Rattle.filter_proto.specs.declared.session.Standing.TheVariants as standing

-- the good handshake with which what is left unread begins announces `clean`, or doesn't
abbrev pub TellsClean : Bool → Wire → Type 0
TellsClean clean wire =
    (g : Caps) (begins : BeginsGood handshake_step handshake_start wire g) → has_clean begins.packets ≡ clean

-- what came of a clean request, as the end of an exchange
abbrev pub cleaned_end : Cleaned → Ends GoodReply
cleaned_end (cleaned.Content bytes) = Good good.Content
cleaned_end cleaned.Error = Good good.Error
cleaned_end cleaned.ErrorAfter = Good good.ErrorAfter
cleaned_end cleaned.Abort = Good good.Abort
cleaned_end (cleaned.Broken why) = Broke why
cleaned_end cleaned.NoMemory = OutOfMemory

-- the bytes that are given are the reply's content
abbrev pub HasContent : Cleaned → List Packet → Type 0
HasContent (cleaned.Content bytes) packets = bytes ≡ content_in false reply_start packets
HasContent r packets = Unit {0}

-- the reply was read whole, but memory had no room for its content
abbrev pub LacksRoom : List ℕ → Wire → Wire → Cleaned → Type 0
LacksRoom text old new cleaned.NoMemory =
    IsExchange (reply_step false) reply_start text old new (Good good.Content) (λ _. Unit {0})
LacksRoom text old new r = ⊥

abbrev pub IsCleaning : List ℕ → Wire → Wire → Cleaned → Type 0
IsCleaning text old new r =
    IsExchange (reply_step false) reply_start text old new (cleaned_end r) (HasContent r) ⊎ LacksRoom text old new r

-- the standing of a session after a clean request
abbrev pub standing_after_clean : Cleaned → Standing
standing_after_clean (cleaned.Content bytes) = standing.Live
standing_after_clean cleaned.Error = standing.Live
standing_after_clean cleaned.ErrorAfter = standing.Live
standing_after_clean cleaned.Abort = standing.Aborted
standing_after_clean (cleaned.Broken why) = standing.Over
standing_after_clean cleaned.NoMemory = standing.Over

-- What a reply gives, with these bytes in memory. A put fails for want of memory alone.
abbrev pub cleaned_of : Reply → Result ⊤ SendFault → List ℕ → Cleaned
cleaned_of reply.Content (Ok x) bytes = cleaned.Content bytes
cleaned_of reply.Content (Err fault) bytes = cleaned.NoMemory
cleaned_of reply.Error put bytes = cleaned.Error
cleaned_of reply.ErrorAfter put bytes = cleaned.ErrorAfter
cleaned_of reply.Abort put bytes = cleaned.Abort
cleaned_of reply.Delayed put bytes = cleaned.Broken cause.StrangeDelay
cleaned_of (reply.Broken why) put bytes = cleaned.Broken why
cleaned_of reply.NoMemory put bytes = cleaned.NoMemory

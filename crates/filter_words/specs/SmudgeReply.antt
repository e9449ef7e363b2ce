-- The reply to a smudge request, packet by packet.
use Rattle.std.specs.Prelude.{ℕ, Bool, true, false, Option, Some, None, List, [], ◌∷◌, ◌++◌}
use Rattle.pkt_line.specs.Packets.{Packet, Payload, Flush}
use Rattle.filter_words.specs.Words.{status_after}
use Rattle.filter_words.specs.declared.words.Status.{Status}
use Rattle.filter_words.specs.declared.words.Status.TheVariants as status
use Rattle.filter_words.specs.declared.reply.BreakCause.TheVariants as cause
use Rattle.filter_words.specs.declared.reply.Reply.{Reply}
use Rattle.filter_words.specs.declared.reply.Reply.TheVariants as reply
use Rattle.filter_words.specs.declared.smudge_reply.GoodReply.{GoodReply}
use Rattle.filter_words.specs.declared.smudge_reply.GoodReply.TheVariants as good
use Rattle.filter_words.specs.declared.smudge_reply.ReplyPhase.{ReplyPhase}
use Rattle.filter_words.specs.declared.smudge_reply.ReplyPhase.TheVariants.{KeyList, Content, LastKeyList}
use Rattle.filter_words.specs.declared.answer_state.AnswerState.{AnswerState}
use Rattle.filter_words.specs.declared.answer_state.AnswerState.TheVariants.{On, Done, Broken, Late}

-- The first key list's status decides. `d` says that `can-delay=1` was sent.
abbrev pub first_state : Bool → Option Status → AnswerState ReplyPhase GoodReply
first_state d None = Broken cause.UnknownStatus
first_state d (Some status.Success) = On Content
first_state d (Some status.Error) = Done good.Error
first_state d (Some status.Abort) = Done good.Abort
first_state true (Some status.Delayed) = Done good.Delayed
first_state false (Some status.Delayed) = Broken cause.StrangeDelay
first_state d (Some status.Other) = Broken cause.UnknownStatus

-- so does the status of the one after the content
abbrev pub last_state : Option Status → AnswerState ReplyPhase GoodReply
last_state None = Done good.Content
last_state (Some status.Success) = Done good.Content
last_state (Some status.Error) = Done good.ErrorAfter
last_state (Some status.Abort) = Done good.Abort
last_state (Some status.Delayed) = Broken cause.UnknownStatus
last_state (Some status.Other) = Broken cause.UnknownStatus

abbrev pub reply_step : Bool → ReplyPhase → Packet → AnswerState ReplyPhase GoodReply
reply_step d (KeyList s) (Payload line) = On (KeyList (status_after s line))
reply_step d (KeyList s) Flush = first_state d s
reply_step d Content (Payload piece) = On Content
reply_step d Content Flush = On (LastKeyList None)
reply_step d (LastKeyList s) (Payload line) = On (LastKeyList (status_after s line))
reply_step d (LastKeyList s) Flush = last_state s

abbrev pub reply_start : AnswerState ReplyPhase GoodReply
reply_start = On (KeyList None)

-- what a packet adds to the content, and what it makes of the reply
abbrev pub piece_in : AnswerState ReplyPhase GoodReply → Packet → List ℕ
piece_in (On Content) (Payload piece) = piece
piece_in state p = []

abbrev pub state_after : Bool → AnswerState ReplyPhase GoodReply → Packet → AnswerState ReplyPhase GoodReply
state_after d (On phase) p = reply_step d phase p
state_after d (Done g) p = Late
state_after d (Broken why) p = Late
state_after d Late p = Late

-- the content: the payloads between the two key lists, joined
abbrev pub content_in : Bool → AnswerState ReplyPhase GoodReply → List Packet → List ℕ
content_in d state [] = []
content_in d state (p ∷ ps) = piece_in state p ++ content_in d (state_after d state p) ps

abbrev pub reply_of_good : GoodReply → Reply
reply_of_good good.Content = reply.Content
reply_of_good good.Error = reply.Error
reply_of_good good.ErrorAfter = reply.ErrorAfter
reply_of_good good.Abort = reply.Abort
reply_of_good good.Delayed = reply.Delayed

-- the reply that has come to its end
abbrev pub reply_in : AnswerState ReplyPhase GoodReply → Option Reply
reply_in (On phase) = None
reply_in (Done g) = Some (reply_of_good g)
reply_in (Broken why) = Some (reply.Broken why)
reply_in Late = None

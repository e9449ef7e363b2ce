-- The answer to a request for a list of delayed paths, packet by packet.
use Rattle.std.specs.Prelude.{ℕ, Bool, ◌&&◌, not, if◌then◌else◌, Option, Some, None, List, [], ◌∷◌, ◌++◌, length, codes}
use Rattle.std.specs.List.{list_any}
use Rattle.std.specs.Str.{bytes_eq}
use Rattle.pkt_line.specs.Packets.{Packet, Payload, Flush}
use Rattle.filter_words.specs.Words.{status_after, value_of}
use Rattle.filter_words.specs.declared.words.Status.{Status}
use Rattle.filter_words.specs.declared.words.Status.TheVariants as status
use Rattle.filter_words.specs.declared.reply.BreakCause.TheVariants as cause
use Rattle.filter_words.specs.declared.reply.ListReply.{ListReply}
use Rattle.filter_words.specs.declared.reply.ListReply.TheVariants as reply
use Rattle.filter_words.specs.declared.answer_state.AnswerState.{AnswerState}
use Rattle.filter_words.specs.declared.answer_state.AnswerState.TheVariants.{On, Done, Broken, Late}

-- the names listed so far, and after them a key list with its status so far
pub data ListPhase : Type 0 where
  Names : List (List ℕ) → ListPhase
  KeyList : List (List ℕ) → Option Status → ListPhase

pub data GoodList : Type 0 where
  Listed : List (List ℕ) → GoodList  -- success, with these names
  Aborted : GoodList

abbrev pub name_in : List (List ℕ) → List ℕ → Bool
name_in names name = list_any (λ known. bytes_eq known name) names

-- a name that is delayed, and wasn't listed before
abbrev pub after_name : List (List ℕ) → List (List ℕ) → List ℕ → AnswerState ListPhase GoodList
after_name delayed listed name =
    if name_in delayed name && not (name_in listed name) then On (Names (listed ++ name ∷ [])) else Broken
    cause.StrangePath

abbrev pub after_value : List (List ℕ) → List (List ℕ) → Option (List ℕ) → AnswerState ListPhase GoodList
after_value delayed listed None = On (Names listed)
after_value delayed listed (Some name) = after_name delayed listed name

abbrev pub list_status : List (List ℕ) → Option Status → AnswerState ListPhase GoodList
list_status listed (Some status.Success) = Done (Listed listed)
list_status listed (Some status.Abort) = Done Aborted
list_status listed (Some status.Error) = Broken cause.ListRefused
list_status listed (Some status.Delayed) = Broken cause.UnknownStatus
list_status listed (Some status.Other) = Broken cause.UnknownStatus
list_status listed None = Broken cause.UnknownStatus

-- a `pathname=` line names a path, and other lines are ignored
abbrev pub list_step : List (List ℕ) → ListPhase → Packet → AnswerState ListPhase GoodList
list_step delayed (Names listed) (Payload line) = after_value delayed listed (value_of (codes "pathname") line)
list_step delayed (Names listed) Flush = On (KeyList listed None)
list_step delayed (KeyList listed s) (Payload line) = On (KeyList listed (status_after s line))
list_step delayed (KeyList listed s) Flush = list_status listed s

abbrev pub list_start : AnswerState ListPhase GoodList
list_start = On (Names [])

-- how many paths are named, or that none is
abbrev pub reply_of_good : GoodList → ListReply
reply_of_good (Listed []) = reply.Empty
reply_of_good (Listed (name ∷ names)) = reply.Names (length (name ∷ names))
reply_of_good Aborted = reply.Abort

-- the reply that has come to its end
abbrev pub list_reply_in : AnswerState ListPhase GoodList → Option ListReply
list_reply_in (On phase) = None
list_reply_in (Done g) = Some (reply_of_good g)
list_reply_in (Broken why) = Some (reply.Broken why)
list_reply_in Late = None

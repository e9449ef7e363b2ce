-- Good replies to a smudge request.
use Rattle.std.specs.Prelude.{◌≡◌, ℕ, ◌⊎◌, Bool, true, false, Option, Some, None, List, [], ◌∷◌, ◌++◌}
use Rattle.pkt_line.specs.Packets.{Packet}
use Rattle.filter_words.specs.Words.{last_status}
use Rattle.filter_words.specs.Grammar.{block}
use Rattle.filter_words.specs.declared.reply.BreakCause.{BreakCause}
use Rattle.filter_words.specs.declared.reply.BreakCause.TheVariants as cause
use Rattle.filter_words.specs.declared.words.Status.{Status}
use Rattle.filter_words.specs.declared.words.Status.TheVariants as status
use Rattle.filter_words.specs.declared.smudge_reply.GoodReply.{GoodReply}
use Rattle.filter_words.specs.declared.smudge_reply.GoodReply.TheVariants as good

-- the statuses with which one key list is the whole reply
abbrev pub EndsShort : Bool → Option Status → GoodReply → Type 0
EndsShort d s good.Error = s ≡ Some status.Error
EndsShort d s good.Abort = s ≡ Some status.Abort
EndsShort d s good.Delayed = (s ≡ Some status.Delayed) × (d ≡ true)
EndsShort d s good.Content = ⊥
EndsShort d s good.ErrorAfter = ⊥

-- the statuses that the key list after a content may have
abbrev pub EndsLong : Option Status → GoodReply → Type 0
EndsLong s good.Content = (s ≡ None) ⊎ (s ≡ Some status.Success)
EndsLong s good.ErrorAfter = s ≡ Some status.Error
EndsLong s good.Abort = s ≡ Some status.Abort
EndsLong s good.Error = ⊥
EndsLong s good.Delayed = ⊥

-- a reply of one key list
pub record IsShortReply (d : Bool) (ps : List Packet) (g : GoodReply) : Type 0 where
  pub keys : List (List ℕ)
  pub whole : ps ≡ block keys
  pub ends : EndsShort d (last_status None keys) g

-- a reply of a key list with `status=success`, a content, and a second key list
pub record IsLongReply (ps : List Packet) (g : GoodReply) : Type 0 where
  pub keys : List (List ℕ)
  pub pieces : List (List ℕ)
  pub last_keys : List (List ℕ)
  pub whole : ps ≡ block keys ++ (block pieces ++ block last_keys)
  pub success : last_status None keys ≡ Some status.Success
  pub ends : EndsLong (last_status None last_keys) g

-- `d` says that `can-delay=1` was sent
abbrev pub IsReply : Bool → List Packet → GoodReply → Type 0
IsReply d ps g = IsShortReply d ps g ⊎ IsLongReply ps g

abbrev pub joined : List (List ℕ) → List ℕ
joined [] = []
joined (piece ∷ pieces) = piece ++ joined pieces

-- the statuses of a first key list that break a reply, and those of a key list after a content
abbrev pub BreaksFirst : Bool → Option Status → BreakCause → Type 0
BreaksFirst d s cause.StrangeDelay = (s ≡ Some status.Delayed) × (d ≡ false)
BreaksFirst d s cause.UnknownStatus = (s ≡ None) ⊎ (s ≡ Some status.Other)
BreaksFirst d s cause.Ended = ⊥
BreaksFirst d s cause.LinkFault = ⊥
BreaksFirst d s cause.BadPacket = ⊥
BreaksFirst d s cause.BadHandshake = ⊥
BreaksFirst d s cause.TooLong = ⊥
BreaksFirst d s cause.StrangePath = ⊥
BreaksFirst d s cause.ListRefused = ⊥

abbrev pub BreaksLast : Option Status → BreakCause → Type 0
BreaksLast s cause.UnknownStatus = (s ≡ Some status.Delayed) ⊎ (s ≡ Some status.Other)
BreaksLast s cause.Ended = ⊥
BreaksLast s cause.LinkFault = ⊥
BreaksLast s cause.BadPacket = ⊥
BreaksLast s cause.BadHandshake = ⊥
BreaksLast s cause.StrangeDelay = ⊥
BreaksLast s cause.TooLong = ⊥
BreaksLast s cause.StrangePath = ⊥
BreaksLast s cause.ListRefused = ⊥

pub record BreaksShort (d : Bool) (ps : List Packet) (why : BreakCause) : Type 0 where
  pub keys : List (List ℕ)
  pub whole : ps ≡ block keys
  pub breaks : BreaksFirst d (last_status None keys) why

pub record BreaksLong (ps : List Packet) (why : BreakCause) : Type 0 where
  pub keys : List (List ℕ)
  pub pieces : List (List ℕ)
  pub last_keys : List (List ℕ)
  pub whole : ps ≡ block keys ++ (block pieces ++ block last_keys)
  pub success : last_status None keys ≡ Some status.Success
  pub breaks : BreaksLast (last_status None last_keys) why

-- the cause of a reply that is broken within the limit
abbrev pub BreaksReply : Bool → List Packet → BreakCause → Type 0
BreaksReply d ps why = BreaksShort d ps why ⊎ BreaksLong ps why

-- Which answer an exchange gives if a good one was sent, and when two exchanges give the same.
use Rattle.std.specs.Prelude.{◌≡◌, ℕ, List, [], ◌++◌}
use Rattle.pkt_line.specs.Packets.{Packet, SpellAll}
use Rattle.filter_words.specs.Outcomes.{outcome, limit}
use Rattle.filter_words.specs.Listing.{GoodList, reply_of_good}
use Rattle.filter_words.specs.declared.reply.BreakCause.TheVariants as cause
use Rattle.filter_words.specs.declared.reply.ListReply.{ListReply}
use Rattle.filter_words.specs.declared.reply.ListReply.TheVariants as reply
use Rattle.filter_words.specs.declared.answer_state.AnswerState.{AnswerState}
use Rattle.filter_words.specs.declared.answer_state.AnswerState.TheVariants.{Done}
use Rattle.edge_kit.specs.Faults.{Rose}
use Rattle.edge_kit.specs.Links.{LeftBytes}
use Rattle.filter_proto.specs.Wires.{Wire}
use Rattle.filter_proto.specs.Exchanges.{Ends, Good, Broke, OutOfMemory, IsHeard}

-- What is left unread begins with this good answer, within the limit.
pub record BeginsGood {P G : Type 0} (step : P → Packet → AnswerState P G) (start : AnswerState P G)
    (wire : Wire) (g : G) : Type 0 where
  pub packets : List Packet
  pub used : List ℕ
  pub rest : List ℕ
  pub left : List ℕ
  pub told : wire.left ≡ LeftBytes left
  pub whole : wire.unread ++ left ≡ used ++ rest
  pub spelled : SpellAll packets used
  pub good : outcome step limit start packets ≡ Done g

-- that answer came, or the link failed, or memory ran out
abbrev pub Gives : {G : Type 0} → G → Wire → Wire → Ends G → Type 0
Gives g old new (Good x) = x ≡ g
Gives g old new (Broke why) = (why ≡ cause.LinkFault) × Rose old.faults new.faults
Gives g old new OutOfMemory = Unit {0}

-- a good answer that was sent is given, unless the link failed or memory ran out
abbrev pub IsComplete : {P G : Type 0} → (P → Packet → AnswerState P G) → AnswerState P G → Wire → Wire → Ends G
    → Type 0
IsComplete {P} {G} step start old new end = (g : G) → BeginsGood step start old g → Gives g old new end

-- the same for a list, by its reply
abbrev pub GivesList : GoodList → Wire → Wire → ListReply → Type 0
GivesList g old new (reply.Names count) = reply.Names count ≡ reply_of_good g
GivesList g old new reply.Empty = reply.Empty ≡ reply_of_good g
GivesList g old new reply.Abort = reply.Abort ≡ reply_of_good g
GivesList g old new (reply.Broken why) = (why ≡ cause.LinkFault) × Rose old.faults new.faults
GivesList g old new reply.NoMemory = Unit {0}

-- neither a fault of the link nor out of memory
abbrev pub IsSettled : {G : Type 0} → Ends G → Type 0
IsSettled (Good g) = Unit {0}
IsSettled (Broke cause.LinkFault) = ⊥
IsSettled (Broke why) = Unit {0}
IsSettled OutOfMemory = ⊥

-- An answer was taken from the front of a first part of this output, whatever was done with it: what was unread, what
-- came, and what didn't come make up the output. An end of input was met only if all of it came.
pub record IsHeardOf {P G : Type 0} (step : P → Packet → AnswerState P G) (start : AnswerState P G) (output : List ℕ)
    (old new : Wire) (end : Ends G) : Type 0 where
  pub heard : IsHeard step start old new end (λ _. Unit {0})
  pub ahead : List ℕ
  pub whole : output ≡ old.unread ++ (heard.took.came ++ ahead)
  pub ended : end ≡ Broke cause.Ended → ahead ≡ []
  pub settled : IsSettled end

-- Two answers taken from one output are the same, and if they are good they have the same packets and bytes.
abbrev pub IsHeardOnce : (P G : Type 0) → (P → Packet → AnswerState P G) → AnswerState P G → Type 0
IsHeardOnce P G step start = (output : List ℕ) (a b c d : Wire) (x y : Ends G)
    (one : IsHeardOf step start output a b x) (two : IsHeardOf step start output c d y)
    → (x ≡ y) × ((g : G) → x ≡ Good g → (one.heard.packets ≡ two.heard.packets) × (one.heard.used ≡ two.heard.used))

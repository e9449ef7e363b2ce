-- One packet of a list that is being read.
use Rattle.std.specs.Prelude.{◌≡◌, ℕ, ◌+◌, Bool, true, false, List, [], ◌∷◌, ◌++◌, length, map}
use Rattle.pkt_line.specs.Packets.{Packet, Payload, Flush, size}
use Rattle.filter_words.specs.Outcomes.{outcome}
use Rattle.filter_words.specs.Listing.{GoodList, ListPhase, Names, list_step, list_start}
use Rattle.filter_words.specs.ListGrammar.{names_of}
use Rattle.filter_words.specs.ListStates.{list_phase}
use Rattle.filter_words.specs.declared.listing.ListPart.{ListPart}
use Rattle.filter_words.specs.declared.listing.ListPart.TheVariants as part
use Rattle.filter_words.specs.declared.reply.ListReply.{ListReply}
use Rattle.filter_words.specs.declared.reply.BreakCause.TheVariants as cause
use Rattle.filter_words.specs.declared.answer_state.AnswerState.{AnswerState}
use Rattle.filter_words.specs.declared.answer_state.AnswerState.TheVariants.{On, Done, Broken, Late}
use Rattle.delay_table.specs.Table.{Table}
use Rattle.filter_proto.specs.Wires.{Wire}
use Rattle.filter_proto.specs.Exchanges.{Ends, Good, Broke, IsReading, IsHeard}
use Rattle.filter_proto.specs.Lists.{Lists, EndLists, delayed_in, list_reply_of}
use Rattle.filter_proto.specs.declared.list_request.Listing.{Listing}
use Rattle.filter_proto.specs.declared.list_request.ListStep.{ListStep}
use Rattle.filter_proto.specs.declared.list_request.ListStep.TheVariants as step

-- what comes after the lines with names: nothing while they are read, and then a flush packet first
abbrev pub ComesBehind : ListPart → List Packet → Type 0
ComesBehind part.Names rest = rest ≡ []
ComesBehind (part.KeyList s) rest = (more : List Packet) × (rest ≡ Flush ∷ more)

-- the lines so far name these
pub record IsNamed (p : ListPart) (names : List (List ℕ)) (packets : List Packet) : Type 0 where
  pub lines : List (List ℕ)
  pub rest : List Packet
  pub whole : packets ≡ map Payload lines ++ rest
  pub are : names ≡ names_of lines
  pub behind : ComesBehind p rest

-- these names were listed so far
pub record HasNames (before now : Table) (names : List (List ℕ)) (count : ℕ) : Type 0 where
  pub listed : Lists names before now
  pub counted : count ≡ length names

-- a list is being read
pub record IsListing (start wire : Wire) (l : Listing) (before now : Table) : Type 0 where
  pub names : List (List ℕ)
  pub has : HasNames before now names l.count
  pub reading : IsReading (list_step (delayed_in before)) list_start start wire l.room
      (list_phase l.part names) (IsNamed l.part names)

-- a list was read, and this is what it came to
pub record IsReadList (start wire : Wire) (before now : Table) (r : ListReply) : Type 0 where
  pub end : Ends GoodList
  pub heard : IsHeard (list_step (delayed_in before)) list_start start wire end (EndLists before now end)
  pub reply : r ≡ list_reply_of end

abbrev pub ListStepIs : Wire → Wire → ListStep → Listing → Table → Table → Type 0
ListStepIs start wire step.On l before now = IsListing start wire l before now
ListStepIs start wire (step.End r) l before now = IsReadList start wire before now r

-- the state is one at which a reading ends like this
abbrev pub EndsSo : AnswerState ListPhase GoodList → Ends GoodList → Type 0
EndsSo (Done g) end = end ≡ Good g
EndsSo (Broken why) end = end ≡ Broke why
EndsSo (On phase) end = ⊥
EndsSo Late end = ⊥

-- the result of a line that may name a path
abbrev pub TakesName : List ℕ → ℕ → Table → Bool → ℕ → Table → Type 0
TakesName line count told true more now = (before : Table) (names : List (List ℕ)) → HasNames before told names count
    → HasNames before now (names ++ names_of (line ∷ [])) more
    × (list_step (delayed_in before) (Names names) (Payload line) ≡ On (Names (names ++ names_of (line ∷ []))))
TakesName line count told false more now = (now ≡ told)
    × ((before : Table) (names : List (List ℕ)) → HasNames before told names count
    → list_step (delayed_in before) (Names names) (Payload line) ≡ Broken cause.StrangePath)

-- a packet goes on: the room, the part and the names after it
pub record GoesOn (before : Table) (names : List (List ℕ)) (old : Listing) (x : Packet)
    (new : Listing) (now : Table) : Type 0 where
  pub more : List (List ℕ)
  pub has : HasNames before now (names ++ more) new.count
  pub fits : new.room + size x ≡ old.room
  pub leads : list_step (delayed_in before) (list_phase old.part names) x ≡ On (list_phase new.part (names ++ more))
  pub named : (packets : List Packet) → IsNamed old.part names packets
      → IsNamed new.part (names ++ more) (packets ++ x ∷ [])

-- a packet ends the list
pub record GoesEnd (before : Table) (names : List (List ℕ)) (old : Listing) (x : Packet)
    (r : ListReply) (now : Table) : Type 0 where
  pub end : Ends GoodList
  pub ends : EndsSo (outcome (list_step (delayed_in before)) old.room (On (list_phase old.part names)) (x ∷ [])) end
  pub reply : r ≡ list_reply_of end
  pub done : (packets : List Packet) → IsNamed old.part names packets → EndLists before now end (packets ++ x ∷ [])

-- the result of a packet that was taken
abbrev pub TakesList : Listing → Packet → ListStep → Listing → Table → Table → Type 0
TakesList old x step.On new told now =
    (before : Table) (names : List (List ℕ)) → HasNames before told names old.count → GoesOn before names old x new now
TakesList old x (step.End r) new told now =
    (before : Table) (names : List (List ℕ)) → HasNames before told names old.count → GoesEnd before names old x r now

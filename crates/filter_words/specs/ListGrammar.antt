-- Good answers to a list request.
use Rattle.std.specs.Prelude.{◌≡◌, ◌⊎◌, ◌&&◌, not, map, ℕ, Bool, true, false, Option, Some, None, List, [], ◌∷◌, ◌++◌}
use Rattle.std.specs.Prelude.{codes}
use Rattle.pkt_line.specs.Packets.{Packet, Payload}
use Rattle.filter_words.specs.Words.{value_of, last_status}
use Rattle.filter_words.specs.Listing.{GoodList, Listed, Aborted, name_in}
use Rattle.filter_words.specs.Grammar.{block}
use Rattle.filter_words.specs.declared.reply.BreakCause.{BreakCause}
use Rattle.filter_words.specs.declared.reply.BreakCause.TheVariants as cause
use Rattle.filter_words.specs.declared.words.Status.{Status}
use Rattle.filter_words.specs.declared.words.Status.TheVariants as status

abbrev pub with_name : Option (List ℕ) → List (List ℕ) → List (List ℕ)
with_name None names = names
with_name (Some name) names = name ∷ names

-- the paths that lines name, in their order
abbrev pub names_of : List (List ℕ) → List (List ℕ)
names_of [] = []
names_of (line ∷ lines) = with_name (value_of (codes "pathname") line) (names_of lines)

-- each is delayed, and is neither among those before nor named twice
abbrev pub AreExpected : List (List ℕ) → List (List ℕ) → List (List ℕ) → Type 0
AreExpected delayed before [] = Unit {0}
AreExpected delayed before (name ∷ names) =
    (name_in delayed name ≡ true) × (name_in before name ≡ false) × AreExpected delayed (before ++ name ∷ []) names

abbrev pub EndsList : Option Status → List (List ℕ) → GoodList → Type 0
EndsList s names (Listed listed) = (s ≡ Some status.Success) × (listed ≡ names)
EndsList s names Aborted = s ≡ Some status.Abort

-- lines up to a flush packet, and a key list
pub record IsList (delayed : List (List ℕ)) (ps : List Packet) (g : GoodList) : Type 0 where
  pub lines : List (List ℕ)
  pub keys : List (List ℕ)
  pub whole : ps ≡ block lines ++ block keys
  pub expected : AreExpected delayed [] (names_of lines)
  pub ends : EndsList (last_status None keys) (names_of lines) g

-- the name is of a path that isn't delayed, or that was listed before
abbrev pub is_strange : List (List ℕ) → List (List ℕ) → List ℕ → Bool
is_strange delayed listed name = not (name_in delayed name && not (name_in listed name))

-- the last line names a strange path, and those before it expected ones
pub record HasStrangeName (delayed before : List (List ℕ)) (ps : List Packet) : Type 0 where
  pub lines : List (List ℕ)
  pub line : List ℕ
  pub name : List ℕ
  pub whole : ps ≡ map Payload lines ++ Payload line ∷ []
  pub expected : AreExpected delayed before (names_of lines)
  pub names : value_of (codes "pathname") line ≡ Some name
  pub strange : is_strange delayed (before ++ names_of lines) name ≡ true

-- the statuses that break the answer
abbrev pub BreaksEnd : Option Status → BreakCause → Type 0
BreaksEnd s cause.ListRefused = s ≡ Some status.Error
BreaksEnd s cause.UnknownStatus = (s ≡ None) ⊎ (s ≡ Some status.Delayed) ⊎ (s ≡ Some status.Other)
BreaksEnd s cause.Ended = ⊥
BreaksEnd s cause.LinkFault = ⊥
BreaksEnd s cause.BadPacket = ⊥
BreaksEnd s cause.BadHandshake = ⊥
BreaksEnd s cause.StrangeDelay = ⊥
BreaksEnd s cause.TooLong = ⊥
BreaksEnd s cause.StrangePath = ⊥

pub record HasBadStatus (delayed before : List (List ℕ)) (ps : List Packet) (why : BreakCause) : Type 0 where
  pub lines : List (List ℕ)
  pub keys : List (List ℕ)
  pub whole : ps ≡ block lines ++ block keys
  pub expected : AreExpected delayed before (names_of lines)
  pub breaks : BreaksEnd (last_status None keys) why

-- the cause of an answer that is broken within the limit, if these were listed before
abbrev pub BreaksFrom : List (List ℕ) → List (List ℕ) → List Packet → BreakCause → Type 0
BreaksFrom delayed before ps why = ((why ≡ cause.StrangePath) × HasStrangeName delayed before ps)
    ⊎ HasBadStatus delayed before ps why

abbrev pub BreaksList : List (List ℕ) → List Packet → BreakCause → Type 0
BreaksList delayed ps why = BreaksFrom delayed [] ps why

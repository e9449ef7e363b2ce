-- A driver's talk as its exchanges, one after another, and what is noted of each.
use Rattle.std.specs.Prelude.{◌≡◌, ℕ, List, [], ◌∷◌, ◌++◌, map, Some}
use Rattle.filter_words.specs.declared.reply.Caps.{Caps}
use Rattle.filter_words.specs.declared.reply.Reply.{Reply}
use Rattle.filter_words.specs.declared.reply.ListReply.{ListReply}
use Rattle.filter_words.specs.declared.reply.ListReply.TheVariants as list
use Rattle.filter_proto.specs.Exchanges.{Ends, Good, Broke, OutOfMemory}
use Rattle.checkout_core.specs.declared.event.OpenCause.TheVariants as opening
use Rattle.checkout_core.specs.declared.event.Event.{Event}
use Rattle.checkout_core.specs.declared.event.Event.TheVariants as event
use Rattle.checkout_core.specs.Talks.{Talk, Between, InRound, talk_run}

-- a start that gave no session, or an exchange of a session, with the path that it is for
pub data Exchange : Type 0 where
  NoStart : (p : ℕ) → Exchange  -- the start failed
  NoRoom : (p : ℕ) → Exchange  -- the start was out of memory
  Opening : (p : ℕ) → (end : Ends Caps) → Exchange
  First : (p : ℕ) → (r : Reply) → (content : List ℕ) → Exchange
  Listing : (late names : List ℕ) → (r : ListReply) → Exchange  -- `late` are those that it may name
  Second : (p : ℕ) → (r : Reply) → (content : List ℕ) → Exchange
  Shutting : Exchange  -- the session is shut with nothing owed

abbrev pub opening_note : ℕ → ℕ → Ends Caps → Event
opening_note d p (Good caps) = event.Opened d caps
opening_note d p (Broke why) = event.OpenFailed p (opening.Broken why)
opening_note d p OutOfMemory = event.OpenFailed p opening.NoMemory

-- a list with names is each name, and then its end
abbrev pub list_notes : ℕ → List ℕ → ListReply → List Event
list_notes d names (list.Names n) = map event.Named names ++ event.Listed d (list.Names n) ∷ []
list_notes d names r = event.Listed d r ∷ []

-- what is noted of an exchange with the driver d
abbrev pub notes_of : ℕ → Exchange → List Event
notes_of d (NoStart p) = event.OpenFailed p opening.NotStarted ∷ []
notes_of d (NoRoom p) = event.OpenFailed p opening.NoMemory ∷ []
notes_of d (Opening p end) = opening_note d p end ∷ []
notes_of d (First p r content) = event.Answered p r ∷ []
notes_of d (Listing late names r) = list_notes d names r
notes_of d (Second p r content) = event.Redone p r ∷ []
notes_of d Shutting = event.Shut d ∷ []

abbrev pub notes_in : ℕ → List Exchange → List Event
notes_in d [] = []
notes_in d (e ∷ es) = notes_of d e ++ notes_in d es

-- the path comes next in the talk
abbrev pub IsNextIn : ℕ → Talk → Type 0
IsNextIn p (Between (q ∷ rest)) = p ≡ q
IsNextIn p t = ⊥

-- the paths that are late in the talk
abbrev pub late_of : Talk → List ℕ
late_of (InRound r) = r.late
late_of t = []

-- What the notes don't tell: an opening is for the path that comes next, and a list may name the paths that are late.
abbrev pub FitsTalk : Talk → Exchange → Type 0
FitsTalk t (Opening p end) = IsNextIn p t
FitsTalk t (Listing late names r) = late ≡ late_of t
FitsTalk t e = Unit {0}

-- the exchanges lead from one talk to another: each fits the talk, which goes on by its notes
abbrev pub LeadsTo : ℕ → Talk → List Exchange → Talk → Type 0
LeadsTo d t [] u = t ≡ u
LeadsTo d t (e ∷ es) u = (mid : Talk) × FitsTalk t e × (talk_run d t (notes_of d e) ≡ Some mid) × LeadsTo d mid es u

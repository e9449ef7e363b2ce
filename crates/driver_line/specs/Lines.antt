-- A line to a driver: what came of its starts, and the session that is open, if one is. What each exchange does to
-- it.
use Rattle.std.specs.Prelude.{◌≡◌, ◌⊎◌, ℕ, ◌+◌, Bool, true, false, Option, Some, None, List, [], ◌∷◌, ◌++◌, map}
use Rattle.std.specs.Prelude.{Result, ⊤}
use Rattle.edge_kit.specs.declared.faults.Failed.{Failed}
use Rattle.pkt_line.specs.Packets.{Packet}
use Rattle.filter_words.specs.SmudgeReply.{reply_step, reply_start, content_in}
use Rattle.filter_words.specs.Listing.{GoodList, Listed, Aborted, list_step, list_start}
use Rattle.filter_words.specs.Requests.{first_text, second_text, list_text}
use Rattle.filter_words.specs.declared.reply.Caps.{Caps}
use Rattle.filter_words.specs.declared.reply.ListReply.{ListReply}
use Rattle.filter_words.specs.declared.reply.ListReply.TheVariants as list
use Rattle.filter_words.specs.declared.reply.Reply.{Reply}
use Rattle.edge_kit.specs.Told.{Tells}
use Rattle.edge_kit.specs.Starters.{StarterSeen, Session, StartOutOfMemory, SessionHad, NextGives, behind_next}
use Rattle.edge_kit.specs.Starters.{IsStartFailed}
use Rattle.edge_kit.specs.Links.{Open, is_shut, replies_in}
use Rattle.filter_proto.specs.Wires.{Wire}
use Rattle.filter_proto.specs.Exchanges.{Ends, Good, Broke, OutOfMemory, IsExchange}
use Rattle.filter_proto.specs.Wires.{SessionSeen}
use Rattle.filter_proto.specs.Replies.{reply_end, standing_after}
use Rattle.filter_proto.specs.Wires.{shut_after, CountsShut}
use Rattle.filter_proto.specs.Openings.{IsOpening}
use Rattle.filter_proto.specs.declared.session.Standing.{Standing}
use Rattle.filter_proto.specs.declared.session.Standing.TheVariants as standing
use Rattle.std.specs.Prelude.{Result, Ok, ⊤, length, ◌<◌}
use Rattle.edge_kit.specs.Files.{grown}
use Rattle.edge_kit.specs.declared.faults.SendFault.{SendFault}
use Rattle.filter_words.specs.declared.reply.Reply.TheVariants as reply
use Rattle.edge_kit.specs.Seen.{LeafSeen}
use Rattle.filter_proto.specs.Replies.{IsFrontPut, IsKept, TouchesNot}
use Rattle.checkout_core.specs.Conditions.{is_path_break}
use Rattle.checkout_core.specs.declared.event.OpenCause.TheVariants as opening
use Rattle.std.specs.Prelude.{slice_get, slice_index_or}
use Rattle.delay_table.specs.Table.{Table, is_pending, contains}
use Rattle.delay_table.specs.declared.place.Place.{Place}
use Rattle.delay_table.specs.declared.place.Place.TheVariants as place
use Rattle.driver_line.specs.declared.line.SessionStart.{SessionStart}
use Rattle.driver_line.specs.declared.line.SessionStart.TheVariants as starts
use Rattle.driver_line.specs.Conversations.{Exchange, NoStart, NoRoom, Opening, First, Listing, Second, Shutting}

pub record LineView : Type 0 where
  pub starter : StarterSeen
  pub session : Option SessionSeen

-- the texts of a driver's paths, the names of their objects and their prepared bytes
pub record Paths : Type 0 where
  pub text : ℕ → List ℕ
  pub name : ℕ → List ℕ
  pub content : ℕ → List ℕ

-- a link that was just given
pub record IsFresh (w : Wire) : Type 0 where
  pub sent : Tells w.sent []
  pub taken : Tells w.taken []
  pub unread : w.unread ≡ []
  pub faults : w.faults ≡ 0
  pub ends : w.ends ≡ 0
  pub stage : w.stage ≡ Open

-- The session is over, and its starter keeps it. Its count of faults rose in each of the two calls that shut it and
-- failed, and in no other.
pub record IsEnded (old : StarterSeen) (last : Wire) (how : Standing) (new : LineView) : Type 0 where
  pub seen : SessionHad
  pub none : new.session ≡ None
  pub kept : new.starter ≡ record old { had = old.had ++ Session seen ∷ []; out = new.starter.out }
  pub out : new.starter.out + 1 ≡ old.out
  pub sent : seen.sent ≡ last.sent
  pub taken : seen.taken ≡ last.taken
  pub ends : seen.ends ≡ last.ends
  pub replies : seen.replies ≡ replies_in last.left
  pub input : Result ⊤ Failed
  pub end : Result ⊤ Failed
  pub faults : CountsShut how input end last.faults seen.faults
  pub shut : seen.shut ≡ is_shut (shut_after how last.stage)

-- the session goes on, or is over
abbrev pub After : LineView → SessionSeen → Wire → Standing → LineView → Type 0
After old s wire standing.Live new = (new.session ≡ Some
    (record { wire = wire; caps = s.caps; standing = standing.Live })) × (new.starter ≡ old.starter)
After old s wire standing.Aborted new = IsEnded old.starter wire standing.Aborted new
After old s wire standing.Over new = IsEnded old.starter wire standing.Over new

abbrev pub HasContent : Bool → List ℕ → List Packet → Type 0
HasContent d content packets = content ≡ content_in d reply_start packets

-- a request for a path in the open session
pub record IsAsked (d : Bool) (text : List ℕ) (old : LineView) (s : SessionSeen) (r : Reply) (content : List ℕ)
    (new : LineView) : Type 0 where
  pub wire : Wire
  pub live : s.standing ≡ standing.Live
  pub smudge : s.caps.smudge ≡ true
  pub exchange : IsExchange (reply_step d) reply_start text s.wire wire (reply_end r) (HasContent d content)
  pub after : After old s wire (standing_after r) new

-- what came of a list, by the paths that are named: a list that ends its session names none
abbrev pub ListIs : Paths → List ℕ → ListReply → Ends GoodList → Type 0
ListIs paths names (list.Names n) end = end ≡ Good (Listed (map paths.text names))
ListIs paths names list.Empty end = (end ≡ Good (Listed [])) × (names ≡ [])
ListIs paths names list.Abort end = (end ≡ Good Aborted) × (names ≡ [])
ListIs paths names (list.Broken why) end = (end ≡ Broke why) × (names ≡ [])
ListIs paths names list.NoMemory end = (end ≡ OutOfMemory) × (names ≡ [])

-- a session after a list: it is shut after an empty one
abbrev pub list_standing : ListReply → Standing
list_standing (list.Names n) = standing.Live
list_standing list.Empty = standing.Aborted
list_standing list.Abort = standing.Aborted
list_standing (list.Broken why) = standing.Over
list_standing list.NoMemory = standing.Over

pub record IsListed (paths : Paths) (delayed : List (List ℕ)) (old : LineView) (s : SessionSeen) (names : List ℕ)
    (r : ListReply) (new : LineView) : Type 0 where
  pub wire : Wire
  pub end : Ends GoodList
  pub live : s.standing ≡ standing.Live
  pub exchange : IsExchange (list_step delayed) list_start list_text s.wire wire end (λ _. Unit {0})
  pub is : ListIs paths names r end
  pub after : After old s wire (list_standing r) new

-- an opening
pub record IsOpenedLine (old : LineView) (end : Ends Caps) (start last : Wire) : Type 0 where
  pub closed : old.session ≡ None
  pub fresh : IsFresh start
  pub next : NextGives old.starter.ahead start.left
  pub opening : IsOpening start last end

-- a starter that has given a link
abbrev pub started : StarterSeen → StarterSeen
started old = record old { ahead = behind_next old.ahead; out = old.out + 1 }

-- what an exchange does to a line
abbrev pub Says : Paths → LineView → Exchange → LineView → Type 0
Says paths old (NoStart p) new = (old.session ≡ None) × (new.session ≡ None) × IsStartFailed old.starter new.starter
Says paths old (NoRoom p) new = (old.session ≡ None) × (new.session ≡ None)
    × (new.starter ≡ record old.starter { had = old.starter.had ++ StartOutOfMemory ∷ [] })
Says paths old (Opening p (Good caps)) new = (s : SessionSeen) × (start : Wire)
    × IsOpenedLine old (Good caps) start s.wire × (s.caps ≡ caps) × (s.standing ≡ standing.Live)
    × (new ≡ record { starter = started old.starter; session = Some s })
Says paths old (Opening p end) new = (start : Wire) × (last : Wire) × IsOpenedLine old end start last
    × IsEnded (started old.starter) last standing.Over new
Says paths old (First p r content) new = (s : SessionSeen) × (old.session ≡ Some s)
    × IsAsked s.caps.delay (first_text (paths.text p) (paths.name p) s.caps.delay (paths.content p)) old s r content new
Says paths old (Listing late names r) new = (s : SessionSeen) × (old.session ≡ Some s)
    × IsListed paths (map paths.text late) old s names r new
Says paths old (Second p r content) new = (s : SessionSeen) × (old.session ≡ Some s)
    × IsAsked false (second_text (paths.text p) (paths.name p)) old s r content new
Says paths old Shutting new = (s : SessionSeen) × (old.session ≡ Some s)
    × IsEnded old.starter s.wire standing.Live new

-- the exchanges, one after another
abbrev pub RunsTo : Paths → LineView → List Exchange → LineView → Type 0
RunsTo paths old [] new = old ≡ new
RunsTo paths old (e ∷ es) new = (mid : LineView) × Says paths old e mid × RunsTo paths mid es new

-- the exchange of an opening
abbrev pub OpenIs : ℕ → SessionStart → Exchange → Type 0
OpenIs p (starts.Live caps) e = e ≡ Opening p (Good caps)
OpenIs p (starts.Failed opening.NotStarted) e = e ≡ NoStart p
OpenIs p (starts.Failed (opening.Broken why)) e = (e ≡ Opening p (Broke why)) × (is_path_break why ≡ true)
OpenIs p (starts.Failed opening.NoMemory) e = (e ≡ NoRoom p) ⊎ (e ≡ Opening p OutOfMemory)

-- a session is open that can be asked to smudge
abbrev pub IsOpen : Option SessionSeen → Type 0
IsOpen None = ⊥
IsOpen (Some s) = (s.standing ≡ standing.Live) × (s.caps.smudge ≡ true)

-- what a reply made of the leaf
pub record IsLeafAfter (old new : LeafSeen) (put : Result ⊤ SendFault) (r : Reply) (content : List ℕ) : Type 0 where
  pub kept : IsKept old new put
  pub holds : r ≡ reply.Content → put ≡ Ok tt → new.content ≡ grown old.content content
  pub part : IsFrontPut old new content
  pub touches : TouchesNot r old new put

-- the replies that a request may have
abbrev pub MayReply : Bool → Reply → Type 0
MayReply d reply.Delayed = d ≡ true
MayReply d (reply.Broken why) = is_path_break why ≡ true
MayReply d r = Unit {0}

-- an exchange with its content named, and what the leaf has of it
pub record HasAnswered (d : Bool) (text : List ℕ) (s t : Wire) (old new : LeafSeen) (put : Result ⊤ SendFault)
    (r : Reply) : Type 0 where
  pub content : List ℕ
  pub exchange : IsExchange (reply_step d) reply_start text s t (reply_end r) (HasContent d content)
  pub leaf : IsLeafAfter old new put r content

-- the session after an opening
abbrev pub SessionAfter : SessionStart → Option SessionSeen → Type 0
SessionAfter (starts.Live caps) session = (s : SessionSeen) × (session ≡ Some s) × (s.standing ≡ standing.Live)
    × (s.caps ≡ caps)
SessionAfter (starts.Failed why) session = session ≡ None

-- a session after a reply: its capabilities are the same, and it stands as the reply leaves it
pub record StandsAfter (r : Reply) (old new : SessionSeen) : Type 0 where
  pub caps : new.caps ≡ old.caps
  pub standing : new.standing ≡ standing_after r

-- the session after a request
abbrev pub GoesOn : SessionSeen → Standing → Option SessionSeen → Type 0
GoesOn s standing.Live new = (wire : Wire)
    × (new ≡ Some (record { wire = wire; caps = s.caps; standing = standing.Live }))
GoesOn s standing.Aborted new = new ≡ None
GoesOn s standing.Over new = new ≡ None

-- names that are known and differ
abbrev pub AreKnown : List ℕ → List ℕ → Type 0
AreKnown known [] = Unit {0}
AreKnown known (n ∷ ns) = (contains n known ≡ true) × (contains n ns ≡ false) × AreKnown known ns

-- the paths that a list names
abbrev pub NamesAre : List ℕ → List ℕ → ListReply → Type 0
NamesAre known names (list.Names n) = (n ≡ length names) × (0 < n) × AreKnown known names
NamesAre known names list.Empty = Unit {0}
NamesAre known names list.Abort = Unit {0}
NamesAre known names (list.Broken why) = Unit {0}
NamesAre known names list.NoMemory = Unit {0}

-- a session is open and can be asked
abbrev pub IsLive : Option SessionSeen → Type 0
IsLive None = ⊥
IsLive (Some s) = s.standing ≡ standing.Live

-- the paths whose places are delayed
abbrev pub late_in : List ℕ → List Place → List ℕ
late_in [] places = []
late_in (n ∷ ns) [] = []
late_in (n ∷ ns) (place.Delayed ∷ ps) = n ∷ late_in ns ps
late_in (n ∷ ns) (place.Idle ∷ ps) = late_in ns ps
late_in (n ∷ ns) (place.Listed ∷ ps) = late_in ns ps
late_in (n ∷ ns) (place.Done ∷ ps) = late_in ns ps

-- the path of a place
abbrev pub number_at : List ℕ → ℕ → ℕ
number_at numbers p = slice_index_or numbers p 0

-- the paths that a list names, by their places
abbrev pub names_in : List ℕ → List ℕ → ListReply → List ℕ
names_in numbers turns (list.Names n) = map (number_at numbers) turns
names_in numbers turns list.Empty = []
names_in numbers turns list.Abort = []
names_in numbers turns (list.Broken why) = []
names_in numbers turns list.NoMemory = []

-- Each delayed place is of a known path, and no path has two places.
pub record AreDelayed (paths numbers : List ℕ) (t : Table) : Type 0 where
  pub known : (p : ℕ) → slice_get t.places p ≡ Some place.Delayed → contains (number_at numbers p) paths ≡ true
  pub apart : (p q : ℕ) → slice_get t.places p ≡ Some place.Delayed → slice_get t.places q ≡ Some place.Delayed
      → number_at numbers p ≡ number_at numbers q → p ≡ q

-- a list changes nothing but that places are listed which were delayed
pub record IsListedTable (old new : Table) : Type 0 where
  pub names : new.names ≡ old.names
  pub size : length new.places ≡ length old.places
  pub pending : (p : ℕ) → is_pending (slice_get new.places p) ≡ is_pending (slice_get old.places p)

-- whether a session is open, as a number
abbrev pub weight : Option SessionSeen → ℕ
weight None = 0
weight (Some s) = 1

-- the starts that were had, the one of the open session with them
abbrev pub starts_of : LineView → ℕ
starts_of v = length v.starter.had + weight v.session

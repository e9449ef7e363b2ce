-- The bytes of a driver's sessions, against the exchanges that they spell.
use Rattle.std.specs.Prelude.{◌≡◌, ◌⊎◌, ℕ, ◌<◌, Bool, true, false, not, ◌&&◌, Option, Some, None, List, [], ◌∷◌}
use Rattle.std.specs.Prelude.{◌++◌, length, map}
use Rattle.pkt_line.specs.Packets.{Packet, SpellAll, IsPartial, HasFault}
use Rattle.filter_words.specs.Outcomes.{outcome, limit}
use Rattle.filter_words.specs.SmudgeReply.{reply_step, reply_start}
use Rattle.filter_words.specs.Listing.{GoodList, list_step, list_start}
use Rattle.filter_words.specs.Handshake.{handshake_step, handshake_start}
use Rattle.filter_words.specs.Requests.{hello_text, caps_text, first_text, second_text, list_text}
use Rattle.filter_words.specs.declared.reply.Caps.{Caps}
use Rattle.filter_words.specs.declared.reply.BreakCause.{BreakCause}
use Rattle.filter_words.specs.declared.reply.BreakCause.TheVariants as cause
use Rattle.filter_words.specs.declared.reply.Reply.TheVariants as reply
use Rattle.filter_words.specs.declared.reply.ListReply.TheVariants as list
use Rattle.filter_words.specs.declared.answer_state.AnswerState.{AnswerState}
use Rattle.filter_words.specs.declared.answer_state.AnswerState.TheVariants.{On, Done, Broken, Late}
use Rattle.edge_kit.specs.Told.{Tells}
use Rattle.edge_kit.specs.Starters.{Had, Session, StartFailed, StartOutOfMemory, SessionHad}
use Rattle.filter_proto.specs.Exchanges.{Ends, Good, Broke, OutOfMemory}
use Rattle.filter_proto.specs.Replies.{reply_end}
use Rattle.filter_proto.specs.Openings.{BeginsHello}
use Rattle.checkout_core.specs.Talks.{Talk, Between}
use Rattle.checkout_core.specs.Talks.{IsOver}
use Rattle.driver_line.specs.Conversations.{Exchange, NoStart, NoRoom, Opening, First, Listing, Second}
use Rattle.driver_line.specs.Conversations.{Shutting, LeadsTo}
use Rattle.filter_proto.specs.Wires.{Wire}
use Rattle.filter_proto.specs.Openings.{IsOpening}
use Rattle.driver_line.specs.Lines.{LineView, Paths, HasContent, ListIs, IsFresh}
use Rattle.driver_line.specs.ToldStarts.{Fills, GoBy}

-- how the reading of an answer stops, where these taken bytes stand after its packets
abbrev pub StopsAt : {P G : Type 0} → AnswerState P G → List ℕ → Ends G → Type 0
StopsAt (On phase) rest (Good g) = ⊥
StopsAt (On phase) rest OutOfMemory = ⊥
StopsAt (On phase) rest (Broke cause.BadPacket) = HasFault rest
StopsAt (On phase) rest (Broke cause.Ended) = IsPartial rest
StopsAt (On phase) rest (Broke cause.LinkFault) = IsPartial rest
StopsAt (On phase) rest (Broke why) = ⊥
StopsAt (Done good) rest end = end ≡ Good good
StopsAt (Broken why) rest end = end ≡ Broke why
StopsAt Late rest end = ⊥

-- the bytes are an answer with this end
pub record IsPart {P G : Type 0} (step : P → Packet
    → AnswerState P G) (start : AnswerState P G) (used rest : List ℕ) (end : Ends G) (extra : List Packet
    → Type 0) : Type 0 where
  pub packets : List Packet
  pub spelled : SpellAll packets used
  pub stops : StopsAt (outcome step limit start packets) rest end
  pub done : extra packets

-- the request of an exchange, in a session with these capabilities
abbrev pub request_of : Paths → Caps → Exchange → List ℕ
request_of paths caps (First p r content) = first_text (paths.text p) (paths.name p) caps.delay (paths.content p)
request_of paths caps (Listing late names r) = list_text
request_of paths caps (Second p r content) = second_text (paths.text p) (paths.name p)
request_of paths caps e = []

-- the answer to it
abbrev pub AnswerIs : Paths → Caps → Exchange → List ℕ → List ℕ → Type 0
AnswerIs paths caps (First p r content) used rest = IsPart (reply_step caps.delay) reply_start used rest
    (reply_end r) (HasContent caps.delay content)
AnswerIs paths caps (Listing late names r) used rest = (end : Ends GoodList) × ListIs paths names r end
    × IsPart (list_step (map paths.text late)) list_start used rest end (λ _. Unit {0})
AnswerIs paths caps (Second p r content) used rest = IsPart (reply_step false) reply_start used rest (reply_end r)
    (HasContent false content)
AnswerIs paths caps Shutting used rest = used ≡ []
AnswerIs paths caps e used rest = ⊥

-- with what cause an exchange broke its session, if it did
abbrev pub break_of : Exchange → Option BreakCause
break_of (First p (reply.Broken why) content) = Some why
break_of (Second p (reply.Broken why) content) = Some why
break_of (Listing late names (list.Broken why)) = Some why
break_of e = None

abbrev pub wants : Exchange → Bool
wants (First p reply.NoMemory content) = true
wants (Second p reply.NoMemory content) = true
wants (Listing late names list.NoMemory) = true
wants e = false

-- the request was sent in part, or not at all: a fault of the link, or memory ran out
abbrev pub MayCut : Exchange → Type 0
MayCut e = (break_of e ≡ Some cause.LinkFault) ⊎ (wants e ≡ true)

-- no answer was looked at: no content came, and no name
abbrev pub HasNothing : Exchange → Type 0
HasNothing (First p r content) = content ≡ []
HasNothing (Second p r content) = content ≡ []
HasNothing (Listing late names r) = names ≡ []
HasNothing e = Unit {0}

pub record IsCut (paths : Paths) (caps : Caps) (e : Exchange) (sent : List ℕ) : Type 0 where
  pub after : List ℕ
  pub text : request_of paths caps e ≡ sent ++ after
  pub proper : 0 < length (request_of paths caps e) → 0 < length after
  pub may : MayCut e
  pub nothing : HasNothing e

-- The sent bytes are the requests' texts, and the answers are consecutive parts of the taken bytes; bytes may stand
-- unread
-- after the last. The last request may be cut.
abbrev pub Spoken : Paths → Caps → List Exchange → List ℕ → List ℕ → Type 0
Spoken paths caps [] sent taken = sent ≡ []
Spoken paths caps (e ∷ es) sent taken =
    ((es ≡ []) × IsCut paths caps e sent)
    ⊎ ((more used later : List ℕ) × (sent ≡ request_of paths caps e ++ more) × (taken ≡ used ++ later)
    × AnswerIs paths caps e used later × Spoken paths caps es more later)

-- a fault of the link stands only where the count of faults rose alone, and an end only where the count of ends did
abbrev pub FitsCounts : SessionHad → Option BreakCause → Type 0
FitsCounts seen (Some cause.LinkFault) = (0 < seen.faults) × (seen.ends ≡ 0)
FitsCounts seen (Some cause.Ended) = (0 < seen.ends) × (seen.faults ≡ 0)
FitsCounts seen why = Unit {0}

-- A session has at most one of its two counts above 0: it ended at the first end of input or fault that an exchange
-- met. A fault while it was shut counts too, and such a session met neither.
abbrev pub HasOneCount : SessionHad → Type 0
HasOneCount seen = (seen.ends ≡ 0) ⊎ (seen.faults ≡ 0)

-- one of the exchanges broke its session with this cause
abbrev pub HasBreak : BreakCause → List Exchange → Type 0
HasBreak why [] = ⊥
HasBreak why (e ∷ es) = (break_of e ≡ Some why) ⊎ HasBreak why es

-- A count above 0 has its cause among the exchanges: an end of input, and a fault of the link where the session wasn't
-- shut.
pub record HasCauses (seen : SessionHad) (es : List Exchange) : Type 0 where
  pub ended : 0 < seen.ends → HasBreak cause.Ended es
  pub failed : 0 < seen.faults → seen.shut ≡ false → HasBreak cause.LinkFault es

abbrev pub AllFit : SessionHad → List Exchange → Type 0
AllFit seen [] = Unit {0}
AllFit seen (e ∷ es) = FitsCounts seen (break_of e) × AllFit seen es

-- a session was shut exactly where no exchange broke it or was out of memory
abbrev pub fine_of : Option BreakCause → Bool → Bool
fine_of (Some why) w = false
fine_of None w = not w

abbrev pub is_fine : Exchange → Bool
is_fine e = fine_of (break_of e) (wants e)

abbrev pub all_fine : List Exchange → Bool
all_fine [] = true
all_fine (e ∷ es) = is_fine e && all_fine es

-- A session that was opened: the two texts and the requests', and the two answers and the others'.
pub record IsOpenedSession (paths : Paths) (caps : Caps) (es : List Exchange) (seen : SessionHad) : Type 0 where
  pub sent : List ℕ
  pub taken : List ℕ
  pub sent_is : Tells seen.sent sent
  pub taken_is : Tells seen.taken taken
  pub more : List ℕ
  pub used : List ℕ
  pub later : List ℕ
  pub texts : sent ≡ (hello_text ++ caps_text) ++ more
  pub parts : taken ≡ used ++ later
  pub opened : IsPart handshake_step handshake_start used later (Good caps) BeginsHello
  pub spoken : Spoken paths caps es more later
  pub counts : AllFit seen es
  pub one : HasOneCount seen
  pub causes : HasCauses seen es
  pub shut : seen.shut ≡ all_fine es

-- with what cause an opening failed, if it broke
abbrev pub break_in : Ends Caps → Option BreakCause
break_in (Good caps) = None
break_in (Broke why) = Some why
break_in OutOfMemory = None

-- one that was not: its link was given back at once, and never shut
pub record IsFailedSession (end : Ends Caps) (seen : SessionHad) : Type 0 where
  pub start : Wire
  pub last : Wire
  pub fresh : IsFresh start
  pub opening : IsOpening start last end
  pub sent : seen.sent ≡ last.sent
  pub taken : seen.taken ≡ last.taken
  pub counts : FitsCounts seen (break_in end)
  pub one : HasOneCount seen
  pub ended : 0 < seen.ends → end ≡ Broke cause.Ended
  pub failed : 0 < seen.faults → end ≡ Broke cause.LinkFault
  pub shut : seen.shut ≡ false

abbrev pub IsSession : Paths → Ends Caps → List Exchange → SessionHad → Type 0
IsSession paths (Good caps) es seen = IsOpenedSession paths caps es seen
IsSession paths (Broke why) es seen = (es ≡ []) × IsFailedSession (Broke why) seen
IsSession paths OutOfMemory es seen = (es ≡ []) × IsFailedSession OutOfMemory seen

-- the sessions and the starts that gave none are those of the exchanges, in order
abbrev pub Matches : Paths → List Exchange → List Had → Type 0
Matches paths es [] = es ≡ []
Matches paths es (StartFailed ∷ hs) = (p : ℕ) × (rest : List Exchange) × (es ≡ NoStart p ∷ rest)
    × Matches paths rest hs
Matches paths es (StartOutOfMemory ∷ hs) = (p : ℕ) × (rest : List Exchange) × (es ≡ NoRoom p ∷ rest)
    × Matches paths rest hs
Matches paths es (Session seen ∷ hs) = (p : ℕ) × (end : Ends Caps) × (own : List Exchange) × (rest : List Exchange)
    × (es ≡ Opening p end ∷ (own ++ rest)) × IsSession paths end own seen × Matches paths rest hs

-- A talk with the driver d over these paths: the sessions and the starts that gave none spell exchanges, which lead
-- a talk over the asked paths to its end.
pub record IsTalk (d : ℕ) (paths : Paths) (asked : List ℕ) (items : List Had)
    (exchanges : List Exchange) : Type 0 where
  pub spells : Matches paths exchanges items
  pub end : Talk
  pub goes : LeadsTo d (Between asked) exchanges end
  pub over : IsOver end

-- A run of a line that ends with no session open grows what its starter keeps. What its sessions sent and took, told or
-- not, is one list of items: these go by the told starts, and spell the exchanges.
pub record HasItems (paths : Paths) (v : LineView) (es : List Exchange) (w : LineView) : Type 0 where
  pub items : List Had
  pub full : List Had
  pub had : w.starter.had ≡ v.starter.had ++ items
  pub fills : Fills items full
  pub starts : GoBy v.starter.ahead full w.starter.ahead
  pub matches : Matches paths es full

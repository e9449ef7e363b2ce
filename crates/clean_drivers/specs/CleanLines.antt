-- A line to a driver that cleans contents, and what each path does to it.
use Rattle.std.specs.Prelude.{◌≡◌, ◌⊎◌, ℕ, ◌+◌, true, false, List, [], ◌∷◌, ◌++◌, length, Option, Some, None}
use Rattle.std.specs.Prelude.{Result, Ok, Err}
use Rattle.filter_words.specs.Requests.{clean_text}
use Rattle.filter_words.specs.declared.reply.Caps.{Caps}
use Rattle.edge_kit.specs.Links.{LinkSeen}
use Rattle.edge_kit.specs.Starters.{StarterSeen, StartOutOfMemory, IsStarted, IsStartFailed, session_had}
use Rattle.filter_proto.specs.Wires.{Wire, SessionSeen, wire_of, IsShutAfter}
use Rattle.filter_proto.specs.Exchanges.{Ends, Broke, OutOfMemory}
use Rattle.filter_proto.specs.Openings.{IsOpening, Announces}
use Rattle.filter_proto.specs.Cleans.{IsCleaning, standing_after_clean}
use Rattle.filter_proto.specs.declared.session.Standing.{Standing}
use Rattle.filter_proto.specs.declared.session.Standing.TheVariants as standing
use Rattle.filter_proto.specs.declared.clean_session.Cleaned.{Cleaned}
use Rattle.filter_proto.specs.declared.clean_session.Cleaned.TheVariants as cleaned
use Rattle.clean_drivers.specs.declared.cause.CleanCause.{CleanCause}
use Rattle.clean_drivers.specs.declared.cause.CleanCause.TheVariants as cause
use Rattle.clean_drivers.specs.declared.cause.CleanFault.{CleanFault}
use Rattle.clean_drivers.specs.declared.cause.CleanFault.TheVariants.{Refused, NoMemory}

-- what came of the starts, the session that is open, if one is, and why every later path is refused, if it is
pub record CleanLineView : Type 0 where
  pub starter : StarterSeen
  pub session : Option SessionSeen
  pub refusing : Option CleanCause

abbrev pub line_of : StarterSeen → Option SessionSeen → Option CleanCause → CleanLineView
line_of starter session refusing = record { starter = starter; session = session; refusing = refusing }

-- A session is over, and its starter keeps it. It was shut if it could be asked or was aborted.
pub record IsGivenBack (old : StarterSeen) (last : Wire) (how : Standing) (new : StarterSeen) : Type 0 where
  pub link : LinkSeen
  pub shut : IsShutAfter how last link
  pub kept : new ≡ record old { had = old.had ++ session_had link ∷ []; out = new.out }
  pub out : new.out + 1 ≡ old.out

-- the two causes for which every later path is refused
abbrev pub lasting : CleanFault → Option CleanCause
lasting (Refused cause.Abort) = Some cause.Abort
lasting (Refused cause.NoClean) = Some cause.NoClean
lasting fault = None

abbrev pub lasting_in : {A : Type 0} → Result A CleanFault → Option CleanCause
lasting_in (Ok x) = None
lasting_in (Err fault) = lasting fault

-- a handshake over a link gives no session
abbrev pub IsUnopened : LinkSeen → StarterSeen → Ends Caps → StarterSeen → Type 0
IsUnopened link old end new =
    (last : Wire) × IsOpening (wire_of [] link) last end × IsGivenBack old last standing.Over new

-- A session is opened over a link that was just given. One that doesn't announce `clean` is shut.
abbrev pub Opens : LinkSeen → StarterSeen → StarterSeen → Result SessionSeen CleanFault → Type 0
Opens link old new (Ok s) =
    (new ≡ old) × Announces true (wire_of [] link) s.wire s.caps × (s.standing ≡ standing.Live)
Opens link old new (Err (Refused cause.NoClean)) = (caps : Caps) × (last : Wire)
    × Announces false (wire_of [] link) last caps × IsGivenBack old last standing.Live new
Opens link old new (Err (Refused (cause.Broken why))) = IsUnopened link old (Broke why) new
Opens link old new (Err (Refused why)) = ⊥
Opens link old new (Err NoMemory) = IsUnopened link old OutOfMemory new

-- a start gives a link, and this comes of the opening over it
abbrev pub StartsAnd : StarterSeen → StarterSeen → Result SessionSeen CleanFault → Type 0
StartsAnd old new result = (link : LinkSeen) × (mid : StarterSeen) × IsStarted link old mid × Opens link mid new result

-- the driver is started, and a session opened
abbrev pub Begins : StarterSeen → StarterSeen → Result SessionSeen CleanFault → Type 0
Begins old new (Err (Refused cause.NotStarted)) = IsStartFailed old new
Begins old new (Err NoMemory) =
    (new ≡ record old { had = old.had ++ StartOutOfMemory ∷ [] }) ⊎ StartsAnd old new (Err NoMemory)
Begins old new result = StartsAnd old new result

-- what a reply comes to
abbrev pub answer_of : Cleaned → Result (List ℕ) CleanFault
answer_of (cleaned.Content content) = Ok content
answer_of cleaned.Error = Err (Refused cause.Error)
answer_of cleaned.ErrorAfter = Err (Refused cause.ErrorAfter)
answer_of cleaned.Abort = Err (Refused cause.Abort)
answer_of (cleaned.Broken why) = Err (Refused (cause.Broken why))
answer_of cleaned.NoMemory = Err NoMemory

-- the session goes on, or is over
abbrev pub GoesOn : StarterSeen → SessionSeen → Wire → Standing → CleanLineView → Type 0
GoesOn starter s last standing.Live new = (new.starter ≡ starter)
    × (new.session ≡ Some (record { wire = last; caps = s.caps; standing = standing.Live }))
GoesOn starter s last how new = IsGivenBack starter last how new.starter × (new.session ≡ None)

-- a path is asked for in the open session, and this is the reply
abbrev pub Replies : List ℕ → List ℕ → StarterSeen → SessionSeen → CleanLineView → Cleaned → Type 0
Replies path content starter s new reply = (last : Wire) × IsCleaning (clean_text path content) s.wire last reply
    × GoesOn starter s last (standing_after_clean reply) new

-- the same, and what comes of it
pub record IsAsked (path content : List ℕ) (starter : StarterSeen) (s : SessionSeen) (new : CleanLineView)
    (answer : Result (List ℕ) CleanFault) : Type 0 where
  pub reply : Cleaned
  pub replies : Replies path content starter s new reply
  pub answers : answer ≡ answer_of reply
  pub refuses : new.refusing ≡ lasting_in answer

-- a path for which no session is open: one is opened, and then it is asked for
abbrev pub StartsFor : List ℕ → List ℕ → StarterSeen → CleanLineView → Result (List ℕ) CleanFault → Type 0
StartsFor path content starter new answer =
    ((fault : CleanFault) × Begins starter new.starter (Err fault) × (answer ≡ Err fault)
    × (new ≡ line_of new.starter None (lasting fault)))
    ⊎ ((mid : StarterSeen) × (s : SessionSeen) × Begins starter mid (Ok s) × IsAsked path content mid s new answer)

-- what a path does to a line, by how that stands
abbrev pub CleansBy : List ℕ → List ℕ → Option CleanCause → Option SessionSeen → CleanLineView → CleanLineView
    → Result (List ℕ) CleanFault → Type 0
CleansBy path content (Some why) session old new answer = (answer ≡ Err (Refused why)) × (new ≡ old)
CleansBy path content None (Some s) old new answer = IsAsked path content old.starter s new answer
CleansBy path content None None old new answer = StartsFor path content old.starter new answer

-- what a path does to a line, and what comes of it
abbrev pub Cleans : List ℕ → List ℕ → CleanLineView → CleanLineView → Result (List ℕ) CleanFault → Type 0
Cleans path content old new answer = CleansBy path content old.refusing old.session old new answer

-- the starter of a line, once its session is shut, if one is open
abbrev pub ClosesBy : StarterSeen → Option SessionSeen → StarterSeen → Type 0
ClosesBy old None new = new ≡ old
ClosesBy old (Some s) new = IsGivenBack old s.wire standing.Live new

abbrev pub Closes : CleanLineView → StarterSeen → Type 0
Closes line new = ClosesBy line.starter line.session new

-- the starts that were had, that of the open session with them
abbrev pub weight : Option SessionSeen → ℕ
weight None = 0
weight (Some s) = 1

abbrev pub starts_of : CleanLineView → ℕ
starts_of line = length line.starter.had + weight line.session

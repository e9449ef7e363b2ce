-- A talk with a driver that cleans contents, as one relation: the paths that it was asked for, in order, what came of
-- each, and the sessions and the starts that gave none.
use Rattle.std.specs.Prelude.{◌≡◌, ◌⊎◌, ℕ, ◌<◌, true, false, List, [], ◌∷◌, ◌++◌, length, None, Result, Err}
use Rattle.filter_words.specs.Requests.{clean_text}
use Rattle.filter_words.specs.declared.reply.Caps.{Caps}
use Rattle.edge_kit.specs.Links.{LinkSeen, IsNewLink, is_shut, replies_in}
use Rattle.edge_kit.specs.Starters.{StarterSeen, SessionHad, Had, Session, StartFailed, StartOutOfMemory}
use Rattle.filter_proto.specs.Wires.{Wire, wire_of, IsShutAfter}
use Rattle.filter_proto.specs.Exchanges.{Ends, Broke, OutOfMemory}
use Rattle.filter_proto.specs.Openings.{IsOpening, Announces}
use Rattle.filter_proto.specs.Cleans.{IsCleaning, standing_after_clean}
use Rattle.filter_proto.specs.declared.session.Standing.{Standing}
use Rattle.filter_proto.specs.declared.session.Standing.TheVariants as standing
use Rattle.filter_proto.specs.declared.clean_session.Cleaned.{Cleaned}
use Rattle.clean_drivers.specs.declared.cause.CleanCause.{CleanCause}
use Rattle.clean_drivers.specs.declared.cause.CleanCause.TheVariants as cause
use Rattle.clean_drivers.specs.declared.cause.CleanFault.{CleanFault}
use Rattle.clean_drivers.specs.declared.cause.CleanFault.TheVariants.{Refused, NoMemory}
use Rattle.clean_drivers.specs.CleanLines.{CleanLineView, line_of, answer_of, Cleans, Closes}

-- a path that a driver was asked for, the bytes of its file, and what came of it
pub record Turn : Type 0 where
  pub path : List ℕ
  pub content : List ℕ
  pub answer : Result (List ℕ) CleanFault

-- by whether a session goes on
abbrev pub OnLive : Standing → Type 0 → Type 0 → Type 0
OnLive standing.Live on over = on
OnLive standing.Aborted on over = over
OnLive standing.Over on over = over

-- These turns are had in a session, in order: the request of each is sent, and its answer is taken from the front of
-- what is left. It stands so then. A session that is over has no further turn.
abbrev pub AreHad : List Turn → Wire → Wire → Standing → Type 0
AreHad [] old last how = (last ≡ old) × (how ≡ standing.Live)
AreHad (t ∷ ts) old last how = (mid : Wire) × (reply : Cleaned)
    × IsCleaning (clean_text t.path t.content) old mid reply × (t.answer ≡ answer_of reply)
    × OnLive (standing_after_clean reply) (AreHad ts mid last how)
    ((ts ≡ []) × (last ≡ mid) × (how ≡ standing_after_clean reply))

-- a session as its starter keeps it
abbrev pub had_of : LinkSeen → SessionHad
had_of link = record {
  sent = link.sent;
  taken = link.taken;
  replies = replies_in link.left;
  faults = link.faults;
  ends = link.ends;
  shut = is_shut link.stage;
}

-- the session that stood so at its end, shut if it could be asked or was aborted, is kept
pub record IsKeptAs (last : Wire) (how : Standing) (seen : SessionHad) : Type 0 where
  pub link : LinkSeen
  pub shut : IsShutAfter how last link
  pub is : seen ≡ had_of link

-- a handshake that gave no session
pub record IsUnopenedBy (end : Ends Caps) (seen : SessionHad) : Type 0 where
  pub link : LinkSeen
  pub fresh : IsNewLink link
  pub last : Wire
  pub opening : IsOpening (wire_of [] link) last end
  pub kept : IsKeptAs last standing.Over seen

-- the same, by the fault that it is for the path
abbrev pub IsUnopenedFor : CleanFault → SessionHad → Type 0
IsUnopenedFor (Refused (cause.Broken why)) seen = IsUnopenedBy (Broke why) seen
IsUnopenedFor (Refused why) seen = ⊥
IsUnopenedFor NoMemory seen = IsUnopenedBy OutOfMemory seen

-- a good handshake that doesn't announce `clean`
pub record IsUnclean (seen : SessionHad) : Type 0 where
  pub link : LinkSeen
  pub fresh : IsNewLink link
  pub caps : Caps
  pub last : Wire
  pub opened : Announces false (wire_of [] link) last caps
  pub kept : IsKeptAs last standing.Live seen

-- a good handshake that announces `clean`, and the turns that were had then
pub record IsCleanSession (turns : List Turn) (how : Standing) (seen : SessionHad) : Type 0 where
  pub link : LinkSeen
  pub fresh : IsNewLink link
  pub begun : Wire
  pub caps : Caps
  pub opened : Announces true (wire_of [] link) begun caps
  pub last : Wire
  pub had : AreHad turns begun last how
  pub kept : IsKeptAs last how seen

-- all these paths were refused with this cause
abbrev pub AreRefused : CleanCause → List Turn → Type 0
AreRefused why [] = Unit {0}
AreRefused why (t ∷ ts) = (t.answer ≡ Err (Refused why)) × AreRefused why ts

-- the first path ended with this fault, and so it went on
abbrev pub FirstEnds : CleanFault → List Turn → (List Turn → Type 0) → Type 0
FirstEnds fault [] talk = ⊥
FirstEnds fault (t ∷ ts) talk = (t.answer ≡ Err fault) × talk ts

-- What follows a session that stood so at its end: nothing where it could be asked; after an abort all later paths are
-- refused; and after a break, or where memory ran out, the talk goes on.
abbrev pub Follows : Standing → List Turn → List Had → Type 0 → Type 0
Follows standing.Live ts items talk = (ts ≡ []) × (items ≡ [])
Follows standing.Aborted ts items talk = AreRefused cause.Abort ts × (items ≡ [])
Follows standing.Over ts items talk = talk

-- the first of these paths and some after it had a session
pub record HaveSession (ts : List Turn) (seen : SessionHad) (items : List Had) (talk : List Turn → Type 0) : Type 0 where
  pub first : Turn
  pub more : List Turn
  pub rest : List Turn
  pub parts : ts ≡ first ∷ (more ++ rest)
  pub how : Standing
  pub session : IsCleanSession (first ∷ more) how seen
  pub follows : Follows how rest items (talk rest)

-- no driver's `clean` was announced: all these paths were refused
pub record HaveNoClean (ts : List Turn) (seen : SessionHad) (items : List Had) : Type 0 where
  pub some : 0 < length ts
  pub session : IsUnclean seen
  pub refused : AreRefused cause.NoClean ts
  pub none : items ≡ []

-- A talk with these turns has these items: sessions, and starts that gave none. Each is for the first path that isn't
-- closed yet.
abbrev pub IsCleanTalk : List Had → List Turn → Type 0
IsCleanTalk [] ts = ts ≡ []
IsCleanTalk (StartFailed ∷ items) ts = FirstEnds (Refused cause.NotStarted) ts (λ rest. IsCleanTalk items rest)
IsCleanTalk (StartOutOfMemory ∷ items) ts = FirstEnds NoMemory ts (λ rest. IsCleanTalk items rest)
IsCleanTalk (Session seen ∷ items) ts =
    ((fault : CleanFault) × IsUnopenedFor fault seen × FirstEnds fault ts (λ rest. IsCleanTalk items rest))
    ⊎ HaveNoClean ts seen items ⊎ HaveSession ts seen items (λ rest. IsCleanTalk items rest)

-- these turns were had over a line, one after another
abbrev pub CleansAll : List Turn → CleanLineView → CleanLineView → Type 0
CleansAll [] old new = new ≡ old
CleansAll (t ∷ ts) old new =
    (mid : CleanLineView) × Cleans t.path t.content old mid t.answer × CleansAll ts mid new

-- what came of the starts of a line, from where it had none to where it was closed, is a talk of its turns
pub record HasTalk (ts : List Turn) (old new : StarterSeen) : Type 0 where
  pub items : List Had
  pub had : new.had ≡ old.had ++ items
  pub talk : IsCleanTalk items ts

-- the same for all turns of a line, whose starter keeps its command
abbrev pub TurnsAreTalks : Type 0
TurnsAreTalks = (ts : List Turn) (starter end : StarterSeen) (last : CleanLineView)
    → CleansAll ts (line_of starter None None) last → Closes last end
    → HasTalk ts starter end × (end.command ≡ starter.command)

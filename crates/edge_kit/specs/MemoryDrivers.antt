-- What drivers in memory tell and keep, and which of their calls fail.
use Rattle.std.specs.Prelude.{◌≡◌, ◌+◌, ℕ, Bool, true, false, List, [], ◌∷◌, ◌++◌, drop, length}
use Rattle.std.specs.Prelude.{map, replicate, min, max, Option, Some, None, Result, Ok, Err, if◌then◌else◌}
use Rattle.std.specs.Option.{option_map}
use Rattle.std.specs.Str.{bytes_eq}
use Rattle.edge_kit.specs.Links.{LinkSeen, LeftBytes, Stage, Open, InputShut, Shut}
use Rattle.edge_kit.specs.Starters.{Had, Session, StartFailed, StartOutOfMemory, SessionHad}
use Rattle.edge_kit.specs.Starters.{StartTold, Fails, Gives, Starts, StartsListed, NextFails}
use Rattle.edge_kit.specs.declared.faults.Failed.{Failed}
use Rattle.edge_kit.specs.declared.faults.SendFault.{SendFault}
use Rattle.edge_kit.specs.declared.faults.SendFault.TheVariants as send
use Rattle.edge_kit.specs.declared.script.LinkScript.{LinkScript}
use Rattle.edge_kit.specs.declared.script.SessionScript.{SessionScript}
use Rattle.edge_kit.specs.declared.script.DriverScript.{DriverScript}
use Rattle.edge_kit.specs.declared.session_seen.SessionSeen.{SessionSeen}
use Rattle.edge_kit.specs.declared.session_seen.StartOutcome.{StartOutcome}
use Rattle.edge_kit.specs.declared.session_seen.StartOutcome.TheVariants as outcome
use Rattle.edge_kit.specs.declared.session_seen.StartSeen.{StartSeen}
use Rattle.edge_kit.specs.declared.session_seen.DriverSeen.{DriverSeen}

-- the stage of a link that keeps whether its input was shut, and whether it was then waited for
abbrev pub stage_of : Bool → Bool → Stage
stage_of false waited = Open
stage_of true false = InputShut
stage_of true true = Shut

-- a link on which nothing was called, with that output
abbrev pub new_link : List ℕ → LinkSeen
new_link output = record {
  sent = Some [];
  taken = Some [];
  left = LeftBytes output;
  faults = 0;
  ends = 0;
  stage = Open;
}

-- How many bytes a read gives: the least of what is left, what the buffer holds and the size of a
-- piece, which is at least one.
abbrev pub read_count : ℕ → ℕ → List ℕ → ℕ
read_count piece room left = min (max 1 piece) (min room (length left))

-- This many calls come before the one that fails, if one is to fail. That one fails and no other.
abbrev pub CountsCalls : {T : Type 0} → Option ℕ → Option ℕ → Result T Failed → Type 0
CountsCalls before after (Ok x) = before ≡ option_map (λ n. n + 1) after
CountsCalls before after (Err e) = (before ≡ Some 0) × (after ≡ None)

-- how the link of a session behaves
abbrev pub link_script : SessionScript → LinkScript
link_script s = record { piece = s.piece; fail_send = s.fail_send; fail_read = s.fail_read }

-- the next session is one whose link behaves like this
abbrev pub NextHas : List SessionScript → LinkScript → Type 0
NextHas [] script = ⊥
NextHas (s ∷ rest) script = script ≡ link_script s

-- a start uses up the next session, unless memory ran out
abbrev pub UsesUp : {L : Type 0} → List SessionScript → List SessionScript
    → Result L SendFault → Type 0
UsesUp old new (Ok link) = new ≡ drop 1 old
UsesUp old new (Err send.Failed) = new ≡ drop 1 old
UsesUp old new (Err send.NoMemory) = new ≡ old

-- what a session's start is told to be
abbrev pub start_told : SessionScript → StartTold
start_told s = if s.starts then Gives s.output else Fails

abbrev pub starts_told : List SessionScript → Starts
starts_told sessions = StartsListed (map start_told sessions)

-- what the next start gives unless memory runs out: a link for a session that starts, or a failure
abbrev pub Opens : {L : Type 0} → (L → LinkSeen) → (L → LinkScript) → List SessionScript
    → Result L SendFault → Type 0
Opens seen script [] (Ok link) = ⊥
Opens seen script (s ∷ rest) (Ok link) =
    (s.starts ≡ true) × (seen link ≡ new_link s.output) × (script link ≡ link_script s)
Opens seen script sessions (Err send.Failed) = NextFails (starts_told sessions)
Opens seen script sessions (Err send.NoMemory) = Unit {0}

-- the sessions of the first driver with this command, and none if there is no such driver
abbrev pub sessions_for : List DriverScript → List ℕ → List SessionScript
sessions_for [] command = []
sessions_for (d ∷ ds) command =
    if bytes_eq d.command command then d.sessions else sessions_for ds command

-- this many starts that ran out of memory
abbrev pub waits : ℕ → List Had
waits n = replicate n StartOutOfMemory

abbrev pub session_told : SessionSeen → SessionHad
session_told s = record {
  sent = Some s.sent;
  taken = Some s.taken;
  replies = None;
  faults = s.faults;
  ends = s.ends;
  shut = s.shut;
}

abbrev pub outcome_had : StartOutcome → Had
outcome_had (outcome.Session s) = Session (session_told s)
outcome_had outcome.Failed = StartFailed

-- each start, after the starts before it that ran out of memory
abbrev pub starts_had : List StartSeen → List Had
starts_had [] = []
starts_had (s ∷ ss) = (waits s.out_of_memory ++ outcome_had s.outcome ∷ []) ++ starts_had ss

-- a driver in the list of those that were given back
abbrev pub driver_back : DriverSeen → List ℕ × List Had
driver_back d = (d.command, starts_had d.starts ++ waits d.out_of_memory)

-- the starts that drivers in memory tell
abbrev pub starts_for : List DriverScript → List ℕ → Starts
starts_for scripts command = starts_told (sessions_for scripts command)

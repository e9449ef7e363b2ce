-- What is seen of the starters of drivers and of their makers, and how their calls change that.
use Rattle.std.specs.Prelude.{◌≡◌, ◌+◌, ℕ, Bool, List, [], ◌∷◌, ◌++◌, drop, Option, Result, Ok, Err}
use Rattle.edge_kit.specs.Faults.{Rose}
use Rattle.edge_kit.specs.Links.{LinkSeen, Left, LeftBytes, LeftAnswers, Replies, IsNewLink, is_shut, replies_in}
use Rattle.edge_kit.specs.declared.faults.SendFault.{SendFault}
use Rattle.edge_kit.specs.declared.faults.SendFault.TheVariants as send

-- A session that ended: the bytes sent and taken, if its link told them, how its driver answered, if
-- its link told that, how often its link had failed and how often it had met an end of input, and
-- whether it was shut.
pub record SessionHad : Type 0 where
  pub sent : Option (List ℕ)
  pub taken : Option (List ℕ)
  pub replies : Option Replies
  pub faults : ℕ
  pub ends : ℕ
  pub shut : Bool

-- what came of a start
pub data Had : Type 0 where
  Session : SessionHad → Had
  StartFailed : Had
  StartOutOfMemory : Had

-- a start that is told: it fails, or it gives a session with that output
pub data StartTold : Type 0 where
  Fails : StartTold
  Gives : List ℕ → StartTold

-- what is told of the starts that follow: nothing, each of them in order, or that each gives a session
-- whose driver answers so
pub data Starts : Type 0 where
  StartsUntold : Starts
  StartsListed : List StartTold → Starts
  StartsAnswer : Replies → Starts

-- The command that a starter starts, what came of its starts, in order, with each session when it
-- ended, the starts that follow, how often it has failed, and how many of its links are out.
pub record StarterSeen : Type 0 where
  pub command : List ℕ
  pub had : List Had
  pub ahead : Starts
  pub faults : ℕ
  pub out : ℕ

-- The starters that were given back, in order, each with its command and what came of its starts,
-- and how many are out.
pub record SpawnerSeen : Type 0 where
  pub returned : List (List ℕ × List Had)
  pub out : ℕ

-- a starter for that command and these starts, which has started nothing
abbrev pub new_starter : List ℕ → Starts → StarterSeen
new_starter command starts =
    record { command = command; had = []; ahead = starts; faults = 0; out = 0 }

-- a starter in the list of those that were given back
abbrev pub starter_back : StarterSeen → List ℕ × List Had
starter_back starter = (starter.command, starter.had)

-- a link as its starter keeps it
abbrev pub session_had : LinkSeen → Had
session_had link = Session (record {
  sent = link.sent;
  taken = link.taken;
  replies = replies_in link.left;
  faults = link.faults;
  ends = link.ends;
  shut = is_shut link.stage;
})

-- the starts after the next one
abbrev pub behind_next : Starts → Starts
behind_next StartsUntold = StartsUntold
behind_next (StartsListed starts) = StartsListed (drop 1 starts)
behind_next (StartsAnswer replies) = StartsAnswer replies

-- the next start is told to give this output or this driver, if anything is told
abbrev pub NextGives : Starts → Left → Type 0
NextGives StartsUntold left = Unit {0}
NextGives (StartsListed []) left = ⊥
NextGives (StartsListed (Fails ∷ rest)) left = ⊥
NextGives (StartsListed (Gives output ∷ rest)) left = left ≡ LeftBytes output
NextGives (StartsAnswer replies) left = left ≡ LeftAnswers replies

-- the next start is told to fail, or no more are told, if anything is told
abbrev pub NextFails : Starts → Type 0
NextFails StartsUntold = Unit {0}
NextFails (StartsListed []) = Unit {0}
NextFails (StartsListed (Fails ∷ rest)) = Unit {0}
NextFails (StartsListed (Gives output ∷ rest)) = ⊥
NextFails (StartsAnswer replies) = ⊥

-- a start gave a link
pub record IsStarted (link : LinkSeen) (old new : StarterSeen) : Type 0 where
  pub fresh : IsNewLink link
  pub next : NextGives old.ahead link.left
  pub kept : new ≡ record old { ahead = behind_next old.ahead; out = old.out + 1 }

-- a start failed
pub record IsStartFailed (old new : StarterSeen) : Type 0 where
  pub next : NextFails old.ahead
  pub kept : new ≡ record old {
    had = old.had ++ StartFailed ∷ [];
    ahead = behind_next old.ahead;
    faults = new.faults;
  }
  pub rose : Rose old.faults new.faults

-- A start gave a link, or it failed, or memory ran out. Out of memory uses up no told start.
abbrev pub StartsOne : {L : Type 0} → (L → LinkSeen) → StarterSeen → StarterSeen
    → Result L SendFault → Type 0
StartsOne seen old new (Ok link) = IsStarted (seen link) old new
StartsOne seen old new (Err send.Failed) = IsStartFailed old new
StartsOne seen old new (Err send.NoMemory) =
    new ≡ record old { had = old.had ++ StartOutOfMemory ∷ [] }

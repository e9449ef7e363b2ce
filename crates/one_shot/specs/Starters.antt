-- A starter of long-running drivers and of single runs, as it is seen.
use Rattle.std.specs.Prelude.{◌≡◌, ℕ, ◌==◌, Bool, true, false, List, [], ◌∷◌, ◌++◌, drop, Result, Ok, Err}
use Rattle.edge_kit.specs.Links.{LinkSeen}
use Rattle.edge_kit.specs.Starters.{Had, StarterSeen, Starts, StartsUntold, StartsAnswer, new_starter, session_had}
use Rattle.edge_kit.specs.MemoryDrivers.{waits}
use Rattle.edge_kit.specs.declared.faults.SendFault.{SendFault}
use Rattle.edge_kit.specs.declared.faults.SendFault.TheVariants as send
use Rattle.driver_host.specs.Works.{WorkTold}
use Rattle.byte_path.specs.Characters.{nul}
use Rattle.one_shot.specs.declared.link.OnceLink.{OnceLink}
use Rattle.one_shot.specs.declared.link.OnceLink.TheVariants as link
use Rattle.one_shot.specs.declared.kept.EndedLink.{EndedLink}
use Rattle.one_shot.specs.declared.kept.KeptLinks.{KeptLinks}
use Rattle.one_shot.specs.declared.starter.Source.{Source}
use Rattle.one_shot.specs.declared.starter.Source.TheVariants as source
use Rattle.one_shot.specs.Onces.{RunsTold, RunsUntold, RunsListed}
use Rattle.one_shot.specs.Works.{work_told}
use Rattle.one_shot.specs.Replies.{RunState, smudge_alone}

-- a command that runs once for each content begins with a NUL
abbrev pub is_single_run : List ℕ → Bool
is_single_run [] = false
is_single_run (b ∷ rest) = b == nul

-- sessions that are kept, each after the starts before it that ran out of memory
abbrev pub had_in : {K : Type 0} → (K → LinkSeen) → List (EndedLink K) → List Had
had_in seen [] = []
had_in seen (e ∷ es) = (waits e.out_of_memory ++ session_had (seen e.link) ∷ []) ++ had_in seen es

abbrev pub kept_had : {K : Type 0} → (K → LinkSeen) → KeptLinks K → List Had
kept_had seen k = had_in seen k.ended.items ++ waits k.out_of_memory

-- nothing is kept
abbrev pub IsEmpty : {K : Type 0} → KeptLinks K → Type 0
IsEmpty k = (k.ended.items ≡ []) × (k.out_of_memory ≡ 0)

-- each start of a single run gives a session with a driver that answers by its runs, which is told if links keep
abbrev pub single_starts : Bool → RunsTold → List ℕ → Starts
single_starts true RunsUntold command = StartsUntold
single_starts true (RunsListed runs) command = StartsAnswer (record { command = drop 1 command; runs = runs })
single_starts false tells command = StartsUntold

-- a single run has a command
abbrev pub source_seen : {S M : Type 0} → (S → StarterSeen) → (M → RunsTold) → Source S M → StarterSeen
source_seen seen tells (source.Inner s) = seen s
source_seen seen tells (source.Single run) =
    new_starter run.command (single_starts run.keeps (tells run.maker) run.command)

-- what came of the starts is what the source has of them, and then what is kept
abbrev pub starter_seen : {S M K : Type 0} → (S → StarterSeen) → (M → RunsTold) → (K → LinkSeen) → Source S M
    → KeptLinks K → ℕ → StarterSeen
starter_seen starter tells link source kept out = record (source_seen starter tells source) {
  had = (source_seen starter tells source).had ++ kept_had link kept;
  out = out;
}

-- how many links of a starter below are out; a single run has none below, so all of its links count
abbrev pub out_below : {S M : Type 0} → (S → StarterSeen) → Source S M → ℕ → ℕ
out_below seen (source.Inner s) out = (seen s).out
out_below seen (source.Single run) out = out

-- A host announces `smudge` alone and lists one path at most, and its work tells the run of this command for each
-- content. Its link keeps what is sent and taken if this is so, and then it tells that.
pub record IsRunOf {W : Type 0} (told : W → WorkTold) (tells : RunsTold) (keeps : Bool) (command : List ℕ)
    (l : RunState W) : Type 0 where
  pub caps : l.link.host.talk.own ≡ smudge_alone
  pub batch : l.link.host.talk.batch ≡ 1
  pub runs : told l.link.host.talk.work ≡ work_told tells command
  pub kept : l.link.keeps ≡ keeps
  pub telling : l.link.tells ≡ keeps

-- A single run is served by a host that runs its command without the NUL, by what its maker tells, and its start never
-- fails.
abbrev pub Serves : {S M L W : Type 0} → (M → RunsTold) → (W → WorkTold) → Source S M
    → Result (OnceLink L (RunState W)) SendFault → Type 0
Serves tells told (source.Inner s) result = Unit {0}
Serves tells told (source.Single run) (Ok (link.Inner l)) = ⊥
Serves tells told (source.Single run) (Ok (link.Hosted l)) =
    IsRunOf told (tells run.maker) run.keeps (drop 1 run.command) l
Serves tells told (source.Single run) (Err send.Failed) = ⊥
Serves tells told (source.Single run) (Err send.NoMemory) = Unit {0}

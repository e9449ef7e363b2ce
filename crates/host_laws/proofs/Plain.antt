-- What the spawners below keep of sessions says nothing of how a driver answers.
use Rattle.std.proofs.Common.{ℕ, zero, suc, List, [], ◌∷◌, ◌++◌, map}
use Rattle.edge_kit.specs.Starters.{Had, Session, StartFailed, StartOutOfMemory}
use Rattle.edge_kit.specs.MemoryDrivers.{waits, outcome_had, starts_had, driver_back}
use Rattle.edge_kit.specs.declared.session_seen.StartOutcome.{StartOutcome}
use Rattle.edge_kit.specs.declared.session_seen.StartOutcome.TheVariants as memory
use Rattle.edge_kit.specs.declared.session_seen.StartSeen.{StartSeen}
use Rattle.edge_kit.specs.declared.session_seen.DriverSeen.{DriverSeen}
use Rattle.edge_adapters.specs.Starts.{outcome_of, starts_of, driver_of}
use Rattle.edge_adapters.specs.declared.process_starter.PastOutcome.{PastOutcome}
use Rattle.edge_adapters.specs.declared.process_starter.PastOutcome.TheVariants as process
use Rattle.edge_adapters.specs.declared.process_starter.PastStart.{PastStart}
use Rattle.edge_adapters.specs.declared.process_starter.ReturnedDriver.{ReturnedDriver}
use Rattle.one_shot.specs.Replies.{AreServed}
use Rattle.one_shot.specs.Spawners.{AllServed}

both_served : (xs ys : List Had) → AreServed xs → AreServed ys → AreServed (xs ++ ys)
both_served [] ys a b = b
both_served (Session seen ∷ xs) ys a b = (a.0, both_served xs ys a.1 b)
both_served (StartFailed ∷ xs) ys a b = both_served xs ys a b
both_served (StartOutOfMemory ∷ xs) ys a b = both_served xs ys a b

pub waits_served : (n : ℕ) → AreServed (waits n)
waits_served zero = tt
waits_served (suc n) = waits_served n

-- in memory

outcome_served : (o : StartOutcome) → AreServed (outcome_had o ∷ [])
outcome_served (memory.Session s) = ((λ replies told. absurd (cc told)), tt)
outcome_served memory.Failed = tt

starts_served : (ss : List StartSeen) → AreServed (starts_had ss)
starts_served [] = tt
starts_served (s ∷ ss) =
    both_served (waits s.out_of_memory ++ outcome_had s.outcome ∷ []) (starts_had ss)
    (both_served (waits s.out_of_memory) (outcome_had s.outcome ∷ []) (waits_served s.out_of_memory) (outcome_served s.outcome))
    (starts_served ss)

pub memory_served : (ss : List StartSeen) (n : ℕ) → AreServed (starts_had ss ++ waits n)
memory_served ss n = both_served (starts_had ss) (waits n) (starts_served ss) (waits_served n)

pub drivers_served : (ds : List DriverSeen) → AllServed (map driver_back ds)
drivers_served [] = tt
drivers_served (d ∷ ds) = (memory_served d.starts d.out_of_memory, drivers_served ds)

-- as child processes

past_served : (o : PastOutcome) → AreServed (outcome_of o ∷ [])
past_served (process.Session s) = ((λ replies told. absurd (cc told)), tt)
past_served process.Failed = tt

pasts_served : (ss : List PastStart) → AreServed (starts_of ss)
pasts_served [] = tt
pasts_served (s ∷ ss) =
    both_served (waits s.out_of_memory ++ outcome_of s.outcome ∷ []) (starts_of ss)
    (both_served (waits s.out_of_memory) (outcome_of s.outcome ∷ []) (waits_served s.out_of_memory) (past_served s.outcome))
    (pasts_served ss)

pub process_served : (ss : List PastStart) (n : ℕ) → AreServed (starts_of ss ++ waits n)
process_served ss n = both_served (starts_of ss) (waits n) (pasts_served ss) (waits_served n)

pub processes_served : (ds : List ReturnedDriver) → AllServed (map driver_of ds)
processes_served [] = tt
processes_served (d ∷ ds) = (process_served d.starts.items d.out_of_memory, processes_served ds)

-- What is kept of the starts of drivers as child processes.
use Rattle.std.specs.Prelude.{ℕ, List, [], ◌∷◌, ◌++◌, None}
use Rattle.edge_kit.specs.Starters.{Had, Session, StartFailed}
use Rattle.edge_kit.specs.MemoryDrivers.{waits}
use Rattle.edge_adapters.specs.declared.process_starter.PastSession.{PastSession}
use Rattle.edge_adapters.specs.declared.process_starter.PastOutcome.{PastOutcome}
use Rattle.edge_adapters.specs.declared.process_starter.PastOutcome.TheVariants as outcome
use Rattle.edge_adapters.specs.declared.process_starter.PastStart.{PastStart}
use Rattle.edge_adapters.specs.declared.process_starter.ReturnedDriver.{ReturnedDriver}

-- a session, whose bytes aren't told
abbrev pub session_of : PastSession → Had
session_of s =
    Session (record { sent = None; taken = None; replies = None; faults = s.faults; ends = s.ends; shut = s.shut })

abbrev pub outcome_of : PastOutcome → Had
outcome_of (outcome.Session s) = session_of s
outcome_of outcome.Failed = StartFailed

-- each start, after the starts before it that ran out of memory
abbrev pub starts_of : List PastStart → List Had
starts_of [] = []
starts_of (s ∷ ss) = (waits s.out_of_memory ++ outcome_of s.outcome ∷ []) ++ starts_of ss

-- a driver in the list of those that were given back
abbrev pub driver_of : ReturnedDriver → List ℕ × List Had
driver_of d = (d.command, starts_of d.starts.items ++ waits d.out_of_memory)

-- The journal of a run.
use Rattle.std.specs.Prelude.{ℕ, List, length}
use Rattle.checkout_engine.specs.declared.end.CheckoutRun.{CheckoutRun}
use Rattle.checkout_paths.specs.Workers.{starts_of}
use Rattle.journal_audit.specs.Audits.{Spells, journal_of}

-- The text spells the run: how the paths of its plan begin, its workers, the drivers in use, and its events.
abbrev pub IsRunJournal : CheckoutRun → List ℕ → Type 0
IsRunJournal run text =
    Spells text (journal_of (starts_of run.plan.paths) run.workers (length run.plan.drivers) run.history.items)

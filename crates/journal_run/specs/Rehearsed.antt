-- The journal of a rehearsal.
use Rattle.std.specs.Prelude.{ℕ, List}
use Rattle.journal_audit.specs.Audits.{Spells}
use Rattle.journal_audit.specs.Journal.{Journal}
use Rattle.checkout_engine.specs.Rehearsed.{IsRehearsedRun}

-- The text spells the run of a rehearsal that nothing disturbed: how the paths of its plan begin, its workers, the
-- drivers in use, and a complete and legal history whose replay gives the verdicts of the paths.
pub record IsJournalOf (seed paths : ℕ) (text : List ℕ) : Type 0 where
  pub journal : Journal
  pub spelled : Spells text journal
  pub run : IsRehearsedRun seed paths journal.starts journal.workers journal.drivers journal.history

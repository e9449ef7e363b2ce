-- What follows of an answer.
use Rattle.std.specs.Prelude.{◌≡◌, ◌≤◌, ℕ, List, length, Option}
use Rattle.edge_kit.specs.Starters.{Starts}
use Rattle.edge_kit.specs.Told.{Told, RepoTold}
use Rattle.checkout_core.specs.declared.event.Event.{Event}
use Rattle.checkout_core.specs.declared.path.Start.{Start}
use Rattle.checkout_core.specs.declared.verdict.Verdict.{Verdict}
use Rattle.journal_audit.specs.Audits.{IsAudit, Spells, journal_of}
use Rattle.journal_audit.specs.declared.answer.Audit.TheVariants.{Legal}
use Rattle.checkout_engine.specs.declared.end.CheckoutRun.{CheckoutRun}
use Rattle.checkout_engine.specs.Alike.{IsTold}
use Rattle.checkout_engine.specs.Checkout.{IsRunOf}
use Rattle.checkout_engine.specs.Ends.{Seen, IsCheckedOut}
use Rattle.writer_pool.specs.Ends.{IsRun}
use Rattle.journal_run.specs.declared.finding.Finding.{Finding}
use Rattle.journal_run.specs.Findings.{IsFinding, text_limit}
use Rattle.journal_run.specs.Journals.{IsRunJournal}
use Rattle.journal_run.specs.Rehearsed.{IsJournalOf}

-- one thing is found of a file that is told
abbrev pub OneFinding : Type 0
OneFinding = (told : Told) → IsTold told → (f g : Finding) → IsFinding told f → IsFinding told g → f ≡ g

-- a text that can be judged: each of so many events is legal, and no path is open after them
pub record IsLegalText (text : List ℕ) (events : ℕ) : Type 0 where
  pub small : length text ≤ text_limit
  pub legal : IsAudit text (Legal events 0)

-- the journal of a complete run is such a text
abbrev pub RunsAreLegal : Type 0
RunsAreLegal = (starts : List Start) (workers drivers : ℕ) (history : List Event) (verdicts : List Verdict)
    (text : List ℕ) → IsRun starts workers drivers history verdicts
    → Spells text (journal_of starts workers drivers history) → IsLegalText text (length history)

-- and so is the journal of a rehearsal
abbrev pub RehearsalsAreLegal : Type 0
RehearsalsAreLegal = (seed paths : ℕ) (text : List ℕ) → IsJournalOf seed paths text
    → (events : ℕ) × IsLegalText text events

-- So is the journal of the run of a checkout.
abbrev pub CheckoutsAreLegal : Type 0
CheckoutsAreLegal = (told : RepoTold) (ahead : List ℕ → Starts) (asked : Option ℕ) (old new : Seen)
    (run : CheckoutRun) (text : List ℕ) → (c : IsCheckedOut told ahead asked old new) → IsRunOf c run
    → IsRunJournal run text → IsLegalText text (length run.history.items)

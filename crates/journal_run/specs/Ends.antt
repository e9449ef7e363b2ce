-- How a call ends, by its status, and what is written.
use Rattle.std.specs.Prelude.{◌≡◌, ℕ, List, Option, Some, None}
use Rattle.edge_kit.specs.Faults.{Rose}
use Rattle.edge_kit.specs.Seen.{BlobSeen, SinkSeen, IsWriteCut}
use Rattle.edge_kit.specs.Told.{Told, MayFail}
use Rattle.exit_status.specs.declared.status.ExitStatus.{ExitStatus}
use Rattle.exit_status.specs.declared.status.ExitStatus.TheVariants as status
use Rattle.exit_status.specs.Output.{with_text}
use Rattle.exit_status.specs.Status.{number_of}
use Rattle.journal_run.specs.declared.finding.Finding.{Finding}
use Rattle.journal_run.specs.declared.words.JournalTask.{JournalTask}
use Rattle.journal_run.specs.declared.words.JournalTask.TheVariants.{Rehearsal, Audit}
use Rattle.journal_run.specs.Findings.{IsFinding, finding_line, status_of}
use Rattle.journal_run.specs.Rehearsed.{IsJournalOf}

-- The right answer to a form, and its status: the line of what is found of the file, or the journal of the rehearsal.
abbrev pub IsAnswer : JournalTask → Told → ExitStatus → List ℕ → Type 0
IsAnswer Audit told s answer =
    (f : Finding) × IsFinding told f × (s ≡ status_of f) × (answer ≡ finding_line f)
IsAnswer (Rehearsal seed paths) told s answer = (s ≡ status.Done) × IsJournalOf seed paths answer

-- the right answer has this status, and was written whole
abbrev pub IsAnswered : JournalTask → Told → ExitStatus → SinkSeen → SinkSeen → Type 0
IsAnswered form told s old new = (answer : List ℕ) × IsAnswer form told s answer × (new ≡ with_text answer old)

-- the same for the number of a status
abbrev pub IsAnsweredBy : JournalTask → Told → ℕ → SinkSeen → SinkSeen → Type 0
IsAnsweredBy form told n old new = (s : ExitStatus) × (n ≡ number_of s) × IsAnswered form told s old new

-- the sink failed, and a first part of the right answer was written
pub record IsCutOff (form : JournalTask) (told : Told) (old new : SinkSeen) : Type 0 where
  pub status : ExitStatus
  pub answer : List ℕ
  pub is : IsAnswer form told status answer
  pub cut : IsWriteCut answer old new

-- the file couldn't be read: its count of faults rose
pub record IsUnread (told : Told) (old new : BlobSeen) : Type 0 where
  pub rose : Rose old.faults new.faults
  pub may : MayFail told

-- how a form ends
abbrev pub EndsForm : JournalTask → Told → BlobSeen → BlobSeen → SinkSeen → SinkSeen → ExitStatus → Type 0
EndsForm form told file file' sink sink' status.Done = IsAnswered form told status.Done sink sink'
EndsForm form told file file' sink sink' status.DoneWithFailures =
    (form ≡ Audit) × IsAnswered Audit told status.DoneWithFailures sink sink'
EndsForm form told file file' sink sink' status.Usage = ⊥
EndsForm form told file file' sink sink' status.Refused =
    (form ≡ Audit) × IsAnswered Audit told status.Refused sink sink'
EndsForm form told file file' sink sink' status.OutputNotWritten = IsCutOff form told sink sink'
EndsForm form told file file' sink sink' status.OutOfMemory = sink' ≡ sink
EndsForm form told file file' sink sink' status.ReadFault =
    (form ≡ Audit) × IsUnread told file file' × (sink' ≡ sink)
EndsForm form told file file' sink sink' status.NotEmpty = ⊥

-- how words end
abbrev pub Ends : Option JournalTask → Told → BlobSeen → BlobSeen → SinkSeen → SinkSeen → ExitStatus → Type 0
Ends None told file file' sink sink' s = (s ≡ status.Usage) × (file' ≡ file) × (sink' ≡ sink)
Ends (Some form) told file file' sink sink' s = EndsForm form told file file' sink sink' s

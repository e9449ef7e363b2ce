-- What is found of a file that is judged as a journal, and what is said of it.
use Rattle.std.specs.Prelude.{◌≡◌, ◌≤◌, ℕ, List, [], ◌∷◌, ◌++◌, length, codes, Result, Ok, Err}
use Rattle.std.specs.Fmt.{decimal}
use Rattle.byte_path.specs.Characters.{line_feed}
use Rattle.edge_kit.specs.Faults.{Rose}
use Rattle.edge_kit.specs.Told.{Told, TellsBytes, TellsNone, TellsLong, MayFail}
use Rattle.exit_status.specs.declared.status.ExitStatus.{ExitStatus}
use Rattle.exit_status.specs.declared.status.ExitStatus.TheVariants as status
use Rattle.journal_audit.specs.Audits.{IsAudit}
use Rattle.journal_audit.specs.declared.answer.Audit.TheVariants.{Legal, Illegal, Unreadable}
use Rattle.journal_run.specs.declared.finding.FindFault.{FindFault}
use Rattle.journal_run.specs.declared.finding.FindFault.TheVariants as fault
use Rattle.journal_run.specs.declared.finding.Finding.{Finding}
use Rattle.journal_run.specs.declared.finding.Finding.TheVariants.{Absent, TooLarge, Audited}

-- the most bytes of a journal that is judged
abbrev pub text_limit : ℕ
text_limit = 67108864

-- What is told of a file, if anything is: that it is absent, that it is too large, or a text with this audit.
abbrev pub IsFinding : Told → Finding → Type 0
IsFinding told Absent = TellsNone told
IsFinding told TooLarge = TellsLong told text_limit
IsFinding told (Audited a) =
    (text : List ℕ) × TellsBytes told text × (length text ≤ text_limit) × IsAudit text a

-- the status that goes with a finding
abbrev pub status_of : Finding → ExitStatus
status_of Absent = status.Refused
status_of TooLarge = status.Refused
status_of (Audited (Unreadable line)) = status.Refused
status_of (Audited (Illegal line)) = status.DoneWithFailures
status_of (Audited (Legal events unclosed)) = status.Done

-- the line that says it
abbrev pub finding_line : Finding → List ℕ
finding_line Absent = codes "unreadable absent" ++ line_feed ∷ []
finding_line TooLarge = codes "unreadable too-large" ++ line_feed ∷ []
finding_line (Audited (Unreadable line)) = codes "unreadable " ++ (decimal line ++ line_feed ∷ [])
finding_line (Audited (Illegal line)) = codes "illegal " ++ (decimal line ++ line_feed ∷ [])
finding_line (Audited (Legal events unclosed)) =
    codes "legal " ++ (decimal events ++ (codes " " ++ (decimal unclosed ++ line_feed ∷ [])))

-- What comes of reading a file and judging it. Its count of faults rises only if it can't be read.
abbrev pub Finds : Told → ℕ → ℕ → Result Finding FindFault → Type 0
Finds told before after (Ok f) = IsFinding told f × (after ≡ before)
Finds told before after (Err fault.ReadFault) = Rose before after × MayFail told
Finds told before after (Err fault.NoMemory) = after ≡ before

-- How a text is said, and the status that comes of it.
use Rattle.std.specs.Prelude.{◌≡◌, ◌⊎◌, ℕ, List, Result, Ok, Err}
use Rattle.edge_kit.specs.Seen.{SinkSeen, IsWriteCut}
use Rattle.edge_kit.specs.declared.faults.SendFault.{SendFault}
use Rattle.edge_kit.specs.declared.faults.SendFault.TheVariants as send
use Rattle.exit_status.specs.declared.status.ExitStatus.{ExitStatus}
use Rattle.exit_status.specs.declared.status.ExitStatus.TheVariants as status
use Rattle.exit_status.specs.Output.{with_text}
use Rattle.reports.specs.Written.{joined, IsRowCut}

-- the status of a text that the sink cut off, and that has this one if it is written whole
abbrev pub cut_off : ExitStatus → ExitStatus
cut_off status.OutOfMemory = status.OutOfMemory
cut_off s = status.OutputNotWritten

-- the status after a write, which is this one if the text is written whole
abbrev pub said : {T : Type 0} → Result T SendFault → ExitStatus → ExitStatus
said (Ok x) s = s
said (Err send.Failed) s = cut_off s
said (Err send.NoMemory) s = status.OutOfMemory

-- How a text is said that has this status. It is written whole. Or the sink failed, and a first part of it is written.
-- Or memory ran out, and so much of it is written as may be then.
abbrev pub Says : (List ℕ → SinkSeen → SinkSeen → Type 0) → List ℕ → ExitStatus → SinkSeen → SinkSeen → ExitStatus
    → Type 0
Says Part text s old new end =
    ((end ≡ s) × (new ≡ with_text text old))
    ⊎ (((end ≡ cut_off s) × IsWriteCut text old new)
    ⊎ ((end ≡ status.OutOfMemory) × Part text old new))

-- How rows are said that have this status: the first of them, or none, are written as memory runs out.
abbrev pub SaysRows : List (List ℕ) → ExitStatus → SinkSeen → SinkSeen → ExitStatus → Type 0
SaysRows rows s old new end = Says (λ text. IsRowCut rows) (joined rows) s old new end

-- as memory runs out, nothing is written of a text that goes out in one piece
abbrev pub Unsaid : List ℕ → SinkSeen → SinkSeen → Type 0
Unsaid text old new = new ≡ old

-- an end of which nothing is said
abbrev pub IsSilent : ExitStatus → SinkSeen → SinkSeen → ExitStatus → Type 0
IsSilent s old new end = (end ≡ s) × (new ≡ old)

-- How many rows of a report are written.
use Rattle.std.specs.Prelude.{◌≡◌, ℕ, ◌≤◌, List, length, take, Result, Ok, Err}
use Rattle.std.specs.List.{flat_map}
use Rattle.edge_kit.specs.Files.{grown}
use Rattle.edge_kit.specs.Seen.{SinkSeen, IsWriteCut}
use Rattle.edge_kit.specs.declared.faults.SendFault.{SendFault}
use Rattle.edge_kit.specs.declared.faults.SendFault.TheVariants as send

-- the rows, one behind the other
abbrev pub joined : List (List ℕ) → List ℕ
joined rows = flat_map (λ row. row) rows

-- the first rows were written, or none, and the sink didn't fail
pub record IsRowCut (rows : List (List ℕ)) (old new : SinkSeen) : Type 0 where
  pub taken : ℕ
  pub within : taken ≤ length rows
  pub part : new ≡ record old { written = grown old.written (joined (take taken rows)) }

-- All rows were written. Or the sink failed, and a first part of them was written. Or memory ran out after some rows.
abbrev pub WritesRows : {T : Type 0} → List (List ℕ) → SinkSeen → SinkSeen → Result T SendFault → Type 0
WritesRows rows old new (Ok x) = new ≡ record old { written = grown old.written (joined rows) }
WritesRows rows old new (Err send.Failed) = IsWriteCut (joined rows) old new
WritesRows rows old new (Err send.NoMemory) = IsRowCut rows old new

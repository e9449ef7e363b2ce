-- A text that is said in one piece.
use Rattle.std.proofs.Common.{◌≡◌, ℕ, List, Result, Ok, Err, refl, inl, inr}
use Rattle.edge_kit.specs.Seen.{SinkSeen, Writes}
use Rattle.edge_kit.specs.declared.faults.SendFault.{SendFault}
use Rattle.edge_kit.specs.declared.faults.SendFault.TheVariants as send
use Rattle.exit_status.specs.declared.status.ExitStatus.{ExitStatus}
use Rattle.exit_status.specs.Said.{Says, Unsaid, said}

pub says_piece : (T : Type 0) (text : List ℕ) (s : ExitStatus) (old new : SinkSeen) (written : Result T SendFault) → Writes text old new written → Says Unsaid text s old new (said written s)
says_piece T text s old new (Ok x) wrote = inl (refl, wrote)
says_piece T text s old new (Err send.Failed) cut = inr (inl (refl, cut))
says_piece T text s old new (Err send.NoMemory) same = inr (inr (refl, same))

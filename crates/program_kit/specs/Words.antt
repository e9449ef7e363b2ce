-- A program's words, and what it says of a status.
use Rattle.std.specs.Prelude.{ℕ, List, [], codes, drop, Option, Some, None, Result, Ok, Err, String}
use Rattle.std.specs.Vec.Iter.{into_iter_items}
use Rattle.std.specs.declared.vec.IntoIter.{IntoIter}
use Rattle.std.specs.declared.io.Error.{Error}
use Rattle.std.specs.declared.alloc.Global.{Global}
use Rattle.exit_status.specs.declared.status.ExitStatus.{ExitStatus}
use Rattle.exit_status.specs.declared.status.ExitStatus.TheVariants as status
use Rattle.exit_status.specs.Status.{status_with}

-- the words after the program's name, or none if they can't be given
abbrev pub words_of : Result (IntoIter (String Global) Global) Error → List (String Global)
words_of (Ok all) = drop 1 (into_iter_items all)
words_of (Err error) = []

abbrev pub message_in : Option ExitStatus → Option (List ℕ)
message_in (Some status.OutputNotWritten) = Some (codes "output not written")
message_in (Some status.OutOfMemory) = Some (codes "out of memory")
message_in (Some status.ReadFault) = Some (codes "read fault")
message_in (Some status.NotEmpty) = Some (codes "worktree not empty")
message_in status = None

-- what a status of the engine says on standard error
abbrev pub message_of : ℕ → Option (List ℕ)
message_of number = message_in (status_with number)

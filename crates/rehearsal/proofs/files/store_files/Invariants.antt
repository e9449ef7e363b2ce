use Rattle.std.proofs.Common.{take}
use Rattle.rehearsal.specs.Repository.{files}
use Rattle.rehearsal.specs.Stored.{IsStored}
use Rattle.rehearsal.proofs.files.store_files.Given as goal

abbrev pub invariant-loop-number : goal.invariant-loop-number
invariant-loop-number l = IsStored l.stored (files l.seed (take l.number-index l.numbers))

use Rattle.std.proofs.Common.{[], ◌≡◌, true}
use Rattle.git_index.specs.Reading.{entries_at}
use Rattle.git_index.specs.Folders.{paths, are_numbers}
use Rattle.git_index.proofs.Loop.{IsReading}
use Rattle.git_index.proofs.index_body.entries_of.Given as goal

abbrev pub invariant-loop-k : goal.invariant-loop-k
invariant-loop-k l = record {
  reading : IsReading l.version l.count l.k l.entries.items l.rest (paths l.entries.items l.stack.items) (entries_at l.version l.count [] [] l.bytes);
  numbers : are_numbers l.entries.items l.stack.items ≡ true;
}

use Rattle.std.proofs.Common.{◌≡◌, ◌≤◌, ◌*◌, ◌^◌, take}
use Rattle.checkout_engine.specs.Rehearsed.{bytes_of}
use Rattle.checkout_engine.proofs.rehearsed.bytes_of.Given as goal

abbrev pub invariant-loop-file : goal.invariant-loop-file
invariant-loop-file l = record {
  sum : l.sum ≡ bytes_of (take l.file-index l.files);
  small : l.sum ≤ l.file-index * 2 ^ 64;
}

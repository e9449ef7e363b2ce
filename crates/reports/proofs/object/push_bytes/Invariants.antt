use Rattle.std.proofs.Common.{map, take}
use Rattle.reports.specs.Objects.{Appends, byte_token}
use Rattle.reports.proofs.object.push_bytes.Given as goal

abbrev pub invariant-loop-byte : goal.invariant-loop-byte
invariant-loop-byte l = Appends (map byte_token (take l.byte-index l.name)) l.initial.writer l.writer

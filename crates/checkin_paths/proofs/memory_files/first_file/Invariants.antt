use Rattle.std.proofs.Common.{◌≡◌, length}
use Rattle.checkin_paths.specs.Memory.{first_file}
use Rattle.checkin_paths.proofs.memory_files.first_file.Given as goal

abbrev pub invariant-files : goal.invariant-files
invariant-files l = first_file l.rest l.path ≡ first_file l.files l.path

abbrev pub decreases-files : goal.decreases-files
decreases-files l = length l.rest

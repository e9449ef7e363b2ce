use Rattle.checkin_paths.proofs.Drivers.{memory_alone}
use Rattle.checkin_paths.proofs.paths_read.paths_of.Goals as goal

pub stop_of-requires : goal.stop_of-requires
stop_of-requires c = memory_alone c.args.planned.config c.requires.0 c.in-Err.fault c.requires.1 c.in-Err.ensures.said

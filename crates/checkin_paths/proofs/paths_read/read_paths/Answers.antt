use Rattle.checkin_paths.proofs.ReadPaths.{reads_paths}
use Rattle.checkin_paths.proofs.paths_read.read_paths.Goals as goal

pub returns-clause-reads : goal.returns-clause-reads
returns-clause-reads g c =
    reads_paths (g.R.Repo.told c.args.repo.now) c.in_ok-planned.planned (g.R.Repo.seen c.args.repo.now) (g.R.Repo.seen c.read_planned_index.new.repo) c.paths_of.result
    c.entries_can_stand.ensures c.paths_are_ordered.ensures c.places_start.ensures c.in_ok-planned.ensures.reads c.paths_of.ensures

pub paths_of-requires : goal.paths_of-requires
paths_of-requires g c = (c.in_ok-planned.ensures.reads.has.settings, c.in_ok-planned.ensures.reads.has.configured.says)

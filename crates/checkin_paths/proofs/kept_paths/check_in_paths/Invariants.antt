use Rattle.std.proofs.Common.{◌≡◌, ◌+◌, ◌≤◌, length, take}
use Rattle.clean_drivers.specs.Drivers.{drivers_seen, lines_out}
use Rattle.checkin_paths.specs.Outside.{work_seen}
use Rattle.checkin_paths.specs.CleanedFiles.{cleaning}
use Rattle.checkin_paths.specs.Outcomes.{ArePathsChecked}
use Rattle.checkin_paths.proofs.kept_paths.check_in_paths.Given as goal

abbrev pub invariant-loop-path : goal.invariant-loop-path
invariant-loop-path g l = record {
  told : g.R.Repo.told l.repo ≡ g.R.Repo.told l.initial.repo;
  files : g.F.Files.told l.files ≡ g.F.Files.told l.initial.files;
  starts : g.P.Spawner.told l.spawner ≡ g.P.Spawner.told l.initial.spawner;
  runs : g.O.Once.told l.once ≡ g.O.Once.told l.initial.once;
  asked : l.lines.asked ≤ l.path-index;
  places : length l.lines.lines ≡ length l.initial.lines.lines;
  out : (g.P.Spawner.seen l.spawner).out + lines_out l.initial.lines.lines ≡ (g.P.Spawner.seen l.initial.spawner).out + lines_out l.lines.lines;
  checked : ArePathsChecked (g.R.Repo.told l.initial.repo).object (g.F.Files.told l.initial.files)
      (cleaning l.drivers (g.P.Spawner.told l.initial.spawner) (g.O.Once.told l.initial.once)) (take l.path-index l.paths)
      (g.R.Repo.seen l.initial.repo) (g.R.Repo.seen l.repo)
      (work_seen (g.F.Files.seen l.initial.files) (drivers_seen l.initial.lines.lines (g.P.Spawner.seen l.initial.spawner) (g.O.Once.faults l.initial.once)))
      (work_seen (g.F.Files.seen l.files) (drivers_seen l.lines.lines (g.P.Spawner.seen l.spawner) (g.O.Once.faults l.once)))
      (g.K.Keep.seen l.initial.keep) (g.K.Keep.seen l.keep) l.fates.items;
}

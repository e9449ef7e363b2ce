use Rattle.std.proofs.Common.{sym, subst, ◌∙◌}
use Rattle.std.specs.Str.{IsUtf8}
use Rattle.checkin_paths.proofs.Found.{file_finds, files_stay}
use Rattle.checkin_paths.proofs.found_file.find_file.Goals as goal

pub unreachable-requires : goal.unreachable-requires
unreachable-requires g c = c.in_default.ensures.cases.0 (subst IsUtf8 (sym c.as_slice.ensures) c.requires)

pub returns-clause-finds : goal.returns-clause-finds
returns-clause-finds g c =
    file_finds (g.R.Repo.told c.args.repo.now).object (g.F.Files.told c.args.files.now) c.args.path.now c.args.action (g.R.Repo.seen c.args.repo.now) (g.R.Repo.seen c.find_taken.new.repo)
    (g.F.Files.seen c.args.files.now) (g.F.Files.seen c.take-taken.new.self) _ c.in-Ok.name.now c.failed_by_kind-by_kind.result c.take-taken.result c.find_taken.result (c.in-Ok.ensures.cases.0 ∙ c.as_slice.ensures) c.take-taken.ensures.bytes c.take-taken.ensures.faults c.failed_by_kind-by_kind.ensures c.find_taken.ensures.finds

pub returns-clause-unfailed : goal.returns-clause-unfailed
returns-clause-unfailed g c = files_stay _ c.in-Ok.name.now (g.F.Files.seen c.args.files.now) (g.F.Files.seen c.take-taken.new.self) c.take-taken.result c.find_taken.result c.take-taken.ensures.faults c.find_taken.ensures.unfailed

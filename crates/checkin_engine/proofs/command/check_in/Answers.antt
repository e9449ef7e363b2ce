use Rattle.std.proofs.Common.{refl}
use Rattle.checkin_engine.specs.Ends.{all_told}
use Rattle.checkin_engine.proofs.Finish.{stopped_ends, reported, keeper_failed, memory_ended}
use Rattle.checkin_engine.proofs.command.check_in.Goals as goal

pub returns-in-Err-clause-ends : goal.returns-in-Err-clause-ends
returns-in-Err-clause-ends g c =
    stopped_ends (all_told (g.R.Repo.told c.args.repo.now) (g.F.Files.told c.args.files.now) (g.P.Spawner.told c.args.spawner.now) (g.O.Once.told c.args.once.now)) (g.R.Repo.seen c.args.repo.now) (g.R.Repo.seen c.read_paths.new.repo) (g.F.Files.seen c.args.files.now)
    (g.P.Spawner.seen c.args.spawner.now) (g.O.Once.faults c.args.once.now) (g.K.Keep.seen c.args.keep.now)
    (g.S.Sink.seen c.args.out.now) (g.S.Sink.seen c.stopped.new.out) c.in-Err.stop c.stopped.result c.in-Err.ensures.reads c.stopped.ensures

pub returns-in-Ok-keep_all-clause-ends : goal.returns-in-Ok-keep_all-clause-ends
returns-in-Ok-keep_all-clause-ends g c =
    reported (all_told _ (g.F.Files.told c.args.files.now) (g.P.Spawner.told c.args.spawner.now) (g.O.Once.told c.args.once.now)) c.in-Ok.read _ _ _ _ _ _ _ _ _ _ _ _ _ c.in-Ok.ensures.reads c.turns_are_talks.ensures _ c.in-Ok.ensures.told c.deref.result.now c.deref-in-Ok-keep_all.result.now c.in-Ok-keep_all.fates c.write_report.result c.deref.ensures.value c.deref-in-Ok-keep_all.ensures.value c.in-Ok-keep_all.ensures.keeps
    c.write_report.ensures

pub returns-in-Err-Failed-clause-ends : goal.returns-in-Err-Failed-clause-ends
returns-in-Err-Failed-clause-ends g c =
    keeper_failed (all_told (g.R.Repo.told c.args.repo.now) (g.F.Files.told c.args.files.now) (g.P.Spawner.told c.args.spawner.now) (g.O.Once.told c.args.once.now)) c.in-Ok.read (g.R.Repo.seen c.args.repo.now) (g.R.Repo.seen c.read_paths.new.repo) (g.R.Repo.seen c.keep_all.new.repo) (g.F.Files.seen c.args.files.now) (g.F.Files.seen c.keep_all.new.files)
    (g.P.Spawner.seen c.args.spawner.now) (g.P.Spawner.seen c.keep_all.new.spawner) (g.O.Once.faults c.args.once.now) (g.O.Once.faults c.keep_all.new.once)
    (g.K.Keep.seen c.args.keep.now) (g.K.Keep.seen c.keep_all.new.keep) (g.S.Sink.seen c.args.out.now) (g.S.Sink.seen c.args.out.now) c.in-Ok.ensures.reads c.turns_are_talks.ensures (g.R.Repo.told c.read_paths.new.repo) c.in-Ok.ensures.told c.in-Err-Failed.field-0 c.in-Err-Failed.field-0-is c.in-Err-Failed.ensures.keeps refl

pub returns-clause-ends : goal.returns-clause-ends
returns-clause-ends g c =
    memory_ended (all_told (g.R.Repo.told c.args.repo.now) (g.F.Files.told c.args.files.now) (g.P.Spawner.told c.args.spawner.now) (g.O.Once.told c.args.once.now)) c.in-Ok.read (g.R.Repo.seen c.args.repo.now) (g.R.Repo.seen c.read_paths.new.repo) (g.R.Repo.seen c.keep_all.new.repo) (g.F.Files.seen c.args.files.now) (g.F.Files.seen c.keep_all.new.files)
    (g.P.Spawner.seen c.args.spawner.now) (g.P.Spawner.seen c.keep_all.new.spawner) (g.O.Once.faults c.args.once.now) (g.O.Once.faults c.keep_all.new.once)
    (g.K.Keep.seen c.args.keep.now) (g.K.Keep.seen c.keep_all.new.keep) (g.S.Sink.seen c.args.out.now) (g.S.Sink.seen c.args.out.now) c.in-Ok.ensures.reads c.turns_are_talks.ensures (g.R.Repo.told c.read_paths.new.repo) c.in-Ok.ensures.told c.in-Err-NoMemory.field-0 c.in-Err-NoMemory.field-0-is c.in-Err-NoMemory.ensures.keeps refl

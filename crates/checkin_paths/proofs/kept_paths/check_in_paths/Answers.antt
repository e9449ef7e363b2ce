use Rattle.std.proofs.Common.{◌≡◌, ℕ, List, take, refl, sym, subst, ◌∙◌, arith}
use Rattle.std.proofs.lemmas.List.{take_all}
use Rattle.clean_drivers.specs.Drivers.{drivers_seen}
use Rattle.checkin_paths.specs.declared.fate.Fate.{Fate}
use Rattle.checkin_paths.specs.declared.path.CheckinPath.{CheckinPath}
use Rattle.checkin_paths.specs.Outside.{work_seen}
use Rattle.checkin_paths.specs.CleanedFiles.{cleaning}
use Rattle.checkin_paths.specs.Outcomes.{ArePathsChecked}
use Rattle.checkin_paths.specs.Looks.{IsOpen}
use Rattle.checkin_paths.proofs.Checked.{none_checked, open_at, left_before}
use Rattle.checkin_paths.proofs.Kept.{told_cleaning, goes_on, paths_fail, breaks_behind}
use Rattle.checkin_paths.proofs.kept_paths.check_in_paths.Goals as goal

pub returns-in_default-clause-checks : goal.returns-in_default-clause-checks
returns-in_default-clause-checks g c = left_before _ _ _ _ _ _ _

pub loop-path-init : goal.loop-path-init
loop-path-init g c = record {
  told = refl;
  files = refl;
  starts = refl;
  runs = refl;
  asked = let none : c.args.lines.now.asked ≡ 0 = c.requires.fresh in omega (arith, none);
  places = refl;
  out = refl;
  checked = subst (λ (fates : List Fate). ArePathsChecked (g.R.Repo.told c.args.repo.now).object (g.F.Files.told c.args.files.now) (cleaning c.args.drivers.now (g.P.Spawner.told c.args.spawner.now) (g.O.Once.told c.args.once.now)) (take 0 c.args.paths.now)
      (g.R.Repo.seen c.args.repo.now) (g.R.Repo.seen c.args.repo.now)
      (work_seen (g.F.Files.seen c.args.files.now) (drivers_seen c.args.lines.now.lines (g.P.Spawner.seen c.args.spawner.now) (g.O.Once.faults c.args.once.now)))
      (work_seen (g.F.Files.seen c.args.files.now) (drivers_seen c.args.lines.now.lines (g.P.Spawner.seen c.args.spawner.now) (g.O.Once.faults c.args.once.now)))
      (g.K.Keep.seen c.args.keep.now) (g.K.Keep.seen c.args.keep.now) fates) (sym c.in-Ok.ensures.items) (none_checked _ _ _ _ _ _);
}

pub check_in_path-requires-clause-open : goal.check_in_path-requires-clause-open
check_in_path-requires-clause-open g c κs within =
    subst (λ (n : ℕ). IsOpen n c.path-item.result) (sym c.loop-path.invariant.places) (open_at _ c.args.paths.now c.loop-path.path-index c.path-item.result c.requires.are_open c.loop-path-test.true c.path-item.is)

pub returns-in-Err-clause-checks : goal.returns-in-Err-clause-checks
returns-in-Err-clause-checks g c =
    paths_fail _ _ _ _ c.loop-path.invariant.told c.loop-path.invariant.files _ _ (told_cleaning _ _ _ _ _ _ refl c.loop-path.invariant.starts c.loop-path.invariant.runs) c.args.paths.now c.loop-path.path-index c.path-item.result c.loop-path-test.true c.path-item.is
    _ _ _ _ _ _ _ _ _ _ c.loop-path.invariant.checked c.in-Err.fault c.in-Err.ensures.checks

pub returns-in_default-push-clause-checks : goal.returns-in_default-push-clause-checks
returns-in_default-push-clause-checks g c =
    breaks_behind _ _ _ _ c.loop-path.invariant.told c.loop-path.invariant.files _ _ (told_cleaning _ _ _ _ _ _ refl c.loop-path.invariant.starts c.loop-path.invariant.runs) c.args.paths.now c.loop-path.path-index c.path-item.result c.loop-path-test.true c.path-item.is
    _ _ _ _ _ _ _ _ _ _ c.loop-path.invariant.checked c.in-Ok-check_in_path.fate c.in-Ok-check_in_path.ensures.checks

pub loop-path-preserved : goal.loop-path-preserved
loop-path-preserved g c = record {
  told = c.check_in_path.ensures.told ∙ c.loop-path.invariant.told;
  files = c.check_in_path.ensures.files ∙ c.loop-path.invariant.files;
  starts = c.check_in_path.ensures.starts ∙ c.loop-path.invariant.starts;
  runs = c.check_in_path.ensures.runs ∙ c.loop-path.invariant.runs;
  asked = omega (arith, c.check_in_path.ensures.asked, c.loop-path.invariant.asked);
  places = c.check_in_path.ensures.places ∙ c.loop-path.invariant.places;
  out = omega (arith, c.check_in_path.ensures.out, c.loop-path.invariant.out);
  checked = goes_on _ _ _ _ c.loop-path.invariant.told c.loop-path.invariant.files _ _ (told_cleaning _ _ _ _ _ _ refl c.loop-path.invariant.starts c.loop-path.invariant.runs) c.args.paths.now c.loop-path.path-index c.path-item.result c.loop-path-test.true c.path-item.is
      _ _ _ _ _ _ _ _ _ _ c.loop-path.invariant.checked _ c.in-Ok-check_in_path.fate c.in-Ok-check_in_path.ensures.checks c.in-Ok-push.ensures.items;
}

pub returns-clause-checks : goal.returns-clause-checks
returns-clause-checks g c =
    subst (λ (l : List CheckinPath). ArePathsChecked (g.R.Repo.told c.args.repo.now).object (g.F.Files.told c.args.files.now) (cleaning c.args.drivers.now (g.P.Spawner.told c.args.spawner.now) (g.O.Once.told c.args.once.now)) l
    (g.R.Repo.seen c.args.repo.now) (g.R.Repo.seen c.loop-path.repo)
    (work_seen (g.F.Files.seen c.args.files.now) (drivers_seen c.args.lines.now.lines (g.P.Spawner.seen c.args.spawner.now) (g.O.Once.faults c.args.once.now)))
    (work_seen (g.F.Files.seen c.loop-path.files) (drivers_seen c.loop-path.lines.lines (g.P.Spawner.seen c.loop-path.spawner) (g.O.Once.faults c.loop-path.once)))
    (g.K.Keep.seen c.args.keep.now) (g.K.Keep.seen c.loop-path.keep) c.loop-path.fates.items)
    (take_all c.loop-path.path-index c.args.paths.now c.loop-path-test.false) c.loop-path.invariant.checked

-- The headline: what a checkout leaves that is done, path by path.
use Rattle.std.specs.Prelude.{◌≡◌, ◌+◌, ℕ, suc, Bool, true, false, List, [], ◌∷◌, map, length, slice_get, Option, Some}
use Rattle.std.specs.Prelude.{None, Ok, if◌then◌else◌}
use Rattle.std.specs.List.{filter_map, list_any}
use Rattle.edge_kit.specs.Starters.{Starts}
use Rattle.edge_kit.specs.Told.{Told, RepoTold, MayFail, Tells}
use Rattle.edge_kit.specs.declared.tree_file.TreeFile.{TreeFile}
use Rattle.object_dir.specs.Object.{Gives}
use Rattle.checkout_core.specs.declared.path.Heard.TheVariants as heard
use Rattle.checkout_core.specs.declared.path.Start.{Start}
use Rattle.checkout_core.specs.declared.path.Start.TheVariants as start
use Rattle.checkout_core.specs.declared.verdict.Verdict.{Verdict}
use Rattle.checkout_core.specs.declared.verdict.Verdict.TheVariants as verdict
use Rattle.checkout_core.specs.declared.verdict.FailCause.TheVariants as fail
use Rattle.checkout_report.specs.Report.{is_failed}
use Rattle.writer_pool.specs.Ends.{IsRun}
use Rattle.tree_encoding.specs.declared.prepared.Prepared.{Prepared}
use Rattle.convert_plan.specs.Prepared.{prepared}
use Rattle.checkout_plan.specs.declared.path_plan.PathPlan.{PathPlan}
use Rattle.checkout_plan.specs.Making.{FitsKind}
use Rattle.checkout_plan.specs.Paths.{HasCause}
use Rattle.checkout_engine.specs.declared.end.Checkout.{Checkout}
use Rattle.checkout_engine.specs.declared.end.Checkout.TheVariants as ends
use Rattle.checkout_engine.specs.declared.end.CheckoutRun.{CheckoutRun}
use Rattle.checkout_engine.specs.Ends.{Seen}
use Rattle.checkout_paths.specs.Outcome.{MayLeavePart, MayLeaveFile, MayBePut, file_with}
use Rattle.exit_status.specs.Output.{with_text}
use Rattle.checkout_paths.specs.Prepared.{IsPreparedTo}
use Rattle.run_report.specs.Rows.{report}
use Rattle.checkout_engine.specs.Report.{lacks_memory}
use Rattle.checkout_sources.specs.Sources.{IsPlanned}
use Rattle.checkout_paths.specs.Talks.{DriverTalk, heard_at, Gave, AreDriverTalks, with_talks}
use Rattle.checkout_paths.specs.Workers.{starts_of, worker_count, HaveActorsBelow}

-- The file of a written path: its object's content, converted, with its mark. `unencoded` says that
-- the content was left as it is because it isn't UTF-8.
pub record IsConverted (told : Told) (p : PathPlan) (unencoded : Bool) (f : TreeFile) : Type 0 where
  pub path : f.path ≡ p.path
  pub mark : f.mark ≡ p.mark
  pub content : List ℕ
  pub object : Gives told p.object (Ok content)
  pub bytes : f.bytes ≡ (prepared p.conversion p.object content).bytes
  pub flag : unencoded ≡ (prepared p.conversion p.object content).unencoded

-- A path of the pool, its verdict with its cause, and its file. If a file could neither be written nor removed, a first
-- part of it may remain: which of these a leaf was, its state tells, in the list of what was given back.
abbrev pub EndsInPool : Told → PathPlan → Verdict → Option TreeFile → Type 0
EndsInPool told p (verdict.Written unencoded) file =
    (f : TreeFile) × IsConverted told p unencoded f × (file ≡ Some f)
EndsInPool told p (verdict.Failed fail.ReadFailed) file = MayFail told × (file ≡ None)
EndsInPool told p (verdict.Failed (fail.Object kind)) file = FitsKind told p.object kind × (file ≡ None)
EndsInPool told p (verdict.Failed fail.WriteFailed) file = (content : List ℕ) × Gives told p.object (Ok content)
    × MayLeavePart p.path (prepared p.conversion p.object content).bytes file
EndsInPool told p v file = ⊥

-- The path n of the driver d, by what it heard in the talk with the driver. A refusal fails the path of a required
-- driver, and leaves that of another one as its object's content, converted.
module _ (required : Bool) (d : ℕ) (t : DriverTalk) (n : ℕ) where
  abbrev pub EndsAtDesk : Told → PathPlan → Verdict → Option TreeFile → Type 0
  EndsAtDesk told p (verdict.Written unencoded) file = (heard_at d t n ≡ Some heard.Got)
      × (ready : Prepared) × IsPreparedTo told p ready × (unencoded ≡ ready.unencoded)
      × (answer : List ℕ) × Gave t n answer × (file ≡ Some (file_with p answer))
  EndsAtDesk told p (verdict.Unfiltered why unencoded) file = (required ≡ false)
      × (heard_at d t n ≡ Some (heard.Refused why)) × (f : TreeFile) × IsConverted told p unencoded f × (file ≡ Some f)
  EndsAtDesk told p (verdict.Failed (fail.Filter why)) file =
      (required ≡ true) × (heard_at d t n ≡ Some (heard.Refused why)) × (file ≡ None)
  EndsAtDesk told p (verdict.Failed fail.Missing) file = (heard_at d t n ≡ Some heard.Lost) × (file ≡ None)
  EndsAtDesk told p (verdict.Failed fail.WriteFailed) file = MayLeaveFile (MayBePut required d t n told p) p.path file
  EndsAtDesk told p (verdict.Failed fail.ReadFailed) file = MayFail told × (file ≡ None)
  EndsAtDesk told p (verdict.Failed (fail.Object kind)) file = FitsKind told p.object kind × (file ≡ None)
  EndsAtDesk told p v file = ⊥

module _ (object : List ℕ → Told) (talks : List DriverTalk) where
  -- the path n, its verdict with its cause, and its file; a path that the plan closes keeps the plan's verdict
  abbrev pub EndsWith : Start → ℕ → PathPlan → Verdict → Option TreeFile → Type 0
  EndsWith (start.Done w) n p v file = (v ≡ w) × HasCause (start.Done w) × (file ≡ None)
  EndsWith start.Pool n p v file = EndsInPool (object p.object) p v file
  EndsWith (start.Desk d required) n p v file = (t : DriverTalk) × (slice_get talks d ≡ Some t)
      × EndsAtDesk required d t n (object p.object) p v file

  -- the paths from n on end so
  abbrev pub AllEnd : ℕ → List PathPlan → List (Verdict × Option TreeFile) → Type 0
  AllEnd n [] [] = Unit {0}
  AllEnd n (p ∷ ps) (e ∷ es) = EndsWith p.start n p e.0 e.1 × AllEnd (suc n) ps es
  AllEnd n [] (e ∷ es) = ⊥
  AllEnd n (p ∷ ps) [] = ⊥

abbrev pub verdicts_in : List (Verdict × Option TreeFile) → List Verdict
verdicts_in ends = map (λ end. end.0) ends

-- Each path of the plan of a run ended, and the worktree has the files of these ends, in their order, and no other. The
-- plan is the repository's. As many blobs, leaves and starters are out as before. There was a talk with each driver of
-- the plan and with no other, which goes by what the spawner told ahead of its command. The history is a complete run
-- over the starts of the plan, with these verdicts, by its drivers and as many workers as are asked for and the settings
-- give. Nobody else made an entry.
pub record IsRunHeadline (told : RepoTold) (ahead : List ℕ → Starts) (asked : Option ℕ) (old new : Seen)
    (run : CheckoutRun) : Type 0 where
  pub planned : IsPlanned told run.plan
  pub talks : List DriverTalk
  pub ends : List (Verdict × Option TreeFile)
  pub verdicts_are : run.verdicts.items ≡ verdicts_in ends
  pub history_is : run.history.items ≡ new.history
  pub verdicts : AllEnd told.object talks 0 run.plan.paths ends
  pub conversations : AreDriverTalks ahead told.object run.plan.paths run.verdicts.items run.history.items 0
      run.plan.drivers talks
  pub files : Tells new.tree.files (filter_map (λ end. end.1) ends)
  pub blobs : new.repo.out ≡ old.repo.out
  pub leaves : new.tree.out ≡ old.tree.out
  pub starters : new.spawner ≡ with_talks old.spawner talks
  pub workers_are : run.workers ≡ worker_count asked planned.settings run.plan.paths
  pub ran : IsRun (starts_of run.plan.paths) run.workers (length run.plan.drivers) run.history.items run.verdicts.items
  pub actors : HaveActorsBelow (run.workers + length run.plan.drivers) (starts_of run.plan.paths) run.workers
      run.history.items

-- The headline of a checkout that is done, if memory was left for each path.
abbrev pub LeavesHeadline : RepoTold → (List ℕ → Starts) → Option ℕ → Seen → Seen → Checkout → Type 0
LeavesHeadline told ahead asked old new (ends.Done run) =
    lacks_memory run.verdicts.items ≡ false → IsRunHeadline told ahead asked old new run
LeavesHeadline told ahead asked old new e = Unit {0}

-- The same of a command that ends with 0 or 1: the report has a line for each path, in order, with its verdict. The
-- number is 1 if some path failed.
pub record IsHeadline (told : RepoTold) (ahead : List ℕ → Starts) (asked : Option ℕ) (old new : Seen) (number : ℕ)
    : Type 0 where
  pub run : CheckoutRun
  pub left : IsRunHeadline told ahead asked old new run
  pub report : new.sink ≡ with_text (report run.plan.paths run.verdicts.items) old.sink
  pub status : number ≡ (if list_any is_failed run.verdicts.items then 1 else 0)

-- What a checkout that is done leaves, path by path.
use Rattle.std.proofs.Common.{◌≡◌, ◌+◌, inl, ℕ, suc, Bool, true, false, ◌||◌, List, [], ◌∷◌, length, map, Option, Some, None, refl, sym, ap, ◌∙◌, subst}
use Rattle.std.specs.List.{AllByRecursion, filter_map}
use Rattle.edge_kit.specs.Seen.{RepoSeen, TreeSeen}
use Rattle.edge_kit.specs.Starters.{Starts}
use Rattle.edge_kit.specs.Told.{Told, RepoTold, Tells}
use Rattle.edge_kit.specs.declared.leaf_state.LeafState.{LeafState}
use Rattle.edge_kit.specs.declared.leaf_state.LeafState.TheVariants.{Fresh, Partly, Sealed, Gone, Broken, Stuck}
use Rattle.edge_kit.specs.declared.tree_file.TreeFile.{TreeFile}
use Rattle.checkout_core.specs.declared.event.Event.{Event}
use Rattle.checkout_core.specs.declared.path.Start.{Start}
use Rattle.checkout_core.specs.declared.path.Start.TheVariants as start
use Rattle.checkout_core.specs.declared.verdict.Verdict.{Verdict}
use Rattle.checkout_core.specs.declared.verdict.Verdict.TheVariants as verdict
use Rattle.checkout_core.specs.declared.verdict.FailCause.TheVariants as fail
use Rattle.convert_plan.specs.Prepared.{prepared}
use Rattle.tree_encoding.specs.declared.prepared.Prepared.{Prepared}
use Rattle.checkout_plan.specs.declared.path_plan.PathPlan.{PathPlan}
use Rattle.checkout_plan.specs.declared.path_plan.Plan.{Plan}
use Rattle.checkout_plan.specs.Paths.{HasCause, ClosedPathsHaveCauses}
use Rattle.checkout_engine.specs.Alike.{ActorsAreNumbered}
use Rattle.checkout_engine.specs.declared.end.Checkout.{Checkout}
use Rattle.checkout_engine.specs.declared.end.Checkout.TheVariants as ends
use Rattle.checkout_engine.specs.declared.end.CheckoutRun.{CheckoutRun}
use Rattle.checkout_engine.specs.Checkout.{Leaves, IsRunOf}
use Rattle.checkout_engine.specs.Ends.{Seen, IsCheckedOut, verdicts_of, files_of}
use Rattle.checkout_engine.specs.Headline.{EndsInPool, EndsAtDesk, EndsWith, AllEnd, IsRunHeadline, LeavesHeadline}
use Rattle.checkout_paths.specs.Outcome.{Outcome, MayLeavePart, MayLeaveFile, LeavesPart, LeavesFile, HasVerdict, HasDeskVerdict, HasOutcome, AreOutcomes}
use Rattle.checkout_engine.specs.Report.{lacks_memory}
use Rattle.writer_pool.specs.Ends.{IsRun}
use Rattle.checkout_paths.specs.Workers.{starts_of, worker_count, HaveActorsBelow}
use Rattle.checkout_paths.specs.Cards.{DriversAreInUse}
use Rattle.checkout_engine.proofs.Actors.{KeepsSize, HandsAreTold, actors_below}
use Rattle.checkout_engine.proofs.Drivers.{planned_drivers}
use Rattle.checkout_paths.specs.Talks.{DriverTalk, AreDriverTalks, is_no_memory}

-- what may remain of a leaf that was given up
part_left : (path content : List ℕ) (state : LeafState) (file : Option TreeFile) → LeavesPart path content state file → MayLeavePart path content file
part_left path content Gone file part = subst (λ (x : Option TreeFile). MayLeavePart path content x) (sym part) tt
part_left path content Stuck file part = part
part_left path content Fresh file part = absurd part
part_left path content Partly file part = absurd part
part_left path content (Sealed mark) file part = absurd part
part_left path content Broken file part = absurd part

-- the same of a leaf that a desk gave up
file_left : (put : List ℕ → Type 0) (path : List ℕ) (state : LeafState) (file : Option TreeFile) → put [] → LeavesFile put path state file → MayLeaveFile put path file
file_left put path Fresh file none left = subst (λ (x : Option TreeFile). MayLeaveFile put path x) (sym left) ([], none, tt)
file_left put path Gone file none left = subst (λ (x : Option TreeFile). MayLeaveFile put path x) (sym left) ([], none, tt)
file_left put path Stuck file none left = left
file_left put path Partly file none left = absurd left
file_left put path (Sealed mark) file none left = absurd left
file_left put path Broken file none left = absurd left

-- a path of the pool, if memory was left
pool_ends : (told : Told) (p : PathPlan) (o : Outcome) (v : Verdict) → HasVerdict told p o v → is_no_memory v ≡ false → EndsInPool told p v o.file
pool_ends told p o (verdict.Written unencoded) (opened, counts, (content, gives, flag, file)) left =
    (_, record { path = refl; mark = refl; content = content; object = gives; bytes = refl; flag = flag }, file)
pool_ends told p o (verdict.Failed fail.ReadFailed) has left = (has.1, has.3)
pool_ends told p o (verdict.Failed (fail.Object kind)) has left = (has.1, has.3)
pool_ends told p o (verdict.Failed fail.WriteFailed) (opened, (content, gives, (state, count, failed, counts, part))) left =
    (content, gives, part_left p.path (prepared p.conversion p.object content).bytes state o.file part)
pool_ends told p o (verdict.Failed fail.NameNotText) has left = absurd has
pool_ends told p o verdict.NoMemory has left = absurd cc
pool_ends told p o (verdict.Skipped cause) has left = absurd has
pool_ends told p o (verdict.Unfiltered cause unencoded) has left = absurd has
pool_ends told p o (verdict.Failed (fail.Filter cause)) has left = absurd has
pool_ends told p o (verdict.Failed fail.Missing) has left = absurd has
pool_ends told p o (verdict.Failed fail.NoProcess) has left = absurd has
pool_ends told p o (verdict.Failed fail.UnknownEncoding) has left = absurd has

-- a path of a driver, if memory was left
desk_ends : (required : Bool) (d : ℕ) (t : DriverTalk) (n : ℕ) (told : Told) (p : PathPlan) (o : Outcome) (v : Verdict) → HasDeskVerdict required d t n told p o v → is_no_memory v ≡ false
    → EndsAtDesk required d t n told p v o.file
desk_ends required d t n told p o (verdict.Written unencoded) (heard, counts, ready, is, flag, answer, gave, file) left = (heard, ready, is, flag, answer, gave, file)
desk_ends required d t n told p o (verdict.Unfiltered why unencoded) (free, heard, counts, ready, is, flag, file) left = (
  free,
  heard,
  _,
  record {
    path = refl;
    mark = refl;
    content = is.content;
    object = is.object;
    bytes = ap (λ (r : Prepared). r.bytes) is.is;
    flag = flag ∙ ap (λ (r : Prepared). r.unencoded) is.is;
  },
  file,
)
desk_ends required d t n told p o (verdict.Failed (fail.Filter why)) has left = (has.0, has.1, has.3)
desk_ends required d t n told p o (verdict.Failed fail.Missing) has left = (has.0, has.2)
desk_ends required d t n told p o (verdict.Failed fail.WriteFailed) (heard, state, count, failed, begun, counts, part) left = file_left _ p.path state o.file (inl refl) part
desk_ends required d t n told p o (verdict.Failed fail.ReadFailed) has left = (has.0, has.2)
desk_ends required d t n told p o (verdict.Failed (fail.Object kind)) has left = (has.0, has.2)
desk_ends required d t n told p o verdict.NoMemory has left = absurd cc
desk_ends required d t n told p o (verdict.Skipped cause) has left = absurd has
desk_ends required d t n told p o (verdict.Failed fail.NameNotText) has left = absurd has
desk_ends required d t n told p o (verdict.Failed fail.NoProcess) has left = absurd has
desk_ends required d t n told p o (verdict.Failed fail.UnknownEncoding) has left = absurd has

path_ends : (object : List ℕ → Told) (talks : List DriverTalk) (n : ℕ) (p : PathPlan) (o : Outcome) (s : Start) → HasCause s → HasOutcome object talks s n p o → is_no_memory o.verdict ≡ false
    → EndsWith object talks s n p o.verdict o.file
path_ends object talks n p o (start.Done v) cause (same, unmade) left = (same, cause, unmade.file)
path_ends object talks n p o start.Pool cause has left = pool_ends (object p.object) p o o.verdict has left
path_ends object talks n p o (start.Desk d required) cause (text, t, there, has) left = (t, there, desk_ends required d t n (object p.object) p o o.verdict has left)

-- the verdict and the file of each outcome
abbrev ends_of : List Outcome → List (Verdict × Option TreeFile)
ends_of os = map (λ o. (o.verdict, o.file)) os

neither : (a b : Bool) → (a || b) ≡ false → (a ≡ false) × (b ≡ false)
neither false b none = (refl, none)
neither true b none = absurd cc

paths_end : (object : List ℕ → Told) (talks : List DriverTalk) (n : ℕ) (ps : List PathPlan) (os : List Outcome) → AllByRecursion (λ p. HasCause p.start) ps → AreOutcomes object talks n ps os
    → lacks_memory (verdicts_of os) ≡ false → AllEnd object talks n ps (ends_of os)
paths_end object talks n [] [] causes fit left = tt
paths_end object talks n [] (o ∷ os) causes fit left = absurd fit
paths_end object talks n (p ∷ ps) [] causes fit left = absurd fit
paths_end object talks n (p ∷ ps) (o ∷ os) causes fit left =
    let both = neither (is_no_memory o.verdict) (lacks_memory (verdicts_of os)) left in
    (path_ends object talks n p o p.start causes.0 fit.0 both.0, paths_end object talks (suc n) ps os causes.1 fit.1 both.1)

same_verdicts : (os : List Outcome) → map (λ (end : Verdict × Option TreeFile). end.0) (ends_of os) ≡ verdicts_of os
same_verdicts [] = refl
same_verdicts (o ∷ os) = ap (λ (vs : List Verdict). o.verdict ∷ vs) (same_verdicts os)

same_files : (os : List Outcome) → filter_map (λ (end : Verdict × Option TreeFile). end.1) (ends_of os) ≡ files_of os
same_files [] = refl
same_files (o ∷ os) = elim o.file as (λ file. o.file ≡ file → filter_map (λ (end : Verdict × Option TreeFile). end.1) (ends_of (o ∷ os)) ≡ files_of (o ∷ os)) [
  | None ↦ λ is. rw is (same_files os)
  | Some f ↦ λ is. rw is (ap (λ (fs : List TreeFile). f ∷ fs) (same_files os))
] refl

-- the actors of a run
pub actors_of : DriversAreInUse → KeepsSize → HandsAreTold → ActorsAreNumbered
actors_of in_use sizes hands told ahead asked old new c =
    let known = planned_drivers told c.plan c.planned in
    actors_below (starts_of c.plan.paths) (worker_count asked c.planned.settings c.plan.paths) (length c.plan.drivers) (in_use c.plan.drivers c.plan.paths known) sizes hands new.history c.run.core c.run.legal

-- what holds of equal verdicts and histories
moved : (P : List Verdict → List Event → Type 0) (vs ws : List Verdict) (h k : List Event) → vs ≡ ws → h ≡ k → P ws k → P vs h
moved P vs ws h k verdicts history p = subst (λ (x : List Verdict). P x h) (sym verdicts) (subst (λ (x : List Event). P ws x) (sym history) p)

run_headline : DriversAreInUse → KeepsSize → HandsAreTold → ClosedPathsHaveCauses → (told : RepoTold) (ahead : List ℕ → Starts) (asked : Option ℕ) (old new : Seen) (run : CheckoutRun) (c : IsCheckedOut told ahead asked old new) → IsRunOf c run
    → lacks_memory run.verdicts.items ≡ false → IsRunHeadline told ahead asked old new run
run_headline in_use sizes hands law told ahead asked old new run c own left =
    let plan = c.plan in
    let causes : AllByRecursion (λ p. HasCause p.start) plan.paths = subst (λ (plan : Plan). AllByRecursion (λ p. HasCause p.start) plan.paths) (sym c.planned.made.is)
    (law c.planned.entries c.planned.settings c.planned.outer c.planned.made.contents) in
    let memory : lacks_memory (verdicts_of c.outcomes) ≡ false = ap lacks_memory (sym own.verdicts_are) ∙ left in
    let over : IsRunHeadline told ahead asked old new (record run { plan = plan }) = record {
      planned = c.planned;
      talks = c.talks;
      ends = ends_of c.outcomes;
      verdicts_are = own.verdicts_are ∙ sym (same_verdicts c.outcomes);
      history_is = own.history_is;
      verdicts = paths_end told.object c.talks 0 plan.paths c.outcomes causes c.verdicts memory;
      conversations = moved (λ vs h. AreDriverTalks ahead told.object plan.paths vs h 0 plan.drivers c.talks) run.verdicts.items (verdicts_of c.outcomes) run.history.items new.history own.verdicts_are own.history_is c.conversations;
      files = subst (λ (fs : List TreeFile). Tells new.tree.files fs) (sym (same_files c.outcomes)) c.files;
      blobs = ap (λ (r : RepoSeen). r.out) c.blobs;
      leaves = ap (λ (t : TreeSeen). t.out) c.leaves;
      starters = c.starters;
      workers_are = own.workers_are;
      ran = subst (λ (n : ℕ). IsRun (starts_of plan.paths) n (length plan.drivers) run.history.items run.verdicts.items) (sym own.workers_are)
          (moved (λ vs h. IsRun (starts_of plan.paths) (worker_count asked c.planned.settings plan.paths) (length plan.drivers) h vs) run.verdicts.items (verdicts_of c.outcomes) run.history.items new.history own.verdicts_are own.history_is c.run);
      actors = subst (λ (n : ℕ). HaveActorsBelow (n + length plan.drivers) (starts_of plan.paths) n run.history.items) (sym own.workers_are)
          (subst (λ (h : List Event). let workers = worker_count asked c.planned.settings plan.paths in HaveActorsBelow (workers + length plan.drivers) (starts_of plan.paths) workers h) (sym own.history_is)
          (actors_of in_use sizes hands told ahead asked old new c));
    } in
    subst (λ (p : Plan). IsRunHeadline told ahead asked old new (record run { plan = p })) (sym own.plan_is) over

-- the headline of a checkout, by what it leaves
pub leaves_headline : DriversAreInUse → KeepsSize → HandsAreTold → ClosedPathsHaveCauses → (told : RepoTold) (ahead : List ℕ → Starts) (asked : Option ℕ) (old new : Seen) (e : Checkout) → Leaves told ahead asked old new e → LeavesHeadline told ahead asked old new e
leaves_headline in_use sizes hands law told ahead asked old new (ends.Done run) (c, own) = run_headline in_use sizes hands law told ahead asked old new run c own
leaves_headline in_use sizes hands law told ahead asked old new ends.NotEmpty left = tt
leaves_headline in_use sizes hands law told ahead asked old new (ends.Refused r) left = tt
leaves_headline in_use sizes hands law told ahead asked old new ends.ReadFault left = tt
leaves_headline in_use sizes hands law told ahead asked old new ends.NoMemory left = tt

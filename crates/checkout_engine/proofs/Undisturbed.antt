-- A checkout in memory that left no count of faults was not disturbed.
use Rattle.std.proofs.Common.{◌≡◌, ◌==◌, ◌||◌, ◌+◌, ℕ, zero, suc, Bool, true, false, not, List, [], ◌∷◌, ◌++◌, map, Option, None, refl, sym, ap, ◌∙◌, subst, arith}
use Rattle.std.specs.List.{list_any, AllByRecursion}
use Rattle.std.proofs.lemmas.Bool.{eqb-true}
use Rattle.std.proofs.lemmas.List.Sums.{sum_by-append}
use Rattle.edge_kit.specs.MemoryDrivers.{waits, outcome_had, starts_had, driver_back}
use Rattle.edge_kit.specs.Seen.{TreeSeen}
use Rattle.edge_kit.specs.Starters.{Had, Session, StartFailed, StartOutOfMemory, Starts, SpawnerSeen}
use Rattle.edge_kit.specs.Told.{Told, RepoTold}
use Rattle.edge_kit.specs.declared.leaf_state.LeafState.{LeafState}
use Rattle.edge_kit.specs.declared.leaf_state.LeafState.TheVariants.{Fresh, Sealed, Gone}
use Rattle.edge_kit.specs.declared.session_seen.DriverSeen.{DriverSeen}
use Rattle.edge_kit.specs.declared.session_seen.StartOutcome.{StartOutcome}
use Rattle.edge_kit.specs.declared.session_seen.StartOutcome.TheVariants as outcome
use Rattle.edge_kit.specs.declared.session_seen.StartSeen.{StartSeen}
use Rattle.driver_line.specs.SameHeard.{NoneFailed}
use Rattle.checkout_core.specs.declared.path.Start.{Start}
use Rattle.checkout_core.specs.declared.path.Start.TheVariants as start
use Rattle.checkout_core.specs.declared.verdict.Verdict.{Verdict}
use Rattle.checkout_core.specs.declared.verdict.Verdict.TheVariants as verdict
use Rattle.checkout_core.specs.declared.verdict.FailCause.TheVariants as fail
use Rattle.checkout_plan.specs.declared.path_plan.PathPlan.{PathPlan}
use Rattle.checkout_engine.specs.declared.end.CheckoutRun.{CheckoutRun}
use Rattle.checkout_engine.specs.Complete.{failed_leaves}
use Rattle.checkout_engine.specs.Ends.{verdicts_of}
use Rattle.checkout_paths.specs.Outcome.{Outcome, HasCounts, HasVerdict, HasDeskVerdict, HasOutcome, AreOutcomes, leaf_back}
use Rattle.checkout_paths.specs.Paths.{leaves_back}
use Rattle.checkout_engine.specs.Rehearsed.{IsTried, IsTriedWell, new_memory, is_write_failed, is_link_failed, is_driver_failed, is_disturbed}
use Rattle.checkout_engine.specs.Report.{lacks_memory}
use Rattle.checkout_paths.specs.Talks.{DriverTalk, is_no_memory}
use Rattle.checkout_engine.proofs.Completeness.{no_link_failed}

neither : (a b : Bool) → (a || b) ≡ false → (a ≡ false) × (b ≡ false)
neither false b none = (refl, none)
neither true b none = absurd cc

-- ---- leaves

unmade : (p : PathPlan) (o : Outcome) → o.leaf ≡ None → failed_leaves (leaf_back p o.leaf) ≡ 0
unmade p o none = ap (λ (l : Option (LeafState × ℕ)). failed_leaves (leaf_back p l)) none

counted : (p : PathPlan) (o : Outcome) (blob : ℕ) (state : LeafState) → HasCounts o blob state 0 → failed_leaves (leaf_back p o.leaf) ≡ 0
counted p o blob state counts = ap (λ (l : Option (LeafState × ℕ)). failed_leaves (leaf_back p l)) counts.1

pool_fine : (told : Told) (p : PathPlan) (o : Outcome) (v : Verdict) → HasVerdict told p o v → is_no_memory v ≡ false → is_write_failed v ≡ false → failed_leaves (leaf_back p o.leaf) ≡ 0
pool_fine told p o (verdict.Written unencoded) has memory written = counted p o 0 (Sealed p.mark) has.1
pool_fine told p o (verdict.Failed fail.ReadFailed) has memory written = counted p o has.2.0 Fresh has.2.2
pool_fine told p o (verdict.Failed (fail.Object kind)) has memory written = counted p o 0 Fresh has.2
pool_fine told p o (verdict.Failed fail.WriteFailed) has memory written = absurd cc
pool_fine told p o (verdict.Failed fail.NameNotText) has memory written = absurd has
pool_fine told p o verdict.NoMemory has memory written = absurd cc
pool_fine told p o (verdict.Skipped cause) has memory written = absurd has
pool_fine told p o (verdict.Unfiltered cause unencoded) has memory written = absurd has
pool_fine told p o (verdict.Failed (fail.Filter cause)) has memory written = absurd has
pool_fine told p o (verdict.Failed fail.Missing) has memory written = absurd has
pool_fine told p o (verdict.Failed fail.NoProcess) has memory written = absurd has
pool_fine told p o (verdict.Failed fail.UnknownEncoding) has memory written = absurd has

module _ (required : Bool) (d : ℕ) (t : DriverTalk) (n : ℕ) where
  desk_fine : (told : Told) (p : PathPlan) (o : Outcome) (v : Verdict) → HasDeskVerdict required d t n told p o v → is_no_memory v ≡ false → is_write_failed v ≡ false → failed_leaves (leaf_back p o.leaf) ≡ 0
  desk_fine told p o (verdict.Written unencoded) has memory written = counted p o 0 (Sealed p.mark) has.1
  desk_fine told p o (verdict.Unfiltered why unencoded) has memory written = counted p o 0 (Sealed p.mark) has.2
  desk_fine told p o (verdict.Failed (fail.Filter why)) has memory written = counted p o 0 Gone has.2
  desk_fine told p o (verdict.Failed fail.Missing) has memory written = counted p o 0 Gone has.1
  desk_fine told p o (verdict.Failed fail.ReadFailed) has memory written = counted p o has.1.0 Fresh has.1.2
  desk_fine told p o (verdict.Failed (fail.Object kind)) has memory written = counted p o 0 Fresh has.1
  desk_fine told p o (verdict.Failed fail.WriteFailed) has memory written = absurd cc
  desk_fine told p o verdict.NoMemory has memory written = absurd cc
  desk_fine told p o (verdict.Skipped cause) has memory written = absurd has
  desk_fine told p o (verdict.Failed fail.NameNotText) has memory written = absurd has
  desk_fine told p o (verdict.Failed fail.NoProcess) has memory written = absurd has
  desk_fine told p o (verdict.Failed fail.UnknownEncoding) has memory written = absurd has

module _ (object : List ℕ → Told) (talks : List DriverTalk) where
  pub path_fine : (n : ℕ) (p : PathPlan) (o : Outcome) (s : Start) → HasOutcome object talks s n p o → is_no_memory o.verdict ≡ false → is_write_failed o.verdict ≡ false → failed_leaves (leaf_back p o.leaf) ≡ 0
  path_fine n p o (start.Done v) has memory written = unmade p o has.1.leaf
  path_fine n p o start.Pool has memory written = pool_fine (object p.object) p o o.verdict has memory written
  path_fine n p o (start.Desk d required) (text, t, there, has) memory written = desk_fine required d t n (object p.object) p o o.verdict has memory written

  -- no leaf failed where each path had memory and none could not be written
  leaves_fine : (n : ℕ) (ps : List PathPlan) (os : List Outcome) → AreOutcomes object talks n ps os → lacks_memory (verdicts_of os) ≡ false → list_any is_write_failed (verdicts_of os) ≡ false
      → failed_leaves (leaves_back ps os) ≡ 0
  leaves_fine n [] [] fit memory written = refl
  leaves_fine n [] (o ∷ os) fit memory written = absurd fit
  leaves_fine n (p ∷ ps) [] fit memory written = absurd fit
  leaves_fine n (p ∷ ps) (o ∷ os) fit memory written =
      let left = neither (is_no_memory o.verdict) (lacks_memory (verdicts_of os)) memory in
      let put = neither (is_write_failed o.verdict) (list_any is_write_failed (verdicts_of os)) written in
      let first : failed_leaves (leaf_back p o.leaf) ≡ 0 = path_fine n p o p.start fit.0 left.0 put.0 in
      let rest : failed_leaves (leaves_back ps os) ≡ 0 = leaves_fine (suc n) ps os fit.1 left.1 put.1 in
      let sum : failed_leaves (leaf_back p o.leaf ++ leaves_back ps os) ≡ failed_leaves (leaf_back p o.leaf) + failed_leaves (leaves_back ps os) =
      sum_by-append (λ l. l.2) (leaf_back p o.leaf) (leaves_back ps os) in
      omega (arith, sum, first, rest)

-- ---- links

fine_more : (hs ks : List Had) → NoneFailed hs → NoneFailed ks → NoneFailed (hs ++ ks)
fine_more [] ks a b = b
fine_more (Session seen ∷ hs) ks a b = (a.0, fine_more hs ks a.1 b)
fine_more (StartFailed ∷ hs) ks a b = fine_more hs ks a b
fine_more (StartOutOfMemory ∷ hs) ks a b = fine_more hs ks a b

waits_fine : (n : ℕ) → NoneFailed (waits n)
waits_fine zero = tt
waits_fine (suc n) = waits_fine n

not_zero : (n : ℕ) → not (n == 0) ≡ false → n ≡ 0
not_zero n is = by (n == 0) refl is
  where
    by : (b : Bool) → (n == 0) ≡ b → not b ≡ false → n ≡ 0
    by true e is = eqb-true n 0 e
    by false e is = absurd cc

start_fine : (o : StartOutcome) → is_link_failed o ≡ false → NoneFailed (outcome_had o ∷ [])
start_fine (outcome.Session s) is = (not_zero s.faults is, tt)
start_fine outcome.Failed is = tt

starts_fine : (ss : List StartSeen) → list_any (λ s. is_link_failed s.outcome) ss ≡ false → NoneFailed (starts_had ss)
starts_fine [] is = tt
starts_fine (s ∷ ss) is =
    let both = neither (is_link_failed s.outcome) (list_any (λ x. is_link_failed x.outcome) ss) is in
    fine_more (waits s.out_of_memory ++ outcome_had s.outcome ∷ []) (starts_had ss)
    (fine_more (waits s.out_of_memory) (outcome_had s.outcome ∷ []) (waits_fine s.out_of_memory) (start_fine s.outcome both.0)) (starts_fine ss both.1)

drivers_fine : (ds : List DriverSeen) → list_any is_driver_failed ds ≡ false → AllByRecursion (λ (starter : List ℕ × List Had). NoneFailed starter.1) (map driver_back ds)
drivers_fine [] is = tt
drivers_fine (d ∷ ds) is =
    let both = neither (is_driver_failed d) (list_any is_driver_failed ds) is in
    (fine_more (starts_had d.starts) (waits d.out_of_memory) (starts_fine d.starts both.0) (waits_fine d.out_of_memory), drivers_fine ds both.1)

-- ---- the whole

pub tried_well : (told : RepoTold) (ahead : List ℕ → Starts) (run : CheckoutRun) (ws : List Verdict) (tree : TreeSeen) (spawner : SpawnerSeen) (drivers : List DriverSeen) (b : Bool) → IsTried told ahead run tree spawner
    → map driver_back drivers ≡ spawner.returned → ws ≡ run.verdicts.items → b ≡ is_disturbed ws drivers → b ≡ false → IsTriedWell told ahead run tree
tried_well told ahead run ws tree spawner drivers b tried kept same test none =
    let c = tried.checkout in
    let os = c.outcomes in
    let now : ws ≡ verdicts_of os = same ∙ tried.own.verdicts_are in
    let quiet : is_disturbed (verdicts_of os) drivers ≡ false = ap (λ (l : List Verdict). is_disturbed l drivers) (sym now) ∙ sym test ∙ none in
    let first = neither (lacks_memory (verdicts_of os)) (list_any is_write_failed (verdicts_of os) || list_any is_driver_failed drivers) quiet in
    let second = neither (list_any is_write_failed (verdicts_of os)) (list_any is_driver_failed drivers) first.1 in
    let grew : failed_leaves (tried.left).tree.returned ≡ failed_leaves new_memory.tree.returned + failed_leaves (leaves_back c.plan.paths os) =
    ap (λ (t : TreeSeen). failed_leaves t.returned) c.leaves ∙ sum_by-append (λ l. l.2) new_memory.tree.returned (leaves_back c.plan.paths os) in
    let zero_left : failed_leaves (leaves_back c.plan.paths os) ≡ 0 = leaves_fine told.object c.talks 0 c.plan.paths os c.verdicts first.0 second.0 in
    let back : map driver_back drivers ≡ map (λ (t : DriverTalk). (t.command, t.had)) c.talks =
    kept ∙ ap (λ (s : SpawnerSeen). s.returned) (tried.spawner_is ∙ c.starters) in
    record {
      spawner = spawner;
      tried = tried;
      undisturbed = record {
        leaves = omega (arith, grew, zero_left);
        links = no_link_failed c.talks (subst (λ (l : List (List ℕ × List Had)). AllByRecursion (λ (starter : List ℕ × List Had). NoneFailed starter.1) l) back (drivers_fine drivers second.1));
        memory = first.0;
      };
    }

-- A plan is small, and so is the run of a checkout and that of a rehearsal.
use Rattle.std.proofs.Common.{◌≡◌, ◌≤◌, ◌*◌, ℕ, List, [], ◌∷◌, length, Option, None, sym, ap, ◌∙◌, subst, arith}
use Rattle.std.specs.List.{AllByRecursion, filter}
use Rattle.std.proofs.lemmas.List.{length-map}
use Rattle.edge_kit.specs.Seen.{TreeSeen}
use Rattle.edge_kit.specs.Starters.{Starts}
use Rattle.edge_kit.specs.Told.{RepoTold}
use Rattle.checkout_core.specs.declared.event.Event.{Event}
use Rattle.checkout_core.specs.declared.path.Start.{Start}
use Rattle.checkout_core.specs.States.{Core, AreBelow}
use Rattle.checkout_core.specs.Steps.{IsLegal}
use Rattle.checkout_plan.specs.Paths.{HasCause, ClosedPathsHaveCauses}
use Rattle.checkout_plan.specs.declared.path_plan.PathPlan.{PathPlan}
use Rattle.checkout_plan.specs.declared.path_plan.Plan.{Plan}
use Rattle.writer_pool.specs.Ends.{IsRun}
use Rattle.checkout_engine.specs.declared.end.CheckoutRun.{CheckoutRun}
use Rattle.checkout_engine.specs.declared.end.Checkout.{Checkout}
use Rattle.checkout_engine.specs.declared.end.Checkout.TheVariants as ends
use Rattle.checkout_engine.specs.Checkout.{HasVerdicts, HasWholeRun, Leaves}
use Rattle.checkout_engine.specs.Ends.{Seen, verdicts_of}
use Rattle.checkout_engine.specs.Small.{IsSmallStart, IsSmallRun}
use Rattle.checkout_engine.specs.Rehearsed.{IsRehearsed, IsRehearsedRun}
use Rattle.checkout_sources.specs.Sources.{IsPlanned}
use Rattle.checkout_paths.specs.Workers.{starts_of, in_pool, worker_count, IsAsked}
use Rattle.checkout_paths.specs.Cards.{DriversAreInUse}
use Rattle.checkout_engine.proofs.Bounds.{no_more_paths, settings_few, count_few}
use Rattle.checkout_engine.proofs.Drivers.{planned_drivers}

-- ---- their starts

causes_of : (ps : List PathPlan) → AllByRecursion (λ p. HasCause p.start) ps → AllByRecursion HasCause (starts_of ps)
causes_of [] all = tt
causes_of (p ∷ ps) all = (all.0, causes_of ps all.1)

planned_causes : ClosedPathsHaveCauses → (told : RepoTold) (plan : Plan) → IsPlanned told plan → AllByRecursion HasCause (starts_of plan.paths)
planned_causes law told plan planned =
    causes_of plan.paths
    (subst (λ (p : Plan). AllByRecursion (λ q. HasCause q.start) p.paths) (sym planned.made.is) (law planned.entries planned.settings planned.outer planned.made.contents))

-- ---- the whole

-- the law of the core that a history is short
abbrev pub IsShort : Type 0
IsShort = (starts : List Start) (workers drivers : ℕ) (history : List Event) (x : Core) → AreBelow drivers starts → IsLegal starts workers drivers history x → length history ≤ 9 * length starts

-- what is handed on is the run of the checkout
pub run_rehearsed : (seed n : ℕ) (run : CheckoutRun) (tree : TreeSeen) (starts : List Start) (drivers : ℕ) → IsRehearsed seed n run tree → starts ≡ starts_of run.plan.paths → drivers ≡ length run.plan.drivers
    → IsRehearsedRun seed n starts run.workers drivers run.history.items
run_rehearsed seed n run tree starts drivers rehearsed starts_is drivers_is =
    let tried = rehearsed.well.tried in
    let c = tried.checkout in
    let begins : starts ≡ starts_of (c.plan).paths = starts_is ∙ ap (λ (p : Plan). starts_of p.paths) tried.own.plan_is in
    let many : drivers ≡ length (c.plan).drivers = drivers_is ∙ ap (λ (p : Plan). length p.drivers) tried.own.plan_is in
    let vs = verdicts_of c.outcomes in
    let count : ℕ = worker_count None (c.planned).settings (c.plan).paths in
    record {
      told = rehearsed.told;
      made = rehearsed.made;
      left = tried.left;
      checkout = c;
      undisturbed = rehearsed.well.undisturbed;
      starts_are = begins;
      workers_are = tried.own.workers_are;
      drivers_are = many;
      history_is = tried.own.history_is;
      run = subst (λ (l : List Start). IsRun l run.workers drivers run.history.items vs) (sym begins)
          (subst (λ (k : ℕ). IsRun (starts_of (c.plan).paths) k drivers run.history.items vs) (sym tried.own.workers_are)
          (subst (λ (k : ℕ). IsRun (starts_of (c.plan).paths) count k run.history.items vs) (sym many)
          (subst (λ (h : List Event). IsRun (starts_of (c.plan).paths) count (length (c.plan).drivers) h vs) (sym tried.own.history_is) c.run)));
    }

-- a plan is small, whatever number of workers is asked for
pub start_small : DriversAreInUse → ClosedPathsHaveCauses → (told : RepoTold) (asked : Option ℕ) (plan : Plan) (planned : IsPlanned told plan) → IsAsked asked
    → IsSmallStart (starts_of plan.paths) (worker_count asked planned.settings plan.paths) (length plan.drivers)
start_small in_use closed told asked plan planned few =
    let config = planned.sources.config in
    let pace = count_few asked planned.settings.workers planned.settings.threshold (length (filter in_pool plan.paths)) few (settings_few config.list planned.settings config.says) in
    let size : length plan.paths ≤ length planned.entries =
    subst (λ (p : Plan). length p.paths ≤ length planned.entries) (sym planned.made.is) (no_more_paths planned.entries planned.settings planned.outer planned.made.contents) in
    record {
      some_workers = pace.0;
      few_workers = pace.1;
      few_drivers = planned.few;
      few_starts = omega (arith, size, planned.sources.index.is_index.text.few, length-map plan.paths (λ (p : PathPlan). p.start));
      desks = in_use plan.drivers plan.paths (planned_drivers told plan planned);
      causes = planned_causes closed told plan planned;
    }

-- the same of what is handed on
pub small_as : (starts starts' : List Start) (workers workers' drivers drivers' : ℕ) → starts ≡ starts' → workers ≡ workers' → drivers ≡ drivers' → IsSmallStart starts' workers' drivers' → IsSmallStart starts workers drivers
small_as starts starts' workers workers' drivers drivers' a b c small =
    subst (λ (l : List Start). IsSmallStart l workers drivers) (sym a)
    (subst (λ (k : ℕ). IsSmallStart starts' k drivers) (sym b)
    (subst (λ (k : ℕ). IsSmallStart starts' workers' k) (sym c) small))

-- the run of a checkout is
pub whole_end : DriversAreInUse → ClosedPathsHaveCauses → IsShort → (told : RepoTold) (ahead : List ℕ → Starts) (asked : Option ℕ) (old new : Seen) (e : Checkout) → IsAsked asked → HasVerdicts e → Leaves told ahead asked old new e → HasWholeRun e
whole_end in_use closed short told ahead asked old new (ends.Done run) few verdicts (c, own) =
    let start : IsSmallStart (starts_of run.plan.paths) run.workers (length run.plan.drivers) =
    small_as (starts_of run.plan.paths) (starts_of (c.plan).paths) run.workers (worker_count asked (c.planned).settings (c.plan).paths) (length run.plan.drivers) (length (c.plan).drivers)
    (ap (λ (p : Plan). starts_of p.paths) own.plan_is) own.workers_are (ap (λ (p : Plan). length p.drivers) own.plan_is) (start_small in_use closed told asked c.plan c.planned few) in
    let begun = start_small in_use closed told asked c.plan c.planned few in
    let events = short (starts_of (c.plan).paths) (worker_count asked (c.planned).settings (c.plan).paths) (length (c.plan).drivers) new.history (c.run).core begun.desks (c.run).legal in
    record {
      verdicts = verdicts;
      small = record { start = start; few_events = omega (arith, begun.few_starts, events, ap length own.history_is) };
    }
whole_end in_use closed short told ahead asked old new ends.NotEmpty few verdicts left = tt
whole_end in_use closed short told ahead asked old new (ends.Refused r) few verdicts left = tt
whole_end in_use closed short told ahead asked old new ends.ReadFault few verdicts left = tt
whole_end in_use closed short told ahead asked old new ends.NoMemory few verdicts left = tt

-- and the run of a rehearsal is
pub run_small : DriversAreInUse → ClosedPathsHaveCauses → IsShort → (seed n : ℕ) (starts : List Start) (workers drivers : ℕ) (history : List Event) → IsRehearsedRun seed n starts workers drivers history → IsSmallRun starts workers drivers history
run_small in_use closed short seed n starts workers drivers history r =
    let c = r.checkout in
    let small : IsSmallStart starts workers drivers =
    small_as starts _ workers _ drivers _ r.starts_are r.workers_are r.drivers_are (start_small in_use closed r.told None c.plan c.planned tt) in
    record { start = small; few_events = omega (arith, small.few_starts, short starts workers drivers history r.run.core small.desks r.run.legal) }

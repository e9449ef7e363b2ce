-- How a command ends, by its status.
use Rattle.std.proofs.Common.{◌≡◌, ◌≤◌, ◌<◌, ◌⊎◌, ℕ, if◌then◌else◌, length, arith, Bool, true, false, List, [], Option, Some, None, Result, Ok, Err, refl, sym, subst, inl, inr, ap, ◌∙◌}
use Rattle.std.specs.List.{list_any}
use Rattle.edge_kit.specs.Faults.{Rose}
use Rattle.edge_kit.specs.Seen.{RepoSeen, TreeSeen, SinkSeen}
use Rattle.edge_kit.specs.Starters.{Starts, SpawnerSeen}
use Rattle.edge_kit.specs.Told.{Told, RepoTold}
use Rattle.checkout_core.specs.declared.event.Event.{Event}
use Rattle.checkout_core.specs.declared.verdict.Verdict.{Verdict}
use Rattle.writer_pool.specs.Ends.{IsRun}
use Rattle.checkout_words.specs.declared.Command.{Command}
use Rattle.checkout_words.specs.declared.Command.TheVariants as command
use Rattle.checkout_plan.specs.declared.path_plan.Plan.{Plan}
use Rattle.checkout_report.specs.Report.{is_failed}
use Rattle.checkout_paths.specs.Talks.{AreDriverTalks}
use Rattle.checkout_paths.specs.Workers.{starts_of, worker_count}
use Rattle.checkout_sources.specs.Causes.{failed_blobs}
use Rattle.checkout_sources.specs.RefusalText.{refusal_line}
use Rattle.checkout_sources.specs.declared.planned.Planned.{Planned}
use Rattle.checkout_sources.specs.declared.stop.Refusal.{Refusal}
use Rattle.checkout_sources.specs.declared.stop.Stop.{Stop}
use Rattle.checkout_sources.specs.declared.stop.Stop.TheVariants as stop
use Rattle.plan_report.specs.Lines.{plan_lines}
use Rattle.exit_status.specs.declared.status.ExitStatus.{ExitStatus}
use Rattle.exit_status.specs.declared.status.ExitStatus.TheVariants as status
use Rattle.exit_status.specs.Output.{IsLineCut, with_text}
use Rattle.exit_status.specs.Said.{IsSilent, Says, Unsaid, cut_off}
use Rattle.exit_status.specs.Status.{number_of}
use Rattle.checkout_engine.specs.declared.end.Checkout.{Checkout}
use Rattle.checkout_engine.specs.declared.end.Checkout.TheVariants as ends
use Rattle.checkout_engine.specs.declared.end.CheckoutRun.{CheckoutRun}
use Rattle.checkout_engine.specs.Checkout.{Leaves, history_of}
use Rattle.checkout_engine.specs.Commands.{EndsWith, IsCutOff, IsOutOfMemory, before_said}
use Rattle.checkout_engine.specs.Complete.{IsReady, IsFinished, IsCompleted, IsWorkUnfailed, IsUnfailed}
use Rattle.checkout_engine.specs.Ending.{EndsCheckout, Ends}
use Rattle.checkout_engine.specs.Ends.{Seen, IsCheckedOut, IsReported, IsRefused, IsReadFault, IsNotEmpty, IsUntouched, HasRefusal, verdicts_of}
use Rattle.checkout_engine.specs.Headline.{IsRunHeadline, LeavesHeadline, IsHeadline}
use Rattle.checkout_engine.specs.Rehearsed.{Rehearses}
use Rattle.run_report.specs.Rows.{report}
use Rattle.checkout_engine.specs.Report.{status_of, lacks_memory}
use Rattle.checkout_engine.specs.Said.{SaysRefusal, SaysPlan, SaysEnd}

-- ---- the status of what is said

-- a text that is cut off doesn't end with 2
not_cut : (s : ExitStatus) → status.Usage ≡ cut_off s → ⊥
not_cut status.Done is = absurd cc
not_cut status.DoneWithFailures is = absurd cc
not_cut status.Usage is = absurd cc
not_cut status.Refused is = absurd cc
not_cut status.OutputNotWritten is = absurd cc
not_cut status.OutOfMemory is = absurd cc
not_cut status.ReadFault is = absurd cc
not_cut status.NotEmpty is = absurd cc

usage_said : (Part : List ℕ → SinkSeen → SinkSeen → Type 0) (text : List ℕ) (s : ExitStatus) (old new : SinkSeen) → Says Part text s old new status.Usage → status.Usage ≡ s
usage_said Part text s old new (inl (is, wrote)) = is
usage_said Part text s old new (inr (inl (is, cut))) = absurd (not_cut s is)
usage_said Part text s old new (inr (inr (is, part))) = absurd cc

-- nor does a plan, nor a rehearsal
pub plan_not_usage : (planned : Result Planned Stop) (old new : SinkSeen) → SaysPlan planned old new status.Usage → ⊥
plan_not_usage (Ok planned) old new says = let is : status.Usage ≡ status.Done = usage_said Unsaid (plan_lines planned.plan) status.Done old new says in absurd cc
plan_not_usage (Err (stop.Refused r)) old new says = let is : status.Usage ≡ status.Refused = usage_said Unsaid (refusal_line r) status.Refused old new says in absurd cc
plan_not_usage (Err stop.ReadFault) old new (is, same) = absurd cc
plan_not_usage (Err stop.NoMemory) old new (is, same) = absurd cc

pub rehearsal_not_usage : (seed paths : ℕ) (old new : SinkSeen) → Rehearses seed paths old new status.Usage → ⊥
rehearsal_not_usage seed paths old new (inl (text, summed, says)) = let is : status.Usage ≡ status.Done = usage_said Unsaid text status.Done old new says in absurd cc
rehearsal_not_usage seed paths old new (inr (is, same)) = absurd cc

-- ---- the end of a checkout

-- a checkout that is done, with its report and its number
abbrev pub IsDone : RepoTold → (List ℕ → Starts) → Option ℕ → Seen → Seen → ℕ → Type 0
IsDone told ahead asked old new number =
    (c : IsCheckedOut told ahead asked old new)
    × IsReported c.plan.paths (verdicts_of c.outcomes) old.sink new.sink number

-- how a checkout ends, by its status
abbrev pub EndsBy : RepoTold → (List ℕ → Starts) → Option ℕ → Seen → Seen → ExitStatus → Type 0
EndsBy told ahead asked old new status.Done = IsDone told ahead asked old new 0
EndsBy told ahead asked old new status.DoneWithFailures = IsDone told ahead asked old new 1
EndsBy told ahead asked old new status.Usage = ⊥
EndsBy told ahead asked old new status.Refused = IsRefused told old new
EndsBy told ahead asked old new status.OutputNotWritten = IsCutOff told ahead asked old new
EndsBy told ahead asked old new status.OutOfMemory = IsOutOfMemory told ahead asked old new
EndsBy told ahead asked old new status.ReadFault = IsReadFault told old new
EndsBy told ahead asked old new status.NotEmpty = IsNotEmpty old new

module _ (told : RepoTold) (ahead : List ℕ → Starts) (asked : Option ℕ) (old new : Seen) where
  -- it ends with this status
  ends_at : (s t : ExitStatus) → s ≡ t → EndsBy told ahead asked old new t → EndsBy told ahead asked old new s
  ends_at s t is so = subst (λ (x : ExitStatus). EndsBy told ahead asked old new x) (sym is) so

  -- an end that is cut off, and a want of memory
  cut_end : (s : ExitStatus) → EndsWith told ahead asked old new s → s ≡ status.OutputNotWritten → EndsBy told ahead asked old new s
  cut_end s so is = ends_at s status.OutputNotWritten is (subst (λ (x : ExitStatus). EndsWith told ahead asked old new x) is so)

  memory_end : (s : ExitStatus) → EndsWith told ahead asked old new s → s ≡ status.OutOfMemory → EndsBy told ahead asked old new s
  memory_end s so is = ends_at s status.OutOfMemory is (subst (λ (x : ExitStatus). EndsWith told ahead asked old new x) is so)

  -- a report that was written whole, by the status of its verdicts
  reported : (s : ExitStatus) → EndsWith told ahead asked old new s → (c : IsCheckedOut told ahead asked old new) → s ≡ status_of (verdicts_of c.outcomes) → new.sink ≡ with_text (report c.plan.paths (verdicts_of c.outcomes)) old.sink
      → (lacks failed : Bool) → lacks_memory (verdicts_of c.outcomes) ≡ lacks → list_any is_failed (verdicts_of c.outcomes) ≡ failed → EndsBy told ahead asked old new s
  reported s so c is wrote true failed lacks fails = let five : status_of (verdicts_of c.outcomes) ≡ status.OutOfMemory = rw lacks refl in memory_end s so (is ∙ five)
  reported s so c is wrote false true lacks fails =
      let one : status_of (verdicts_of c.outcomes) ≡ status.DoneWithFailures = rw (lacks, fails) refl in
      ends_at s status.DoneWithFailures (is ∙ one) (c, record { report = wrote; status = ap number_of (sym one) })
  reported s so c is wrote false false lacks fails =
      let zero : status_of (verdicts_of c.outcomes) ≡ status.Done = rw (lacks, fails) refl in
      ends_at s status.Done (is ∙ zero) (c, record { report = wrote; status = ap number_of (sym zero) })

  -- a report that the sink cut off
  cut_report : (s : ExitStatus) → EndsWith told ahead asked old new s → (vs : List Verdict) → s ≡ cut_off (status_of vs) → (lacks failed : Bool) → lacks_memory vs ≡ lacks → list_any is_failed vs ≡ failed → EndsBy told ahead asked old new s
  cut_report s so vs is true failed lacks fails = let five : cut_off (status_of vs) ≡ status.OutOfMemory = rw lacks refl in memory_end s so (is ∙ five)
  cut_report s so vs is false true lacks fails = let four : cut_off (status_of vs) ≡ status.OutputNotWritten = rw (lacks, fails) refl in cut_end s so (is ∙ four)
  cut_report s so vs is false false lacks fails = let four : cut_off (status_of vs) ≡ status.OutputNotWritten = rw (lacks, fails) refl in cut_end s so (is ∙ four)

  ends_reported : (s : ExitStatus) → EndsWith told ahead asked old new s → (c : IsCheckedOut told ahead asked old new) → Says IsLineCut (report c.plan.paths (verdicts_of c.outcomes)) (status_of (verdicts_of c.outcomes)) old.sink new.sink s
      → EndsBy told ahead asked old new s
  ends_reported s so c (inl (is, wrote)) = reported s so c is wrote _ _ refl refl
  ends_reported s so c (inr (inl (is, cut))) = cut_report s so (verdicts_of c.outcomes) is _ _ refl refl
  ends_reported s so c (inr (inr (is, lines))) = memory_end s so is

  ends_refused : (s : ExitStatus) → EndsWith told ahead asked old new s → (r : Refusal) → HasRefusal told r old new → SaysRefusal r old.sink new.sink s → EndsBy told ahead asked old new s
  ends_refused s so r has (inl (is, line)) = ends_at s status.Refused is (r, has, line)
  ends_refused s so r has (inr (inl (is, cut))) = cut_end s so is
  ends_refused s so r has (inr (inr (is, same))) = memory_end s so is

  -- what a checkout leaves stays as its end is said
  abbrev still_checked : (e : Checkout) → new.history ≡ history_of e → IsCheckedOut told ahead asked old (before_said old new e) → IsCheckedOut told ahead asked old new
  still_checked e is c = record {
    empty = c.empty;
    plan = c.plan;
    planned = c.planned;
    talks = c.talks;
    outcomes = c.outcomes;
    verdicts = c.verdicts;
    conversations = subst (λ (h : List Event). AreDriverTalks ahead told.object c.plan.paths (verdicts_of c.outcomes) h 0 c.plan.drivers c.talks) (sym is) c.conversations;
    files = c.files;
    blobs = c.blobs;
    leaves = c.leaves;
    starters = c.starters;
    run = subst (λ (h : List Event). IsRun (starts_of c.plan.paths) (worker_count asked c.planned.settings c.plan.paths) (length c.plan.drivers) h (verdicts_of c.outcomes)) (sym is) c.run;
  }

  still_untouched : (e : Checkout) → new.history ≡ history_of e → IsUntouched old (before_said old new e) → IsUntouched old new
  still_untouched e is u = record { tree = u.tree; spawner = u.spawner; history = is ∙ u.history }

  by_end : (s : ExitStatus) → EndsWith told ahead asked old new s → (e : Checkout) → new.history ≡ history_of e → Leaves told ahead asked old (before_said old new e) e → SaysEnd e old.sink new.sink s → EndsBy told ahead asked old new s
  by_end s so (ends.Done run) is (c, own) says =
      ends_reported s so (still_checked (ends.Done run) is c)
      (subst (λ (p : Plan). Says IsLineCut (report p.paths (verdicts_of c.outcomes)) (status_of (verdicts_of c.outcomes)) old.sink new.sink s) own.plan_is
      (subst (λ (vs : List Verdict). Says IsLineCut (report run.plan.paths vs) (status_of vs) old.sink new.sink s) own.verdicts_are says))
  by_end s so ends.NotEmpty is (full, all) (at, same) =
      ends_at s status.NotEmpty at
      (full, ap (λ (h : List Event). record new { history = h }) is ∙ ap (λ (k : SinkSeen). record new { sink = k; history = [] }) same ∙ all)
  by_end s so (ends.Refused r) is has says =
      ends_refused s so r
      (record { empty = has.empty; refused = has.refused; untouched = still_untouched (ends.Refused r) is has.untouched; steady = record { repo = has.steady.repo; tree = has.steady.tree } }) says
  by_end s so ends.ReadFault is has (at, same) =
      ends_at s status.ReadFault at (record { cause = has.cause; untouched = still_untouched ends.ReadFault is has.untouched; silent = same })
  by_end s so ends.NoMemory is left (at, same) = memory_end s so at

  -- how a checkout ends, by its status
  pub ends_said : (s : ExitStatus) → EndsCheckout told ahead asked old new s → EndsBy told ahead asked old new s
  ends_said s e = by_end s e.so e.so.end e.so.history_is e.so.left e.so.said

-- memory ran out as the words were read: nothing was done
pub unread : (command : Option Command) (told : RepoTold) (ahead : List ℕ → Starts) (old new : Seen) → new ≡ old → old.history ≡ [] → Ends command told ahead old new status.OutOfMemory
unread None told ahead old new same none = record { is = inr refl; same = same }
unread (Some command.Plan) told ahead old new same none = record {
  shown = (Err stop.NoMemory, inl (ap (λ (x : Seen). x.repo) same), (refl, ap (λ (x : Seen). x.sink) same));
  tree = ap (λ (x : Seen). x.tree) same;
  spawner = ap (λ (x : Seen). x.spawner) same;
  history = ap (λ (x : Seen). x.history) same;
}
unread (Some (command.Rehearse seed paths)) told ahead old new same none = record {
  shown = inr (refl, ap (λ (x : Seen). x.sink) same);
  repo = ap (λ (x : Seen). x.repo) same;
  tree = ap (λ (x : Seen). x.tree) same;
  spawner = ap (λ (x : Seen). x.spawner) same;
  history = ap (λ (x : Seen). x.history) same;
}
unread (Some (command.Checkout workers)) told ahead old new same none =
    let repo : new.repo ≡ old.repo = ap (λ (x : Seen). x.repo) same in
    let tree : new.tree ≡ old.tree = ap (λ (x : Seen). x.tree) same in
    let alone : new.tree ≡ record old.tree { faults = (new.tree).faults } = tree ∙ ap (λ (n : ℕ). record old.tree { faults = n }) (sym (ap (λ (t : TreeSeen). t.faults) tree)) in
    record {
      so = record {
        end = ends.NoMemory;
        history_is = ap (λ (x : Seen). x.history) same ∙ none;
        left = inl (record {
          untouched = record { tree = alone; spawner = ap (λ (x : Seen). x.spawner) same; history = sym none };
          repo = inl repo;
          steady = record {
            repo = record { faults = ap (λ (r : RepoSeen). r.faults) repo; blobs = ap (λ (r : RepoSeen). failed_blobs r.returned) repo };
            tree = ap (λ (t : TreeSeen). t.faults) tree;
          };
        });
        said = (refl, ap (λ (x : Seen). x.sink) same);
      };
      headline = tt;
      complete = λ ready unfailed. tt;
    }

-- ---- what a checkout leaves that is reported whole

-- the number of verdicts that leave memory and are reported
memory_left : (vs : List Verdict) (n : ℕ) → n < 2 → n ≡ number_of (status_of vs) → lacks_memory vs ≡ false
memory_left vs n less is = elim (lacks_memory vs) as (λ lacks. lacks_memory vs ≡ lacks → lacks ≡ false) [
  | true ↦ λ l. let five : n ≡ 5 = rw l at is in absurd (omega (arith, five, less))
  | false ↦ λ l. refl
] refl

number_is : (vs : List Verdict) (n : ℕ) → lacks_memory vs ≡ false → n ≡ number_of (status_of vs) → n ≡ (if list_any is_failed vs then 1 else 0)
number_is vs n left is = elim (list_any is_failed vs) as (λ failed. list_any is_failed vs ≡ failed → n ≡ (if failed then 1 else 0)) [
  | true ↦ λ f. rw (left, f) at is
  | false ↦ λ f. rw (left, f) at is
] refl

-- a text that is cut off, and a want of memory, have a large number
cut_number : (s : ExitStatus) → 2 ≤ number_of (cut_off s)
cut_number status.Done = omega arith
cut_number status.DoneWithFailures = omega arith
cut_number status.Usage = omega arith
cut_number status.Refused = omega arith
cut_number status.OutputNotWritten = omega arith
cut_number status.OutOfMemory = omega arith
cut_number status.ReadFault = omega arith
cut_number status.NotEmpty = omega arith

-- a number that is 0 or 1 comes of a text that is written whole
said_whole : (Part : List ℕ → SinkSeen → SinkSeen → Type 0) (text : List ℕ) (s end : ExitStatus) (old new : SinkSeen) (n : ℕ) → n ≡ number_of end → n < 2 → Says Part text s old new end → (n ≡ number_of s) × (new ≡ with_text text old)
said_whole Part text s end old new n is less (inl (at, wrote)) = (is ∙ ap number_of at, wrote)
said_whole Part text s end old new n is less (inr (inl (at, cut))) =
    let large = cut_number s in let here : n ≡ number_of (cut_off s) = is ∙ ap number_of at in absurd (omega (arith, less, large, here))
said_whole Part text s end old new n is less (inr (inr (at, part))) =
    let here : n ≡ 5 = is ∙ ap number_of at in absurd (omega (arith, less, here))

silent_number : (s end : ExitStatus) (old new : SinkSeen) (n : ℕ) → n ≡ number_of end → IsSilent s old new end → n ≡ number_of s
silent_number s end old new n is (at, same) = is ∙ ap number_of at

module _ (told : RepoTold) (ahead : List ℕ → Starts) (asked : Option ℕ) (old new : Seen) where
  -- the headline stays as the report is written
  still_headline : (run : CheckoutRun) → new.history ≡ run.history.items → IsRunHeadline told ahead asked old (before_said old new (ends.Done run)) run → IsRunHeadline told ahead asked old new run
  still_headline run is h = record {
    planned = h.planned;
    talks = h.talks;
    ends = h.ends;
    verdicts_are = h.verdicts_are;
    history_is = sym is;
    verdicts = h.verdicts;
    conversations = h.conversations;
    files = h.files;
    blobs = h.blobs;
    leaves = h.leaves;
    starters = h.starters;
    workers_are = h.workers_are;
    ran = h.ran;
    actors = h.actors;
  }

  headline_by : (e : Checkout) (s : ExitStatus) (n : ℕ) → n ≡ number_of s → n < 2 → new.history ≡ history_of e → LeavesHeadline told ahead asked old (before_said old new e) e → SaysEnd e old.sink new.sink s → IsHeadline told ahead asked old new n
  headline_by (ends.Done run) s n is less history left says =
      let vs = run.verdicts.items in
      let whole = said_whole IsLineCut (report run.plan.paths vs) (status_of vs) s old.sink new.sink n is less says in
      let memory = memory_left vs n less whole.0 in
      record { run = run; left = still_headline run history (left memory); report = whole.1; status = number_is vs n memory whole.0 }
  headline_by (ends.Refused r) s n is less history left says =
      let whole = said_whole Unsaid (refusal_line r) status.Refused s old.sink new.sink n is less says in
      let three : n ≡ 3 = whole.0 in absurd (omega (arith, less, three))
  headline_by ends.NotEmpty s n is less history left says =
      let seven : n ≡ 7 = silent_number status.NotEmpty s old.sink new.sink n is says in absurd (omega (arith, less, seven))
  headline_by ends.ReadFault s n is less history left says =
      let six : n ≡ 6 = silent_number status.ReadFault s old.sink new.sink n is says in absurd (omega (arith, less, six))
  headline_by ends.NoMemory s n is less history left says =
      let five : n ≡ 5 = silent_number status.OutOfMemory s old.sink new.sink n is says in absurd (omega (arith, less, five))

  pub headline : (s : ExitStatus) (n : ℕ) → n ≡ number_of s → n < 2 → EndsCheckout told ahead asked old new s → IsHeadline told ahead asked old new n
  headline s n is less e = headline_by e.so.end s n is less e.so.history_is e.headline e.so.said

  -- ---- a checkout that has all that it needs

  -- what is said where the sink doesn't fail
  unfailed_says : (Part : List ℕ → SinkSeen → SinkSeen → Type 0) (text : List ℕ) (s end : ExitStatus) (n : ℕ) → n ≡ number_of end → (Rose old.sink.faults new.sink.faults → ⊥) → Says Part text s old.sink new.sink end
      → ((n ≡ number_of s) × (new.sink ≡ with_text text old.sink)) ⊎ (n ≡ 5)
  unfailed_says Part text s end n is unfailed (inl (at, wrote)) = inl (is ∙ ap number_of at, wrote)
  unfailed_says Part text s end n is unfailed (inr (inl (at, cut))) = absurd (unfailed cut.rose)
  unfailed_says Part text s end n is unfailed (inr (inr (at, part))) = inr (is ∙ ap number_of at)

  finished_number : (vs : List Verdict) (n : ℕ) → n ≡ number_of (status_of vs) → (lacks failed : Bool) → lacks_memory vs ≡ lacks → list_any is_failed vs ≡ failed → (lacks ≡ true) ⊎ (failed ≡ false) → (n ≡ 0) ⊎ (n ≡ 5)
  finished_number vs n is true failed lacks fails done = inr (rw lacks at is)
  finished_number vs n is false false lacks fails done = inl (rw (lacks, fails) at is)
  finished_number vs n is false true lacks fails (inl never) = absurd cc
  finished_number vs n is false true lacks fails (inr never) = absurd cc

  completed_by : (e : Checkout) (s : ExitStatus) (n : ℕ) → n ≡ number_of s → (Rose old.sink.faults new.sink.faults → ⊥) → IsFinished told.base e → SaysEnd e old.sink new.sink s → IsCompleted told.base old.sink new.sink n
  completed_by (ends.Done run) s n is unfailed done says =
      let vs = run.verdicts.items in
      elim (unfailed_says IsLineCut (report run.plan.paths vs) (status_of vs) s n is unfailed says) [
        | inl whole ↦ elim (finished_number vs n whole.0 (lacks_memory vs) (list_any is_failed vs) refl refl done) [
          | inl zero ↦ inl zero
          | inr five ↦ inr (inl five)
        ]
        | inr five ↦ inr (inl five)
      ]
  completed_by (ends.Refused r) s n is unfailed (untold, base) says = elim (unfailed_says Unsaid (refusal_line r) status.Refused s n is unfailed says) [
    | inl whole ↦ inr (inr (untold, whole.0, whole.1 ∙ ap (λ (x : Refusal). with_text (refusal_line x) old.sink) base))
    | inr five ↦ inr (inl five)
  ]
  completed_by ends.NotEmpty s n is unfailed done says = absurd done
  completed_by ends.ReadFault s n is unfailed done says = absurd done
  completed_by ends.NoMemory s n is unfailed done says = inr (inl (silent_number status.OutOfMemory s old.sink new.sink n is says))

  pub completed : (s : ExitStatus) (n : ℕ) → n ≡ number_of s → EndsCheckout told ahead asked old new s → IsReady told ahead old.tree.empty new.spawner.returned → IsUnfailed old new → IsCompleted told.base old.sink new.sink n
  completed s n is e ready unfailed =
      let work : IsWorkUnfailed old (before_said old new e.so.end) = record { repo = unfailed.work.repo; tree = unfailed.work.tree; leaves = unfailed.work.leaves; links = unfailed.work.links } in
      completed_by e.so.end s n is unfailed.sink (e.complete ready work) e.so.said

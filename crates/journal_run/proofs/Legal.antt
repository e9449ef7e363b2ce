-- One thing is found of a file, and the journal of a run is legal.
use Rattle.std.specs.Global.{Vec}
use Rattle.std.specs.declared.alloc.AllocError.{AllocError}
use Rattle.std.proofs.Common.{◌≡◌, ◌≤◌, ◌*◌, ℕ, List, length, Result, Ok, Err, IfOk, refl, sym, ap, ◌∙◌, subst, arith}
use Rattle.edge_kit.specs.Told.{Raw, Absent, Failing, Untold}
use Rattle.checkout_core.specs.declared.event.Event.{Event}
use Rattle.checkout_core.specs.declared.path.Start.{Start}
use Rattle.checkout_core.specs.States.{Core, AreBelow, unclosed_count}
use Rattle.checkout_core.specs.Steps.{IsLegal}
use Rattle.checkout_core.specs.Closes.{IsComplete}
use Rattle.journal_audit.specs.Audits.{IsAudit}
use Rattle.journal_audit.specs.Laws.{OneAudit, FitsAudit}
use Rattle.checkout_plan.specs.declared.path_plan.Plan.{Plan}
use Rattle.checkout_engine.specs.Ends.{verdicts_of}
use Rattle.checkout_paths.specs.Workers.{starts_of}
use Rattle.writer_pool.specs.Ends.{IsRun}
use Rattle.journal_run.specs.declared.finding.Finding.TheVariants as finding
use Rattle.checkout_engine.specs.declared.end.CheckoutRun.{CheckoutRun}
use Rattle.checkout_engine.specs.Rehearsed.{IsRehearsedRun}
use Rattle.journal_audit.specs.Audits.{journal_of}
use Rattle.journal_run.specs.Journals.{IsRunJournal}
use Rattle.journal_run.specs.Rehearsed.{IsJournalOf}
use Rattle.journal_run.specs.Laws.{OneFinding, RunsAreLegal, RehearsalsAreLegal, CheckoutsAreLegal}
use Rattle.journal_run.proofs.Starts.{starts_below}

pub one_finding : OneAudit → OneFinding
one_finding law (Raw bytes) is finding.Absent g x y = absurd x
one_finding law (Raw bytes) is finding.TooLarge finding.Absent x y = absurd y
one_finding law (Raw bytes) is finding.TooLarge finding.TooLarge x y = refl
one_finding law (Raw bytes) is finding.TooLarge (finding.Audited b) x y = absurd (omega (arith, x, y.2, ap length y.1))
one_finding law (Raw bytes) is (finding.Audited a) finding.Absent x y = absurd y
one_finding law (Raw bytes) is (finding.Audited a) finding.TooLarge x y = absurd (omega (arith, y, x.2, ap length x.1))
one_finding law (Raw bytes) is (finding.Audited a) (finding.Audited b) x y =
    ap finding.Audited (law y.0 a b (subst (λ (t : List ℕ). IsAudit t a) (x.1 ∙ sym y.1) x.3) y.3)
one_finding law Absent is finding.Absent finding.Absent x y = refl
one_finding law Absent is finding.Absent finding.TooLarge x y = absurd y
one_finding law Absent is finding.Absent (finding.Audited b) x y = absurd y.1
one_finding law Absent is finding.TooLarge g x y = absurd x
one_finding law Absent is (finding.Audited a) g x y = absurd x.1
one_finding law Failing is finding.Absent g x y = absurd x
one_finding law Failing is finding.TooLarge g x y = absurd x
one_finding law Failing is (finding.Audited a) g x y = absurd x.1
one_finding law Untold is f g x y = absurd is

-- the laws of the core that are used
abbrev pub IsClosed : Type 0
IsClosed = (c : Core) → IsComplete c → unclosed_count c.paths ≡ 0

abbrev pub IsShort : Type 0
IsShort = (starts : List Start) (workers drivers : ℕ) (history : List Event) (x : Core) → AreBelow drivers starts → IsLegal starts workers drivers history x → length history ≤ 9 * length starts

pub runs_legal : IsClosed → IsShort → FitsAudit → RunsAreLegal
runs_legal closed short fits starts workers drivers history verdicts text run spelled =
    let below : AreBelow drivers starts = starts_below drivers starts spelled.right.starts_fit in
    let few : length history ≤ 1000000 = omega (arith, short starts workers drivers history run.core below run.legal, spelled.right.few_paths) in
    record {
      small = fits text _ spelled few;
      legal = (_, spelled, refl, run.core, run.legal, sym (closed run.core run.complete));
    }

pub rehearsals_legal : RunsAreLegal → RehearsalsAreLegal
rehearsals_legal law seed paths text j =
    (length (j.journal).history, law (j.journal).starts (j.journal).workers (j.journal).drivers (j.journal).history _ text (j.run).run j.spelled)

-- the journal of the run of a rehearsal
pub journal_is : (seed paths : ℕ) (run : CheckoutRun) (result : Result (Vec ℕ) AllocError) → IsRehearsedRun seed paths (starts_of run.plan.paths) run.workers (length run.plan.drivers) run.history.items → IfOk result (λ text. IsRunJournal run text.items)
    → IfOk result (λ text. IsJournalOf seed paths text.items)
journal_is seed paths run (Ok text) rehearsed spelled =
    record { journal = journal_of (starts_of run.plan.paths) run.workers (length run.plan.drivers) run.history.items; spelled = spelled; run = rehearsed }
journal_is seed paths run (Err e) rehearsed spelled = tt

-- a run of a checkout is complete
pub checkouts_legal : RunsAreLegal → CheckoutsAreLegal
checkouts_legal law told ahead asked old new run text c own spelled =
    let vs = verdicts_of c.outcomes in
    let plan_is : c.plan ≡ run.plan = sym own.plan_is in
    let ran : IsRun (starts_of run.plan.paths) run.workers (length run.plan.drivers) run.history.items vs =
    subst (λ (h : List Event). IsRun (starts_of run.plan.paths) run.workers (length run.plan.drivers) h vs) (sym own.history_is)
    (subst (λ (p : Plan). IsRun (starts_of p.paths) run.workers (length p.drivers) new.history vs) plan_is
    (subst (λ (n : ℕ). IsRun (starts_of (c.plan).paths) n (length (c.plan).drivers) new.history vs) (sym own.workers_are) c.run)) in
    law (starts_of run.plan.paths) run.workers (length run.plan.drivers) run.history.items vs text ran spelled

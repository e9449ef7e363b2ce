-- The starts of a plan fit a journal, and those of a journal name its drivers.
use Rattle.std.proofs.Common.{◌≡◌, ◌<◌, ◌^◌, ◌&&◌, ℕ, zero, suc, Bool, true, false, List, [], ◌∷◌, length, Some, refl, sym, ap, subst, arith}
use Rattle.std.specs.List.{AllByRecursion, list_all}
use Rattle.std.proofs.lemmas.Bool.{ltb-true, lt-ltb}
use Rattle.checkout_core.specs.declared.path.Start.{Start}
use Rattle.checkout_core.specs.declared.path.Start.TheVariants.{Pool, Desk, Done}
use Rattle.checkout_core.specs.declared.verdict.Verdict.TheVariants as verdict
use Rattle.checkout_core.specs.declared.verdict.FailCause.TheVariants as fail
use Rattle.checkout_core.specs.States.{AreBelow}
use Rattle.checkout_core.specs.declared.event.Event.{Event}
use Rattle.checkout_engine.specs.declared.end.CheckoutRun.{CheckoutRun}
use Rattle.checkout_engine.specs.Small.{IsSmall}
use Rattle.checkout_paths.specs.Workers.{starts_of}
use Rattle.checkout_plan.specs.Paths.{HasCause}
use Rattle.journal_audit.specs.Audits.{IsPrintable}
use Rattle.journal_audit.specs.Journal.{start_fits}

both : (a b : Bool) → a ≡ true → b ≡ true → (a && b) ≡ true
both true b x y = y
both false b x y = absurd cc

first : (a b : Bool) → (a && b) ≡ true → a ≡ true
first true b e = refl
first false b e = absurd cc

second : (a b : Bool) → (a && b) ≡ true → b ≡ true
second true b e = e
second false b e = absurd cc

-- a start of a plan
one_fits : (drivers : ℕ) (s : Start) → ((d : ℕ) (required : Bool) → s ≡ Desk d required → d < drivers) → HasCause s → start_fits drivers s ≡ true
one_fits drivers Pool below cause = refl
one_fits drivers (Desk d required) below cause = lt-ltb d drivers (below d required refl)
one_fits drivers (Done (verdict.Skipped why)) below cause = refl
one_fits drivers (Done (verdict.Failed fail.NameNotText)) below cause = refl
one_fits drivers (Done (verdict.Failed fail.UnknownEncoding)) below cause = refl
one_fits drivers (Done (verdict.Failed fail.NoProcess)) below cause = refl
one_fits drivers (Done v) below cause = absurd cause

pub starts_fit : (drivers : ℕ) (starts : List Start) → AreBelow drivers starts → AllByRecursion HasCause starts → list_all (λ s. start_fits drivers s) starts ≡ true
starts_fit drivers [] below causes = refl
starts_fit drivers (s ∷ ss) below causes =
    both (start_fits drivers s) (list_all (λ s. start_fits drivers s) ss)
    (one_fits drivers s (λ d required is. below zero d required (ap Some is)) causes.0)
    (starts_fit drivers ss (λ p. below (suc p)) causes.1)

-- a start of a journal
pub starts_below : (drivers : ℕ) (starts : List Start) → list_all (λ s. start_fits drivers s) starts ≡ true → AreBelow drivers starts
starts_below drivers [] fit p d required is = absurd cc
starts_below drivers (s ∷ ss) fit zero d required is =
    let same : s ≡ Desk d required = cc is in
    ltb-true d drivers (subst (λ (x : Start). start_fits drivers x ≡ true) same (first (start_fits drivers s) (list_all (λ s. start_fits drivers s) ss) fit))
starts_below drivers (s ∷ ss) fit (suc p) d required is =
    starts_below drivers ss (second (start_fits drivers s) (list_all (λ s. start_fits drivers s) ss) fit) p d required is

-- a run that is small can be printed
pub printable : (run : CheckoutRun) (starts : List Start) (drivers : ℕ) (history : List Event) → starts ≡ starts_of run.plan.paths → drivers ≡ length run.plan.drivers → history ≡ run.history.items → IsSmall run
    → IsPrintable starts run.workers drivers history
printable run starts drivers history begins many events small =
    subst (λ (l : List Start). IsPrintable l run.workers drivers history) (sym begins)
    (subst (λ (k : ℕ). IsPrintable (starts_of run.plan.paths) run.workers k history) (sym many)
    (subst (λ (h : List Event). IsPrintable (starts_of run.plan.paths) run.workers (length run.plan.drivers) h) (sym events)
    (record {
      some_workers = small.start.some_workers;
      few_workers = small.start.few_workers;
      few_drivers = small.start.few_drivers;
      few_paths = small.start.few_starts;
      few_events = omega (arith, small.few_events);
      starts_fit = starts_fit (length run.plan.drivers) (starts_of run.plan.paths) small.start.desks small.start.causes;
    })))

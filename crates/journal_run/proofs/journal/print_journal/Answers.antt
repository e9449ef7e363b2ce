use Rattle.std.proofs.Common.{ℕ, List, IfOk, ap, length, subst, ◌∙◌}
use Rattle.checkout_core.specs.declared.event.Event.{Event}
use Rattle.checkout_core.specs.declared.path.Start.{Start}
use Rattle.checkout_paths.specs.Workers.{starts_of}
use Rattle.journal_audit.specs.Audits.{Spells, journal_of}
use Rattle.journal_run.proofs.Starts.{printable}
use Rattle.journal_run.proofs.journal.print_journal.Goals as goal

pub print_journal-requires : goal.print_journal-requires
print_journal-requires c =
    printable c.args.run.now _ _ _ (c.deref.ensures.value ∙ c.in_ok-starts.ensures ∙ ap starts_of c.as_slice.ensures) (ap length c.as_slice-2.ensures) c.deref-2.ensures.value c.requires.small

pub returns : goal.returns
returns c =
    let run = c.args.run.now in
    let spelled = λ (l : List Start) (k : ℕ) (h : List Event). IfOk c.print_journal.result (λ text. Spells text.items (journal_of l run.workers k h)) in
    subst (λ (h : List Event). spelled (starts_of run.plan.paths) (length run.plan.drivers) h) c.deref-2.ensures.value
    (subst (λ (k : ℕ). spelled (starts_of run.plan.paths) k c.deref-2.result.now) (ap length c.as_slice-2.ensures)
    (subst (λ (l : List Start). spelled l (length c.as_slice-2.result.now) c.deref-2.result.now) (c.deref.ensures.value ∙ c.in_ok-starts.ensures ∙ ap starts_of c.as_slice.ensures) c.print_journal.ensures))

use Rattle.std.proofs.Common.{sym, ap, ◌∙◌, Option, Some, subst}
use Rattle.journal_run.specs.declared.words.JournalTask.{JournalTask}
use Rattle.journal_run.specs.Ends.{Ends}
use Rattle.journal_run.proofs.run.obey.Goals as goal

pub returns-in-Some-Rehearsal-clause-ends : goal.returns-in-Some-Rehearsal-clause-ends
returns-in-Some-Rehearsal-clause-ends g c =
    let told = g.B.Blob.told c.args.text.now in
    let text = g.B.Blob.seen c.args.text.now in
    subst (λ (o : Option JournalTask). Ends o told text text (g.O.Sink.seen c.args.out.now) (g.O.Sink.seen c.show_journal.new.out) c.show_journal.result)
    (ap Some (sym c.in-Some-Rehearsal.field-0-is) ∙ c.in-Some-Rehearsal.ensures.task) (c.show_journal.ensures told text)

use Rattle.std.proofs.Common.{◌+◌, ◌∙◌, arith}
use Rattle.byte_path.specs.Characters.{space}
use Rattle.journal_audit.specs.Reading.{parts}
use Rattle.journal_audit.proofs.Steps.{events_none, events_at}
use Rattle.journal_audit.proofs.judge.audit_events.Goals as goal

pub returns-in_default-event_of : goal.returns-in_default-event_of
returns-in_default-event_of c =
    c.end.ensures
    ∙ events_none c.lines.run.state c.lines.run.wrong c.lines.events (c.args.first + c.lines.events) c.lines.rest.now c.in-Some.row.now c.in-Some.behind.now
    c.is_end.result c.is_empty.result c.in-Some.ensures.0 (c.in_default-event_of.ensures (parts space c.in-Some.row.now) c.words_in-words.ensures)
    (c.is_end.ensures (parts space c.in-Some.row.now) c.words_in-words.ensures) c.is_empty.ensures
    ∙ c.lines.invariant.same

pub lines-preserved : goal.lines-preserved
lines-preserved c = record {
  few = omega (arith, c.lines.invariant.few, c.in-Some.ensures.1);
  same =
      events_at c.lines.run.state c.lines.run.wrong c.lines.events c.args.first c.take.new.self.state c.take.new.self.wrong c.lines.rest.now c.in-Some.row.now
      c.in-Some.behind.now c.in-Some-event_of.event c.in-Some.ensures.0 (c.in-Some-event_of.ensures (parts space c.in-Some.row.now) c.words_in-words.ensures)
      c.take.ensures.state c.take.ensures.wrong
      ∙ c.lines.invariant.same;
}

use Rattle.std.proofs.Common.{sym, ap, ◌∙◌}
use Rattle.exit_status.specs.Status.{number_of}
use Rattle.journal_run.proofs.Ends.{number_few, done, illegal, unreadable, cut_off, out_of_memory, read_fault, unused, nothing, complete}
use Rattle.journal_run.proofs.run.journal_run.Goals as goal

pub returns-clause-printed : goal.returns-clause-printed
returns-clause-printed g c seed paths is n = done _ _ _ _ _ _ _ _ c.obey.ensures.ends is (sym c.number.ensures ∙ n)

pub returns-clause-legal : goal.returns-clause-legal
returns-clause-legal g c is n = done _ _ _ _ _ _ _ _ c.obey.ensures.ends is (sym c.number.ensures ∙ n)

pub returns-clause-illegal : goal.returns-clause-illegal
returns-clause-illegal g c n = illegal _ _ _ _ _ _ _ c.obey.ensures.ends (sym c.number.ensures ∙ n)

pub returns-clause-usage : goal.returns-clause-usage
returns-clause-usage g c = (
  λ n. unused _ _ _ _ _ _ _ c.obey.ensures.ends (sym c.number.ensures ∙ n),
  λ none. c.number.ensures ∙ ap number_of (nothing _ _ _ _ _ _ _ c.obey.ensures.ends none).0,
)

pub returns-clause-unreadable : goal.returns-clause-unreadable
returns-clause-unreadable g c n = unreadable _ _ _ _ _ _ _ c.obey.ensures.ends (sym c.number.ensures ∙ n)

pub returns-clause-cut_off : goal.returns-clause-cut_off
returns-clause-cut_off g c form is n = cut_off _ _ _ _ _ _ _ _ c.obey.ensures.ends is (sym c.number.ensures ∙ n)

pub returns-clause-out_of_memory : goal.returns-clause-out_of_memory
returns-clause-out_of_memory g c n = out_of_memory _ _ _ _ _ _ _ c.obey.ensures.ends (sym c.number.ensures ∙ n)

pub returns-clause-read_fault : goal.returns-clause-read_fault
returns-clause-read_fault g c n = read_fault _ _ _ _ _ _ _ c.obey.ensures.ends (sym c.number.ensures ∙ n)

pub returns-clause-number : goal.returns-clause-number
returns-clause-number g c = rw c.number.ensures (number_few _ _ _ _ _ _ _ c.obey.ensures.ends)

pub returns-clause-unasked : goal.returns-clause-unasked
returns-clause-unasked g c none = let idle = nothing _ _ _ _ _ _ _ c.obey.ensures.ends none in (idle.1, idle.2)

pub returns-clause-complete : goal.returns-clause-complete
returns-clause-complete g c form is read written = complete _ _ _ _ _ _ _ _ _ c.obey.ensures.ends is c.number.ensures read written

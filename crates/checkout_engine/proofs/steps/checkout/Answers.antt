use Rattle.std.proofs.Common.{None}
use Rattle.checkout_engine.proofs.Completeness.{finishes}
use Rattle.checkout_engine.proofs.Headline.{leaves_headline}
use Rattle.checkout_engine.proofs.SmallRuns.{whole_end}
use Rattle.checkout_engine.proofs.steps.checkout.Goals as goal

pub returns-clause-whole : goal.returns-clause-whole
returns-clause-whole g c =
    whole_end c.drivers_are_in_use.ensures c.closed_paths_have_causes.ensures c.a_history_is_short.ensures _ _ _ _ _ c.do_steps.result c.requires c.do_steps.ensures.verdicts (c.do_steps.ensures.ends (record { written = None; faults = 0 }))

pub returns-clause-headline : goal.returns-clause-headline
returns-clause-headline g c = λ sink.
    leaves_headline c.drivers_are_in_use.ensures c.a_history_keeps_its_size.ensures c.own_entries_tell_what_is_in_hand.ensures c.closed_paths_have_causes.ensures _ _ _ _ _ c.do_steps.result (c.do_steps.ensures.ends sink)

pub returns-clause-complete : goal.returns-clause-complete
returns-clause-complete g c = λ sink.
    finishes ((c.one_reading.ensures, c.index_has_no_fault.ensures), (c.paths_are_ordered.ensures, c.equal_outputs_give_equal_talks.ensures)) _ _ _ _ _ c.do_steps.result (c.do_steps.ensures.ends sink)

use Rattle.checkout_engine.proofs.show.show_plan.Goals as goal

pub returns-clause-shows : goal.returns-clause-shows
returns-clause-shows g c = (c.read_plan-planned.result, c.read_plan-planned.ensures.reads, c.plans_say_text.ensures.plan c.read_plan-planned.result _ _ _ c.report_plan.ensures)

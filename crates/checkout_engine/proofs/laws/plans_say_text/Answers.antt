use Rattle.checkout_engine.proofs.SaidText.{plan_in}
use Rattle.checkout_engine.proofs.laws.plans_say_text.Goals as goal

pub returns : goal.returns
returns c = record { plan = plan_in c.text_is_plan.ensures }

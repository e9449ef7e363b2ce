use Rattle.plan_report.proofs.RowPlaces.{text_rows}
use Rattle.plan_report.proofs.laws.text_is_plan.Goals as goal

pub returns : goal.returns
returns c = record { rows = text_rows c.fronts_grow.ensures c.reports_are_rows.ensures }

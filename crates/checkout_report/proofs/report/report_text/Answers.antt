use Rattle.checkout_report.proofs.RowPlaces.{text_of}
use Rattle.checkout_report.proofs.report.report_text.Goals as goal

pub returns : goal.returns
returns c = text_of c.reports_are_rows.ensures _ _ _ c.joined_rows.ensures

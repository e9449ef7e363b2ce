use Rattle.run_report.proofs.Lines.{text, lines}
use Rattle.run_report.proofs.laws.first_rows_are_lines.Goals as goal

pub returns : goal.returns
returns c = record {
  text = text c.reports_are_rows.ensures;
  lines = lines c.reports_are_rows.ensures c.first_rows_are_a_part.ensures;
}

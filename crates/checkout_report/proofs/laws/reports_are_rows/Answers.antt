use Rattle.checkout_report.proofs.RowPlaces.{rows_length, path_at, done_past_paths, done_past_verdicts, text_rows, rows_end_lines, mark_says}
use Rattle.checkout_report.proofs.laws.reports_are_rows.Goals as goal

pub returns : goal.returns
returns c = record {
  count = rows_length;
  path_at = path_at;
  done_past_paths = done_past_paths;
  done_past_verdicts = done_past_verdicts;
  text = text_rows c.fronts_grow.ensures;
  lines = rows_end_lines;
  marks = mark_says;
}

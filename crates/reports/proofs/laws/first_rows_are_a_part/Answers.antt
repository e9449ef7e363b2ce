use Rattle.reports.proofs.Joined.{joined_more}
use Rattle.reports.proofs.FirstRows.{within, part}
use Rattle.reports.proofs.laws.first_rows_are_a_part.Goals as goal

pub returns : goal.returns
returns c = record { within = within; part = part; more = joined_more }

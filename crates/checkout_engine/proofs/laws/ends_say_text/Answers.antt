use Rattle.checkout_engine.proofs.SaidText.{end_in}
use Rattle.checkout_engine.proofs.laws.ends_say_text.Goals as goal

pub returns : goal.returns
returns c = record { end = end_in c.first_rows_are_lines.ensures }

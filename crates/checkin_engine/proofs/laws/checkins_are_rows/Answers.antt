use Rattle.checkin_engine.proofs.RowPlaces.{rows_length, text_rows}
use Rattle.checkin_engine.proofs.laws.checkins_are_rows.Goals as goal

pub returns : goal.returns
returns c = record { count = rows_length; text = text_rows }

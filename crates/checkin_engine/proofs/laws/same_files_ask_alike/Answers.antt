use Rattle.checkin_engine.proofs.SameFiles.{same_files_ask_alike}
use Rattle.checkin_engine.proofs.laws.same_files_ask_alike.Goals as goal

pub returns : goal.returns
returns c = same_files_ask_alike

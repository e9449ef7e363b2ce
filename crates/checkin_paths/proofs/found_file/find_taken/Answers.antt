use Rattle.std.proofs.Common.{sym, subst}
use Rattle.checkin_paths.specs.Looks.{IsUnfailedTake}
use Rattle.checkin_paths.proofs.Found.{on_err, unfailed_long}
use Rattle.checkin_paths.proofs.found_file.find_taken.Goals as goal

pub returns-in-Ok-Some-clause-unfailed : goal.returns-in-Ok-Some-clause-unfailed
returns-in-Ok-Some-clause-unfailed g c = on_err _ _ (IsUnfailedTake c.args.taken) c.find_there.result (subst IsUnfailedTake (sym c.in-Ok-Some.is) tt)

pub returns-in-TooLong-clause-unfailed : goal.returns-in-TooLong-clause-unfailed
returns-in-TooLong-clause-unfailed g c = on_err _ _ (IsUnfailedTake c.args.taken) c.find_there-in-TooLong.result (unfailed_long c.args.taken c.in-Err.fault c.in-Err.is c.in-TooLong.is)

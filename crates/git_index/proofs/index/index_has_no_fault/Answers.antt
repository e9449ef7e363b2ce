use Rattle.std.proofs.Common.{ap}
use Rattle.std.specs.Result.{result_err}
use Rattle.git_index.proofs.AgainWhole.{index_again}
use Rattle.git_index.proofs.index.index_has_no_fault.Goals as goal

pub returns : goal.returns
returns c = λ bytes es is. ap result_err (index_again bytes es is)

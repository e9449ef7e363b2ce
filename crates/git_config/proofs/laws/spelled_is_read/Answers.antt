use Rattle.git_config.proofs.ItemsAgain.{config_again}
use Rattle.git_config.proofs.laws.spelled_is_read.Goals as goal

pub returns : goal.returns
returns c = config_again

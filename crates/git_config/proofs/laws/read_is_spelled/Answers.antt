use Rattle.git_config.proofs.ItemsTaken.{config_takes}
use Rattle.git_config.proofs.laws.read_is_spelled.Goals as goal

pub returns : goal.returns
returns c = config_takes

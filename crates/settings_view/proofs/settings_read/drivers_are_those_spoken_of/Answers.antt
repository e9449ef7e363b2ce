use Rattle.settings_view.proofs.Rising.{any_name}
use Rattle.settings_view.proofs.settings_read.drivers_are_those_spoken_of.Goals as goal

pub returns : goal.returns
returns c = any_name c.args.config.now

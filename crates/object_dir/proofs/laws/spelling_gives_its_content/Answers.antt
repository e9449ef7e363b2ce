use Rattle.object_dir.proofs.Spellings.{object_of-spelled}
use Rattle.object_dir.proofs.laws.spelling_gives_its_content.Goals as goal

pub returns : goal.returns
returns c = object_of-spelled c.one_decimal.ensures c.args.content.now c.requires

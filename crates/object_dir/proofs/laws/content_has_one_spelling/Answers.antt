use Rattle.object_dir.proofs.Spellings.{spelled-object_of}
use Rattle.object_dir.proofs.laws.content_has_one_spelling.Goals as goal

pub returns : goal.returns
returns c = λ content is. spelled-object_of c.one_decimal.ensures c.args.stored.now c.args.name.now content is

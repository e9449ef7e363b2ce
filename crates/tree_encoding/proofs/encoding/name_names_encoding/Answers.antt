use Rattle.tree_encoding.proofs.Names.{named-name}
use Rattle.tree_encoding.proofs.encoding.name_names_encoding.Goals as goal

pub returns : goal.returns
returns c = named-name c.args.encoding

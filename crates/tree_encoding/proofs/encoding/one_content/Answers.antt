use Rattle.tree_encoding.proofs.OneContent.{one_content}
use Rattle.tree_encoding.proofs.encoding.one_content.Goals as goal

pub returns : goal.returns
returns c = one_content

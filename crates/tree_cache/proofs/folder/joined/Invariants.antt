use Rattle.std.proofs.Common.{◌≡◌, take}
use Rattle.tree_cache.specs.Folders.{nodes_text}
use Rattle.tree_cache.proofs.folder.joined.Given as goal

abbrev pub invariant-loop-node : goal.invariant-loop-node
invariant-loop-node l = l.text.items ≡ nodes_text (take l.node-index l.nodes)

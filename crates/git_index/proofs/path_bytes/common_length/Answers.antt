use Rattle.git_index.proofs.Changed.{ends_path}
use Rattle.git_index.proofs.path_bytes.common_length.Goals as goal

pub returns-else-same-path-clause-value : goal.returns-else-same-path-clause-value
returns-else-same-path-clause-value c =
    ends_path c.args.last.now c.args.path.now c.loop-same.same c.loop-same.invariant c.if-same-path.false

use Rattle.std.proofs.Common.{arith}
use Rattle.byte_path.proofs.QuotedPaths.{unquoted-quoted}
use Rattle.byte_path.proofs.unquoted.quoted_path_reads_back.Goals as goal

pub returns : goal.returns
returns c = unquoted-quoted c.args.path.now c.args.behind.now (λ i. omega (arith, c.type_inv.path i)) c.requires

use Rattle.std.proofs.Common.{arith}
use Rattle.std.proofs.lemmas.Simd.{length-chunk}
use Rattle.eol_convert.proofs.windows.take_window.Goals as goal

pub first_lf-found-requires : goal.first_lf-found-requires
first_lf-found-requires c = length-chunk c.args.from 32 c.args.content.now (omega arith)

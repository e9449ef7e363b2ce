use Rattle.std.proofs.Common.{◌≡◌, ◌+◌, length, arith}
use Rattle.std.proofs.lemmas.Simd.{take_more_put_chunk, length-chunk, length-put_chunk}
use lib.Lanes.{chunk}
use Rattle.eol_convert.proofs.windows.copy_window.Goals as goal

pub returns : goal.returns
returns c =
    let a = c.args in
    let v = chunk a.from 32 a.content.now in
    let long : length v ≡ 32 = length-chunk a.from 32 a.content.now (omega arith) in record {
      written = take_more_put_chunk a.at a.block.now v (a.at + 32) (omega arith) (omega arith);
      len = length-put_chunk a.at a.block.now v;
    }

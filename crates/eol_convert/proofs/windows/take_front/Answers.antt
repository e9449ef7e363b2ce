use Rattle.std.proofs.Common.{arith}
use Rattle.eol_convert.proofs.Copies.{front_taken}
use Rattle.eol_convert.proofs.windows.take_front.Goals as goal

pub returns-clause-written : goal.returns-clause-written
returns-clause-written c =
    let a = c.args in
    front_taken a.block.now c.copy_with_cr.new.block a.content.now a.at a.from a.first c.crs_before-more.result (omega (arith, c.requires.room)) c.requires.room.0
    c.requires.first.0 c.requires.first.1 c.crs_before-more.ensures c.copy_with_cr.ensures.written

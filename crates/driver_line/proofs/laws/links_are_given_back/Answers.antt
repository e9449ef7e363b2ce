use Rattle.std.proofs.Common.{◌≡◌, ◌+◌, ap, arith}
use Rattle.driver_line.specs.Lines.{weight}
use Rattle.driver_line.proofs.Links.{out_after_all}
use Rattle.driver_line.proofs.laws.links_are_given_back.Goals as goal

pub returns : goal.returns
returns c paths v w es none ended run =
    let k : w.starter.out + weight v.session ≡ v.starter.out + weight w.session = out_after_all paths v w es run in
    let a : weight v.session ≡ 0 = ap weight none in
    let b : weight w.session ≡ 0 = ap weight ended in
    omega (arith, k, a, b)

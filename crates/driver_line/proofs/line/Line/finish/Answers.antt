use Rattle.std.proofs.Common.{◌≡◌, Some, sym, ap, ◌∙◌}
use Rattle.driver_line.specs.Lines.{LineView}
use Rattle.driver_line.proofs.Ends.{finished}
use Rattle.driver_line.proofs.line.Line.finish.Goals as goal

pub returns-in-Some-clause-ended : goal.returns-in-Some-clause-ended
returns-in-Some-clause-ended g c s is =
    let k = c.in-Some.is in
    let some : Some c.in-Some.session ≡ Some s = sym k ∙ (c.take.ensures.value ∙ (ap (λ (v : LineView). v.session) c.self.view_is ∙ is)) in
    let one : c.in-Some.session ≡ s = cc some in
    finished c.in-Some.session s _ _ _ _ (g.S.Link.Link.seen c.shut-link.result) one (ap (λ (v : LineView). v.starter) c.self.view_is)
    c.take.ensures.after c.shut-link.ensures c.end.ensures.out c.end.ensures.back

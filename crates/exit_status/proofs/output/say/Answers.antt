use Rattle.std.proofs.Common.{sym, subst}
use Rattle.exit_status.specs.declared.status.ExitStatus.{ExitStatus}
use Rattle.exit_status.specs.Said.{Says, Unsaid}
use Rattle.exit_status.proofs.Pieces.{says_piece}
use Rattle.exit_status.proofs.output.say.Goals as goal

pub returns : goal.returns
returns g c =
    let old = g.O.Sink.seen c.args.out.now in
    let new = g.O.Sink.seen c.write.new.self in
    subst (λ (s : ExitStatus). Says Unsaid c.args.text.now c.args.status old new s) (sym c.said.ensures) (says_piece _ c.args.text.now c.args.status old new c.write.result c.write.ensures)

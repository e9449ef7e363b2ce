use Rattle.std.proofs.Common.{◌+◌, [], length}
use Rattle.driver_line.specs.Lines.{weight}
use Rattle.driver_desk.specs.InRounds.{IsInRounds, Goes}
use Rattle.driver_desk.specs.Late.{cards_of}
use Rattle.driver_desk.specs.Rounds.{TurnsBy}
use Rattle.driver_desk.proofs.served.Serving.rounds.Given as goal

abbrev pub invariant-loop-self : goal.invariant-loop-self
invariant-loop-self g l = record {
  on : IsInRounds l.self (g.C.Recorder.seen l.recorder) [];
  turns : TurnsBy l.self.line.session l.self.late.table.turns;
  goes : Goes [] [] l.initial.self (g.C.Recorder.seen l.initial.recorder) l.self (g.C.Recorder.seen l.recorder);
}

abbrev pub decreases-loop-self : goal.decreases-loop-self
decreases-loop-self g l = weight l.self.line.session + length (cards_of l.self.late)

use Rattle.std.proofs.Common.{◌≡◌, ◌⊎◌, ◌<◌, length}
use Rattle.driver_desk.specs.InRounds.{IsInRounds, Goes}
use Rattle.driver_desk.specs.Late.{cards_of, names_at}
use Rattle.driver_desk.proofs.served.Serving.redo_all.Given as goal

abbrev pub invariant-loop-self : goal.invariant-loop-self
invariant-loop-self g l = record {
  on : IsInRounds l.self (g.C.Recorder.seen l.recorder) (names_at l.self.late);
  goes : Goes (names_at l.initial.self.late) (names_at l.self.late) l.initial.self (g.C.Recorder.seen l.initial.recorder) l.self (g.C.Recorder.seen l.recorder);
  fewer : (l.self ≡ l.initial.self) ⊎ (length (cards_of l.self.late) < length (cards_of l.initial.self.late));
}

abbrev pub decreases-loop-self : goal.decreases-loop-self
decreases-loop-self g l = length (cards_of l.self.late)

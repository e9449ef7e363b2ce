use Rattle.std.proofs.Common.{ℕ, List, length}
use Rattle.checkout_core.specs.Talks.{Talk}
use Rattle.driver_desk.specs.On.{Grows}
use Rattle.driver_desk.specs.Progress.{AreClosings, IsBare}
use Rattle.driver_desk.specs.Late.{AreIdle, KeepsNames, StaysUnlisted, cards_of}
use Rattle.driver_desk.specs.Places.{AreLost}
use Rattle.driver_desk.specs.Rounds.{AreReady, paths_of}
use Rattle.driver_desk.proofs.served.close_late.Given as goal

abbrev pub invariant-loop-work : goal.invariant-loop-work
invariant-loop-work g l = record {
  ready : AreReady (g.C.Recorder.seen l.initial.recorder).standing (cards_of l.late);
  closed : AreClosings IsBare (g.C.Recorder.seen l.initial.recorder).given (g.C.Recorder.seen l.recorder).given;
  grows : Grows (g.C.Recorder.seen l.initial.recorder) (g.C.Recorder.seen l.recorder);
  names : KeepsNames l.initial.late l.late;
  idle : (q : ℕ) → AreIdle q l.initial.late → AreIdle q l.late;
  turns : StaysUnlisted l.initial.late l.late;
  next : (rest : List ℕ) (first : ℕ) (t : Talk)
      → AreLost (g.C.Recorder.seen l.initial.recorder).standing (g.C.Recorder.seen l.initial.recorder).given (paths_of (cards_of l.initial.late)) rest first t
      → AreLost (g.C.Recorder.seen l.recorder).standing (g.C.Recorder.seen l.recorder).given (paths_of (cards_of l.late)) rest first t;
}

abbrev pub decreases-loop-work : goal.decreases-loop-work
decreases-loop-work g l = length (cards_of l.late)

-- A desk in rounds, and how a call changes it. No public contract speaks of this.
use Rattle.std.specs.Prelude.{◌≡◌, ℕ, List}
use Rattle.delay_table.specs.Table.{AreApart}
use Rattle.driver_line.specs.Lines.{LineView, Paths}
use Rattle.driver_desk.specs.declared.served.Serving.{Serving}
use Rattle.driver_desk.specs.Late.{KeepsNames, FitsNames, cards_of}
use Rattle.driver_desk.specs.Noting.{IsNotes}
use Rattle.driver_desk.specs.On.{Grows, late_paths}
use Rattle.driver_desk.specs.Places.{InRoundsAt}
use Rattle.driver_desk.specs.Recorders.{RecorderSeen}
use Rattle.driver_desk.specs.Rounds.{AreReady, FitLabels, IsNext, RoundsBy}
use Rattle.driver_desk.specs.Serving.{Given}

module _ {S K B L F : Type 0} where
  -- The invariant: the late cards wait, and of the listed paths `turns` are still to be asked for again.
  pub record IsInRounds (d : Serving S K B L) (r : RecorderSeen F) (turns : List ℕ) : Type 0 where
    pub noting : IsNotes r d.talk
    pub driver : r.standing.driver ≡ d.seat.driver
    pub required : r.standing.required ≡ d.seat.required
    pub next : IsNext d.line.session
    pub ready : AreReady r.standing (cards_of d.late)
    pub apart : AreApart (late_paths d)
    pub state : InRoundsAt r.standing r.given d.line.session (late_paths d) turns

  -- The rounds go on: of the listed paths `turns` were still to be asked for again, and now those of `turns1` are. The
  -- seat and the names of the table stay.
  pub record Goes (turns turns1 : List ℕ) (d : Serving S K B L) (r : RecorderSeen F) (e : Serving S K B L)
      (s : RecorderSeen F) : Type 0 where
    pub seat : e.seat ≡ d.seat
    pub grows : Grows r s
    pub names : KeepsNames d.late e.late
    pub labels : (paths : Paths) → FitLabels paths (cards_of d.late) → FitLabels paths (cards_of e.late)
    pub talk : (paths : Paths) (line0 : LineView) (given0 : List Given) (asked : List ℕ)
        → FitLabels paths (cards_of d.late) → FitsNames paths d.late
        → RoundsBy d.seat.driver paths line0 given0 asked d.line.session d.line r.given (late_paths d) turns
        → RoundsBy d.seat.driver paths line0 given0 asked e.line.session e.line s.given (late_paths e) turns1

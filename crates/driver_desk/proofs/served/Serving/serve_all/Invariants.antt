use Rattle.std.proofs.Common.{◌≡◌, ◌++◌, List, [], map, length}
use Rattle.convert_plan.specs.Card.{card_seen}
use Rattle.driver_line.specs.Lines.{Paths}
use Rattle.driver_desk.specs.Added.{AddsWorks}
use Rattle.driver_desk.specs.Late.{AreIdle}
use Rattle.driver_desk.specs.On.{IsOn, Keeps, Moves}
use Rattle.driver_desk.specs.Works.{WorkSeen, AreNew, AreRead, FitAll, asked_in, cards_in, card_paths}
use Rattle.driver_desk.proofs.served.Serving.serve_all.Given as goal

abbrev pub invariant-loop-card : goal.invariant-loop-card
invariant-loop-card g l = record {
  on : IsOn l.self (g.C.Recorder.seen l.recorder) [] (card_paths (map (λ c. card_seen g.B.Blob.told g.B.Blob.seen g.L.Leaf.seen c) l.cards.items));
  new : AreNew (map (λ c. card_seen g.B.Blob.told g.B.Blob.seen g.L.Leaf.seen c) l.cards.items);
  idle : AreIdle l.place l.self.late;
  keeps : Keeps l.place l.initial.self (g.C.Recorder.seen l.initial.recorder) l.self (g.C.Recorder.seen l.recorder);
  serves : (works : List WorkSeen)
      × (map (λ c. card_seen g.B.Blob.told g.B.Blob.seen g.L.Leaf.seen c) l.initial.cards.items ≡ cards_in works ++ map (λ c. card_seen g.B.Blob.told g.B.Blob.seen g.L.Leaf.seen c) l.cards.items)
      × (length works ≡ l.place) × AreRead works
      × ((paths : Paths) → FitAll paths works → Moves paths [] (asked_in works) [] l.initial.self (g.C.Recorder.seen l.initial.recorder) l.self (g.C.Recorder.seen l.recorder))
      × AddsWorks works (g.C.Recorder.seen l.initial.recorder).given (g.C.Recorder.seen l.recorder).given;
}

abbrev pub decreases-loop-card : goal.decreases-loop-card
decreases-loop-card g l = length l.cards.items

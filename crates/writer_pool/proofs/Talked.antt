-- The talk of a driver, of other notes and of other leaves.
use Rattle.std.proofs.Common.{◌≡◌, ℕ, List, sym, ◌∙◌}
use Rattle.edge_kit.specs.Seen.{LeafSeen}
use Rattle.edge_kit.specs.Starters.{StarterSeen}
use Rattle.checkout_core.specs.declared.event.Event.{Event}
use Rattle.driver_line.specs.Lines.{Paths}
use Rattle.writer_pool.specs.Pools.{HasTalked}

-- the same talk told of other notes that are equal, and of leaves that were closed before
pub talked_of : (d : ℕ) (paths : Paths) (asked : List ℕ) (old new : StarterSeen) (xs ys : List Event)
    (P Q : ℕ → LeafSeen → Type 0) → xs ≡ ys → ((p : ℕ) (leaf : LeafSeen) → Q p leaf → P p leaf)
    → HasTalked d paths asked old new xs P → HasTalked d paths asked old new ys Q
talked_of d paths asked old new xs ys P Q same within h = record {
  items = h.items;
  full = h.full;
  exchanges = h.exchanges;
  results = h.results;
  kept = h.kept;
  fills = h.fills;
  starts = h.starts;
  links = h.links;
  stays = h.stays;
  talk = h.talk;
  whole = h.whole;
  same = h.same;
  noted_is = sym same ∙ h.noted_is;
  answers = λ p leaf ends. h.answers p leaf (within p leaf ends);
}

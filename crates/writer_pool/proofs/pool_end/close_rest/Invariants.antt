use Rattle.std.proofs.Common.{◌≡◌, ◌-◌, ◌*◌, ◌<◌, ℕ, List, length}
use Rattle.edge_kit.specs.Seen.{LeafSeen}
use Rattle.checkout_core.specs.declared.path.Start.{Start}
use Rattle.checkout_core.specs.Actors.{own_entries}
use Rattle.checkout_core.specs.Notes.{notes}
use Rattle.checkout_book.specs.Sights.{sight}
use Rattle.checkout_book.specs.Shelves.{plan_of}
use Rattle.writer_pool.specs.Ends.{IsQuiet}
use Rattle.writer_pool.specs.Sealing.{EndsOn}
use Rattle.writer_pool.proofs.pool_end.close_rest.Given as goal

abbrev pub invariant-loop-card : goal.invariant-loop-card
invariant-loop-card g l = record {
  quiet : IsQuiet (sight g.B.Blob.told g.B.Blob.seen g.L.Leaf.seen) l.ended.shelf;
  plan : plan_of l.ended.shelf ≡ plan_of l.fn.ended.shelf;
  seals : (q p : ℕ) (leaf : LeafSeen)
      → EndsOn (sight g.B.Blob.told g.B.Blob.seen g.L.Leaf.seen) l.ended.shelf q p leaf
      → EndsOn (sight g.B.Blob.told g.B.Blob.seen g.L.Leaf.seen) l.fn.ended.shelf q p leaf;
  notes : (starts : List Start) (d : ℕ) → notes starts d l.ended.shelf.events.items
      ≡ notes starts d l.fn.ended.shelf.events.items;
  own : (starts : List Start) (workers n : ℕ) → 0 < n → own_entries starts workers n l.ended.shelf.events.items
      ≡ own_entries starts workers n l.fn.ended.shelf.events.items;
}

abbrev pub decreases-loop-card : goal.decreases-loop-card
decreases-loop-card g l = 9 * length (plan_of l.ended.shelf).starts.items - length l.ended.shelf.events.items

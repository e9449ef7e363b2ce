use Rattle.std.proofs.Common.{List, length, map, sym, ap, ◌∙◌, subst, arith}
use Rattle.checkout_core.specs.declared.event.Event.{Event}
use Rattle.checkout_book.specs.Sights.{sight}
use Rattle.checkout_book.specs.Shelves.{cards_of}
use Rattle.checkout_book.specs.Ending.{parts_in}
use Rattle.writer_pool.specs.Ends.{IsRun, AreEnds}
use Rattle.writer_pool.specs.Sealing.{EndsAt, leaf_at}
use Rattle.writer_pool.proofs.Dealt.{fitting}
use Rattle.writer_pool.proofs.Outcomes.{completed, ran, ends_are, seals_there, paths_count, slots_count, parts_fewer}
use Rattle.writer_pool.proofs.pool_end.leave.Goals as goal

pub verdicts_of-verdicts-requires-clause-complete :
    goal.verdicts_of-verdicts-requires-clause-complete
verdicts_of-verdicts-requires-clause-complete g c =
    let r = c.requires.through in
    completed (sight g.B.Blob.told g.B.Blob.seen g.L.Leaf.seen) r.0 c.args.ended.shelf r.1

pub verdicts_of-verdicts-requires-clause-count : goal.verdicts_of-verdicts-requires-clause-count
verdicts_of-verdicts-requires-clause-count g c =
    let r = c.requires.through in
    paths_count (sight g.B.Blob.told g.B.Blob.seen g.L.Leaf.seen) c.a_history_keeps_its_size.ensures r.0
    c.args.ended.shelf r.1 ∙ r.2

pub apart-blobs-requires-clause-room : goal.apart-blobs-requires-clause-room
apart-blobs-requires-clause-room g c =
    let r = c.requires.through in
    let slots = slots_count (sight g.B.Blob.told g.B.Blob.seen g.L.Leaf.seen) c.a_history_keeps_its_size.ensures r.0
    c.args.ended.shelf r.1 in
    let fewer = parts_fewer c.args.ended.shelf.slots.items in
    let count = r.2 in
    omega (arith, ap length c.into_history_and_parts-history.ensures.parts, fewer, slots, c.requires.room.all_blobs, count)

pub apart-blobs-requires-clause-leaf_room : goal.apart-blobs-requires-clause-leaf_room
apart-blobs-requires-clause-leaf_room g c =
    let r = c.requires.through in
    let slots = slots_count (sight g.B.Blob.told g.B.Blob.seen g.L.Leaf.seen) c.a_history_keeps_its_size.ensures r.0
    c.args.ended.shelf r.1 in
    let fewer = parts_fewer c.args.ended.shelf.slots.items in
    let count = r.2 in
    omega (arith, ap length c.into_history_and_parts-history.ensures.parts, fewer, slots, c.requires.room.all_leaves, count)

pub returns-clause-run : goal.returns-clause-run
returns-clause-run g c d t =
    let see = sight g.B.Blob.told g.B.Blob.seen g.L.Leaf.seen in
    subst (λ (h : List Event). IsRun d.starts.items d.workers d.drivers h c.verdicts_of-verdicts.result.items)
    (sym c.into_history_and_parts-history.ensures.history)
    (ran see d c.args.ended.shelf c.verdicts_of-verdicts.result.items t c.verdicts_of-verdicts.ensures)

pub returns-clause-ends : goal.returns-clause-ends
returns-clause-ends g c d t pool dealt =
    let see = sight g.B.Blob.told g.B.Blob.seen g.L.Leaf.seen in
    let B = g.row.B.Denot in
    let L = g.row.L.Denot in
    let s = c.args.ended.shelf in
    let slots = slots_count see c.a_history_keeps_its_size.ensures d s t in
    let ends = ends_are see (record {
      takes = c.a_claim_takes_its_path.ensures;
      closes = c.a_close_closes_its_path.ensures;
      backs = c.a_path_that_is_handed_back_waits.ensures;
      keeps = c.a_note_keeps_paths_with_their_driver.ensures;
    }) c.a_verdict_is_what_is_told.ensures d s t (fitting d pool dealt) slots in
    let blobs = c.apart-blobs.ensures.blobs ∙ ap (map (λ (x : B × L). x.0)) c.into_history_and_parts-history.ensures.parts in
    let leaves = c.apart-blobs.ensures.leaves ∙ ap (map (λ (x : B × L). x.1)) c.into_history_and_parts-history.ensures.parts in
    subst (λ (h : List Event). AreEnds see d.starts.items h (cards_of d) 0 d.starts.items
    c.apart-blobs.result.0.items c.apart-blobs.result.1.items)
    (sym c.into_history_and_parts-history.ensures.history)
    (subst (λ (ls : List L). AreEnds see d.starts.items s.events.items (cards_of d) 0 d.starts.items
    c.apart-blobs.result.0.items ls) (sym leaves)
    (subst (λ (bs : List B). AreEnds see d.starts.items s.events.items (cards_of d) 0 d.starts.items bs
    (map (λ (x : B × L). x.1) (parts_in s.slots.items))) (sym blobs) ends))

pub returns-clause-seals : goal.returns-clause-seals
returns-clause-seals g c d t pool dealt q p leaf z =
    let see = sight g.B.Blob.told g.B.Blob.seen g.L.Leaf.seen in
    let B = g.row.B.Denot in
    let L = g.row.L.Denot in
    let s = c.args.ended.shelf in
    let slots = slots_count see c.a_history_keeps_its_size.ensures d s t in
    let leaves = c.apart-blobs.ensures.leaves ∙ ap (map (λ (x : B × L). x.1)) c.into_history_and_parts-history.ensures.parts in
    seals_there see (record {
      takes = c.a_claim_takes_its_path.ensures;
      closes = c.a_close_closes_its_path.ensures;
      backs = c.a_path_that_is_handed_back_waits.ensures;
      keeps = c.a_note_keeps_paths_with_their_driver.ensures;
    }) c.a_verdict_is_what_is_told.ensures d s t (fitting d pool dealt) slots q p leaf
    (subst (λ (ls : List L). EndsAt see d.starts.items s.events.items (leaf_at d.starts.items ls) q p leaf) leaves
    (subst (λ (h : List Event). EndsAt see d.starts.items h (leaf_at d.starts.items c.apart-blobs.result.1.items) q p
    leaf) c.into_history_and_parts-history.ensures.history z))

pub returns-clause-history : goal.returns-clause-history
returns-clause-history g c = c.into_history_and_parts-history.ensures.history

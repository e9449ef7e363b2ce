use Rattle.std.proofs.Common.{length, ◌∙◌}
use Rattle.checkout_book.specs.Sights.{sight}
use Rattle.writer_pool.proofs.Acting.{back_idle}
use Rattle.writer_pool.proofs.Quieting.{quieted, seals_own}
use Rattle.writer_pool.proofs.Noting.{noted_own, entries_own}
use Rattle.writer_pool.proofs.pool_end.end_all.Goals as goal

pub finish-ended-requires : goal.finish-ended-requires
finish-ended-requires g c =
    let see = sight g.B.Blob.told g.B.Blob.seen g.L.Leaf.seen in
    let r = c.requires in
    (r.0, back_idle see c.args.book r.0 0 (length c.args.passes.items) c.args.passes.items r.1, r.2, r.3)

pub close_rest-requires : goal.close_rest-requires
close_rest-requires g c =
    let see = sight g.B.Blob.told g.B.Blob.seen g.L.Leaf.seen in
    let r = c.requires in
    let ps = c.args.passes.items in
    quieted see c.a_claim_takes_its_path.ensures c.a_close_closes_its_path.ensures
    c.a_path_that_is_handed_back_waits.ensures c.a_note_keeps_paths_with_their_driver.ensures
    c.a_desk_that_is_through_keeps_no_path.ensures c.args.book r.0 (length ps) ps c.finish-ended.result.shelf r.1
    r.2 r.3 (c.finish-ended.ensures r.0 (back_idle see c.args.book r.0 0 (length ps) ps r.1))

pub returns-clause-through : goal.returns-clause-through
returns-clause-through g c d back long =
    let see = sight g.B.Blob.told g.B.Blob.seen g.L.Leaf.seen in
    let ps = c.args.passes.items in
    let f = c.finish-ended.ensures d (back_idle see c.args.book d 0 (length ps) ps back) in
    record {
      quiet = c.close_rest.ensures.quiet;
      plan = c.close_rest.ensures.plan ∙ f.plan;
      none = c.close_rest.ensures.none;
    }

pub returns-clause-seals : goal.returns-clause-seals
returns-clause-seals g c d back q s at p leaf z =
    let see = sight g.B.Blob.told g.B.Blob.seen g.L.Leaf.seen in
    let ps = c.args.passes.items in
    let f = c.finish-ended.ensures d (back_idle see c.args.book d 0 (length ps) ps back) in
    seals_own see c.args.book d (length ps) ps c.finish-ended.result.shelf back f q s at p leaf
    (c.close_rest.ensures.seals q p leaf z)

pub returns-clause-notes : goal.returns-clause-notes
returns-clause-notes g c d back q s at =
    let see = sight g.B.Blob.told g.B.Blob.seen g.L.Leaf.seen in
    let ps = c.args.passes.items in
    let f = c.finish-ended.ensures d (back_idle see c.args.book d 0 (length ps) ps back) in
    c.close_rest.ensures.notes d.starts.items q
    ∙ noted_own see c.notes_are_own_entries.ensures d ps c.finish-ended.result.shelf f q s at

pub returns-clause-own : goal.returns-clause-own
returns-clause-own g c d back n s more at =
    let see = sight g.B.Blob.told g.B.Blob.seen g.L.Leaf.seen in
    let ps = c.args.passes.items in
    let f = c.finish-ended.ensures d (back_idle see c.args.book d 0 (length ps) ps back) in
    c.close_rest.ensures.own d.starts.items d.workers n more
    ∙ entries_own see d ps c.finish-ended.result.shelf f n s at

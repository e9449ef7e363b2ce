use Rattle.checkout_book.specs.Sights.{sight}
use Rattle.bench_books.proofs.Working.{by_number, may_close, after_none, after_card}
use Rattle.bench_books.proofs.work.close_one.Goals as goal

pub claim-requires : goal.claim-requires
claim-requires g c =
    let r = c.requires in
    (r.0, r.1, r.2.0, by_number _ r.0 _ r.1 _ r.2.0 r.2.1)

pub returns-in_default : goal.returns-in_default
returns-in_default g c d made has =
    let t = c.in_default.ensures d made has.0 (by_number _ d _ made _ has.0 has.1) in
    after_none _ d _ made _ _ has t.0 t.1

pub close-requires : goal.close-requires
close-requires g c =
    let see = sight g.B.Blob.told g.B.Blob.seen g.L.Leaf.seen in
    let r = c.requires in
    let t = c.in-Some.ensures r.0 r.1 r.2.0 (by_number _ r.0 _ r.1 _ r.2.0 r.2.1) in (
      r.0,
      r.1,
      t.0,
      by_number _ r.0 _ r.1 _ t.0 t.1.turn.pass,
      may_close c.a_path_in_hand_may_be_closed.ensures see _ r.0 _ r.1 _ _ r.2.0 t.0 _ t.1,
      c.a_claimed_card_is_out.ensures _ _ t.1.planned,
    )

pub returns : goal.returns
returns g c d made has =
    let see = sight g.B.Blob.told g.B.Blob.seen g.L.Leaf.seen in
    let t = c.in-Some.ensures d made has.0 (by_number _ d _ made _ has.0 has.1) in
    let k = c.close.ensures d made t.0 (by_number _ d _ made _ t.0 t.1.turn.pass) in
    after_card see _ d _ made c.args.pass.now c.claim.new.pass c.close.new.pass has t.0 _ _ _ t.1 k

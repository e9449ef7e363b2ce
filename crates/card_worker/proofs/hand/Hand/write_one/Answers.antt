use Rattle.std.proofs.Common.{[], subst, arith}
use Rattle.checkout_book.specs.Sights.{sight}
use Rattle.card_worker.specs.Holding.{IsHand}
use Rattle.card_worker.proofs.FewLemmas.{none_of, both_none}
use Rattle.card_worker.proofs.Hands.{to_be_written}
use Rattle.card_worker.proofs.hand.Hand.write_one.Goals as goal

pub claim_next-requires-after_bounds : goal.claim_next-requires-after_bounds
claim_next-requires-after_bounds g c κs within =
    let see = sight g.B.Blob.told g.B.Blob.seen g.L.Leaf.seen in
    let r = c.requires.hand in
    let self = c.args.self.now in (
      r.0,
      [],
      subst (IsHand see c.args.book.now r.0 self.pass) (both_none self.cards self.next c.requires.none c.requires.ahead)
          r.1,
      omega arith,
    )

pub returns-in_default-clause-none : goal.returns-in_default-clause-none
returns-in_default-clause-none g c is w i =
    let see = sight g.B.Blob.told g.B.Blob.seen g.L.Leaf.seen in
    let self = c.args.self.now in
    c.claim_next.ensures.none (none_of c.claim_next.result c.in_default.not-Some) w []
    (subst (IsHand see c.args.book.now w self.pass) (both_none self.cards self.next c.requires.none c.requires.ahead) i)

pub write_held-written-requires : goal.write_held-written-requires
write_held-written-requires g c =
    let see = sight g.B.Blob.told g.B.Blob.seen g.L.Leaf.seen in
    let r = c.requires.hand in
    let self = c.args.self.now in
    to_be_written see c.args.book.now r.0 c.claim_next.new.pass c.in-Some.held []
    (c.in-Some.ensures.hand r.0 []
    (subst (IsHand see c.args.book.now r.0 self.pass) (both_none self.cards self.next c.requires.none c.requires.ahead) r.1)
    (omega arith))

pub close_written-requires-after_bounds : goal.close_written-requires-after_bounds
close_written-requires-after_bounds g c κs within =
    let see = sight g.B.Blob.told g.B.Blob.seen g.L.Leaf.seen in
    let r = c.requires.hand in
    let self = c.args.self.now in (
      r.0,
      c.in-Some.held,
      [],
      c.in-Some.ensures.hand r.0 []
          (subst (IsHand see c.args.book.now r.0 self.pass)
          (both_none self.cards self.next c.requires.none c.requires.ahead) r.1)
          (omega arith),
      c.write_held-written.ensures,
    )

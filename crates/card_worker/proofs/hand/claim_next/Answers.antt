use Rattle.std.proofs.Common.{List, sym, subst}
use Rattle.std.proofs.lemmas.List.{append-nil}
use Rattle.checkout_book.specs.Passes.{IsPass}
use Rattle.checkout_book.specs.Sights.{sight}
use Rattle.card_worker.specs.declared.held.Held.{Held}
use Rattle.card_worker.specs.Holding.{IsHand}
use Rattle.card_worker.proofs.Hands.{took_none, hand_stays, hand_claims}
use Rattle.card_worker.proofs.hand.claim_next.Goals as goal

pub claim-requires : goal.claim-requires
claim-requires g c =
    let r = c.requires in
    let w = r.0 in
    let i = r.2 in (
      w.plan,
      w.made,
      i.core,
      subst (λ k. IsPass c.args.book.now w.plan k w.made c.args.pass.now i.core) (sym i.is_pass.seat.named) i.is_pass,
    )

pub returns-in_default-clause-hand : goal.returns-in_default-clause-hand
returns-in_default-clause-hand g c w hs i few =
    let see = sight g.B.Blob.told g.B.Blob.seen g.L.Leaf.seen in
    let lock = c.args.book.now in
    let t = took_none see lock w c.args.pass.now c.claim.new.pass i.core c.claim.result
    (c.claim.ensures w.plan w.made i.core
    (subst (λ k. IsPass lock w.plan k w.made c.args.pass.now i.core) (sym i.is_pass.seat.named) i.is_pass))
    c.in_default.not-Some in
    subst (λ (l : List (Held g.row.B.Denot g.row.L.Denot)). IsHand see lock w c.claim.new.pass l)
    (sym (append-nil hs)) (hand_stays see lock w c.args.pass.now c.claim.new.pass t.0 hs i t.1).0

pub returns-in_default-clause-none : goal.returns-in_default-clause-none
returns-in_default-clause-none g c is w hs i =
    let see = sight g.B.Blob.told g.B.Blob.seen g.L.Leaf.seen in
    let lock = c.args.book.now in
    let t = took_none see lock w c.args.pass.now c.claim.new.pass i.core c.claim.result
    (c.claim.ensures w.plan w.made i.core
    (subst (λ k. IsPass lock w.plan k w.made c.args.pass.now i.core) (sym i.is_pass.seat.named) i.is_pass))
    c.in_default.not-Some in
    (hand_stays see lock w c.args.pass.now c.claim.new.pass t.0 hs i t.1).1

pub returns-clause-hand : goal.returns-clause-hand
returns-clause-hand g c w hs i few =
    let see = sight g.B.Blob.told g.B.Blob.seen g.L.Leaf.seen in
    let lock = c.args.book.now in
    let k = c.in-Some.ensures w.plan w.made i.core
    (subst (λ k. IsPass lock w.plan k w.made c.args.pass.now i.core) (sym i.is_pass.seat.named) i.is_pass) in
    hand_claims see lock w c.args.pass.now c.claim.new.pass k.0 hs c.hold_card.result c.in-Some.card i few k.1
    c.hold_card.ensures.holds

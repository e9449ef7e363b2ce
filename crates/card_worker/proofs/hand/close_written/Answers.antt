use Rattle.std.proofs.Common.{sym, subst}
use Rattle.checkout_book.specs.Passes.{IsPass}
use Rattle.checkout_book.specs.Sights.{sight}
use Rattle.card_worker.proofs.Hands.{hand_may_close, hand_closes}
use Rattle.card_worker.proofs.hand.close_written.Goals as goal

pub close-requires : goal.close-requires
close-requires g c =
    let see = sight g.B.Blob.told g.B.Blob.seen g.L.Leaf.seen in
    let lock = c.args.book.now in
    let r = c.requires in
    let w = r.0 in
    let i = r.3 in
    let may = hand_may_close see c.a_path_in_hand_may_be_closed.ensures lock w c.args.pass.now r.1 r.2 c.args.written i
    r.4 in (
      w.plan,
      w.made,
      i.core,
      subst (λ k. IsPass lock w.plan k w.made c.args.pass.now i.core) (sym i.is_pass.seat.named) i.is_pass,
      may.0,
      may.1,
    )

pub returns : goal.returns
returns g c w h hs i wrote =
    let see = sight g.B.Blob.told g.B.Blob.seen g.L.Leaf.seen in
    let lock = c.args.book.now in
    hand_closes see lock w c.args.pass.now c.close.new.pass h hs c.args.written i wrote
    (c.close.ensures w.plan w.made i.core
    (subst (λ k. IsPass lock w.plan k w.made c.args.pass.now i.core) (sym i.is_pass.seat.named) i.is_pass))

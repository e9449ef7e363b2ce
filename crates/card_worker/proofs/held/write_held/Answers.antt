use Rattle.std.proofs.Common.{Option, ap, subst}
use Rattle.object_dir.specs.declared.taken_blob.Taken.{Taken}
use Rattle.convert_plan.specs.Card.{CardSeen}
use Rattle.checkout_book.specs.Sights.{sight, seen}
use Rattle.card_worker.specs.Holding.{HoldsCard}
use Rattle.card_worker.proofs.HeldCards.{held_written, held_unread}
use Rattle.card_worker.proofs.held.write_held.Goals as goal

pub returns-in-Ok : goal.returns-in-Ok
returns-in-Ok g c card to_write holds =
    let see = sight g.B.Blob.told g.B.Blob.seen g.L.Leaf.seen in
    let old = seen see card in
    let new = seen see c.args.held.card in
    let h = subst (λ (t : Option Taken). HoldsCard old new t) c.in-Some.is holds in
    let o = c.into_content.ensures old.told old.object old.blob.faults new.blob.faults h.2 in
    held_written old new c.in-Some.taken c.in-Ok.ready c.write_leaf-own.result
    (g.L.Leaf.seen c.write_leaf-own.new.leaf) h
    (c.in-Ok.ensures.read old (ap (λ (x : CardSeen). x.object) h.0) (ap (λ (x : CardSeen). x.conversion) h.0) o.0)
    (c.in-Ok.ensures.counts old.blob.faults new.blob.faults o.1) c.write_leaf-own.ensures

pub returns-in-Err : goal.returns-in-Err
returns-in-Err g c card to_write holds =
    let see = sight g.B.Blob.told g.B.Blob.seen g.L.Leaf.seen in
    let old = seen see card in
    let new = seen see c.args.held.card in
    let h = subst (λ (t : Option Taken). HoldsCard old new t) c.in-Some.is holds in
    let o = c.into_content.ensures old.told old.object old.blob.faults new.blob.faults h.2 in
    held_unread old new c.in-Some.taken c.in-Err.own h
    (c.in-Err.ensures.read old (ap (λ (x : CardSeen). x.object) h.0) (ap (λ (x : CardSeen). x.conversion) h.0) o.0)
    (c.in-Err.ensures.counts old.blob.faults new.blob.faults o.1)

use Rattle.std.proofs.Common.{rules, ◌≡◌, sym, subst, Option, None}
use Rattle.driver_host.specs.HostText.{Over}
use Rattle.driver_host.specs.Hosts.{HostSeen, IsHeld, TakesPiece}
use Rattle.driver_host.specs.declared.host.HostFault.{HostFault}
use Rattle.driver_host.proofs.Taking.{took_piece, stays, held_host, none_grown}
use Rattle.driver_host.proofs.host.Host.take_piece.Goals.{else-is_none-via-then-is_none+else-not-is_over, else-is_none-via-else-is_none}
use Rattle.driver_host.proofs.host.Host.take_piece.Goals as goal

pub returns-then-not-is_over-clause-takes : goal.returns-then-not-is_over-clause-takes
returns-then-not-is_over-clause-takes g c =
    let none : c.args.self.now.fault ≡ None = Prim.search rules in
    let going : c.args.self.now.talk.stage ≡ Over → ⊥ = Prim.search rules in
    let new = c.feed_all.new in
    λ bytes cs text h.
    let held = held_host g.W.Work.told g.W.Work.latest bytes cs text c.args.self.now none going h in
    subst (λ (f : Option HostFault). TakesPiece g.W.Work.told g.W.Work.latest bytes cs text c.args.piece.now (record { talk = new.talk; unread = new.reader.unread; fault = f }) c.args.out.now.items new.out.items)
    (sym c.err-self-inside.ensures.value)
    (took_piece g.W.Work.told g.W.Work.latest c.feed_all.result bytes cs text c.args.piece.now c.args.out.now.items new.out.items new.reader.unread new.talk
    (c.feed_all.ensures.feeds bytes cs text
    (subst (λ (z : HostSeen _). IsHeld g.W.Work.told g.W.Work.latest bytes cs text z.unread z.talk) (sym c.self.view_is) held)))

pub returns-else-is_none-clause-takes : goal.returns-else-is_none-clause-takes
returns-else-is_none-clause-takes g c =
    let over : c.args.self.now.fault ≡ None → c.args.self.now.talk.stage ≡ Over =
    elim c.else-is_none.branch [
      | else-is_none-via-then-is_none+else-not-is_over w ↦ Prim.search rules
      | else-is_none-via-else-is_none w ↦ Prim.search rules
    ] in
    λ bytes cs text h.
    stays g.W.Work.told g.W.Work.latest bytes cs text c.args.piece.now c.args.self.now c.args.out.now.items c.no_packet.ensures.fault over h

pub returns-else-is_none-clause-grown : goal.returns-else-is_none-clause-grown
returns-else-is_none-clause-grown g c = none_grown c.args.out.now.items

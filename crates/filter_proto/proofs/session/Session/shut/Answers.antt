use Rattle.std.proofs.Common.{◌≡◌, ◌⊎◌, inl, inr, ℕ, List, Result, Ok, refl, sym, ap, subst, ◌∙◌}
use Rattle.std.specs.Prelude.{⊤}
use Rattle.edge_kit.specs.Faults.{AfterCall}
use Rattle.edge_kit.specs.Links.{LinkSeen, input_shut, waited}
use Rattle.edge_kit.specs.declared.faults.Failed.{Failed}
use Rattle.filter_proto.specs.Wires.{SessionSeen, wire_of, IsShutAfter}
use Rattle.filter_proto.specs.declared.session.Standing.{Standing}
use Rattle.filter_proto.specs.declared.session.Standing.TheVariants as standing
use Rattle.filter_proto.proofs.session.Session.shut.Goals as goal
use Rattle.filter_proto.proofs.session.Session.shut.Goals.{in-Live, in-Over}

-- a link whose input was shut, and whose end was then waited for
calls : (s : Standing) (unread : List ℕ) (old mid new : LinkSeen) (i e : Result ⊤ Failed) → (s ≡ standing.Live) ⊎ (s ≡ standing.Aborted)
    → mid ≡ record old { stage = input_shut old.stage; faults = mid.faults } → AfterCall old.faults mid.faults i
    → new ≡ record mid { stage = waited mid.stage; faults = new.faults } → AfterCall mid.faults new.faults e → IsShutAfter s (wire_of unread old) new
calls s unread old mid new i e how one a two b =
    let link : new ≡ record old { stage = waited (input_shut old.stage); faults = new.faults } =
    two ∙ ap (λ (x : LinkSeen). record x { stage = waited x.stage; faults = new.faults }) one in
    elim how [
      | inl l ↦ subst (λ (z : Standing). IsShutAfter z (wire_of unread old) new) (sym l)
          (record { input = i; end = e; kept = ap (wire_of unread) link; counts = record { between = mid.faults; closed = a; waited = b } })
      | inr l ↦ subst (λ (z : Standing). IsShutAfter z (wire_of unread old) new) (sym l)
          (record { input = i; end = e; kept = ap (wire_of unread) link; counts = record { between = mid.faults; closed = a; waited = b } })
    ]

-- one on which nothing was called
untouched : (s : Standing) (unread : List ℕ) (link : LinkSeen) → s ≡ standing.Over → IsShutAfter s (wire_of unread link) link
untouched s unread link is =
    subst (λ (z : Standing). IsShutAfter z (wire_of unread link) link) (sym is) (record { input = Ok tt; end = Ok tt; kept = refl; counts = (refl, refl, refl) })

pub returns : goal.returns
returns g c =
    let told : IsShutAfter c.self.inside.standing (wire_of c.self.inside.reader.unread (g.K.Link.seen c.self.inside.link)) (g.K.Link.seen c.match-standing.link) = elim c.match-standing.branch [
      | in-Live w ↦ subst (λ link. IsShutAfter c.self.inside.standing (wire_of c.self.inside.reader.unread (g.K.Link.seen c.self.inside.link)) (g.K.Link.seen link)) (sym w.link-is)
          (calls c.self.inside.standing c.self.inside.reader.unread (g.K.Link.seen c.self.inside.link) (g.K.Link.seen w.shut_input.new.self) (g.K.Link.seen w.wait_end.new.self)
          w.shut_input.result w.wait_end.result w.in-Live.is w.shut_input.ensures.kept w.shut_input.ensures.faults w.wait_end.ensures.kept w.wait_end.ensures.faults)
      | in-Over w ↦ subst (λ link. IsShutAfter c.self.inside.standing (wire_of c.self.inside.reader.unread (g.K.Link.seen c.self.inside.link)) (g.K.Link.seen link)) (sym w.link-is)
          (untouched c.self.inside.standing c.self.inside.reader.unread (g.K.Link.seen c.self.inside.link) w.in-Over.is)
    ] in
    subst (λ (s : SessionSeen). IsShutAfter s.standing s.wire (g.K.Link.seen c.match-standing.link)) c.self.view_is told

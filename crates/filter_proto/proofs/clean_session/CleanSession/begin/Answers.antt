use Rattle.std.proofs.Common.{◌≡◌, Bool, true, false, [], sym, subst}
use Rattle.filter_words.specs.Handshake.{handshake_step, handshake_start}
use Rattle.filter_proto.specs.Wires.{Wire, SessionSeen, wire_of}
use Rattle.filter_proto.specs.Exchanges.{Good}
use Rattle.filter_proto.specs.Openings.{Announces}
use Rattle.filter_proto.specs.Complete.{IsComplete}
use Rattle.filter_proto.proofs.clean_session.CleanSession.begin.Goals as goal

pub returns-then-clean-clause-live : goal.returns-then-clean-clause-live
returns-then-clean-clause-live g c s e =
    let same : c.in-Live.session ≡ s = cc e in
    let start = wire_of [] (g.K.Link.seen c.args.link) in
    subst (λ (x : SessionSeen). Announces true start x.wire x.caps) same
    (subst (λ (b : Bool). Announces b start c.in-Live.session.wire c.in-Live.session.caps) c.if-clean.true (c.open-begun.ensures.announced c.in-Live.session c.in-Live.is))

pub returns-then-clean-clause-live_told : goal.returns-then-clean-clause-live_told
returns-then-clean-clause-live_told g c s e =
    let start = wire_of [] (g.K.Link.seen c.args.link) in
    c.complete.ensures.clean true start c.in-Live.session.wire c.in-Live.session.caps
    (subst (λ (b : Bool). Announces b start c.in-Live.session.wire c.in-Live.session.caps) c.if-clean.true (c.open-begun.ensures.announced c.in-Live.session c.in-Live.is))

pub returns-then-clean-clause-live_complete : goal.returns-then-clean-clause-live_complete
returns-then-clean-clause-live_complete g c s e =
    let same : c.in-Live.session ≡ s = cc e in
    subst (λ (x : SessionSeen). IsComplete handshake_step handshake_start (wire_of [] (g.K.Link.seen c.args.link)) x.wire (Good x.caps)) same (c.open-begun.ensures.live_complete c.in-Live.session c.in-Live.is)

pub returns-else-clean-clause-no_clean : goal.returns-else-clean-clause-no_clean
returns-else-clean-clause-no_clean g c l e =
    let same : c.into_link.result ≡ l = cc e in
    let start = wire_of [] (g.K.Link.seen c.args.link) in
    rw (sym same) (
      c.in-Live.session.wire.unread,
      c.in-Live.session.caps,
      subst (λ (w : Wire). Announces false start w c.in-Live.session.caps) (sym c.into_link.ensures)
          (subst (λ (b : Bool). Announces b start c.in-Live.session.wire c.in-Live.session.caps) c.if-clean.false (c.open-begun.ensures.announced c.in-Live.session c.in-Live.is)),
    )

pub returns-else-clean-clause-no_clean_told : goal.returns-else-clean-clause-no_clean_told
returns-else-clean-clause-no_clean_told g c l e =
    let start = wire_of [] (g.K.Link.seen c.args.link) in
    c.complete.ensures.clean false start c.in-Live.session.wire c.in-Live.session.caps
    (subst (λ (b : Bool). Announces b start c.in-Live.session.wire c.in-Live.session.caps) c.if-clean.false (c.open-begun.ensures.announced c.in-Live.session c.in-Live.is))

pub returns-in-Broken-clause-broken_complete : goal.returns-in-Broken-clause-broken_complete
returns-in-Broken-clause-broken_complete g c l why e =
    let same : c.in-Broken.link ≡ l = cc e in
    let because : c.in-Broken.cause ≡ why = cc e in
    rw (sym same, sym because) (c.open-begun.ensures.broken_complete c.in-Broken.link c.in-Broken.cause c.in-Broken.is)

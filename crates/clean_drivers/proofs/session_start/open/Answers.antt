use Rattle.std.proofs.Common.{refl}
use Rattle.filter_proto.specs.Wires.{wire_of}
use Rattle.clean_drivers.proofs.session_start.open.Goals as goal

pub returns-in-Live-clause-opens : goal.returns-in-Live-clause-opens
returns-in-Live-clause-opens g c =
    (refl, c.in-Live.ensures.live c.in-Live.session refl, c.in-Live.ensures.standing c.in-Live.session refl)

pub returns-in-NoClean-clause-opens : goal.returns-in-NoClean-clause-opens
returns-in-NoClean-clause-opens g c =
    let o = c.in-NoClean.ensures.no_clean c.in-NoClean.link refl in
    (o.1, wire_of o.0 (g.S.Link.Link.seen c.in-NoClean.link), o.2, c.end_unclean.ensures.ended o.0)

pub returns-in-Broken-clause-opens : goal.returns-in-Broken-clause-opens
returns-in-Broken-clause-opens g c =
    let o = c.in-Broken.ensures.broken c.in-Broken.link c.in-Broken.why refl in
    (wire_of o.0 (g.S.Link.Link.seen c.in-Broken.link), o.1, c.end_unopened.ensures.ended o.0)

pub returns-in-NoMemory-clause-opens : goal.returns-in-NoMemory-clause-opens
returns-in-NoMemory-clause-opens g c =
    let o = c.in-NoMemory.ensures.no_memory c.in-NoMemory.link refl in
    (wire_of o.0 (g.S.Link.Link.seen c.in-NoMemory.link), o.1, c.end_unopened-in-NoMemory.ensures.ended o.0)

use Rattle.driver_host.proofs.Links.{link_begins, told_keeps}
use Rattle.driver_host.proofs.host_link.HostLink.begin.Goals as goal

pub invariant_of-result : goal.invariant_of-result
invariant_of-result g c =
    link_begins g.W.Work.told g.W.Work.latest c.args.host c.args.keeps c.is_new-fresh.result c.both_hold-tells.result c.new.result.items
    c.new-2.result.items c.both_hold-tells.ensures c.is_new-fresh.ensures c.new.ensures.items c.new-2.ensures.items

pub returns-clause-kept : goal.returns-clause-kept
returns-clause-kept g c = told_keeps c.args.keeps c.is_new-fresh.result c.both_hold-tells.result c.both_hold-tells.ensures

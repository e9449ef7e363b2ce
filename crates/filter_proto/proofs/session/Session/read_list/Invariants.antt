use Rattle.std.proofs.Common.{◌≡◌, ◌≤◌, ◌+◌, ◌-◌, ◌*◌, length}
use Rattle.filter_proto.specs.ListSteps.{IsListing}
use Rattle.filter_proto.proofs.session.Session.read_list.Given as goal

abbrev pub invariant-loop-reply : goal.invariant-loop-reply
invariant-loop-reply g l = record {
  reading : IsListing l.initial.self.wire l.self.wire l.listing l.initial.table l.table;
  fits : l.listing.count + l.listing.room ≤ 536870912;
  sent : l.self.wire.sent ≡ l.initial.self.wire.sent;
  stage : l.self.wire.stage ≡ l.initial.self.wire.stage;
  rest : l.self ≡ record l.initial.self { wire = l.self.wire };
}

abbrev pub decreases-loop-reply : goal.decreases-loop-reply
decreases-loop-reply g l = 2 * l.listing.room + (65520 - length l.self.wire.unread)

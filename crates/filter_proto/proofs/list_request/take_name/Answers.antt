use Rattle.std.proofs.Common.{sym}
use Rattle.filter_proto.proofs.Listings.{take_listed, take_strange}
use Rattle.filter_proto.proofs.list_request.take_name.Goals as goal

pub returns-in-Some-list-clause-takes : goal.returns-in-Some-list-clause-takes
returns-in-Some-list-clause-takes c =
    rw c.in-Some-list.ensures.1 (take_listed c.args.line.now c.in-Some.name.now c.args.count.now c.args.table.now c.in-Some-list.field-0 (sym c.in-Some.ensures) c.names_differ.ensures c.in-Some-list.ensures.0)

pub returns-in-None-list-clause-takes : goal.returns-in-None-list-clause-takes
returns-in-None-list-clause-takes c =
    take_strange c.args.line.now c.in-Some.name.now c.args.count.now c.args.count.now c.args.table.now c.list.new.self (sym c.in-Some.ensures) c.in-None-list.ensures.0 c.in-None-list.ensures.1

use Rattle.std.proofs.Common.{arith, refl}
use Rattle.pkt_line.specs.Packets.{Payload}
use Rattle.filter_proto.proofs.Listings.{line_too_long, line_names, line_strange, line_keys}
use Rattle.filter_proto.proofs.list_request.take_list_line.Goals as goal

pub returns-then-listing-size-clause-takes : goal.returns-then-listing-size-clause-takes
returns-then-listing-size-clause-takes c =
    line_too_long c.args.listing.now c.args.listing.now (Payload c.args.line.now) c.args.table.now (omega (arith, c.if-listing-size.true))

pub returns-then-take_name-clause-takes : goal.returns-then-take_name-clause-takes
returns-then-take_name-clause-takes c =
    line_names c.args.listing.now _ c.args.line.now c.args.table.now c.take_name.new.table c.in-Names.is c.in-Names.is (omega (arith, c.if-listing-size.false)) c.if-take_name.ensures.takes

pub returns-else-take_name-clause-takes : goal.returns-else-take_name-clause-takes
returns-else-take_name-clause-takes c =
    line_strange c.args.listing.now c.args.listing.now c.args.line.now c.take_name.new.count c.args.table.now c.take_name.new.table c.in-Names.is (omega (arith, c.if-listing-size.false)) c.if-take_name.ensures.takes

pub returns-in-KeyList-clause-takes : goal.returns-in-KeyList-clause-takes
returns-in-KeyList-clause-takes c =
    line_keys c.args.listing.now _ c.args.line.now c.args.table.now c.in-KeyList.status _ c.in-KeyList.is refl c.next_status.ensures (omega (arith, c.if-listing-size.false)) refl

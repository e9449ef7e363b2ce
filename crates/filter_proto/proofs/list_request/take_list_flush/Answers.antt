use Rattle.std.proofs.Common.{arith}
use Rattle.filter_proto.proofs.Listings.{flush_done}
use Rattle.filter_proto.proofs.list_request.take_list_flush.Goals as goal

pub returns-in-Done-clause-takes : goal.returns-in-Done-clause-takes
returns-in-Done-clause-takes c table =
    flush_done c.args.listing.now c.args.listing.now table c.in-Done.end _ c.in-Done.ensures (omega (arith, c.if-listing-lt4.false)) c.list_reply.ensures

use Rattle.filter_words.specs.SmudgeReply.{reply_step, reply_start}
use Rattle.filter_words.specs.Listing.{list_step, list_start}
use Rattle.filter_proto.proofs.Once.{exchange_gives, opening_gives}
use Rattle.filter_proto.proofs.Cleanings.{tells}
use Rattle.filter_proto.proofs.laws.complete.Goals as goal

pub returns-clause-reply : goal.returns-clause-reply
returns-clause-reply c d text old new end = exchange_gives (reply_step d) reply_start c.fault_stays.ensures.fed (c.one_reply.ensures.same d) (c.one_reply.ensures.none_longer d) text old new end _

pub returns-clause-list : goal.returns-clause-list
returns-clause-list c delayed text old new end = exchange_gives (list_step delayed) list_start c.fault_stays.ensures.fed (c.one_list.ensures.same delayed) (c.one_list.ensures.none_longer delayed) text old new end _

pub returns-clause-handshake : goal.returns-clause-handshake
returns-clause-handshake c = opening_gives c.fault_stays.ensures.fed c.one_handshake.ensures.same c.one_handshake.ensures.none_longer

pub returns-clause-clean : goal.returns-clause-clean
returns-clause-clean c = tells c.one_handshake.ensures.same

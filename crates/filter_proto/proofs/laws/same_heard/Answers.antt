use Rattle.filter_words.specs.SmudgeReply.{reply_step, reply_start}
use Rattle.filter_words.specs.Listing.{list_step, list_start}
use Rattle.filter_words.specs.Handshake.{handshake_step, handshake_start}
use Rattle.filter_proto.proofs.Once.{heard_once}
use Rattle.filter_proto.proofs.laws.same_heard.Goals as goal

pub returns-clause-reply : goal.returns-clause-reply
returns-clause-reply c d = heard_once _ _ (reply_step d) reply_start (c.one_reply.ensures.same d) (c.one_reply.ensures.heard d)

pub returns-clause-list : goal.returns-clause-list
returns-clause-list c delayed = heard_once _ _ (list_step delayed) list_start (c.one_list.ensures.same delayed) (c.one_list.ensures.heard delayed)

pub returns-clause-handshake : goal.returns-clause-handshake
returns-clause-handshake c = heard_once _ _ handshake_step handshake_start c.one_handshake.ensures.same c.one_handshake.ensures.heard

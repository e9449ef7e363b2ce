use Rattle.filter_words.specs.SmudgeReply.{reply_step, reply_start}
use Rattle.filter_words.specs.Listing.{list_step, list_start}
use Rattle.filter_words.specs.Handshake.{handshake_step, handshake_start}
use Rattle.driver_line.proofs.OneParts.{PacketLaws, one_part}
use Rattle.driver_line.proofs.laws.one_part.Goals as goal

pub returns-clause-reply : goal.returns-clause-reply
returns-clause-reply c d =
    let laws : PacketLaws = record { reading = c.one_reading.ensures; fault = c.no_packet.ensures.fault; part = c.no_packet.ensures.part } in
    one_part laws (reply_step d) reply_start (c.one_reply.ensures.same d) (c.one_reply.ensures.none_longer d)

pub returns-clause-list : goal.returns-clause-list
returns-clause-list c delayed =
    let laws : PacketLaws = record { reading = c.one_reading.ensures; fault = c.no_packet.ensures.fault; part = c.no_packet.ensures.part } in
    one_part laws (list_step delayed) list_start (c.one_list.ensures.same delayed) (c.one_list.ensures.none_longer delayed)

pub returns-clause-handshake : goal.returns-clause-handshake
returns-clause-handshake c =
    let laws : PacketLaws = record { reading = c.one_reading.ensures; fault = c.no_packet.ensures.fault; part = c.no_packet.ensures.part } in
    one_part laws handshake_step handshake_start c.one_handshake.ensures.same c.one_handshake.ensures.none_longer

use Rattle.std.proofs.Common.{map}
use Rattle.filter_words.specs.Outcomes.{packet_of}
use Rattle.filter_words.specs.ListStates.{bytes_of}
use Rattle.filter_words.proofs.LateList.{late_list}
use Rattle.filter_words.proofs.listing.list_after_packet.Goals as goal

pub returns-in_default-clause-outcome : goal.returns-in_default-clause-outcome
returns-in_default-clause-outcome c rest =
    late_list (map bytes_of c.args.delayed.now) (map bytes_of c.args.listing.names.items) c.args.room
    c.args.listing.state (packet_of c.args.packet.now) rest c.in_default.not-On

use Rattle.filter_words.specs.SmudgeReply.{reply_step}
use Rattle.filter_words.specs.Outcomes.{packet_of}
use Rattle.filter_words.proofs.Runs.{late_of}
use Rattle.filter_words.proofs.smudge_reply.reply_after_packet.Goals as goal

pub returns-in_default-clause-outcome : goal.returns-in_default-clause-outcome
returns-in_default-clause-outcome c rest =
    late_of (reply_step c.args.can_delay) c.args.room c.args.state (packet_of c.args.packet.now) rest
    c.in_default.not-On

-- The words of the causes that break an answer.
use Rattle.std.specs.Prelude.{ℕ, List, codes}
use Rattle.filter_words.specs.declared.reply.BreakCause.{BreakCause}
use Rattle.filter_words.specs.declared.reply.BreakCause.TheVariants as break

abbrev pub break_word : BreakCause → List ℕ
break_word break.Ended = codes "broken-ended"
break_word break.LinkFault = codes "broken-link"
break_word break.BadPacket = codes "broken-packet"
break_word break.BadHandshake = codes "broken-handshake"
break_word break.UnknownStatus = codes "broken-status"
break_word break.StrangeDelay = codes "broken-delay"
break_word break.TooLong = codes "broken-too-long"
break_word break.StrangePath = codes "broken-strange-path"
break_word break.ListRefused = codes "broken-list"

-- One packet of a reply that is being read.
use Rattle.std.specs.Prelude.{◌≡◌, ◌⊎◌, ◌+◌, ◌<◌, ◌≤◌, Bool}
use Rattle.pkt_line.specs.Packets.{Flush}
use Rattle.filter_words.specs.SmudgeReply.{reply_step, reply_start}
use Rattle.filter_words.specs.declared.reply.BreakCause.TheVariants as cause
use Rattle.filter_words.specs.declared.smudge_reply.GoodReply.{GoodReply}
use Rattle.filter_words.specs.declared.answer_state.AnswerState.TheVariants.{On, Done, Broken}
use Rattle.edge_kit.specs.Seen.{LeafSeen}
use Rattle.filter_proto.specs.Wires.{Wire}
use Rattle.filter_proto.specs.Exchanges.{Ends, Good, Broke, OutOfMemory, IsReading, IsHeard}
use Rattle.filter_proto.specs.Replies.{HasPut, EndPut, NotBegun, TouchesNot, reply_end}
use Rattle.filter_proto.specs.declared.asked.Reading.{Reading}
use Rattle.filter_proto.specs.declared.asked.Step.{Step}
use Rattle.filter_proto.specs.declared.asked.Step.TheVariants as step

-- how a flush ends a reply
abbrev pub FlushEnds : Bool → Reading → Ends GoodReply → Type 0
FlushEnds d old (Good g) = (4 ≤ old.room) × (reply_step d old.phase Flush ≡ Done g)
FlushEnds d old (Broke why) = ((old.room < 4) × (why ≡ cause.TooLong))
    ⊎ ((4 ≤ old.room) × (reply_step d old.phase Flush ≡ Broken why))
FlushEnds d old OutOfMemory = ⊥

abbrev pub FlushIs : Bool → Reading → Step → Reading → Type 0
FlushIs d old step.On new =
    (new.room + 4 ≡ old.room) × (reply_step d old.phase Flush ≡ On new.phase) × (new.put ≡ old.put)
FlushIs d old (step.End r) new = FlushEnds d old (reply_end r) × (new.put ≡ old.put)

-- one more packet goes on or ends
abbrev pub StepIs : Bool → Wire → Wire → Step → Reading → LeafSeen → LeafSeen → Type 0
StepIs d start new step.On reading before leaf =
    IsReading (reply_step d) reply_start start new reading.room reading.phase (HasPut d before leaf reading.put)
StepIs d start new (step.End r) reading before leaf =
    IsHeard (reply_step d) reply_start start new (reply_end r) (EndPut d before leaf reading.put (reply_end r))

-- what is known of a leaf that nothing was put into
abbrev pub StepBegins : Step → Reading → LeafSeen → LeafSeen → Type 0
StepBegins step.On reading before leaf = NotBegun reading.phase before leaf reading.put
StepBegins (step.End r) reading before leaf = TouchesNot r before leaf reading.put

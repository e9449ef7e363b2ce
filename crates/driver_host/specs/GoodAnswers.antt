-- An answer for a path as a client hears it.
use Rattle.std.specs.Prelude.{◌≡◌, Bool, List, [], ◌∷◌}
use Rattle.pkt_line.specs.Packets.{Packet}
use Rattle.filter_words.specs.Outcomes.{outcome, limit}
use Rattle.filter_words.specs.SmudgeReply.{reply_step, reply_start, content_in}
use Rattle.filter_words.specs.declared.answer_state.AnswerState.TheVariants.{Done}
use Rattle.driver_host.specs.declared.work.Choice.{Choice}
use Rattle.driver_host.specs.Answers.{reply_to, given}

-- it is the reply that the choice comes to, with the content that it gives
pub record IsHeardAs (can_delay : Bool) (choices : List Choice) (ps : List Packet) : Type 0 where
  pub choice : Choice
  pub one : choices ≡ choice ∷ []
  pub heard : outcome (reply_step can_delay) limit reply_start ps ≡ Done (reply_to choice)
  pub content : content_in can_delay reply_start ps ≡ given choice

use Rattle.std.proofs.Common.{◌≡◌, ◌≤◌, ◌++◌, ◌∙◌, List, sym, ap, subst}
use Rattle.pkt_line.specs.Packets.{Packet, total}
use Rattle.filter_words.specs.Outcomes.{outcome, limit}
use Rattle.filter_words.specs.SmudgeReply.{reply_step, reply_start, content_in}
use Rattle.filter_words.specs.Listing.{Listed}
use Rattle.filter_words.specs.declared.answer_state.AnswerState.TheVariants.{Done}
use Rattle.driver_host.specs.Answers.{hello_answer, caps_answer, choice_answer, list_answer, reply_to}
use Rattle.driver_host.proofs.Right.{hands_fit, may_later}
use Rattle.driver_host.proofs.laws.good_answers.Goals as goal

pub returns-clause-handshake : goal.returns-clause-handshake
returns-clause-handshake c caps =
    c.handshake_grammar.ensures.again (hello_answer ++ caps_answer caps) caps (c.right_handshake.ensures caps)
    (hands_fit caps.smudge caps.delay)

pub returns-clause-smudge : goal.returns-clause-smudge
returns-clause-smudge c own batch agreed owed path content d cs ps t a fits =
    let x = a.2 in
    record {
      choice = x.0;
      one = x.1;
      heard = subst (λ (z : List Packet). outcome (reply_step d) limit reply_start z ≡ Done (reply_to x.0)) (sym x.3)
          (c.reply_grammar.ensures.again d (choice_answer x.0) (reply_to x.0)
          (c.right_replies.ensures.good d x.0 (may_later owed path d x.0 x.2))
          (subst (λ (z : List Packet). total z ≤ limit) x.3 fits));
      content = ap (λ (z : List Packet). content_in d reply_start z) x.3 ∙ c.right_replies.ensures.content d x.0;
    }

pub returns-clause-list : goal.returns-clause-list
returns-clause-list c delayed names short expected fits =
    c.list_grammar.ensures.again delayed (list_answer names) (Listed names)
    (c.right_lists.ensures delayed names short expected) fits

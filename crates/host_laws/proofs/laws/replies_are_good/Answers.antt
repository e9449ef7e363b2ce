use Rattle.std.proofs.Common.{◌≡◌, ◌≤◌, List, ◌++◌, ap, ◌∙◌, sym, subst}
use Rattle.pkt_line.specs.Packets.{Packet, total}
use Rattle.pkt_line.specs.Spelling.{spelling_all}
use Rattle.filter_words.specs.Outcomes.{limit}
use Rattle.filter_words.specs.Requests.{smudge_packets}
use Rattle.filter_words.specs.SmudgeReply.{reply_step, reply_start, content_in}
use Rattle.filter_proto.specs.Exchanges.{Good}
use Rattle.driver_line.specs.Lines.{HasContent}
use Rattle.driver_host.specs.Requests.{Smudge}
use Rattle.driver_host.specs.Answers.{choice_answer, reply_to, given}
use Rattle.driver_host.specs.HostText.{Stage, Serving}
use Rattle.host_laws.specs.Awaiting.{Awaits}
use Rattle.host_laws.proofs.Good.{host_part, later_waits}
use Rattle.host_laws.proofs.laws.replies_are_good.Goals as goal

pub returns : goal.returns
returns c own batch agreed owed path name d content sent answers end used rest came may le awaits heard =
    let t = c.a_request_is_taken.ensures own batch (Serving agreed owed) (Smudge path d content)
    (smudge_packets path name d content) sent answers end may (c.client_requests.ensures.smudge path name content d) le
    awaits in
    let x = t.is.2 in
    let whole : answers ≡ choice_answer x.0 ++ t.later = t.whole ∙ ap (λ (z : List Packet). z ++ t.later) x.3 in
    let part = c.one_exchange.ensures.reply d x.0 (spelling_all t.later) (later_waits owed path d x.0 x.2)
    (subst (λ (z : List Packet). total z ≤ limit) x.3 t.fit) in
    let host = host_part (reply_step d) reply_start answers (choice_answer x.0) t.later (reply_to x.0)
    (HasContent d (given x.0)) whole part in
    let same = c.one_part.ensures.reply d (spelling_all answers) used rest (spelling_all (choice_answer x.0))
    (spelling_all t.later) came (Good (reply_to x.0)) heard host in
    record {
      choice = x.0;
      later = t.later;
      good = same.0;
      content = ap (λ (ps : List Packet). content_in d reply_start ps) same.1 ∙ sym part.done;
      may = x.2;
      used_is = same.2;
      whole = whole;
      next = subst (λ (s : Stage). Awaits own batch s sent t.later end) x.4 t.next;
    }

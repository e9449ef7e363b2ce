use Rattle.std.proofs.Common.{◌≡◌, ◌≤◌, List, [], ◌++◌, ap, ◌∙◌, subst, take, arith}
use Rattle.pkt_line.specs.Packets.{Packet, total}
use Rattle.pkt_line.specs.Spelling.{spelling_all}
use Rattle.filter_words.specs.Outcomes.{limit}
use Rattle.filter_words.specs.Requests.{list_packets}
use Rattle.filter_words.specs.Listing.{Listed, list_step, list_start}
use Rattle.filter_proto.specs.Exchanges.{Good}
use Rattle.driver_host.specs.Requests.{Listing}
use Rattle.driver_host.specs.Answers.{list_answer}
use Rattle.driver_host.specs.HostText.{Stage, Serving}
use Rattle.host_laws.specs.Awaiting.{Awaits}
use Rattle.host_laws.proofs.Good.{host_part, listable_take, expected_take}
use Rattle.host_laws.proofs.laws.lists_are_good.Goals as goal

pub returns : goal.returns
returns c own batch agreed owed delayed sent answers end used rest came may short expected awaits heard =
    let names = take batch owed.delayed in
    let few : total list_packets ≤ limit = omega arith in
    let t = c.a_request_is_taken.ensures own batch (Serving agreed owed) Listing list_packets sent answers end may
    c.client_requests.ensures.listing few awaits in
    let x = t.is in
    let whole : answers ≡ list_answer names ++ t.later = t.whole ∙ ap (λ (z : List Packet). z ++ t.later) x.2 in
    let part = c.one_exchange.ensures.list delayed names (spelling_all t.later) (listable_take batch owed.delayed short)
    (expected_take batch delayed [] owed.delayed expected)
    (subst (λ (z : List Packet). total z ≤ limit) x.2 t.fit) in
    let host = host_part (list_step delayed) list_start answers (list_answer names) t.later (Listed names)
    (λ (ps : List Packet). Unit {0}) whole part in
    let same = c.one_part.ensures.list delayed (spelling_all answers) used rest (spelling_all (list_answer names))
    (spelling_all t.later) came (Good (Listed names)) heard host in
    record {
      later = t.later;
      good = same.0;
      used_is = same.2;
      whole = whole;
      next = subst (λ (s : Stage). Awaits own batch s sent t.later end) x.3 t.next;
    }

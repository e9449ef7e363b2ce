use Rattle.std.proofs.Common.{◌≡◌, ◌≤◌, List, ◌++◌, ap, ◌∙◌, sym, subst, append_assoc, arith}
use Rattle.pkt_line.specs.Packets.{Packet, total}
use Rattle.pkt_line.specs.Spelling.{spelling_all}
use Rattle.filter_words.specs.Outcomes.{limit}
use Rattle.filter_words.specs.Requests.{hello_packets, caps_packets}
use Rattle.filter_words.specs.Handshake.{handshake_step, handshake_start}
use Rattle.filter_proto.specs.Exchanges.{Good}
use Rattle.filter_proto.specs.Openings.{BeginsHello}
use Rattle.driver_host.specs.Requests.{Hello, Offer}
use Rattle.driver_host.specs.Answers.{hello_answer, caps_answer, both}
use Rattle.driver_host.specs.HostText.{Stage, Fresh, Greeted}
use Rattle.host_laws.specs.Awaiting.{Awaits}
use Rattle.host_laws.specs.Exchanges.{offered}
use Rattle.host_laws.proofs.Good.{host_part}
use Rattle.host_laws.proofs.laws.handshakes_are_good.Goals as goal

pub returns : goal.returns
returns c own batch sent answers end used rest came awaits heard =
    let few : total hello_packets ≤ limit = omega arith in
    let t = c.a_request_is_taken.ensures own batch Fresh Hello hello_packets (caps_packets ++ sent) answers end tt
    c.client_requests.ensures.hello few awaits in
    let some : total caps_packets ≤ limit = omega arith in
    let u = c.a_request_is_taken.ensures own batch Greeted (Offer offered) caps_packets sent t.later end tt
    c.client_requests.ensures.offer some
    (subst (λ (s : Stage). Awaits own batch s (caps_packets ++ sent) t.later end) t.is.2 t.next) in
    let both_are = hello_answer ++ caps_answer (both own offered) in
    let whole : answers ≡ both_are ++ u.later =
    t.whole
    ∙ (ap (λ (z : List Packet). z ++ t.later) t.is.1
    ∙ (ap (λ (z : List Packet). hello_answer ++ z) (u.whole ∙ ap (λ (z : List Packet). z ++ u.later) u.is.1)
    ∙ sym (append_assoc hello_answer (caps_answer (both own offered)) u.later))) in
    let part = c.one_exchange.ensures.handshake (both own offered) (spelling_all u.later) in
    let host = host_part handshake_step handshake_start answers both_are u.later (both own offered) BeginsHello whole part in
    let same = c.one_part.ensures.handshake (spelling_all answers) used rest (spelling_all both_are) (spelling_all u.later)
    came (Good (both own offered)) heard host in
    record {
      later = u.later;
      good = same.0;
      used_is = same.2;
      whole = whole;
      next = subst (λ (s : Stage). Awaits own batch s sent u.later end) u.is.2 u.next;
    }

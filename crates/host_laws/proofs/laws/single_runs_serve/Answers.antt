use Rattle.checkout_core.specs.Talks.{Between}
use Rattle.one_shot.specs.Replies.{smudge_alone}
use Rattle.host_laws.proofs.Asked.{asks_paths}
use Rattle.host_laws.proofs.Counts.{some_contains}
use Rattle.host_laws.proofs.OneParse.{PacketLaws}
use Rattle.host_laws.proofs.Failed.{StreamLaws, not_failed}
use Rattle.host_laws.proofs.OnceItems.{hears}
use Rattle.host_laws.proofs.OnceSessions.{OnceLaws}
use Rattle.host_laws.proofs.laws.single_runs_serve.Goals as goal

pub returns : goal.returns
returns c tells command d paths asked items exchanges t =
    let packets : PacketLaws = record { prefix = c.prefix_free.ensures; reading = c.one_reading.ensures } in
    let stream : StreamLaws = record { apart = c.no_packet.ensures.apart; fault = c.no_packet.ensures.fault } in
    let laws : OnceLaws = record {
      packets = packets;
      stream = stream;
      spells = c.spells.ensures;
      reply = c.one_exchange.ensures.reply;
      one = c.one_part.ensures.reply;
      request = λ path name content delay. c.client_requests.ensures.smudge path name content delay;
    } in
    let hands = c.handshakes_are_good.ensures in
    hears laws hands c.client_requests.ensures.hello c.client_requests.ensures.offer tells command paths asked t.told d
    t.talk.end t.talk.over
    (λ seen end why. not_failed packets stream c.spells.ensures hands c.client_requests.ensures.hello smudge_alone 1 seen end why)
    items exchanges asked (λ p here. here) t.talk.spells t.hosts t.talk.goes t.memory
    (asks_paths asked paths d exchanges (Between asked) t.talk.end t.names t.talk.goes (λ p some. some_contains p asked some))

use Rattle.std.proofs.Common.{arith}
use Rattle.filter_words.specs.Handshake.{no_caps}
use Rattle.checkout_core.specs.Fates.{Untold}
use Rattle.checkout_core.specs.Talks.{Between}
use Rattle.host_laws.proofs.Asked.{asks_paths}
use Rattle.host_laws.proofs.Counts.{apart_once, some_contains}
use Rattle.host_laws.proofs.OneParse.{PacketLaws}
use Rattle.host_laws.proofs.Failed.{StreamLaws, not_failed}
use Rattle.host_laws.proofs.Hosted.{hosted}
use Rattle.host_laws.proofs.laws.hosts_serve.Goals as goal

pub returns : goal.returns
returns c own batch d paths asked items exchanges ends t =
    let laws : PacketLaws = record { prefix = c.prefix_free.ensures; reading = c.one_reading.ensures } in
    let stream : StreamLaws = record { apart = c.no_packet.ensures.apart; fault = c.no_packet.ensures.fault } in
    let hands = c.handshakes_are_good.ensures in
    let f = hosted laws c.spells.ensures hands c.replies_are_good.ensures c.lists_are_good.ensures own batch d paths asked
    t.texts t.names t.talk.end t.talk.over
    (λ seen end why. not_failed laws stream c.spells.ensures hands c.client_requests.ensures.hello own batch seen end why)
    no_caps items exchanges ends asked (λ p. apart_once p asked t.apart) (λ p some. some_contains p asked some)
    t.talk.spells t.hosts t.talk.goes t.memory
    (asks_paths asked paths d exchanges (Between asked) t.talk.end t.names t.talk.goes (λ p some. some_contains p asked some))
    t.requests in (
      f.unbroken,
      λ none p is.
          let v = f.served none p in
          let on = v.once in
          let apart = apart_once p asked t.apart in (
            v.told Untold (λ e. cc e) (λ e. cc e),
            (v.listed, v.redone, omega (arith, on, apart)),
          ),
    )

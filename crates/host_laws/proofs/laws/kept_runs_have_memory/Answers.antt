use Rattle.std.proofs.Common.{false, drop, refl}
use Rattle.checkout_core.specs.Fates.{Untold}
use Rattle.one_shot.specs.Onces.{RunsListed}
use Rattle.one_shot.specs.Works.{work_told}
use Rattle.host_laws.proofs.KeptTalks.{all_told, are_once}
use Rattle.host_laws.proofs.PlainCaps.{HandLaws, talk_plain}
use Rattle.host_laws.proofs.Remembered.{goes}
use Rattle.host_laws.proofs.laws.kept_runs_have_memory.Goals as goal

pub returns : goal.returns
returns c runs command d paths asked items exchanges t apart kept =
    let hosts = are_once runs (drop 1 command)
    (λ bytes choices text end host. c.told_answers_fit.ensures (RunsListed runs) (drop 1 command) 1 bytes choices text end (all_told runs) host)
    paths exchanges items t.full t.left t.fills t.served t.starts t.talk.spells in
    let laws : HandLaws = record { reads = c.one_exchange.ensures.handshake; one = c.one_part.ensures.handshake } in
    goes d asked t.talk.end exchanges false (λ p. Untold) asked
    (record { apart = apart; among = λ p is. is; fresh = λ p is. refl })
    (talk_plain laws (work_told (RunsListed runs) (drop 1 command)) paths exchanges t.full t.talk.spells hosts) t.talk.goes kept

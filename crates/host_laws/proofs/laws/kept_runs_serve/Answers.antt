use Rattle.std.proofs.Common.{drop}
use Rattle.one_shot.specs.Onces.{RunsListed}
use Rattle.host_laws.proofs.KeptTalks.{all_told, are_once}
use Rattle.host_laws.proofs.laws.kept_runs_serve.Goals as goal

pub returns : goal.returns
returns c runs command d paths asked items exchanges t memory =
    c.single_runs_serve.ensures (RunsListed runs) (drop 1 command) d paths asked t.full exchanges (record {
      names = t.names;
      told = λ p here. all_told runs _ _;
      talk = t.talk;
      hosts = are_once runs (drop 1 command)
          (λ bytes choices text end host. c.told_answers_fit.ensures (RunsListed runs) (drop 1 command) 1 bytes choices text end (all_told runs) host)
          paths exchanges items t.full t.left t.fills t.served t.starts t.talk.spells;
      memory = memory;
    })

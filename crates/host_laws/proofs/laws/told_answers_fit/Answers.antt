use Rattle.driver_host.specs.HostText.{Fresh}
use Rattle.driver_host.specs.Chosen.{none_asked}
use Rattle.host_laws.proofs.OnceFits.{fitting}
use Rattle.host_laws.proofs.laws.told_answers_fit.Goals as goal

pub returns : goal.returns
returns c tells command batch bytes choices text end told host =
    fitting tells command batch told host.is.requests Fresh host.is.stage choices host.is.answers none_asked host.contents
    tt host.is.answered host.chosen

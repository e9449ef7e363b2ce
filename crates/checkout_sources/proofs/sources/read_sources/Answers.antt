use Rattle.std.proofs.Common.{◌∙◌}
use Rattle.attr_line.specs.declared.file.AttrFile.{AttrFile}
use Rattle.checkout_sources.specs.declared.sources.Sources.{Sources}
use Rattle.checkout_sources.proofs.PlanFaults.{stops_behind}
use Rattle.checkout_sources.proofs.sources.read_sources.Goals as goal

pub returns-in-Err-clause-stops : goal.returns-in-Err-clause-stops
returns-in-Err-clause-stops g c =
    stops_behind AttrFile Sources (g.R.Repo.told c.args.repo.now) (g.R.Repo.told c.read_settings.new.repo) (g.R.Repo.seen c.args.repo.now) (g.R.Repo.seen c.read_settings.new.repo)
    (g.R.Repo.seen c.read_info.new.repo) c.in-Err.stop (c.in_ok-config.ensures.told ∙ c.in_ok-index.ensures.told)
    (c.in_ok-config.ensures.stops ∙ c.in_ok-index.ensures.stops) c.in-Err.ensures.stops

pub returns-in-Err-read_base-clause-stops : goal.returns-in-Err-read_base-clause-stops
returns-in-Err-read_base-clause-stops g c =
    stops_behind AttrFile Sources (g.R.Repo.told c.args.repo.now) (g.R.Repo.told c.read_info.new.repo) (g.R.Repo.seen c.args.repo.now) (g.R.Repo.seen c.read_info.new.repo)
    (g.R.Repo.seen c.read_base.new.repo) c.in-Err-read_base.stop
    (c.in-Ok.ensures.told ∙ c.in_ok-config.ensures.told ∙ c.in_ok-index.ensures.told)
    (c.in-Ok.ensures.stops ∙ c.in_ok-config.ensures.stops ∙ c.in_ok-index.ensures.stops) c.in-Err-read_base.ensures.stops

use Rattle.checkin_paths.specs.CleanedFiles.{cleaning}
use Rattle.checkin_paths.proofs.Looked.{asked_cleans}
use Rattle.checkin_paths.proofs.cleaned_file.clean_file.Goals as goal

pub returns-clause-cleans : goal.returns-clause-cleans
returns-clause-cleans g c =
    asked_cleans (cleaning c.args.visit.now.drivers.now (g.P.Spawner.told c.args.spawner.now) (g.O.Once.told c.args.once.now)) _ _ c.args.visit.now.path.now.path c.args.driver c.in-Some.driver c.in-Some.is c.text_at.result.now c.as_slice.result.now
    c.deref.result.now c.args.bytes.items c.clean-answer.result c.given.result c.text_at.ensures c.as_slice.ensures c.deref.ensures.value c.clean-answer.ensures.asks c.given.ensures

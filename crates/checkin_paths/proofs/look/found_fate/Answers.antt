use Rattle.checkin_paths.proofs.Looked.{there_becomes, there_nothing}
use Rattle.checkin_paths.proofs.look.found_fate.Goals as goal

pub returns-in-There-clause-becomes : goal.returns-in-There-clause-becomes
returns-in-There-clause-becomes g c =
    there_becomes _ _ _ _ c.args.visit.now.path.now c.args.storing c.args.found c.in-There.bytes c.in-There.old c.in-There.is c.clean_file-cleaned.result c.cleaned_fate.result c.clean_file-cleaned.ensures.cleans c.cleaned_fate.ensures

pub returns-in-There-clause-vain : goal.returns-in-There-clause-vain
returns-in-There-clause-vain g c =
    there_nothing _ _ _ _ c.args.visit.now.path.now c.args.storing c.args.found c.in-There.bytes c.in-There.old c.in-There.is c.clean_file-cleaned.result c.cleaned_fate.result c.clean_file-cleaned.ensures.cleans

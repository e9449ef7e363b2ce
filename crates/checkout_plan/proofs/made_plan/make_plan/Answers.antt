use Rattle.std.proofs.Common.{◌≡◌, List, ◌++◌, ap, ◌∙◌, subst}
use Rattle.git_index.specs.declared.entry.Entry.{Entry}
use Rattle.checkout_plan.specs.Paths.{plan_by}
use Rattle.checkout_plan.specs.Making.{HasPlanFault, blobs_of}
use Rattle.checkout_plan.specs.Seen.{ReadsAll}
use Rattle.checkout_plan.proofs.Files.{all_returned}
use Rattle.checkout_plan.proofs.Whole.{plan_made, plan_returned}
use Rattle.checkout_plan.proofs.made_plan.make_plan.Goals as goal

pub returns-in-Err-clause-made : goal.returns-in-Err-clause-made
returns-in-Err-clause-made g c =
    subst (λ (es : List Entry). HasPlanFault (g.R.Repo.told c.args.repo.now).object es c.args.outer c.args.settings.now c.in-Err.fault) c.entries-entries.ensures (c.in-Err.ensures.read c.args.outer c.args.settings.now)

pub returns-in-Ok-plan_by-clause-made : goal.returns-in-Ok-plan_by-clause-made
returns-in-Ok-plan_by-clause-made g c =
    let object = (g.R.Repo.told c.args.repo.now).object in
    plan_made object c.args.index.now c.args.outer c.args.settings.now c.in-Ok.files c.in-Ok-plan_by.plan c.within_limit.result
    (subst (λ (es : List Entry). ReadsAll object es c.args.outer c.in-Ok.files) c.entries-entries.ensures c.in-Ok.ensures.read)
    (subst (λ (es : List Entry). c.in-Ok-plan_by.plan ≡ plan_by c.in-Ok.files c.args.settings.now es) c.entries-entries.ensures c.in-Ok-plan_by.ensures) c.within_limit.ensures

pub returns-in-Ok-plan_by-clause-returned : goal.returns-in-Ok-plan_by-clause-returned
returns-in-Ok-plan_by-clause-returned g c =
    plan_returned c.args.index.now (g.R.Repo.seen c.args.repo.now).returned (g.R.Repo.seen c.attribute_files.new.repo).returned c.in-Ok-plan_by.plan c.within_limit.result c.within_limit.ensures
    (c.in-Ok.ensures.returned ∙ ap (λ (es : List Entry). (g.R.Repo.seen c.args.repo.now).returned ++ blobs_of es) c.entries-entries.ensures)

pub returns-in-Err-plan_by-clause-returned : goal.returns-in-Err-plan_by-clause-returned
returns-in-Err-plan_by-clause-returned g c =
    all_returned c.args.index.now (g.R.Repo.seen c.args.repo.now).returned (g.R.Repo.seen c.attribute_files.new.repo).returned
    (c.in-Ok.ensures.returned ∙ ap (λ (es : List Entry). (g.R.Repo.seen c.args.repo.now).returned ++ blobs_of es) c.entries-entries.ensures)

use Rattle.std.proofs.Common.{List, length, sym, subst}
use Rattle.std.specs.List.{All}
use Rattle.checkout_plan.specs.declared.path_plan.PathPlan.{PathPlan}
use Rattle.checkout_plan.specs.Seen.{IsWithin}
use Rattle.checkout_plan.proofs.Numbered.{all_within}
use Rattle.checkout_plan.proofs.made_plan.plan_by.Goals as goal

pub plan_with-requires : goal.plan_with-requires
plan_with-requires c =
    subst (λ (ps : List PathPlan). All (IsWithin (length c.args.settings.now.drivers)) ps) (sym c.in_ok-asked.ensures) (all_within c.args.files c.args.settings.now c.args.entries.now)

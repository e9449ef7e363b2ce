use Rattle.std.proofs.Common.{◌≡◌, ℕ, Bool, List, length, map, ap, sym, ◌∙◌, subst}
use Rattle.std.specs.List.{All}
use Rattle.settings_view.specs.declared.view.Driver.{Driver}
use Rattle.checkout_plan.specs.declared.path_plan.PathPlan.{PathPlan}
use Rattle.checkout_plan.specs.Paths.{used_from}
use Rattle.checkout_plan.specs.Seen.{AreUsed, AreNumbers, IsWithin, renumbered}
use Rattle.checkout_plan.proofs.Numbered.{plan_is}
use Rattle.checkout_plan.proofs.made_plan.plan_with.Goals as goal

pub returns : goal.returns
returns c = λ files skipped.
    let asked = c.args.asked.items in
    let drivers = c.as_slice-drivers.ensures in
    let used : AreUsed c.in_ok-used.used.items asked = subst (λ (ps : List PathPlan). AreUsed c.in_ok-used.used.items ps) c.deref.ensures.value c.in_ok-used.ensures.used in
    let numbers : AreNumbers c.in_ok-numbers.numbers.items asked = c.in_ok-numbers.ensures.numbers asked (subst (λ (bs : List Bool). AreUsed bs asked) (sym c.deref-2.ensures.value) used) in
    let kept : c.in_ok-kept.kept.items ≡ used_from 0 asked c.args.settings.now.drivers =
    c.in_ok-kept.ensures asked (subst (λ (bs : List Bool). AreUsed bs asked) (sym c.deref-3.ensures.value) used) ∙ ap (λ (ds : List Driver). used_from 0 asked ds) drivers in
    let many : length c.args.settings.now.drivers ≡ length c.in_ok-numbers.numbers.items =
    sym (c.in_ok-numbers.ensures.length ∙ ap (λ (bs : List Bool). length bs) c.deref-2.ensures.value ∙ c.in_ok-used.ensures.length ∙ ap (λ (ds : List Driver). length ds) drivers) in
    plan_is files asked c.numbered.result c.args.settings.now c.from_vec.result c.in_ok-numbers.numbers.items c.args.skipped_lines
    (subst (λ (n : ℕ). All (IsWithin n) asked) many c.requires) numbers (c.numbered.ensures ∙ ap (λ (ns : List ℕ). map (renumbered ns) asked) c.deref-4.ensures.value) (c.from_vec.ensures ∙ kept) skipped

use Rattle.std.proofs.Common.{◌≡◌, IfOk, List, map, ap, subst, ◌∙◌}
use Rattle.attr_stack.specs.Decided.{state_of}
use Rattle.checkout_plan.specs.declared.path_plan.PathPlan.{PathPlan}
use Rattle.checkout_plan.proofs.States.{file_by_states}
use Rattle.checkout_plan.proofs.paths.Asking.file_path.Goals as goal
use Rattle.std.proofs.Common.{ℕ}

pub returns-clause-path : goal.returns-clause-path
returns-clause-path c =
    let files = c.args.self.now.stack in
    let e = c.args.entry.now in
    subst (λ (q : PathPlan). IfOk c.path_by.result (λ path. path ≡ q))
    (file_by_states files c.args.self.now.settings.now e c.deref-2.result.now
    (c.deref-2.ensures.value ∙ c.in_ok-states.ensures.states ∙ ap (λ (p : List ℕ). map (state_of files p) c.deref.result.now) c.as_slice-path.ensures ∙ ap (λ (names : List (List ℕ)). map (state_of files e.path) names) (c.deref.ensures.value ∙ c.requires.names)))
    c.path_by.ensures

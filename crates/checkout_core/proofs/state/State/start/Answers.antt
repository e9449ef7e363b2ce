use Rattle.std.proofs.Common.{◌≡◌, ◌∙◌, ap, map, List}
use Rattle.checkout_core.specs.declared.path.Path.{Path}
use Rattle.checkout_core.specs.declared.path.Start.{Start}
use Rattle.checkout_core.specs.States.{path_of, unclosed_count}
use Rattle.checkout_core.proofs.Starts.{start_sound, start_is}
use Rattle.checkout_core.proofs.state.State.start.Goals as goal

pub invariant_of-result : goal.invariant_of-result
invariant_of-result c =
    let ps : c.in_ok-paths.paths.items ≡ map path_of c.args.starts.items = c.in_ok-paths.ensures
    ∙ ap (λ (ss : List Start). map path_of ss) c.as_slice.ensures.value in
    start_sound c.args.workers c.args.drivers c.unclosed_count-unclosed.result c.args.starts.items
    c.in_ok-paths.paths.items c.in_ok-states.states.items c.in_ok-cursors.cursors.items c.requires.few_workers
    c.requires.few_drivers c.requires.few_paths ps c.in_ok-states.ensures c.in_ok-cursors.ensures
    (c.unclosed_count-unclosed.ensures ∙ ap (λ (rs : List Path). unclosed_count rs) c.as_slice-2.ensures.value)

pub returns : goal.returns
returns c =
    let ps : c.in_ok-paths.paths.items ≡ map path_of c.args.starts.items = c.in_ok-paths.ensures
    ∙ ap (λ (ss : List Start). map path_of ss) c.as_slice.ensures.value in
    start_is c.args.workers c.args.drivers c.args.starts.items c.in_ok-paths.paths.items c.in_ok-states.states.items
    ps c.in_ok-states.ensures

use Rattle.std.proofs.Common.{◌≡◌, ◌+◌, ◌≤◌, drop}
use Rattle.checkout_core.specs.States.{unclosed_count}
use Rattle.checkout_core.proofs.state.start.unclosed_count.Given as goal

abbrev pub invariant-loop-path : goal.invariant-loop-path
invariant-loop-path l = record {
  counted : l.count + unclosed_count
      (drop l.path-index l.paths) ≡ unclosed_count l.paths;
  few : l.count ≤ l.path-index;
}

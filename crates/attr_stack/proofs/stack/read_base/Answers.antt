use Rattle.std.proofs.Common.{[]}
use Rattle.std.proofs.lemmas.Bool.{OnTrue_at}
use Rattle.attr_stack.specs.Pairs.{file_pairs}
use Rattle.attr_stack.specs.Seen.{state_at}
use Rattle.attr_stack.specs.Search.{is_asked}
use Rattle.attr_stack.proofs.Readings.{leads-done, leads-none}
use Rattle.attr_stack.proofs.stack.read_base.Goals as goal

pub returns-then-is_done : goal.returns-then-is_done
returns-then-is_done c = λ lines are.
    let pairs = file_pairs c.args.path.now c.args.base.now in
    let states = state_at c.args.states.now.decided in (
      are,
      leads-done lines c.args.names.now pairs pairs [] states states (OnTrue_at c.if-is_done.true c.is_done.ensures)
          (leads-none lines (is_asked c.args.names.now) pairs states),
    )

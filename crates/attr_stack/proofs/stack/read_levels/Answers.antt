use Rattle.std.proofs.Common.{◌≡◌, ◌+◌, ◌-◌, ◌<◌, ℕ, [], ◌++◌, length, reverse, take, sym, ◌∙◌, ap, arith}
use Rattle.std.proofs.lemmas.Bool.{OnTrue_at}
use Rattle.std.specs.List.{flat_map}
use Rattle.attr_stack.specs.Levels.{level_pairs}
use Rattle.attr_stack.specs.Search.{is_asked}
use Rattle.attr_stack.specs.Seen.{state_at}
use Rattle.attr_stack.proofs.Lists.{last-first}
use Rattle.attr_stack.proofs.Readings.{leads-on, leads-turn, leads-done}
use Rattle.attr_stack.proofs.stack.read_levels.Goals as goal

pub returns-then-is_done : goal.returns-then-is_done
returns-then-is_done c = λ lines are.
    let before = c.loop-place.invariant lines are in
    (before.0, leads-done lines c.args.names.now _ _ [] _ _ (OnTrue_at c.if-is_done.true c.is_done.ensures) before.1)

pub loop-place-preserved : goal.loop-place-preserved
loop-place-preserved c = λ lines are.
    let before = c.loop-place.invariant lines are in
    let read = c.in_ok-read_level.ensures lines before.0 in
    let names = is_asked c.args.names.now in
    let levels = c.args.levels.now in
    let given = level_pairs c.args.path.now in
    let level = c.level_at.result.now in
    let i = c.loop-place.place - 1 in
    let within : i < length levels = omega (arith, c.loop-place.auto.place, c.loop-place-test.true) in
    let next : i + 1 ≡ c.loop-place.place = omega (arith, c.loop-place-test.true) in
    let turned : flat_map given (reverse (take c.loop-place.place levels)) ≡ given level ++ flat_map given (reverse (take i levels)) =
    ap (λ (n : ℕ). flat_map given (reverse (take n levels))) (sym next) ∙ last-first given levels i level c.level_at.ensures within in (
      read.0,
      leads-on lines names (flat_map given (reverse levels)) (given level) (flat_map given (reverse (take i levels))) (state_at c.args.states.now.decided) (state_at c.loop-place.states.decided) (state_at c.read_level.new.states.decided)
          (leads-turn lines names _ _ _ _ _ turned before.1) read.1,
    )

pub returns : goal.returns
returns c = λ lines are.
    let before = c.loop-place.invariant lines are in
    let levels = c.args.levels.now in
    let given = level_pairs c.args.path.now in
    let none : c.loop-place.place ≡ 0 = omega (arith, c.loop-place-test.false, c.loop-place.auto.place) in
    let turned : flat_map given (reverse (take c.loop-place.place levels)) ≡ [] = ap (λ (n : ℕ). flat_map given (reverse (take n levels))) none in
    (before.0, leads-turn lines (is_asked c.args.names.now) _ _ _ _ _ turned before.1)

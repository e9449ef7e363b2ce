use Rattle.std.proofs.Common.{◌≡◌, ◌+◌, ◌-◌, ◌<◌, ℕ, [], ◌∷◌, ◌++◌, get_or, length, reverse, take, sym, ◌∙◌, ap, rules, arith}
use Rattle.attr_stack.specs.Search.{is_asked}
use Rattle.attr_stack.specs.Seen.{state_at}
use Rattle.attr_stack.proofs.Lists.{reverse-take}
use Rattle.attr_stack.proofs.Readings.{leads-on, leads-turn}
use Rattle.attr_stack.proofs.decide.read_rule.Goals as goal

pub loop-place-preserved : goal.loop-place-preserved
loop-place-preserved c = λ lines are.
    let before = c.loop-place.invariant lines are in
    let read = c.in_ok-read_pair.ensures lines before.0 in
    let names = is_asked c.args.names.now in
    let pairs = c.args.pairs.now in
    let pair = c.index-pairs-place.result in
    let i = c.loop-place.place - 1 in
    let here : pair ≡ get_or pairs i pair = search rules in
    let within : i < length pairs = omega (arith, c.loop-place.auto.place, c.loop-place-test.true) in
    let next : i + 1 ≡ c.loop-place.place = omega (arith, c.loop-place-test.true) in
    let turned : reverse (take c.loop-place.place pairs) ≡ (pair ∷ []) ++ reverse (take i pairs) =
    ap (λ (n : ℕ). reverse (take n pairs)) (sym next) ∙ reverse-take pairs i pair here within in (
      read.0,
      leads-on lines names (reverse pairs) (pair ∷ []) (reverse (take i pairs)) (state_at c.args.states.now.decided) (state_at c.loop-place.states.decided) (state_at c.read_pair.new.states.decided)
          (leads-turn lines names _ _ _ _ _ turned before.1) read.1,
    )

pub returns : goal.returns
returns c = λ lines are.
    let before = c.loop-place.invariant lines are in
    let pairs = c.args.pairs.now in
    let none : c.loop-place.place ≡ 0 = omega (arith, c.loop-place-test.false, c.loop-place.auto.place) in
    let turned : reverse (take c.loop-place.place pairs) ≡ [] = ap (λ (n : ℕ). reverse (take n pairs)) none in
    (before.0, leads-turn lines (is_asked c.args.names.now) _ _ _ _ _ turned before.1)

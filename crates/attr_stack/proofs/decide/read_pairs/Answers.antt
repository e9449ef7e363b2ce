use Rattle.std.proofs.Common.{◌≡◌, [], ◌∷◌, ◌++◌, ◌∙◌, ap, arith}
use Rattle.std.proofs.lemmas.List.{nil_from_length}
use Rattle.attr_stack.specs.Search.{is_asked}
use Rattle.attr_stack.specs.Seen.{from_end, state_at}
use Rattle.attr_stack.proofs.Lists.{from_end-push}
use Rattle.attr_stack.proofs.Readings.{leads-turn, leads-on, leads-none}
use Rattle.attr_stack.proofs.decide.read_pairs.Goals as goal

pub reading-init : goal.reading-init
reading-init c = λ lines are. (are, leads-none lines (is_asked c.args.names.now) (from_end c.args.pending.now.items) (state_at c.args.states.now.decided))

pub reading-preserved : goal.reading-preserved
reading-preserved c = λ lines are.
    let before = c.reading.invariant lines are in
    let names = is_asked c.args.names.now in
    let pair = c.in-Some.pair in
    let left = from_end c.pop.new.self.items in
    let read = c.in_ok-read_pair.ensures lines before.0 in
    let turned : from_end c.reading.pending.items ≡ (pair.now ∷ []) ++ left = ap from_end c.in-Some.ensures.items ∙ from_end-push c.pop.new.self.items pair in (
      read.0,
      leads-on lines names (from_end c.args.pending.now.items) (pair.now ∷ []) left (state_at c.args.states.now.decided) (state_at c.reading.states.decided) (state_at c.read_pair.new.states.decided)
          (leads-turn lines names _ _ _ _ _ turned before.1) read.1,
    )

pub returns : goal.returns
returns c = λ lines are.
    let before = c.reading.invariant lines are in
    let empty : c.reading.pending.items ≡ [] = nil_from_length c.reading.pending.items (omega (arith, c.in_default.ensures.cases.0)) in
    (before.0, leads-turn lines (is_asked c.args.names.now) _ _ _ _ _ (ap from_end empty) before.1)

use Rattle.std.proofs.Common.{◌≡◌, ◌+◌, ℕ, suc, Some, false, sym, ap, ◌∙◌, subst, arith, take}
use Rattle.std.proofs.lemmas.Option.{slice_get-get_or}
use Rattle.delay_table.specs.Table.{contains}
use Rattle.delay_table.proofs.Turns.{contains_next}
use Rattle.delay_table.proofs.order.first_of.Goals as goal

pub loop-at-preserved : goal.loop-at-preserved
loop-at-preserved c =
    let i = c.loop-at.at in
    let next : i + 1 ≡ suc i = omega arith in
    record {
      within = omega (arith, c.loop-at-test.true);
      before = subst (λ (k : ℕ). contains c.args.place (take k c.args.turns.now) ≡ false) (sym next)
          (contains_next c.args.place i c.args.turns.now _ c.loop-at.invariant.before
          (slice_get-get_or c.args.turns.now i 0 c.loop-at-test.true) c.if-turns-at.true);
    }

pub returns-else-turns-at-clause-there : goal.returns-else-turns-at-clause-there
returns-else-turns-at-clause-there c lt = slice_get-get_or c.args.turns.now c.loop-at.at 0 lt
    ∙ ap (λ x. Some x) c.if-turns-at.false

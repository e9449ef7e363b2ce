use Rattle.std.proofs.Common.{◌<◌, ◌++◌, ◌∷◌, [], length, length-append, sym, ap, ◌∙◌, arith}
use Rattle.std.specs.Prelude.{slice_get}
use mathlib.Core.Logic.{dite}
use native.Mathlib.Decide.{ℕ_discrete}
use Rattle.checkout_core.specs.States.{verdict_at}
use Rattle.writer_pool.proofs.Places.{get_last, get_within, get_past, less_or, split}
use Rattle.writer_pool.proofs.Verdicts.{past_verdict}
use Rattle.writer_pool.proofs.pool_end.verdicts_of.Goals as goal

pub loop-path-preserved : goal.loop-path-preserved
loop-path-preserved g c =
    let i = c.loop-path.invariant in
    let xs = c.loop-path.verdicts.items in
    let v = c.in-Some.verdict in
    let e = c.push_reserved.ensures.items in
    record {
      count = omega (arith, ap length e, length-append xs (v ∷ []), i.count);
      room = c.push_reserved.ensures.capacity ∙ i.room;
      each = λ p lt. ap (λ l. slice_get l p) e ∙ dite (ℕ_discrete p c.loop-path.path)
          (λ same. ap (slice_get (xs ++ v ∷ [])) (same ∙ sym i.count) ∙ (get_last xs v
          ∙ (sym c.in-Some.is ∙ (c.verdict.ensures ∙ ap (verdict_at c.args.ended.now.shelf.core) (sym same)))))
          (λ other. let n : p < c.loop-path.path = less_or p c.loop-path.path other lt in
          get_within xs (v ∷ []) p (omega (arith, i.count, n)) ∙ i.each p n);
    }

pub returns : goal.returns
returns g c p =
    let i = c.loop-path.invariant in
    let core = c.args.ended.now.shelf.core in
    split p c.loop-path.path
    (λ lt. i.each p lt)
    (λ ge. get_past c.loop-path.verdicts.items p (omega (arith, i.count))
    ∙ sym (past_verdict core p (omega (arith, c.requires.count, c.loop-path-test.false))))

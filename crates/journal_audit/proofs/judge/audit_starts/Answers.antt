use Rattle.std.proofs.Common.{◌≡◌, ◌++◌, ◌∷◌, [], length, ap, ◌∙◌, arith, rules, List}
use Rattle.std.proofs.lemmas.List.{length_push}
use Rattle.checkout_core.specs.declared.path.Start.{Start}
use Rattle.journal_audit.specs.Journal.{start_fits}
use Rattle.std.specs.List.{list_all}
use Rattle.journal_audit.proofs.Steps.{left_none, left_more, all_push, below_all}
use Rattle.journal_audit.proofs.judge.audit_starts.Goals as goal

pub returns-in_default : goal.returns-in_default
returns-in_default c =
    left_none c.args.head.workers c.args.head.drivers c.args.head.paths c.loop-at.at c.loop-at.starts.items c.loop-at.rest.now c.loop-at-test.true
    c.loop-at.invariant.count c.in_default.ensures.next
    ∙ c.loop-at.invariant.same

pub loop-at-preserved : goal.loop-at-preserved
loop-at-preserved c =
    let pushed : c.push.new.self.items ≡ c.loop-at.starts.items ++ c.in-Some.start ∷ [] = search rules in
    let drivers = c.args.head.drivers in
    record {
      count = ap (λ (xs : List Start). length xs) pushed ∙ omega (arith, length_push c.loop-at.starts.items c.in-Some.start, c.loop-at.invariant.count);
      short = omega (arith, c.in-Some.ensures.within, c.loop-at.invariant.short);
      right = ap (λ (xs : List Start). list_all (λ s. start_fits drivers s) xs) pushed
          ∙ all_push (λ s. start_fits drivers s) c.loop-at.starts.items c.in-Some.start c.loop-at.invariant.right c.in-Some.ensures.below;
      same = left_more c.args.head.workers drivers c.args.head.paths c.loop-at.at c.loop-at.starts.items c.push.new.self.items c.loop-at.rest.now
          c.in-Some.behind.now c.in-Some.start c.loop-at-test.true pushed c.in-Some.ensures.next
          ∙ c.loop-at.invariant.same;
    }

pub start-requires-clause-below : goal.start-requires-clause-below
start-requires-clause-below c = below_all c.args.head.drivers c.loop-at.starts.items c.loop-at.invariant.right

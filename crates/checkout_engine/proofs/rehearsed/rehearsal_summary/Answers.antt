use Rattle.std.proofs.Common.{List, ◌∙◌, ap, rules}
use Rattle.checkout_core.specs.declared.verdict.Verdict.{Verdict}
use Rattle.checkout_engine.specs.Rehearsed.{summary}
use Rattle.checkout_engine.proofs.rehearsed.rehearsal_summary.Goals as goal

pub returns : goal.returns
returns g c = record {
  run = c.in_ok-run.run';
  tree = _;
  rehearsed = c.in_ok-run.ensures;
  fs = c.files.result.now;
  has = search rules;
  is = c.in_ok-text.ensures ∙ ap (λ (vs : List Verdict). summary c.args.paths vs c.files.result.now) c.deref.ensures.value;
}

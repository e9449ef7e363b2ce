use Rattle.std.proofs.Common.{◌∙◌, ap₂}
use Rattle.std.proofs.lemmas.Result.{IfOk-weaker}
use Rattle.clap.specs.Words.{with_rule}
use Rattle.siuwbren_words.proofs.Local.{local_still}
use Rattle.siuwbren_words.specs.Parser.{plan_source}
use Rattle.siuwbren_words.proofs.parser.plan_source.Goals as goal

pub returns : goal.returns
unfolding plan_source
returns c =
    let first_is = c.in_ok-first.ensures.shape c.git_dir-dir.ensures.local ∙ ap₂ with_rule c.new-bare.ensures.app c.git_dir-dir.ensures.rule in
    let first_local = local_still _ _ _ c.in_ok-first.ensures c.new-bare.ensures.local c.git_dir-dir.ensures.local in
    record {
      app = IfOk-weaker c.arg-2.result _ _ (λ r h. h.shape c.option-commit.ensures.local ∙ ap₂ with_rule first_is c.option-commit.ensures.rule)
          c.arg-2.ensures;
      local = IfOk-weaker c.arg-2.result _ _ (λ r h. local_still _ _ _ h first_local c.option-commit.ensures.local) c.arg-2.ensures;
    }

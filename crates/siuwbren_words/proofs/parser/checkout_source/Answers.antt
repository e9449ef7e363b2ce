use Rattle.std.proofs.Common.{◌∙◌, ap₂}
use Rattle.std.proofs.lemmas.Result.{IfOk-weaker}
use Rattle.clap.specs.Words.{with_rule}
use Rattle.siuwbren_words.proofs.Local.{local_still}
use Rattle.siuwbren_words.specs.Parser.{checkout_source}
use Rattle.siuwbren_words.proofs.parser.checkout_source.Goals as goal

pub returns : goal.returns
unfolding checkout_source
returns c =
    let first_is = c.in_ok-first.ensures.shape c.git_dir-dir.ensures.local ∙ ap₂ with_rule c.new-bare.ensures.app c.git_dir-dir.ensures.rule in
    let first_local = local_still _ _ _ c.in_ok-first.ensures c.new-bare.ensures.local c.git_dir-dir.ensures.local in
    let second_is = c.in_ok-second.ensures.shape c.option-commit.ensures.local ∙ ap₂ with_rule first_is c.option-commit.ensures.rule in
    let second_local = local_still _ _ _ c.in_ok-second.ensures first_local c.option-commit.ensures.local in
    record {
      app = IfOk-weaker c.arg-3.result _ _ (λ r h. h.shape c.option-workers.ensures.local ∙ ap₂ with_rule second_is c.option-workers.ensures.rule)
          c.arg-3.ensures;
      local = IfOk-weaker c.arg-3.result _ _ (λ r h. local_still _ _ _ h second_local c.option-workers.ensures.local) c.arg-3.ensures;
    }

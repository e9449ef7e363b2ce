use Rattle.std.proofs.Common.{◌∙◌, ap₂}
use Rattle.std.proofs.lemmas.Result.{IfOk-weaker}
use Rattle.clap.specs.Words.{with_rule}
use Rattle.siuwbren_words.proofs.Local.{local_still}
use Rattle.siuwbren_words.specs.Parser.{plan_app}
use Rattle.siuwbren_words.proofs.parser.plan.Goals as goal

pub returns : goal.returns
unfolding plan_app
returns c =
    let first_is = c.in_ok-first.ensures.shape c.option-report.ensures.local ∙ ap₂ with_rule (c.with_texts-told.ensures.app ∙ c.in_ok-source.ensures.app) c.option-report.ensures.rule in
    let first_local = local_still _ _ _ c.in_ok-first.ensures (c.with_texts-told.ensures.local ∙ c.in_ok-source.ensures.local) c.option-report.ensures.local in
    record {
      app = IfOk-weaker c.arg-2.result _ _ (λ r h. h.shape c.nul-nul.ensures.local ∙ ap₂ with_rule first_is c.nul-nul.ensures.rule)
          c.arg-2.ensures;
      local = IfOk-weaker c.arg-2.result _ _ (λ r h. local_still _ _ _ h first_local c.nul-nul.ensures.local) c.arg-2.ensures;
    }

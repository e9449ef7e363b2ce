use Rattle.std.proofs.Common.{◌∙◌, ap₂}
use Rattle.std.proofs.lemmas.Result.{IfOk-weaker}
use Rattle.clap.specs.Words.{with_rule}
use Rattle.siuwbren_words.proofs.Local.{local_still}
use Rattle.siuwbren_words.specs.Parser.{checkout_progress}
use Rattle.siuwbren_words.proofs.parser.checkout_progress.Goals as goal

pub returns : goal.returns
unfolding checkout_progress
returns c =
    let first_is = c.in_ok-first.ensures.shape c.flag-shown.ensures.local ∙ ap₂ with_rule c.in_ok-report.ensures.app c.flag-shown.ensures.rule in
    let first_local = local_still _ _ _ c.in_ok-first.ensures c.in_ok-report.ensures.local c.flag-shown.ensures.local in
    let second_is = c.in_ok-second.ensures.shape c.flag-hidden.ensures.local ∙ ap₂ with_rule first_is c.flag-hidden.ensures.rule in
    let second_local = local_still _ _ _ c.in_ok-second.ensures first_local c.flag-hidden.ensures.local in
    record {
      app = IfOk-weaker c.arg-3.result _ _ (λ r h. h.shape c.quiet-quiet.ensures.local ∙ ap₂ with_rule second_is c.quiet-quiet.ensures.rule)
          c.arg-3.ensures;
      local = IfOk-weaker c.arg-3.result _ _ (λ r h. local_still _ _ _ h second_local c.quiet-quiet.ensures.local) c.arg-3.ensures;
    }

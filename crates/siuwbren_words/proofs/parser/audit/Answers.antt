use Rattle.std.proofs.Common.{◌∙◌, ap₂}
use Rattle.std.proofs.lemmas.Result.{IfOk-weaker}
use Rattle.clap.specs.Words.{with_rule}
use Rattle.siuwbren_words.proofs.Local.{local_still}
use Rattle.siuwbren_words.specs.Parser.{audit_app}
use Rattle.siuwbren_words.proofs.parser.audit.Goals as goal

pub returns : goal.returns
unfolding audit_app
returns c =
    record {
      app = IfOk-weaker c.arg.result _ _ (λ r h. h.shape c.place-file.ensures.local ∙ ap₂ with_rule (c.with_texts-told.ensures.app ∙ c.new-bare.ensures.app) c.place-file.ensures.rule)
          c.arg.ensures;
      local = IfOk-weaker c.arg.result _ _ (λ r h. local_still _ _ _ h (c.with_texts-told.ensures.local ∙ c.new-bare.ensures.local) c.place-file.ensures.local) c.arg.ensures;
    }

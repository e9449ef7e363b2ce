use Rattle.std.proofs.Common.{◌∙◌, ap, ap₂}
use Rattle.std.proofs.lemmas.Result.{IfOk-weaker}
use Rattle.clap.specs.Words.{App, with_subcommand}
use Rattle.siuwbren_words.specs.Parser.{siuwbren_app}
use Rattle.siuwbren_words.proofs.parser.siuwbren.Goals as goal

pub returns : goal.returns
unfolding siuwbren_app
returns c =
    let first_is = c.in_ok-first.ensures.shape c.in_ok-rehearse.ensures.local ∙ ap₂ with_subcommand c.in_ok-repository.ensures (ap (λ (a : App). a.top) c.in_ok-rehearse.ensures.app) in
    IfOk-weaker c.subcommand-2.result _ _ (λ r h. h.shape c.in_ok-audit.ensures.local
    ∙ ap₂ with_subcommand first_is (ap (λ (a : App). a.top) c.in_ok-audit.ensures.app)) c.subcommand-2.ensures

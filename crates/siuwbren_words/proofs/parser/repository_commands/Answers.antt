use Rattle.std.proofs.Common.{◌∙◌, ap, ap₂}
use Rattle.std.proofs.lemmas.Result.{IfOk-weaker}
use Rattle.clap.specs.Words.{App, with_subcommand}
use Rattle.siuwbren_words.specs.Parser.{repository_app}
use Rattle.siuwbren_words.proofs.parser.repository_commands.Goals as goal

pub returns : goal.returns
unfolding repository_app
returns c =
    let first_is = c.in_ok-first.ensures.shape c.in_ok-checkout.ensures.local ∙ ap₂ with_subcommand c.top-bare.ensures (ap (λ (a : App). a.top) c.in_ok-checkout.ensures.app) in
    let second_is = c.in_ok-second.ensures.shape c.in_ok-checkin.ensures.local ∙ ap₂ with_subcommand first_is (ap (λ (a : App). a.top) c.in_ok-checkin.ensures.app) in
    IfOk-weaker c.subcommand-3.result _ _ (λ r h. h.shape c.in_ok-plan.ensures.local
    ∙ ap₂ with_subcommand second_is (ap (λ (a : App). a.top) c.in_ok-plan.ensures.app)) c.subcommand-3.ensures

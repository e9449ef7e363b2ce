-- The program's parser is one of which `clap` says what it finds.
use Rattle.std.proofs.Common.{◌≡◌, true, refl}
use Rattle.clap.specs.Words.{is_simple_and_free}
use Rattle.siuwbren_words.specs.Parser.{audit_app, checkin_app, checkout_app, checkout_progress, checkout_report}
use Rattle.siuwbren_words.specs.Parser.{checkout_source, checkin_source, plan_source, plan_app, rehearse_app, repository_app, siuwbren_app, top_app}

pub siuwbren_simple : is_simple_and_free siuwbren_app ≡ true
unfolding siuwbren_app repository_app top_app checkout_app checkout_progress checkout_report checkout_source checkin_app checkin_source plan_source plan_app rehearse_app audit_app
siuwbren_simple = refl

use Rattle.std.proofs.Common.{◌≡◌, ap, ◌∙◌}
use Rattle.settings_view.specs.Drivers.{Said}
use Rattle.settings_view.specs.Seen.{said_by, said_if, said_at, said_with}
use Rattle.settings_view.proofs.Drafts.{names_taken, said_taken, said_by-unwrap_or}
use Rattle.settings_view.proofs.drivers.take_setting.Goals as goal

pub returns-clause-names : goal.returns-clause-names
returns-clause-names c = names_taken c.args.drafts.now c.insert.new.self c.args.setting.now c.in-Some.name c.with.result c.in-Some.ensures c.in_ok-insert.ensures.entries

pub returns-clause-said : goal.returns-clause-said
returns-clause-said c =
    let before : said_by c.unwrap_or-draft.result ≡ said_at c.args.drafts.now c.in-Some.name.now =
    ap said_by c.unwrap_or-draft.ensures ∙ said_by-unwrap_or c.copied.result ∙ ap said_if (c.copied.ensures ∙ c.get.ensures.value) in
    said_taken c.args.drafts.now c.insert.new.self c.args.setting.now c.in-Some.name.now c.with.result c.in-Some.ensures
    (c.with.ensures ∙ ap (λ (said : Said). said_with c.args.setting.now said) before)
    c.in_ok-insert.ensures.updates

use Rattle.std.proofs.Common.{◌∙◌, true, ap}
use Rattle.clap.specs.Words.{App}
use Rattle.clap.specs.Simple.{app_of_fields}
use Rattle.clap.specs.declared.builder.command.Command.{Command}
use Rattle.clap.specs.declared.builder.command.Command.TheOpen.{Command-F}
use Rattle.siuwbren_words.specs.Parser.{top_app}
use Rattle.siuwbren_words.proofs.parser.top.Goals as goal

abbrev needs_command : Command-F Command → App
needs_command f = app_of_fields (record f { no_binary_name = true; subcommand_required = true })

pub returns : goal.returns
unfolding top_app
returns c =
    ap app_of_fields c.subcommand_required.ensures
    ∙ (ap (λ (f : Command-F Command). app_of_fields (record f { subcommand_required = true })) c.no_binary_name.ensures
    ∙ (ap needs_command c.override_usage.ensures
    ∙ (ap needs_command c.about.ensures
    ∙ (ap needs_command c.version.ensures
    ∙ ap (λ (a : App). record {
      top = record a.top { no_binary_name = true; has_version = true; subcommand_required = true };
      subs = a.subs;
    }) c.new.ensures.app))))

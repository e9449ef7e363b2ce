use Rattle.std.proofs.Common.{◌∙◌, Some, ap}
use Rattle.clap.specs.Words.{Rule, rule_of}
use Rattle.clap.specs.declared.builder.action.ArgAction.TheVariants.{SetTrue}
use Rattle.clap.specs.declared.builder.arg.Arg.{Arg}
use Rattle.siuwbren_words.proofs.parser.flag.Goals as goal

pub returns : goal.returns
returns c = record {
  rule = ap rule_of c.help.ensures
      ∙ (ap rule_of c.action.ensures
      ∙ (ap (λ (a : Arg). rule_of (record a { action = Some SetTrue })) c.long.ensures
      ∙ ap (λ (r : Rule). record r { long = Some c.args.name.now; action = Some SetTrue }) c.new.ensures.rule));
  local = ap (λ (a : Arg). a.global) c.help.ensures
      ∙ (ap (λ (a : Arg). a.global) c.action.ensures
      ∙ (ap (λ (a : Arg). a.global) c.long.ensures ∙ c.new.ensures.optional.1));
}

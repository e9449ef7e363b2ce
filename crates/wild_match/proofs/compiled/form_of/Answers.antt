use Rattle.std.proofs.Common.{sym, ◌∙◌}
use Rattle.wild_match.proofs.Forms.{nothing_is, of_path, of_name}
use Rattle.wild_match.proofs.compiled.form_of.Goals as goal

pub path_form-requires : goal.path_form-requires
path_form-requires c =
    of_path c.args.pattern.now (sym c.is_of_nothing.ensures ∙ c.if-is_of_nothing.false) (sym c.contains.ensures.value ∙ c.if-contains.true)

pub name_form-requires : goal.name_form-requires
name_form-requires c =
    of_name c.args.pattern.now (sym c.is_of_nothing.ensures ∙ c.if-is_of_nothing.false) (sym c.contains.ensures.value ∙ c.if-contains.false)

pub returns-then-is_of_nothing : goal.returns-then-is_of_nothing
returns-then-is_of_nothing c = nothing_is c.args.pattern.now (sym c.is_of_nothing.ensures ∙ c.if-is_of_nothing.true)

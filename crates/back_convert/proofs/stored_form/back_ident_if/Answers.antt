use Rattle.std.proofs.Common.{◌≡◌, Bool, false, sym, ap, ◌∙◌}
use Rattle.back_convert.specs.Ident.{has_expanded}
use Rattle.back_convert.specs.Laws.{back_ident_if}
use Rattle.back_convert.proofs.Keywords.{back-none}
use Rattle.back_convert.proofs.stored_form.back_ident_if.Goals as goal

pub returns : goal.returns
returns c =
    let content = c.args.content.items in
    let none : has_expanded content ≡ false = ap has_expanded (sym c.deref.ensures.value) ∙ sym c.has_expanded.ensures ∙ c.if-has_expanded.false in
    sym (ap (λ (b : Bool). back_ident_if b content) c.if-not-ident.false ∙ back-none content none)

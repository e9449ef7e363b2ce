use Rattle.std.proofs.Common.{◌∙◌, sym, refl}
use Rattle.std.proofs.lemmas.Result.{IfOk-weaker}
use Rattle.ident_convert.proofs.expansion.expand_ident.Goals as goal

pub returns-then-not-has_keyword : goal.returns-then-not-has_keyword
returns-then-not-has_keyword c =
    IfOk-weaker c.from_slice.result _ _ (λ text copied. copied ∙ sym (c.if-not-has_keyword.ensures.unchanged refl c.args.name.now)) c.from_slice.ensures.items

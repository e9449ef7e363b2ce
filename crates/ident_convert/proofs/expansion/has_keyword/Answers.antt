use Rattle.std.proofs.Common.{◌≡◌, sym, ◌∙◌, rules}
use Rattle.ident_convert.specs.Ident.{keyword_text, has_keyword}
use Rattle.ident_convert.proofs.Keywords.{expanded-none}
use Rattle.ident_convert.proofs.expansion.has_keyword.Goals as goal

pub returns-clause-unchanged : goal.returns-clause-unchanged
returns-clause-unchanged c = λ none name.
    let same : c.is_some.result ≡ has_keyword c.args.content.now = search rules in
    expanded-none (keyword_text name) c.args.content.now (sym same ∙ none)

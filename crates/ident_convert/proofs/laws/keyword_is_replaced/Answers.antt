use Rattle.ident_convert.proofs.Cases.{expanded-begins}
use Rattle.ident_convert.proofs.laws.keyword_is_replaced.Goals as goal

pub returns : goal.returns
returns c = λ keyword. expanded-begins c.args.text.now c.args.behind.now keyword c.requires

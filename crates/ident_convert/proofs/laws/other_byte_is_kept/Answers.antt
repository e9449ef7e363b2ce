use Rattle.ident_convert.proofs.Cases.{expanded-other}
use Rattle.ident_convert.proofs.laws.other_byte_is_kept.Goals as goal

pub returns : goal.returns
returns c = λ keyword. expanded-other c.args.byte c.args.text.now keyword c.requires

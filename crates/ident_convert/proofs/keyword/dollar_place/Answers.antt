use Rattle.std.proofs.Common.{◌≡◌, Option, Some, None, ℕ, List, sym}
use Rattle.memchr.specs.Find.{IsFirstByte, is_byte}
use Rattle.std.specs.List.{position}
use Rattle.ident_convert.specs.Ident.{is_dollar}
use Rattle.ident_convert.proofs.Dollars.{position-first, position-none}
use Rattle.ident_convert.proofs.keyword.dollar_place.Goals as goal

as_position : (text : List ℕ) (r : Option ℕ) → IsFirstByte (is_byte 36) text r → r ≡ position is_dollar text
as_position text (Some n) found = sym (position-first text n found.0.high found.1 found.0.before)
as_position text None none = sym (position-none text none)

pub returns : goal.returns
returns c = as_position c.args.text.now c.memchr.result c.memchr.ensures

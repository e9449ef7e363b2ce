use Rattle.std.proofs.Common.{◌≡◌, length}
use Rattle.back_convert.specs.Encoding.{text_of, behind_text}
use Rattle.back_convert.proofs.text.decoded.Given as goal

abbrev pub invariant-text : goal.invariant-text
invariant-text g l = behind_text l.text.items (text_of (g.F.Form.chars l.rest)) ≡ text_of (g.F.Form.chars l.bytes)

abbrev pub decreases-text : goal.decreases-text
decreases-text g l = length l.rest

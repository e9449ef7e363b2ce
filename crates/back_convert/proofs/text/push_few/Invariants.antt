use Rattle.std.proofs.Common.{◌≡◌, ◌<◌, length}
use Rattle.std.specs.String.{string_bytes}
use Rattle.back_convert.specs.Encoding.{text_of, behind_text}
use Rattle.back_convert.proofs.text.push_few.Given as goal

abbrev pub invariant-loop-count : goal.invariant-loop-count
invariant-loop-count g l = record {
  read : text_of (g.F.Form.chars l.bytes) ≡ behind_text (string_bytes l.few) (text_of (g.F.Form.chars l.rest));
  shorter : length l.rest < length l.bytes;
}

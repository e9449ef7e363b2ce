use Rattle.std.proofs.Common.{IsUtf8, ◌<◌, ◌≤◌, ◌*◌, [], length, take}
use Rattle.std.specs.Str.Iter.{chars_rest}
use Rattle.tree_encoding.specs.Front.{GoesOn}
use Rattle.tree_encoding.proofs.text.push_few.Given as goal

abbrev pub invariant-loop-count : goal.invariant-loop-count
invariant-loop-count g l = record {
  utf8 : IsUtf8 (chars_rest l.rest);
  same : GoesOn g.F.Form.bytes_of [] l.text (take l.end l.block) (chars_rest l.rest);
  within : length (chars_rest l.rest) ≤ length l.text;
  shorter : 0 < l._count → length (chars_rest l.rest) < length l.text;
  room : l.end ≤ 4 * l._count;
}

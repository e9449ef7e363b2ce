use Rattle.std.proofs.Common.{◌≡◌, length, take, vec_len, vec_capacity}
use Rattle.attr_stack.proofs.open_file.opened.Given as goal

abbrev pub invariant-loop-at : goal.invariant-loop-at
invariant-loop-at l = record {
  copies : l.copies.items ≡ take l.at-index l.files;
  len : vec_len l.copies ≡ l.at-index;
  room : vec_capacity l.copies ≡ length l.files;
}

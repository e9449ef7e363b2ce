use Rattle.std.proofs.Common.{length}
use denote.Text.{Utf8}
use denote.Shadow.{shadow}
use Rattle.tree_encoding.specs.Front.{GoesOn}
use Rattle.tree_encoding.proofs.text.push_text.Given as goal

abbrev pub invariant-text : goal.invariant-text
invariant-text g l = record {
  utf8 : shadow (Utf8 l.rest);
  same : GoesOn g.F.Form.bytes_of l.fn.out.items l.text l.out.items l.rest;
}

abbrev pub decreases-text : goal.decreases-text
decreases-text g l = length l.rest

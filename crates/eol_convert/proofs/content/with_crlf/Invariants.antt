use Rattle.std.proofs.Common.{◌≡◌, ◌≤◌, ◌-◌, ◌++◌, length}
use Rattle.eol_convert.specs.Content.{with_crlf}
use Rattle.eol_convert.specs.Windows.{crlf_from}
use Rattle.eol_convert.proofs.content.with_crlf.Given as goal

abbrev pub invariant-blocks-2 : goal.invariant-blocks-2
invariant-blocks-2 l = record {
  within : l.from ≤ length l.content;
  long : length l.block ≡ 1024;
  done : l.text.items ++ crlf_from l.content l.from ≡ with_crlf l.content;
}

abbrev pub decreases-blocks-2 : goal.decreases-blocks-2
decreases-blocks-2 l = length l.content - l.from

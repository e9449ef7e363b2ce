use Rattle.std.proofs.Common.{◌≡◌, ◌≤◌, ◌-◌, ◌++◌, length}
use Rattle.eol_convert.specs.Windows.{crlf_from}
use Rattle.eol_convert.proofs.content.push_rest.Given as goal

abbrev pub invariant-bytes : goal.invariant-bytes
invariant-bytes l = record {
  within : l.at ≤ length l.content;
  done : l.text.items ++ crlf_from l.content l.at ≡ l.initial.text.items ++ crlf_from l.content l.from;
}

abbrev pub decreases-bytes : goal.decreases-bytes
decreases-bytes l = length l.content - l.at

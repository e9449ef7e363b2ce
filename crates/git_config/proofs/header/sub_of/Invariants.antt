use Rattle.std.proofs.Common.{◌≡◌, ◌≤◌, false, [], length}
use Rattle.git_config.specs.Header.{sub_at}
use Rattle.git_config.proofs.header.sub_of.Given as goal

abbrev pub invariant-bytes : goal.invariant-bytes
invariant-bytes l = record {
  within : length l.rest ≤ length l.text;
  same : sub_at l.line false [] l.text ≡ sub_at l.line l.escaped l.sub.items l.rest;
}

abbrev pub decreases-bytes : goal.decreases-bytes
decreases-bytes l = length l.rest

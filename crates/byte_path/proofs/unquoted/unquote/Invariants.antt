use Rattle.std.proofs.Common.{◌≡◌, ◌-◌, ◌≤◌, length, drop}
use Rattle.byte_path.specs.Unquote.{unquoted, unquoted_behind, prefixed}
use Rattle.byte_path.proofs.unquoted.unquote.Given as goal

abbrev pub invariant-stretches : goal.invariant-stretches
invariant-stretches l = record {
  within : l.place ≤ length l.text;
  same : unquoted l.text ≡ prefixed l.bytes.items l.place (unquoted_behind 0 (drop l.place l.text));
}

abbrev pub decreases-stretches : goal.decreases-stretches
decreases-stretches l = length l.text - l.place

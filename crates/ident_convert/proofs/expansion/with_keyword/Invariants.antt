use Rattle.std.proofs.Common.{◌≡◌, ◌-◌, ◌≤◌, ◌++◌, length, drop}
use Rattle.ident_convert.specs.Ident.{expanded}
use Rattle.ident_convert.proofs.expansion.with_keyword.Given as goal

abbrev pub invariant-keywords : goal.invariant-keywords
invariant-keywords l = record {
  within : l.place ≤ length l.content;
  same : expanded l.keyword l.content ≡ l.text.items ++ expanded l.keyword (drop l.place l.content);
}

abbrev pub decreases-keywords : goal.decreases-keywords
decreases-keywords l = length l.content - l.place

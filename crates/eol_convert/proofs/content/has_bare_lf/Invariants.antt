use Rattle.std.proofs.Common.{◌≡◌, ◌<◌, length}
use Rattle.eol_convert.specs.Content.{with_crlf}
use Rattle.eol_convert.proofs.content.has_bare_lf.Given as goal

abbrev pub invariant-lines : goal.invariant-lines
invariant-lines l = record {
  same : with_crlf l.rest ≡ l.rest → with_crlf l.content ≡ l.content;
  longer : length l.rest < length (with_crlf l.rest) → length l.content < length (with_crlf l.content);
}

abbrev pub decreases-lines : goal.decreases-lines
decreases-lines l = length l.rest

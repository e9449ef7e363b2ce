use Rattle.wild_match.specs.Pieces.{pieces}
use Rattle.wild_match.specs.Steps.{seen_back}
use Rattle.std.proofs.Common.{false}
use Rattle.wild_match.proofs.Parts.{IsTrying, work}
use Rattle.wild_match.proofs.part.part_from.Given as goal

abbrev pub invariant-bytes : goal.invariant-bytes
invariant-bytes l = IsTrying (pieces false l.start.pattern.now) l.start.pattern.now l.start.path.now l.at.pattern.now l.at.path.now (seen_back l.back)

abbrev pub decreases-bytes : goal.decreases-bytes
decreases-bytes l = work l.start.pattern.now l.start.path.now l.at.pattern.now (seen_back l.back)

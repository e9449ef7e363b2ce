use Rattle.wild_match.specs.Steps.{seen_back}
use Rattle.wild_match.proofs.Folders.{IsWalking}
use Rattle.wild_match.proofs.Parts.{work}
use Rattle.wild_match.proofs.matching.fits.Given as goal

abbrev pub invariant-parts : goal.invariant-parts
invariant-parts l = IsWalking l.fresh l.pattern l.path l.is_fresh l.at.pattern.now l.at.path.now (seen_back l.back)

abbrev pub decreases-parts : goal.decreases-parts
decreases-parts l = work l.pattern l.path l.at.pattern.now (seen_back l.back)

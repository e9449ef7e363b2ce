use Rattle.std.proofs.Common.{sym}
use Rattle.wild_match.specs.Steps.{seen_back}
use Rattle.wild_match.proofs.Folders.{at-folders, at-part, at-next, is-over, shrinks}
use Rattle.wild_match.proofs.matching.fits.Goals as goal

pub returns-in-None : goal.returns-in-None
returns-in-None c = sym (is-over c.args.fresh c.parts.is_fresh c.args.pattern.now c.args.path.now c.parts.at.pattern.now c.parts.at.path.now (seen_back c.parts.back) c.parts.invariant c.in-Stuck.ensures (sym c.in-None.ensures))

pub parts-preserved-in-Folders : goal.parts-preserved-in-Folders
parts-preserved-in-Folders c =
    let part = c.in-Folders.ensures in
    rw part.same (at-folders c.args.fresh c.parts.is_fresh c.args.pattern.now c.args.path.now c.parts.at.pattern.now c.parts.at.path.now c.in-Folders.later.pattern.now (seen_back c.parts.back) c.parts.invariant part.reads part.shorter)

pub parts-preserved-in-Behind : goal.parts-preserved-in-Behind
parts-preserved-in-Behind c =
    at-part c.args.fresh c.parts.is_fresh c.args.pattern.now c.args.path.now c.parts.at.pattern.now c.parts.at.path.now c.in-Behind.later.pattern.now c.in-Behind.later.path.now (seen_back c.parts.back) c.parts.invariant c.in-Behind.ensures

pub parts-preserved : goal.parts-preserved
parts-preserved c =
    (at-next c.args.fresh c.parts.is_fresh c.args.pattern.now c.args.path.now c.parts.at.pattern.now c.parts.at.path.now c.in-Some.next.pattern.now c.in-Some.next.path.now (seen_back c.parts.back) c.parts.invariant c.in-Stuck.ensures (sym c.in-Some.ensures)).0

pub parts-smaller : goal.parts-smaller
parts-smaller c =
    let next = at-next c.args.fresh c.parts.is_fresh c.args.pattern.now c.args.path.now c.parts.at.pattern.now c.parts.at.path.now c.in-Some.next.pattern.now c.in-Some.next.path.now (seen_back c.parts.back) c.parts.invariant c.in-Stuck.ensures (sym c.in-Some.ensures) in
    shrinks c.args.pattern.now c.args.path.now c.parts.at.pattern.now c.in-Some.next.pattern.now c.in-Some.next.path.now (seen_back c.parts.back) next.1 next.0.size

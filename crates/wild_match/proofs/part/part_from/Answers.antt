use Rattle.std.proofs.Common.{◌≡◌, false}
use Rattle.wild_match.specs.Pieces.{pieces}
use Rattle.wild_match.specs.Steps.{seen_back}
use Rattle.wild_match.proofs.Parts.{at-star, at-byte}
use Rattle.wild_match.proofs.Pairs.{first_same, second_same}
use Rattle.wild_match.proofs.part.part_from.Goals as goal

pub bytes-preserved-in-Star : goal.bytes-preserved-in-Star
bytes-preserved-in-Star c =
    let at = c.moved-at.result in
    let rest : at.path.now ≡ c.bytes.at.path.now = second_same c.moved-at.ensures in
    rw rest (at-star (pieces false c.args.start.pattern.now) c.args.start.pattern.now c.args.start.path.now c.bytes.at.pattern.now c.bytes.at.path.now at.pattern.now c.in-Star.len (seen_back c.bytes.back) c.bytes.invariant c.in-Star.ensures
    (first_same c.moved-at.ensures))

pub bytes-preserved-in-Byte : goal.bytes-preserved-in-Byte
bytes-preserved-in-Byte c =
    let at = c.moved-at-in-Byte.result in
    at-byte (pieces false c.args.start.pattern.now) c.args.start.pattern.now c.args.start.path.now c.bytes.at.pattern.now c.bytes.at.path.now at.pattern.now at.path.now c.in-Byte.len (seen_back c.bytes.back) c.bytes.invariant c.in-Byte.ensures
    (first_same c.moved-at-in-Byte.ensures) (second_same c.moved-at-in-Byte.ensures)

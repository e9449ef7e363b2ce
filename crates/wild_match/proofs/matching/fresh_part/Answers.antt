use Rattle.std.proofs.Common.{◌≡◌, ◌∙◌, true, false, length, sym, subst, arith, List}
use Rattle.std.proofs.lemmas.Bool.{lt-ltb, le-ltb}
use Rattle.std.proofs.lemmas.Grind.{common_steps}
use Rattle.wild_match.specs.Pieces.{Piece, is_folders, is_rest}
use Rattle.wild_match.specs.Steps.{IsPart}
use Rattle.wild_match.proofs.ReadPieces.{opens-folders, rest-fits, pieces-same}
use Rattle.wild_match.proofs.matching.fresh_part.Goals as goal
use Rattle.wild_match.proofs.matching.fresh_part.Goals.{then-fresh+else-is_folders+else-is_rest, else-fresh}

pub returns-then-is_folders : goal.returns-then-is_folders
returns-then-is_folders c =
    opens-folders c.args.at.pattern.now c.args.at.path.now c.split_at.result.1.now c.args.fresh c.if-fresh.true (sym c.is_folders.ensures ∙ c.if-is_folders.true) c.split_at.ensures.back

pub returns-then-is_empty : goal.returns-then-is_empty
returns-then-is_empty c =
    rest-fits c.args.at.pattern.now c.args.at.path.now c.args.fresh c.if-fresh.true (sym c.is_rest.ensures ∙ c.if-is_rest.true) ∙ le-ltb 0 (length c.args.at.path.now) (grind (arith, common_steps))

pub returns-else-is_empty : goal.returns-else-is_empty
returns-else-is_empty c =
    rest-fits c.args.at.pattern.now c.args.at.path.now c.args.fresh c.if-fresh.true (sym c.is_rest.ensures ∙ c.if-is_rest.true) ∙ lt-ltb 0 (length c.args.at.path.now) (grind (arith, common_steps))

pub returns : goal.returns
returns c =
    let other : c.args.fresh ≡ true → (is_folders c.args.at.pattern.now ≡ false) × (is_rest c.args.at.pattern.now ≡ false) =
    elim c.if-fresh.branch [
      | then-fresh+else-is_folders+else-is_rest w ↦ λ h. (sym w.is_folders.ensures ∙ w.if-is_folders.false, sym w.is_rest.ensures ∙ w.if-is_rest.false)
      | else-fresh w ↦ λ h. absurd (cc)
    ] in
    let P : List Piece → Type 0 = λ ps. IsPart ps c.args.at.pattern.now c.args.at.path.now c.part_from.result in
    subst P (sym (pieces-same c.args.fresh c.args.at.pattern.now other)) c.part_from.ensures

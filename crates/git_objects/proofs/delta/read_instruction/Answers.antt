use Rattle.std.proofs.Common.{refl, arith}
use Rattle.std.proofs.lemmas.Grind.{common_steps}
use Rattle.git_objects.specs.Delta.{Insert, Copy}
use Rattle.git_objects.proofs.delta.read_instruction.Goals as goal

pub returns-then-code-ge128-clause-instruction : goal.returns-then-code-ge128-clause-instruction
returns-then-code-ge128-clause-instruction c =
    let copy = c.in_ok-piece.ensures.copy in (
      Copy copy.0 copy.1,
      record {
        code = c.in_ok-code.code.now;
        behind = c.in_ok-code.behind.now;
        mid = copy.2;
        begins = grind (arith, common_steps, c.in_ok-code.ensures);
        copies = grind (arith, common_steps);
        placed = copy.3;
        sized = copy.4;
      },
      copy.5,
    )

pub returns-clause-instruction : goal.returns-clause-instruction
returns-clause-instruction c = (
  Insert c.in_ok-piece-2.piece.now,
  grind (arith, common_steps, c.in_ok-code.ensures, c.in_ok-piece-2.ensures),
  refl,
)

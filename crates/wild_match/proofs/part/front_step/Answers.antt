use Rattle.std.proofs.Common.{refl, arith}
use Rattle.std.proofs.lemmas.Grind.{common_steps}
use Rattle.wild_match.proofs.ReadPieces.{passes-star, passes-byte, passes-slash, stuck-ended, stuck-byte, stuck-slash}
use Rattle.wild_match.proofs.part.front_step.Goals as goal

pub returns-then-pattern-eq42 : goal.returns-then-pattern-eq42
returns-then-pattern-eq42 c = passes-star c.args.pattern.now (grind (arith, common_steps)) c.if-pattern-eq42.true

pub returns-then-is_empty-3 : goal.returns-then-is_empty-3
returns-then-is_empty-3 c = stuck-ended c.args.pattern.now c.args.path.now (grind (arith, common_steps)) c.if-pattern-eq42.false (grind (arith, common_steps))

pub returns-in-Some : goal.returns-in-Some
returns-in-Some c =
    passes-slash c.args.pattern.now c.args.path.now c.in-Some.len (grind (arith, common_steps)) (grind (arith, common_steps)) c.if-path-eq47.true c.in-Some.ensures.value c.in-Some.ensures.within.0 c.in-Some.ensures.within.1

pub returns-in-None : goal.returns-in-None
returns-in-None c = stuck-slash c.args.pattern.now c.args.path.now (grind (arith, common_steps)) c.if-pattern-eq42.false (grind (arith, common_steps)) c.if-path-eq47.true c.in-None.ensures.value

pub returns-in-Some-one_length : goal.returns-in-Some-one_length
returns-in-Some-one_length c =
    passes-byte c.args.pattern.now c.args.path.now _ c.in-Some-one_length.len (grind (arith, common_steps)) (grind (arith, common_steps)) refl c.if-path-eq47.false c.in-Some-one_length.ensures.value c.in-Some-one_length.ensures.within.0
    c.in-Some-one_length.ensures.within.1

pub returns-in-None-one_length : goal.returns-in-None-one_length
returns-in-None-one_length c =
    stuck-byte c.args.pattern.now c.args.path.now _ (grind (arith, common_steps)) c.if-pattern-eq42.false (grind (arith, common_steps)) refl c.if-path-eq47.false c.in-None-one_length.ensures.value

use Rattle.std.proofs.Common.{◌≡◌, ◌+◌, length, arith}
use Rattle.byte_path.specs.Characters.{space}
use Rattle.journal_audit.specs.Reading.{parts}
use Rattle.journal_audit.proofs.Cuts.{some_parts, one_more}
use Rattle.journal_audit.proofs.cut.after_three.Goals as goal

pub returns-in-Some : goal.returns-in-Some
returns-in-Some c =
    let more : length (parts space c.args.rest.now) ≡ length (parts space c.in-Some.field-0.1.now) + 1 = one_more _ _ _ c.in-Some.ensures.0 in
    omega (arith, more, some_parts space c.in-Some.field-0.1.now)

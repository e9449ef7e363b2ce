use Rattle.std.proofs.Common.{◌≤◌, ◌+◌, ◌*◌, ◌^◌, get_or, sym, arith}
use Rattle.std.proofs.lemmas.Int.Digits.{digits_value_more}
use Rattle.std.specs.Char.{digit_value}
use Rattle.std.specs.Str.Parse.{digits_value}
use Rattle.byte_path.proofs.Decimals.{within-above, digits_value-above}
use Rattle.byte_path.proofs.decimal.read_decimal.Goals as goal

pub returns-in-None : goal.returns-in-None
returns-in-None c =
    let passed : 2 ^ 64 ≤ c.loop-digit.number * 10 + digit_value (get_or c.args.text.now c.loop-digit.digit-index 0) = omega (arith, c.in-None.ensures) in
    let above : 2 ^ 64 ≤ digits_value 10 c.args.text.now = digits_value-above c.args.text.now c.loop-digit.digit-index (2 ^ 64) c.loop-digit-test.true (rw c.loop-digit.invariant at passed) in
    sym (within-above c.args.text.now c.args.most (omega arith))

pub loop-digit-preserved : goal.loop-digit-preserved
loop-digit-preserved c = omega (arith, digits_value_more 10 c.args.text.now c.loop-digit.digit-index c.loop-digit-test.true, c.in-Some.ensures)

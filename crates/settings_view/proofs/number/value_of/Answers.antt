use Rattle.std.proofs.Common.{arith}
use Rattle.std.proofs.lemmas.Int.Digits.{digits_value_more}
use Rattle.std.proofs.lemmas.List.{take_all}
use Rattle.settings_view.proofs.Digits.{value_short, value_step}
use Rattle.settings_view.proofs.number.value_of.Goals as goal

pub with_digit-value-requires-clause-fits : goal.with_digit-value-requires-clause-fits
with_digit-value-requires-clause-fits c =
    omega (arith, c.loop-digit.invariant, value_short c.args.digits.now c.requires.digits c.requires.few, value_step c.args.digits.now c.loop-digit.digit-index c.loop-digit-test.true)

pub loop-digit-preserved : goal.loop-digit-preserved
loop-digit-preserved c = omega (arith, digits_value_more 10 c.args.digits.now c.loop-digit.digit-index c.loop-digit-test.true)

pub returns-clause-within : goal.returns-clause-within
returns-clause-within c =
    let whole = take_all c.loop-digit.digit-index c.args.digits.now c.loop-digit-test.false in
    rw (c.loop-digit.invariant, whole) (value_short c.args.digits.now c.requires.digits c.requires.few)

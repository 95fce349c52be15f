use Rattle.std.proofs.Common.{◌<◌, get_or, arith}
use Rattle.decimal_word.specs.Numbers.{add_digit}
use Rattle.decimal_word.proofs.NumberFacts.{value_of-front}
use Rattle.decimal_word.proofs.value_within.Goals as goal

pub returns-in_default-clause-above : goal.returns-in_default-clause-above
returns-in_default-clause-above c =
    let more = value_of-front c.args.digits.now c.digits.digit-index c.digits.value c.digits.invariant.is (omega arith) in
    let above : c.args.high < add_digit c.digits.value (get_or c.args.digits.now c.digits.digit-index 0) = c.in_default.ensures.above in
    omega (arith, more, above)

use Rattle.std.proofs.Common.{◌≡◌, ◌∙◌, ◌<◌, true, false, sym, arith}
use Rattle.decimal_word.specs.Numbers.{is_decimal, value_of}
use Rattle.decimal_word.proofs.NumberFacts.{number_of-above, number_of-below, number_of-none, number_of-within}
use Rattle.decimal_word.proofs.number_of.Goals as goal

pub returns-then-not-is_decimal-clause-number : goal.returns-then-not-is_decimal-clause-number
returns-then-not-is_decimal-clause-number c =
    let other : is_decimal c.args.word.now ≡ false = sym c.is_decimal.ensures ∙ c.if-not-is_decimal.true in
    sym (number_of-none c.args.low c.args.high c.args.word.now other)

pub returns-in_default-clause-number : goal.returns-in_default-clause-number
returns-in_default-clause-number c =
    let above : c.args.high < value_of c.args.word.now = c.in_default.ensures.above in
    sym (number_of-above c.args.low c.args.high c.args.word.now above)

pub returns-then-value-low-clause-number : goal.returns-then-value-low-clause-number
returns-then-value-low-clause-number c =
    let is : c.in-Some.value ≡ value_of c.args.word.now = c.in-Some.ensures.value in
    let below : value_of c.args.word.now < c.args.low = omega arith in
    sym (number_of-below c.args.low c.args.high c.args.word.now below)

pub returns-clause-number : goal.returns-clause-number
returns-clause-number c =
    let digits : is_decimal c.args.word.now ≡ true = sym c.is_decimal.ensures ∙ c.if-not-is_decimal.false in
    let is : c.in-Some.value ≡ value_of c.args.word.now = c.in-Some.ensures.value in
    sym (number_of-within c.args.low c.args.high c.in-Some.value c.args.word.now digits
    is c.if-value-low.false c.in-Some.ensures.within)

use Rattle.decimal_word.proofs.NumberFacts.{is_decimal-digits}
use Rattle.decimal_word.proofs.is_decimal.Goals as goal

pub returns : goal.returns
returns c = is_decimal-digits c.args.word.now c.is_empty.result c.all_digits.result c.is_empty.ensures c.if-is_empty.false c.if-word-eq48.false c.all_digits.ensures

use Rattle.std.proofs.Common.{◌≡◌, ◌≤◌, take}
use Rattle.decimal_word.specs.Numbers.{value_of}
use Rattle.decimal_word.proofs.value_within.Given as goal

abbrev pub invariant-digits : goal.invariant-digits
invariant-digits l = record {
  is : l.value ≡ value_of (take l.digit-index l.digits);
  few : l.value ≤ l.high;
}

-- The number that a word is.
use Rattle.std.specs.Prelude.{ℕ, ◌==◌, ◌+◌, ◌-◌, ◌*◌, ◌&&◌, nat_le, fold, Bool, false, List, length, slice_index, Option, Some, None, if◌then◌else◌}
use Rattle.std.specs.List.{list_all}
use Rattle.std.specs.Char.{is_ascii_digit}

-- decimal digits without a leading zero, `0` itself apart
abbrev pub is_decimal : List ℕ → Bool
is_decimal word =
    if length word == 0 then false
    else if slice_index word 0 == 48 then length word == 1
    else list_all is_ascii_digit word

-- a digit more at the end
abbrev pub add_digit : ℕ → ℕ → ℕ
add_digit value digit = value * 10 + (digit - 48)

-- the value of decimal digits
abbrev pub value_of : List ℕ → ℕ
value_of digits = fold add_digit 0 digits

-- the number that a word is, where it is one from `low` to `high`
unfoldable pub number_of : ℕ → ℕ → List ℕ → Option ℕ
number_of low high word =
    if is_decimal word && (nat_le low (value_of word) && nat_le (value_of word) high) then Some (value_of word) else None

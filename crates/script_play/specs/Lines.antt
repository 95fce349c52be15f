-- The lines of a script, and the words of a line.
use Rattle.std.specs.Prelude.{ℕ, ◌+◌, ◌==◌, ◌&&◌, ◌||◌, nat_lt, Bool, cond, List, [], ◌∷◌, length, drop, slice_index, position, Option, option_map, if◌then◌else◌}
use Rattle.std.specs.List.{before_first, list_all}
use Rattle.decimal_word.specs.Numbers.{number_of}

-- LINES end with a line feed; the last end may be missing
abbrev pub into_first : ℕ → List (List ℕ) → List (List ℕ)
into_first b [] = (b ∷ []) ∷ []
into_first b (line ∷ lines) = (b ∷ line) ∷ lines

unfoldable pub lines : List ℕ → List (List ℕ)
lines [] = []
lines (b ∷ bytes) = cond (b == 10) ([] ∷ lines bytes) (into_first b (lines bytes))

abbrev pub is_ascii : ℕ → Bool
is_ascii b = nat_lt b 128

-- an empty line, and an ASCII line that begins with `#`, is skipped
abbrev pub is_skipped : List ℕ → Bool
is_skipped line = length line == 0 || (slice_index line 0 == 35 && list_all is_ascii line)

-- a line with its number
pub record Numbered : Type 0 where
  pub number : ℕ
  pub text : List ℕ

-- the lines that aren't skipped, where the first of all has the number n
unfoldable pub live : ℕ → List (List ℕ) → List Numbered
live n [] = []
live n (line ∷ lines) = if is_skipped line then live (n + 1) lines else record { number = n; text = line } ∷ live (n + 1) lines

-- WORDS stand apart by one space: the first word of a text, and what follows the space after it
abbrev pub is_space : ℕ → Bool
is_space b = b == 32

abbrev pub first_word : List ℕ → List ℕ
first_word text = before_first is_space text

abbrev pub after_word : List ℕ → Option (List ℕ)
after_word text = option_map (λ i. drop (i + 1) text) (position is_space text)

-- a number of a script
abbrev pub number : List ℕ → Option ℕ
number word = number_of 0 0xffff_ffff_ffff_ffff word

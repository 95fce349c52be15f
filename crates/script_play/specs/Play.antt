-- A script played on a machine, of which only this is asked: how a backend begins a call, how it makes its next step, what each of them prints, and what is printed at the end.
use Rattle.std.specs.Prelude.{◌≡◌, Bool, true, false, ℕ, zero, suc, ◌+◌, ◌++◌, ◌==◌, nat_lt, List, [], ◌∷◌, drop, slice_index, Option, None, Some, option_map, option_and_then, if◌then◌else◌}
use Rattle.std.specs.Option.{option_map_or}
use Rattle.decimal_word.specs.Numbers.{number_of}
use Rattle.script_play.specs.Lines.{Numbered, first_word, after_word, number}

-- the most steps of a script, and of a line
abbrev pub step_limit : ℕ
step_limit = 1000000

abbrev pub line_limit : ℕ
line_limit = 1000

-- a machine in the middle of a script: how many steps were made, and what was printed
pub record Moment (M : Type 0) : Type 0 where
  pub machine : M
  pub made : ℕ
  pub text : List ℕ

-- how a script ends: at its last line, or at the first that isn't in the grammar or isn't enabled
pub data Outcome (M : Type 0) : Type 0 where
  Ended : Moment M → Outcome M
  Bad : ℕ → Outcome M

-- the beginning of calls that prints nothing, as each has a step
abbrev pub silent : {M : Type 0} → (M → ℕ → List ℕ → Option M) → M → ℕ → List ℕ → Option (M × List ℕ)
silent begins m p call = option_map (λ t. (t, [])) (begins m p call)

-- how often a word of the form xN repeats a step
abbrev pub repeats : List ℕ → Option ℕ
repeats word = if slice_index word 0 == 120 then number_of 1 line_limit (drop 1 word) else None

module _ {M : Type 0} (begins : M → ℕ → List ℕ → Option (M × List ℕ)) (steps : M → ℕ → Option (M × List ℕ)) where
  -- the backend p makes a step, n steps, or begins a call
  abbrev pub stepped : Moment M → ℕ → Option (Moment M)
  stepped m p = if nat_lt m.made step_limit then option_map (λ t. record { machine = t.0; made = m.made + 1; text = m.text ++ t.1 }) (steps m.machine p) else None

  unfoldable pub repeated : Moment M → ℕ → ℕ → Option (Moment M)
  repeated m p zero = Some m
  repeated m p (suc n) = option_and_then (λ k. repeated k p n) (stepped m p)

  abbrev pub begun : Moment M → ℕ → List ℕ → Option (Moment M)
  begun m p call = option_map (λ t. record { machine = t.0; made = m.made; text = m.text ++ t.1 }) (begins m.machine p call)

  -- what follows a backend's number in its line: nothing, xN, or a call
  abbrev pub told : Moment M → ℕ → List ℕ → Option ℕ → Option (Moment M)
  told m p call (Some n) = repeated m p n
  told m p call None = begun m p call

  abbrev pub acted : Moment M → ℕ → Option (List ℕ) → Option (Moment M)
  acted m p None = stepped m p
  acted m p (Some more) = told m p more (repeats more)

  abbrev pub taken : Moment M → List ℕ → Option (Moment M)
  taken m line = option_and_then (λ p. acted m p (after_word line)) (number (first_word line))

  -- the lines, from a moment on
  unfoldable pub played : Moment M → List Numbered → Outcome M
  played m [] = Ended m
  played m (line ∷ lines) = option_map_or (λ k. played k lines) (taken m line.text) (Bad line.number)

-- what a call answers, by what its definition says: that the backend doesn't move, or comes to this
abbrev pub ComesTo : {X : Type 0} → Option X → Bool → X → Type 0
ComesTo None moved x = moved ≡ false
ComesTo (Some y) moved x = (moved ≡ true) × (x ≡ y)

-- and with it what is printed after a text
abbrev pub Prints : {M : Type 0} → Option (M × List ℕ) → Bool → M → List ℕ → List ℕ → Type 0
Prints None moved m before after = moved ≡ false
Prints (Some t) moved m before after = (moved ≡ true) × (m ≡ t.0) × (after ≡ before ++ t.1)

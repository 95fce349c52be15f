-- What a machine's calls and steps keep, a script keeps.
use Rattle.std.proofs.Common.{ℕ, zero, suc, ◌+◌, ◌++◌, nat_lt, Bool, true, false, cond, List, [], ◌∷◌, Option, None, Some}
use Rattle.std.specs.Prelude.{option_map, option_and_then, ⊤}
use Rattle.std.specs.Option.{option_map_or}
use Rattle.script_play.specs.Lines.{Numbered, after_word, first_word, number}
use Rattle.script_play.specs.Play.{Bad, Ended, Moment, Outcome, acted, played, repeated, repeats, step_limit, stepped, taken, told}

module _ {M : Type 0} (P : M → Type 0) where
  abbrev pub ComesWith : Option (M × List ℕ) → Type 0
  ComesWith None = ⊤
  ComesWith (Some t) = P t.0

  abbrev pub Stands : Option (Moment M) → Type 0
  Stands None = ⊤
  Stands (Some m) = P m.machine

  abbrev pub EndsWith : Outcome M → Type 0
  EndsWith (Ended m) = P m.machine
  EndsWith (Bad n) = ⊤

  module _ (begins : M → ℕ → List ℕ → Option (M × List ℕ)) (steps : M → ℕ → Option (M × List ℕ))
      (begin_keeps : (s : M) (p : ℕ) (call : List ℕ) → P s → ComesWith (begins s p call)) (step_keeps : (s : M) (p : ℕ) → P s → ComesWith (steps s p)) where
    step_case : (m : Moment M) (b : Bool) (o : Option (M × List ℕ)) → ComesWith o → Stands (cond b (option_map (λ t. let k : Moment M = record { machine = t.0; made = m.made + 1; text = m.text ++ t.1 } in k) o) None)
    step_case m false o h = tt
    step_case m true None h = tt
    step_case m true (Some t) h = h

    stepped_keeps : (m : Moment M) (p : ℕ) → P m.machine → Stands (stepped begins steps m p)
    stepped_keeps m p h = step_case m (nat_lt m.made step_limit) (steps m.machine p) (step_keeps m.machine p h)

    on_from : (f : Moment M → Option (Moment M)) → ((k : Moment M) → P k.machine → Stands (f k)) → (o : Option (Moment M)) → Stands o → Stands (option_and_then f o)
    on_from f keeps None h = tt
    on_from f keeps (Some k) h = keeps k h

    repeated_keeps : (m : Moment M) (p n : ℕ) → P m.machine → Stands (repeated begins steps m p n)
    unfolding repeated
    repeated_keeps m p zero h = h
    repeated_keeps m p (suc n) h = on_from (λ k. repeated begins steps k p n) (λ k. repeated_keeps k p n) (stepped begins steps m p) (stepped_keeps m p h)

    begun_case : (m : Moment M) (o : Option (M × List ℕ)) → ComesWith o → Stands (option_map (λ t. let k : Moment M = record { machine = t.0; made = m.made; text = m.text ++ t.1 } in k) o)
    begun_case m None h = tt
    begun_case m (Some t) h = h

    told_keeps : (m : Moment M) (p : ℕ) (call : List ℕ) (times : Option ℕ) → P m.machine → Stands (told begins steps m p call times)
    told_keeps m p call (Some n) h = repeated_keeps m p n h
    told_keeps m p call None h = begun_case m (begins m.machine p call) (begin_keeps m.machine p call h)

    acted_keeps : (m : Moment M) (p : ℕ) (after : Option (List ℕ)) → P m.machine → Stands (acted begins steps m p after)
    acted_keeps m p None h = stepped_keeps m p h
    acted_keeps m p (Some more) h = told_keeps m p more (repeats more) h

    taken_case : (m : Moment M) (line : List ℕ) (o : Option ℕ) → P m.machine → Stands (option_and_then (λ p. acted begins steps m p (after_word line)) o)
    taken_case m line None h = tt
    taken_case m line (Some p) h = acted_keeps m p (after_word line) h

    taken_keeps : (m : Moment M) (line : List ℕ) → P m.machine → Stands (taken begins steps m line)
    taken_keeps m line h = taken_case m line (number (first_word line)) h

    over : (f : Moment M → Outcome M) (n : ℕ) → ((k : Moment M) → P k.machine → EndsWith (f k)) → (o : Option (Moment M)) → Stands o → EndsWith (option_map_or f o (Bad n))
    over f n keeps None h = tt
    over f n keeps (Some k) h = keeps k h

    pub played_keeps : (m : Moment M) (lines : List Numbered) → P m.machine → EndsWith (played begins steps m lines)
    unfolding played
    played_keeps m [] h = h
    played_keeps m (line ∷ lines) h = over (λ k. played begins steps k lines) line.number (λ k. played_keeps k lines) (taken begins steps m line.text) (taken_keeps m line.text h)

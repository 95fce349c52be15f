-- Two machines that a map ties, step by step, play each script alike.
use Rattle.std.proofs.Common.{◌≡◌, ℕ, zero, suc, ◌+◌, ◌++◌, nat_lt, Bool, true, false, cond, List, [], ◌∷◌, Option, None, Some, refl}
use Rattle.std.specs.Prelude.{option_map, option_and_then}
use Rattle.std.specs.Option.{option_map_or}
use Rattle.script_play.specs.Lines.{Numbered, after_word, first_word, number}
use Rattle.script_play.specs.Play.{Bad, Moment, Outcome, acted, played, repeated, repeats, step_limit, stepped, taken, told}
use Rattle.script_play.specs.Answers.{answer_by}

module _ {A B : Type 0} (h : A → B) where
  abbrev pub carry : Moment A → Moment B
  carry m = record { machine = h m.machine; made = m.made; text = m.text }

  abbrev pub carry_text : A × List ℕ → B × List ℕ
  carry_text t = (h t.0, t.1)

  module _ (beginsA : A → ℕ → List ℕ → Option (A × List ℕ)) (stepsA : A → ℕ → Option (A × List ℕ)) (beginsB : B → ℕ → List ℕ → Option (B × List ℕ)) (stepsB : B → ℕ → Option (B × List ℕ))
      (begin_alike : (s : A) (p : ℕ) (call : List ℕ) → beginsB (h s) p call ≡ option_map carry_text (beginsA s p call)) (step_alike : (s : A) (p : ℕ) → stepsB (h s) p ≡ option_map carry_text (stepsA s p)) where
    step_case : (m : Moment A) (b : Bool) (o : Option (A × List ℕ)) (q : Option (B × List ℕ)) → q ≡ option_map carry_text o
        → cond b (option_map (λ t. let k : Moment B = record { machine = t.0; made = m.made + 1; text = m.text ++ t.1 } in k) q) None
        ≡ option_map carry (cond b (option_map (λ t. let k : Moment A = record { machine = t.0; made = m.made + 1; text = m.text ++ t.1 } in k) o) None)
    step_case m false o q e = refl
    step_case m true None q e = rw e refl
    step_case m true (Some t) q e = rw e refl

    stepped_alike : (m : Moment A) (p : ℕ) → stepped beginsB stepsB (carry m) p ≡ option_map carry (stepped beginsA stepsA m p)
    stepped_alike m p = step_case m (nat_lt m.made step_limit) (stepsA m.machine p) (stepsB (h m.machine) p) (step_alike m.machine p)

    on_from : (f : Moment B → Option (Moment B)) (g : Moment A → Option (Moment A)) → ((k : Moment A) → f (carry k) ≡ option_map carry (g k)) → (o : Option (Moment A))
        → option_and_then f (option_map carry o) ≡ option_map carry (option_and_then g o)
    on_from f g alike None = refl
    on_from f g alike (Some k) = alike k

    repeated_alike : (m : Moment A) (p n : ℕ) → repeated beginsB stepsB (carry m) p n ≡ option_map carry (repeated beginsA stepsA m p n)
    unfolding repeated
    repeated_alike m p zero = refl
    repeated_alike m p (suc n) = rw (stepped_alike m p) (on_from (λ k. repeated beginsB stepsB k p n) (λ k. repeated beginsA stepsA k p n) (λ k. repeated_alike k p n) (stepped beginsA stepsA m p))

    begun_case : (m : Moment A) (o : Option (A × List ℕ)) (q : Option (B × List ℕ)) → q ≡ option_map carry_text o
        → option_map (λ t. let k : Moment B = record { machine = t.0; made = m.made; text = m.text ++ t.1 } in k) q ≡ option_map carry (option_map (λ t. let k : Moment A = record { machine = t.0; made = m.made; text = m.text ++ t.1 } in k) o)
    begun_case m None q e = rw e refl
    begun_case m (Some t) q e = rw e refl

    told_alike : (m : Moment A) (p : ℕ) (call : List ℕ) (times : Option ℕ) → told beginsB stepsB (carry m) p call times ≡ option_map carry (told beginsA stepsA m p call times)
    told_alike m p call (Some n) = repeated_alike m p n
    told_alike m p call None = begun_case m (beginsA m.machine p call) (beginsB (h m.machine) p call) (begin_alike m.machine p call)

    acted_alike : (m : Moment A) (p : ℕ) (after : Option (List ℕ)) → acted beginsB stepsB (carry m) p after ≡ option_map carry (acted beginsA stepsA m p after)
    acted_alike m p None = stepped_alike m p
    acted_alike m p (Some more) = told_alike m p more (repeats more)

    taken_case : (m : Moment A) (line : List ℕ) (o : Option ℕ) → option_and_then (λ p. acted beginsB stepsB (carry m) p (after_word line)) o ≡ option_map carry (option_and_then (λ p. acted beginsA stepsA m p (after_word line)) o)
    taken_case m line None = refl
    taken_case m line (Some p) = acted_alike m p (after_word line)

    taken_alike : (m : Moment A) (line : List ℕ) → taken beginsB stepsB (carry m) line ≡ option_map carry (taken beginsA stepsA m line)
    taken_alike m line = taken_case m line (number (first_word line))

    over : (endsA : A → List ℕ) (endsB : B → List ℕ) (f : Moment B → Outcome B) (g : Moment A → Outcome A) (n : ℕ) → ((k : Moment A) → answer_by endsB (f (carry k)) ≡ answer_by endsA (g k)) → (o : Option (Moment A))
        → answer_by endsB (option_map_or f (option_map carry o) (Bad n)) ≡ answer_by endsA (option_map_or g o (Bad n))
    over endsA endsB f g n alike None = refl
    over endsA endsB f g n alike (Some k) = alike k

    pub played_alike : (endsA : A → List ℕ) (endsB : B → List ℕ) → ((s : A) → endsB (h s) ≡ endsA s) → (m : Moment A) (lines : List Numbered)
        → answer_by endsB (played beginsB stepsB (carry m) lines) ≡ answer_by endsA (played beginsA stepsA m lines)
    unfolding played
    played_alike endsA endsB end_alike m [] = rw (end_alike m.machine) refl
    played_alike endsA endsB end_alike m (line ∷ lines) = rw (taken_alike m line.text)
        (over endsA endsB (λ k. played beginsB stepsB k lines) (λ k. played beginsA stepsA k lines) line.number (λ k. played_alike endsA endsB end_alike k lines) (taken beginsA stepsA m line.text))

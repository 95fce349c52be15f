-- Each step leaves a word that the steps of the seats account for.
use Rattle.std.proofs.Common.{◌≡◌, ℕ, ◌+◌, ◌/◌, ◌%◌, ◌<◌, eqb, List, [], ◌∷◌, ◌++◌, map, get_or, set, Option, None, refl, ap, ◌∙◌, arith, get_or-set_other}
use Rattle.std.proofs.lemmas.Bool.Decides.{nat_tests}
use mathlib.Core.Logic.{dite}
use mathlib.Core.Option as maybe
use native.Mathlib.Decide.{ℕ_discrete, dec_lt}
use lib.ListN.{get_elem?}
use Rattle.atomic_table.proofs.Lists.{at_map}
use Rattle.seat_roster.specs.WordsAreMade.{signed}
use Rattle.seat_roster.proofs.WordsAreMade.{one_more, both_taken}
use Rattle.seat_roster.proofs.WordsAreMade as roster
use Rattle.seat_roster.proofs.Stretches.{seen, seen_more, unseen, for_same}
use Rattle.lw_core.specs.declared.step.LwStep.{LwStep}
use Rattle.lw_core.specs.declared.step.LwStep.TheVariants as kind
use Rattle.lw_core.specs.declared.view.Made.{Made}
use Rattle.lw_core.specs.declared.view.Size.{Size}
use Rattle.lw_core.specs.declared.view.View.{View}
use Rattle.lw_core.specs.declared.view.Waiter.{Waiter}
use Rattle.lw_core.specs.Words.{state_at, release_ok, word_count, Opens}
use Rattle.lw_core.specs.WaitLists.{home_list}
use Rattle.lw_core.specs.Machine.{LwState, number_of, lock_number, word_of, becomes, list_of, made, made_with, next, IsInRange, Allowed, after, fresh}
use Rattle.lw_core.specs.WordsAreMade.{effect, all_steps, opened, WordsAreMade}
use Rattle.lw_core.specs.Rule.{EachWordIsMade, Rule}
use Rattle.lw_core.specs.Runs.{drew_one, stays, comes, both, spent, drawn, split, joined}
use Rattle.lw_core.proofs.Touches.{either_way, poked_keeps}
use Rattle.lw_core.proofs.Seats.{numbered_as, own_inside}

-- a step is one more among those of its seat
pub steps_after : (k : LwStep) (v : View) (n : ℕ) (found : List Waiter) → all_steps (next k v n found) ≡ signed (number_of v.own) (v.steps ++ made_with k n (list_of k n found (number_of v.own) v.place) ∷ []) ++ v.inherited
steps_after (kind.Grant l m w) v n found = either_way all_steps (eqb n w) _ _ (signed (number_of v.own) (v.steps ++ made (kind.Grant l m w) n ∷ []) ++ v.inherited) refl refl
steps_after (kind.Post q b) v n found = poked_keeps all_steps (λ _ _. refl) b _
steps_after k v n found = refl

-- its word is the table's
word_inside : (lawful : ℕ → List ℕ → Type 0) (z : Size) (v : View) (own : ℕ) → own < z.procs → (k : LwStep) → IsInRange z k → Allowed lawful k v → word_of z own k < word_count z
word_inside lawful z v own below (kind.Guard l j o) inside ok = let a = inside.0 in let b = ok.0 in omega arith
word_inside lawful z v own below (kind.WaitStore q x) inside ok = let a = inside.1 in omega arith
word_inside lawful z v own below kind.WaitLoad inside ok = omega arith
word_inside lawful z v own below (kind.Post q b) inside ok = let a = inside.1 in omega arith
word_inside lawful z v own below (kind.Look b) inside ok = omega arith
word_inside lawful z v own below kind.Down inside ok = omega arith
word_inside lawful z v own below k inside ok = let a = inside.0 in omega arith

module _ (lawful : ℕ → List ℕ → Type 0) (z : Size) (s : LwState) (r : Rule lawful z s) (id : ℕ) (v : View) (at : get_elem? s.views id ≡ maybe.some v) where
  pub made_step : (k : LwStep) → IsInRange z k → (v.own ≡ None → ⊥) → Allowed lawful k v → EachWordIsMade z (after z s id v k)
  made_step k inside numbered ok =
      let o : ℕ = number_of v.own in let i : ℕ = word_of z o k in let n : ℕ = get_or s.words i 0 in let w : View = next k v n (home_list s.homes (lock_number k)) in
      let there = own_inside lawful z s r id v at o (numbered_as lawful z s r id v at numbered) in let long = r.sized.long in let within = word_inside lawful z v o there k inside ok in
      let found : List Waiter = home_list s.homes (lock_number k) in let m : Made = made_with k n (list_of k n found o v.place) in let steps : List (ℕ × Made) = signed o (v.steps ++ m ∷ []) ++ v.inherited in
      for_same _ _ (seen all_steps s.views id w steps (steps_after k v n found)) (WordsAreMade z (set s.words i (becomes k n)))
      (roster.made_step (effect z) (opened z) (word_count z) s.words (map all_steps s.views) r.made id (all_steps v) steps (o, m) (at_map all_steps s.views id v at) (one_more o o v.steps v.inherited m refl) (omega arith) refl)

  pub made_draw : EachWordIsMade z (drawn s id v)
  made_draw = let n : ℕ = get_or s.words 0 0 in for_same _ _ (unseen all_steps s.views id v (drew_one v) at refl) (WordsAreMade z (set s.words 0 (n + 1)))
      (roster.made_same (effect z) (opened z) (word_count z) s.words (map all_steps s.views) r.made (set s.words 0 (n + 1)) (λ i above below. get_or-set_other s.words 0 i (n + 1) 0 (λ e. omega arith)))

  pub made_split : EachWordIsMade z (split s id v)
  made_split = for_same _ _ (seen_more all_steps (set s.views id (stays v)) (comes v) ∙ ap (λ (l : List (List (ℕ × Made))). l ++ [] ∷ []) (unseen all_steps s.views id v (stays v) at refl)) (WordsAreMade z s.words)
      (roster.made_snoc (effect z) (opened z) (word_count z) s.words (map all_steps s.views) r.made)

  pub made_join : (other : ℕ) (w : View) → (other ≡ id → ⊥) → get_elem? s.views other ≡ maybe.some w → EachWordIsMade z (joined s id v other w)
  made_join other w apart there = for_same _ _
      (seen all_steps (set s.views id (both v w)) other spent [] refl ∙ ap (λ (l : List (List (ℕ × Made))). set l other []) (seen all_steps s.views id (both v w) (all_steps (both v w)) refl)) (WordsAreMade z s.words)
      (roster.made_joined (effect z) (opened z) (word_count z) s.words (map all_steps s.views) r.made id other (all_steps v) (all_steps w) (all_steps (both v w)) apart (at_map all_steps s.views id v at) (at_map all_steps s.views other w there)
      (both_taken (signed (number_of v.own) v.steps) v.inherited (all_steps w)))

opened_state : (z : Size) (i : ℕ) → i < state_at z.locks → i % 6 ≡ 1 → opened z i ≡ release_ok
opened_state z i below first = grind (arith, nat_tests)

opened_else : (z : Size) (i : ℕ) → (i < state_at z.locks → i % 6 ≡ 1 → ⊥) → opened z i ≡ 0
opened_else z i none = dite (dec_lt i (state_at z.locks)) (λ below. let other = none below in grind (arith, nat_tests)) (λ past. grind (arith, nat_tests))

-- a new table
pub made_opens : (z : Size) (words : List ℕ) (own : Option ℕ) → Opens z.locks words → WordsAreMade z words (all_steps (fresh own) ∷ [])
made_opens z words own h i above below = dite (dec_lt i (state_at z.locks))
    (λ inside. dite (ℕ_discrete (i % 6) 1)
    (λ first. let l : ℕ = i / 6 in let is : i ≡ state_at l = omega arith in let a = h.1 l (omega arith) in let b : get_or words i 0 ≡ get_or words (state_at l) 0 = ap (λ (x : ℕ). get_or words x 0) is in let c = opened_state z i inside first in omega arith)
    (λ other. let a = h.2 i above (λ l few is. other (omega arith)) in let b = opened_else z i (λ _ first. other first) in omega arith))
    (λ past. let a = h.2 i above (λ l few is. past (omega arith)) in let b = opened_else z i (λ inside _. past inside) in omega arith)

-- The slots of a script's state go on as those of the machine.
use Rattle.std.proofs.Common.{◌≡◌, ◌∙◌, ℕ, zero, suc, ◌+◌, ◌<◌, ◌≤◌, eqb, Bool, true, false, cond, List, [], ◌∷◌, ◌++◌, drop, length, set, get_or, Option, None, Some, refl, sym, ap, arith, eq-eqb, eqb-true}
use mathlib.Core.Option as maybe
use Rattle.std.proofs.Math.Seq.{get_or-drop}
use Rattle.std.proofs.lemmas.List.{drop-set-add, drop-set-lt, length-drop}
use Rattle.atomic_table.specs.Table.{homes_after, keeps, takes}
use Rattle.wait_core.specs.declared.step.Call.{Call}
use Rattle.wait_core.specs.declared.step.Call.TheVariants as call
use Rattle.wait_core.specs.declared.step.Spot.{Spot}
use Rattle.wait_core.specs.declared.step.WaitStep.{WaitStep}
use Rattle.wait_core.specs.declared.step.WaitStep.TheVariants.{Sload, Sset, Reset, Mstore, Mload, Byte, Look, Drain, Shload, Shstore, Take, Spin, Free}
use Rattle.wait_core.specs.declared.view.Frame.TheVariants.{Taking}
use Rattle.wait_core.specs.declared.view.Kept.{Kept}
use Rattle.wait_core.specs.declared.view.Size.{Size}
use Rattle.wait_core.specs.declared.view.WaitView.{WaitView}
use Rattle.wait_core.specs.Words.{client_base, slot_of, slots_in, spin_at}
use Rattle.wait_core.specs.Machine.{Permits, Place, Stand, act_of, as_kept, becomes, carried, entered, home_in, list_of, made_with, next_with, number_of, place_then, slot_number, stand_of, step_spot, taken, word_of}
use Rattle.script_play.proofs.ListFacts.{set-same}
use Rattle.wait_script.specs.WaitScripts.{home_after, home_at, nothing, slots_of, unless_taken}

-- SLOTS with their spin words
pub slots-long : (spins : List ℕ) (homes : List Kept) → length (slots_of spins homes) ≡ length homes
slots-long spins [] = refl
slots-long [] (h ∷ homes) = ap suc (slots-long [] homes)
slots-long (s ∷ spins) (h ∷ homes) = ap suc (slots-long spins homes)

slots-set : (spins : List ℕ) (homes : List Kept) (x n : ℕ) (k : Kept) → length homes ≤ length spins → slots_of (set spins x n) (set homes x k) ≡ set (slots_of spins homes) x (unless_taken n k)
slots-set spins [] x n k wide = refl
slots-set [] (h ∷ homes) x n k wide = absurd (omega arith)
slots-set (s ∷ spins) (h ∷ homes) zero n k wide = refl
slots-set (s ∷ spins) (h ∷ homes) (suc x) n k wide = ap (λ (t : List (maybe.Option Kept)). unless_taken s h ∷ t) (slots-set spins homes x n k (omega arith))

slots-home : (spins : List ℕ) (homes : List Kept) (x : ℕ) → get_or spins x 0 ≡ 0 → home_in (slots_of spins homes) x ≡ home_at homes x
slots-home spins [] x clear = refl
slots-home [] (h ∷ homes) zero clear = refl
slots-home [] (h ∷ homes) (suc x) clear = slots-home [] homes x refl
slots-home (s ∷ spins) (h ∷ homes) zero clear = rw (eq-eqb s 0 clear) refl
slots-home (s ∷ spins) (h ∷ homes) (suc x) clear = slots-home spins homes x clear

-- A STEP that is on no spin word is on a word before them
pub before-spins : (z : Size) (o : ℕ) (k : WaitStep) (t : Option ℕ) (p : Place) → o < z.procs → Permits z k (Some o) t p → step_spot k ≡ None → word_of z o k < spin_at z 0
before-spins z o (Sload q (Some (call.Set r))) t p below ok none = let few = ok.0.1 in omega arith
before-spins z o (Sload q (Some (call.Wait u))) t p below ok none = let is : o ≡ q = cc (ok.0) in omega arith
before-spins z o (Sload q (Some call.IsSet)) t p below ok none = let is : o ≡ q = cc (ok.0) in omega arith
before-spins z o (Sload q (Some (call.Sleep c))) t p below ok none = let is : o ≡ q = cc (ok.0.0) in omega arith
before-spins z o (Sload q (Some c)) t p below ok none = absurd ok.0
before-spins z o (Sload q None) t p below ok none = let is : o ≡ q = cc (ok.0) in omega arith
before-spins z o (Sset q) t p below ok none = let few = ok.0 in omega arith
before-spins z o (Reset b) t p below ok none = omega arith
before-spins z o (Mstore may) t p below ok none = omega arith
before-spins z o (Mload q) t p below ok none = let few = ok.0 in omega arith
before-spins z o (Byte q) t p below ok none = let few = ok.0 in omega arith
before-spins z o Look t p below ok none = omega arith
before-spins z o Drain t p below ok none = omega arith
before-spins z o (Shload b) t p below ok none = omega arith
before-spins z o (Shstore b) t p below ok none = omega arith
before-spins z o (Take x b) t p below ok none = absurd (cc)
before-spins z o (Spin x) t p below ok none = absurd (cc)
before-spins z o (Free x after) t p below ok none = absurd (cc)

module _ (z : Size) (words : List ℕ) (homes : List Kept) (long : length words ≡ client_base z + 0) (many : length homes ≡ slots_in z) where
  abbrev slots : List ℕ → List Kept → List (maybe.Option Kept)
  slots ws hs = slots_of (drop (spin_at z 0) ws) hs

  -- what is at home in the slot whose word is clear
  home-same : (x : ℕ) → get_or words (spin_at z x) 0 ≡ 0 → home_in (slots words homes) x ≡ home_at homes x
  home-same x clear =
      let at : spin_at z 0 + x ≡ spin_at z x = omega arith in
      slots-home (drop (spin_at z 0) words) homes x (get_or-drop (spin_at z 0) words x 0 ∙ ap (λ (i : ℕ). get_or words i 0) at ∙ clear)

  -- so a view goes on as with what the script has there: only a take that finds its word clear reads it
  abbrev In : WaitStep → Kept
  In k = home_in (slots words homes) (slot_number k)

  abbrev At : WaitStep → Kept
  At k = home_at homes (slot_number k)

  taken-away : (a b : Kept) (p : Place) → taken false a p ≡ taken false b p
  taken-away a b (Taking j ∷ p) = refl
  taken-away a b p = refl

  taken-same : (x : Spot) (begins : Option Call) (n : ℕ) (p : Place) → n ≡ get_or words (spin_at z (slot_of x)) 0 → taken (eqb n 0) (In (Take x begins)) p ≡ taken (eqb n 0) (At (Take x begins)) p
  taken-same x begins n p is = by_word (eqb n 0) refl
    where
      by_word : (c : Bool) → eqb n 0 ≡ c → taken c (In (Take x begins)) p ≡ taken c (At (Take x begins)) p
      by_word true e = ap (λ (k : Kept). taken true k p) (home-same (slot_of x) (sym is ∙ eqb-true n 0 e))
      by_word false e = taken-away (In (Take x begins)) (At (Take x begins)) p

  place-same : (k : WaitStep) (own n : ℕ) (s : Stand) → n ≡ get_or words (word_of z own k) 0 → place_then z k n (In k) s ≡ place_then z k n (At k) s
  place-same (Take x (Some c)) own n s is = taken-same x (Some c) n (entered s.target c s.place) is
  place-same (Take x None) own n s is = taken-same x None n s.place is
  place-same k own n s is = refl

  list-same : (k : WaitStep) (own n o : ℕ) (p : Place) → n ≡ get_or words (word_of z own k) 0 → list_of k n (In k) o p ≡ list_of k n (At k) o p
  list-same (Take x begins) own n o p is = by_word (eqb n 0) refl
    where
      by_word : (c : Bool) → eqb n 0 ≡ c → cond c (In (Take x begins)).list.items [] ≡ cond c (At (Take x begins)).list.items []
      by_word true e = ap (λ (k : Kept). k.list.items) (home-same (slot_of x) (sym is ∙ eqb-true n 0 e))
      by_word false e = refl
  list-same k own n o p is = refl

  pub view-same : {C : Type 0} (k : WaitStep) (own n : ℕ) (v : WaitView C) → n ≡ get_or words (word_of z own k) 0 → next_with z k v n (In k) ≡ next_with z k v n (At k)
  view-same k own n v is = λ i. record (next_with z k v n (In k)) { place = place-same k own n (stand_of v) is i; steps = v.steps ++ made_with k n (list-same k own n (number_of v.own) v.place is i) ∷ [] }

  -- a spin word and its slot are written
  both-set : (x n : ℕ) (k : Kept) → slots (set words (spin_at z x) n) (set homes x k) ≡ set (slots words homes) x (unless_taken n k)
  both-set x n k =
      let at : spin_at z x ≡ spin_at z 0 + x = omega arith in
      let wide : length homes ≤ length (drop (spin_at z 0) words) = (let d = length-drop (spin_at z 0) words in omega (arith, d, long, many)) in
      ap (λ (i : ℕ). slots (set words i n) (set homes x k)) at ∙ ap (λ (ws : List ℕ). slots_of ws (set homes x k)) (drop-set-add (spin_at z 0) words x n) ∙ slots-set (drop (spin_at z 0) words) homes x n k wide

  -- or left as they were
  both-same : (i n x : ℕ) → n ≡ get_or words i 0 → slots (set words i n) (set homes x (home_at homes x)) ≡ slots words homes
  both-same i n x is = ap (λ (hs : List Kept). slots (set words i n) hs) (set-same nothing homes x) ∙ ap (λ (m : ℕ). slots (set words i m) homes) is ∙ ap (λ (ws : List ℕ). slots ws homes) (set-same 0 words i)

  -- or another word is written
  word-set : (i n x : ℕ) → i < spin_at z 0 → slots (set words i n) (set homes x (home_at homes x)) ≡ slots words homes
  word-set i n x before = ap (λ (hs : List Kept). slots (set words i n) hs) (set-same nothing homes x) ∙ ap (λ (ws : List ℕ). slots_of ws homes) (drop-set-lt (spin_at z 0) words i n before)

  -- so after each step
  pub slots-follow : (k : WaitStep) (own n : ℕ) (place : Place) (found : Kept) → n ≡ get_or words (word_of z own k) 0 → n ≤ 1 → (step_spot k ≡ None → word_of z own k < spin_at z 0)
      → slots (set words (word_of z own k) (becomes k n)) (set homes (slot_number k) (home_after k n own place (home_at homes (slot_number k)))) ≡ homes_after (slots words homes) (carried k own place) (act_of k n found)
  slots-follow (Take x b) own n place found is small before = by_word (eqb n 0) refl
    where
      by_word : (c : Bool) → eqb n 0 ≡ c → slots (set words (spin_at z (slot_of x)) 1) (set homes (slot_of x) (cond c (as_kept [] (home_at homes (slot_of x)).record) (home_at homes (slot_of x)))) ≡ homes_after (slots words homes) (carried (Take x b) own place) (cond c (takes (slot_of x) found) keeps)
      by_word true e = both-set (slot_of x) 1 (as_kept [] (home_at homes (slot_of x)).record)
      by_word false e = both-same (spin_at z (slot_of x)) 1 (slot_of x) (let one : (n ≡ 0 → ⊥) = λ none. absurd (let f = eq-eqb n 0 none in cc) in omega (arith, one, is, small))
  slots-follow (Spin x) own n place found is small before = both-same (spin_at z (slot_of x)) n (slot_of x) is
  slots-follow (Free x after) own n place found is small before = both-set (slot_of x) 0 _
  slots-follow (Sload q b) own n place found is small before = word-set (word_of z own (Sload q b)) n 0 (before refl)
  slots-follow (Sset q) own n place found is small before = word-set (word_of z own (Sset q)) 1 0 (before refl)
  slots-follow (Reset b) own n place found is small before = word-set (word_of z own (Reset b)) 0 0 (before refl)
  slots-follow (Mstore may) own n place found is small before = word-set (word_of z own (Mstore may)) (becomes (Mstore may) n) 0 (before refl)
  slots-follow (Mload q) own n place found is small before = word-set (word_of z own (Mload q)) n 0 (before refl)
  slots-follow (Byte q) own n place found is small before = word-set (word_of z own (Byte q)) 1 0 (before refl)
  slots-follow Look own n place found is small before = word-set (word_of z own Look) n 0 (before refl)
  slots-follow Drain own n place found is small before = word-set (word_of z own Drain) 0 0 (before refl)
  slots-follow (Shload b) own n place found is small before = word-set (word_of z own (Shload b)) n 0 (before refl)
  slots-follow (Shstore b) own n place found is small before = word-set (word_of z own (Shstore b)) 1 0 (before refl)

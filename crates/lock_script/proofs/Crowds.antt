-- A script's opening meets the rule: its table's backends were drawn one after the other.
use Rattle.std.proofs.Common.{◌≡◌, ◌∙◌, ℕ, zero, suc, ◌+◌, ◌-◌, ◌*◌, ◌%◌, ◌/◌, ◌<◌, ◌≤◌, nat_lt, eqb, Bool, true, false, cond, List, [], ◌∷◌, ◌++◌, map, length, set, get_or, Some, refl, sym, ap, subst, arith, add-one, eq-eqb, get_or-set_same, get_or-set_other}
use mathlib.Core.Logic.{dite}
use mathlib.Core.Option as maybe
use native.Mathlib.Decide.{dec_le}
use Rattle.std.specs.Prelude.{◌&&◌}
use Rattle.std.specs.List.{range_with_len}
use Rattle.std.proofs.lemmas.Bool.{eqb-true, ne_eqb}
use Rattle.std.proofs.lemmas.Bool.Decides.{nat_tests}
use Rattle.std.proofs.lemmas.List.{get_or_past, length-set, set-set}
use Rattle.std.proofs.lemmas.List.FromFn.{get_or-map-range_with_len, length-map-range_with_len, map-range_with_len_more}
use Rattle.seat_roster.proofs.Stretches.{map_twice}
use Rattle.lw_core.specs.declared.view.Size.{Size}
use Rattle.lw_core.specs.declared.view.View.{View}
use Rattle.lw_core.specs.declared.view.Waiter.{Waiter}
use Rattle.lw_core.specs.Words.{Opens, Waiters, release_ok, state_at, word_count}
use Rattle.lw_core.specs.WaitLists.{AllEmpty, home_list}
use Rattle.lw_core.specs.Machine.{LwState, as_waiters, fresh}
use Rattle.lw_core.specs.Rule.{Rule}
use Rattle.lw_core.specs.Runs as run
use Rattle.lw_core.proofs.RuleKeeps.{opens, turn_keeps}
use Rattle.script_play.proofs.ListFacts.{each-map, set-same}
use Rattle.lock_script.specs.Locks.{opened}
use Rattle.lock_script.specs.LockScripts.{Seat, first_homes, first_seats, first_view, first_words, nobody, slots_of, state_of, views_of}
use Rattle.lock_script.specs.Passed.{anything}
use Rattle.lock_script.proofs.Slots.{LieIn, Slots, slots_are, with_views}

-- the first seat, which drew so many numbers, and those whom it drew
abbrev head : ℕ → View
head j = record (fresh (Some 0)) { drawn = j }

abbrev others : ℕ → List View
others zero = []
others (suc j) = others j ++ fresh (Some (j + 1)) ∷ []

abbrev crowd : List ℕ → Slots → ℕ → LwState
crowd words slots j = with_views (set words 0 (j + 1)) slots (head j ∷ others j)

-- lists on which nobody is
abbrev no_lists : List ℕ → List Waiters
no_lists xs = map (λ _. as_waiters []) xs

all_empty : (xs : List ℕ) → AllEmpty (no_lists xs)
all_empty [] = tt
all_empty (x ∷ xs) = (refl, all_empty xs)

none_lies : (xs : List ℕ) (l : ℕ) → home_list (map maybe.some (no_lists xs)) l ≡ []
none_lies [] l = refl
none_lies (x ∷ xs) zero = refl
none_lies (x ∷ xs) (suc l) = none_lies xs l

module _ (z : Size) (words : List ℕ) (lists : List Waiters) (empty : AllEmpty lists) (locks : z.locks ≤ 200) (some : 0 < z.procs) (most : z.procs ≤ 64) (long : length words ≡ word_count z) (open_is : Opens z.locks words) (many : length lists ≡ z.locks) where
  abbrev slots : Slots
  slots = map maybe.some lists

  rule_of_crowd : (j : ℕ) → j < z.procs → Rule anything z (crowd words slots j)
  rule_of_crowd zero below =
      let same : set words 0 1 ≡ words = ap (λ (n : ℕ). set words 0 n) (sym open_is.0) ∙ set-same 0 words 0 in
      subst (λ (ws : List ℕ). Rule anything z (with_views ws slots (fresh (Some 0) ∷ []))) (sym same) (opens anything z words lists empty (λ l. tt) locks some most long open_is many)
  rule_of_crowd (suc j) below =
      let s : LwState = crowd words slots j in
      let v : View = head j in
      let drew : LwState = run.drawn s 0 v in
      let seated : LwState = run.split drew 0 (run.drew_one v) in
      let one : Rule anything z drew = turn_keeps anything z s drew (run.draws 0) (rule_of_crowd j (omega arith)) (record { view = v; at = refl; zero = refl; free = refl; more = omega arith; is = refl }) in
      let two : Rule anything z seated = turn_keeps anything z drew seated (run.splits 0) one (record { view = run.drew_one v; at = refl; is = refl }) in
      let wide : 0 < length words = omega (arith, long) in
      let same : set (set words 0 (j + 1)) 0 (get_or (set words 0 (j + 1)) 0 0 + 1) ≡ set words 0 (suc j + 1) =
      set-set words 0 (j + 1) (get_or (set words 0 (j + 1)) 0 0 + 1) ∙ ap (λ (n : ℕ). set words 0 n) (ap (λ (n : ℕ). n + 1) (get_or-set_same words 0 (j + 1) 0 wide) ∙ (omega arith)) in
      let three : Rule anything z (with_views (set words 0 (suc j + 1)) slots (head (j + 1) ∷ others (suc j))) = subst (λ (ws : List ℕ). Rule anything z (with_views ws slots (head (j + 1) ∷ others (suc j)))) same two in
      subst (λ (n : ℕ). Rule anything z (with_views (set words 0 (suc j + 1)) slots (head n ∷ others (suc j)))) (add-one j) three

-- the views of a script's seats
views_are : (d j : ℕ) → map (λ p. let v : View = record (fresh (Some p)) { drawn = cond (eqb p 0) d 0 } in v) (range_with_len 0 (j + 1)) ≡ head d ∷ others j
views_are d zero = refl
views_are d (suc j) =
    let g : ℕ → View = λ p. record (fresh (Some p)) { drawn = cond (eqb p 0) d 0 } in
    let last : g (suc j) ≡ fresh (Some (j + 1)) = ap (λ (b : Bool). let v : View = record (fresh (Some (suc j))) { drawn = cond b d 0 } in v) (ne_eqb (suc j) 0 (λ e. omega arith)) ∙ ap (λ (n : ℕ). fresh (Some n)) (sym (add-one j)) in
    map-range_with_len_more g 0 (suc j) (suc j) (omega arith) ∙ ap (λ (t : List View). t ++ g (suc j) ∷ []) (ap (λ (n : ℕ). map g (range_with_len 0 n)) (sym (add-one j)) ∙ views_are d j) ∙ ap (λ (v : View). head d ∷ (others j ++ v ∷ [])) last

-- its words but the first are those of a new table
state_opened : (z : Size) (l : ℕ) → l < z.locks → opened z (state_at l) ≡ release_ok
state_opened z l below =
    let one : eqb ((6 * l + 1) % 6) 1 ≡ true = eq-eqb _ 1 (omega arith) in
    let two : nat_lt (6 * l + 1) (1 + 6 * z.locks) ≡ true = grind (arith, nat_tests, below) in
    ap (λ (b : Bool). cond (b && nat_lt (6 * l + 1) (1 + 6 * z.locks)) release_ok 0) one ∙ ap (λ (b : Bool). cond b release_ok 0) two

else_opened : (z : Size) (i : ℕ) → ((l : ℕ) → l < z.locks → i ≡ state_at l → ⊥) → opened z i ≡ 0
else_opened z i none = by_case (eqb (i % 6) 1) (nat_lt i (1 + 6 * z.locks)) refl refl
  where
    by_case : (a b : Bool) → eqb (i % 6) 1 ≡ a → nat_lt i (1 + 6 * z.locks) ≡ b → cond (a && b) release_ok 0 ≡ 0
    by_case false b e f = refl
    by_case true false e f = refl
    by_case true true e f =
        let one : i % 6 ≡ 1 = eqb-true (i % 6) 1 e in
        let inside : i < 1 + 6 * z.locks = grind (arith, nat_tests, f) in
        absurd (none (i / 6) (omega (arith, one, inside)) (omega (arith, one)))

pub opening_meets : (z : Size) → z.locks ≤ 200 → 0 < z.procs → z.procs ≤ 64 → Rule anything z (state_of (first_words z) (first_homes z) (first_seats z)) × LieIn (slots_of (first_homes z) (views_of (first_seats z))) (first_homes z)
opening_meets z locks some most =
    let first : ℕ → ℕ = λ i. cond (eqb i 0) z.procs (opened z i) in
    let all : List ℕ = first_words z in
    let words : List ℕ = set all 0 1 in
    let long : length all ≡ word_count z = length-map-range_with_len first 0 (word_count z) in
    let there : (i : ℕ) → i < word_count z → get_or all i 0 ≡ first i = λ i below. get_or-map-range_with_len first 0 (word_count z) i i 0 below (omega arith) in
    let later : (i : ℕ) → 0 < i → i < word_count z → get_or words i 0 ≡ opened z i = λ i more below. get_or-set_other all 0 i 1 0 (λ e. omega (arith, e, more)) ∙ there i below ∙ ap (λ (b : Bool). cond b z.procs (opened z i)) (ne_eqb i 0 (λ e. omega (arith, e, more))) in
    let open_is : Opens z.locks words = (
      get_or-set_same all 0 1 0 (omega (arith, long)),
      λ l below. later (state_at l) (omega arith) (omega (arith, below)) ∙ state_opened z l below,
      λ i more none. dite (dec_le (word_count z) i)
          (λ outside. get_or_past words i 0 (omega (arith, outside, length-set all 0 1, long)))
          (λ inside. later i more (omega (arith, inside)) ∙ else_opened z i none),
    ) in
    let lists : List Waiters = no_lists (range_with_len 0 z.locks) in
    let many : length lists ≡ z.locks = length-map-range_with_len (λ _. as_waiters []) 0 z.locks in
    let slots : Slots = map maybe.some lists in
    let none : ℕ → List Waiter = λ _. [] in
    let homes_none : (l : ℕ) → get_or (first_homes z) l [] ≡ [] = each-map (λ (us : List Waiter). us ≡ []) none [] (range_with_len 0 z.locks) (λ _. refl) refl in
    let lies : LieIn slots (first_homes z) = λ l. none_lies (range_with_len 0 z.locks) l ∙ sym (homes_none l) in
    let d : ℕ = z.procs - 1 in
    let counted : d + 1 ≡ z.procs = omega (arith, some) in
    let words_is : set words 0 (d + 1) ≡ all = set-set all 0 1 (d + 1) ∙ ap (λ (n : ℕ). set all 0 n) (counted ∙ sym (there 0 (omega arith))) ∙ set-same 0 all 0 in
    let views_is : head d ∷ others d ≡ views_of (first_seats z) =
    sym (views_are d d) ∙ ap (λ (n : ℕ). map (first_view z) (range_with_len 0 n)) counted ∙ sym (map_twice (λ (x : Seat). x.view) (λ p. let x : Seat = record nobody { view = first_view z p } in x) (range_with_len 0 z.procs)) in
    let crowded : Rule anything z (with_views (set words 0 (d + 1)) slots (head d ∷ others d)) = rule_of_crowd z words lists (all_empty (range_with_len 0 z.locks)) locks some most (length-set all 0 1 ∙ long) open_is many d (omega (arith, some)) in
    let rule : Rule anything z (with_views all slots (views_of (first_seats z))) = subst (λ (vs : List View). Rule anything z (with_views all slots vs)) views_is (subst (λ (ws : List ℕ). Rule anything z (with_views ws slots (head d ∷ others d))) words_is crowded) in
    let is : slots ≡ slots_of (first_homes z) (views_of (first_seats z)) = slots_are z all slots (views_of (first_seats z)) (first_homes z) rule (length-map-range_with_len none 0 z.locks) lies in
    (subst (λ (xs : Slots). Rule anything z (with_views all xs (views_of (first_seats z)))) is rule, subst (λ (xs : Slots). LieIn xs (first_homes z)) is lies)

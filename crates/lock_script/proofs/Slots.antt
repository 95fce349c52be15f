-- The slots of a state that a script passes: what the rule says of them, and how they follow the script's lists at home.
use Rattle.std.proofs.Common.{◌≡◌, ◌∙◌, ℕ, zero, suc, Bool, true, false, cond, List, [], ◌∷◌, length, map, set, get_or, refl, sym, ap, arith, eq-eqb}
use Rattle.std.proofs.lemmas.Bool.{ne_eqb}
use Rattle.std.proofs.lemmas.List.FromFn.{fill_by_all}
use mathlib.Core.Logic.{dite}
use mathlib.Core.Option as maybe
use native.Mathlib.Decide.{ℕ_discrete}
use lib.ListN.{get_elem?}
use Rattle.atomic_table.specs.Table.{gives, homes_after, keeps, takes}
use Rattle.seat_roster.specs.Totals.{total}
use Rattle.lw_core.specs.declared.step.LwStep.{LwStep}
use Rattle.lw_core.specs.declared.view.Size.{Size}
use Rattle.lw_core.specs.declared.view.View.{View}
use Rattle.lw_core.specs.declared.view.Waiter.{Waiter}
use Rattle.lw_core.specs.Words.{Waiters, has_flag, locked, state_at}
use Rattle.lw_core.specs.WaitLists.{home_list, home_of}
use Rattle.lw_core.specs.Machine.{LwState, Place, act_of, as_waiters, left_at, lock_number, sends_home, takes_list}
use Rattle.lw_core.specs.ListInOneHand.{ListInOneHand}
use Rattle.lw_core.specs.Rule.{Rule}
use Rattle.lw_core.specs.Stances.{has_list, stance_of}
use Rattle.script_play.proofs.ListFacts.{set-same}
use Rattle.lock_script.specs.LockScripts.{home_after, slot_of, slots_of}
use Rattle.lock_script.specs.Passed.{anything}

abbrev pub Slots : Type 0
Slots = List (maybe.Option Waiters)

abbrev pub with_views : List ℕ → Slots → List View → LwState
with_views words slots views = record { words = words; homes = slots; views = views }

-- the lists at home are those in their slots; where a list isn't there is none
abbrev pub LieIn : Slots → List (List Waiter) → Type 0
LieIn slots homes = (l : ℕ) → home_list slots l ≡ get_or homes l []

there_is : {A : Type 0} (d : A) (xs : List A) (i : ℕ) (x : A) → get_elem? xs i ≡ maybe.some x → get_or xs i d ≡ x
there_is d [] i x e = absurd (maybe.some-ne-none x (sym e))
there_is d (y ∷ ys) zero x e = maybe.some-injective y x e
there_is d (y ∷ ys) (suc i) x e = there_is d ys i x e

-- so the rule says what each slot is
slot_is : (homes : List (List Waiter)) (views : List View) (slots : Slots) (l word : ℕ) → ListInOneHand l word (get_elem? slots l) (map stance_of views) → home_list slots l ≡ get_or homes l [] → get_elem? slots l ≡ maybe.some (slot_of homes views l)
slot_is homes views slots l word h lies = dite (ℕ_discrete (has_flag locked word) 0)
    (λ clear. let there = h.at_home clear in
    let none : total (has_list l) (map stance_of views) ≡ 0 = sym h.one ∙ clear in
    let list : there.0 ≡ as_waiters (get_or homes l []) = ap as_waiters (ap home_of (sym there.1) ∙ lies) in
    there.1 ∙ ap (λ (x : Waiters). maybe.some (maybe.some x)) list ∙ sym (ap (λ (b : Bool). maybe.some (slot b)) (eq-eqb _ 0 none)))
    (λ set_there. let one : has_flag locked word ≡ 1 = omega (arith, set_there) in
    h.out one ∙ sym (ap (λ (b : Bool). maybe.some (slot b)) (ne_eqb _ 0 (λ none. set_there (h.one ∙ none)))))
  where
    slot : Bool → maybe.Option Waiters
    slot b = cond b (maybe.some (as_waiters (get_or homes l []))) maybe.none

pub slots_are : (z : Size) (words : List ℕ) (slots : Slots) (views : List View) (homes : List (List Waiter)) → Rule anything z (with_views words slots views) → length homes ≡ z.locks → LieIn slots homes → slots ≡ slots_of homes views
slots_are z words slots views homes rule long lies = fill_by_all (slot_of homes views) slots (length homes) maybe.none (rule.sized.slots ∙ sym long)
    (λ l below. there_is maybe.none slots l _ (slot_is homes views slots l (get_or words (state_at l) 0) (rule.lists l (omega (arith, below, long))) (lies l)))

-- A STEP puts a list into a slot, takes one out, or leaves all as they are
put_lies : (slots : Slots) (homes : List (List Waiter)) (i : ℕ) (o : maybe.Option Waiters) (list : List Waiter) → length slots ≡ length homes → home_of (maybe.some o) ≡ list → LieIn slots homes → LieIn (set slots i o) (set homes i list)
put_lies [] [] i o list same is lies l = lies l
put_lies [] (y ∷ ys) i o list same is lies l = absurd (omega (arith, same))
put_lies (x ∷ xs) [] i o list same is lies l = absurd (omega (arith, same))
put_lies (x ∷ xs) (y ∷ ys) zero o list same is lies zero = is
put_lies (x ∷ xs) (y ∷ ys) zero o list same is lies (suc l) = lies (suc l)
put_lies (x ∷ xs) (y ∷ ys) (suc i) o list same is lies zero = lies zero
put_lies (x ∷ xs) (y ∷ ys) (suc i) o list same is lies (suc l) = put_lies xs ys i o list (omega (arith, same)) is (λ j. lies (suc j)) l

pub step_lies : (slots : Slots) (homes : List (List Waiter)) (k : LwStep) (n p : ℕ) (place : Place) → length slots ≡ length homes → LieIn slots homes
    → let home : List Waiter = get_or homes (lock_number k) [] in LieIn (homes_after slots ((lock_number k, as_waiters (left_at place p)) ∷ []) (act_of k n home)) (set homes (lock_number k) (home_after k n place p home))
step_lies slots homes k n p place same lies = by_act (takes_list k n) (sends_home k n)
  where
    i : ℕ
    i = lock_number k

    home : List Waiter
    home = get_or homes i []

    by_act : (a b : Bool) → LieIn (homes_after slots ((i, as_waiters (left_at place p)) ∷ []) (cond a (takes i (as_waiters home)) (cond b gives keeps))) (set homes i (cond a [] (cond b (left_at place p) home)))
    by_act true b = put_lies slots homes i maybe.none [] same refl lies
    by_act false true = put_lies slots homes i (maybe.some (as_waiters (left_at place p))) (left_at place p) same refl lies
    by_act false false = λ l. lies l ∙ sym (ap (λ (hs : List (List Waiter)). get_or hs l []) (set-same [] homes i))

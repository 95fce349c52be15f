-- What each kind of step leaves as it was: the numbers, what the seat has of other locks, and the words of other locks.
use Rattle.std.proofs.Common.{◌≡◌, ◌≢◌, ℕ, zero, suc, ◌+◌, ◌-◌, ◌<◌, ◌≤◌, eqb, Bool, true, false, cond, List, [], ◌∷◌, length, get_or, set, replicate, Option, None, Some, is_some, sym, refl, ap, ◌∙◌, subst, arith, eq-eqb, ne_eqb, get_or-set_same, get_or-set_other}
use mathlib.Core.Logic.{dite}
use native.Mathlib.Decide.{ℕ_discrete}
use Rattle.proc_table.specs.declared.Mode.{Mode}
use Rattle.proc_table.specs.declared.Mode.TheVariants.{Exclusive}
use Rattle.lw_core.specs.declared.step.Call.{Call}
use Rattle.lw_core.specs.declared.step.Call.TheVariants as call
use Rattle.lw_core.specs.declared.step.LwStep.{LwStep}
use Rattle.lw_core.specs.declared.step.LwStep.TheVariants as kind
use Rattle.lw_core.specs.declared.view.Frame.{Frame}
use Rattle.lw_core.specs.declared.view.Frame.TheVariants.{Releasing}
use Rattle.lw_core.specs.declared.view.Hold.{Hold}
use Rattle.lw_core.specs.declared.view.Size.{Size}
use Rattle.lw_core.specs.declared.view.View.{View}
use Rattle.lw_core.specs.declared.view.Waiter.{Waiter}
use Rattle.lw_core.specs.Words.{state_at, guard_at, grant_of, guarded}
use Rattle.lw_core.specs.Machine.{Place, top, outer, not_held, held, hold_in, mode_in, number_of, lock_of, word_of, gripped, on_grant, releasing, let_go, poked_by, next, BeginsRelease, Allowed, fresh, guard_hold}
use Rattle.lw_core.specs.SeatFits.{PlaceFits}
use Rattle.lw_core.specs.Rule.{numbers_of}

-- the two cases of an exchange that expects w
pub on_exchange : (n w : ℕ) (P : Bool → Type 0) → (n ≡ w → P true) → (n ≢ w → P false) → P (eqb n w)
on_exchange n w P hit miss = dite (ℕ_discrete n w) (λ e. subst P (sym (eq-eqb n w e)) (hit e)) (λ ne. subst P (sym (ne_eqb n w ne)) (miss ne))

pub either_way : {A B : Type 0} (f : A → B) (b : Bool) (x y : A) (z : B) → f x ≡ z → f y ≡ z → f (cond b x y) ≡ z
either_way f true x y z left right = left
either_way f false x y z left right = right

-- what a lock is held in
pub some_mode : (o : Option Mode) → is_some o ≡ true → (m : Mode) × (o ≡ Some m)
some_mode None e = absurd (cc)
some_mode (Some m) e = (m, refl)

-- who may read or write a guarded word holds the lock
pub guards_held : (b : Bool) (o : Option Mode) → cond b (o ≡ Some Exclusive) (is_some o ≡ true) → is_some o ≡ true
guards_held true o ok = ap is_some ok
guards_held false o ok = ok

pub top_is : (p : Place) (f : Frame) → top p ≡ Some f → p ≡ f ∷ outer p
top_is [] f e = absurd (cc)
top_is (g ∷ p) f e = ap (λ (h : Frame). h ∷ p) (cc)

-- what a poke leaves of a view
pub poked_keeps : {A : Type 0} (see : View → A) → ((v : View) (q : ℕ) → see (poked_by (Some (call.Poke q)) v) ≡ see v) → (b : Option Call) (v : View) → see (poked_by b v) ≡ see v
poked_keeps see kept (Some (call.Poke q)) v = kept v q
poked_keeps see kept (Some c) v = refl
poked_keeps see kept None v = refl

pub numbers_kept : (k : LwStep) (v : View) (n : ℕ) (found : List Waiter) → numbers_of (next k v n found) ≡ numbers_of v
numbers_kept (kind.Grant l m w) v n found = either_way numbers_of (eqb n w) _ _ (numbers_of v) refl refl
numbers_kept (kind.Post q b) v n found = poked_keeps numbers_of (λ _ _. refl) b _
numbers_kept k v n found = refl

pub hold_here : (v : View) (k : LwStep) (l n : ℕ) (p : Place) (h : Hold) (grants : ℕ) → l < length v.holds → hold_in l (gripped v k l n p h grants) ≡ h
hold_here v k l n p h grants inside = get_or-set_same v.holds l h not_held inside

gripped_else : (v : View) (k : LwStep) (i n : ℕ) (p : Place) (h : Hold) (grants l : ℕ) → l ≢ i → hold_in l (gripped v k i n p h grants) ≡ hold_in l v
gripped_else v k i n p h grants l other = get_or-set_other v.holds i l h not_held other

-- a step leaves what the seat has of each lock that it isn't on
pub hold_else : (k : LwStep) (v : View) (n : ℕ) (found : List Waiter) (l : ℕ) → (lock_of k ≡ Some l → ⊥) → hold_in l (next k v n found) ≡ hold_in l v
hold_else (kind.Grant i m w) v n found l other = either_way (hold_in l) (eqb n w) _ _ (hold_in l v) (gripped_else v (kind.Grant i m w) i n (on_grant v.surplus (outer v.place)) (held m) (v.grants + 1) l (λ e. other (ap Some (sym e)))) refl
hold_else (kind.Sub i m b) v n found l other = gripped_else v (kind.Sub i m b) i n (let_go b i (n - grant_of m) (releasing b v.place)) not_held v.grants l (λ e. other (ap Some (sym e)))
hold_else (kind.Guard i k o) v n found l other = gripped_else v (kind.Guard i k o) i n v.place (guard_hold o (hold_in i v) k n) v.grants l (λ e. other (ap Some (sym e)))
hold_else (kind.Post q b) v n found l other = poked_keeps (hold_in l) (λ _ _. refl) b _
hold_else k v n found l other = refl

-- a release goes on in no call
pub begun_release : (b : Option Call) (l : ℕ) (v : View) → PlaceFits v.holds v.surplus v.place → BeginsRelease l b v → releasing b v.place ≡ []
begun_release (Some (call.Release k)) l v fits ok = ok.1
begun_release (Some c) l v fits ok = absurd ok
begun_release None l v fits ok = let now = subst (PlaceFits v.holds v.surplus) (top_is v.place (Releasing l) ok) fits in now.2

-- a lock is that of the step or isn't
pub on_lock : (k : LwStep) (l : ℕ) (P : Type 0) → (lock_of k ≡ Some l → P) → ((lock_of k ≡ Some l → ⊥) → P) → P
on_lock k l P on off = by_lock (lock_of k) refl
  where
    by_lock : (o : Option ℕ) → lock_of k ≡ o → P
    by_lock None e = off (λ is. absurd (cc))
    by_lock (Some i) e = dite (ℕ_discrete i l) (λ same. on (e ∙ ap Some same)) (λ ne. off (λ is. ne (same_some i l (sym e ∙ is))))
      where
        same_some : (a b : ℕ) → Some a ≡ Some b → a ≡ b
        same_some a b e = ap number_of e

-- the words of a lock that the step isn't on are other words than the step's
module _ (lawful : ℕ → List ℕ → Type 0) (z : Size) (own : ℕ) where
  pub word_apart : (k : LwStep) (v : View) → Allowed lawful k v → (l : ℕ) → l < z.locks → (lock_of k ≡ Some l → ⊥) → (j : ℕ) → state_at l ≤ j → j ≤ guard_at l 3 → j ≢ word_of z own k
  word_apart (kind.WaitStore q x) v ok l below ne j from to e = omega arith
  word_apart kind.WaitLoad v ok l below ne j from to e = omega arith
  word_apart (kind.Post q b) v ok l below ne j from to e = omega arith
  word_apart (kind.Look b) v ok l below ne j from to e = omega arith
  word_apart kind.Down v ok l below ne j from to e = omega arith
  word_apart k v ok l below ne j from to e = ne (ap Some (omega arith))

  -- the number that is drawn next is no step's word
  pub word_past_first : (k : LwStep) → 0 < word_of z own k
  word_past_first (kind.Load i b) = omega arith
  word_past_first k = omega arith

pub guarded_same : (words others : List ℕ) (l : ℕ) → ((k : ℕ) → k < 4 → get_or words (guard_at l k) 0 ≡ get_or others (guard_at l k) 0) → guarded words l ≡ guarded others l
guarded_same words others l same = λ i. same 0 (omega arith) i ∷ same 1 (omega arith) i ∷ same 2 (omega arith) i ∷ same 3 (omega arith) i ∷ []

pub guarded_at : (words : List ℕ) (l k : ℕ) → k < 4 → get_or (guarded words l) k 0 ≡ get_or words (guard_at l k) 0
guarded_at words l zero few = refl
guarded_at words l (suc zero) few = refl
guarded_at words l (suc (suc zero)) few = refl
guarded_at words l (suc (suc (suc zero))) few = refl
guarded_at words l (suc (suc (suc (suc k)))) few = absurd (omega arith)

-- a state word is none of the guarded ones
pub guarded_off : (words : List ℕ) (i n l : ℕ) → guarded (set words (state_at i) n) l ≡ guarded words l
guarded_off words i n l = guarded_same (set words (state_at i) n) words l (λ k few. get_or-set_other words (state_at i) (guard_at l k) n 0 (λ same. omega arith))

pub guarded_set : (words : List ℕ) (l k x : ℕ) → k < 4 → guard_at l 3 < length words → guarded (set words (guard_at l k) x) l ≡ set (guarded words l) k x
guarded_set words l zero x few inside = λ i. get_or-set_same words (guard_at l 0) x 0 (omega arith) i ∷ off 1 (omega arith) i ∷ off 2 (omega arith) i ∷ off 3 (omega arith) i ∷ []
  where
    off : (j : ℕ) → 0 < j → get_or (set words (guard_at l 0) x) (guard_at l j) 0 ≡ get_or words (guard_at l j) 0
    off j some = get_or-set_other words (guard_at l 0) (guard_at l j) x 0 (λ e. omega arith)
guarded_set words l (suc zero) x few inside = λ i. off 0 (λ e. omega arith) i ∷ get_or-set_same words (guard_at l 1) x 0 (omega arith) i ∷ off 2 (λ e. omega arith) i ∷ off 3 (λ e. omega arith) i ∷ []
  where
    off : (j : ℕ) → j ≢ 1 → get_or (set words (guard_at l 1) x) (guard_at l j) 0 ≡ get_or words (guard_at l j) 0
    off j other = get_or-set_other words (guard_at l 1) (guard_at l j) x 0 (λ e. other (omega arith))
guarded_set words l (suc (suc zero)) x few inside = λ i. off 0 (λ e. omega arith) i ∷ off 1 (λ e. omega arith) i ∷ get_or-set_same words (guard_at l 2) x 0 (omega arith) i ∷ off 3 (λ e. omega arith) i ∷ []
  where
    off : (j : ℕ) → j ≢ 2 → get_or (set words (guard_at l 2) x) (guard_at l j) 0 ≡ get_or words (guard_at l j) 0
    off j other = get_or-set_other words (guard_at l 2) (guard_at l j) x 0 (λ e. other (omega arith))
guarded_set words l (suc (suc (suc zero))) x few inside = λ i. off 0 (λ e. omega arith) i ∷ off 1 (λ e. omega arith) i ∷ off 2 (λ e. omega arith) i ∷ get_or-set_same words (guard_at l 3) x 0 (omega arith) i ∷ []
  where
    off : (j : ℕ) → j ≢ 3 → get_or (set words (guard_at l 3) x) (guard_at l j) 0 ≡ get_or words (guard_at l j) 0
    off j other = get_or-set_other words (guard_at l 3) (guard_at l j) x 0 (λ e. other (omega arith))
guarded_set words l (suc (suc (suc (suc k)))) x few inside = absurd (omega arith)

none_held : (n l : ℕ) → get_or (replicate n not_held) l not_held ≡ not_held
none_held zero l = refl
none_held (suc n) zero = refl
none_held (suc n) (suc l) = none_held n l

-- a seat that did nothing yet holds nothing
pub fresh_hold : (own : Option ℕ) (l : ℕ) → hold_in l (fresh own) ≡ not_held
fresh_hold own l = none_held 200 l

pub fresh_mode : (own : Option ℕ) (l : ℕ) → mode_in l (fresh own) ≡ None
fresh_mode own l = ap (λ (h : Hold). h.mode) (fresh_hold own l)

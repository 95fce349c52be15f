-- Lemmas on lists of waiters.
use Rattle.std.proofs.Common.{◌≡◌, ◌≢◌, ℕ, ◌+◌, ◌≤◌, eqb, Bool, true, false, cond, List, [], ◌∷◌, ◌++◌, length, sym, refl, ap, ◌∙◌, subst, arith, eq-eqb, ne_eqb}
use Rattle.std.proofs.lemmas.Bool.{eqb-true, cond-true, cond-false}
use mathlib.Core.Logic.{dite}
use native.Mathlib.Decide.{ℕ_discrete}
use Rattle.seat_roster.specs.Totals.{total}
use Rattle.lw_core.specs.declared.view.Want.{Want}
use Rattle.lw_core.specs.declared.view.Want.TheVariants.{Shared, Exclusive, UntilFree}
use Rattle.lw_core.specs.declared.view.Waiter.{Waiter}
use Rattle.lw_core.specs.WaitLists.{same_want, times_on, times_with, HasNoUntilFree, IsUntilFreeFirst, joined_by, without, taken_after, kept_after, taken_from, kept_from, until_free_from, lockers_from, has_locker, is_empty}

-- whatever is counted on a list: once a waiter joined it, after one left it, and where it is parted
module _ (f : Waiter → ℕ) where
  pub total_append : (ws us : List Waiter) → total f (ws ++ us) ≡ total f ws + total f us
  total_append [] us = omega arith
  total_append (w ∷ ws) us = let r = total_append ws us in omega arith

  pub total_joined : (w : Waiter) (ws : List Waiter) → total f (joined_by w ws) ≡ total f ws + f w
  total_joined w ws = by_place (same_want w.want UntilFree)
    where
      by_place : (head : Bool) → total f (cond head (w ∷ ws) (ws ++ w ∷ [])) ≡ total f ws + f w
      by_place true = omega arith
      by_place false = let r = total_append ws (w ∷ []) in omega arith

  pub total_without : (p : ℕ) (ws : List Waiter) → total f (without p ws) ≤ total f ws
  total_without p [] = omega arith
  total_without p (w ∷ ws) = by_test (eqb w.proc p) (total_without p ws)
    where
      by_test : (is : Bool) → total f (without p ws) ≤ total f ws → total f (cond is (without p ws) (w ∷ without p ws)) ≤ total f (w ∷ ws)
      by_test true r = omega arith
      by_test false r = omega arith

  pub total_parted : (took_shared : Bool) (ws : List Waiter) → total f (taken_after took_shared ws) + total f (kept_after took_shared ws) ≡ total f ws
  total_parted took_shared [] = refl
  total_parted took_shared (w ∷ ws) = let next : Bool = cond (same_want w.want Shared) true took_shared in by_want (same_want w.want Exclusive) took_shared next (total_parted took_shared ws) (total_parted next ws)
    where
      by_want : (exclusive took_shared next : Bool) → total f (taken_after took_shared ws) + total f (kept_after took_shared ws) ≡ total f ws → total f (taken_after next ws) + total f (kept_after next ws) ≡ total f ws
          → total f (cond exclusive (cond took_shared (taken_after took_shared ws) (w ∷ [])) (w ∷ taken_after next ws)) + total f (cond exclusive (cond took_shared (w ∷ kept_after took_shared ws) ws) (kept_after next ws)) ≡ total f (w ∷ ws)
      by_want true true next r s = omega arith
      by_want true false next r s = omega arith
      by_want false took_shared next r s = omega arith

  pub total_headed : (ws : List Waiter) → total f (until_free_from ws) + total f (lockers_from ws) ≡ total f ws
  total_headed [] = refl
  total_headed (w ∷ ws) = by_want (same_want w.want UntilFree) (total_headed ws)
    where
      by_want : (until : Bool) → total f (until_free_from ws) + total f (lockers_from ws) ≡ total f ws → total f (cond until (w ∷ until_free_from ws) []) + total f (cond until (lockers_from ws) (w ∷ ws)) ≡ total f (w ∷ ws)
      by_want true r = omega arith
      by_want false r = omega arith

-- what `times_on` and `times_with` count of one waiter
abbrev is_proc : ℕ → Waiter → ℕ
is_proc p w = cond (eqb w.proc p) 1 0

abbrev is_proc_with : ℕ → Want → Waiter → ℕ
is_proc_with p want w = cond (eqb w.proc p) (cond (same_want w.want want) 1 0) 0

-- how often p is on a list
pub times_here : (p : ℕ) (w : Waiter) (ws : List Waiter) → p ≡ w.proc → times_on p (w ∷ ws) ≡ 1 + times_on p ws
times_here p w ws is = ap (λ (n : ℕ). n + times_on p ws) (cond-true (eqb w.proc p) 1 0 (eq-eqb w.proc p (sym is)))

pub times_else : (p : ℕ) (w : Waiter) (ws : List Waiter) → p ≢ w.proc → times_on p (w ∷ ws) ≡ 0 + times_on p ws
times_else p w ws ne = ap (λ (n : ℕ). n + times_on p ws) (cond-false (eqb w.proc p) 1 0 (ne_eqb w.proc p (λ is. ne (sym is))))

pub times_append : (p : ℕ) (ws us : List Waiter) → times_on p (ws ++ us) ≡ times_on p ws + times_on p us
times_append p ws us = total_append (is_proc p) ws us

pub times_joined : (p : ℕ) (w : Waiter) (ws : List Waiter) → times_on p (joined_by w ws) ≡ times_on p ws + cond (eqb w.proc p) 1 0
times_joined p w ws = total_joined (is_proc p) w ws

pub times_with_joined : (p : ℕ) (want : Want) (w : Waiter) (ws : List Waiter) → times_with p want (joined_by w ws) ≡ times_with p want ws + cond (eqb w.proc p) (cond (same_want w.want want) 1 0) 0
times_with_joined p want w ws = total_joined (is_proc_with p want) w ws

pub times_without : (p : ℕ) (ws : List Waiter) → times_on p (without p ws) ≡ 0
times_without p [] = refl
times_without p (w ∷ ws) = by_test (eqb w.proc p) refl (times_without p ws)
  where
    by_test : (is : Bool) → eqb w.proc p ≡ is → times_on p (without p ws) ≡ 0 → times_on p (cond is (without p ws) (w ∷ without p ws)) ≡ 0
    by_test true e r = r
    by_test false e r = let a : is_proc p w ≡ 0 = ap (λ (b : Bool). cond b 1 0) e in omega arith

pub times_without_other : (q p : ℕ) (ws : List Waiter) → q ≢ p → times_on q (without p ws) ≡ times_on q ws
times_without_other q p [] ne = refl
times_without_other q p (w ∷ ws) ne = by_test (eqb w.proc p) refl (times_without_other q p ws ne)
  where
    by_test : (is : Bool) → eqb w.proc p ≡ is → times_on q (without p ws) ≡ times_on q ws → times_on q (cond is (without p ws) (w ∷ without p ws)) ≡ times_on q (w ∷ ws)
    by_test true e r = let a : is_proc q w ≡ 0 = ap (λ (b : Bool). cond b 1 0) (ne_eqb w.proc q (λ same. ne (sym same ∙ eqb-true _ _ e))) in omega arith
    by_test false e r = omega arith

pub times_without_le : (q p : ℕ) (ws : List Waiter) → times_on q (without p ws) ≤ times_on q ws
times_without_le q p ws = total_without (is_proc q) p ws

-- one who is on the list once leaves it
pub times_left : (p : ℕ) (ws : List Waiter) → times_on p ws ≡ 1 → (q : ℕ) → times_on q (without p ws) + cond (eqb p q) 1 0 ≡ times_on q ws
times_left p ws once q = dite (ℕ_discrete q p)
    (λ is. subst (λ (n : ℕ). times_on n (without p ws) + cond (eqb p n) 1 0 ≡ times_on n ws) (sym is) (let none = times_without p ws in let one = cond-true {A = ℕ} (eqb p p) 1 0 (eq-eqb p p refl) in omega arith))
    (λ ne. let same = times_without_other q p ws ne in let none = cond-false {A = ℕ} (eqb p q) 1 0 (ne_eqb p q (λ is. ne (sym is))) in omega arith)

pub times_with_without : (q p : ℕ) (want : Want) (ws : List Waiter) → times_with q want (without p ws) ≤ times_with q want ws
times_with_without q p want ws = total_without (is_proc_with q want) p ws

pub times_parted : (p : ℕ) (ws : List Waiter) → times_on p (taken_from ws) + times_on p (kept_from ws) ≡ times_on p ws
times_parted p ws = total_parted (is_proc p) false ws

pub times_with_parted : (p : ℕ) (want : Want) (ws : List Waiter) → times_with p want (taken_from ws) + times_with p want (kept_from ws) ≡ times_with p want ws
times_with_parted p want ws = total_parted (is_proc_with p want) false ws

-- on the list are those at its head who wait until the lock is free, and those behind them
pub times_headed : (p : ℕ) (ws : List Waiter) → times_on p (until_free_from ws) + times_on p (lockers_from ws) ≡ times_on p ws
times_headed p ws = total_headed (is_proc p) ws

pub times_with_headed : (p : ℕ) (want : Want) (ws : List Waiter) → times_with p want (until_free_from ws) + times_with p want (lockers_from ws) ≡ times_with p want ws
times_with_headed p want ws = total_headed (is_proc_with p want) ws

-- with some want, and with each
pub times_by_want : (p : ℕ) (ws : List Waiter) → times_on p ws ≡ times_with p Shared ws + (times_with p Exclusive ws + times_with p UntilFree ws)
times_by_want p [] = refl
times_by_want p (w ∷ ws) = let r = times_by_want p ws in let one = by_want w.want (eqb w.proc p) in omega arith
  where
    by_want : (want : Want) (is : Bool) → cond is 1 0 ≡ cond is (cond (same_want want Shared) 1 0) 0 + (cond is (cond (same_want want Exclusive) 1 0) 0 + cond is (cond (same_want want UntilFree) 1 0) 0)
    by_want want false = refl
    by_want Shared true = refl
    by_want Exclusive true = refl
    by_want UntilFree true = refl

pub times_with_le : (p : ℕ) (want : Want) (ws : List Waiter) → times_with p want ws ≤ times_on p ws
times_with_le p Shared ws = let each = times_by_want p ws in omega arith
times_with_le p Exclusive ws = let each = times_by_want p ws in omega arith
times_with_le p UntilFree ws = let each = times_by_want p ws in omega arith

-- who is on a list is on it with some want
pub some_want : (p : ℕ) (ws : List Waiter) → 1 ≤ times_on p ws → (want : Want) × (1 ≤ times_with p want ws)
some_want p ws some = let each = times_by_want p ws in dite (ℕ_discrete (times_with p Shared ws) 0)
    (λ a. dite (ℕ_discrete (times_with p Exclusive ws) 0) (λ b. (UntilFree, omega arith)) (λ b. (Exclusive, omega arith)))
    (λ a. (Shared, omega arith))

pub same_want_self : (want : Want) → same_want want want ≡ true
same_want_self Shared = refl
same_want_self Exclusive = refl
same_want_self UntilFree = refl

pub same_want_is : (a b : Want) → same_want a b ≡ true → a ≡ b
same_want_is Shared Shared e = refl
same_want_is Exclusive Exclusive e = refl
same_want_is UntilFree UntilFree e = refl
same_want_is a b e = absurd (cc)

-- who wants the lock stands on the list
pub locker_there : (ws : List Waiter) → has_locker ws ≡ true → (p : ℕ) × (want : Want) × (same_want want UntilFree ≡ false) × (1 ≤ times_with p want ws)
locker_there [] e = absurd (cc)
locker_there (w ∷ ws) e = by_want (same_want w.want UntilFree) refl e (λ later. locker_there ws later)
  where
    by_want : (until : Bool) → same_want w.want UntilFree ≡ until → cond until (has_locker ws) true ≡ true → (has_locker ws ≡ true → (p : ℕ) × (want : Want) × (same_want want UntilFree ≡ false) × (1 ≤ times_with p want ws))
        → (p : ℕ) × (want : Want) × (same_want want UntilFree ≡ false) × (1 ≤ times_with p want (w ∷ ws))
    by_want true is e r = let t = r e in let some = t.3 in (t.0, t.1, t.2, omega arith)
    by_want false is e r = let here : is_proc_with w.proc w.want w ≡ 1 = ap (λ (b : Bool). cond b (cond (same_want w.want w.want) 1 0) 0) (eq-eqb w.proc w.proc refl) ∙ ap (λ (b : Bool). cond b 1 0) (same_want_self w.want) in
        (w.proc, w.want, is, omega arith)

-- where a wake takes nobody who wants the lock, it leaves nobody
pub all_taken : (ws : List Waiter) → has_locker (taken_from ws) ≡ false → is_empty (kept_from ws) ≡ true
all_taken [] none = refl
all_taken (w ∷ ws) none = by_want w.want w.proc (all_taken ws) none
  where
    by_want : (want : Want) (p : ℕ) → (has_locker (taken_from ws) ≡ false → is_empty (kept_from ws) ≡ true) → has_locker (taken_from (record { proc = p; want = want } ∷ ws)) ≡ false
        → is_empty (kept_from (record { proc = p; want = want } ∷ ws)) ≡ true
    by_want Shared p r e = absurd (cc)
    by_want Exclusive p r e = absurd (cc)
    by_want UntilFree p r e = r e

-- who waits until the lock is free stands first, once a waiter joined, after one left, and among those who are kept
no_joined : (w : Waiter) (ws : List Waiter) → same_want w.want UntilFree ≡ false → HasNoUntilFree ws → HasNoUntilFree (ws ++ w ∷ [])
no_joined w [] e h = (e, tt)
no_joined w (u ∷ ws) e h = (h.0, no_joined w ws e h.1)

tail_first : (w : Waiter) (ws : List Waiter) → same_want w.want UntilFree ≡ false → IsUntilFreeFirst ws → IsUntilFreeFirst (ws ++ w ∷ [])
tail_first w [] e h = ((λ _. tt), tt)
tail_first w (u ∷ ws) e h = ((λ locks. no_joined w ws e (h.0 locks)), tail_first w ws e h.1)

pub joined_first : (w : Waiter) (ws : List Waiter) → IsUntilFreeFirst ws → IsUntilFreeFirst (joined_by w ws)
joined_first w ws h = by_place (same_want w.want UntilFree) refl
  where
    by_place : (head : Bool) → same_want w.want UntilFree ≡ head → IsUntilFreeFirst (cond head (w ∷ ws) (ws ++ w ∷ []))
    by_place true e = ((λ no. absurd (cc)), h)
    by_place false e = tail_first w ws e h

no_without : (p : ℕ) (ws : List Waiter) → HasNoUntilFree ws → HasNoUntilFree (without p ws)
no_without p [] h = tt
no_without p (w ∷ ws) h = by_test (eqb w.proc p) (no_without p ws h.1)
  where
    by_test : (is : Bool) → HasNoUntilFree (without p ws) → HasNoUntilFree (cond is (without p ws) (w ∷ without p ws))
    by_test true r = r
    by_test false r = (h.0, r)

pub without_first : (p : ℕ) (ws : List Waiter) → IsUntilFreeFirst ws → IsUntilFreeFirst (without p ws)
without_first p [] h = tt
without_first p (w ∷ ws) h = by_test (eqb w.proc p) (without_first p ws h.1)
  where
    by_test : (is : Bool) → IsUntilFreeFirst (without p ws) → IsUntilFreeFirst (cond is (without p ws) (w ∷ without p ws))
    by_test true r = r
    by_test false r = ((λ locks. no_without p ws (h.0 locks)), r)

no_kept : (took_shared : Bool) (ws : List Waiter) → HasNoUntilFree ws → HasNoUntilFree (kept_after took_shared ws)
no_kept took_shared [] h = tt
no_kept took_shared (w ∷ ws) h = let next : Bool = cond (same_want w.want Shared) true took_shared in by_want (same_want w.want Exclusive) took_shared next (no_kept took_shared ws h.1) (no_kept next ws h.1)
  where
    by_want : (exclusive took_shared next : Bool) → HasNoUntilFree (kept_after took_shared ws) → HasNoUntilFree (kept_after next ws) → HasNoUntilFree (cond exclusive (cond took_shared (w ∷ kept_after took_shared ws) ws) (kept_after next ws))
    by_want true true next r s = (h.0, r)
    by_want true false next r s = h.1
    by_want false took_shared next r s = s

kept_after_first : (took_shared : Bool) (ws : List Waiter) → IsUntilFreeFirst ws → IsUntilFreeFirst (kept_after took_shared ws)
kept_after_first took_shared [] h = tt
kept_after_first took_shared (w ∷ ws) h = let next : Bool = cond (same_want w.want Shared) true took_shared in by_want (same_want w.want Exclusive) took_shared next (kept_after_first took_shared ws h.1) (kept_after_first next ws h.1)
  where
    by_want : (exclusive took_shared next : Bool) → IsUntilFreeFirst (kept_after took_shared ws) → IsUntilFreeFirst (kept_after next ws) → IsUntilFreeFirst (cond exclusive (cond took_shared (w ∷ kept_after took_shared ws) ws) (kept_after next ws))
    by_want true true next r s = ((λ locks. no_kept true ws (h.0 locks)), r)
    by_want true false next r s = h.1
    by_want false took_shared next r s = s

pub kept_first : (ws : List Waiter) → IsUntilFreeFirst ws → IsUntilFreeFirst (kept_from ws)
kept_first ws h = kept_after_first false ws h

-- where they stand first, none of those who are kept waits until the lock is free
locks_there : (want : Want) → same_want want Exclusive ≡ true → same_want want UntilFree ≡ false
locks_there Exclusive e = refl
locks_there Shared e = absurd (cc)
locks_there UntilFree e = absurd (cc)

kept_after_locks : (took_shared : Bool) (ws : List Waiter) → IsUntilFreeFirst ws → HasNoUntilFree (kept_after took_shared ws)
kept_after_locks took_shared [] h = tt
kept_after_locks took_shared (w ∷ ws) h = let next : Bool = cond (same_want w.want Shared) true took_shared in by_want (same_want w.want Exclusive) took_shared next refl (kept_after_locks took_shared ws h.1) (kept_after_locks next ws h.1)
  where
    by_want : (exclusive took_shared next : Bool) → same_want w.want Exclusive ≡ exclusive → HasNoUntilFree (kept_after took_shared ws) → HasNoUntilFree (kept_after next ws) → HasNoUntilFree (cond exclusive (cond took_shared (w ∷ kept_after took_shared ws) ws) (kept_after next ws))
    by_want true true next e r s = (locks_there w.want e, r)
    by_want true false next e r s = h.0 (locks_there w.want e)
    by_want false took_shared next e r s = s

pub kept_locks : (ws : List Waiter) → IsUntilFreeFirst ws → HasNoUntilFree (kept_from ws)
kept_locks ws h = kept_after_locks false ws h

pub no_until_free : (p : ℕ) (ws : List Waiter) → HasNoUntilFree ws → times_with p UntilFree ws ≡ 0
no_until_free p [] h = refl
no_until_free p (w ∷ ws) h = let r = no_until_free p ws h.1 in let none : is_proc_with p UntilFree w ≡ 0 = ap (λ (b : Bool). cond (eqb w.proc p) (cond b 1 0) 0) h.0 ∙ either_none (eqb w.proc p) in omega arith
  where
    either_none : (b : Bool) → cond {A = ℕ} b 0 0 ≡ 0
    either_none true = refl
    either_none false = refl

-- where they stand first, no one behind those at the head waits until the lock is free
pub until_free_all : (ws : List Waiter) → IsUntilFreeFirst ws → HasNoUntilFree (lockers_from ws)
until_free_all [] h = tt
until_free_all (w ∷ ws) h = by_want (same_want w.want UntilFree) refl (until_free_all ws h.1)
  where
    by_want : (until : Bool) → same_want w.want UntilFree ≡ until → HasNoUntilFree (lockers_from ws) → HasNoUntilFree (cond until (lockers_from ws) (w ∷ ws))
    by_want true is r = r
    by_want false is r = (is, h.0 is)

pub lockers_ordered : (ws : List Waiter) → IsUntilFreeFirst ws → IsUntilFreeFirst (lockers_from ws)
lockers_ordered [] h = tt
lockers_ordered (w ∷ ws) h = by_want (same_want w.want UntilFree) (lockers_ordered ws h.1)
  where
    by_want : (until : Bool) → IsUntilFreeFirst (lockers_from ws) → IsUntilFreeFirst (cond until (lockers_from ws) (w ∷ ws))
    by_want true r = r
    by_want false r = h

-- how long a list is
length_total : (ws : List Waiter) → length ws ≡ total (λ w. 1) ws
length_total [] = refl
length_total (w ∷ ws) = let r = length_total ws in omega arith

pub length_without : (p : ℕ) (ws : List Waiter) → length (without p ws) ≤ length ws
length_without p ws = let a = length_total ws in let b = length_total (without p ws) in let c = total_without (λ w. 1) p ws in omega arith

pub length_parted : (ws : List Waiter) → length (taken_from ws) + length (kept_from ws) ≡ length ws
length_parted ws = let a = length_total ws in let b = length_total (taken_from ws) in let c = length_total (kept_from ws) in let d = total_parted (λ w. 1) false ws in omega arith

pub length_headed : (ws : List Waiter) → length (until_free_from ws) + length (lockers_from ws) ≡ length ws
length_headed ws = let a = length_total ws in let b = length_total (until_free_from ws) in let c = length_total (lockers_from ws) in let d = total_headed (λ w. 1) ws in omega arith

pub length_none : (ws : List Waiter) → is_empty ws ≡ true → length ws ≡ 0
length_none [] e = refl
length_none (w ∷ ws) e = absurd (cc)

-- nobody is on a list more often than it is long
pub times_length : (p : ℕ) (ws : List Waiter) → times_on p ws ≤ length ws
times_length p [] = omega arith
times_length p (w ∷ ws) = let r = times_length p ws in let one = one_most (eqb w.proc p) in omega arith
  where
    one_most : (b : Bool) → cond {A = ℕ} b 1 0 ≤ 1
    one_most true = omega arith
    one_most false = omega arith

-- Laws of lists of waiters, from an index on.
use Rattle.std.proofs.Common.{◌≡◌, ◌∙◌, ℕ, zero, suc, ◌+◌, ◌<◌, ◌++◌, Bool, true, false, cond, eqb, List, [], ◌∷◌, length, drop, get_or, refl, sym, ap, add-one, drop-cons, length-drop, nat_lt, ◌-◌, ◌≤◌, arith}
use Rattle.std.proofs.lemmas.Bool.Decides.{nat_tests}
use Rattle.lw_core.specs.declared.view.Waiter.{Waiter}
use Rattle.lw_core.specs.declared.view.Want.TheVariants.{Shared, Exclusive, UntilFree}
use Rattle.lw_core.specs.WaitLists.{AllBelow, has_locker, joined_by, kept_after, lockers_from, same_want, without}

abbrev pub no_one : Waiter
no_one = record { proc = 0; want = Shared }

pub drop-at : {A : Type 0} (xs : List A) (i : ℕ) (d : A) → i < length xs → drop i xs ≡ get_or xs i d ∷ drop (i + 1) xs
drop-at xs i d inside = rw (add-one, drop-cons xs i d inside) refl

-- ALL BELOW the number of backends
below-append : (procs : ℕ) (ws us : List Waiter) → AllBelow procs ws → AllBelow procs us → AllBelow procs (ws ++ us)
below-append procs [] us h k = k
below-append procs (w ∷ ws) us h k = (h.0, below-append procs ws us h.1 k)

pub joined_below : (procs : ℕ) (w : Waiter) (ws : List Waiter) → w.proc < procs → AllBelow procs ws → AllBelow procs (joined_by w ws)
joined_below procs w ws here h = by_want (same_want w.want UntilFree)
  where
    by_want : (b : Bool) → AllBelow procs (cond b (w ∷ ws) (ws ++ w ∷ []))
    by_want true = (here, h)
    by_want false = below-append procs ws (w ∷ []) h (here, tt)

below-cond : (procs : ℕ) (b : Bool) (ws us : List Waiter) → AllBelow procs ws → AllBelow procs us → AllBelow procs (cond b ws us)
below-cond procs true ws us h k = h
below-cond procs false ws us h k = k

pub without_below : (procs p : ℕ) (ws : List Waiter) → AllBelow procs ws → AllBelow procs (without p ws)
without_below procs p [] h = tt
without_below procs p (w ∷ ws) h = below-cond procs (eqb w.proc p) (without p ws) (w ∷ without p ws) (without_below procs p ws h.1) (h.0, without_below procs p ws h.1)

pub kept_below : (procs : ℕ) (b : Bool) (ws : List Waiter) → AllBelow procs ws → AllBelow procs (kept_after b ws)
kept_below procs b [] h = tt
kept_below procs b (w ∷ ws) h = below-cond procs (same_want w.want Exclusive) (cond b (w ∷ kept_after b ws) ws) (kept_after (cond (same_want w.want Shared) true b) ws)
    (below-cond procs b (w ∷ kept_after b ws) ws (h.0, kept_below procs b ws h.1) h.1) (kept_below procs (cond (same_want w.want Shared) true b) ws h.1)

pub lockers_below : (procs : ℕ) (ws : List Waiter) → AllBelow procs ws → AllBelow procs (lockers_from ws)
lockers_below procs [] h = tt
lockers_below procs (w ∷ ws) h = below-cond procs (same_want w.want UntilFree) (lockers_from ws) (w ∷ ws) (lockers_below procs ws h.1) h

pub at_below : (procs : ℕ) (ws : List Waiter) (i : ℕ) (d : Waiter) → AllBelow procs ws → i < length ws → (get_or ws i d).proc < procs
at_below procs [] i d h inside = absurd (omega arith)
at_below procs (w ∷ ws) zero d h inside = h.0
at_below procs (w ∷ ws) (suc i) d h inside = at_below procs ws i d h.1 (omega arith)

-- one of them wants the lock where not all are heads
some-more : (n : ℕ) → nat_lt 0 (suc n) ≡ true
some-more n = grind (arith, nat_tests)

locker-behind : (ws : List Waiter) → has_locker ws ≡ nat_lt 0 (length (lockers_from ws))
locker-behind [] = refl
locker-behind (w ∷ ws) = by_want (same_want w.want UntilFree) (locker-behind ws)
  where
    by_want : (b : Bool) → has_locker ws ≡ nat_lt 0 (length (lockers_from ws)) → cond b (has_locker ws) true ≡ nat_lt 0 (length (cond b (lockers_from ws) (w ∷ ws)))
    by_want true rest = rest
    by_want false rest = sym (some-more (length ws))

left-some : (n m : ℕ) → n ≤ m → nat_lt 0 (m - n) ≡ nat_lt n m
left-some n m h = grind (arith, nat_tests, h)

pub heads-locker : (ws : List Waiter) (n : ℕ) → lockers_from ws ≡ drop n ws → n ≤ length ws → has_locker ws ≡ nat_lt n (length ws)
heads-locker ws n is within = locker-behind ws ∙ ap (λ (us : List Waiter). nat_lt 0 (length us)) is ∙ ap (λ (m : ℕ). nat_lt 0 m) (length-drop n ws) ∙ left-some n (length ws) within

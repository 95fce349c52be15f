-- The view of a seat along the taking, the change and the sending home of a list.
use Rattle.std.proofs.Common.{◌≡◌, ◌≢◌, ◌⊎◌, ℕ, ◌+◌, ◌<◌, ◌≤◌, ◌==◌, Bool, true, false, cond, List, [], ◌∷◌, ◌++◌, length, append-nil, append_assoc, Option, None, Some, refl, sym, ap, ◌∙◌, subst, inl, inr, arith, ne_eqb}
use Rattle.wait_core.specs.declared.step.Call.{Call}
use Rattle.wait_core.specs.declared.step.Call.TheVariants as call
use Rattle.wait_core.specs.declared.step.Spot.{Spot}
use Rattle.wait_core.specs.declared.step.Spot.TheVariants.{Cv}
use Rattle.wait_core.specs.declared.step.WaitStep.TheVariants.{Sload, Sset, Mload, Byte, Reset, Take, Spin, Free}
use Rattle.wait_core.specs.declared.view.Frame.{Frame}
use Rattle.wait_core.specs.declared.view.Frame.TheVariants.{Taking, Spinning, Holding, Resetting, SleepWaiting, Preparing, Rousing}
use Rattle.wait_core.specs.declared.view.Job.{Job}
use Rattle.wait_core.specs.declared.view.Job.TheVariants as job
use Rattle.wait_core.specs.declared.view.Kept.{Kept}
use Rattle.wait_core.specs.declared.view.Made.{Made}
use Rattle.wait_core.specs.declared.view.Record.{Record}
use Rattle.wait_core.specs.declared.view.Size.{Size}
use Rattle.wait_core.specs.declared.view.WaitView.{WaitView}
use Rattle.std.specs.Prelude.{not}
use Rattle.seat_roster.specs.Roster.{times}
use Rattle.wait_core.specs.Jobs.{spot_of, left_list, left_record, attached_after, target_after, heeds_after, elections_after, passed_after, resumed, goes_on, signals, rouses, rouses_on}
use Rattle.wait_core.specs.Lists.{AllBelow, is_empty, is_listed, rest_of}
use Rattle.wait_core.specs.Machine.{Place, top, outer, number_of, made, made_with, as_kept, left_at, reset, taken, spun, next, next_with, takes_first, spot_for, MayBegin, MayTake, MaySpin, Permits}
use Rattle.wait_core.specs.Meanings.{Meanings}
use Rattle.wait_core.specs.Barriers.{StepSuits, waits_at}
use Rattle.wait_core.specs.Seats.{SeatView}
use Rattle.wait_core.specs.Stances.{belongs_at}
use Rattle.wait_core.specs.Told.{TellsList}
use Rattle.wait_core.proofs.Hands.{entered_waits}
use Rattle.wait_core.proofs.Lists.{listed_there}
use Rattle.latch.specs.Reads.{went, HasSet}
use Rattle.condition_variable.specs.Visits.{OnlySpins, SetsLatch, MayWakeNow, after_wake, entering, head_of, stands, with_items}
use Rattle.condition_variable.specs.Calls.{GoesOn, IsListing, UntilOff, other}

-- PLACES
pub may_enter : (x : Spot) (j : Job) (q : Place) → top q ≡ Some (Taking j) → spot_of j ≡ x → MayTake x (top q)
may_enter x j q is at = subst (λ (f : Option Frame). MayTake x f) (sym is) at

pub may_take_again : (x : Spot) (p : Place) → MaySpin x (top p) → MayTake x (top (spun true p))
may_take_again x [] ok = ok
may_take_again x (Spinning j ∷ p) ok = ok
may_take_again x (f ∷ p) ok = absurd ok

pub spun_still : (x : Spot) (p : Place) → MaySpin x (top p) → spun false p ≡ p
spun_still x [] ok = refl
spun_still x (Spinning j ∷ p) ok = refl
spun_still x (f ∷ p) ok = absurd ok

pub taken_still : (x : Spot) (k : Kept) (p : Place) → MaySpin x (top p) → taken false k (spun true p) ≡ p
taken_still x k [] ok = absurd ok
taken_still x k (Spinning j ∷ p) ok = refl
taken_still x k (f ∷ p) ok = absurd ok

pub may_wait : (x : Spot) (k : Kept) (q : Place) → MayTake x (top q) → MaySpin x (top (taken false k q))
may_wait x k [] ok = absurd ok
may_wait x k (Taking j ∷ p) ok = ok
may_wait x k (f ∷ p) ok = absurd ok

pub waited : (x : Spot) (k : Kept) (q : Place) → MayTake x (top q) → spun true (taken false k q) ≡ q
waited x k [] ok = absurd ok
waited x k (Taking j ∷ p) ok = refl
waited x k (f ∷ p) ok = absurd ok

-- where a call begins the seat waits as before
pub entering_waits : (b : Option Call) (t : Option ℕ) (p : Place) → waits_at (entering b t p) ≡ waits_at p
entering_waits None t p = refl
entering_waits (Some c) t p = entered_waits t c p

-- a list belongs to whoever takes it as before
pub belongs_taken : (x : Spot) (t : Option ℕ) (k : Kept) (q : Place) → MayTake x (top q) → belongs_at t (taken true k q) ≡ belongs_at t q
belongs_taken x t k [] ok = absurd ok
belongs_taken x t k (Taking j ∷ p) ok = refl
belongs_taken x t k (f ∷ p) ok = absurd ok

-- STEPS
module _ {C : Type 0} where
  pub went_none : (v : WaitView C) → v ≡ went v v.place []
  went_none v = ap (λ (l : List Made). record v { steps = l }) (sym (append-nil v.steps))

  -- the first swap of a spin word
  pub takes_on : (z : Size) (v x : WaitView C) (y : Spot) (b : Option Call) (n m : ℕ) (k : Kept) → x ≡ next_with z (Take y b) v n k → n ≡ m → x ≡ went v (taken (m == 0) k (entering b v.target v.place)) (made_with (Take y b) m (cond (m == 0) k.list.items []) ∷ [])
  takes_on z v x y None n m k is at = is ∙ ap (λ (i : ℕ). next_with z (Take y None) v i k) at
  takes_on z v x y (Some b) n m k is at = is ∙ ap (λ (i : ℕ). next_with z (Take y (Some b)) v i k) at

  -- a load of it, and another swap, after more steps
  pub spins_on : (z : Size) (v w x : WaitView C) (p : Place) (more : List Made) (y : Spot) (n m : ℕ) (k : Kept) → w ≡ went v p more → x ≡ next_with z (Spin y) w n k → n ≡ m → x ≡ went v (spun (m == 0) p) (more ++ made (Spin y) m ∷ [])
  spins_on z v w x p more y n m k was is at = is ∙ (ap (λ (u : WaitView C). next_with z (Spin y) u n k) was ∙ (ap (λ (i : ℕ). next_with z (Spin y) (went v p more) i k) at ∙ ap (λ (l : List Made). record v { place = spun (m == 0) p; steps = l }) (append_assoc v.steps more (made (Spin y) m ∷ []))))

  pub swaps_on : (z : Size) (v w x : WaitView C) (p : Place) (more : List Made) (y : Spot) (n m : ℕ) (k : Kept) → w ≡ went v p more → x ≡ next_with z (Take y None) w n k → n ≡ m → x ≡ went v (taken (m == 0) k p) (more ++ made_with (Take y None) m (cond (m == 0) k.list.items []) ∷ [])
  swaps_on z v w x p more y n m k was is at = is ∙ (ap (λ (u : WaitView C). next_with z (Take y None) u n k) was ∙ (ap (λ (i : ℕ). next_with z (Take y None) (went v p more) i k) at ∙ ap (λ (l : List Made). record v { place = taken (m == 0) k p; steps = l }) (append_assoc v.steps more (made_with (Take y None) m (cond (m == 0) k.list.items []) ∷ []))))

pub spins_append : (x : Spot) (a b : List Made) → OnlySpins x a → OnlySpins x b → OnlySpins x (a ++ b)
spins_append x [] b ha hb = hb
spins_append x (m ∷ a) b ha hb = (ha.0, spins_append x a b ha.1 hb)

-- A VISIT. The list was taken for the job j, changed as the job says, and is sent home
module _ {C : Type 0} (z : Size) (v : WaitView C) (c : ℕ) (j : Job) (at : spot_of j ≡ Cv c) (q : Place) (enters : top q ≡ Some (Taking j)) (s u : SeatView C) (took : List Made) (was : s.view ≡ went v (taken true (as_kept s.list s.record) q) took) (changed : u ≡ with_items s (left_list j (number_of s.view.own) s.list)) where
  at_job : (r : Place) → top r ≡ Some (Taking j) → r ≡ Taking j ∷ outer r
  at_job [] e = absurd (cc)
  at_job (f ∷ r) e = ap (λ (g : Frame). g ∷ r) (cc)

  own_is : number_of s.view.own ≡ number_of v.own
  own_is = ap (λ (y : WaitView C). number_of y.own) was

  -- a job on a condition leaves the record, the attachments, the elections and the phases that were waited out
  calm : (r : Record) (l : List (ℕ × ℕ)) → (left_record j r ≡ r) × (attached_after j r l ≡ l) × (elections_after j r l ≡ l) × (passed_after j r l ≡ l)
  calm r l = by_job j at
    where
      by_job : (i : Job) → spot_of i ≡ Cv c → (left_record i r ≡ r) × (attached_after i r l ≡ l) × (elections_after i r l ≡ l) × (passed_after i r l ≡ l)
      by_job (job.Attach b) e = absurd (cc)
      by_job (job.Arrive b) e = absurd (cc)
      by_job (job.Notice b ph) e = absurd (cc)
      by_job (job.Detach b) e = absurd (cc)
      by_job (job.ArriveDetach b) e = absurd (cc)
      by_job (job.ExceptLast b) e = absurd (cc)
      by_job i e = (refl, refl, refl, refl)

  in_hand : u.view ≡ went v (Holding j s.list s.record ∷ outer q) took
  in_hand = ap (λ (y : SeatView C). y.view) changed ∙ (was ∙ ap (λ (y : Place). went v (taken true (as_kept s.list s.record) y) took) (at_job q enters))

  list_is : u.list ≡ left_list j (number_of v.own) s.list
  list_is = ap (λ (y : SeatView C). y.list) changed ∙ ap (λ (o : ℕ). left_list j o s.list) own_is

  pub may_free : (after : Option ℕ) → after ≡ target_after j v.target → c < z.cvs → Permits z (Free (Cv c) after) u.view.own u.view.target u.view.place
  may_free after then below = subst (λ (y : WaitView C). Permits z (Free (Cv c) after) y.own y.target y.place) (sym in_hand) (omega arith, (at, then))

  pub sends : as_kept u.list u.record ≡ left_at (number_of u.view.own) u.view.place
  sends = (λ i. as_kept (list_is i) (((λ i. (changed i).record) ∙ sym (calm s.record []).0) i)) ∙ ap (λ (y : WaitView C). left_at (number_of y.own) y.place) (sym in_hand)

  pub visited : (x : WaitView C) (after : Option ℕ) (n : ℕ) (k : Kept) → x ≡ next_with z (Free (Cv c) after) u.view n k → x ≡ stands v (goes_on j (number_of v.own) s.list s.record (outer q)) after (heeds_after j (number_of v.own) s.list v.heeds) (took ++ made_with (Free (Cv c) after) n (left_list j (number_of v.own) s.list) ∷ [])
  visited x after n k is = is ∙ (ap (λ (y : WaitView C). next_with z (Free (Cv c) after) y n k) in_hand
      ∙ ap (λ (l : List Made). record v { place = goes_on j (number_of v.own) s.list s.record (outer q); steps = l; target = after; heeds = heeds_after j (number_of v.own) s.list v.heeds; attached = attached_after j s.record v.attached; elections = elections_after j s.record v.elections; passed = passed_after j s.record v.passed }) (append_assoc v.steps took (made_with (Free (Cv c) after) n (left_list j (number_of v.own) s.list) ∷ []))
      ∙ (λ i. record v { place = goes_on j (number_of v.own) s.list s.record (outer q); steps = v.steps ++ (took ++ made_with (Free (Cv c) after) n (left_list j (number_of v.own) s.list) ∷ []); target = after; heeds = heeds_after j (number_of v.own) s.list v.heeds; attached = (calm s.record v.attached).1 i; elections = (calm s.record v.elections).2 i; passed = (calm s.record v.passed).3 i }))

-- WHO IS WOKEN
pub all_wide : (n m : ℕ) (l : List ℕ) → n ≤ m → AllBelow n l → AllBelow m l
all_wide n m [] le all = tt
all_wide n m (x ∷ l) le all = let h = all.0 in (omega arith, all_wide n m l le all.1)

pub rest_short : (l : List ℕ) → length l ≤ 64 → length (rest_of l) < 64
rest_short [] le = omega arith
rest_short (x ∷ l) le = omega arith

pub room_for : (z : Size) (own : ℕ) (belongs : Option ℕ) (x : ℕ) (l : List ℕ) → TellsList z own belongs x l → belongs ≡ None → z.procs ≤ 64 → length l < 64
room_for z own belongs x l t none few = by_listed (is_listed own l) refl
  where
    by_listed : (b : Bool) → is_listed own l ≡ b → length l < 64
    by_listed false e = let h = t.room e in omega arith
    by_listed true e = absurd (let h = t.mine e in cc)

pub signal_wakes : (procs c : ℕ) (l : List ℕ) (p : Place) → AllBelow procs l → MayWakeNow procs (head_of l) (signals c l p)
signal_wakes procs c [] p all = tt
signal_wakes procs c (q ∷ l) p all = (all.0, refl)

pub signal_ends : (c : ℕ) (l : List ℕ) (p : Place) → after_wake (head_of l) (signals c l p) ≡ resumed p
signal_ends c [] p = refl
signal_ends c (q ∷ l) p = refl

-- the steps of a set latch
in_four : (a b c d : List Made) → ((a ++ b) ++ c) ++ d ≡ a ++ (b ++ (c ++ d))
in_four a b c d = simp append_assoc

in_five : (a b c d e : List Made) → (((a ++ b) ++ c) ++ d) ++ e ≡ a ++ (b ++ (c ++ (d ++ e)))
in_five a b c d e = simp append_assoc

module _ {C : Type 0} where
  pub latch_set : (z : Size) (q : ℕ) (v w : WaitView C) → HasSet z q v w → (more : List Made) × (w ≡ went v (resumed v.place) more) × SetsLatch q more
  latch_set z q v w h = by_end h.stepped
    where
      by_end : (w ≡ next z (Sload q (Some (call.Set q))) v 1) ⊎ (((n : ℕ) × (w ≡ next z (Mload q) (next z (Sset q) (next z (Sload q (Some (call.Set q))) v 0) n) 0)) ⊎ ((n m : ℕ) × (w ≡ next z (Byte q) (next z (Mload q) (next z (Sset q) (next z (Sload q (Some (call.Set q))) v 0) n) 1) m)))
          → (more : List Made) × (w ≡ went v (resumed v.place) more) × SetsLatch q more
      by_end (inl is) = (made (Sload q (Some (call.Set q))) 1 ∷ [], is, inl refl)
      by_end (inr (inl (n, is))) = (made (Sload q (Some (call.Set q))) 0 ∷ made (Sset q) n ∷ made (Mload q) 0 ∷ [], is ∙ ap (λ (l : List Made). record v { place = resumed v.place; steps = l }) (in_four v.steps (made (Sload q (Some (call.Set q))) 0 ∷ []) (made (Sset q) n ∷ []) (made (Mload q) 0 ∷ [])), inr (inl (n, refl)))
      by_end (inr (inr (n, m, is))) = (made (Sload q (Some (call.Set q))) 0 ∷ made (Sset q) n ∷ made (Mload q) 1 ∷ made (Byte q) m ∷ [], is ∙ ap (λ (l : List Made). record v { place = resumed v.place; steps = l }) (in_five v.steps (made (Sload q (Some (call.Set q))) 0 ∷ []) (made (Sset q) n ∷ []) (made (Mload q) 1 ∷ []) (made (Byte q) m ∷ [])), inr (inr (n, m, refl)))

-- a word that is at most 1 and is not 0
pub swapped_set : (n : ℕ) → n ≤ 1 → (n ≡ 0 → ⊥) → n ≡ 1
swapped_set n most set = omega (arith, most, set)

pub belongs_nowhere : (c : ℕ) (t : Option ℕ) (q : Place) → top q ≡ Some (Taking (job.Prepare c)) → t ≡ None → belongs_at t q ≡ None
belongs_nowhere c t [] at none = absurd (cc)
belongs_nowhere c t (f ∷ p) at none = (λ i. belongs_at (none i) (is i ∷ p))
  where
    is : f ≡ Taking (job.Prepare c)
    is = cc

pub signal_enters : (c : ℕ) (t : Option ℕ) (p : Place) → top (entering (Some (call.Signal c)) t p) ≡ Some (Taking (job.Signal c))
signal_enters c None p = refl
signal_enters c (Some d) p = refl

pub signal_behind : (c : ℕ) (t : Option ℕ) (p : Place) → outer (entering (Some (call.Signal c)) t p) ≡ p
signal_behind c None p = refl
signal_behind c (Some d) p = refl

-- a visit after another
pub stands_through : {C : Type 0} (v w x : WaitView C) (p r : Place) (t u : Option ℕ) (h k : Bool) (more rest : List Made) → w ≡ stands v p t h more → x ≡ stands w r u k rest → x ≡ stands v r u k (more ++ rest)
stands_through v w x p r t u h k more rest was is = is ∙ (ap (λ (y : WaitView _). stands y r u k rest) was ∙ ap (λ (l : List Made). record v { place = r; steps = l; target = u; heeds = k }) (append_assoc v.steps more rest))

-- a sleep that found the backend still on the list waits again
pub waits_again : {C : Type 0} (v w x : WaitView C) (c : ℕ) (off : Bool) (before wait part : List Made) → v.target ≡ Some c → off ≡ false → w ≡ went v (Resetting c ∷ v.place) (before ++ wait) → x ≡ stands w (cond off (resumed (outer w.place)) (SleepWaiting c ∷ outer w.place)) (Some c) (cond off true w.heeds) part → x ≡ went v (SleepWaiting c ∷ v.place) (before ++ (wait ++ part))
waits_again v w x c off before wait part is on was looked =
    let here : x ≡ stands w (SleepWaiting c ∷ v.place) (Some c) v.heeds part = looked ∙ (λ i. stands w (cond (on i) (resumed (outer (was i).place)) (SleepWaiting c ∷ outer (was i).place)) (Some c) (cond (on i) true (was i).heeds) part) in
    stands_through v w x _ (SleepWaiting c ∷ v.place) v.target (Some c) v.heeds v.heeds (before ++ wait) part was here ∙ (λ i. stands v (SleepWaiting c ∷ v.place) (sym is i) v.heeds (append_assoc before wait part i))

-- whom the visit popped was woken after it
pub roused : {C : Type 0} (v w x : WaitView C) (p r : Place) (t : Option ℕ) (h : Bool) (o : Option ℕ) (visit sets : List Made) → w ≡ stands v p t h visit → x ≡ went w (after_wake o w.place) sets → after_wake o p ≡ r → x ≡ stands v r t h (visit ++ sets)
roused v w x p r t h o visit sets was is ends = is ∙ (ap (λ (y : WaitView _). went y (after_wake o y.place) sets) was ∙ (λ i. record v { place = ends i; steps = append_assoc v.steps visit sets i; target = t; heeds = h }))

pub signal_first : (c : ℕ) (t : Option ℕ) → takes_first t (call.Signal c) ≡ Some (Cv c)
signal_first c None = refl
signal_first c (Some d) = refl

-- a call on conditions asks nothing of the client
pub asks_nothing : {C : Type 0} (means : Meanings C) (z : Size) (c : ℕ) (o : Option ℕ) (b : Option Call) (v : WaitView C) → Permits z (Take (Cv c) b) o v.target v.place → StepSuits means (Take (Cv c) b) v
asks_nothing means z c o None v ok = tt
asks_nothing means z c o (Some b) v ok = by_call b v.target ok.1
  where
    by_call : (b : Call) (t : Option ℕ) → takes_first t b ≡ Some (Cv c) → StepSuits means (Take (Cv c) (Some b)) v
    by_call (call.Attach a) t is = absurd (cc)
    by_call (call.Arrive a) t is = absurd (cc)
    by_call (call.Detach a) t is = absurd (cc)
    by_call (call.ArriveDetach a) t is = absurd (cc)
    by_call (call.ExceptLast a) t is = absurd (cc)
    by_call b t is = tt

-- a call that leaves the list of its target first
pub cancel_first : (t : Option ℕ) → takes_first t call.Cancel ≡ spot_for t
cancel_first None = refl
cancel_first (Some d) = refl

other_first : (d c : ℕ) → Some d ≢ Some c → takes_first (Some d) (call.Sleep c) ≡ Some (Cv d)
other_first d c ne = ap (λ (b : Bool). cond {A = Option Spot} b None (Some (Cv d))) (ne_eqb d c (λ e. ne (ap (λ (n : ℕ). Some n) e)))

pub listing_begins : (z : Size) (c d : ℕ) (o t : Option ℕ) (b : Call) (p : Place) → IsListing c t b → t ≡ Some d → d < z.cvs → c < z.cvs → MayBegin b p → Permits z (Take (Cv d) (Some b)) o t p
listing_begins z c d o t (call.Prepare e) p is at inside below may = subst (λ (x : Option ℕ). Permits z (Take (Cv d) (Some (call.Prepare e))) o x p) (sym at) (omega arith, refl, omega (arith, is), may)
listing_begins z c d o t (call.Sleep e) p is at inside below may = subst (λ (x : Option ℕ). Permits z (Take (Cv d) (Some (call.Sleep e))) o x p) (sym at) (omega arith, other_first d e (λ same. is.1 (at ∙ (same ∙ ap (λ (n : ℕ). Some n) is.0))), omega (arith, is.0), may)
listing_begins z c d o t b p is at inside below may = absurd is

pub listing_joins : (z : Size) (c : ℕ) (o t : Option ℕ) (b : Call) (p : Place) → IsListing c t b → t ≡ None → c < z.cvs → MayBegin b p → Permits z (Take (Cv c) (Some b)) o t p
listing_joins z c o t (call.Prepare e) p is at below may = subst (λ (x : Option ℕ). Permits z (Take (Cv c) (Some (call.Prepare e))) o x p) (sym at) (omega arith, ap (λ (n : ℕ). Some (Cv n)) is, omega (arith, is), may)
listing_joins z c o t (call.Sleep e) p is at below may = subst (λ (x : Option ℕ). Permits z (Take (Cv c) (Some (call.Sleep e))) o x p) (sym at) (omega arith, ap (λ (n : ℕ). Some (Cv n)) is.0, omega (arith, is.0), may)
listing_joins z c o t b p is at below may = absurd is

pub listing_leaves_at : (c d : ℕ) (t : Option ℕ) (b : Call) (p : Place) → IsListing c t b → t ≡ Some d → entering (Some b) t p ≡ Taking (job.Cancel d) ∷ Preparing c ∷ p
listing_leaves_at c d t (call.Prepare e) p is at = ap (λ (x : Option ℕ). entering (Some (call.Prepare e)) x p) at ∙ ap (λ (n : ℕ). Taking (job.Cancel d) ∷ Preparing n ∷ p) is
listing_leaves_at c d t (call.Sleep e) p is at = ap (λ (x : Option ℕ). entering (Some (call.Sleep e)) x p) at ∙ ap (λ (n : ℕ). Taking (job.Cancel d) ∷ Preparing n ∷ p) is.0
listing_leaves_at c d t b p is at = absurd is

pub listing_joins_at : (c : ℕ) (t : Option ℕ) (b : Call) (p : Place) → IsListing c t b → t ≡ None → entering (Some b) t p ≡ Taking (job.Prepare c) ∷ p
listing_joins_at c t (call.Prepare e) p is at = ap (λ (x : Option ℕ). entering (Some (call.Prepare e)) x p) at ∙ ap (λ (n : ℕ). Taking (job.Prepare n) ∷ p) is
listing_joins_at c t (call.Sleep e) p is at = ap (λ (x : Option ℕ). entering (Some (call.Sleep e)) x p) at ∙ ap (λ (n : ℕ). Taking (job.Prepare n) ∷ p) is.0
listing_joins_at c t b p is at = absurd is

pub rouse_wakes : (procs c : ℕ) (l : List ℕ) (p : Place) → AllBelow procs l → MayWakeNow procs (head_of l) (rouses c l p)
rouse_wakes procs c [] p all = tt
rouse_wakes procs c (q ∷ l) p all = (all.0, refl)

pub rouse_ends : (c : ℕ) (l : List ℕ) (p : Place) → after_wake (head_of l) (rouses c l p) ≡ cond (not (is_empty (rest_of l))) (Taking (job.Rebroadcast c) ∷ p) (resumed p)
rouse_ends c [] p = refl
rouse_ends c (q ∷ []) p = refl
rouse_ends c (q ∷ x ∷ l) p = refl

pub next_wakes : (procs c own : ℕ) (l : List ℕ) (p : Place) → AllBelow procs l → MayWakeNow procs (other own (head_of l)) (rouses_on c own l p)
next_wakes procs c own [] p all = tt
next_wakes procs c own (q ∷ l) p all = by_head (q == own)
  where
    by_head : (b : Bool) → MayWakeNow procs (cond b None (Some q)) (cond b (resumed p) (Rousing c q (is_listed own l) ∷ p))
    by_head true = tt
    by_head false = (all.0, refl)

pub next_ends : (c own : ℕ) (l : List ℕ) (p : Place) → times own l ≤ 1 → after_wake (other own (head_of l)) (rouses_on c own l p) ≡ cond (is_listed own (rest_of l)) (Taking (job.Rebroadcast c) ∷ p) (resumed p)
next_ends c own [] p once = refl
next_ends c own (q ∷ l) p once = by_head (q == own) once
  where
    off : 1 + times own l ≤ 1 → (b : Bool) → is_listed own l ≡ b → is_listed own l ≡ false
    off h false e = e
    off h true e = absurd (let there = listed_there own l e in omega arith)

    by_head : (b : Bool) → cond b 1 0 + times own l ≤ 1 → after_wake (cond b None (Some q)) (cond b (resumed p) (Rousing c q (is_listed own l) ∷ p)) ≡ cond (is_listed own l) (Taking (job.Rebroadcast c) ∷ p) (resumed p)
    by_head true h = ap (λ (b : Bool). cond b (Taking (job.Rebroadcast c) ∷ p) (resumed p)) (sym (off h (is_listed own l) refl))
    by_head false h = refl

pub goes_none : (own c : ℕ) (l : List ℕ) → not (is_empty l) ≡ false → GoesOn own c l []
goes_none own c [] e = refl
goes_none own c (q ∷ l) e = absurd (cc)

pub goes_others : (own c : ℕ) (l : List ℕ) (more : List Made) → not (is_empty l) ≡ true → UntilOff own c more → GoesOn own c l more
goes_others own c [] more e rounds = absurd (cc)
goes_others own c (q ∷ l) more e rounds = rounds

-- a reset in a sleep
pub reset_on : {C : Type 0} (z : Size) (v x : WaitView C) (c n : ℕ) (k : Kept) → x ≡ next_with z (Reset None) v n k → v.place ≡ Resetting c ∷ outer v.place → x ≡ went v (Taking (job.Resleep c) ∷ outer v.place) (made (Reset None) n ∷ [])
reset_on z v x c n k is at = is ∙ ap (λ (p : Place). went v (reset p) (made (Reset None) n ∷ [])) at

pub looked_on : {C : Type 0} (v : WaitView C) (c : ℕ) (p : Place) (h b r : Bool) (more : List Made) → r ≡ not b → stands v (cond b (SleepWaiting c ∷ p) (resumed p)) (Some c) (cond b h true) more ≡ stands v (cond r (resumed p) (SleepWaiting c ∷ p)) (Some c) (cond r true h) more
looked_on v c p h true r more is = ap (λ (x : Bool). stands v (cond x (resumed p) (SleepWaiting c ∷ p)) (Some c) (cond x true h) more) (sym is)
looked_on v c p h false r more is = ap (λ (x : Bool). stands v (cond x (resumed p) (SleepWaiting c ∷ p)) (Some c) (cond x true h) more) (sym is)

pub not_off : (b r : Bool) → r ≡ not b → r ≡ true → b ≡ false
not_off true r is on = cc
not_off false r is on = refl

pub not_on : (b r : Bool) → r ≡ not b → r ≡ false → b ≡ true
not_on true r is on = refl
not_on false r is on = cc

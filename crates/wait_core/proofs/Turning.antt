-- Each kind of step, as what it does to spin words, latches and lists.
use Rattle.std.proofs.Common.{◌≡◌, ℕ, ◌+◌, ◌<◌, ◌≤◌, eqb, Bool, true, false, cond, List, [], ◌∷◌, ◌++◌, get_or, set, Option, None, Some, sym, refl, ap, ◌∙◌, subst, inl, inr, arith, eqb-true}
use Rattle.std.proofs.lemmas.Bool.{eqb-false}
use mathlib.Core.Option as maybe
use lib.ListN.{get_elem?}
use Rattle.atomic_table.specs.Table.{keeps, takes as takes_out, homes_after}
use Rattle.wait_core.specs.declared.step.Spot.{Spot}
use Rattle.wait_core.specs.declared.step.Spot.TheVariants.{Cv, Bar}
use Rattle.wait_core.specs.declared.step.Until.{Until}
use Rattle.wait_core.specs.declared.step.Until.TheVariants.{Latch, LatchOrShutdown}
use Rattle.wait_core.specs.declared.step.Call.{Call}
use Rattle.wait_core.specs.declared.step.Call.TheVariants as call
use Rattle.wait_core.specs.declared.step.WaitStep.{WaitStep}
use Rattle.wait_core.specs.declared.step.WaitStep.TheVariants.{Sload, Sset, Reset, Mstore, Mload, Byte, Look, Drain, Shload, Shstore, Take, Spin, Free}
use Rattle.wait_core.specs.declared.view.Frame.{Frame}
use Rattle.wait_core.specs.declared.view.Frame.TheVariants.{Setting, Telling, Waking, Announcing, Rechecking, CheckingShutdown, Looking, Asleep, Retracting, Draining, Repeating, LeavingSet, LeavingShutdown, Stopping, Taking, Spinning, Holding, Resetting, SleepWaiting, Preparing, Broadcasting, Signalling, Rousing, Settling, Dozing, Passing, Returning}
use Rattle.wait_core.specs.declared.view.Job.{Job}
use Rattle.wait_core.specs.declared.view.Job.TheVariants as job
use Rattle.wait_core.specs.declared.view.Kept.{Kept}
use Rattle.wait_core.specs.declared.view.Record.{Record}
use Rattle.wait_core.specs.declared.view.Size.{Size}
use Rattle.wait_core.specs.declared.view.WaitView.{WaitView}
use Rattle.wait_core.specs.Words.{most_conditions, set_at, may_at, byte_at, shut_at, slot_of, spin_at, slots_in}
use Rattle.wait_core.specs.Lists.{is_listed}
use Rattle.wait_core.specs.Jobs.{spot_of, is_worn, is_last, is_awaited, has_passed, left_list, left_record, target_after, heeds_after, resumed, passes_on, goes_on}
use Rattle.wait_core.specs.Machine.{Place, top, outer, number_of, word_of, becomes, begun, reloaded, marked, woken, looked, drained, reset, entered, as_kept, taken, spun, place_then, target_then, heeds_then, home_of, home_in, slot_number, act_of, carried, MayBegin, BeginsLoad, takes_first, MayReload, MayMark, MayWake, MayLook, MayDrain, MayReset, MayTake, MaySpin, MayFree, Permits, next_with}
use Rattle.wait_core.specs.Fits.{BehindPrepare, BehindSleep, BehindBroadcast, BehindSet, BehindWait, BehindCancel, JobFits, Fits}
use Rattle.wait_core.specs.Stances.{Stance, Homes, hand_at, sentinel_at, belongs_at, heeds_at, pops_at, stance_of}
use Rattle.wait_core.proofs.Effects.{spot_inside, IsAlone, alone_outside, alone_idle}
use Rattle.wait_core.proofs.Lists.{listed_there, not_listed}
use Rattle.wait_core.proofs.Turns.{reads, latches, marks, wakes, shuts, Sends, returns, stays_listed, joins, leaves, pops, signs, ends, Turn, stays, reaches, resets, takes, frees, idle}

-- the stance of a seat with this number and this target, which heeds its signal or not, at this place
abbrev pub stance : Option ℕ → Option ℕ → Bool → Place → Stance
stance own t h p = record { own = own; hand = hand_at p; belongs = belongs_at t p; heeds = heeds_at h t p; pops = pops_at p }

-- who has no target heeds nothing
pub no_heeds : (h : Bool) → cond {A = Option ℕ} h None None ≡ None
no_heeds true = refl
no_heeds false = refl

is_one : (n : ℕ) → n ≤ 1 → eqb n 0 ≡ false → n ≡ 1
is_one n few e = let ne = eqb-false n 0 e in omega arith

-- what stands at the top
at_top : (P : Place → Type 0) (p : Place) (f : Frame) → top p ≡ Some f → P (f ∷ outer p) → P p
at_top P [] f e h = absurd (cc)
at_top P (g ∷ p) f e h = let is : f ≡ g = cc in subst (λ (x : Frame). P (x ∷ p)) is h

module _ (own t : Option ℕ) (h : Bool) where
  abbrev at_place : Place → Stance
  at_place p = stance own t h p

  -- with nothing in hand, past no reset, and nobody popped whom it may still have to wake
  abbrev quiet : Place → Stance
  quiet p = record { own = own; hand = None; belongs = belongs_at t p; heeds = cond h t None; pops = None }

  -- the end of a program says nothing of lists
  idle_ended : (p : Place) → p ≡ [] → at_place (resumed p) ≡ quiet p
  idle_ended [] e = refl
  idle_ended (f ∷ p) e = absurd (cc)

  prepare_ended : (c : ℕ) (p : Place) → BehindPrepare c p → at_place (resumed p) ≡ quiet p
  prepare_ended c [] fits = refl
  prepare_ended c (Settling b ph ∷ []) fits = refl
  prepare_ended c (Settling b ph ∷ f ∷ p) fits = absurd (let e = fits.1 in cc)
  prepare_ended c p fits = absurd fits

  sleep_ended : (c : ℕ) (p : Place) → BehindSleep c p → at_place (resumed p) ≡ quiet p
  sleep_ended c [] fits = refl
  sleep_ended c (Dozing b ph ∷ []) fits = refl
  sleep_ended c (Dozing b ph ∷ f ∷ p) fits = absurd (let e = fits.1 in cc)
  sleep_ended c p fits = absurd fits

  broadcast_ended : (c : ℕ) (p : Place) → BehindBroadcast c p → at_place (resumed p) ≡ quiet p
  broadcast_ended c [] fits = refl
  broadcast_ended c (Passing b ph ∷ p) fits = idle_ended p fits.1
  broadcast_ended c p fits = absurd fits

  roused_ended : (c q : ℕ) (more : Bool) (p : Place) → BehindBroadcast c p → at_place (cond more (Taking (job.Rebroadcast c) ∷ p) (resumed p)) ≡ quiet (Rousing c q more ∷ p)
  roused_ended c q true p fits = refl
  roused_ended c q false p fits = broadcast_ended c p fits

  set_ended : (cvs q : ℕ) (p : Place) → BehindSet cvs t q p → at_place (resumed p) ≡ quiet p
  set_ended cvs q [] fits = refl
  set_ended cvs q (Signalling c r ∷ p) fits = idle_ended p fits.1
  set_ended cvs q (Rousing c r more ∷ p) fits = roused_ended c r more p fits.3
  set_ended cvs q p fits = absurd fits

  wait_ended : (cvs : ℕ) (u : Until) (p : Place) → BehindWait cvs t u p → at_place (resumed p) ≡ quiet p
  wait_ended cvs u [] fits = refl
  wait_ended cvs u (SleepWaiting c ∷ p) fits = refl
  wait_ended cvs u p fits = absurd fits

  reloaded_same : (cvs : ℕ) (b : Bool) (p : Place) → MayReload (top p) → Fits cvs t p → at_place (reloaded b p) ≡ at_place p
  reloaded_same cvs true (Repeating u ∷ p) ok fits = refl
  reloaded_same cvs false (Repeating u ∷ p) ok fits = wait_ended cvs u p fits
  reloaded_same cvs true (Rechecking Latch ∷ p) ok fits = refl
  reloaded_same cvs true (Rechecking LatchOrShutdown ∷ p) ok fits = refl
  reloaded_same cvs false (Rechecking u ∷ p) ok fits = refl
  reloaded_same cvs b p ok fits = absurd ok

  marked_same : (cvs : ℕ) (may : Bool) (p : Place) → MayMark may (top p) → Fits cvs t p → at_place (marked p) ≡ at_place p
  marked_same cvs true (Announcing u ∷ p) ok fits = refl
  marked_same cvs false (Retracting u ∷ p) ok fits = refl
  marked_same cvs false (LeavingSet ∷ p) ok fits = wait_ended cvs Latch p fits
  marked_same cvs false (LeavingShutdown ∷ p) ok fits = idle_ended p fits
  marked_same cvs may p ok fits = absurd ok

  told_same : (cvs q : ℕ) (b : Bool) (p : Place) → BehindSet cvs t q p → at_place (cond b (resumed p) (Waking q ∷ p)) ≡ at_place (Telling q ∷ p)
  told_same cvs q true p fits = set_ended cvs q p fits
  told_same cvs q false p fits = refl

  woken_same : (z : Size) (q : ℕ) (p : Place) → MayWake q (top p) → Fits z.cvs t p → at_place (woken z q p) ≡ at_place p
  woken_same z q (Waking r ∷ p) ok fits = set_ended z.cvs r p fits
  woken_same z q (Stopping r ∷ p) ok fits = by_last (eqb (q + 1) z.procs)
    where
      by_last : (b : Bool) → at_place (cond b (resumed p) (Stopping (q + 1) ∷ p)) ≡ at_place (Stopping r ∷ p)
      by_last true = idle_ended p fits
      by_last false = refl
  woken_same z q p ok fits = absurd ok

  looked_same : (b : Bool) (p : Place) → MayLook (top p) → at_place (looked b p) ≡ at_place p
  looked_same true (Looking u ∷ p) ok = refl
  looked_same false (Looking u ∷ p) ok = refl
  looked_same true (Asleep u ∷ p) ok = refl
  looked_same false (Asleep u ∷ p) ok = refl
  looked_same b p ok = absurd ok

  drained_same : (p : Place) → MayDrain (top p) → at_place (drained p) ≡ at_place p
  drained_same (Draining u ∷ p) ok = refl
  drained_same p ok = absurd ok

  checked_same : (b : Bool) (p : Place) → at_place (cond b (Looking LatchOrShutdown ∷ p) (LeavingShutdown ∷ p)) ≡ at_place (CheckingShutdown ∷ p)
  checked_same true p = refl
  checked_same false p = refl

  stopping_same : (p : Place) → MayBegin call.Shut p → at_place (Stopping 0 ∷ p) ≡ at_place p
  stopping_same [] ok = refl
  stopping_same (f ∷ p) ok = absurd (alone_outside call.Shut f tt ok)

  spun_same : (b : Bool) (x : Spot) (p : Place) → MaySpin x (top p) → at_place (spun b p) ≡ at_place p
  spun_same true x (Spinning j ∷ p) ok = refl
  spun_same false x (Spinning j ∷ p) ok = refl
  spun_same b x p ok = absurd ok

  -- the frame of the first step of a call that takes a spin word
  abbrev pub EntersAt : Spot → Place → Place → Type 0
  EntersAt x p after = (j : Job) × (q : Place) × (after ≡ Taking j ∷ q) × (spot_of j ≡ x) × (at_place (Taking j ∷ q) ≡ at_place p)

-- a sleep reset its latch
reset_heeds : (own : Option ℕ) (h : Bool) (c : ℕ) (p : Place) → stance own (Some c) h (Taking (job.Resleep c) ∷ p) ≡ record (stance own (Some c) h (Resetting c ∷ p)) { heeds = None }
reset_heeds own h c p = λ i. record (stance own (Some c) h (Resetting c ∷ p)) { heeds = no_heeds h i }

-- where a sleep only prepares its condition isn't the target
other_target : (s c : ℕ) (x : Spot) → takes_first (Some s) (call.Sleep c) ≡ Some x → Cv s ≡ x
other_target s c x at = by_target (eqb s c) at
  where
    by_target : (b : Bool) → cond b None (Some (Cv s)) ≡ Some x → Cv s ≡ x
    by_target true e = absurd (cc)
    by_target false e = (cc)

-- a call that stands inside no other
alone_enters : (own t : Option ℕ) (h : Bool) (j : Job) (c : Call) (x : Spot) (p : Place) → IsAlone c → MayBegin c p → spot_of j ≡ x → stance own t h (Taking j ∷ []) ≡ stance own t h [] → EntersAt own t h x p (Taking j ∷ p)
alone_enters own t h j c x p alone may is same = (j, p, refl, is, subst (λ (q : Place). stance own t h (Taking j ∷ q) ≡ stance own t h q) (sym (alone_idle c p alone may)) same)

-- a call begins by taking a spin word: the place says the same of lists as before
pub enters : (cvs : ℕ) (own t : Option ℕ) (h : Bool) (c : Call) (x : Spot) (p : Place) → takes_first t c ≡ Some x → MayBegin c p → Fits cvs t p → EntersAt own t h x p (entered t c p)
enters cvs own (Some s) h call.Cancel x [] at may fits = (job.Cancel s, [], refl, (cc), refl)
enters cvs own (Some s) h call.Cancel x (Returning b ph ∷ p) at may fits = (job.Cancel s, Returning b ph ∷ p, refl, (cc), refl)
enters cvs own (Some s) h call.Cancel x (f ∷ p) at may fits = absurd may
enters cvs own None h call.Cancel x p at may fits = absurd (cc)
enters cvs own (Some s) h (call.Prepare c) x [] at may fits = (job.Cancel s, Preparing c ∷ [], refl, (cc), refl)
enters cvs own (Some s) h (call.Prepare c) x (Settling b ph ∷ p) at may fits = (job.Cancel s, Preparing c ∷ Settling b ph ∷ p, refl, (cc), refl)
enters cvs own (Some s) h (call.Prepare c) x (f ∷ p) at may fits = absurd may
enters cvs own None h (call.Prepare c) x [] at may fits = (job.Prepare c, [], refl, (cc), refl)
enters cvs own None h (call.Prepare c) x (Settling b ph ∷ []) at may fits = (job.Prepare c, Settling b ph ∷ [], refl, (cc), refl)
enters cvs own None h (call.Prepare c) x (Settling b ph ∷ f ∷ p) at may fits = absurd (let e = fits.1 in cc)
enters cvs own None h (call.Prepare c) x (f ∷ p) at may fits = absurd may
enters cvs own (Some s) h (call.Sleep c) x [] at may fits = (job.Cancel s, Preparing c ∷ [], refl, other_target s c x at, refl)
enters cvs own (Some s) h (call.Sleep c) x (Dozing b ph ∷ p) at may fits = (job.Cancel s, Preparing c ∷ Dozing b ph ∷ p, refl, other_target s c x at, refl)
enters cvs own (Some s) h (call.Sleep c) x (f ∷ p) at may fits = absurd may
enters cvs own None h (call.Sleep c) x [] at may fits = (job.Prepare c, [], refl, (cc), refl)
enters cvs own None h (call.Sleep c) x (Dozing b ph ∷ p) at may fits = absurd (let e = fits.1 in cc)
enters cvs own None h (call.Sleep c) x (f ∷ p) at may fits = absurd may
enters cvs own (Some s) h (call.Broadcast c) x [] at may fits = (job.Cancel s, Broadcasting c ∷ [], refl, (cc), refl)
enters cvs own (Some s) h (call.Broadcast c) x (Passing b ph ∷ p) at may fits = (job.Cancel s, Broadcasting c ∷ Passing b ph ∷ p, refl, (cc), refl)
enters cvs own (Some s) h (call.Broadcast c) x (f ∷ p) at may fits = absurd may
enters cvs own None h (call.Broadcast c) x [] at may fits = (job.Broadcast c, [], refl, (cc), refl)
enters cvs own None h (call.Broadcast c) x (Passing b ph ∷ []) at may fits = (job.Broadcast c, Passing b ph ∷ [], refl, (cc), refl)
enters cvs own None h (call.Broadcast c) x (Passing b ph ∷ f ∷ p) at may fits = absurd (let e = fits.1 in cc)
enters cvs own None h (call.Broadcast c) x (f ∷ p) at may fits = absurd may
enters cvs own t h (call.Signal c) x p at may fits = alone_enters own t h (job.Signal c) (call.Signal c) x p tt may (cc) refl
enters cvs own t h (call.Attach b) x p at may fits = alone_enters own t h (job.Attach b) (call.Attach b) x p tt may (cc) refl
enters cvs own t h (call.Arrive b) x p at may fits = alone_enters own t h (job.Arrive b) (call.Arrive b) x p tt may (cc) refl
enters cvs own t h (call.Detach b) x p at may fits = alone_enters own t h (job.Detach b) (call.Detach b) x p tt may (cc) refl
enters cvs own t h (call.ArriveDetach b) x p at may fits = alone_enters own t h (job.ArriveDetach b) (call.ArriveDetach b) x p tt may (cc) refl
enters cvs own t h (call.ExceptLast b) x p at may fits = alone_enters own t h (job.ExceptLast b) (call.ExceptLast b) x p tt may (cc) refl
enters cvs own t h c x p at may fits = absurd (cc)

job_belongs : (t : Option ℕ) (clear : Bool) (found : Kept) (j : Job) (q : Place) → belongs_at t (taken clear found (Taking j ∷ q)) ≡ belongs_at t (Taking j ∷ q)
job_belongs t true found j q = refl
job_belongs t false found j q = refl

-- where it takes a spin word, whether that was free or not, a seat belongs to the list as before
pub belongs_follow : (z : Size) (own t : Option ℕ) (x : Spot) (b : Option Call) (o n : ℕ) (found : Kept) (p : Place) → Permits z (Take x b) own t p → Fits z.cvs t p → belongs_at t (place_then z (Take x b) n found record { own = o; target = t; place = p }) ≡ belongs_at t p
belongs_follow z own t x (Some c) o n found p ok fits = let e = enters z.cvs own t true c x p ok.1 ok.3 fits in ap (λ (q : Place). belongs_at t (taken (eqb n 0) found q)) e.2 ∙ (job_belongs t (eqb n 0) found e.0 e.1 ∙ ap (λ (u : Stance). u.belongs) e.4)
belongs_follow z own t x None o n found p ok fits = at_job p ok.1
  where
    at_job : (p : Place) → MayTake x (top p) → belongs_at t (taken (eqb n 0) found p) ≡ belongs_at t p
    at_job (Taking j ∷ q) may = job_belongs t (eqb n 0) found j q
    at_job p may = absurd may

-- THE FREES. The seat left a list
cancel_ended : (cvs : ℕ) (own t : Option ℕ) (h : Bool) (p : Place) → BehindCancel cvs t p → stance own None h (resumed p) ≡ idle own
cancel_ended cvs own t h [] fits = λ i. record (idle own) { heeds = no_heeds h i }
cancel_ended cvs own t h (Preparing c ∷ p) fits = λ i. record (idle own) { heeds = no_heeds h i }
cancel_ended cvs own t h (Broadcasting c ∷ p) fits = λ i. record (idle own) { heeds = no_heeds h i }
cancel_ended cvs own t h (Returning b ph ∷ []) fits = λ i. record (idle own) { heeds = no_heeds h i }
cancel_ended cvs own t h (Returning b ph ∷ f ∷ p) fits = absurd (cc)
cancel_ended cvs own t h p fits = absurd fits

module _ (cvs o : ℕ) (h : Bool) (found : Record) where
  abbrev SendsAt : Job → List ℕ → Option ℕ → Place → Type 0
  SendsAt j list t p = Sends o (slot_of (spot_of j)) list (left_list j o list) (stance (Some o) t h (Holding j list found ∷ p)) (stance (Some o) (target_after j t) (heeds_after j o list h) (goes_on j o list found p))

  cancel_sends : (c : ℕ) (list : List ℕ) (t : Option ℕ) (p : Place) → BehindCancel cvs t p → SendsAt (job.Cancel c) list (Some c) p
  cancel_sends c list t p fits = leaves refl refl (cancel_ended cvs (Some o) t h p fits)

  prepare_sends : (c : ℕ) (list : List ℕ) (p : Place) → BehindPrepare c p → SendsAt (job.Prepare c) list None p
  prepare_sends c list p fits = joins refl (inl refl) (prepare_ended (Some o) (Some c) true c p fits)

  resleep_sends : (c : ℕ) (list : List ℕ) (p : Place) → BehindSleep c p → SendsAt (job.Resleep c) list (Some c) p
  resleep_sends c list p fits = by_test (is_listed o list) refl
    where
      by_test : (b : Bool) → is_listed o list ≡ b
          → Sends o c list (cond b list (list ++ o ∷ [])) (stance (Some o) (Some c) h (Holding (job.Resleep c) list found ∷ p)) (stance (Some o) (Some c) (cond b h true) (cond b (SleepWaiting c ∷ p) (resumed p)))
      by_test true e = stays_listed h refl (listed_there o list e) refl
      by_test false e = joins refl (inr (refl, not_listed o list e)) (sleep_ended (Some o) (Some c) true c p fits)

  signal_sends : (c : ℕ) (list : List ℕ) (t : Option ℕ) → SendsAt (job.Signal c) list t []
  signal_sends c [] t = returns (belongs_at t []) refl (inl refl) refl
  signal_sends c (q ∷ rest) t = pops q (belongs_at t []) refl (inl refl) refl

  -- a broadcast, in no call or inside one
  module _ (c : ℕ) (p : Place) (fits : BehindBroadcast c p) where
    no_sentinel : sentinel_at p ≡ None
    no_sentinel = by_place p fits
      where
        by_place : (p : Place) → BehindBroadcast c p → sentinel_at p ≡ None
        by_place [] h = refl
        by_place (Passing b ph ∷ p) h = ap sentinel_at h.1
        by_place p h = absurd h

    -- the seat at rest, when the broadcast ended and while it sets the latch of q
    abbrev at_rest : Stance
    at_rest = record { own = Some o; hand = None; belongs = None; heeds = cond h None None; pops = None }

    ended : stance (Some o) None h (resumed p) ≡ at_rest
    ended = broadcast_ended (Some o) None h c p fits ∙ (λ i. record at_rest { belongs = no_sentinel i })

    roused : (q : ℕ) → stance (Some o) None h (Rousing c q false ∷ p) ≡ record at_rest { pops = Some q }
    roused q = λ i. record at_rest { pops = Some q; belongs = no_sentinel i }

    broadcast_sends : (list : List ℕ) → SendsAt (job.Broadcast c) list None p
    broadcast_sends [] = returns None refl (inl refl) ended
    broadcast_sends (q ∷ []) = pops q None refl (inl refl) (roused q)
    broadcast_sends (q ∷ r ∷ rest) = signs q (r ∷ rest) refl refl refl (no_heeds h) refl

    rebroadcast_sends : (list : List ℕ) → SendsAt (job.Rebroadcast c) list None p
    rebroadcast_sends [] = returns None refl (inr (refl, refl, refl)) ended
    rebroadcast_sends (q ∷ rest) = by_head (eqb q o) refl (is_listed o rest) refl
      where
        by_head : (b : Bool) → eqb q o ≡ b → (d : Bool) → is_listed o rest ≡ d
            → Sends o c (q ∷ rest) rest (stance (Some o) None h (Holding (job.Rebroadcast c) (q ∷ rest) found ∷ p)) (stance (Some o) None h (cond b (resumed p) (Rousing c q d ∷ p)))
        by_head true e d f = ends (ap (λ (n : ℕ). n ∷ rest) (eqb-true q o e)) refl (no_heeds h) ended
        by_head false e true f = pops q (Some c) refl (inl refl) refl
        by_head false e false f = pops q None refl (inr (refl, refl, not_listed o rest f)) (roused q)

  -- where the target is this
  of_target : (j : Job) (list : List ℕ) (t u : Option ℕ) (p : Place) → t ≡ u → SendsAt j list u p → SendsAt j list t p
  of_target j list t u p e sends = subst (λ (x : Option ℕ). SendsAt j list x p) (sym e) sends

  -- where nothing stands behind
  alone_at : (j : Job) (list : List ℕ) (t : Option ℕ) (p : Place) → p ≡ [] → SendsAt j list t [] → SendsAt j list t p
  alone_at j list t p none sends = subst (λ (q : Place). SendsAt j list t q) (sym none) sends

  freed_sends : (j : Job) (list : List ℕ) (t : Option ℕ) (p : Place) → JobFits cvs t j p → SendsAt j list t p
  freed_sends (job.Cancel c) list t p fits = of_target (job.Cancel c) list t (Some c) p fits.1 (cancel_sends c list t p fits.2)
  freed_sends (job.Prepare c) list t p fits = of_target (job.Prepare c) list t None p fits.1 (prepare_sends c list p fits.2)
  freed_sends (job.Resleep c) list t p fits = of_target (job.Resleep c) list t (Some c) p fits.1 (resleep_sends c list p fits.2)
  freed_sends (job.Signal c) list t p fits = alone_at (job.Signal c) list t p fits.1 (signal_sends c list t)
  freed_sends (job.Broadcast c) list t p fits = of_target (job.Broadcast c) list t None p fits.1 (broadcast_sends c p fits.2 list)
  freed_sends (job.Rebroadcast c) list t p fits = of_target (job.Rebroadcast c) list t None p fits.1 (rebroadcast_sends c p fits.2 list)
  freed_sends (job.Attach b) list t p fits = alone_at (job.Attach b) list t p fits (returns (belongs_at t []) refl (inl refl) refl)
  freed_sends (job.Arrive b) list t p fits = alone_at (job.Arrive b) list t p fits.1 (by_test (is_worn found) (is_last found))
    where
      by_test : (worn last : Bool) → Sends o (slot_of (Bar b)) list list (stance (Some o) t h (Holding (job.Arrive b) list found ∷ [])) (stance (Some o) t h (cond worn [] (cond last (Passing b found.phase ∷ []) (Settling b found.phase ∷ []))))
      by_test true last = returns (belongs_at t []) refl (inl refl) refl
      by_test false true = returns (belongs_at t []) refl (inl refl) refl
      by_test false false = returns (belongs_at t []) refl (inl refl) refl
  freed_sends (job.Notice b ph) list t p fits = alone_at (job.Notice b ph) list t p fits.2 (by_test (has_passed ph found))
    where
      by_test : (passed : Bool) → Sends o (slot_of (Bar b)) list list (stance (Some o) t h (Holding (job.Notice b ph) list found ∷ [])) (stance (Some o) t h (cond passed (Returning b ph ∷ []) (Dozing b ph ∷ [])))
      by_test true = returns (belongs_at t []) refl (inl refl) refl
      by_test false = returns (belongs_at t []) refl (inl refl) refl
  freed_sends (job.Detach b) list t p fits = alone_at (job.Detach b) list t p fits.1 (by_test (is_awaited found))
    where
      by_test : (passes : Bool) → Sends o (slot_of (Bar b)) list list (stance (Some o) t h (Holding (job.Detach b) list found ∷ [])) (stance (Some o) t h (passes_on passes b found []))
      by_test true = returns (belongs_at t []) refl (inl refl) refl
      by_test false = returns (belongs_at t []) refl (inl refl) refl
  freed_sends (job.ArriveDetach b) list t p fits = alone_at (job.ArriveDetach b) list t p fits.1 (by_test (is_worn found) (is_last found))
    where
      by_test : (worn passes : Bool) → Sends o (slot_of (Bar b)) list list (stance (Some o) t h (Holding (job.ArriveDetach b) list found ∷ [])) (stance (Some o) t h (cond worn [] (passes_on passes b found [])))
      by_test true passes = returns (belongs_at t []) refl (inl refl) refl
      by_test false true = returns (belongs_at t []) refl (inl refl) refl
      by_test false false = returns (belongs_at t []) refl (inl refl) refl
  freed_sends (job.ExceptLast b) list t p fits = alone_at (job.ExceptLast b) list t p fits (returns (belongs_at t []) refl (inl refl) refl)

-- THE STEPS
module _ (z : Size) (most : z.cvs ≤ most_conditions) (words : List ℕ) (homes : Homes) (o : ℕ) (below : o < z.procs) where
  abbrev found_at : ℕ → ℕ
  found_at i = get_or words i 0

  -- what a seat at p, which goes on at q with this target, does at the word i
  module _ (t : Option ℕ) (h : Bool) where
    abbrev at : Place → Stance
    at p = stance (Some o) t h p

    -- a word is read
    seen_turned : (i : ℕ) (p q : Place) → at q ≡ at p → Turn z words homes homes i (found_at i) (at p) (at q)
    seen_turned i p q same = stays (reads refl) refl same

    begun_turned : (q : ℕ) (c : Call) (b : Bool) (p : Place) → (b ≡ false → found_at (set_at q) ≡ 1) → BeginsLoad z q c (Some o) t → MayBegin c p → Fits z.cvs t p → Turn z words homes homes (set_at q) (found_at (set_at q)) (at p) (at (begun c b p))
    begun_turned q (call.Set r) true [] one ok may fits = stays (reads refl) refl refl
    begun_turned q (call.Set r) false [] one ok may fits = stays (reads refl) refl refl
    begun_turned q (call.Set r) true (Signalling c s ∷ p) one ok may fits = stays (reads refl) refl refl
    begun_turned q (call.Set r) false (Signalling c s ∷ p) one ok may fits = reaches q ok.1 refl (one refl) refl (ap Some (may ∙ ok.0)) (idle_ended (Some o) t h p fits)
    begun_turned q (call.Set r) true (Rousing c s more ∷ p) one ok may fits = stays (reads refl) refl refl
    begun_turned q (call.Set r) false (Rousing c s more ∷ p) one ok may fits = reaches q ok.1 refl (one refl) refl (ap Some (may ∙ ok.0)) (roused_ended (Some o) t h c s more p fits.2)
    begun_turned q (call.Set r) b (f ∷ p) one ok may fits = absurd may
    begun_turned q (call.Wait Latch) true [] one ok may fits = stays (reads refl) refl refl
    begun_turned q (call.Wait Latch) false [] one ok may fits = stays (reads refl) refl refl
    begun_turned q (call.Wait Latch) true (SleepWaiting c ∷ p) one ok may fits = stays (reads refl) refl refl
    begun_turned q (call.Wait Latch) false (SleepWaiting c ∷ p) one ok may fits = stays (reads refl) refl refl
    begun_turned q (call.Wait Latch) b (f ∷ p) one ok may fits = absurd may
    begun_turned q (call.Wait LatchOrShutdown) true [] one ok may fits = stays (reads refl) refl refl
    begun_turned q (call.Wait LatchOrShutdown) false [] one ok may fits = stays (reads refl) refl refl
    begun_turned q (call.Wait LatchOrShutdown) b (SleepWaiting c ∷ p) one ok may fits = absurd may
    begun_turned q (call.Wait LatchOrShutdown) b (f ∷ p) one ok may fits = absurd may
    begun_turned q call.IsSet b p one ok may fits = stays (reads refl) refl refl
    begun_turned q (call.Sleep c) true [] one ok may fits = stays (reads refl) refl refl
    begun_turned q (call.Sleep c) false [] one ok may fits = stays (reads refl) refl refl
    begun_turned q (call.Sleep c) true (Dozing d ph ∷ p) one ok may fits = stays (reads refl) refl refl
    begun_turned q (call.Sleep c) false (Dozing d ph ∷ p) one ok may fits = stays (reads refl) refl refl
    begun_turned q (call.Sleep c) b (f ∷ p) one ok may fits = absurd may
    begun_turned q c b p one ok may fits = absurd ok

    -- the latch of q is set
    set_turned : (q : ℕ) (p : Place) → q < z.procs → BehindSet z.cvs t q p → Turn z words homes homes (set_at q) 1 (at (Setting q ∷ p)) (at (Telling q ∷ p))
    set_turned q [] few fits = stays (latches q few refl refl) refl refl
    set_turned q (Signalling c r ∷ p) few fits = reaches q few refl refl refl (ap Some fits.0) refl
    set_turned q (Rousing c r more ∷ p) few fits = reaches q few refl refl refl (ap Some fits.0) refl
    set_turned q p few fits = absurd fits

    reset_turned : (p : Place) → MayReset (top p) → Fits z.cvs t p → Turn z words homes homes (set_at o) 0 (at p) (at (reset p))
    reset_turned (Resetting c ∷ p) ok fits = resets o below refl refl refl refl (subst (λ (x : Option ℕ). stance (Some o) x h (Taking (job.Resleep c) ∷ p) ≡ record (stance (Some o) x h (Resetting c ∷ p)) { heeds = None }) (sym fits.0) (reset_heeds (Some o) h c p))
    reset_turned p ok fits = absurd ok

    -- the spin word of a job is taken
    take_turned : (out : List (ℕ × Kept)) (j : Job) (p : Place) (b : Bool) → slot_of (spot_of j) < slots_in z → (b ≡ true → found_at (spin_at z (slot_of (spot_of j))) ≡ 0) → (b ≡ false → found_at (spin_at z (slot_of (spot_of j))) ≡ 1)
        → (b ≡ true → get_elem? homes (slot_of (spot_of j)) ≡ maybe.some (maybe.some (home_in homes (slot_of (spot_of j)))))
        → Turn z words homes (homes_after homes out (cond b (takes_out (slot_of (spot_of j)) (home_in homes (slot_of (spot_of j)))) keeps)) (spin_at z (slot_of (spot_of j))) 1 (at (Taking j ∷ p)) (at (taken b (home_in homes (slot_of (spot_of j))) (Taking j ∷ p)))
    take_turned out j p true inside none one home = takes (slot_of (spot_of j)) (home_in homes (slot_of (spot_of j))) inside refl refl (none refl) (home refl) refl refl refl
    take_turned out j p false inside none one home = stays (reads (sym (one refl))) refl refl

    -- it is freed
    free_turned : (j : Job) (list : List ℕ) (found : Record) (p : Place) → slot_of (spot_of j) < slots_in z → JobFits z.cvs t j p
        → Turn z words homes (set homes (slot_of (spot_of j)) (maybe.some (as_kept (left_list j o list) (left_record j found)))) (spin_at z (slot_of (spot_of j))) 0 (at (Holding j list found ∷ p)) (stance (Some o) (target_after j t) (heeds_after j o list h) (goes_on j o list found p))
    free_turned j list found p inside fits = frees o (slot_of (spot_of j)) list (as_kept (left_list j o list) (left_record j found)) below inside refl refl refl refl refl refl (freed_sends z.cvs o h found j list t p fits)

  -- what the step makes of the word, the lists and the seat's stance
  abbrev pub TurnsAt : WaitStep → Option ℕ → Bool → Place → Type 0
  TurnsAt k t h p = let n = found_at (word_of z o k) in let found = home_in homes (slot_number k) in
      Turn z words homes (homes_after homes (carried k o p) (act_of k n found)) (word_of z o k) (becomes k n) (stance (Some o) t h p) (stance (Some o) (target_then k t) (heeds_then k o p h) (place_then z k n found record { own = o; target = t; place = p }))

  -- what lies at home where a spin word is 0
  abbrev pub AtHome : Type 0
  AtHome = (x : ℕ) → x < slots_in z → found_at (spin_at z x) ≡ 0 → (k : Kept) × (get_elem? homes x ≡ maybe.some (maybe.some k))

  module _ (home : AtHome) (t : Option ℕ) (h : Bool) where
    -- a spin word of the table is taken
    taken_turned : (x : Spot) (begins : Option Call) (j : Job) (p q : Place) → slot_of x < slots_in z → spot_of j ≡ x → found_at (spin_at z (slot_of x)) ≤ 1 → stance (Some o) t h (Taking j ∷ q) ≡ stance (Some o) t h p
        → let n = found_at (spin_at z (slot_of x)) in let found = home_in homes (slot_of x) in
        Turn z words homes (homes_after homes (carried (Take x begins) o p) (act_of (Take x begins) n found)) (spin_at z (slot_of x)) 1 (stance (Some o) t h p) (stance (Some o) t h (taken (eqb n 0) found (Taking j ∷ q)))
    taken_turned x begins j p q inside is few same = subst (λ (u : Stance). Turn z words homes (after_take x) (spin_at z (slot_of x)) 1 u (stance (Some o) t h (taken (eqb (found_at (spin_at z (slot_of x))) 0) (home_in homes (slot_of x)) (Taking j ∷ q)))) same (at_spot x is inside few)
      where
        after_take : Spot → Homes
        after_take y = homes_after homes (carried (Take y begins) o p) (act_of (Take y begins) (found_at (spin_at z (slot_of y))) (home_in homes (slot_of y)))

        at_spot : (y : Spot) → spot_of j ≡ y → slot_of y < slots_in z → found_at (spin_at z (slot_of y)) ≤ 1
            → Turn z words homes (after_take y) (spin_at z (slot_of y)) 1 (stance (Some o) t h (Taking j ∷ q)) (stance (Some o) t h (taken (eqb (found_at (spin_at z (slot_of y))) 0) (home_in homes (slot_of y)) (Taking j ∷ q)))
        at_spot y e = subst (λ (s : Spot). slot_of s < slots_in z → found_at (spin_at z (slot_of s)) ≤ 1
            → Turn z words homes (after_take s) (spin_at z (slot_of s)) 1 (stance (Some o) t h (Taking j ∷ q)) (stance (Some o) t h (taken (eqb (found_at (spin_at z (slot_of s))) 0) (home_in homes (slot_of s)) (Taking j ∷ q)))) e
            (λ inside few. take_turned t h (carried (Take (spot_of j) begins) o p) j q (eqb (found_at (spin_at z (slot_of (spot_of j)))) 0) inside (λ e. eqb-true _ 0 e) (λ e. is_one _ few e)
            (λ e. let there = home (slot_of (spot_of j)) inside (eqb-true _ 0 e) in there.1 ∙ ap (λ k. maybe.some (maybe.some k)) (sym (ap home_of there.1))))

    take_at : (x : Spot) (p : Place) → slot_of x < slots_in z → MayTake x (top p) → found_at (spin_at z (slot_of x)) ≤ 1 → TurnsAt (Take x None) t h p
    take_at x (Taking j ∷ p) inside ok few = taken_turned x None j (Taking j ∷ p) p inside ok few refl
    take_at x p inside ok few = absurd ok

    free_at : (x : Spot) (after : Option ℕ) (p : Place) → slot_of x < slots_in z → MayFree x after t (top p) → Fits z.cvs t p → TurnsAt (Free x after) t h p
    free_at x after (Holding j list found ∷ p) inside ok fits = at_spot x ok.0 inside
      where
        at_spot : (y : Spot) → spot_of j ≡ y → slot_of y < slots_in z → TurnsAt (Free y after) t h (Holding j list found ∷ p)
        at_spot y e = subst (λ (s : Spot). slot_of s < slots_in z → TurnsAt (Free s after) t h (Holding j list found ∷ p)) e
            (λ low. subst (λ (u : Option ℕ). Turn z words homes (set homes (slot_of (spot_of j)) (maybe.some (as_kept (left_list j o list) (left_record j found)))) (spin_at z (slot_of (spot_of j))) 0 (stance (Some o) t h (Holding j list found ∷ p)) (stance (Some o) u (heeds_after j o list h) (goes_on j o list found p)))
            (sym ok.1) (free_turned t h j list found p low fits))
    free_at x after p inside ok fits = absurd ok

    turning : (k : WaitStep) (p : Place) → Permits z k (Some o) t p → Fits z.cvs t p → found_at (word_of z o k) ≤ 1 → TurnsAt k t h p
    turning (Sload q (Some c)) p ok fits few = begun_turned t h q c (eqb (found_at (set_at q)) 0) p (λ e. is_one _ few e) ok.0 ok.1 fits
    turning (Sload q None) p ok fits few = seen_turned t h (set_at q) p (reloaded (eqb (found_at (set_at q)) 0) p) (reloaded_same (Some o) t h z.cvs (eqb (found_at (set_at q)) 0) p ok.1 fits)
    turning (Sset q) p ok fits few = at_top (λ (r : Place). Fits z.cvs t r → TurnsAt (Sset q) t h r) p (Setting q) ok.1 (λ f. set_turned t h q (outer p) ok.0 f) fits
    turning (Reset (Some c)) p ok fits few = resets o below refl refl refl refl refl
    turning (Reset None) p ok fits few = reset_turned t h p ok fits
    turning (Mstore may) p ok fits few = stays (marks o below refl) refl (marked_same (Some o) t h z.cvs may p ok fits)
    turning (Mload q) p ok fits few = at_top (λ (r : Place). Fits z.cvs t r → TurnsAt (Mload q) t h r) p (Telling q) ok.1
        (λ f. stays (reads refl) refl (told_same (Some o) t h z.cvs q (eqb (found_at (may_at q)) 0) (outer p) f)) fits
    turning (Byte q) p ok fits few = stays (wakes q ok.0 refl) refl (woken_same (Some o) t h z q p ok.1 fits)
    turning Look p ok fits few = stays (reads refl) refl (looked_same (Some o) t h (eqb (found_at (byte_at o)) 0) p ok)
    turning Drain p ok fits few = stays (wakes o below refl) refl (drained_same (Some o) t h p ok)
    turning (Shload (Some c)) p ok fits few = stays (reads refl) refl refl
    turning (Shload None) p ok fits few = at_top (λ (r : Place). TurnsAt (Shload None) t h r) p CheckingShutdown ok (stays (reads refl) refl (checked_same (Some o) t h (eqb (found_at (shut_at z)) 0) (outer p)))
    turning (Shstore begins) p ok fits few = stays (shuts refl) refl (stopping_same (Some o) t h p ok.1)
    turning (Take x (Some c)) p ok fits few = let e = enters z.cvs (Some o) t h c x p ok.1 ok.3 fits in
        subst (λ (r : Place). Turn z words homes (homes_after homes (carried (Take x (Some c)) o p) (act_of (Take x (Some c)) (found_at (spin_at z (slot_of x))) (home_in homes (slot_of x)))) (spin_at z (slot_of x)) 1
        (stance (Some o) t h p) (stance (Some o) t h (taken (eqb (found_at (spin_at z (slot_of x))) 0) (home_in homes (slot_of x)) r))) (sym e.2) (taken_turned x (Some c) e.0 p e.1 (spot_inside z x most ok.0) e.3 few e.4)
    turning (Take x None) p ok fits few = take_at x p (spot_inside z x most ok.0) ok.1 few
    turning (Spin x) p ok fits few = stays (reads refl) refl (spun_same (Some o) t h (eqb (found_at (spin_at z (slot_of x))) 0) x p ok.1)
    turning (Free x after) p ok fits few = free_at x after p (spot_inside z x most ok.0) ok.1 fits

  -- the same of a view
  pub view_turns : {C : Type 0} (v : WaitView C) (k : WaitStep) → AtHome → v.own ≡ Some o → Permits z k (Some o) v.target v.place → Fits z.cvs v.target v.place → found_at (word_of z o k) ≤ 1
      → Turn z words homes (homes_after homes (carried k o v.place) (act_of k (found_at (word_of z o k)) (home_in homes (slot_number k)))) (word_of z o k) (becomes k (found_at (word_of z o k)))
      (stance_of v) (stance_of (next_with z k v (found_at (word_of z o k)) (home_in homes (slot_number k))))
  view_turns v k home own ok fits few = subst (λ (x : Option ℕ). Turn z words homes (homes_after homes (carried k o v.place) (act_of k (found_at (word_of z o k)) (home_in homes (slot_number k)))) (word_of z o k) (becomes k (found_at (word_of z o k)))
      (stance x v.target v.heeds v.place) (stance x (target_then k v.target) (heeds_then k (number_of x) v.place v.heeds) (place_then z k (found_at (word_of z o k)) (home_in homes (slot_number k)) record { own = number_of x; target = v.target; place = v.place })))
      (sym own) (turning home v.target v.heeds k v.place ok fits few)

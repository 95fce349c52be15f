-- What the rule says of who sleeps.
use Rattle.std.proofs.Common.{◌≡◌, ◌⊎◌, ℕ, ◌<◌, ◌≤◌, Bool, true, [], ◌∷◌, map, get_or, Option, None, Some, refl, sym, ap, ◌∙◌, inl, inr, arith}
use mathlib.Core.Logic.{dite}
use native.Mathlib.Decide.{ℕ_discrete}
use mathlib.Core.Option as maybe
use lib.ListN.{get_elem?}
use Rattle.atomic_table.proofs.Lists.{at_map}
use Rattle.wait_core.specs.declared.view.Frame.{Frame}
use Rattle.wait_core.specs.declared.view.Frame.TheVariants.{Asleep, SleepWaiting, Dozing}
use Rattle.wait_core.specs.declared.view.Size.{Size}
use Rattle.wait_core.specs.declared.view.WaitView.{WaitView}
use Rattle.wait_core.specs.Meanings.{Meanings}
use Rattle.wait_core.specs.Words.{set_at, may_at, shut_at}
use Rattle.wait_core.specs.Machine.{WaitState, Place, top, bit}
use Rattle.wait_core.specs.Seating.{numbers_of, standing_of}
use Rattle.wait_core.specs.Parties.{now}
use Rattle.wait_core.specs.Fits.{Fits}
use Rattle.wait_core.specs.Barriers.{waits_at, phases_in}
use Rattle.wait_core.specs.PassedPhaseIsBroadcast.{dozes, IsBroadcastTo}
use Rattle.wait_core.specs.Places.{may_sleep, past_latch, past_shutdown, is_asleep, backend_count}
use Rattle.wait_core.specs.Rule.{Rule}
use Rattle.wait_core.specs.Wakes.{IsAsleep, SleepsTillShutdown, LatchWakePending, ShutdownWakePending, SignalPending}
use Rattle.wait_core.specs.Stances.{stance_of, heeds_at, heeds_for}
use Rattle.wait_core.specs.Broadcasts.{listed_on}
use Rattle.seat_roster.proofs.Totals.{total_at}
use Rattle.wait_core.proofs.Owning.{just_here, both_here}
use Rattle.wait_core.proofs.Counts.{backend_is}
use Rattle.seat_roster.proofs.Numbers.{one_seat}
use Rattle.wait_core.proofs.Attachments.{waited, same_waited}
use Rattle.wait_core.proofs.Dozing.{settled_dozing}
use Rattle.wait_core.proofs.RuleKept.{alone, own_below}

-- who sleeps is past no reset
sleeps_heeding : (c : ℕ) (heeds : Bool) (t : Option ℕ) (p : Place) → heeds ≡ true → t ≡ Some c → is_asleep (top p) ≡ true → heeds_at heeds t p ≡ Some c
sleeps_heeding c heeds t (Asleep w ∷ p) on target h = λ i. heeds_at (on i) (target i) (Asleep w ∷ p)
sleeps_heeding c heeds t [] on target h = absurd (cc)
sleeps_heeding c heeds t (f ∷ p) on target h = absurd (cc)

-- who sleeps where it waits at a barrier is in the sleep of its arrival, and the barrier's condition is its target
sleeps_dozing : (cvs : ℕ) (t : Option ℕ) (b ph : ℕ) (p : Place) → Fits cvs t p → is_asleep (top p) ≡ true → waits_at p ≡ waited b ph → (dozes p ≡ true) × (t ≡ Some b)
sleeps_dozing cvs t b ph (Asleep w ∷ []) fits h waits = absurd (cc)
sleeps_dozing cvs t b ph (Asleep w ∷ SleepWaiting c ∷ []) fits h waits = absurd (cc)
sleeps_dozing cvs t b ph (Asleep w ∷ SleepWaiting c ∷ Dozing d g ∷ p) fits h waits = let same = same_waited d g b ph waits in (refl, fits.1 ∙ ap Some (sym fits.2.0 ∙ same.0))
sleeps_dozing cvs t b ph (Asleep w ∷ SleepWaiting c ∷ f ∷ p) fits h waits = absurd fits.2
sleeps_dozing cvs t b ph (Asleep w ∷ f ∷ p) fits h waits = absurd fits
sleeps_dozing cvs t b ph [] fits h waits = absurd (cc)
sleeps_dozing cvs t b ph (f ∷ p) fits h waits = absurd (cc)

sleeps_past_latch : (t : Option Frame) → is_asleep t ≡ true → past_latch t ≡ true
sleeps_past_latch (Some (Asleep w)) h = refl
sleeps_past_latch None h = h
sleeps_past_latch (Some f) h = absurd (cc)

module _ {C : Type 0} (means : Meanings C) (z : Size) (phase count : ℕ) (s : WaitState C) (r : Rule means z phase count s) (id p : ℕ) (v : WaitView C) (at : get_elem? s.views id ≡ maybe.some v) (own : v.own ≡ Some p) where
  counted : (f : Option Frame → Bool) → backend_count p f (map standing_of s.views) ≡ bit (f (top v.place))
  counted f = backend_is (map standing_of s.views) (alone z.procs (get_or s.words 0 0) s.views r.roster) id p (standing_of v) f (at_map standing_of s.views id v at) own

  below : p < z.procs
  below = own_below means z phase count s r id v p at own

  pub asleep_wakes : IsAsleep v → get_or s.words (set_at p) 0 ≡ 1 → LatchWakePending p s
  asleep_wakes asleep up = r.latches p below (let a = counted past_latch in let b : bit (past_latch (top v.place)) ≡ 1 = ap bit (sleeps_past_latch (top v.place) asleep) in omega arith) up

  pub signalled_wakes : (c : ℕ) → v.target ≡ Some c → v.heeds ≡ true → listed_on p c s ≡ 0 → IsAsleep v → LatchWakePending p s ⊎ SignalPending p s
  signalled_wakes c target on off asleep =
      let inside : c < z.cvs = r.places.targets id (standing_of v) (at_map standing_of s.views id v at) c target in
      let one = both_here p c v.own (stance_of v).heeds own ∙ just_here c (stance_of v).heeds (sleeps_heeding c v.heeds v.target v.place on target asleep) in
      let all = total_at (heeds_for p c) (map stance_of s.views) id (stance_of v) (at_map stance_of s.views id v at) in
      let reaches = r.lists.signals p c below (omega arith) (omega arith) off in
      dite (ℕ_discrete (get_or s.words (set_at p) 0) 1) (λ up. inl (asleep_wakes asleep up)) (λ clear. inr (let flag = r.flags (set_at p) (omega (arith, below)) (omega (arith, below)) in omega arith))

  -- who waits at a barrier for a phase that has passed is listed before a broadcast, or was signalled
  pub late_wakes : (b ph : ℕ) → waits_at v.place ≡ waited b ph → ph < now (phases_in z s) b → IsAsleep v → ((1 ≤ listed_on p b s) × IsBroadcastTo p b ph s) ⊎ (LatchWakePending p s ⊎ SignalPending p s)
  late_wakes b ph waits late asleep =
      let in_sleep = sleeps_dozing z.cvs v.target b ph v.place (r.places.fits id (standing_of v) (at_map standing_of s.views id v at)) asleep waits in
      dite (ℕ_discrete (listed_on p b s) 0)
      (λ off. inr (signalled_wakes b in_sleep.1 (r.heeds id v at (settled_dozing v.place in_sleep.0)) off asleep))
      (λ on. let some : 1 ≤ listed_on p b s = omega arith in inl (some, r.broadcasts id p b ph v at own waits in_sleep.0 late some))

  pub stopped_wakes : SleepsTillShutdown v → get_or s.words (shut_at z) 0 ≡ 1 → ShutdownWakePending p s
  stopped_wakes asleep up = r.shutdown p below (let a = counted past_shutdown in let b : bit (past_shutdown (top v.place)) ≡ 1 = ap (λ t. bit (past_shutdown t)) asleep in omega arith) up

  pub marked_here : get_or s.words (may_at p) 0 ≡ bit (may_sleep (top v.place))
  marked_here = r.may p below ∙ counted may_sleep

  pub one_of : (j : ℕ) (u : WaitView C) → get_elem? s.views j ≡ maybe.some u → u.own ≡ Some p → id ≡ j
  one_of j u there mine = one_seat z.procs (get_or s.words 0 0) (map numbers_of s.views) r.roster id j p (numbers_of v) (numbers_of u) (at_map numbers_of s.views id v at) (at_map numbers_of s.views j u there) own mine

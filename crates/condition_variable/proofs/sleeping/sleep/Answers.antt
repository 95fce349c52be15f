use Rattle.std.proofs.Common.{◌≡◌, ℕ, suc, true, false, cond, List, [], ◌∷◌, ◌++◌, append_assoc, None, Some, refl, sym, ap, ◌∙◌, subst}
use Rattle.wait_core.specs.declared.step.Call.TheVariants as call
use Rattle.wait_core.specs.declared.step.Until.TheVariants.{Latch}
use Rattle.wait_core.specs.declared.step.WaitStep.TheVariants.{Reset}
use Rattle.wait_core.specs.declared.view.Frame.TheVariants.{Resetting, SleepWaiting}
use Rattle.wait_core.specs.declared.view.Made.{Made}
use Rattle.wait_core.specs.declared.view.WaitView.{WaitView}
use Rattle.wait_core.specs.Jobs.{resumed}
use Rattle.wait_core.specs.Lists.{is_listed}
use Rattle.wait_core.specs.Machine.{MayBegin, made, number_of, outer}
use Rattle.latch.specs.Reads.{went, BeginsWait, ReadLatch}
use Rattle.latch.proofs.Walks.{went_through}
use Rattle.condition_variable.specs.Visits.{Visits, stands}
use Rattle.condition_variable.specs.Calls.{Awakes, relisted, wait_begins}
use Rattle.condition_variable.proofs.Walks.{stands_through, waits_again, not_off, not_on}
use Rattle.condition_variable.proofs.sleeping.sleep.Goals as goal

pub go_to_list-requires-clause-begins : goal.go_to_list-requires-clause-begins
go_to_list-requires-clause-begins g c = λ _ _. (refl, λ e. c.sleeps_on.ensures.other c.if-not-sleeps_on.true (c.target.ensures ∙ e))

pub returns-then-not-sleeps_on-clause-slept : goal.returns-then-not-sleeps_on-clause-slept
returns-then-not-sleeps_on-clause-slept g c = let listed = c.go_to_list.ensures.listed in (listed.0, listed.1, ((λ e. c.sleeps_on.ensures.other c.if-not-sleeps_on.true (c.target.ensures ∙ e)), listed.2))

pub wait_in_sleep-requires-clause-target : goal.wait_in_sleep-requires-clause-target
wait_in_sleep-requires-clause-target g c =
    let v = c.args.seat.now.view in
    let is : v.target ≡ Some c.args.cv = sym c.target.ensures ∙ c.sleeps_on.ensures.is c.if-not-sleeps_on.false in
    λ _ _. is

pub loop-init : goal.loop-init
loop-init g c =
    let v = c.args.seat.now.view in
    let set = c.wait_in_sleep.ensures.set in
    let own : set.0 ≡ number_of v.own = sym (ap number_of set.2) in
    ((cc), (cc), (0, [], set.1, set.3, refl, subst (λ (o : ℕ). BeginsWait o (call.Sleep c.args.cv) Latch set.1) own set.4, subst (λ (o : ℕ). ReadLatch o 1 set.1) own set.5))

pub was_signalled-requires-clause-target : goal.was_signalled-requires-clause-target
was_signalled-requires-clause-target g c =
    let v = c.args.seat.now.view in
    let is : v.target ≡ Some c.args.cv = sym c.target.ensures ∙ c.sleeps_on.ensures.is c.if-not-sleeps_on.false in
    λ _ _. ap (λ (y : WaitView _). y.target) c.loop.invariant.2.3 ∙ is

pub was_signalled-requires-clause-place : goal.was_signalled-requires-clause-place
was_signalled-requires-clause-place g c = λ _ _. subst (λ (y : WaitView _). y.place ≡ Resetting c.args.cv ∷ outer y.place) (sym c.loop.invariant.2.3) refl

pub returns-then-was_signalled-clause-slept : goal.returns-then-was_signalled-clause-slept
returns-then-was_signalled-clause-slept g c =
    let v = c.args.seat.now.view in
    let is : v.target ≡ Some c.args.cv = sym c.target.ensures ∙ c.sleeps_on.ensures.is c.if-not-sleeps_on.false in
    let w = c.loop.seat.view in
    let inv = c.loop.invariant.2 in
    let l = c.was_signalled.ensures.looked in
    let own : number_of w.own ≡ number_of v.own = ap (λ (y : WaitView _). number_of y.own) inv.3 in
    let part : List Made = made (Reset None) l.1 ∷ l.2 in
    let last : List Made = inv.2 ++ part in
    let awakes : Awakes (number_of v.own) c.args.cv (wait_begins c.args.cv inv.0) l.0 last = record { wait = inv.2; look = l.2; word = l.1; split = refl; waits = inv.5; set = inv.6; looks = subst (λ (o : ℕ). Visits c.args.cv None l.0 (relisted o l.0) (Some c.args.cv) l.2) own l.5 } in
    let on_it : c.was_signalled.result ≡ true = c.if-was_signalled.true in
    let x = c.was_signalled.new.seat.view in
    let here : x ≡ stands w (resumed v.place) (Some c.args.cv) true part = l.4 ∙ (λ i. stands w (cond (on_it i) (resumed (outer (inv.3 i).place)) (SleepWaiting c.args.cv ∷ outer (inv.3 i).place)) (Some c.args.cv) (cond (on_it i) true (inv.3 i).heeds) part) in
    (inv.1 ++ last, stands_through v w x _ (resumed v.place) v.target (Some c.args.cv) v.heeds true (inv.1 ++ inv.2) part inv.3 here ∙ ap (λ (m : List Made). stands v (resumed v.place) (Some c.args.cv) true m) (append_assoc inv.1 inv.2 part), (is, record { count = inv.0; before = inv.1; last = last; found = l.0; split = refl; still = inv.4; awakes = awakes; off = not_off (is_listed (number_of v.own) l.0) c.was_signalled.result (l.3 ∙ ap (λ (o : ℕ). Rattle.std.specs.Prelude.not (is_listed o l.0)) own) on_it }))

pub wait_latch_only-requires-clause-place : goal.wait_latch_only-requires-clause-place
wait_latch_only-requires-clause-place g c =
    let v = c.args.seat.now.view in
    let is : v.target ≡ Some c.args.cv = sym c.target.ensures ∙ c.sleeps_on.ensures.is c.if-not-sleeps_on.false in
    let inv = c.loop.invariant.2 in
    let l = c.was_signalled.ensures.looked in
    let waits = waits_again v c.loop.seat.view c.was_signalled.new.seat.view c.args.cv c.was_signalled.result inv.1 inv.2 (made (Reset None) l.1 ∷ l.2) is c.if-was_signalled.false inv.3 l.4 in
    λ _ _. subst (λ (y : WaitView _). MayBegin (call.Wait Latch) y.place) (sym waits) tt

pub loop-preserved : goal.loop-preserved
loop-preserved g c =
    let v = c.args.seat.now.view in
    let is : v.target ≡ Some c.args.cv = sym c.target.ensures ∙ c.sleeps_on.ensures.is c.if-not-sleeps_on.false in
    let w = c.loop.seat.view in
    let inv = c.loop.invariant.2 in
    let l = c.was_signalled.ensures.looked in
    let own : number_of w.own ≡ number_of v.own = ap (λ (y : WaitView _). number_of y.own) inv.3 in
    let part : List Made = made (Reset None) l.1 ∷ l.2 in
    let last : List Made = inv.2 ++ part in
    let awakes : Awakes (number_of v.own) c.args.cv (wait_begins c.args.cv inv.0) l.0 last = record { wait = inv.2; look = l.2; word = l.1; split = refl; waits = inv.5; set = inv.6; looks = subst (λ (o : ℕ). Visits c.args.cv None l.0 (relisted o l.0) (Some c.args.cv) l.2) own l.5 } in
    let off_it : c.was_signalled.result ≡ false = c.if-was_signalled.false in
    let x = c.was_signalled.new.seat.view in
    let waits = waits_again v w x c.args.cv c.was_signalled.result inv.1 inv.2 part is off_it inv.3 l.4 in
    let set = c.wait_latch_only.ensures.set in
    let mine : set.0 ≡ number_of v.own = sym (ap number_of set.2) ∙ ap (λ (y : WaitView _). number_of y.own) waits in
    let on = went_through v x c.wait_latch_only.new.seat.view _ (Resetting c.args.cv ∷ v.place) (inv.1 ++ last) set.1 waits (set.3 ∙ ap (λ (y : WaitView _). went x (resumed y.place) set.1) waits) in
    ((cc), (cc), (suc inv.0, inv.1 ++ last, set.1, on, (inv.1, last, l.0, refl, inv.4, awakes, not_on (is_listed (number_of v.own) l.0) c.was_signalled.result (l.3 ∙ ap (λ (o : ℕ). Rattle.std.specs.Prelude.not (is_listed o l.0)) own) off_it), subst (λ (o : ℕ). BeginsWait o (call.Wait Latch) Latch set.1) mine set.4, subst (λ (o : ℕ). ReadLatch o 1 set.1) mine set.5))

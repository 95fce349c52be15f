-- The views of a backend's two seats along a wait.
use Rattle.std.proofs.Common.{◌≡◌, ℕ, zero, suc, ◌+◌, ◌<◌, ◌≤◌, Bool, true, false, List, [], ◌∷◌, ◌++◌, append-nil, append_assoc, Option, None, Some, refl, sym, ap, ◌∙◌, subst, arith}
use Rattle.std.specs.Prelude.{MatchOption, not}
use mathlib.Core.Logic.{dite}
use native.Mathlib.Decide.{ℕ_discrete}
use Rattle.signal_core.specs.declared.step.Call.TheVariants as order
use Rattle.signal_core.specs.declared.step.SigStep.TheVariants.{Gload}
use Rattle.signal_core.specs.declared.view.About.{About}
use Rattle.signal_core.specs.declared.view.Made.{Made}
use Rattle.signal_core.specs.declared.view.SigView.{SigView}
use Rattle.signal_core.specs.Machine.{next}
use Rattle.wait_core.specs.declared.step.Call.TheVariants as call
use Rattle.wait_core.specs.declared.view.Made as wait
use Rattle.wait_core.specs.declared.view.WaitView.{WaitView}
use Rattle.wait_core.specs.Jobs.{resumed}
use Rattle.wait_core.specs.Lists.{is_listed}
use Rattle.wait_core.specs.Machine.{number_of}
use Rattle.wait_core.specs.Seats.{SeatView}
use Rattle.condition_variable.specs.declared.sleeping.Slept.{Slept}
use Rattle.condition_variable.specs.Calls.{Cancels, Sleeps}
use Rattle.condition_variable.specs.Visits.{stands}
use Rattle.condition_variable.proofs.Walks.{stands_through}
use Rattle.generation_barrier.specs.Absorbing.{went}
use Rattle.generation_barrier.specs.Waiting.{AwaitsBelow, AwaitsSlot, IsBehind, LeavesTarget, ReadAtLeast, look, notice_at, target_after, target_past}

-- THE SEAT at the table of signals: before the first look, after one look more, and after those of an inner part
pub went_nil : (v : SigView) → v.place ≡ None → v ≡ went v [] v.slot v.absorbed
went_nil v idle = λ i. record v { place = idle i; steps = sym (append-nil v.steps) i }

pub looked : (z : About) (v w x : SigView) (looks : List Made) (q n : ℕ) → w ≡ went v looks v.slot v.absorbed → x ≡ next z (Gload q (Some (order.Published q))) w n → x ≡ went v (looks ++ look q n ∷ []) v.slot v.absorbed
looked z v w x looks q n was is = is ∙ (ap (λ (u : SigView). next z (Gload q (Some (order.Published q))) u n) was ∙ (λ i. record (went v [] v.slot v.absorbed) { steps = append_assoc v.steps looks (look q n ∷ []) i }))

pub went_through : (v w x : SigView) (looks more : List Made) → w ≡ went v looks v.slot v.absorbed → x ≡ went w more w.slot w.absorbed → x ≡ went v (looks ++ more) v.slot v.absorbed
went_through v w x looks more was is = is ∙ (ap (λ (u : SigView). went u more u.slot u.absorbed) was ∙ (λ i. record (went v [] v.slot v.absorbed) { steps = append_assoc v.steps looks more i }))

module _ {C : Type 0} where
  -- THE SEAT at the table of waits: before the first sleep
  pub stands_nil : (v : WaitView C) → v.place ≡ [] → v ≡ stands v [] v.target v.heeds []
  stands_nil v idle = λ i. record v { place = idle i; steps = sym (append-nil v.steps) i }

  -- after one sleep more on the condition c, which is that of the slot q
  pub stands_on : (q c : ℕ) (v w x : WaitView C) (target : Option ℕ) (heeds : Bool) (before more : List wait.Made) → w ≡ stands v [] target heeds before → c ≡ notice_at q → x ≡ stands w (resumed w.place) (Some c) true more → x ≡ stands v [] (Some (notice_at q)) true (before ++ more)
  stands_on q c v w x target heeds before more was at is = stands_through v w x [] [] target (Some (notice_at q)) heeds true before more was (is ∙ (λ i. stands w (resumed (was i).place) (Some (at i)) true more))

  -- what was done by then, where the generation of the slot was found lower
  pub slept : (g q c n : ℕ) (v w : WaitView C) (heeds : Bool) (looks : List Made) (before more : List wait.Made) (found : ℕ) (answer : Slept) → w ≡ stands v [] (target_after (notice_at q) n v.target) heeds before → c ≡ notice_at q
      → IsBehind (number_of v.own) g q v.target n looks before → found < g → Sleeps (number_of w.own) c w.target answer more → IsBehind (number_of v.own) g q v.target (suc n) (looks ++ look q found ∷ []) (before ++ more)
  slept g q c n v w heeds looks before more found answer was at behind less sleeps =
      (looks, before, more, found, answer, refl, refl, behind, less, subst {A = ℕ × ℕ × Option ℕ} (λ y. Sleeps y.0 y.1 y.2 answer more) {x = (number_of w.own, c, w.target)} {y = (number_of v.own, notice_at q, target_after (notice_at q) n v.target)} (λ i. (number_of (was i).own, at i, (was i).target)) sleeps)

  -- what a cancel did, in a seat with the target o
  abbrev pub Cancelled : Option ℕ → SeatView C → SeatView C → Bool → Type 0
  Cancelled o s x answer = MatchOption o ((answer ≡ false) × (x ≡ s)) (λ t. (found : List ℕ) × (more : List wait.Made) × (x.view ≡ stands s.view (resumed s.view.place) None s.view.heeds more) × Cancels (number_of s.view.own) t call.Cancel found more × (answer ≡ not (is_listed (number_of s.view.own) found)))

  off_list : (v : WaitView C) (s x : SeatView C) (o : Option ℕ) (heeds answer : Bool) (sleeps : List wait.Made) → s.view ≡ stands v [] o heeds sleeps → Cancelled o s x answer
      → (more : List wait.Made) × (x.view ≡ stands v [] None heeds (sleeps ++ more)) × LeavesTarget (number_of v.own) o more
  off_list v s x None heeds answer sleeps was same = ([], ap (λ (y : SeatView C). y.view) same.1 ∙ (was ∙ (λ i. stands v [] None heeds (sym (append-nil sleeps) i))), refl)
  off_list v s x (Some t) heeds answer sleeps was off = (
    off.1,
    stands_through v s.view x.view [] [] (Some t) None heeds heeds sleeps off.1 was (off.2 ∙ (λ i. stands s.view (resumed (was i).place) None (was i).heeds off.1)),
    (off.0, subst (λ (own : ℕ). Cancels own t call.Cancel off.0 off.1) (ap (λ (y : WaitView C). number_of y.own) was) off.3),
  )

  -- at the end, where the generation of the slot q was found at g or more
  pub left : (g q n : ℕ) (v : WaitView C) (s x : SeatView C) (heeds answer : Bool) (looks : List Made) (sleeps : List wait.Made) (found : ℕ) → s.view ≡ stands v [] (target_after (notice_at q) n v.target) heeds sleeps → Cancelled s.view.target s x answer
      → IsBehind (number_of v.own) g q v.target n looks sleeps → g ≤ found
      → (more : List wait.Made) × AwaitsSlot (number_of v.own) g q v.target (looks ++ look q found ∷ []) (sleeps ++ more) × (x.view ≡ stands v [] None heeds (sleeps ++ more))
  left g q n v s x heeds answer looks sleeps found was cancelled behind most =
      let off = off_list v s x (target_after (notice_at q) n v.target) heeds answer sleeps was (subst {A = Option ℕ} (λ o. Cancelled o s x answer) (ap (λ (y : WaitView C). y.target) was) cancelled) in
      (off.0, record { count = n; before = looks; earlier = sleeps; found = found; leave = off.0; looked = refl; slept = refl; behind = behind; reached = most; leaves = off.2 }, off.1)

  -- one slot more
  pub awaited : (g q p : ℕ) (v w : WaitView C) (heeds : Bool) (before more : List Made) (earlier sleep : List wait.Made) → w ≡ stands v [] (target_past q v.target) heeds earlier → p ≡ q
      → AwaitsBelow (number_of v.own) g v.target q before earlier → AwaitsSlot (number_of w.own) g p w.target more sleep → AwaitsBelow (number_of v.own) g v.target (q + 1) (before ++ more) (earlier ++ sleep)
  awaited g q p v w heeds before more earlier sleep was at below one =
      let here : AwaitsSlot (number_of v.own) g q (target_past q v.target) more sleep = subst {A = ℕ × ℕ × Option ℕ} (λ y. AwaitsSlot y.0 g y.1 y.2 more sleep) {x = (number_of w.own, p, w.target)} {y = (number_of v.own, q, target_past q v.target)} (λ i. (number_of (was i).own, at i, (was i).target)) one in
      let e : suc q ≡ q + 1 = omega arith in
      subst (λ (n : ℕ). AwaitsBelow (number_of v.own) g v.target n (before ++ more) (earlier ++ sleep)) e (before, more, earlier, sleep, refl, refl, below, here)

  pub stands_past : (q : ℕ) (v w x : WaitView C) (heeds ends : Bool) (earlier sleep : List wait.Made) → w ≡ stands v [] (target_past q v.target) heeds earlier → x ≡ stands w [] None ends sleep → x ≡ stands v [] (target_past (q + 1) v.target) ends (earlier ++ sleep)
  stands_past q v w x heeds ends earlier sleep was is =
      let e : suc q ≡ q + 1 = omega arith in stands_through v w x [] [] (target_past q v.target) None heeds ends earlier sleep was is ∙ (λ i. stands v [] (target_past (e i) v.target) ends (earlier ++ sleep))

-- what was read of each slot
read_each : (own g : ℕ) (target : Option ℕ) (n : ℕ) (looks : List Made) (sleeps : List wait.Made) → AwaitsBelow own g target n looks sleeps → (q : ℕ) → q < n → (before after : List Made) × (m : ℕ) × (looks ≡ before ++ look q m ∷ after) × (g ≤ m)
read_each own g target zero looks sleeps below q less = absurd (omega (arith, less))
read_each own g target (suc n) looks sleeps below q less = dite (ℕ_discrete q n)
    (λ is. let one = below.7 in (below.0 ++ one.before, [], one.found, below.4 ∙ (ap (λ (l : List Made). below.0 ++ l) one.looked ∙ (sym (append_assoc below.0 one.before (look n one.found ∷ [])) ∙ ap (λ (p : ℕ). (below.0 ++ one.before) ++ look p one.found ∷ []) (sym is))), one.reached))
    (λ ne. let r = read_each own g target n below.0 below.2 below.6 q (omega (arith, less, ne)) in (r.0, r.1 ++ below.1, r.2, below.4 ∙ (ap (λ (l : List Made). l ++ below.1) r.3 ∙ append_assoc r.0 (look q r.2 ∷ r.1) below.1), r.4))

pub reached : (own g n : ℕ) (target : Option ℕ) (v w : SigView) (looks : List Made) (sleeps : List wait.Made) → w ≡ went v looks v.slot v.absorbed → AwaitsBelow own g target n looks sleeps → (q : ℕ) → q < n → ReadAtLeast g q v w
reached own g n target v w looks sleeps was below q less = let r = read_each own g target n looks sleeps below q less in (r.0, r.1, r.2, ap (λ (u : SigView). u.steps) was ∙ ap (λ (l : List Made). v.steps ++ l) r.3, r.4)

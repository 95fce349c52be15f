-- What a worker does at the table of signals adds up.
use Rattle.std.proofs.Common.{◌≡◌, ◌⊎◌, ℕ, zero, suc, ◌+◌, ◌≤◌, Bool, true, false, ◌||◌, cond, eqb, List, [], ◌∷◌, ◌++◌, refl, sym, ap, ◌∙◌, subst, arith, inl, inr, ⊎_elim, None, Option, Result, Ok, Err, MatchResult}
use Rattle.std.specs.Int.{bit_at}
use Rattle.std.proofs.lemmas.Bool.{ne_eqb, true≢false}
use Rattle.std.proofs.lemmas.List.{append-nil, append_assoc}
use mathlib.Core.Logic.{dite}
use native.Mathlib.Decide.{dec_le}
use Rattle.seat_roster.specs.Roster.{times}
use Rattle.seat_roster.proofs.Numbers.{times_append}
use Rattle.signal_core.specs.Machine.{kinds_below, takes}
use Rattle.signal_core.proofs.AbsorbedKept.{kinds_count}
use Rattle.proc_table.specs.declared.Worn.{Worn}
use Rattle.signal_core.specs.declared.view.Emission.{Emission}
use Rattle.signal_core.specs.declared.view.Made.{Made}
use Rattle.signal_core.specs.declared.view.SigView.{SigView}
use Rattle.signal_core.specs.declared.view.Slot.{Slot}
use Rattle.proc_signal.specs.Signals as emitting
use Rattle.proc_signal.specs.Signals.{IsEmitted, IsWorn}
use Rattle.generation_barrier.specs.declared.outcome.Absorb.{Absorb}
use Rattle.generation_barrier.specs.declared.outcome.Absorb.TheVariants.{Idle, Published, Kept}
use Rattle.generation_barrier.specs.Absorbing as absorbing
use Rattle.generation_barrier.specs.Absorbing.{Answers, Asks, FailsAs, IsIdle, IsKept, IsPublishedNow}
use Rattle.generation_barrier.specs.Waiting.{HasLeft}
use Rattle.join_party.specs.Guards.{stop_shows}
use Rattle.hash_probe.specs.declared.marks.StopOrder.{StopOrder}
use Rattle.hash_probe.specs.Signals.{GoesOn, STOP, StopsAt, TellsOver, order, swaps, takes_order}

pub swaps_append : (xs ys : List Made) → swaps (xs ++ ys) ≡ swaps xs + swaps ys
swaps_append [] ys = omega arith
swaps_append (x ∷ xs) ys = let i = swaps_append xs ys in omega arith

-- looks for signals are never undone
pub swaps_on : (v w : SigView) → GoesOn v w → swaps v.steps ≤ swaps w.steps
swaps_on v w g =
    let all : swaps w.steps ≡ swaps v.steps + swaps g.steps = ap swaps g.made ∙ swaps_append v.steps g.steps in omega arith

pub goes_on : (u v w : SigView) → GoesOn u v → GoesOn v w → GoesOn u w
goes_on u v w a b = record {
  steps = a.steps ++ b.steps;
  kinds = a.kinds ++ b.kinds;
  emitted = a.emitted ++ b.emitted;
  made = b.made ∙ (ap (λ (l : List Made). l ++ b.steps) a.made ∙ append_assoc u.steps a.steps b.steps);
  absorbed = b.absorbed ∙ (ap (λ (l : List ℕ). l ++ b.kinds) a.absorbed ∙ append_assoc u.absorbed a.kinds b.kinds);
  emissions = b.emissions ∙ (ap (λ (l : List Emission). l ++ b.emitted) a.emissions ∙ append_assoc u.emissions a.emitted b.emitted);
  own = b.own ∙ a.own;
  pending = b.pending ∙ a.pending;
  taken = b.taken ∙ a.taken;
  drawn = b.drawn ∙ a.drawn;
}

pub stays_on : (v : SigView) → GoesOn v v
stays_on v = record {
  steps = [];
  kinds = [];
  emitted = [];
  made = sym (append-nil v.steps);
  absorbed = sym (append-nil v.absorbed);
  emissions = sym (append-nil v.emissions);
  own = refl;
  pending = refl;
  taken = refl;
  drawn = refl;
}

-- what was absorbed and emitted stays so
pub stops_before : (g : ℕ) (u v w : SigView) → StopsAt g u v → GoesOn v w → StopsAt g u w
stops_before g u v w s more = record { from = s.from; to = s.to; before = s.before; absorbs = s.absorbs; after = goes_on s.to v w s.after more }

pub stops_after : (g : ℕ) (u v w : SigView) → GoesOn u v → StopsAt g v w → StopsAt g u w
stops_after g u v w first s = record { from = s.from; to = s.to; before = goes_on u v s.from first s.before; absorbs = s.absorbs; after = s.after }

pub tells_before : (procs count : ℕ) (u v w : SigView) → TellsOver procs count u v → GoesOn v w → w.emissions ≡ v.emissions → TellsOver procs count u w
tells_before procs count u v w t more silent = record {
  from = t.from;
  to = t.to;
  before = t.before;
  none_before = t.none_before;
  emits = t.emits;
  after = goes_on t.to v w t.after more;
  none_after = silent ∙ t.none_after;
}

pub tells_after : (procs count : ℕ) (u v w : SigView) → GoesOn u v → v.emissions ≡ u.emissions → TellsOver procs count v w → TellsOver procs count u w
tells_after procs count u v w first silent t = record {
  from = t.from;
  to = t.to;
  before = goes_on u v t.from first t.before;
  none_before = t.none_before ∙ silent;
  emits = t.emits;
  after = t.after;
  none_after = t.none_after;
}

-- an absorption: more steps, of which the first looks for signals
went_on : (v w : SigView) (more : List Made) (t : Option Slot) (ks kinds : List ℕ) → w ≡ absorbing.went v more t ks → ks ≡ v.absorbed ++ kinds → GoesOn v w
went_on v w more t ks kinds is so = record {
  steps = more;
  kinds = kinds;
  emitted = [];
  made = ap (λ (y : SigView). y.steps) is;
  absorbed = ap (λ (y : SigView). y.absorbed) is ∙ so;
  emissions = ap (λ (y : SigView). y.emissions) is ∙ sym (append-nil v.emissions);
  own = ap (λ (y : SigView). y.own) is;
  pending = ap (λ (y : SigView). y.pending) is;
  taken = ap (λ (y : SigView). y.taken) is;
  drawn = ap (λ (y : SigView). y.drawn) is;
}

-- what each absorption says: it looked once, and emitted nothing
pub record Looked (v w : SigView) : Type 0 where
  pub on : GoesOn v w
  pub once : suc (swaps v.steps) ≤ swaps w.steps
  pub silent : w.emissions ≡ v.emissions

looked_by : (v w : SigView) (more : List Made) (t : Option Slot) (ks kinds : List ℕ) → 1 ≤ swaps more → w ≡ absorbing.went v more t ks → ks ≡ v.absorbed ++ kinds → Looked v w
looked_by v w more t ks kinds some is so =
    let all : swaps w.steps ≡ swaps v.steps + swaps more = ap (λ (y : SigView). swaps y.steps) is ∙ swaps_append v.steps more in
    record { on = went_on v w more t ks kinds is so; once = omega arith; silent = ap (λ (y : SigView). y.emissions) is }

module _ {A : Type 0} (meets : A → ℕ → Bool → A → Type 0) (shows : ℕ → ℕ → Type 0) (v w : SigView) (a b : A) where
  looked_idle : (g : ℕ) → IsIdle g v a w b → Looked v w
  looked_idle g i = ⊎_elim
      (λ none. looked_by v w _ v.slot v.absorbed [] (omega arith) none (sym (append-nil v.absorbed)))
      (λ old. looked_by v w _ v.slot v.absorbed [] (omega arith) old.3 (sym (append-nil v.absorbed))) i.read

  pub looked_published : (h : ℕ) → IsPublishedNow meets shows h v a w b → Looked v w
  looked_published h i = looked_by v w _ w.slot _ _ (omega arith) i.view refl

  looked_kept : (failed : ℕ) → IsKept meets shows failed v a w b → Looked v w
  looked_kept failed i = looked_by v w _ v.slot _ _ (omega arith) i.view refl

  pub looked_once : (r : Absorb) → Answers meets shows v a r w b → Looked v w
  looked_once (Idle g) i = looked_idle g i
  looked_once (Published h) i = looked_published h i
  looked_once (Kept failed) i = looked_kept failed i

-- who knows of no STOP was asked for none, and none failed
or_true : (b : Bool) → (b || true) ≡ true
or_true true = refl
or_true false = refl

or_false : (b : Bool) → (b || false) ≡ b
or_false true = refl
or_false false = refl

fails_not : (k : ℕ) (answer : Bool) (before after : ℕ) → answer ≡ true → FailsAs k answer before after → after ≡ before
fails_not k true before after taken fails = fails
fails_not k false before after other fails = absurd (true≢false (sym other))

none_asked : (found n : ℕ) (a : StopOrder) (failed : ℕ) (b : StopOrder) → Asks takes_order found n a failed b → (failed ≡ 0) × (b.stop ≡ false → 1 ≤ n → bit_at found 0 ≡ 0)
none_asked found zero a failed b asked = (asked.0, λ none some. absurd (omega arith))
none_asked found (suc zero) a failed b asked =
    let i = none_asked found zero a asked.1 asked.0 asked.2 in
    ⊎_elim
    (λ kept. (kept.2 ∙ i.0, λ none some. kept.0))
    (λ one. (fails_not zero one.1.0 asked.1 failed one.1.1.0 one.1.2 ∙ i.0, λ none some. absurd (true≢false (sym (one.1.1.1 ∙ or_true asked.0.stop) ∙ none))))
    asked.3
none_asked found (suc (suc n)) a failed b asked =
    let i = none_asked found (suc n) a asked.1 asked.0 asked.2 in
    ⊎_elim
    (λ kept. (kept.2 ∙ i.0, λ none some. i.1 (ap (λ (s : StopOrder). s.stop) (sym kept.1) ∙ none) (omega arith)))
    (λ one. (fails_not (suc n) one.1.0 asked.1 failed one.1.1.0 one.1.2 ∙ i.0, λ none some. i.1 (sym (one.1.1.1 ∙ (ap (λ (x : Bool). asked.0.stop || x) (ne_eqb (suc n) STOP (λ e. absurd (omega arith))) ∙ or_false asked.0.stop)) ∙ none) (omega arith)))
    asked.3

-- a kind that wasn't in the mask isn't absorbed
cond_most : (b : Bool) (x : ℕ) → cond b x 0 ≤ x
cond_most true x = omega arith
cond_most false x = omega arith

no_kinds : (found : ℕ) → bit_at found 0 ≡ 0 → times STOP (kinds_below 32 (takes found 0)) ≡ 0
no_kinds found none = dite (dec_le 1 (times STOP (kinds_below 32 (takes found 0))))
    (λ some. let one = kinds_count STOP 32 (takes found 0) some in let most = cond_most (eqb (bit_at 0 0) 0) (bit_at found 0) in absurd (omega arith))
    (λ zero. omega arith)

pub unheard_else : (v w : SigView) (b : StopOrder) (r : Absorb) → ((g : ℕ) → r ≡ Published g → ⊥) → Answers takes_order stop_shows v (order false) r w b → times STOP w.absorbed ≡ times STOP v.absorbed
unheard_else v w b (Idle g) else i = ⊎_elim (λ none. ap (λ (y : SigView). times STOP y.absorbed) none) (λ old. ap (λ (y : SigView). times STOP y.absorbed) old.3) i.read
unheard_else v w b (Published g) else i = absurd (else g refl)
unheard_else v w b (Kept failed) else i = let none = (none_asked i.found 32 (order false) failed b i.asked).0 in let some = i.some in absurd (omega arith)

pub unheard_published : (g : ℕ) (v w : SigView) (b : StopOrder) → IsPublishedNow takes_order stop_shows g v (order false) w b → b.stop ≡ false → times STOP w.absorbed ≡ times STOP v.absorbed
unheard_published g v w b i none =
    let bit = (none_asked i.found 32 (order false) 0 b i.asked).1 none (omega arith) in
    let all : times STOP w.absorbed ≡ times STOP v.absorbed + times STOP (kinds_below 32 (takes i.found 0)) = ap (λ (y : SigView). times STOP y.absorbed) i.view ∙ times_append STOP v.absorbed (kinds_below 32 (takes i.found 0)) in
    let kinds = no_kinds i.found bit in omega arith

-- STOP was absorbed just now
pub stops_now : (g : ℕ) (v w : SigView) (b : StopOrder) → IsPublishedNow takes_order stop_shows g v (order false) w b → b.stop ≡ true → StopsAt g v w
stops_now g v w b absorbs is = record {
  from = v;
  to = w;
  before = stays_on v;
  absorbs = subst (λ (s : Bool). IsPublishedNow takes_order stop_shows g v (order false) w (order s)) is absorbs;
  after = stays_on w;
}

-- an emission, or none since the header is worn
emitted_on : (v w : SigView) (more : List Made) (es more_es : List Emission) → w ≡ emitting.went v more v.slot es → es ≡ v.emissions ++ more_es → GoesOn v w
emitted_on v w more es more_es is so = record {
  steps = more;
  kinds = [];
  emitted = more_es;
  made = ap (λ (y : SigView). y.steps) is;
  absorbed = ap (λ (y : SigView). y.absorbed) is ∙ sym (append-nil v.absorbed);
  emissions = ap (λ (y : SigView). y.emissions) is ∙ so;
  own = ap (λ (y : SigView). y.own) is;
  pending = ap (λ (y : SigView). y.pending) is;
  taken = ap (λ (y : SigView). y.taken) is;
  drawn = ap (λ (y : SigView). y.drawn) is;
}

emits_on : (procs count : ℕ) (v w : SigView) → ((g : ℕ) × IsEmitted procs STOP count v g w) ⊎ ((at : ℕ) × IsWorn STOP count v at w) → GoesOn v w
emits_on procs count v w (inl e) = emitted_on v w _ _ _ e.1.view refl
emits_on procs count v w (inr n) = emitted_on v w _ v.emissions [] n.1.view (sym (append-nil v.emissions))

pub tells_now : (procs count : ℕ) (v w : SigView) (result : Result ℕ Worn) → MatchResult result (λ g. IsEmitted procs STOP count v g w) (λ e. IsWorn STOP count v e.at w) → TellsOver procs count v w
tells_now procs count v w (Ok g) e = record { from = v; to = w; before = stays_on v; none_before = refl; emits = inl (g, e); after = stays_on w; none_after = refl }
tells_now procs count v w (Err n) e = record { from = v; to = w; before = stays_on v; none_before = refl; emits = inr (n.at, e); after = stays_on w; none_after = refl }

pub told_unheard : (procs count : ℕ) (v w : SigView) (result : Result ℕ Worn) → MatchResult result (λ g. IsEmitted procs STOP count v g w) (λ e. IsWorn STOP count v e.at w) → w.absorbed ≡ v.absorbed
told_unheard procs count v w (Ok g) e = ap (λ (y : SigView). y.absorbed) e.view
told_unheard procs count v w (Err n) e = ap (λ (y : SigView). y.absorbed) e.view

pub tells_on : (procs count : ℕ) (v w : SigView) → TellsOver procs count v w → GoesOn v w
tells_on procs count v w t = goes_on v t.to w (goes_on v t.from t.to t.before (emits_on procs count t.from t.to t.emits)) t.after

-- the slot was left
pub left_on : (v w : SigView) → HasLeft v w → GoesOn v w × (w.emissions ≡ v.emissions)
left_on v w l = (went_on v w _ None v.absorbed [] l.view (sym (append-nil v.absorbed)), ap (λ (y : SigView). y.emissions) l.view)

-- What a worker has to say adds up.
use Rattle.std.proofs.Common.{◌≡◌, ℕ, List, [], ◌∷◌, ◌++◌, refl, sym, ap, ◌∙◌, arith, inl, inr, Some, Option}
use Rattle.std.proofs.lemmas.List.{append_assoc, length-append}
use Rattle.std.proofs.lemmas.Option.{none-some}
use Rattle.seat_roster.specs.Roster.{times}
use Rattle.signal_core.specs.declared.view.SigView.{SigView}
use Rattle.join_law.specs.declared.view.Probed as row
use Rattle.join_party.specs.declared.party.HashParty.{HashParty}
use Rattle.hash_probe.specs.declared.Probed.{Probed}
use Rattle.hash_probe.specs.Marks.{CarriesOver, Says, SaysOver, SaysStopped}
use Rattle.generation_barrier.specs.Waiting.{HasLeft}
use Rattle.hash_probe.specs.Signals.{GoesOn, STOP, StopsAt}
use Rattle.hash_probe.proofs.Signals.{Looked, goes_on, left_on, stays_on, stops_after, stops_before, tells_after, tells_before}

module _ (p : HashParty) (procs : ℕ) where
  carries_before : (rows later : List row.Probed) (count : ℕ) (u v w : SigView) → CarriesOver p procs rows count u v → GoesOn v w → w.emissions ≡ v.emissions → CarriesOver p procs (later ++ rows) count u w
  carries_before rows later count u v w c more silent = record {
    past = c.past;
    all = c.all;
    by = c.by;
    later = later ++ c.later;
    earlier = c.earlier;
    among = ap (λ (l : List row.Probed). later ++ l) c.among ∙ sym (append_assoc later c.later (c.by ∷ c.earlier));
    carried = c.carried;
    tells = tells_before procs count u v w c.tells more silent;
  }

  carries_after : (rows later : List row.Probed) (count : ℕ) (u v w : SigView) → GoesOn u v → v.emissions ≡ u.emissions → CarriesOver p procs later count v w → CarriesOver p procs (later ++ rows) count u w
  carries_after rows later count u v w first silent c = record {
    past = c.past;
    all = c.all;
    by = c.by;
    later = c.later;
    earlier = c.earlier ++ rows;
    among = ap (λ (l : List row.Probed). l ++ rows) c.among ∙ append_assoc c.later (c.by ∷ c.earlier) rows;
    carried = c.carried;
    tells = tells_after procs count u v w first silent c.tells;
  }

  over_on : (rows later : List row.Probed) (k m n : Option ℕ) (u v w : SigView) → GoesOn u v → GoesOn v w → SaysOver p procs rows k m u v → SaysOver p procs later m n v w → SaysOver p procs (later ++ rows) k n u w
  over_on rows later k m n u v w a b (inl x) (inl y) = inl (y.0 ∙ x.0, y.1 ∙ x.1)
  over_on rows later k m n u v w a b (inr x) (inl y) = inr (x.0, x.1, y.0 ∙ x.2, carries_before rows later x.1 u v w x.3 b y.1)
  over_on rows later k m n u v w a b (inl x) (inr y) = inr (sym x.0 ∙ y.0, y.1, y.2, carries_after rows later y.1 u v w a x.1 y.3)
  over_on rows later k m n u v w a b (inr x) (inr y) = absurd (none-some x.1 (sym y.0 ∙ x.2))

  stopped_on : (k m n : Option ℕ) (u v w : SigView) → GoesOn u v → GoesOn v w → SaysStopped k m u v → SaysStopped m n v w → SaysStopped k n u w
  stopped_on k m n u v w a b (inl x) (inl y) = inl (y ∙ x)
  stopped_on k m n u v w a b (inr x) (inl y) = inr (x.0, y ∙ x.1, stops_before x.0 u v w x.2 b)
  stopped_on k m n u v w a b x (inr y) = inr (y.0, y.1, stops_after y.0 u v w a y.2)

  pub says_on : (rows later : List row.Probed) (given after : List ℕ) (k m n : Probed) (u v w : SigView) → Says p procs rows given k m u v → Says p procs later after m n v w → Says p procs (later ++ rows) (after ++ given) k n u w
  says_on rows later given after k m n u v w x y =
      let first = x.count in
      let second = y.count in
      let all = length-append later rows in
      record {
        count = omega arith;
        on = goes_on u v w x.on y.on;
        over = over_on rows later k.over m.over n.over u v w x.on y.on x.over y.over;
        stopped = stopped_on k.stopped m.stopped n.stopped u v w x.on y.on x.stopped y.stopped;
        unmarked = λ none.
            let b = y.unmarked none in
            let a = x.unmarked b.1 in
            (ap (λ (l : List ℕ). l ++ given) b.0 ∙ a.0, a.1);
        heard = λ none.
            let b = y.heard none in
            let a = x.heard b.0 in
            (a.0, b.1 ∙ a.1);
      }

  -- where nothing was done there is nothing more to say
  pub says_none : (m : Probed) (v : SigView) → Says p procs [] [] m m v v
  says_none m v = record { count = omega arith; on = stays_on v; over = inl (refl, refl); stopped = inl refl; unmarked = λ none. (refl, none); heard = λ none. (none, refl) }

  -- where it heard nothing, and where it absorbed STOP
  pub says_looked : (m : Probed) (v w : SigView) → Looked v w → times STOP w.absorbed ≡ times STOP v.absorbed → Says p procs [] [] m m v w
  says_looked m v w l unheard = record { count = omega arith; on = l.on; over = inl (refl, l.silent); stopped = inl refl; unmarked = λ none. (refl, none); heard = λ none. (none, unheard) }

  pub says_stopped : (m : Probed) (g : ℕ) (v w : SigView) → Looked v w → StopsAt g v w → Says p procs [] [] m (record m { stopped = Some g }) v w
  says_stopped m g v w l s = record { count = omega arith; on = l.on; over = inl (refl, l.silent); stopped = inr (g, refl, s); unmarked = λ none. absurd (none-some g (sym none.1)); heard = λ none. absurd (none-some g (sym none)) }

  -- where it left
  pub says_left : (m : Probed) (v w : SigView) → HasLeft v w → Says p procs [] [] m m v w
  says_left m v w l = let g = left_on v w l in record { count = omega arith; on = g.0; over = inl (refl, g.1); stopped = inl refl; unmarked = λ none. (refl, none); heard = λ none. (none, ap (λ (y : SigView). times STOP y.absorbed) l.view) }

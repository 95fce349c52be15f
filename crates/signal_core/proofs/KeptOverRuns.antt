-- Every emission up to the published generation was absorbed, in any run.
use Rattle.std.proofs.Common.{◌≡◌, ◌≢◌, ◌⊎◌, ℕ, ◌+◌, ◌<◌, ◌≤◌, eqb, Bool, true, false, cond, List, [], ◌∷◌, ◌++◌, map, length, get_or, set, Option, None, Some, refl, sym, ap, ◌∙◌, subst, ⊎_elim, inl, inr, arith, get_or-set_same, get_or-set_other}
use mathlib.Core.Logic.{dite}
use native.Mathlib.Decide.{ℕ_discrete}
use mathlib.Core.Option as maybe
use lib.ListN.{get_elem?}
use lib.Seq.{map-set}
use Rattle.std.proofs.lemmas.List.{map-append}
use Rattle.atomic_table.proofs.Lists.{at_set, at_map}
use Rattle.std.specs.Int.{bit_at}
use Rattle.seat_roster.proofs.Totals.{total_set}
use Rattle.seat_roster.proofs.Stretches.{unseen}
use Rattle.signal_core.specs.declared.step.SigStep.{SigStep}
use Rattle.signal_core.specs.declared.step.SigStep.TheVariants.{Hadd, Mor, Mswap}
use Rattle.signal_core.specs.declared.view.About.{About}
use Rattle.signal_core.specs.declared.view.SigView.{SigView}
use Rattle.signal_core.specs.Words.{header_at, mask_at}
use Rattle.signal_core.specs.Machine.{SigState, Place, number_of, word_of, becomes, next, place_after, slot_after, taken_by, Permits}
use Rattle.signal_core.specs.Seating.{Stance, stance_of, with_drawn, stays, comes, took_in, spent_view, idle}
use Rattle.signal_core.specs.Places.{swapped_at}
use Rattle.signal_core.specs.Rule.{Rule}
use Rattle.signal_core.specs.Runs.{Deed, machine, draw, seat, join, Deeds, Steps, Runs}
use Rattle.signal_core.specs.Kept.{Takes, Clears, OneOf, Somewhere, EmissionsAreKept}
use Rattle.signal_core.proofs.Bits.{mask_has}
use Rattle.signal_core.proofs.Effects.{turned}
use Rattle.signal_core.proofs.Moves.{Move}
use Rattle.signal_core.proofs.GenerationsKept.{total_lone}
use Rattle.signal_core.proofs.RuleKept.{the_move, low_slot, low_swap}
use Rattle.signal_core.proofs.SeatsKept.{Agree, SameSeats, seats_are, seats_more, seats_joined}
use Rattle.signal_core.proofs.RunsKept.{step_holds, run_holds}
use Rattle.signal_core.proofs.Standing.{waits, untaken, of_slot, waiting, Stands, Due, slot_mine, slot_else, slot_none, mask_stays, posts_inside, IsClear, own_stands, OwnDue, own_due}

some_same : (a b : ℕ) (o : Option ℕ) → o ≡ Some a → o ≡ Some b → a ≡ b
some_same a b o x y = let e : Some a ≡ Some b = sym x ∙ y in cc

-- A STEP of one seat
module _ (shows : ℕ → ℕ → Type 0) (z : About) (words : List ℕ) (seats : List Stance) (x : SigStep) (o id n : ℕ) (v : Stance) (m : Move shows z words seats x o id n v) (s k : ℕ) where
  abbrev now : List ℕ
  now = set words (word_of o x) (becomes x n)

  abbrev later : List Stance
  later = set seats id (turned z x n v)

  sum : waiting s k later + of_slot s v.own (waits k v.place) ≡ waiting s k seats + of_slot s v.own (waits k (place_after z x n v.place))
  sum = total_set (λ (c : Stance). of_slot s c.own (waits k c.place)) seats id v (turned z x n v) m.at

  -- the seat has the number s, and the step takes the kind or clears the mask
  abbrev Ends : Type 0
  Ends = (o ≡ s) × ((1 ≤ taken_by x v.place k) ⊎ IsClear x)

  own_sum : o ≡ s → waiting s k seats ≡ waits k v.place
  own_sum e = total_lone (λ (c : Stance). of_slot s c.own (waits k c.place)) seats id v m.at (λ j u at ne. slot_none s u.own (waits k u.place) (λ own. ne (m.alone j u at (own ∙ ap Some (sym e))))) ∙ slot_mine s v.own (waits k v.place) (m.own ∙ ap Some e)

  pub stands_on : Stands s k words seats → Stands s k now later ⊎ Ends
  stands_on h = dite (ℕ_discrete o s)
      (λ e. let a = own_sum e in let b : bit_at (get_or words (mask_at o) 0) k ≡ bit_at (get_or words (mask_at s) 0) k = ap (λ c. bit_at (get_or words (mask_at c) 0) k) e in
      let c : bit_at (get_or now (mask_at o) 0) k ≡ bit_at (get_or now (mask_at s) 0) k = ap (λ c. bit_at (get_or now (mask_at c) 0) k) e in
      let p = slot_mine s v.own (waits k v.place) (m.own ∙ ap Some e) in let q = slot_mine s v.own (waits k (place_after z x n v.place)) (m.own ∙ ap Some e) in let all = sum in
      ⊎_elim (⊎_elim (λ some. inl (omega arith)) (λ takes. inr (e, inl takes))) (λ clear. inr (e, inr clear)) (own_stands shows z words o x n k v.slot v.place m.below m.wide m.is m.ok (omega arith)))
      (λ ne. inl (let a = mask_stays words z o x n s k m.is m.wide (posts_inside shows z (Some o) v.slot v.place x m.ok) (λ e c is. ne (sym e)) in
      let p = slot_else s o v.own (waits k v.place) m.own ne in let q = slot_else s o v.own (waits k (place_after z x n v.place)) m.own ne in let all = sum in omega arith))

  pub due_on : (number : ℕ) → Due s k number words seats → Due s k number now later ⊎ Ends
  due_on number h = ⊎_elim
      (λ (stands : Stands s k now later). dite (ℕ_discrete o s)
      (λ e. dite (ℕ_discrete (taken_by x v.place k) 0)
      (λ none. inl (goes stands (λ is. own_due shows z words o x n k number v.slot v.place m.is m.fits m.ok (λ some. omega arith)
      (let a = own_sum e in let b : bit_at (get_or words (mask_at o) 0) k ≡ bit_at (get_or words (mask_at s) 0) k = ap (λ c. bit_at (get_or words (mask_at c) 0) k) e in let c = h.stands in omega arith)
      (λ r slot more. (λ g swap up. h.swapped id g v r m.at (m.own ∙ ap Some e) slot swap more up, λ up. h.unpublished id v r m.at (m.own ∙ ap Some e) slot more up)))))
      (λ some. inr (e, inl (omega arith))))
      (λ ne. inl (goes stands (λ is. absurd (ne is)))))
      (λ (ends : Ends). inr ends)
      (stands_on h.stands)
    where
      goes : Stands s k now later → (o ≡ s → OwnDue k number (slot_after x v.place v.slot) (place_after z x n v.place)) → Due s k number now later
      goes stands mine = record {
        stands = stands;
        swapped = λ j g u t e own slot swap more up. ⊎_elim
            (λ (y : (j ≡ id) × (turned z x n v ≡ u)). let is : o ≡ s = some_same o s u.own (ap (λ (c : Stance). c.own) (sym y.1) ∙ m.own) own in
            let a = (mine is t (ap (λ (c : Stance). c.slot) y.1 ∙ slot) more).0 g (ap (λ (c : Stance). swapped_at c.place) y.1 ∙ swap) up in
            let b : untaken k (place_after z x n v.place) ≡ untaken k u.place = ap (λ (c : Stance). untaken k c.place) y.1 in omega arith)
            (λ (y : (j ≢ id) × (get_elem? seats j ≡ maybe.some u)). h.swapped j g u t y.1 own slot swap more up)
            (at_set seats id j (turned z x n v) u e);
        unpublished = λ j u t e own slot more up. ⊎_elim
            (λ (y : (j ≡ id) × (turned z x n v ≡ u)). let is : o ≡ s = some_same o s u.own (ap (λ (c : Stance). c.own) (sym y.1) ∙ m.own) own in (mine is t (ap (λ (c : Stance). c.slot) y.1 ∙ slot) more).1 up)
            (λ (y : (j ≢ id) × (get_elem? seats j ≡ maybe.some u)). h.unpublished j u t y.1 own slot more up)
            (at_set seats id j (turned z x n v) u e);
      }

-- SEATS that come and go
module _ (words new : List ℕ) (seats later : List Stance) (agree : Agree words new) (same : SameSeats seats later) (s k : ℕ) where
  sum_same : waiting s k later ≡ waiting s k seats
  sum_same = same.sums (λ own p t. of_slot s own (waits k p)) none
    where
      none : (own : Option ℕ) → of_slot s own 0 ≡ 0
      none None = refl
      none (Some p) = by_case (eqb p s)
        where
          by_case : (b : Bool) → cond {A = ℕ} b 0 0 ≡ 0
          by_case true = refl
          by_case false = refl

  stands_same : Stands s k words seats → Stands s k new later
  stands_same h = let a = sum_same in let b : bit_at (get_or new (mask_at s) 0) k ≡ bit_at (get_or words (mask_at s) 0) k = ap (λ n. bit_at n k) (agree (mask_at s) (omega arith)) in omega arith

  due_same : (number : ℕ) → Due s k number words seats → Due s k number new later
  due_same number h = record {
    stands = stands_same h.stands;
    swapped = λ j g u t e own slot swap more up. ⊎_elim
        (λ (y : (u.place ≡ None) × (u.slot ≡ None)). absurd (let a : None ≡ Some t = sym y.1 ∙ slot in cc))
        (λ (y : (i : ℕ) × (w : Stance) × (get_elem? seats i ≡ maybe.some w) × (w.own ≡ u.own) × (w.place ≡ u.place) × (w.slot ≡ u.slot)). let a = h.swapped y.0 g y.1 t y.2 (y.3 ∙ own) (y.5 ∙ slot) (ap swapped_at y.4 ∙ swap) more up in let b : untaken k y.1.place ≡ untaken k u.place = ap (untaken k) y.4 in omega arith)
        (same.from j u e);
    unpublished = λ j u t e own slot more up. ⊎_elim
        (λ (y : (u.place ≡ None) × (u.slot ≡ None)). absurd (let a : None ≡ Some t = sym y.1 ∙ slot in cc))
        (λ (y : (i : ℕ) × (w : Stance) × (get_elem? seats i ≡ maybe.some w) × (w.own ≡ u.own) × (w.place ≡ u.place) × (w.slot ≡ u.slot)). h.unpublished y.0 y.1 t y.2 (y.3 ∙ own) (y.5 ∙ slot) more up)
        (same.from j u e);
  }

module _ (s : SigState) where
  same_draw : (id : ℕ) (v : SigView) → get_elem? s.views id ≡ maybe.some v → SameSeats (map stance_of s.views) (map stance_of (set s.views id (with_drawn v)))
  same_draw id v at = seats_are _ _ (unseen stance_of s.views id v (with_drawn v) at refl)

  same_seat : (id : ℕ) (v : SigView) → get_elem? s.views id ≡ maybe.some v → SameSeats (map stance_of s.views) (map stance_of (set s.views id (stays v) ++ comes v ∷ []))
  same_seat id v at = subst (SameSeats (map stance_of s.views)) (sym (map-append stance_of (set s.views id (stays v)) (comes v ∷ []) ∙ ap (λ (l : List Stance). l ++ idle v.pending [] ∷ []) (unseen stance_of s.views id v (stays v) at refl))) (seats_more (map stance_of s.views) v.pending)

  same_join : (id other : ℕ) (v w : SigView) → get_elem? s.views id ≡ maybe.some v → get_elem? s.views other ≡ maybe.some w → (other ≡ id → ⊥) → (v.own ≡ None → ⊥) → w.place ≡ None → w.slot ≡ None → SameSeats (map stance_of s.views) (map stance_of (set (set s.views id (took_in v w)) other spent_view))
  same_join id other v w at there apart mine free left = subst (SameSeats (map stance_of s.views)) (sym (map-set stance_of (set s.views id (took_in v w)) other spent_view ∙ ap (λ (l : List Stance). set l other (stance_of spent_view)) (map-set stance_of s.views id (took_in v w))))
      (seats_joined (map stance_of s.views) id other (stance_of v) (stance_of w) (at_map stance_of s.views id v at) (at_map stance_of s.views other w there) apart mine free left)

-- EVENTS, of states
module _ (shows : ℕ → ℕ → Type 0) (z : About) (s k : ℕ) where
  abbrev StandsIn : SigState → Type 0
  StandsIn a = Stands s k a.words (map stance_of a.views)

  abbrev DueIn : ℕ → SigState → Type 0
  DueIn number a = Due s k number a.words (map stance_of a.views)

  ended : (own : Option ℕ) (o id : ℕ) (x : SigStep) (v : SigView) → v.own ≡ Some o → (o ≡ s) × ((1 ≤ taken_by x v.place k) ⊎ IsClear x) → OneOf (Takes s k) (Clears s) id v (machine x)
  ended own o id x v mine h = ⊎_elim (λ takes. inl (mine ∙ ap Some h.0, takes)) (λ clear. inr (cleared x clear)) h.1
    where
      cleared : (x : SigStep) → IsClear x → Clears s id v (machine x)
      cleared (Mswap (Some c)) tt_is = mine ∙ ap Some h.0
      cleared x none = absurd none

  -- whatever a step of the machine keeps of words and stances, or ends
  machine_event : (P : List ℕ → List Stance → Type 0) (a b : SigState) (id : ℕ) (v : SigView) (o : ℕ) → Rule shows z a → get_elem? a.views id ≡ maybe.some v → v.own ≡ Some o → (x : SigStep) → Deeds shows z a id v (machine x) b
      → ((m : Move shows z a.words (map stance_of a.views) x o id (get_or a.words (word_of o x) 0) (stance_of v)) → P (set a.words (word_of o x) (becomes x (get_or a.words (word_of o x) 0))) (set (map stance_of a.views) id (turned z x (get_or a.words (word_of o x) 0) (stance_of v))) ⊎ ((o ≡ s) × ((1 ≤ taken_by x v.place k) ⊎ IsClear x)))
      → P b.words (map stance_of b.views) ⊎ OneOf (Takes s k) (Clears s) id v (machine x)
  machine_event P a b id v o r at own x d law =
      let n : ℕ = get_or a.words (word_of o x) 0 in
      let m = the_move shows z a r id v o at own x (subst (λ (y : Option ℕ). Permits shows z x y v.slot v.place) own d.0) in ⊎_elim
      (λ (kept : P (set a.words (word_of o x) (becomes x n)) (set (map stance_of a.views) id (turned z x n (stance_of v)))). inl (subst (λ (c : SigState). P c.words (map stance_of c.views)) (sym d.1)
      (subst (λ (y : ℕ). P (set a.words (word_of y x) (becomes x (get_or a.words (word_of y x) 0))) (map stance_of (set a.views id (next z x v (get_or a.words (word_of y x) 0))))) (sym (ap number_of own))
      (subst (P (set a.words (word_of o x) (becomes x n))) (sym (map-set stance_of a.views id (next z x v n))) kept))))
      (λ ends. inr (ended v.own o id x v own ends))
      (law m)

  deed_stands : (a b : SigState) (id : ℕ) (v : SigView) (o : ℕ) → Rule shows z a → get_elem? a.views id ≡ maybe.some v → v.own ≡ Some o → (d : Deed) → Deeds shows z a id v d b → StandsIn a → StandsIn b ⊎ OneOf (Takes s k) (Clears s) id v d
  deed_stands a b id v o r at own (machine x) d h = machine_event (Stands s k) a b id v o r at own x d (λ m. stands_on shows z a.words (map stance_of a.views) x o id (get_or a.words (word_of o x) 0) (stance_of v) m s k h)
  deed_stands a b id v o r at own draw d h = inl (subst StandsIn (sym d.3) (stands_same a.words (set a.words 0 (get_or a.words 0 0 + 1)) _ _ (λ i some. get_or-set_other a.words 0 i _ 0 (λ e. omega arith)) (same_draw a id v at) s k h))
  deed_stands a b id v o r at own seat d h = inl (subst StandsIn (sym d.1) (stands_same a.words a.words _ _ (λ i some. refl) (same_seat a id v at) s k h))
  deed_stands a b id v o r at own (join other) d h = inl (subst StandsIn (sym d.6) (stands_same a.words a.words _ _ (λ i some. refl) (same_join a id other v d.0 at d.1 d.2 (λ none. let e : None ≡ Some o = sym none ∙ own in absurd (cc)) d.3 d.4) s k h))

  deed_due : (number : ℕ) (a b : SigState) (id : ℕ) (v : SigView) (o : ℕ) → Rule shows z a → get_elem? a.views id ≡ maybe.some v → v.own ≡ Some o → (d : Deed) → Deeds shows z a id v d b → DueIn number a → DueIn number b ⊎ OneOf (Takes s k) (Clears s) id v d
  deed_due number a b id v o r at own (machine x) d h = machine_event (Due s k number) a b id v o r at own x d (λ m. due_on shows z a.words (map stance_of a.views) x o id (get_or a.words (word_of o x) 0) (stance_of v) m s k number h)
  deed_due number a b id v o r at own draw d h = inl (subst (DueIn number) (sym d.3) (due_same a.words (set a.words 0 (get_or a.words 0 0 + 1)) _ _ (λ i some. get_or-set_other a.words 0 i _ 0 (λ e. omega arith)) (same_draw a id v at) s k number h))
  deed_due number a b id v o r at own seat d h = inl (subst (DueIn number) (sym d.1) (due_same a.words a.words _ _ (λ i some. refl) (same_seat a id v at) s k number h))
  deed_due number a b id v o r at own (join other) d h = inl (subst (DueIn number) (sym d.6) (due_same a.words a.words _ _ (λ i some. refl) (same_join a id other v d.0 at d.1 d.2 (λ none. let e : None ≡ Some o = sym none ∙ own in absurd (cc)) d.3 d.4) s k number h))

  -- RUNS
  run_stands : (es : List (ℕ × Deed)) (a b : SigState) → Rule shows z a → (run : Runs shows z a es b) → StandsIn a → StandsIn b ⊎ Somewhere shows z (OneOf (Takes s k) (Clears s)) es a b run
  run_stands [] a b r run h = inl (subst StandsIn (sym run) h)
  run_stands (e ∷ es) a b r run h = ⊎_elim
      (λ (on : StandsIn run.0). ⊎_elim inl (λ later. inr (inr later)) (run_stands es run.0 b (step_holds shows z a run.0 e r run.1) run.2 on))
      (λ ends. inr (inl ends))
      (deed_stands a run.0 e.0 run.1.0 run.1.1 r run.1.2 run.1.3 e.1 run.1.4 h)

  run_due : (number : ℕ) (es : List (ℕ × Deed)) (a b : SigState) → Rule shows z a → (run : Runs shows z a es b) → DueIn number a → DueIn number b ⊎ Somewhere shows z (OneOf (Takes s k) (Clears s)) es a b run
  run_due number [] a b r run h = inl (subst (DueIn number) (sym run) h)
  run_due number (e ∷ es) a b r run h = ⊎_elim
      (λ (on : DueIn number run.0). ⊎_elim inl (λ later. inr (inr later)) (run_due number es run.0 b (step_holds shows z a run.0 e r run.1) run.2 on))
      (λ ends. inr (inl ends))
      (deed_due number a run.0 e.0 run.1.0 run.1.1 r run.1.2 run.1.3 e.1 run.1.4 h)

-- the place after a number was taken is past no swap
numbered_unswapped : (p : Place) → Rattle.signal_core.specs.Machine.MayNumber p → swapped_at (Rattle.signal_core.specs.Machine.numbered p) ≡ None
numbered_unswapped (Some (Rattle.signal_core.specs.declared.view.Frame.TheVariants.Numbering j x)) ok = refl
numbered_unswapped p ok = absurd ok

module _ (shows : ℕ → ℕ → Type 0) (z : About) where
  -- the bit stands after the post
  post_stands : (a b : SigState) (e s k : ℕ) → Rule shows z a → Steps shows z a (e, machine (Mor s k None)) b → StandsIn shows z s k b
  post_stands a b e s k r h = let d = h.4 in let wide : mask_at s < length a.words = (let long = r.sized.long in let inside : s < z.procs = d.0.0 in omega arith) in
      subst (StandsIn shows z s k) (sym d.1) (let one = mask_has a.words s k wide in omega arith)

  -- and after the number was taken it is due
  number_due : (c d : SigState) (e s k : ℕ) → Rule shows z c → Steps shows z c (e, machine Hadd) d → StandsIn shows z s k d → DueIn shows z s k (get_or d.words header_at 0) d
  number_due c d e s k r h stands = record {
    stands = stands;
    swapped = λ j g u t at own slot swap more up. ⊎_elim
        (λ (y : (j ≡ e) × (turned z Hadd n (stance_of v) ≡ u)). absurd (let no_swap = numbered_unswapped v.place ok in let f : None ≡ Some g = sym no_swap ∙ (ap (λ (x : Stance). swapped_at x.place) y.1 ∙ swap) in cc))
        (λ (y : (j ≢ e) × (get_elem? (map stance_of c.views) j ≡ maybe.some u)). absurd (let low = low_swap shows z c r e v o h.2 h.3 j u g y.1 swap in let new = header_is in omega arith))
        (was j u at);
    unpublished = λ j u t at own slot more up. ⊎_elim
        (λ (y : (j ≡ e) × (turned z Hadd n (stance_of v) ≡ u)). let low = low_slot shows z c r e v o h.2 h.3 e (stance_of v) t (at_map stance_of c.views e v h.2) (ap (λ (x : Stance). x.slot) y.1 ∙ slot) in let new = header_is in absurd (omega arith))
        (λ (y : (j ≢ e) × (get_elem? (map stance_of c.views) j ≡ maybe.some u)). let low = low_slot shows z c r e v o h.2 h.3 j u t y.1 slot in let new = header_is in absurd (omega arith))
        (was j u at);
  }
    where
      v : SigView
      v = h.0

      o : ℕ
      o = h.1

      n : ℕ
      n = get_or c.words header_at 0

      ok : Rattle.signal_core.specs.Machine.MayNumber v.place
      ok = h.4.0

      header_is : get_or d.words header_at 0 ≡ n + 1
      header_is = ap (λ (x : SigState). get_or x.words header_at 0) h.4.1 ∙ get_or-set_same c.words header_at (n + 1) 0 (let long = r.sized.long in let some = r.sized.procs in omega arith)

      was : (j : ℕ) (u : Stance) → get_elem? (map stance_of d.views) j ≡ maybe.some u → ((j ≡ e) × (turned z Hadd n (stance_of v) ≡ u)) ⊎ ((j ≢ e) × (get_elem? (map stance_of c.views) j ≡ maybe.some u))
      was j u at = at_set (map stance_of c.views) e j (turned z Hadd n (stance_of v)) u (ap (λ (l : List Stance). get_elem? l j) (sym (map-set stance_of c.views e (next z Hadd v n))) ∙ (ap (λ (x : SigState). get_elem? (map stance_of x.views) j) (sym h.4.1) ∙ at))

  pub emissions_kept : EmissionsAreKept shows z
  emissions_kept a b c d f e s k es fs r posts first own_number number second id v t at own slot more up =
      let rb = step_holds shows z a b (e, machine (Mor s k None)) r posts.0 in let rc = run_holds shows z es b c rb first in let rd = step_holds shows z c d (e, machine Hadd) rc number in ⊎_elim
      (λ (standing : StandsIn shows z s k c). ⊎_elim
      (λ (still : StandsIn shows z s k d). ⊎_elim
      (λ (due : DueIn shows z s k (get_or d.words header_at 0) f). absurd (due.unpublished id (stance_of v) t (at_map stance_of f.views id v at) own slot more up))
      (λ ends. inr ends)
      (run_due shows z s k (get_or d.words header_at 0) fs d f rd second (number_due c d e s k rc number still)))
      (λ (ends : OneOf (Takes s k) (Clears s) e number.0 (machine Hadd)). absurd (⊎_elim (λ (takes : Takes s k e number.0 (machine Hadd)). (let some = takes.1 in absurd (omega arith))) (λ (clear : Clears s e number.0 (machine Hadd)). clear) ends))
      (deed_stands shows z s k c d e number.0 number.1 rc number.2 number.3 (machine Hadd) number.4 standing))
      (λ ends. inl ends)
      (run_stands shows z s k es b c rb first (post_stands a b e s k r posts.0))

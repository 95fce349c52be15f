-- Each turn keeps that who was signalled finds its latch set, or is about to.
use Rattle.std.proofs.Common.{◌≡◌, ◌≢◌, ◌⊎◌, ℕ, ◌+◌, ◌<◌, ◌≤◌, Bool, true, false, cond, List, [], ◌∷◌, ◌++◌, length, get_or, set, Option, None, Some, sym, refl, ap, ◌∙◌, subst, ⊎_elim, inl, inr, arith, get_or-set_other, get_or-set_same}
use mathlib.Core.Logic.{dite}
use mathlib.Core.Option as maybe
use native.Mathlib.Decide.{ℕ_discrete}
use lib.ListN.{get_elem?}
use lib.Seq.{set-get_or}
use Rattle.wait_core.specs.declared.view.Kept.{Kept}
use Rattle.wait_core.specs.declared.view.Size.{Size}
use Rattle.seat_roster.specs.Totals.{total}
use Rattle.seat_roster.specs.Roster.{times}
use Rattle.seat_roster.proofs.Totals.{total_set, total_snoc}
use Rattle.seat_roster.proofs.Numbers.{times_append}
use Rattle.wait_core.specs.Words.{set_at, spin_at, client_base, slots_in}
use Rattle.wait_core.specs.Stances.{Stance, Homes, is_just, both_are, amount_by, times_on, heeds_for, has_popped}
use Rattle.wait_core.specs.SignalIsKept.{SignalReaches, SignalIsKept}
use Rattle.wait_core.proofs.Lists.{head_else, times_joined, times_without}
use Rattle.wait_core.proofs.Turns.{in_hand, IsStill, reads, first, latches, marks, wakes, shuts, client, Sends, returns, stays_listed, joins, leaves, pops, signs, ends, Turn, stays, reaches, resets, takes, frees, idle}
use Rattle.wait_core.proofs.Owning.{just_here, just_else, both_none, amount_same, amount_out, amount_sent, amount_apart, amount_held, Alone, own_counts, own_after, else_after}
use Rattle.wait_core.proofs.SpinInOneHand.{Hands, SpinsAreFlags, one_hand, home_out, sends_hand}

abbrev heeds_of : Stance → Option ℕ
heeds_of v = v.heeds

abbrev own_of : Stance → Option ℕ
own_of v = v.own

abbrev pops_of : Stance → Option ℕ
pops_of v = v.pops

-- what the free of the list of c does to who is signalled
pub record SendsSignals (p c : ℕ) (found left : List ℕ) (v w : Stance) : Type 0 where
  pub own : w.own ≡ v.own
  -- who else leaves the list is popped
  pub popped : (q : ℕ) → p ≢ q → times q found ≤ times q left + is_just q w.pops
  -- where the seat heeds the condition and is off the list, it was so before, or popped itself
  pub mine : 1 ≤ is_just c w.heeds → times p left ≡ 0 → (1 ≤ is_just p w.pops) ⊎ ((1 ≤ is_just c v.heeds) × (times p found ≡ 0))
  pub elsewhere : (x : ℕ) → x ≢ c → is_just x w.heeds ≤ is_just x v.heeds

sends_signals : (p c : ℕ) (found left : List ℕ) (v w : Stance) → Sends p c found left v w → SendsSignals p c found left v w
sends_signals p c found left v w (returns b e still is) = record {
  own = ap own_of is;
  popped = λ q ne. let a = ap (times q) e in omega arith;
  mine = λ heeds none. let h = ap (is_just c) (ap heeds_of is) in let a = ap (times p) e in inr (omega arith, omega arith);
  elsewhere = λ x ne. let h = ap (is_just x) (ap heeds_of is) in omega arith;
}
sends_signals p c found left v w (stays_listed heeds e some is) = record {
  own = ap own_of is;
  popped = λ q ne. let a = ap (times q) e in omega arith;
  mine = λ h none. let a = ap (times p) e in absurd (omega arith);
  elsewhere = λ x ne. by_mark heeds x ne (ap heeds_of is);
}
  where
    by_mark : (b : Bool) (x : ℕ) → x ≢ c → w.heeds ≡ cond b (Some c) None → is_just x w.heeds ≤ is_just x v.heeds
    by_mark true x ne h = let none = just_else x c w.heeds h (λ e. ne (sym e)) in omega arith
    by_mark false x ne h = let none = ap (is_just x) h in omega arith
sends_signals p c found left v w (joins e none is) = record {
  own = ap own_of is;
  popped = λ q ne. let a = ap (times q) e in let b = times_append q found (p ∷ []) in omega arith;
  mine = λ h off. let a = ap (times p) e in let b = times_joined p found in absurd (omega arith);
  elsewhere = λ x ne. let h = just_else x c w.heeds (ap heeds_of is) (λ e. ne (sym e)) in omega arith;
}
sends_signals p c found left v w (leaves e here is) = record {
  own = ap own_of is;
  popped = λ q ne. let a = ap (times q) e in let b = times_without q p found (λ e. ne (sym e)) in omega arith;
  mine = λ heeds off. let h = ap (is_just c) (ap heeds_of is) in absurd (omega arith);
  elsewhere = λ x ne. let h = ap (is_just x) (ap heeds_of is) in omega arith;
}
sends_signals p c found left v w (pops q b e still is) = record {
  own = ap own_of is;
  popped = λ r ne. by_head r;
  mine = λ heeds off. let h = ap (is_just c) (ap heeds_of is) in let a = by_head p in dite (ℕ_discrete q p)
      (λ (same : q ≡ p). let one = just_here p w.pops (ap pops_of is ∙ ap Some same) in inl (omega arith))
      (λ (ne : q ≢ p). let none = just_else p q w.pops (ap pops_of is) ne in inr (omega arith, omega arith));
  elsewhere = λ x ne. let h = ap (is_just x) (ap heeds_of is) in omega arith;
}
  where
    by_head : (r : ℕ) → times r found ≤ times r left + is_just r w.pops
    by_head r = let a = ap (times r) e in let b = ap (is_just r) (ap pops_of is) in omega arith
sends_signals p c found left v w (signs q rest e f none quiet is) = record {
  own = ap own_of is;
  popped = λ r ne. let a = ap (times r) e in let b = ap (times r) f in let d = times_append r rest (p ∷ []) in let g = ap (is_just r) (ap pops_of is) in omega arith;
  mine = λ heeds off. let b = ap (times p) f in let d = times_joined p rest in absurd (omega arith);
  elsewhere = λ x ne. let h = ap (is_just x) (ap heeds_of is) in omega arith;
}
sends_signals p c found left v w (ends e here quiet is) = record {
  own = ap own_of is;
  popped = λ r ne. let a = ap (times r) e in let b = head_else r p ne in omega arith;
  mine = λ heeds off. let h = ap (is_just c) (ap heeds_of is) in let no = ap (is_just c) quiet in absurd (omega arith);
  elsewhere = λ x ne. let h = ap (is_just x) (ap heeds_of is) in omega arith;
}

-- what a word that is no latch becomes, or one that is stored 1, clears no latch
still_latches : (z : Size) (words : List ℕ) (i x : ℕ) → client_base z ≤ length words → IsStill z words i x → (q : ℕ) → q < z.procs → (get_or (set words i x) (set_at q) 0 ≡ get_or words (set_at q) 0) ⊎ (get_or (set words i x) (set_at q) 0 ≡ 1)
still_latches z words i x wide (reads e) q below = inl (ap (λ (n : ℕ). get_or (set words i n) (set_at q) 0) e ∙ ap (λ (l : List ℕ). get_or l (set_at q) 0) (set-get_or words i 0))
still_latches z words i x wide (first e) q below = inl (get_or-set_other words i (set_at q) x 0 (λ is. omega arith))
still_latches z words i x wide (latches p less e one) q below = dite (ℕ_discrete q p)
    (λ (same : q ≡ p). let here : i ≡ set_at q = e ∙ ap set_at (sym same) in inr (ap (λ (j : ℕ). get_or (set words i x) j 0) (sym here) ∙ (get_or-set_same words i x 0 (omega arith) ∙ one)))
    (λ (ne : q ≢ p). inl (get_or-set_other words i (set_at q) x 0 (λ is. ne (omega arith))))
still_latches z words i x wide (marks p less e) q below = inl (get_or-set_other words i (set_at q) x 0 (λ is. omega arith))
still_latches z words i x wide (wakes p less e) q below = inl (get_or-set_other words i (set_at q) x 0 (λ is. omega arith))
still_latches z words i x wide (shuts e) q below = inl (get_or-set_other words i (set_at q) x 0 (λ is. omega arith))
still_latches z words i x wide (client most) q below = inl (get_or-set_other words i (set_at q) x 0 (λ is. omega arith))

module _ (z : Size) (words : List ℕ) (homes : Homes) (seats : List Stance) (wide : client_base z ≤ length words) (flags : SpinsAreFlags z words) (hands : Hands z words homes seats) (alone : Alone seats)
    (was : SignalIsKept z.procs (slots_in z) words homes seats) (id : ℕ) (v : Stance) (at : get_elem? seats id ≡ maybe.some v) (after : Homes) (i x : ℕ) (w : Stance) where
  abbrev Reaches : ℕ → ℕ → Homes → Type 0
  Reaches p y h = SignalReaches p y (set words i x) h (set seats id w)

  -- as many are listed and heed, and no latch is cleared but where somebody popped its backend
  quiet : (p y : ℕ) → p < z.procs → y < slots_in z → (h : Homes) → times_on p y h (set seats id w) ≡ times_on p y homes seats → w.own ≡ v.own → w.heeds ≡ v.heeds
      → ((get_or (set words i x) (set_at p) 0 ≡ get_or words (set_at p) 0) × (is_just p w.pops ≡ is_just p v.pops)) ⊎ (get_or (set words i x) (set_at p) 0 ≡ 1) → Reaches p y h
  quiet p y few below h times own still latch heeds off = ⊎_elim
      (λ (t : (get_or (set words i x) (set_at p) 0 ≡ get_or words (set_at p) 0) × (is_just p w.pops ≡ is_just p v.pops)). let same = t.0 in let pops = t.1 in
      let sum = total_set (heeds_for p y) seats id v w at in let mine : heeds_for p y w ≡ heeds_for p y v = λ j. both_are p y (own j) (still j) in let popped = total_set (has_popped p) seats id v w at in
      let before = was p y few below (omega arith) (omega arith) in omega arith)
      (λ (one : get_or (set words i x) (set_at p) 0 ≡ 1). omega arith) latch

  -- nothing is listed or heeded anew
  unmoved : after ≡ homes → w.hand ≡ v.hand → w.own ≡ v.own → w.heeds ≡ v.heeds
      → ((p : ℕ) → p < z.procs → ((get_or (set words i x) (set_at p) 0 ≡ get_or words (set_at p) 0) × (is_just p w.pops ≡ is_just p v.pops)) ⊎ (get_or (set words i x) (set_at p) 0 ≡ 1))
      → SignalIsKept z.procs (slots_in z) (set words i x) after (set seats id w)
  unmoved stay hand own still latch p y few below = subst (λ (h : Homes). Reaches p y h) (sym stay) (quiet p y few below homes (amount_same homes seats id v w at (times p) refl y hand) own still (latch p few))

  -- the own latch is cleared, and the seat heeds nothing
  cleared : (o : ℕ) → o < z.procs → v.own ≡ Some o → i ≡ set_at o → after ≡ homes → w ≡ record v { heeds = None } → SignalIsKept z.procs (slots_in z) (set words i x) after (set seats id w)
  cleared o less own at_o stay is p y few below = subst (λ (h : Homes). Reaches p y h) (sym stay) (dite (ℕ_discrete o p)
      (λ (same : o ≡ p). λ heeds off. let none : total (heeds_for p y) (set seats id w) ≡ is_just y w.heeds = ap (λ (q : ℕ). total (heeds_for q y) (set seats id w)) (sym same) ∙ own_after seats alone id o v w at own (ap own_of is) heeds_of y in
      let no = ap (is_just y) (ap heeds_of is) in absurd (omega arith))
      (λ (ne : o ≢ p). λ heeds off. let word = get_or-set_other words i (set_at p) x 0 (λ e. ne (omega arith)) in let times = amount_same homes seats id v w at (times p) refl y (ap (λ (u : Stance). u.hand) is) in
      let same = else_after seats alone id o v w at own (ap own_of is) heeds_of y p ne in let popped = total_set (has_popped p) seats id v w at in let pops = ap (is_just p) (ap pops_of is) in
      let before = was p y few below (omega arith) (omega arith) in omega arith))

  -- a list leaves its slot
  taken : (c : ℕ) (k : Kept) → i ≡ spin_at z c → get_elem? homes c ≡ maybe.some (maybe.some k) → after ≡ set homes c maybe.none → v.hand ≡ None → w ≡ record v { hand = in_hand c k.list.items } → SignalIsKept z.procs (slots_in z) (set words i x) after (set seats id w)
  taken c k at_c home goes free is p y few below = subst (λ (h : Homes). Reaches p y h) (sym goes)
      (quiet p y few below (set homes c maybe.none) (amount_out homes seats id v w at (times p) refl y c k home free (ap (λ (u : Stance). u.hand) is)) (ap own_of is) (ap heeds_of is)
      (inl (get_or-set_other words i (set_at p) x 0 (λ e. omega arith), ap (is_just p) (ap pops_of is))))

  -- it goes home
  module _ (o c : ℕ) (found : List ℕ) (k : Kept) (inside : c < slots_in z) (at_c : i ≡ spin_at z c) (own : v.own ≡ Some o) (has : v.hand ≡ in_hand c found) (nobody : v.pops ≡ None) (free : w.hand ≡ None) (facts : SendsSignals o c found k.list.items v w) where
    mine_before : (p y : ℕ) → o ≡ p → total (heeds_for p y) seats ≡ is_just y v.heeds
    mine_before p y is = ap (λ (q : ℕ). total (heeds_for q y) seats) (sym is) ∙ own_counts seats alone id o v w at own facts.own heeds_of y

    mine_after : (p y : ℕ) → o ≡ p → total (heeds_for p y) (set seats id w) ≡ is_just y w.heeds
    mine_after p y is = ap (λ (q : ℕ). total (heeds_for q y) (set seats id w)) (sym is) ∙ own_after seats alone id o v w at own facts.own heeds_of y

    -- the latches stand as they were, and whom the seat popped counts
    counted : (p : ℕ) → p < z.procs → get_or (set words i x) (set_at p) 0 + total (has_popped p) (set seats id w) ≡ get_or words (set_at p) 0 + (total (has_popped p) seats + is_just p w.pops)
    counted p few = let word = get_or-set_other words i (set_at p) x 0 (λ e. omega arith) in let sum = total_set (has_popped p) seats id v w at in let none = ap (is_just p) nobody in omega arith

    sent_here : (p : ℕ) → p < z.procs → Reaches p c (set homes c (maybe.some k))
    sent_here p few heeds off =
        let out = home_out z words homes seats wide flags hands id c v found at inside has in let now = counted p few in
        let moved = amount_sent homes seats id v w at (times p) refl c c found k out has free refl in let before = amount_held (times p) refl homes seats id c v found at (one_hand z words homes seats wide flags hands c inside) out has in
        dite (ℕ_discrete o p)
        (λ (is : o ≡ p). let a = mine_before p c is in let b = mine_after p c is in
        ⊎_elim (λ (self : 1 ≤ is_just p w.pops). omega arith) (λ (t : (1 ≤ is_just c v.heeds) × (times p found ≡ 0)). let h = t.0 in let n = t.1 in let old = was p c few inside (omega arith) (omega arith) in omega arith)
        (subst (λ (q : ℕ). 1 ≤ is_just c w.heeds → times q k.list.items ≡ 0 → (1 ≤ is_just q w.pops) ⊎ ((1 ≤ is_just c v.heeds) × (times q found ≡ 0))) is facts.mine (omega arith) (omega arith)))
        (λ (ne : o ≢ p). let a = else_after seats alone id o v w at own facts.own heeds_of c p ne in let l = facts.popped p ne in dite (ℕ_discrete (times p found) 0)
        (λ (none : times p found ≡ 0). let old = was p c few inside (omega arith) (omega arith) in omega arith) (λ (some : times p found ≢ 0). omega arith))

    sent_apart : (p y : ℕ) → p < z.procs → y < slots_in z → y ≢ c → Reaches p y (set homes c (maybe.some k))
    sent_apart p y few below apart heeds off =
        let now = counted p few in let moved = amount_apart homes seats id v w at (times p) refl y c found (maybe.some k) has free apart in
        let less : total (heeds_for p y) (set seats id w) ≤ total (heeds_for p y) seats = dite (ℕ_discrete o p)
        (λ (is : o ≡ p). let e = facts.elsewhere y apart in let a = mine_before p y is in let b = mine_after p y is in omega arith)
        (λ (ne : o ≢ p). let a = else_after seats alone id o v w at own facts.own heeds_of y p ne in omega arith) in
        let old = was p y few below (omega arith) (omega arith) in omega arith

    sent : after ≡ set homes c (maybe.some k) → SignalIsKept z.procs (slots_in z) (set words i x) after (set seats id w)
    sent goes p y few below = subst (λ (h : Homes). Reaches p y h) (sym goes)
        (dite (ℕ_discrete y c) (λ (e : y ≡ c). subst (λ (j : ℕ). Reaches p j (set homes c (maybe.some k))) (sym e) (sent_here p few)) (λ (apart : y ≢ c). sent_apart p y few below apart))

  pub signals_turn : Turn z words homes after i x v w → SignalIsKept z.procs (slots_in z) (set words i x) after (set seats id w)
  signals_turn (stays still stay is) = unmoved stay (ap (λ (u : Stance). u.hand) is) (ap own_of is) (ap heeds_of is)
      (λ p few. ⊎_elim (λ same. inl (same, ap (is_just p) (ap pops_of is))) (λ one. inr one) (still_latches z words i x wide still p few))
  signals_turn (reaches q less at_q to stay popped is) = unmoved stay (ap (λ (u : Stance). u.hand) is) (ap own_of is) (ap heeds_of is)
      (λ p few. dite (ℕ_discrete p q)
      (λ (same : p ≡ q). let here : i ≡ set_at p = at_q ∙ ap set_at (sym same) in inr (ap (λ (j : ℕ). get_or (set words i x) j 0) (sym here) ∙ (get_or-set_same words i x 0 (omega arith) ∙ to)))
      (λ (ne : p ≢ q). inl (get_or-set_other words i (set_at p) x 0 (λ e. ne (omega arith)), ap (is_just p) (ap pops_of is) ∙ sym (just_else p q v.pops popped (λ e. ne (sym e))))))
  signals_turn (resets p less own at_p to stay is) = cleared p less own at_p stay is
  signals_turn (takes c k inside at_c to clear home goes free is) = taken c k at_c home goes free is
  signals_turn (frees o c found k less inside own at_c to has nobody goes sends) =
      sent o c found k inside at_c own has nobody (sends_hand o c found k.list.items v w sends) (sends_signals o c found k.list.items v w sends) goes

-- a seat comes that is in no call and has no target
pub signals_more : (procs slots : ℕ) (words : List ℕ) (homes : Homes) (seats : List Stance) (own : Option ℕ) → SignalIsKept procs slots words homes seats → SignalIsKept procs slots words homes (seats ++ idle own ∷ [])
signals_more procs slots words homes seats own h p x few below heeds off =
    let sum = total_snoc (amount_by (times p) x) seats (idle own) in let more = total_snoc (heeds_for p x) seats (idle own) in let none = both_none p x own in let popped = total_snoc (has_popped p) seats (idle own) in
    let was = h p x few below (omega arith) (omega arith) in omega arith

-- such a seat becomes another
pub signals_idle : (procs slots : ℕ) (words : List ℕ) (homes : Homes) (seats : List Stance) (id : ℕ) (own new : Option ℕ) → get_elem? seats id ≡ maybe.some (idle own) → SignalIsKept procs slots words homes seats
    → SignalIsKept procs slots words homes (set seats id (idle new))
signals_idle procs slots words homes seats id own new at h p x few below heeds off =
    let sum = total_set (amount_by (times p) x) seats id (idle own) (idle new) at in let more = total_set (heeds_for p x) seats id (idle own) (idle new) at in let none = both_none p x new in
    let popped = total_set (has_popped p) seats id (idle own) (idle new) at in let was = h p x few below (omega arith) (omega arith) in omega arith

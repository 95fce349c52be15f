-- At the end of a join: one seat has taken in all others, and found that nothing is left. Then each outer row with a key is probed, once.
use Rattle.std.proofs.Common.{◌≡◌, ◌⊎◌, ℕ, zero, suc, ◌+◌, ◌<◌, ◌≤◌, true, List, [], ◌∷◌, get_or, refl, sym, ap, ◌∙◌, subst, arith, inl, inr, ⊎_elim, Some, None, Option}
use Rattle.std.proofs.lemmas.Option.{none-some}
use mathlib.Core.Option as maybe
use mathlib.Core.Logic.{dite}
use native.Mathlib.Decide.{ℕ_discrete}
use lib.ListN.{get_elem?}
use Rattle.seat_roster.specs.Totals.{total}
use Rattle.seat_roster.specs.Roster.{times}
use Rattle.seat_roster.proofs.Totals.{total_none}
use Rattle.wait_core.specs.Parties.{now, phase_of}
use Rattle.join_law.specs.declared.view.Known.{Known}
use Rattle.join_law.specs.Layout.{Join, Memory, sizes_of, rows, outer_no}
use Rattle.join_law.specs.Routes.{batch_of}
use Rattle.join_law.specs.Phases.{RUN}
use Rattle.join_law.specs.Views.{View, held, unclaimed, below, probed_rows}
use Rattle.join_law.specs.Stands.{at_head, Listed, There, Parts, LeftOver}
use Rattle.join_law.proofs.Heads.{batch_below}
use Rattle.join_law.proofs.Results.{probed_at}
use Rattle.join_end.specs.Ends.{Ended, OthersLeft}

-- a total to which one member alone adds
total_alone : {A : Type 0} (f : A → ℕ) (l : List A) (id : ℕ) (v : A) → get_elem? l id ≡ maybe.some v → ((k : ℕ) (u : A) → (k ≡ id → ⊥) → get_elem? l k ≡ maybe.some u → f u ≡ 0) → total f l ≡ f v
total_alone f [] id v at none = absurd (maybe.some-ne-none v (sym at))
total_alone f (x ∷ xs) zero v at none =
    let is : f x ≡ f v = ap f (maybe.some-injective x v at) in
    let r = total_none f xs (λ k u e. none (suc k) u (λ h. absurd (omega arith)) e) in omega arith
total_alone f (x ∷ xs) (suc id) v at none =
    let z = none 0 x (λ h. absurd (omega arith)) refl in
    let r = total_alone f xs id v at (λ k u ne e. none (suc k) u (λ h. ne (let same : k ≡ id = omega arith in same)) e) in omega arith

module _ (j : Join) (m : Memory) (lists : List (List ℕ)) (growth : Option (ℕ × ℕ)) (views : List View) (phases : List ℕ) (p : Parts j m lists growth views phases) (left : LeftOver views)
    (id : ℕ) (v : View) (at : There views id v) (free : v.attached ≡ []) (others : OthersLeft views id) where
  -- the others hold nothing
  alone : (r : ℕ) → total (held r) views ≡ held r v
  alone r = total_alone (held r) views id v at (λ k u ne there. ap (λ c. times r c.hand + times r c.aside + times r c.given + times r (probed_rows c.probed)) (left.spent k u there (others k u ne there)))

  away : (bar ph : ℕ) → phase_of v.attached bar ≡ Some ph → ⊥
  away bar ph e = none-some ph (sym (ap (λ a. phase_of a bar) free) ∙ e)

  -- nor has it a row in hand itself, where it is attached to nothing
  no_hand : (r : ℕ) → j.inner ≤ r → times r v.client.hand ≡ 0
  no_hand r outer = dite (ℕ_discrete (times r v.client.hand) 0) (λ e. e)
      (λ ne. ⊎_elim (λ o. absurd (away 0 3 o.0)) (λ o. absurd (away 0 RUN (o.2).0)) (p.hands.outer id v at r (omega arith) outer))

  -- a row with a key isn't set aside
  not_aside : (r x : ℕ) → j.hash r ≡ Some x → times r v.client.aside ≡ 0
  not_aside r x key = dite (ℕ_discrete (times r v.client.aside) 0) (λ e. e) (λ ne. absurd (none-some x (sym (p.gone.aside id v at r (omega arith)) ∙ key)))

  unlisted_total : (r : ℕ) → ((h : ℕ) → Listed lists h r → ⊥) → total (times r) lists ≡ 0
  unlisted_total r none = total_none (times r) lists (λ i l e. dite (ℕ_discrete (times r l) 0) (λ z. z) (λ ne. absurd (none i (subst (λ (q : List ℕ). 1 ≤ times r q) (sym (get_at lists i l e)) (omega arith)))))
    where
      get_at : (ls : List (List ℕ)) (i : ℕ) (l : List ℕ) → get_elem? ls i ≡ maybe.some l → get_or ls i [] ≡ l
      get_at [] i l e = absurd (maybe.some-ne-none l (sym e))
      get_at (x ∷ xs) zero l e = maybe.some-injective x l e
      get_at (x ∷ xs) (suc i) l e = get_at xs i l e

  -- nothing of the outer side is left in a store, where each batch was found done or emptied
  abbrev AllSeen : Known → Type 0
  AllSeen k = (b : ℕ) → b < (sizes_of k.word).batches → 1 ≤ times b v.client.drained + times b v.client.done

  seen_either : (b : ℕ) → 1 ≤ times b v.client.drained + times b v.client.done → (1 ≤ times b v.client.drained) ⊎ (1 ≤ times b v.client.done)
  seen_either b some = dite (ℕ_discrete (times b v.client.drained) 0) (λ e. inr (omega arith)) (λ ne. inl (omega arith))

  running : (b : ℕ) → 1 ≤ times b v.client.drained + times b v.client.done → RUN ≤ now phases 0
  running b some = ⊎_elim (λ d. (p.seen.drained id v at b d).0) (λ d. (p.seen.done id v at b d).0) (seen_either b some)

  emptied : (k : Known) → v.client.known ≡ Some k → k.settled ≡ true → AllSeen k → (r : ℕ) → j.inner ≤ r → (h : ℕ) → Listed lists h r → ⊥
  emptied k knows good all r outer h listed =
      let word : m.sizes ≡ k.word = ((p.known.fits id v at k knows).settled good).1 in
      let t = p.routes.stands h r listed in
      let o = t.3 outer in
      let b : ℕ = batch_of (sizes_of m.sizes) t.0 in
      let below' : b < (sizes_of m.sizes).batches = batch_below (sizes_of m.sizes) t.0 p.fit.batches in
      let inside : b < (sizes_of k.word).batches = subst (λ (w : ℕ). b < (sizes_of w).batches) word below' in
      ⊎_elim
      (λ d. let none : at_head lists (outer_no j b) ≡ [] = (p.seen.drained id v at b d).2 in
      let here : at_head lists h ≡ [] = ap (at_head lists) o.0 ∙ none in
      let z : times r (at_head lists h) ≡ 0 = ap (times r) here in absurd (omega arith))
      (λ d. let past = (p.seen.done id v at b d).1 in let low = o.3 in absurd (omega arith))
      (seen_either b (all b inside))

  sums : (u l h b : ℕ) → u + l + h ≡ b → u ≡ 0 → l ≡ 0 → b ≡ 1 → h ≡ 1
  sums u l h b e a c d = omega arith

  held_once : Ended v → (r : ℕ) → j.inner ≤ r → r < rows j → held r v ≡ 1
  held_once end r outer inside = sym (alone r) ∙ by_end end
    where
      row_inside : below r (rows j) ≡ 1
      row_inside = omega arith

      by_lists : RUN ≤ now phases 0 → ((h : ℕ) → Listed lists h r → ⊥) → total (held r) views ≡ 1
      by_lists run none =
          let past = p.cursors.outer.past run in
          let u : unclaimed j m.inner_cursor m.outer_cursor r ≡ 0 = gone past in
          sums (unclaimed j m.inner_cursor m.outer_cursor r) (total (times r) lists) (total (held r) views) (below r (rows j)) (p.place.once r) u (unlisted_total r none) row_inside
        where
          gone : j.outer ≤ m.outer_cursor → unclaimed j m.inner_cursor m.outer_cursor r ≡ 0
          gone past = omega arith

      by_end : Ended v → total (held r) views ≡ 1
      by_end (inl late) = let f = p.seen.late id v at late in by_lists (omega arith) (λ h l. let t = ((p.routes.stands h r l).3 outer).2 in absurd (omega arith))
      by_end (inr d) =
          let k = d.known in
          let knows = d.is in
          let good = d.settled in
          let all = d.all in
          let word : m.sizes ≡ k.word = ((p.known.fits id v at k knows).settled good).1 in
          let some : 0 < (sizes_of k.word).batches = subst (λ (w : ℕ). 0 < (sizes_of w).batches) word p.fit.batches in
          by_lists (running 0 (all 0 some)) (emptied k knows good all r outer)

  -- each outer row with a key is probed or given up, once
  pub ended_once : Ended v → (r x : ℕ) → j.inner ≤ r → r < rows j → j.hash r ≡ Some x → times r (probed_rows v.client.probed) + times r v.client.given ≡ 1
  ended_once end r x outer inside key =
      let h = held_once end r outer inside in
      let a = no_hand r outer in
      let b = not_aside r x key in omega arith

  pub probed_once : Ended v → v.client.given ≡ [] → (r x : ℕ) → j.inner ≤ r → r < rows j → j.hash r ≡ Some x → times r (probed_rows v.client.probed) ≡ 1
  probed_once end kept r x outer inside key =
      let e = ended_once end r x outer inside key in
      let c : times r v.client.given ≡ 0 = ap (times r) kept in omega arith

  -- and no other row is probed
  pub probed_none : (r : ℕ) → (r < j.inner) ⊎ ((rows j ≤ r) ⊎ (j.hash r ≡ None)) → times r (probed_rows v.client.probed) ≡ 0
  probed_none r out = dite (ℕ_discrete (times r (probed_rows v.client.probed)) 0) (λ e. e) (λ ne.
      let q = probed_at r v.client.probed (omega arith) in
      let g = p.gone.probed id v at q.0 q.1 q.2 in
      ⊎_elim (λ low. let a : j.inner ≤ r = subst (λ (n : ℕ). j.inner ≤ n) q.3 g.0 in absurd (omega arith))
      (λ more. ⊎_elim (λ far. let o = p.place.once r in let t = alone r in let z : below r (rows j) ≡ 0 = outside far in absurd (omega arith))
      (λ none. absurd (none-some (g.1).0 (sym none ∙ (ap j.hash (sym q.3) ∙ (g.1).1)))) more) out)
    where
      outside : rows j ≤ r → below r (rows j) ≡ 0
      outside far = omega arith

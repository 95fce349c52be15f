-- The looks of all workers together.
use Rattle.std.proofs.Common.{◌≡◌, ◌≢◌, ◌⊎◌, ℕ, zero, suc, ◌+◌, ◌-◌, ◌<◌, ◌≤◌, cond, List, [], ◌∷◌, ◌++◌, length, refl, sym, ap, ◌∙◌, subst, arith, inl, inr, ⊎_elim, Option, eq-eqb, ne_eqb}
use Rattle.std.specs.List.{range_with_len, sum_by}
use Rattle.std.proofs.lemmas.Bool.{cases_eq}
use Rattle.std.proofs.lemmas.List.Sums.{sum_by-cons}
use mathlib.Core.Logic.{dite}
use native.Mathlib.Decide.{ℕ_discrete}
use Rattle.seat_roster.specs.Roster.{times}
use Rattle.seat_roster.proofs.Totals.{total_at}
use Rattle.row_model.specs.Table.{key_of}
use Rattle.row_model.specs.Hash.{hash_of_key}
use Rattle.wait_core.specs.Seating.{party_of}
use Rattle.join_law.specs.Layout.{Join, Memory, rows}
use Rattle.join_law.specs.Views.{View, held, below, probed_rows, without, claimed_by}
use Rattle.join_law.specs.Stands.{There, Parts, Stands}
use Rattle.join_law.proofs.Rows.{one_same, one_other, times_without}
use Rattle.join_law.proofs.Results.{probed_at}
use Rattle.join_party.specs.declared.party.HashParty.{HashParty}
use Rattle.join_party.specs.Joins.{join}
use Rattle.hash_probe.specs.Looks.{agreeing, walk_of}
use Rattle.hash_probe.specs.Rows.{looks_at}
use Rattle.hash_probe.proofs.Comparing.{once_in}
use Rattle.hash_probe.proofs.RowsDone.{looks_append}
use Rattle.seat_roster.proofs.Numbers.{times_append}
use Rattle.join_end.specs.Looks.{look_bound}
use Rattle.join_end.specs.Works.{Did, Work}

-- a row taken out of a list
looks_without : (p : HashParty) (r : ℕ) (l : List ℕ) → 1 ≤ times r l → looks_at p l ≡ walk_of p.outer.now p.inner.now p.buckets r + looks_at p (without r l)
looks_without p r [] more = absurd (omega arith)
looks_without p r (y ∷ ys) more = ⊎_elim
    (λ (e : y ≡ r). let a : looks_at p (without r (y ∷ ys)) ≡ looks_at p ys = ap (λ b. looks_at p (cond b ys (y ∷ without r ys))) (eq-eqb y r e) in let b : walk_of p.outer.now p.inner.now p.buckets y ≡ walk_of p.outer.now p.inner.now p.buckets r = ap (walk_of p.outer.now p.inner.now p.buckets) e in omega arith)
    (λ (ne : y ≢ r). let a : looks_at p (without r (y ∷ ys)) ≡ walk_of p.outer.now p.inner.now p.buckets y + looks_at p (without r ys) = ap (λ b. looks_at p (cond b ys (y ∷ without r ys))) (ne_eqb y r ne) in
    let z = one_other r y ne in let i = looks_without p r ys (omega arith) in omega arith)
    (cases_eq y r)

looks_le : (p : HashParty) (l k : List ℕ) → ((x : ℕ) → times x l ≤ times x k) → looks_at p l ≤ looks_at p k
looks_le p [] k less = omega arith
looks_le p (r ∷ rs) k less =
    let here : 1 ≤ times r k = (let a = less r in let b = one_same r r refl in omega arith) in
    let c = looks_without p r k here in
    let i = looks_le p rs (without r k) (λ x. let a = less x in let b = times_without r k here x in omega arith) in omega arith

-- a row that a view probed or gave up
either_way : (r : ℕ) (v : View) → 1 ≤ times r (probed_rows v.client.probed ++ v.client.given) → (1 ≤ times r (probed_rows v.client.probed)) ⊎ (1 ≤ times r v.client.given)
either_way r v more = let t = times_append r (probed_rows v.client.probed) v.client.given in dite (ℕ_discrete (times r (probed_rows v.client.probed)) 0) (λ none. inr (omega arith)) (λ some. inl (omega arith))

module _ (j : Join) (m : Memory) (lists : List (List ℕ)) (growth : Option (ℕ × ℕ)) (views : List View) (phases : List ℕ) (p : Parts j m lists growth views phases) where
  below_most : (r : ℕ) → below r (rows j) ≤ 1
  below_most r = omega arith

  inside_only : (r : ℕ) → 1 ≤ below r (rows j) → r < rows j
  inside_only r some = omega arith

  -- a seat is done with a row once at most, and with outer rows alone
  done_once : (id : ℕ) (v : View) → There views id v → (r : ℕ) → times r (probed_rows v.client.probed ++ v.client.given) ≤ times r (range_with_len j.inner j.outer)
  done_once id v at r =
      let t = times_append r (probed_rows v.client.probed) v.client.given in
      let o = p.place.once r in let h = total_at (held r) views id v at in let b = below_most r in
      dite (ℕ_discrete (times r (probed_rows v.client.probed ++ v.client.given)) 0) (λ none. omega arith) (λ some.
      let outer : j.inner ≤ r = ⊎_elim
      (λ x. let q = probed_at r v.client.probed x in subst (λ (n : ℕ). j.inner ≤ n) q.3 (p.gone.probed id v at q.0 q.1 q.2).0)
      (λ x. (p.gone.given id v at r x).0) (either_way r v (omega arith)) in
      let within : r < rows j = inside_only r (omega arith) in
      let one' = once_in j.inner j.outer r outer (let f : r < j.inner + j.outer = omega arith in f) in omega arith)

module _ (p : HashParty) where
  abbrev n : ℕ
  n = length p.inner.now.rows

  -- outer rows are numbered after the inner rows
  looks_shifted : (a k : ℕ) → looks_at p (range_with_len (n + a) k) ≡ sum_by (λ (o : ℕ). walk_of p.outer.now p.inner.now p.buckets (n + o)) (range_with_len a k)
  looks_shifted a zero = refl
  looks_shifted a (suc k) =
      let r = looks_shifted (a + 1) k in
      let e : n + a + 1 ≡ n + (a + 1) = omega arith in
      let g : looks_at p (range_with_len (n + a + 1) k) ≡ looks_at p (range_with_len (n + (a + 1)) k) = ap (λ (x : ℕ). looks_at p (range_with_len x k)) e in
      let s = sum_by-cons (λ (o : ℕ). walk_of p.outer.now p.inner.now p.buckets (n + o)) a (range_with_len (a + 1) k) in omega arith

  walks_of_all : looks_at p (range_with_len n (length p.outer.now.rows)) ≡ sum_by (λ (o : ℕ). agreeing p.inner.now p.buckets (hash_of_key (key_of p.outer.now o))) (range_with_len 0 (length p.outer.now.rows))
  walks_of_all =
      let z : n + 0 ≡ n = omega arith in
      let back : (o : ℕ) → walk_of p.outer.now p.inner.now p.buckets (n + o) ≡ agreeing p.inner.now p.buckets (hash_of_key (key_of p.outer.now o)) = λ o. let y : n + o - n ≡ o = omega arith in ap (λ (k : ℕ). agreeing p.inner.now p.buckets (hash_of_key (key_of p.outer.now k))) y in
      ap (λ (x : ℕ). looks_at p (range_with_len x (length p.outer.now.rows))) (sym z) ∙ (looks_shifted 0 (length p.outer.now.rows) ∙ ap (λ (f : ℕ → ℕ). sum_by f (range_with_len 0 (length p.outer.now.rows))) (λ i o. back o i))

  -- in a state in which one seat did all that was done
  pub looks_few : (words : List ℕ) (views : List View) (phases : List ℕ) → Stands (join p) words views phases → (w : Work) → Did p w → (id : ℕ) → There views id (party_of w.wait) → w.looks ≤ look_bound p.outer.now p.inner.now p.buckets
  unfolding look_bound
  looks_few words views phases h w d id at =
      let l = d.looks in
      let c = h.claims.all in
      let mine = total_at claimed_by views id (party_of w.wait) at in
      let few : w.wait.client.claimed ≤ n + length p.outer.now.rows = omega arith in
      let both = looks_append p (probed_rows w.wait.client.probed) w.wait.client.given in
      let e = looks_le p (probed_rows w.wait.client.probed ++ w.wait.client.given) (range_with_len n (length p.outer.now.rows)) (done_once (join p) h.memory h.lists h.growth views phases h.parts id (party_of w.wait) at) in
      let all = walks_of_all in omega arith

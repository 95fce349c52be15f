-- The result count is never above the number of pairs of the nested loop.
use Rattle.std.proofs.Common.{◌≡◌, ◌≢◌, ℕ, zero, suc, ◌+◌, ◌-◌, ◌<◌, ◌≤◌, ◌&&◌, nat_le, Bool, true, false, cond, List, [], ◌∷◌, ◌++◌, length, get_or, set, refl, sym, ap, ◌∙◌, arith, ⊎_elim, Option}
use Rattle.std.specs.List.{flat_map}
use Rattle.std.proofs.lemmas.Bool.{cases_Bool, cases_eq, lt-ltb, le-leb}
use Rattle.std.proofs.lemmas.List.{length-append, length-map}
use mathlib.Core.Option as maybe
use mathlib.Core.Logic.{dite}
use native.Mathlib.Decide.{dec_le}
use lib.ListN.{get_elem?}
use Rattle.seat_roster.specs.Totals.{total}
use Rattle.seat_roster.specs.Roster.{times}
use Rattle.seat_roster.proofs.Totals.{total_le, total_set}
use Rattle.wait_core.specs.Ops.{op_at}
use Rattle.wait_core.specs.Parties.{IsStep, with_client}
use Rattle.row_model.specs.declared.Pair.{Pair}
use Rattle.row_model.specs.Table.{key_of, meets, nested_loop}
use Rattle.join_law.specs.declared.view.Probed.{Probed}
use Rattle.join_law.specs.declared.step.HashStep.TheVariants.{AddResults}
use Rattle.join_law.specs.Layout.{Join, Memory, rows}
use Rattle.join_law.specs.Machine.{May, after, passed_of, step_op}
use Rattle.join_law.specs.Views.{View, held, below, results_of, pairs_in, probed_rows, partners}
use Rattle.join_law.specs.Stands.{There, Parts, Stands, meeting}
use Rattle.join_law.proofs.Rows.{one, one_same, one_other}
use Rattle.join_law.proofs.Counts.{counted_exactly}
use Rattle.join_law.proofs.Laws.{step_keeps}
use Rattle.join_law.proofs.Learned.{word_found}
use Rattle.join_party.specs.declared.party.HashParty.{HashParty}
use Rattle.join_party.specs.Joins.{join}
use Rattle.hash_probe.specs.Probing.{pairs_of_row}
use Rattle.hash_probe.specs.Hits.{hits}
use Rattle.hash_probe.proofs.Hits.{hits_append, pairs_le}
use Rattle.hash_probe.proofs.Loop.{paired_same, paired_other, loop_once}

-- the pairs of rows that were probed
abbrev pub pairs_named : ℕ → List Probed → List Pair
pairs_named inner ps = flat_map (pairs_of_row inner) ps

-- what the law says of the rows probed: outer rows, and with each the inner rows that it meets, once
abbrev pub AllMet : Join → List Probed → Type 0
AllMet j ps = (k : ℕ) (q : Probed) → get_elem? ps k ≡ maybe.some q → (j.inner ≤ q.row) × ((i : ℕ) → times i q.pairs ≡ meeting j q.row i)

-- a pair is named as often as its outer row, where its rows meet, and else never
pub named : (j : Join) (o i : ℕ) (ps : List Probed) → AllMet j ps → hits o i (pairs_named j.inner ps) ≡ cond (j.meets (j.inner + o) i) (times (j.inner + o) (probed_rows ps)) 0
named j o i [] met = ⊎_elim (λ t. sym (ap (λ b. cond b 0 0) t)) (λ f. sym (ap (λ b. cond b 0 0) f)) (cases_Bool (j.meets (j.inner + o) i))
named j o i (q ∷ qs) met =
    let r = named j o i qs (λ k p at. met (suc k) p at) in
    let m = met 0 q refl in
    let from : j.inner ≤ q.row = m.0 in
    let s = hits_append o i (pairs_of_row j.inner q) (pairs_named j.inner qs) in
    ⊎_elim
    (λ (e : q.row ≡ j.inner + o).
    let a : hits o i (pairs_of_row j.inner q) ≡ times i q.pairs = paired_same (q.row - j.inner) o i q.pairs (omega arith) in
    let b : times i q.pairs ≡ cond (j.meets (j.inner + o) i) 1 0 = m.1 i ∙ ap (λ (n : ℕ). cond (j.meets n i) 1 0) e in
    let c = one_same (j.inner + o) q.row e in
    split (j.meets (j.inner + o) i) (hits o i (pairs_named j.inner (q ∷ qs))) (hits o i (pairs_of_row j.inner q)) (hits o i (pairs_named j.inner qs)) (one (j.inner + o) q.row) (times (j.inner + o) (probed_rows qs)) s (a ∙ b) r c)
    (λ (ne : q.row ≢ j.inner + o).
    let a : hits o i (pairs_of_row j.inner q) ≡ 0 = paired_other (q.row - j.inner) o i q.pairs (λ e. ne (let f : q.row ≡ j.inner + o = omega arith in f)) in
    let c = one_other (j.inner + o) q.row ne in
    let d : times (j.inner + o) (probed_rows (q ∷ qs)) ≡ times (j.inner + o) (probed_rows qs) = omega arith in
    let f : hits o i (pairs_named j.inner (q ∷ qs)) ≡ hits o i (pairs_named j.inner qs) = omega arith in
    f ∙ (r ∙ ap (λ (n : ℕ). cond (j.meets (j.inner + o) i) n 0) (sym d)))
    (cases_eq q.row (j.inner + o))
  where
    split : (b : Bool) (h x y u t : ℕ) → h ≡ x + y → x ≡ cond b 1 0 → y ≡ cond b t 0 → u ≡ 1 → h ≡ cond b (u + t) 0
    split true h x y u t s a r c = omega arith
    split false h x y u t s a r c = omega arith

named_length : (inner : ℕ) (ps : List Probed) → length (pairs_named inner ps) ≡ pairs_in ps
named_length inner [] = refl
named_length inner (p ∷ ps) =
    let r = named_length inner ps in
    let a = length-append (pairs_of_row inner p) (pairs_named inner ps) in
    let b : length (pairs_of_row inner p) ≡ length p.pairs = length-map p.pairs _ in omega arith

abbrev all_named : ℕ → List View → List Pair
all_named inner [] = []
all_named inner (v ∷ vs) = pairs_named inner v.client.probed ++ all_named inner vs

all_length : (inner : ℕ) (views : List View) → length (all_named inner views) ≡ total results_of views
all_length inner [] = refl
all_length inner (v ∷ vs) =
    let r = all_length inner vs in
    let a = length-append (pairs_named inner v.client.probed) (all_named inner vs) in
    let b = named_length inner v.client.probed in omega arith

abbrev probes : ℕ → View → ℕ
probes r v = times r (probed_rows v.client.probed)

all_hits : (j : Join) (o i : ℕ) (views : List View) → ((id : ℕ) (v : View) → There views id v → AllMet j v.client.probed) → hits o i (all_named j.inner views) ≡ cond (j.meets (j.inner + o) i) (total (probes (j.inner + o)) views) 0
all_hits j o i [] met = both (j.meets (j.inner + o) i)
  where
    both : (b : Bool) → zero ≡ cond b zero zero
    both true = refl
    both false = refl
all_hits j o i (v ∷ vs) met =
    let r = all_hits j o i vs (λ id u at. met (suc id) u at) in
    let a = hits_append o i (pairs_named j.inner v.client.probed) (all_named j.inner vs) in
    let b = named j o i v.client.probed (met 0 v refl) in
    split (j.meets (j.inner + o) i) (hits o i (all_named j.inner (v ∷ vs))) (hits o i (pairs_named j.inner v.client.probed)) (hits o i (all_named j.inner vs)) (probes (j.inner + o) v) (total (probes (j.inner + o)) vs) a b r
  where
    split : (b : Bool) (h x y u t : ℕ) → h ≡ x + y → x ≡ cond b u 0 → y ≡ cond b t 0 → h ≡ cond b (u + t) 0
    split true h x y u t s a r = omega arith
    split false h x y u t s a r = omega arith

-- rows that are there meet in the join as their keys do
pub meets_there : (p : HashParty) (o i : ℕ) → i < length p.inner.now.rows → (join p).meets (length p.inner.now.rows + o) i ≡ meets (key_of p.outer.now o) (key_of p.inner.now i)
meets_there p o i less =
    let n : ℕ = length p.inner.now.rows in
    let a = lt-ltb i n less in
    let b = le-leb n (n + o) (omega arith) in
    let c : n + o - n ≡ o = omega arith in
    ap (λ x. x && (nat_le n (n + o) && meets (key_of p.outer.now (n + o - n)) (key_of p.inner.now i))) a ∙ (ap (λ x. x && meets (key_of p.outer.now (n + o - n)) (key_of p.inner.now i)) b ∙ ap (λ (k : ℕ). meets (key_of p.outer.now k) (key_of p.inner.now i)) c)

module _ (p : HashParty) (m : Memory) (lists : List (List ℕ)) (growth : Option (ℕ × ℕ)) (views : List View) (phases : List ℕ) (parts : Parts (join p) m lists growth views phases) where
  abbrev j : Join
  j = join p

  probed_most : (r : ℕ) → total (probes r) views ≤ below r (rows j)
  probed_most r = let a = total_le (probes r) (held r) views (λ id v at. omega arith) in let o = parts.place.once r in omega arith

  below_one : (r : ℕ) → below r (rows j) ≤ 1
  below_one r = omega arith

  below_none : (r : ℕ) → rows j ≤ r → below r (rows j) ≡ 0
  below_none r far = omega arith

  no_more : (o i : ℕ) → hits o i (all_named j.inner views) ≤ hits o i (nested_loop p.outer.now p.inner.now)
  no_more o i =
      let h = all_hits j o i views (λ id v at k q e. let g = parts.gone.probed id v at k q e in (g.0, g.2)) in
      let most = probed_most (j.inner + o) in
      ⊎_elim
      (λ (met : j.meets (j.inner + o) i ≡ true).
      let e : hits o i (all_named j.inner views) ≡ total (probes (j.inner + o)) views = h ∙ ap (λ b. cond b (total (probes (j.inner + o)) views) 0) met in
      let low = (parts.meet.meet (j.inner + o) i met).0 in
      dite (dec_le (length p.outer.now.rows) o)
      (λ far. let z = below_none (j.inner + o) (let f : rows j ≤ j.inner + o = omega arith in f) in omega arith)
      (λ near. let b = below_one (j.inner + o) in let same = meets_there p o i low in
      let once = loop_once p.outer.now p.inner.now o i (omega arith) low (sym same ∙ met) in omega arith))
      (λ (miss : j.meets (j.inner + o) i ≡ false). let e : hits o i (all_named j.inner views) ≡ 0 = h ∙ ap (λ b. cond b (total (probes (j.inner + o)) views) 0) miss in omega arith)
      (cases_Bool (j.meets (j.inner + o) i))

  total_few : total results_of views ≤ length (nested_loop p.outer.now p.inner.now)
  total_few =
      let b = all_length j.inner views in
      let c = pairs_le (all_named j.inner views) (nested_loop p.outer.now p.inner.now) no_more in omega arith

module _ (p : HashParty) (words : List ℕ) (views : List View) (phases : List ℕ) (h : Stands (join p) words views phases) (id : ℕ) (v : View) (s : IsStep views phases id v) where
  -- the count to which a result add carries the result count
  pub carried_few : (row pairs n : ℕ) → May (join p) v (AddResults row pairs) → pairs ≡ length (partners (join p) row (passed_of v.client.walk)) → get_or words (op_at (step_op (join p) (AddResults row pairs))) 0 ≡ n → n + pairs ≤ length (nested_loop p.outer.now p.inner.now)
  carried_few row pairs n may many found =
      let w : View = with_client v (after (join p) v (AddResults row pairs) (get_or words (op_at (step_op (join p) (AddResults row pairs))) 0)) in
      let k = step_keeps (join p) words views phases id v (AddResults row pairs) h s may in
      let most : total results_of (set views id w) ≤ length (nested_loop p.outer.now p.inner.now) = total_few p k.memory k.lists k.growth (set views id w) phases k.parts in
      let t = total_set results_of views id v w s.at in
      let more : results_of w ≡ length (partners (join p) row (passed_of v.client.walk)) + results_of v = refl in
      let exact = counted_exactly (join p) h.memory h.lists h.growth views phases h.parts in
      let read = word_found (join p) words views phases h id v s (AddResults row pairs) n found (omega arith) in
      omega arith

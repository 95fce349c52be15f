-- What a seat may do with the row that it probes, and what it knows then.
use Rattle.std.proofs.Common.{◌≡◌, ◌≢◌, ℕ, suc, ◌+◌, ◌-◌, ◌^◌, ◌<◌, ◌≤◌, List, [], ◌∷◌, ◌++◌, length, get_or, refl, sym, ap, ◌∙◌, subst, arith, inr, ⊎_elim, Some, Option, Result, Ok, Err}
use Rattle.std.proofs.lemmas.List.{length-append, length-map, get_or_past}
use Rattle.std.proofs.lemmas.Bool.{cases_eq}
use Rattle.std.proofs.lemmas.Option.{none-some, same_Some}
use native.Mathlib.Decide.{dec_le}
use mathlib.Core.Logic.{dite}
use Rattle.row_model.specs.declared.Pair.{Pair}
use Rattle.row_model.specs.declared.Side.{Side}
use Rattle.row_model.specs.declared.Side.TheVariants.{Inner, Outer}
use Rattle.row_model.specs.Table.{key_of, nested_loop}
use Rattle.row_model.specs.Hash.{hash_of_key}
use Rattle.seat_roster.specs.Roster.{times}
use Rattle.seat_roster.proofs.Totals.{total_at}
use Rattle.wait_core.specs.declared.view.WaitView.{WaitView}
use Rattle.wait_core.specs.Ops.{op_at}
use Rattle.wait_core.specs.Parties.{IsStep}
use Rattle.wait_core.specs.Seating.{client_moved, party_of}
use Rattle.join_law.specs.declared.view.HashView.{HashView}
use Rattle.join_law.specs.declared.view.Probed.{Probed}
use Rattle.join_law.specs.declared.view.Walk.{Walk}
use Rattle.join_law.specs.declared.step.HashStep.TheVariants.{AddResults}
use Rattle.join_law.specs.Layout.{Join, heads, rows, sizes_of}
use Rattle.join_law.specs.Machine.{At, InHand, May, Probing, after, passed_of, step_op}
use Rattle.join_law.specs.Phases.{WithSizes, known_word, batch_bar, RUN, PROBE}
use Rattle.join_law.specs.Routes.{batch_of, chain_at}
use Rattle.join_law.specs.Stands.{Stands}
use Rattle.join_law.specs.Views.{View, below, held, partners, pairs_in, probed_rows}
use Rattle.join_law.proofs.Rows.{one, one_same, one_other}
use Rattle.join_law.proofs.Callers.{with_there}
use Rattle.join_law.proofs.Learned.{results_found, walk_rows, named_row}
use Rattle.join_party.specs.Claims.{MayStillEnd}
use Rattle.join_party.specs.declared.party.HashParty.{HashParty}
use Rattle.join_party.specs.Joins.{join}
use Rattle.shared_tuples.specs.Tuples.{KnowsSizes}
use Rattle.shared_tuples.proofs.Tuples.{routed, still_ends, with_is}
use Rattle.hash_probe.specs.Looks.{agreeing_among, walk_of}
use Rattle.hash_probe.specs.Probing.{GivesUpRow, MayProbe, ProbesRow, with_given, with_probed}
use Rattle.hash_probe.specs.Walks.{IsKeyed, MayWalk, pairs_among, walking}
use Rattle.hash_probe.proofs.Counting.{carried_few}
use Rattle.hash_probe.proofs.Comparing.{agreeing_few, outer_hash, rows_few}

-- an outer row with a key is there
keyed_there : (p : HashParty) (row x : ℕ) → length p.inner.now.rows ≤ row → (join p).hash row ≡ Some x → row < rows (join p)
keyed_there p row x past key =
    let n : ℕ = length p.inner.now.rows in
    dite (dec_le (rows (join p)) row)
    (λ far.
    let none : key_of p.outer.now (row - n) ≡ [] = ap (λ l. get_or l p.outer.now.column []) (get_or_past p.outer.now.rows (row - n) [] (omega arith)) in
    absurd (none-some x (sym (ap hash_of_key none) ∙ (sym (outer_hash p row past) ∙ key))))
    (λ near. omega arith)

pub row_keyed : (p : HashParty) (v : View) (row hash : ℕ) → MayProbe (join p) v row → (join p).hash row ≡ Some hash → IsKeyed (join p) row hash
row_keyed p v row hash may key = record { outer = may.outer; there = keyed_there p row hash may.outer key; key = key }

pub knows_sizes : (j : Join) (v : View) (row : ℕ) → MayProbe j v row → KnowsSizes v
knows_sizes j v row may = let r = routed j v row (λ z x. At v (batch_bar (batch_of z x)) PROBE) may.probing in (with_there (known_word v) _ r.1 r.3 tt, inr (RUN, may.running, omega arith))

pub may_walk : (j : Join) (v : View) (row hash head : ℕ) → MayProbe j v row → j.hash row ≡ Some hash → head < heads j → WithSizes v (λ z. head ≡ chain_at j z hash) → MayWalk j v row head
may_walk j v row hash head may key inside at =
    let r = routed j v row (λ z x. At v (batch_bar (batch_of z x)) PROBE) may.probing in
    let a = with_is (known_word v) (λ w. head ≡ chain_at j (sizes_of w) hash) at in
    let same : hash ≡ r.0 = same_Some hash r.0 (sym key ∙ r.2) in
    let one : a.0 ≡ r.1 = same_Some a.0 r.1 (sym a.1 ∙ r.3) in
    let is : head ≡ chain_at j (sizes_of r.1) r.0 = a.2 ∙ ap {A = ℕ × ℕ} (λ n. chain_at j (sizes_of n.0) n.1) (λ i. (one i, same i)) in
    record { inside = inside; probing = (may.hand, may.outer, with_there (j.hash row) _ r.0 r.2 (with_there (known_word v) _ r.1 r.3 (r.4, is))) }

-- at the end of its walk the row's pairs may be counted
pub may_add : (j : Join) (v w : WaitView HashView) (row count : ℕ) (passed : List ℕ) → MayProbe j (party_of v) row → w ≡ walking v row passed 0 → count ≡ length (partners j row passed) → May j (party_of w) (AddResults row count)
may_add j v w row count passed may is many =
    let r = routed j (party_of v) row (λ z x. At (party_of v) (batch_bar (batch_of z x)) PROBE) may.probing in
    let probing : Probing j (party_of (walking v row passed 0)) row (λ z x. Unit {0}) = (may.hand, may.outer, with_there (j.hash row) _ r.0 r.2 (with_there (known_word (party_of v)) _ r.1 r.3 (r.4, tt))) in
    subst (λ (y : WaitView HashView). May j (party_of y) (AddResults row count)) (sym is) (omega arith, (probing, (refl, refl, many)))

-- rows are probed one by one
rows_long : (ps : List Probed) → length (probed_rows ps) ≡ length ps
rows_long [] = refl
rows_long (q ∷ qs) = let i = rows_long qs in omega arith

-- how many pairs were added
pub how_many : (j : Join) (row : ℕ) (passed : List ℕ) (before after : List Pair) → after ≡ before ++ pairs_among j row passed → length after ≡ length before + length (partners j row passed)
how_many j row passed before after is = ap length is ∙ (length-append before (pairs_among j row passed) ∙ ap (λ (n : ℕ). length before + n) (length-map (partners j row passed) _))

module _ (p : HashParty) (words : List ℕ) (views : List View) (phases : List ℕ) (h : Stands (join p) words views phases) (id : ℕ) (w : WaitView HashView) (s : IsStep views phases id (party_of w)) where
  abbrev j : Join
  j = join p

  -- the looks of a walk
  pub looks_few : (v : WaitView HashView) (row hash stood : ℕ) (passed : List ℕ) → IsKeyed j row hash → w ≡ walking v row passed stood → agreeing_among p.inner.now p.buckets hash (passed ++ named_row stood) ≤ walk_of p.outer.now p.inner.now p.buckets row
  looks_few v row hash stood passed k is = agreeing_few p row hash (passed ++ named_row stood) k.outer k.key
      (walk_rows j words views phases h id (party_of w) s (record { row = row; passed = passed; stood = stood }) (ap (λ (y : WaitView HashView). y.client.walk) is))

  -- a row in hand and those that the seat probed are no more than there may be
  probed_few : (row : ℕ) → InHand (party_of w) row → suc (length w.client.probed) ≤ 1073741824
  probed_few row mine =
      let named : List ℕ = row ∷ probed_rows w.client.probed in
      let few = rows_few named (rows j) (λ x.
      let o = h.parts.place.once x in
      let t = total_at (held x) views id (party_of w) s.at in
      let here : one x row ≤ times x w.client.hand = ⊎_elim
      (λ (e : row ≡ x). let a = one_same x row e in let b : 1 ≤ times x w.client.hand = subst (λ (y : ℕ). 1 ≤ times y w.client.hand) e mine in omega arith)
      (λ (ne : row ≢ x). let a = one_other x row ne in omega arith) (cases_eq row x) in
      let most : below x (rows j) ≤ 1 = omega arith in
      (omega arith, λ some. omega arith)) in
      let long = rows_long w.client.probed in
      let room = h.parts.meet.few in
      omega arith

  -- the row was probed
  pub probed_row : (v u : WaitView HashView) (row count n : ℕ) (passed : List ℕ) (before pairs : List Pair) → InHand (party_of v) row → w ≡ walking v row passed 0 → pairs ≡ before ++ pairs_among j row passed → count ≡ length (partners j row passed)
      → get_or words (op_at (step_op j (AddResults row count))) 0 ≡ n → u ≡ client_moved w (after j (party_of w) (AddResults row count) n) → ProbesRow j v u row before pairs (n + count)
  probed_row v u row count n passed before pairs in_hand is more many found then =
      let q : Walk = record { row = row; passed = passed; stood = 0 } in
      let r : Probed = record { row = row; pairs = partners j row passed } in
      let facts = results_found j words views phases h id (party_of w) s q n (ap (λ (y : WaitView HashView). y.client.walk) is) refl found in
      let view : u ≡ client_moved v (with_probed v.client r) = then ∙ ap (λ (y : WaitView HashView). client_moved y (after j (party_of y) (AddResults row count) n)) is in
      let mine : pairs_in w.client.probed ≡ pairs_in v.client.probed = ap (λ (y : WaitView HashView). pairs_in y.client.probed) is in
      let all : pairs_in u.client.probed ≡ length (partners j row passed) + pairs_in v.client.probed = ap (λ (y : WaitView HashView). pairs_in y.client.probed) view in
      let least : pairs_in w.client.probed ≤ n = facts.0 in
      let few = probed_few row (subst (λ (y : WaitView HashView). InHand (party_of y) row) (sym is) in_hand) in
      let before_it : length w.client.probed ≡ length v.client.probed = ap (λ (y : WaitView HashView). length y.client.probed) is in
      let after_it : length u.client.probed ≡ suc (length v.client.probed) = ap (λ (y : WaitView HashView). length y.client.probed) view in
      record { probed = r; same = refl; view = view; once = facts.2; pairs = more; counted = omega arith; few = omega arith }

  pub results_fit : (v : WaitView HashView) (row count n : ℕ) (passed : List ℕ) → w ≡ walking v row passed 0 → count ≡ length (partners j row passed) → get_or words (op_at (step_op j (AddResults row count))) 0 ≡ n → n + count < 2 ^ 64
  results_fit v row count n passed is many found =
      let q : Walk = record { row = row; passed = passed; stood = 0 } in
      let facts = results_found j words views phases h id (party_of w) s q n (ap (λ (y : WaitView HashView). y.client.walk) is) refl found in
      let few = facts.1 in omega arith

  -- the count is at most that of all pairs
  pub count_few : (v : WaitView HashView) (row count n : ℕ) (passed : List ℕ) → MayProbe j (party_of v) row → w ≡ walking v row passed 0 → count ≡ length (partners j row passed) → get_or words (op_at (step_op j (AddResults row count))) 0 ≡ n → n + count ≤ length (nested_loop p.outer.now p.inner.now)
  count_few v row count n passed may is many found = carried_few p words views phases h id (party_of w) s row count n (may_add j v w row count passed may is many)
      (many ∙ ap (λ (o : Option Walk). length (partners j row (passed_of o))) (sym (ap (λ (y : WaitView HashView). y.client.walk) is))) found

-- a seat that probed a row or gave it up may still find an end by an add
pub probed_ends : (c : HashView) (r : Probed) → ((side : Side) → MayStillEnd c side) → (side : Side) → MayStillEnd (with_probed c r) side
probed_ends c r may Inner = may Inner
probed_ends c r may Outer = may Outer

pub given_ends : (c : HashView) (row : ℕ) → ((side : Side) → MayStillEnd c side) → (side : Side) → MayStillEnd (with_given c row) side
given_ends c row may Inner = may Inner
given_ends c row may Outer = may Outer

pub row_ends : {E : Type 0} (j : Join) (result : Result ℕ E) (v w : WaitView HashView) (row : ℕ) (before pairs : List Pair)
    → Rattle.std.specs.Prelude.IfOk result (ProbesRow j v w row before pairs) → Rattle.std.specs.Prelude.OnErr result (GivesUpRow v w row before pairs) → ((side : Side) → MayStillEnd v.client side) → (side : Side) → MayStillEnd w.client side
row_ends j (Ok count) v w row before pairs probed given may = still_ends v w _ probed.view (probed_ends v.client probed.probed may)
row_ends j (Err e) v w row before pairs probed given may = still_ends v w _ given.view (given_ends v.client row may)

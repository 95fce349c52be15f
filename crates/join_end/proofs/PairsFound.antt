-- At the end the pairs of the rows that the last seat probed are those of the nested loop.
use Rattle.std.proofs.Common.{◌≡◌, ℕ, zero, ◌+◌, ◌-◌, ◌<◌, ◌≤◌, ◌&&◌, nat_le, Bool, true, false, cond, List, [], ◌∷◌, length, refl, sym, ap, ◌∙◌, arith, inl, inr, ⊎_elim, Option}
use Rattle.std.proofs.lemmas.Bool.{cases_Bool, le-ltb}
use mathlib.Core.Logic.{dite}
use native.Mathlib.Decide.{dec_le}
use Rattle.seat_roster.specs.Roster.{times}
use Rattle.row_model.specs.Table.{key_of, meets, nested_loop}
use Rattle.join_law.specs.declared.view.Probed.{Probed}
use Rattle.join_law.specs.Layout.{Join, Memory, rows}
use Rattle.join_law.specs.Views.{View, probed_rows}
use Rattle.join_law.specs.Stands.{There, Parts, LeftOver}
use Rattle.join_party.specs.declared.party.HashParty.{HashParty}
use Rattle.join_party.specs.Joins.{join}
use Rattle.hash_probe.specs.Hits.{hits}
use Rattle.hash_probe.specs.Probing.{pairs_of_row}
use Rattle.hash_probe.specs.Rows.{pairs_found}
use Rattle.hash_probe.proofs.Hits.{hits_append}
use Rattle.hash_probe.proofs.Loop.{loop_once}
use Rattle.hash_probe.proofs.Counting.{AllMet, meets_there, named, pairs_named}
use Rattle.join_end.specs.Pairs.{SamePairs}
use Rattle.join_end.specs.Ends.{Ended, OthersLeft}
use Rattle.join_end.proofs.InOrder.{loop_none}
use Rattle.join_end.proofs.Ended.{probed_once, probed_none}

-- in whichever order the rows were probed
pub found_named : (inner o i : ℕ) (ps : List Probed) → hits o i (pairs_found inner ps) ≡ hits o i (pairs_named inner ps)
found_named inner o i [] = refl
found_named inner o i (q ∷ qs) =
    let r = found_named inner o i qs in
    let a = hits_append o i (pairs_found inner qs) (pairs_of_row inner q) in
    let b = hits_append o i (pairs_of_row inner q) (pairs_named inner qs) in omega arith

module _ (p : HashParty) where
  abbrev j : Join
  j = join p

  abbrev n : ℕ
  n = length p.inner.now.rows

  meets_far : (o i : ℕ) → n ≤ i → j.meets (n + o) i ≡ false
  meets_far o i far = ap (λ x. x && (nat_le n (n + o) && meets (key_of p.outer.now (n + o - n)) (key_of p.inner.now i))) (le-ltb i n far)

  module _ (m : Memory) (lists : List (List ℕ)) (growth : Option (ℕ × ℕ)) (views : List View) (phases : List ℕ) (parts : Parts j m lists growth views phases) where
    met_of : (id : ℕ) (v : View) → There views id v → AllMet j v.client.probed
    met_of id v at k q e = let g = parts.gone.probed id v at k q e in (g.0, g.2)

    -- at the end the pairs that the last seat names are those of the nested loop
    pub pairs_whole : LeftOver views → (id : ℕ) (v : View) → There views id v → v.attached ≡ [] → OthersLeft views id → Ended v → v.client.given ≡ [] → SamePairs (pairs_found n v.client.probed) (nested_loop p.outer.now p.inner.now)
    pairs_whole left id v at free others end kept o i =
        let h = found_named n o i v.client.probed ∙ named j o i v.client.probed (met_of id v at) in
        dite (dec_le n i)
        (λ (far : n ≤ i). h ∙ (ap (λ b. cond b (times (n + o) (probed_rows v.client.probed)) 0) (meets_far o i far) ∙ sym (loop_none p.outer.now p.inner.now o i (inr (inl far)))))
        (λ (near : n ≤ i → ⊥). let less : i < n = omega arith in let same = meets_there p o i less in
        dite (dec_le (length p.outer.now.rows) o)
        (λ (out : length p.outer.now.rows ≤ o).
        let z : times (n + o) (probed_rows v.client.probed) ≡ 0 = probed_none j m lists growth views phases parts left id v at free others (n + o) (inr (inl (let f : rows j ≤ n + o = omega arith in f))) in
        h ∙ (ap (λ (t : ℕ). cond {A = ℕ} (j.meets (n + o) i) t 0) z ∙ (zero_both (j.meets (n + o) i) ∙ sym (loop_none p.outer.now p.inner.now o i (inl out)))))
        (λ (in' : length p.outer.now.rows ≤ o → ⊥). ⊎_elim
        (λ (met : meets (key_of p.outer.now o) (key_of p.inner.now i) ≡ true).
        let key = (parts.meet.meet (n + o) i (same ∙ met)).1 in
        let once = probed_once j m lists growth views phases parts left id v at free others end kept (n + o) key.0 (let f : n ≤ n + o = omega arith in f) (let f : n + o < rows j = omega arith in f) key.2 in
        h ∙ (ap (λ b. cond b (times (n + o) (probed_rows v.client.probed)) 0) (same ∙ met) ∙ (once ∙ sym (loop_once p.outer.now p.inner.now o i (omega arith) less met))))
        (λ (miss : meets (key_of p.outer.now o) (key_of p.inner.now i) ≡ false). h ∙ (ap (λ b. cond b (times (n + o) (probed_rows v.client.probed)) 0) (same ∙ miss) ∙ sym (loop_none p.outer.now p.inner.now o i (inr (inr miss)))))
        (cases_Bool (meets (key_of p.outer.now o) (key_of p.inner.now i)))))
      where
        zero_both : (b : Bool) → cond b zero zero ≡ zero
        zero_both true = refl
        zero_both false = refl

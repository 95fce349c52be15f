-- What follows at the end of a join.
use Rattle.std.proofs.Common.{◌≡◌, ℕ, zero, suc, ◌+◌, ◌-◌, ◌<◌, ◌≤◌, List, [], length, cond, refl, sym, ap, ◌∙◌, arith, Some, None, Option}
use Rattle.std.proofs.lemmas.Bool.{le-ltb}
use Rattle.std.proofs.lemmas.Option.{none-some}
use mathlib.Core.Option as maybe
use lib.ListN.{get_elem?}
use Rattle.seat_roster.specs.Roster.{times}
use Rattle.row_model.specs.Table.{key_of, nested_loop}
use Rattle.row_model.specs.Hash.{hash_of_key}
use Rattle.wait_core.specs.Seating.{party_of}
use Rattle.signal_core.specs.declared.view.Emission.{Emission}
use Rattle.join_law.specs.Layout.{Join, rows}
use Rattle.join_law.specs.Views.{probed_rows}
use Rattle.join_party.specs.declared.party.HashParty.{HashParty}
use Rattle.join_party.specs.Joins.{join}
use Rattle.hash_probe.specs.Signals.{STOP}
use Rattle.join_end.specs.Pairs.{SamePairs}
use Rattle.join_end.specs.Looks.{look_bound}
use Rattle.join_end.specs.Works.{IsOver, Work}
use Rattle.join_end.specs.AtTheEnd.{AtTheEnd, IsUnmarked}
use Rattle.join_end.proofs.Ended.{ended_once}
use Rattle.join_end.proofs.PairsFound.{pairs_whole}
use Rattle.join_end.proofs.Looks.{looks_few}

module _ (p : HashParty) (w : Work) (e : AtTheEnd p w) where
  abbrev j : Join
  j = join p

  abbrev n : ℕ
  n = length p.inner.now.rows

  -- who absorbed STOP finds its emission in the list, so somebody says that there are too many pairs
  pub stopped_over : 1 ≤ times STOP w.signal.absorbed → (counted : ℕ) × (w.over ≡ Some counted) × IsOver p.outer.now p.inner.now counted
  stopped_over some = by_over w.over refl
    where
      by_over : (o : Option ℕ) → w.over ≡ o → (counted : ℕ) × (w.over ≡ Some counted) × IsOver p.outer.now p.inner.now counted
      by_over (Some counted) is = (counted, is, e.done.did.over counted is)
      by_over None is =
          let h = e.emitted some in
          absurd (maybe.some-ne-none h.emission (sym h.here ∙ ap (λ (l : List Emission). get_elem? l h.at) (e.done.did.emits is)))

  pub none_given : IsUnmarked w → w.wait.client.given ≡ []
  none_given marks = e.done.did.gives marks.0 marks.1 (by_stops (times STOP w.signal.absorbed) refl)
    where
      by_stops : (k : ℕ) → times STOP w.signal.absorbed ≡ k → times STOP w.signal.absorbed ≡ 0
      by_stops zero is = is
      by_stops (suc k) is = let o = stopped_over (omega arith) in absurd (none-some o.0 (sym marks.0 ∙ o.1))

  pub whole : IsUnmarked w → SamePairs w.pairs (nested_loop p.outer.now p.inner.now)
  whole marks o i =
      let h = e.stands in
      e.done.did.pairs o i ∙ pairs_whole p h.memory h.lists h.growth e.views e.phases h.parts h.left e.id (party_of w.wait) e.there e.free e.others e.done.ended (none_given marks) o i

  key_at : (o x : ℕ) → hash_of_key (key_of p.outer.now o) ≡ Some x → j.hash (n + o) ≡ Some x
  key_at o x key =
      let a = le-ltb (n + o) n (omega arith) in
      let b : n + o - n ≡ o = omega arith in
      ap (λ t. cond t (hash_of_key (key_of p.inner.now (n + o))) (hash_of_key (key_of p.outer.now (n + o - n)))) a ∙ (ap (λ (k : ℕ). hash_of_key (key_of p.outer.now k)) b ∙ key)

  pub rows_ended : (o x : ℕ) → o < length p.outer.now.rows → hash_of_key (key_of p.outer.now o) ≡ Some x → times (n + o) (probed_rows w.wait.client.probed) + times (n + o) w.wait.client.given ≡ 1
  rows_ended o x inside key =
      let h = e.stands in
      ended_once j h.memory h.lists h.growth e.views e.phases h.parts h.left e.id (party_of w.wait) e.there e.free e.others e.done.ended (n + o) x (let f : n ≤ n + o = omega arith in f) (let f : n + o < rows j = omega arith in f) (key_at o x key)

  pub looks : w.looks ≤ look_bound p.outer.now p.inner.now p.buckets
  looks = looks_few p e.words e.views e.phases e.stands w e.done.did e.id e.there

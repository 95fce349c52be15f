-- What workers promise holds of what they did together.
use Rattle.std.proofs.Common.{◌≡◌, ◌⊎◌, ℕ, ◌+◌, ◌<◌, ◌≤◌, ◌||◌, cond, Bool, true, false, List, [], ◌∷◌, ◌++◌, length, refl, sym, ap, ◌∙◌, subst, arith, inl, inr, ⊎_elim, Some, None, Option}
use Rattle.std.proofs.lemmas.Option.{none-some}
use Rattle.std.proofs.lemmas.Bool.{false≢true}
use Rattle.seat_roster.specs.Roster.{times}
use Rattle.seat_roster.proofs.Numbers.{times_append}
use Rattle.wait_core.specs.Parties.{joined, phase_of}
use Rattle.wait_core.specs.Seating.{party_of}
use Rattle.row_model.specs.declared.Side.{Side}
use Rattle.row_model.specs.declared.Side.TheVariants.{Inner, Outer}
use Rattle.join_law.specs.declared.view.HashView.{HashView}
use Rattle.join_law.specs.declared.view.Known.{Known}
use Rattle.join_law.specs.declared.view.Probed.{Probed}
use Rattle.join_law.specs.Layout.{Join, sizes_of}
use Rattle.join_law.specs.Phases.{With, build, known_at, batch_growth, bucket_growth, RUN}
use Rattle.join_law.specs.Quiet.{Quiet}
use Rattle.join_law.specs.Views.{View, both_known, both_views, for_good, probed_rows}
use Rattle.join_law.proofs.Seats.{rows_both}
use Rattle.join_party.specs.Claims.{MayStillEnd}
use Rattle.join_party.specs.declared.party.HashParty.{HashParty}
use Rattle.hash_probe.specs.Hits.{hits}
use Rattle.hash_probe.specs.Probing.{pairs_of_row}
use Rattle.hash_probe.specs.Rows.{looks_at, pairs_found, times_done}
use Rattle.hash_probe.specs.Signals.{STOP}
use Rattle.hash_probe.proofs.Hits.{hits_append}
use Rattle.hash_probe.proofs.RowsDone.{looks_append}
use Rattle.join_end.specs.Ends.{Drained, Ended}
use Rattle.join_end.specs.Works.{Did, HasDone, Work, both_work, either_over}

-- A seat that is at the end stays there as it takes in others
done_either : (b : ℕ) (v w : View) → (1 ≤ times_done b v.client) ⊎ (1 ≤ times_done b w.client) → 1 ≤ times_done b (both_views v.client w.client)
done_either b v w some =
    let x = times_append b v.client.drained w.client.drained in
    let y = times_append b v.client.done w.client.done in ⊎_elim (λ l. omega arith) (λ r. omega arith) some

ended_first : (v w : View) → Ended v → Ended (joined both_views v w)
ended_first v w (inl late) = inl (ap (λ b. b || w.client.late) late)
ended_first v w (inr d) = inr (record { known = d.known; is = kept v.client.known d.known d.is d.settled; settled = d.settled; all = λ b inside. done_either b v w (inl (d.all b inside)) })
  where
    kept : (mine : Option Known) (k : Known) → mine ≡ Some k → k.settled ≡ true → both_known mine w.client.known ≡ Some k
    kept mine k is good = ap (λ x. both_known x w.client.known) is ∙ ap (λ s. cond s (Some k) (for_good w.client.known (Some k))) good

-- and one that knows no sizes comes to the end with the one that it takes in
ended_second : (v w : View) → v.client.known ≡ None → Ended w → Ended (joined both_views v w)
ended_second v w none (inl late) = inl (ap (λ b. v.client.late || b) late ∙ or_true v.client.late)
  where
    or_true : (b : Bool) → (b || true) ≡ true
    or_true true = refl
    or_true false = refl
ended_second v w none (inr d) = inr (record {
  known = d.known;
  is = ap (λ x. both_known x w.client.known) none ∙ (ap (λ x. both_known None x) d.is ∙ ap (λ s. cond s (Some d.known) None) d.settled);
  settled = d.settled;
  all = λ b inside. done_either b v w (inr (d.all b inside));
})

-- a worker that is quiet in the build's RUN, and attached to nothing, is at the end
pub quiet_ended : (j : Join) (v : View) → v.attached ≡ [] → Quiet j v build RUN → Ended v
quiet_ended j v free q = inr (by_known v.client.known refl (subst (λ (a : List (ℕ × ℕ)). With (known_at v.client.known (phase_of a batch_growth) (phase_of a bucket_growth)) all_done) free (q.1).0))
  where
    all_done : ℕ → Type 0
    all_done x = (b : ℕ) → b < (sizes_of x).batches → 1 ≤ times_done b v.client

    by_settled : (k : Known) (s : Bool) → k.settled ≡ s → v.client.known ≡ Some k → With (cond (s || false) (Some k.word) None) (λ x. (b : ℕ) → b < (sizes_of x).batches → 1 ≤ times_done b v.client) → Drained v
    by_settled k true good is h = record { known = k; is = is; settled = good; all = h }
    by_settled k false bad is h = absurd h

    by_known : (o : Option Known) → v.client.known ≡ o → With (known_at o None None) (λ x. (b : ℕ) → b < (sizes_of x).batches → 1 ≤ times_done b v.client) → Drained v
    by_known None is h = absurd h
    by_known (Some k) is h = by_settled k k.settled refl is h

neither : (a b : Bool) → (a || b) ≡ false → (a ≡ false) × (b ≡ false)
neither true b is = absurd (false≢true (sym is))
neither false b is = (refl, is)

-- a seat that may still find an end by an add may do so with another
pub may_still_end : (v w : HashView) → ((side : Side) → MayStillEnd v side) → (side : Side) → MayStillEnd (both_views v w) side
may_still_end v w may Inner = λ none. let n = neither v.inner_ended w.inner_ended none in let m = may Inner n.0 in omega arith
may_still_end v w may Outer = λ none. let n = neither v.outer_ended w.outer_ended none in let m = may Outer n.0 in omega arith

-- What two promise adds up
found_both : (inner o i : ℕ) (ps qs : List Probed) → hits o i (pairs_found inner (ps ++ qs)) ≡ hits o i (pairs_found inner ps) + hits o i (pairs_found inner qs)
found_both inner o i [] qs = omega arith
found_both inner o i (p ∷ ps) qs =
    let r = found_both inner o i ps qs in
    let a = hits_append o i (pairs_found inner (ps ++ qs)) (pairs_of_row inner p) in
    let b = hits_append o i (pairs_found inner ps) (pairs_of_row inner p) in omega arith

none_of : (a b : Option ℕ) → either_over a b ≡ None → (a ≡ None) × (b ≡ None)
none_of None b is = (refl, is)
none_of (Some c) b is = absurd (none-some c (sym is))

some_of : (a b : Option ℕ) (c : ℕ) → either_over a b ≡ Some c → (a ≡ Some c) ⊎ (b ≡ Some c)
some_of None b c is = inr is
some_of (Some d) b c is = inl is

module _ (p : HashParty) where
  looks_both : (v w : Work) → looks_at p (probed_rows (both_work v w).wait.client.probed) + looks_at p (both_work v w).wait.client.given
      ≡ looks_at p (probed_rows v.wait.client.probed) + looks_at p v.wait.client.given + (looks_at p (probed_rows w.wait.client.probed) + looks_at p w.wait.client.given)
  looks_both v w =
      let a : looks_at p (probed_rows (v.wait.client.probed ++ w.wait.client.probed)) ≡ looks_at p (probed_rows v.wait.client.probed) + looks_at p (probed_rows w.wait.client.probed) = ap (looks_at p) (rows_both v.wait.client.probed w.wait.client.probed) ∙ looks_append p (probed_rows v.wait.client.probed) (probed_rows w.wait.client.probed) in
      let b = looks_append p v.wait.client.given w.wait.client.given in omega arith

  begun_both : (v w : Work) → Did p v → Did p w → ((both_work v w).wait.client.known ≡ None) ⊎ Ended (party_of (both_work v w).wait)
  begun_both v w d e = ⊎_elim
      (λ none. ⊎_elim (λ other. inl (ap (λ x. both_known x w.wait.client.known) none ∙ ap (λ x. both_known None x) other)) (λ end. inr (ended_second (party_of v.wait) (party_of w.wait) none end)) e.begun)
      (λ end. inr (ended_first (party_of v.wait) (party_of w.wait) end)) d.begun

  pub did_both : (v w : Work) → Did p v → Did p w → Did p (both_work v w)
  did_both v w d e = record {
    pairs = λ o i. let a = hits_append o i v.pairs w.pairs in let b = found_both (length p.inner.now.rows) o i v.wait.client.probed w.wait.client.probed in let x = d.pairs o i in let y = e.pairs o i in omega arith;
    over = λ c is. ⊎_elim (d.over c) (e.over c) (some_of v.over w.over c is);
    emits = λ none. let n = none_of v.over w.over none in let x = d.emits n.0 in let y = e.emits n.1 in λ i. x i ++ y i;
    gives = λ none enough quiet. let n = none_of v.over w.over none in let m = neither v.short w.short enough in let t = times_append STOP v.signal.absorbed w.signal.absorbed in
        let x = d.gives n.0 m.0 (let z : times STOP v.signal.absorbed ≡ 0 = omega arith in z) in let y = e.gives n.1 m.1 (let z : times STOP w.signal.absorbed ≡ 0 = omega arith in z) in λ i. x i ++ y i;
    looks = let x = d.looks in let y = e.looks in let a = looks_both v w in omega arith;
    begun = begun_both v w d e;
  }

  pub done_both : (v w : Work) → Did p v → HasDone p w → HasDone p (both_work v w)
  done_both v w d e = record {
    did = did_both v w d e.did;
    ended = ⊎_elim (λ none. ended_second (party_of v.wait) (party_of w.wait) none e.ended) (λ end. ended_first (party_of v.wait) (party_of w.wait) end) d.begun;
  }

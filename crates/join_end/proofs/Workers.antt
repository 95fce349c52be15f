-- What a worker promises at its end, by what `build` and `probe` say.
use Rattle.std.proofs.Common.{◌≡◌, ℕ, ◌+◌, ◌-◌, ◌*◌, ◌≤◌, Bool, true, false, ◌||◌, List, [], ◌∷◌, ◌++◌, length, refl, sym, ap, ◌∙◌, subst, arith, inl, inr, Option, Some, None}
use Rattle.std.specs.List.Sorted.{IsPermutation}
use Rattle.std.proofs.lemmas.List.{append-nil, length-append}
use Rattle.std.proofs.lemmas.Option.{none-some, same_Some}
use Rattle.seat_roster.specs.Roster.{listed, times}
use Rattle.row_model.specs.declared.Pair.{Pair}
use Rattle.row_model.specs.declared.Side.{Side}
use Rattle.row_model.specs.declared.Side.TheVariants.{Inner, Outer}
use Rattle.lw_core.specs.declared.view.Hold.{Hold}
use Rattle.lw_core.specs.declared.view.View as lock
use Rattle.lw_core.specs.Machine.{HoldsNothing, mode_in}
use Rattle.lw_core.proofs.Touches.{fresh_hold}
use Rattle.wait_core.specs.declared.view.WaitView.{WaitView}
use Rattle.wait_core.specs.Seating as waits
use Rattle.wait_core.specs.Seating.{fresh, party_of}
use Rattle.signal_core.specs.declared.seat.SigSeat.{SigSeat}
use Rattle.signal_core.specs.declared.view.SigView.{SigView}
use Rattle.signal_core.specs.Machine.{IsJoined}
use Rattle.signal_core.specs.Seating as signals
use Rattle.proc_signal.specs.Signals.{IsJoinedSlot}
use Rattle.generation_barrier.specs.Waiting.{HasLeft}
use Rattle.join_law.specs.declared.view.HashView.{HashView}
use Rattle.join_law.specs.declared.view.Probed as row
use Rattle.join_law.specs.Phases.{build, RUN}
use Rattle.join_law.specs.Quiet.{Quiet}
use Rattle.join_law.specs.Views.{both_views, first_view, probed_rows}
use Rattle.join_party.specs.declared.party.HashParty.{HashParty}
use Rattle.join_party.specs.declared.tables.JoinSeats.{JoinSeats}
use Rattle.join_party.specs.declared.tables.JoinTables.{JoinTables}
use Rattle.join_party.specs.Claims.{MayStillEnd}
use Rattle.join_party.specs.Joins.{join}
use Rattle.join_party.specs.Workers.{IsAt, IsDrawn}
use Rattle.hash_build.specs.Builds.{Begins, FoundDone, HasBuilt}
use Rattle.hash_build.specs.Hashing.{SameWaitNumbers}
use Rattle.hash_build.specs.declared.Built.TheVariants.{Ready}
use Rattle.hash_probe.specs.declared.Probed.{Probed}
use Rattle.hash_probe.specs.Marks.{SaysOver, SaysStopped}
use Rattle.hash_probe.specs.Probes.{AsBuilt, Probes}
use Rattle.hash_probe.specs.Rows.{looks_at, pairs_found}
use Rattle.hash_probe.specs.Signals.{STOP}
use Rattle.hash_probe.specs.Hits.{hits}
use Rattle.join_end.specs.Pairs.{SamePairs}
use Rattle.join_end.specs.Works.{Did, HasDone, IsOver, work_of}
use Rattle.join_end.specs.Workers.{IsNew, KeepsNumbers}
use Rattle.join_end.proofs.EachPair.{hits_moved}
use Rattle.join_end.proofs.Gathers.{quiet_ended}
use Rattle.hash_probe.proofs.Stops.{stops_absorb}

-- HOW A WORKER BEGINS
pub drawn_new : (old new s : JoinSeats) → IsDrawn old new s → IsNew s (old.wait.view.drawn + 1) (old.signal.view.drawn + 1)
drawn_new old new s d = record {
  wait = d.worker_wait;
  silent = (ap (λ (y : SigView). y.emissions) d.worker_signal, ap (λ (y : SigView). y.absorbed) d.worker_signal);
  own = ap (λ (y : SigView). y.own) d.worker_signal;
  taken = ap (λ (y : SigView). y.taken) d.worker_signal;
}

pub drawn_free : (old new s : JoinSeats) → IsDrawn old new s → HoldsNothing s.lock.view
drawn_free old new s d l = ap (λ (y : lock.View). mode_in l y) d.worker_lock ∙ ap (λ (h : Hold). h.mode) (fresh_hold (Some (old.lock.view.drawn + 1)) l)

-- what is true of a leader that took in nobody
pub nothing_did : (p : HashParty) (s : JoinSeats) → s.wait.view.client ≡ first_view → s.signal.view.emissions ≡ [] → Did p (work_of s [] None false 0)
nothing_did p s first silent = record {
  pairs = λ o i. sym (ap (λ (c : HashView). hits o i (pairs_found (length p.inner.now.rows) c.probed)) first);
  over = λ c is. absurd (none-some c is);
  emits = λ none. silent;
  gives = λ none enough quiet. ap (λ (c : HashView). c.given) first;
  looks = omega arith;
  begun = inl (ap (λ (c : HashView). c.known) first);
}

-- A WORKER THAT CAME LATE, and left its slot
pub late_done : (p : HashParty) (s u w : JoinSeats) (m n before after : ℕ) → IsNew s m n → FoundDone s u before after → w.wait.view.client ≡ u.wait.view.client → HasLeft u.signal.view w.signal.view → HasDone p (work_of w [] None false (after - before))
late_done p s u w m n before after new late same left = record {
  did = record {
    pairs = λ o i. sym (ap (λ (l : List row.Probed). hits o i (pairs_found (length p.inner.now.rows) l)) probed);
    over = λ c is. absurd (none-some c is);
    emits = λ none. silent;
    gives = λ none enough quiet. given;
    looks = let l = late.looks in omega arith;
    begun = inr (inl ended);
  };
  ended = inl ended;
}
  where
    client : w.wait.view.client ≡ record first_view { late = true }
    client = same ∙ (late.late ∙ ap (λ (y : WaitView HashView). record (y.client) { late = true }) new.wait)

    probed : w.wait.view.client.probed ≡ []
    probed = ap (λ (c : HashView). c.probed) client

    given : w.wait.view.client.given ≡ []
    given = ap (λ (c : HashView). c.given) client

    ended : w.wait.view.client.late ≡ true
    ended = ap (λ (c : HashView). c.late) client

    silent : w.signal.view.emissions ≡ []
    silent = ap (λ (y : SigView). y.emissions) left.view ∙ (ap (λ (y : SigSeat). y.view.emissions) late.others.1 ∙ new.silent.0)

pub late_numbers : (s u w : JoinSeats) (m n before after : ℕ) → IsNew s m n → FoundDone s u before after → SameWaitNumbers u.wait.view w.wait.view → HasLeft u.signal.view w.signal.view → KeepsNumbers w m n
late_numbers s u w m n before after new late same left = record {
  wait = (same.own ∙ (late.numbers.own ∙ ap (λ (y : WaitView HashView). y.own) new.wait), same.taken ∙ (late.numbers.taken ∙ ap (λ (y : WaitView HashView). y.taken) new.wait));
  signal = (ap (λ (y : SigView). y.own) left.view ∙ (ap (λ (y : SigSeat). y.view.own) late.others.1 ∙ new.own), ap (λ (y : SigView). y.taken) left.view ∙ (ap (λ (y : SigSeat). y.view.taken) late.others.1 ∙ new.taken));
}

-- A WORKER THAT BUILT and probed
module _ (t : JoinTables) (s u w : JoinSeats) (m n buckets batches : ℕ) (elected : Bool) (said : Probed) (pairs : List Pair) (first second last : ℕ)
    (new : IsNew s m n) (b : HasBuilt (join t.waits.party) s u buckets batches elected first second) (f : Probes t u w said [] pairs second last) where
  abbrev p : HashParty
  p = t.waits.party

  begun_client : (A : Type 0) (see : HashView → A) → see s.wait.view.client ≡ see first_view
  begun_client A see = ap (λ (y : WaitView HashView). see y.client) new.wait

  all_rows : w.wait.view.client.probed ≡ f.rows
  all_rows = f.does.probed ∙ (ap (λ (l : List row.Probed). f.rows ++ l) (b.reached.only.probed ∙ begun_client (List row.Probed) (λ c. c.probed)) ∙ append-nil f.rows)

  all_given : w.wait.view.client.given ≡ f.given
  all_given = f.does.gave ∙ (ap (λ (l : List ℕ). f.given ++ l) (b.reached.only.given ∙ begun_client (List ℕ) (λ c. c.given)) ∙ append-nil f.given)

  silent : u.signal.view.emissions ≡ []
  silent = ap (λ (y : SigSeat). y.view.emissions) b.reached.signal ∙ new.silent.0

  over_right : (counted : ℕ) → said.over ≡ Some counted → IsOver p.outer.now p.inner.now counted
  over_right counted is = by_says f.says.over
    where
      by_says : SaysOver p t.signals.procs f.rows None said.over u.signal.view w.signal.view → IsOver p.outer.now p.inner.now counted
      by_says (inl x) = absurd (none-some counted (sym x.0 ∙ is))
      by_says (inr x) = subst (IsOver p.outer.now p.inner.now) (same_Some x.1 counted (sym x.2 ∙ is)) (x.3.past, x.3.all)

  emits_none : said.over ≡ None → w.signal.view.emissions ≡ []
  emits_none none = by_says f.says.over
    where
      by_says : SaysOver p t.signals.procs f.rows None said.over u.signal.view w.signal.view → w.signal.view.emissions ≡ []
      by_says (inl x) = x.1 ∙ silent
      by_says (inr x) = absurd (none-some x.1 (sym none ∙ x.2))

  not_stopped : times STOP w.signal.view.absorbed ≡ 0 → said.stopped ≡ None
  not_stopped quiet = by_says f.says.stopped
    where
      by_says : SaysStopped None said.stopped u.signal.view w.signal.view → said.stopped ≡ None
      by_says (inl x) = x
      by_says (inr x) = let some = stops_absorb x.0 u.signal.view w.signal.view x.2 in absurd (omega arith)

  gives_none : said.over ≡ None → said.out_of_memory ≡ false → times STOP w.signal.view.absorbed ≡ 0 → w.wait.view.client.given ≡ []
  gives_none none enough quiet = all_given ∙ (f.says.unmarked (none, not_stopped quiet, enough)).0

  pairs_right : SamePairs pairs (pairs_found (length p.inner.now.rows) w.wait.view.client.probed)
  pairs_right o i = ap (hits o i) f.does.pairs ∙ sym (ap (λ (l : List row.Probed). hits o i (pairs_found (length p.inner.now.rows) l)) all_rows)

  looks_right : last - first ≤ 34 * w.wait.view.client.claimed + (looks_at p (probed_rows w.wait.view.client.probed) + looks_at p w.wait.view.client.given)
  looks_right =
      let built = b.reached.looks in
      let none : s.wait.view.client.claimed ≡ 0 = begun_client ℕ (λ c. c.claimed) in
      let same = f.does.only.claimed in
      let probed = f.does.looks in
      let x : looks_at p (probed_rows w.wait.view.client.probed) ≡ looks_at p (probed_rows f.rows) = ap (λ (l : List row.Probed). looks_at p (probed_rows l)) all_rows in
      let y : looks_at p w.wait.view.client.given ≡ looks_at p f.given = ap (looks_at p) all_given in omega arith

  pub built_done : w.wait.view.attached ≡ [] → Quiet (join p) (party_of w.wait.view) build RUN → HasDone p (work_of w pairs said.over said.out_of_memory (last - first))
  built_done free quiet = record {
    did = record { pairs = pairs_right; over = over_right; emits = emits_none; gives = gives_none; looks = looks_right; begun = inr (quiet_ended (join p) (party_of w.wait.view) free quiet) };
    ended = quiet_ended (join p) (party_of w.wait.view) free quiet;
  }

  pub built_numbers : KeepsNumbers w m n
  built_numbers =
      let numbers = b.reached.numbers.1 in record {
        wait = (f.numbers.own ∙ (numbers.own ∙ ap (λ (y : WaitView HashView). y.own) new.wait), f.numbers.taken ∙ (numbers.taken ∙ ap (λ (y : WaitView HashView). y.taken) new.wait));
        signal = (f.says.on.own ∙ (ap (λ (y : SigSeat). y.view.own) b.reached.signal ∙ new.own), f.says.on.taken ∙ (ap (λ (y : SigSeat). y.view.taken) b.reached.signal ∙ new.taken));
      }

-- and its pairs were sorted
pub sorted_done : (p : HashParty) (s : JoinSeats) (given sorted : List Pair) (over : Option ℕ) (short : Bool) (looks : ℕ) → IsPermutation given sorted → HasDone p (work_of s given over short looks) → HasDone p (work_of s sorted over short looks)
sorted_done p s given sorted over short looks moved done = record {
  did = record { pairs = λ o i. hits_moved given sorted moved o i ∙ done.did.pairs o i; over = done.did.over; emits = done.did.emits; gives = done.did.gives; looks = done.did.looks; begun = done.did.begun };
  ended = done.ended;
}

-- ONE NUMBER MORE IS TAKEN with a worker that took in nobody
pub wait_taken : (v w : WaitView HashView) (number : ℕ) → w.own ≡ Some number → w.taken ≡ [] → length (waits.took_in both_views v w).taken ≡ length v.taken + 1
wait_taken v w number own none = ap (λ (l : List ℕ). length (v.taken ++ l)) (λ i. listed (own i) ++ none i) ∙ length-append v.taken (number ∷ [])

pub signal_taken : (v w : SigView) (number : ℕ) → w.own ≡ Some number → w.taken ≡ [] → length (signals.took_in v w).taken ≡ length v.taken + 1
signal_taken v w number own none = ap (λ (l : List ℕ). length (v.taken ++ l)) (λ i. listed (own i) ++ none i) ∙ length-append v.taken (number ∷ [])

-- A join when all its workers have left.
use Rattle.std.proofs.Common.{◌≡◌, ℕ, ◌+◌, ◌<◌, ◌≤◌, false, List, length, sym, ap, ◌∙◌, subst, arith, Some, None}
use Rattle.seat_roster.specs.Roster.{times}
use Rattle.row_model.specs.declared.Pair.{Pair}
use Rattle.row_model.specs.Table.{key_of, nested_loop}
use Rattle.row_model.specs.Hash.{hash_of_key}
use Rattle.lw_core.specs.Machine as locks
use Rattle.lw_core.specs.declared.view.Hold.{Hold}
use Rattle.lw_core.specs.declared.view.View as lock
use Rattle.lw_core.proofs.Touches.{fresh_hold}
use Rattle.wait_core.specs.declared.view.WaitView.{WaitView}
use Rattle.wait_core.specs.Seating as waits
use Rattle.wait_core.specs.Seating.{party_of}
use Rattle.signal_core.specs.declared.view.SigView.{SigView}
use Rattle.signal_core.specs.Seating as signals
use Rattle.join_law.specs.declared.view.HashView.{HashView}
use Rattle.join_law.specs.Views.{first_view, probed_rows}
use Rattle.join_party.specs.declared.party.HashParty.{HashParty}
use Rattle.join_party.specs.declared.tables.JoinSeats.{JoinSeats}
use Rattle.join_party.specs.declared.tables.JoinTables.{JoinTables}
use Rattle.join_end.specs.declared.worker.Said.{Said}
use Rattle.join_end.specs.AtTheEnd.{AtTheEnd}
use Rattle.join_end.specs.Ends.{Ended}
use Rattle.join_end.specs.Last.{IsLast}
use Rattle.join_end.specs.Looks.{look_bound}
use Rattle.join_end.specs.Pairs.{SamePairs}
use Rattle.join_end.specs.Works.{HasDone, Work}
use Rattle.join_end.proofs.Whole.{looks, none_given, rows_ended, whole}
use Rattle.join_engine.specs.Workers.{IsLeader, Together}

-- a leader that opened the tables drew nobody and took in nobody
pub leader_opens : (s : JoinSeats) → s.lock.view ≡ locks.fresh (Some 0) → s.wait.view ≡ waits.fresh first_view (Some 0) → s.signal.view ≡ signals.fresh (Some 0) → IsLeader s 0 0
leader_opens s on_lock on_wait on_signal = record {
  numbered = record { lock = ap (λ (v : lock.View). v.own) on_lock; wait = ap (λ (v : WaitView HashView). v.own) on_wait; signal = ap (λ (v : SigView). v.own) on_signal };
  drawn = (ap (λ (v : lock.View). v.drawn) on_lock, ap (λ (v : WaitView HashView). v.drawn) on_wait, ap (λ (v : SigView). v.drawn) on_signal);
  taken = (ap (λ (v : WaitView HashView). length v.taken) on_wait, ap (λ (v : SigView). length v.taken) on_signal);
  gone = record {
    idle = (ap (λ (v : WaitView HashView). v.place) on_wait, ap (λ (v : WaitView HashView). v.target) on_wait);
    free = ap (λ (v : WaitView HashView). v.attached) on_wait;
    slot = (ap (λ (v : SigView). v.place) on_signal, ap (λ (v : SigView). v.slot) on_signal);
    lock = ap (λ (v : lock.View). v.place) on_lock;
  };
  free = λ l. ap (λ (v : lock.View). locks.mode_in l v) on_lock ∙ ap (λ (h : Hold). h.mode) (fresh_hold (Some 0) l);
}

-- where nobody is left out, the leader is the last seat, also after a look that leaves its views
pub leader_last : (s u : JoinSeats) (workers gone : ℕ) → IsLeader s workers gone → gone ≡ workers → u.wait.view ≡ s.wait.view → u.signal.view ≡ s.signal.view → IsLast u
leader_last s u workers gone l none on_wait on_signal =
    let waited : length u.wait.view.taken ≡ gone = ap (λ (v : WaitView HashView). length v.taken) on_wait ∙ l.taken.0 in
    let drew : u.wait.view.drawn ≡ workers = ap (λ (v : WaitView HashView). v.drawn) on_wait ∙ l.drawn.1 in
    let signalled : length u.signal.view.taken ≡ gone = ap (λ (v : SigView). length v.taken) on_signal ∙ l.taken.1 in
    let also : u.signal.view.drawn ≡ workers = ap (λ (v : SigView). v.drawn) on_signal ∙ l.drawn.2 in record {
      idle = (ap (λ (v : WaitView HashView). v.place) on_wait ∙ l.gone.idle.0, ap (λ (v : SigView). v.place) on_signal ∙ l.gone.slot.0);
      free = ap (λ (v : WaitView HashView). v.attached) on_wait ∙ l.gone.free;
      first = (ap (λ (v : WaitView HashView). v.own) on_wait ∙ l.numbered.wait, ap (λ (v : SigView). v.own) on_signal ∙ l.numbered.signal);
      all = (omega arith, omega arith);
    }

-- the leader looked once more, and what all did is in its views
module _ (t : JoinTables) (s : JoinSeats) (workers : ℕ) (pairs : List Pair) (said : Said) (before after : ℕ) (all : Together t s workers pairs said before after) (some : 0 < workers)
    (looked : (w : Work) → w.wait ≡ s.wait.view → w.signal ≡ s.signal.view → HasDone t.waits.party w → AtTheEnd t.waits.party w) where
  abbrev p : HashParty
  p = t.waits.party

  at_end : AtTheEnd p all.work
  at_end = looked all.work all.wait all.signal (record { did = all.did; ended = subst (λ (v : WaitView HashView). Ended (party_of v)) (sym all.wait) (all.ended some) })

  pub pairs_whole : said.over ≡ None → said.short ≡ false → SamePairs pairs (nested_loop p.outer.now p.inner.now)
  pairs_whole none enough = let k = all.kept enough in subst (λ (l : List Pair). SamePairs l (nested_loop p.outer.now p.inner.now)) k.0 (whole p all.work at_end (all.over ∙ none, k.1))

  pub rows_probed : said.over ≡ None → said.short ≡ false → (o hash : ℕ) → o < length p.outer.now.rows → hash_of_key (key_of p.outer.now o) ≡ Some hash → times (length p.inner.now.rows + o) (probed_rows s.wait.view.client.probed) ≡ 1
  rows_probed none enough o hash inside key =
      let r = length p.inner.now.rows + o in
      let ended = rows_ended p all.work at_end o hash inside key in
      let given : times r all.work.wait.client.given ≡ 0 = ap (times r) (none_given p all.work at_end (all.over ∙ none, (all.kept enough).1)) in
      let once : times r (probed_rows all.work.wait.client.probed) ≡ 1 = omega arith in
      ap (λ (v : WaitView HashView). times r (probed_rows v.client.probed)) (sym all.wait) ∙ once

  pub looks_few : after ≤ before + look_bound p.outer.now p.inner.now p.buckets
  looks_few = let l = all.looks in let m = looks p all.work at_end in omega arith

-- How the leader draws workers and takes them in.
use Rattle.std.proofs.Common.{◌≡◌, ℕ, ◌+◌, ◌-◌, Bool, false, ◌||◌, List, [], ◌++◌, length, sum, ◌∷◌, refl, sym, ap, ◌∙◌, subst, arith, None, Option}
use Rattle.std.proofs.lemmas.List.Sums.{sum_by-cons}
use Rattle.row_model.specs.declared.Pair.{Pair}
use Rattle.lw_core.specs.declared.view.View as lock
use Rattle.wait_core.specs.declared.view.WaitView.{WaitView}
use Rattle.wait_core.specs.Seating as waits
use Rattle.wait_core.specs.Seating.{party_of}
use Rattle.signal_core.specs.declared.view.SigView.{SigView}
use Rattle.signal_core.specs.Seating as signals
use Rattle.join_law.specs.declared.view.HashView.{HashView}
use Rattle.join_law.specs.Views.{both_views}
use Rattle.join_party.specs.declared.tables.JoinSeats.{JoinSeats}
use Rattle.join_party.specs.declared.tables.JoinTables.{JoinTables}
use Rattle.join_party.specs.Workers.{IsDrawn}
use Rattle.join_end.specs.declared.worker.Said.{Said}
use Rattle.join_end.specs.Ends.{Ended}
use Rattle.join_end.specs.Works.{HasDone, Work, both_work, either_over, work_of}
use Rattle.join_end.specs.Workers.{IsNew}
use Rattle.join_end.proofs.Gathers.{done_both}
use Rattle.join_end.proofs.Workers.{drawn_free, drawn_new, nothing_did}
use Rattle.join_engine.specs.Workers.{Adds, HasWorked, IsIdle, IsLeader, IsReady, Together}

-- a worker that was drawn when so many were has the next number, and did nothing yet
pub worker_ready : (old new worker : JoinSeats) (number : ℕ) → IsLeader old number 0 → IsDrawn old new worker → IsReady worker (number + 1)
worker_ready old new worker number l d = record {
  begins = record {
    idle = (ap (λ (v : WaitView HashView). v.place) d.worker_wait, ap (λ (v : WaitView HashView). v.target) d.worker_wait);
    free = (ap (λ (v : lock.View). v.place) d.worker_lock, drawn_free old new worker d 0);
    away = ap (λ (v : WaitView HashView). v.attached) d.worker_wait;
    hand = ap (λ (v : WaitView HashView). v.client.hand) d.worker_wait;
  };
  new = subst (λ (t : ℕ × ℕ). IsNew worker t.0 t.1) (λ i. (l.drawn.1 i + 1, l.drawn.2 i + 1)) (drawn_new old new worker d);
  slot = (ap (λ (v : SigView). v.place) d.worker_signal, ap (λ (v : SigView). v.slot) d.worker_signal);
  free = drawn_free old new worker d;
}

-- a leader that took in nobody
pub nobody : (t : JoinTables) (leader : JoinSeats) (pairs : List Pair) (looks : ℕ) → IsIdle leader → pairs ≡ [] → Together t leader 0 pairs (record { over = None; short = false }) looks looks
nobody t leader pairs looks idle none = record {
  work = work_of leader [] None false 0;
  wait = refl;
  signal = refl;
  over = refl;
  kept = λ enough. (sym none, refl);
  looks = omega arith;
  did = nothing_did t.waits.party leader idle.wait idle.signal;
  ended = λ some. absurd (omega arith);
}

-- what the others did, together with what one worker more did
pub adds : (t : JoinTables) (leader : JoinSeats) (pairs : List Pair) (said : Said) (worker : JoinSeats) (found : List Pair) (told : Said) (new : JoinSeats) (all : List Pair) (both : Said)
    → new.wait.view ≡ waits.took_in both_views leader.wait.view worker.wait.view → new.signal.view ≡ signals.took_in leader.signal.view worker.signal.view
    → both.over ≡ either_over said.over told.over → (both.short ≡ false → (said.short ≡ false) × (told.short ≡ false) × (all ≡ pairs ++ found))
    → Adds t leader pairs said worker found told new all both
adds t leader pairs said worker found told new all both wait signal over short workers number a b c d others one =
    let w : Work = work_of worker found told.over told.short (d - c) in
    let done : HasDone t.waits.party (both_work others.work w) = done_both t.waits.party others.work w others.did one.done in
    let seen : waits.took_in both_views others.work.wait worker.wait.view ≡ new.wait.view = ap (λ (v : WaitView HashView). waits.took_in both_views v worker.wait.view) others.wait ∙ sym wait in record {
      work = both_work others.work w;
      wait = seen;
      signal = ap (λ (v : SigView). signals.took_in v worker.signal.view) others.signal ∙ sym signal;
      over = ap (λ (o : Option ℕ). either_over o told.over) others.over ∙ sym over;
      kept = λ enough. let s = short enough in let k = others.kept s.0 in (ap (λ (l : List Pair). l ++ found) k.0 ∙ sym s.2, ap (λ (x : Bool). x || told.short) k.1 ∙ s.1);
      looks = let l = others.looks in omega arith;
      did = done.did;
      ended = λ some. subst (λ (v : WaitView HashView). Ended (party_of v)) seen done.ended;
    }

-- by what all counters said before and after
pub with_sums : (t : JoinTables) (leader : JoinSeats) (pairs : List Pair) (said : Said) (worker : JoinSeats) (found : List Pair) (told : Said) (new : JoinSeats) (all : List Pair) (both : Said) (number c : ℕ) (before steps : List ℕ)
    → Adds t leader pairs said worker found told new all both → steps ≡ c ∷ before
    → (d : ℕ) (after : List ℕ) → Together t leader (length before) pairs said (sum before) (sum after) → HasWorked t worker number found told c d
    → Together t new (length steps) all both (sum steps) (sum (d ∷ after))
with_sums t leader pairs said worker found told new all both number c before steps adds is d after others one =
    let first = sum_by-cons (λ (x : ℕ). x) c before in let last = sum_by-cons (λ (x : ℕ). x) d after in
    let some : length before + 1 ≡ length (c ∷ before) = omega arith in
    subst (λ (s : List ℕ). Together t new (length s) all both (sum s) (sum (d ∷ after))) (sym is)
    (subst (λ (n : ℕ × (ℕ × ℕ)). Together t new n.0 all both n.1.0 n.1.1) (λ i. (some i, (sym first i, sym last i))) (adds (length before) number (sum before) (sum after) c d others one))

-- A worker's seats at the tables of a join.
use Rattle.std.specs.Prelude.{◌≡◌, ◌⊎◌, ◌+◌, ℕ, Some}
use Rattle.lw_core.specs.Machine as locks
use Rattle.lw_core.specs.Runs as lock_runs
use Rattle.wait_core.specs.Seating as waits
use Rattle.signal_core.specs.Seating as signals
use Rattle.join_law.specs.Views.{first_view, both_views}
use Rattle.join_party.specs.declared.tables.JoinSeats.{JoinSeats}
use Rattle.join_party.specs.declared.tables.JoinTables.{JoinTables}

-- each seat is at its table
pub record IsAt (t : JoinTables) (s : JoinSeats) : Type 0 where
  pub lock : s.lock.table_id ≡ t.locks.table_id
  pub wait : s.wait.table_id ≡ t.waits.table_id
  pub signal : s.signal.table_id ≡ t.signals.table_id

-- each seat has this number
pub record IsNumbered (s : JoinSeats) (lock_number wait_number signal_number : ℕ) : Type 0 where
  pub lock : s.lock.view.own ≡ Some lock_number
  pub wait : s.wait.view.own ≡ Some wait_number
  pub signal : s.signal.view.own ≡ Some signal_number

-- a worker's seats were drawn from the leader's
pub record IsDrawn (old new worker : JoinSeats) : Type 0 where
  pub lock : new.lock.view ≡ lock_runs.stays (lock_runs.drew_one old.lock.view)
  pub wait : new.wait.view ≡ waits.after_draw old.wait.view
  pub signal : new.signal.view ≡ signals.after_draw old.signal.view
  pub worker_lock : worker.lock.view ≡ locks.fresh (Some (old.lock.view.drawn + 1))
  pub worker_wait : worker.wait.view ≡ waits.fresh first_view (Some (old.wait.view.drawn + 1))
  pub worker_signal : worker.signal.view ≡ signals.fresh (Some (old.signal.view.drawn + 1))

-- A worker was refused at a table where all numbers are drawn. The leader took in again what was drawn at the tables before it
pub record IsRefused (old new : JoinSeats) (drawn : ℕ) : Type 0 where
  pub full : (drawn ≡ old.lock.view.drawn + 1) ⊎ ((drawn ≡ old.wait.view.drawn + 1) ⊎ (drawn ≡ old.signal.view.drawn + 1))
  pub lock : (new.lock.view ≡ old.lock.view) ⊎ (new.lock.view ≡ lock_runs.both (lock_runs.stays (lock_runs.drew_one old.lock.view)) (locks.fresh (Some (old.lock.view.drawn + 1))))
  pub wait : (new.wait.view ≡ old.wait.view) ⊎ (new.wait.view ≡ waits.took_in both_views (waits.after_draw old.wait.view) (waits.fresh first_view (Some (old.wait.view.drawn + 1))))
  pub signal : new.signal.view ≡ old.signal.view

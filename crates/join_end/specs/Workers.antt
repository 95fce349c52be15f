-- Workers that did nothing yet, and whose numbers stand.
use Rattle.std.specs.Prelude.{◌≡◌, ℕ, [], Some, None}
use Rattle.wait_core.specs.Seating.{fresh}
use Rattle.join_law.specs.Views.{first_view}
use Rattle.join_party.specs.declared.tables.JoinSeats.{JoinSeats}

-- a worker with these numbers that did nothing at the tables of waits and signals but to join its slot
pub record IsNew (s : JoinSeats) (wait_number signal_number : ℕ) : Type 0 where
  pub wait : s.wait.view ≡ fresh first_view (Some wait_number)
  pub silent : (s.signal.view.emissions ≡ []) × (s.signal.view.absorbed ≡ [])
  pub own : s.signal.view.own ≡ Some signal_number
  pub taken : s.signal.view.taken ≡ []

-- a worker's numbers are those that were drawn for it, and it took in nobody
pub record KeepsNumbers (s : JoinSeats) (wait_number signal_number : ℕ) : Type 0 where
  pub wait : (s.wait.view.own ≡ Some wait_number) × (s.wait.view.taken ≡ [])
  pub signal : (s.signal.view.own ≡ Some signal_number) × (s.signal.view.taken ≡ [])

-- a worker that has left: it is in no call, attached to nothing, and its slot isn't joined
pub record HasGone (s : JoinSeats) : Type 0 where
  pub idle : (s.wait.view.place ≡ []) × (s.wait.view.target ≡ None)
  pub free : s.wait.view.attached ≡ []
  pub slot : (s.signal.view.place ≡ None) × (s.signal.view.slot ≡ None)
  pub lock : s.lock.view.place ≡ []

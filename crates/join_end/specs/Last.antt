-- When the leader is the last seat of a join.
use Rattle.std.specs.Prelude.{◌≡◌, [], length, Some, None}
use Rattle.join_party.specs.declared.tables.JoinSeats.{JoinSeats}

-- it is in no call and attached to nothing, and took over every number that it drew
pub record IsLast (s : JoinSeats) : Type 0 where
  pub idle : (s.wait.view.place ≡ []) × (s.signal.view.place ≡ None)
  pub free : s.wait.view.attached ≡ []
  pub first : (s.wait.view.own ≡ Some 0) × (s.signal.view.own ≡ Some 0)
  pub all : (length s.wait.view.taken ≡ s.wait.view.drawn) × (length s.signal.view.taken ≡ s.signal.view.drawn)

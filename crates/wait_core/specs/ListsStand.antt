-- What the table keeps of conditions: each list in one hand at most, who is on which list, and that a signal reaches its backend.
use Rattle.std.specs.Prelude.{ℕ, ◌<◌, List, slice_index}
use lib.ListN.{get_elem?}
use Rattle.wait_core.specs.declared.view.Size.{Size}
use Rattle.wait_core.specs.Words.{spin_at, slots_in}
use Rattle.wait_core.specs.Stances.{Stance, Homes}
use Rattle.wait_core.specs.SpinInOneHand.{SpinInOneHand}
use Rattle.wait_core.specs.TargetsAreListed.{TargetsAreListed}
use Rattle.wait_core.specs.SignalIsKept.{SignalIsKept}

pub record ListsStand (z : Size) (words : List ℕ) (homes : Homes) (seats : List Stance) : Type 0 where
  pub hands : (x : ℕ) → x < slots_in z → SpinInOneHand x (slice_index words (spin_at z x)) (get_elem? homes x) seats
  pub listed : TargetsAreListed (slots_in z) homes seats
  pub signals : SignalIsKept z.procs (slots_in z) words homes seats

-- What holds of two places holds of the one that a test chooses.
use Rattle.std.proofs.Common.{Bool, true, false, cond}
use Rattle.signal_core.specs.Machine.{Place}

pub either_way : (P : Place → Type 0) (b : Bool) (p q : Place) → P p → P q → P (cond b p q)
either_way P true p q left right = left
either_way P false p q left right = right

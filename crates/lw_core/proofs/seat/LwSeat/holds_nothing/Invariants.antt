use Rattle.std.proofs.Common.{◌≡◌, ◌<◌, ℕ, None, get_or}
use Rattle.lw_core.proofs.seat.LwSeat.holds_nothing.Given as goal

abbrev pub invariant-loop-mode : goal.invariant-loop-mode
invariant-loop-mode l = (k : ℕ) → k < l.mode-index → get_or l.mode-items k None ≡ None

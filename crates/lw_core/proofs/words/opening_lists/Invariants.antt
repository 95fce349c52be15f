use Rattle.std.proofs.Common.{◌≡◌, length}
use Rattle.lw_core.specs.WaitLists.{AllEmpty}
use Rattle.lw_core.proofs.words.opening_lists.Given as goal

abbrev pub invariant-loop : goal.invariant-loop
invariant-loop l = (length l.lists.items ≡ l.counter) × AllEmpty l.lists.items

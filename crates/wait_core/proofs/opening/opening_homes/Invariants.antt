use Rattle.std.proofs.Common.{◌≡◌, length}
use Rattle.wait_core.specs.Slots.{AllAsOpened}
use Rattle.wait_core.proofs.opening.opening_homes.Given as goal

abbrev pub invariant-loop : goal.invariant-loop
invariant-loop l = (length l.homes.items ≡ l.counter) × AllAsOpened l.fn.opening_phase l.homes.items

use Rattle.std.proofs.Common.{◌≡◌}
use Rattle.wait_core.specs.Words.{opening_words}
use Rattle.wait_core.proofs.opening.opening_row.Given as goal

abbrev pub invariant-loop-at : goal.invariant-loop-at
invariant-loop-at g l = l.row.items ≡ opening_words l.fn.size (g.P.Party.opens l.fn.party) l.at

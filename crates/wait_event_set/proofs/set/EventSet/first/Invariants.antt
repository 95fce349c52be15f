use Rattle.std.proofs.Common.{◌≡◌, ◌<◌, ℕ}
use mathlib.Core.Option as maybe
use lib.ListN.{get_elem?}
use Rattle.wait_event_set.specs.declared.set.Member.{Member}
use Rattle.wait_event_set.proofs.set.EventSet.first.Given as goal

abbrev pub invariant-loop-at : goal.invariant-loop-at
invariant-loop-at l = (j : ℕ) (m : Member) → j < l.at → get_elem? l.member-items j ≡ maybe.some m → m.event ≡ l.event → ⊥

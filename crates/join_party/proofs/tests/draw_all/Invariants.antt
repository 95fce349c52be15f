use Rattle.std.proofs.Common.{◌≡◌, []}
use Rattle.join_party.specs.Workers.{IsAt, IsNumbered}
use Rattle.join_party.proofs.tests.draw_all.Given as goal

abbrev pub invariant-loop : goal.invariant-loop
invariant-loop g l = IsAt l.tables l.leader × IsNumbered l.leader 0 0 0 × (l.leader.wait.view.place ≡ [])

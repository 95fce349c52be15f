use Rattle.std.proofs.Common.{◌≡◌, []}
use Rattle.join_party.specs.Workers.{IsAt, IsNumbered}
use Rattle.join_rounds.proofs.draw_all.Given as goal

abbrev pub invariant-loop-number : goal.invariant-loop-number
invariant-loop-number l = IsAt l.tables l.leader × IsNumbered l.leader 0 0 0 × (l.leader.wait.view.place ≡ [])

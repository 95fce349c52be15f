use Rattle.std.proofs.Common.{◌≡◌, ◌-◌, ◌%◌}
use Rattle.join_law.specs.Phases.{growth_phase}
use Rattle.shared_tuples.specs.Growing.{bar_of}
use Rattle.hash_build.specs.Growths.{Grows, IsGrowing, SameOther, phase_at}
use Rattle.hash_build.proofs.growths.go_through.Given as goal

abbrev pub invariant-loop-growth : goal.invariant-loop-growth
invariant-loop-growth g l = IsGrowing l.tables l.seats l.at × (l.seats.wait.id ≡ l.fn.seats.wait.id) × SameOther l.growth l.fn.phases l.at × Grows l.fn.seats l.seats

-- how many phases come before the next ELECT, at most
abbrev pub decreases-loop-growth : goal.decreases-loop-growth
decreases-loop-growth g l = (5 - growth_phase (bar_of l.growth) (phase_at l.growth l.at)) % 5

use Rattle.std.proofs.Common.{◌≡◌}
use Rattle.hash_build.specs.Growths.{AreElecting, IsGrowing}
use Rattle.hash_build.specs.Hashing.{Reached}
use Rattle.hash_build.proofs.chunks.hash_inner_rows.Given as goal

abbrev pub invariant-loop : goal.invariant-loop
invariant-loop g l = IsGrowing l.tables l.seats l.at × (l.seats.wait.id ≡ l.fn.seats.wait.id) × AreElecting l.at × Reached l.fn.seats l.seats l.fn.steps l.steps

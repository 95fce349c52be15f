use Rattle.std.proofs.Common.{◌≡◌, [], None}
use Rattle.lw_core.specs.Machine.{mode_in}
use Rattle.hash_build.proofs.report.tests.a_growth_is_wanted_until_it_ends.Given as goal

abbrev pub invariant-loop-said : goal.invariant-loop-said
invariant-loop-said g l = (l.seats.lock.table_id ≡ l.tables.locks.table_id) × (l.seats.lock.view.place ≡ []) × (mode_in 0 l.seats.lock.view ≡ None)

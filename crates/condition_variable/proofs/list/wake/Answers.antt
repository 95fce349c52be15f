use Rattle.std.proofs.Common.{◌≡◌, ℕ, List, [], Option, refl, sym, subst}
use Rattle.wait_core.specs.declared.view.Made.{Made}
use Rattle.wait_core.specs.Seats.{size_of}
use Rattle.latch.specs.Reads.{went}
use Rattle.condition_variable.specs.Visits.{Wakes, after_wake}
use Rattle.condition_variable.proofs.Walks.{went_none, latch_set}
use Rattle.condition_variable.proofs.list.wake.Goals as goal

pub returns-in-None-clause-woken : goal.returns-in-None-clause-woken
returns-in-None-clause-woken g c =
    let v = c.args.seat.now.view in
    subst {A = Option ℕ} (λ o. (more : List Made) × (v ≡ went v (after_wake o v.place) more) × Wakes o more) (sym c.in-None.is) ([], went_none v, refl)

pub returns-in-Some-clause-woken : goal.returns-in-Some-clause-woken
returns-in-Some-clause-woken g c =
    let v = c.args.seat.now.view in
    subst {A = Option ℕ} (λ o. (more : List Made) × (c.set_latch.new.seat.view ≡ went v (after_wake o v.place) more) × Wakes o more) (sym c.in-Some.is) (latch_set (size_of c.args.table.now) c.in-Some.proc v c.set_latch.new.seat.view c.set_latch.ensures.set)

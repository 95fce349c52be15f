use Rattle.std.proofs.Common.{suc, [], ◌∷◌, ◌++◌, List, Bool, Some, if◌then◌else◌, refl, ap, inl, inr}
use Rattle.wait_core.specs.Seats.{size_of}
use Rattle.wait_core.specs.declared.step.Call.TheVariants as call
use Rattle.wait_core.specs.declared.step.WaitStep.TheVariants.{Shload}
use Rattle.wait_core.specs.declared.view.Made.{Made}
use Rattle.latch.specs.declared.wait.Woke.TheVariants.{LatchSet, Shutdown}
use Rattle.latch.proofs.Walks.{went_on, shutdown_later}
use Rattle.wait_event_set.specs.Calls.{looked_again}
use Rattle.wait_event_set.proofs.Calling.{ended_here}
use Rattle.wait_event_set.proofs.Reading.{later_again}
use Rattle.wait_event_set.proofs.wait.wait_shutdown.Goals as goal

pub returns-in-Shutdown-clause-stopped : goal.returns-in-Shutdown-clause-stopped
returns-in-Shutdown-clause-stopped g c =
    let v = c.args.seat.now.view in
    let mid = c.loop.seat.view in
    let inv = c.loop.invariant.2 in
    let woke = c.in-Shutdown.ensures.woke in
    let ended = ended_here v mid c.args.own woke.0 Shutdown inv.1 woke.1 c.requires.own inv.2 woke.2 woke.4 woke.5 in (
      inv.1 ++ woke.1,
      later_again v mid _ inv.1 woke.1 inv.2 woke.3,
      shutdown_later 1 inv.1 woke.1 ended.1.1,
      record { rounds = inv.0; vain = inv.1; last = woke.1; split = refl; woken = inv.3; saw = inl ended },
    )

pub returns-then-read_shutdown-clause-stopped : goal.returns-then-read_shutdown-clause-stopped
returns-then-read_shutdown-clause-stopped g c =
    let v = c.args.seat.now.view in
    let mid = c.loop.seat.view in
    let inv = c.loop.invariant.2 in
    let woke = c.in_default.ensures.woke in
    let ended = ended_here v mid c.args.own woke.0 LatchSet inv.1 woke.1 c.requires.own inv.2 woke.2 woke.4 woke.5 in
    let last : List Made = woke.1 ++ looked_again 1 ∷ [] in
    let looked = went_on (size_of c.args.table.now) mid _ _ mid.place woke.1 (Shload (Some call.IsShut)) _ 1 (λ y i. refl) woke.3 c.read_shutdown.ensures.read (ap (λ (b : Bool). if b then 1 else 0) c.if-read_shutdown.true) in (
      inv.1 ++ last,
      later_again v mid _ inv.1 last inv.2 looked,
      shutdown_later 1 inv.1 last record { before = woke.1; begins = Some call.IsShut; then = []; split = refl },
      record { rounds = inv.0; vain = inv.1; last = last; split = refl; woken = inv.3; saw = inr (woke.1, ended, refl) },
    )

pub loop-preserved : goal.loop-preserved
loop-preserved g c =
    let v = c.args.seat.now.view in
    let mid = c.loop.seat.view in
    let inv = c.loop.invariant.2 in
    let woke = c.in_default.ensures.woke in
    let ended = ended_here v mid c.args.own woke.0 LatchSet inv.1 woke.1 c.requires.own inv.2 woke.2 woke.4 woke.5 in
    let round : List Made = woke.1 ++ looked_again 0 ∷ [] in
    let looked = went_on (size_of c.args.table.now) mid _ _ mid.place woke.1 (Shload (Some call.IsShut)) _ 0 (λ y i. refl) woke.3 c.read_shutdown.ensures.read (ap (λ (b : Bool). if b then 1 else 0) c.if-read_shutdown.false) in
    ((cc), (cc), (suc inv.0, inv.1 ++ round, later_again v mid _ inv.1 round inv.2 looked, (inv.1, woke.1, inv.3, ended, refl)))

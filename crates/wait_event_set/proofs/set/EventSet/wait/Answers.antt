use Rattle.std.proofs.Common.{MatchOption, inl, inr, subst}
use Rattle.wait_core.specs.declared.step.Until.TheVariants as until
use Rattle.wait_event_set.specs.declared.set.Event.TheVariants.{Latch, Shutdown}
use Rattle.wait_event_set.specs.Members.{NoneSuch, FirstAt}
use Rattle.latch.proofs.Walks.{ended_idle}
use Rattle.wait_event_set.proofs.Found.{some_member}
use Rattle.wait_event_set.proofs.set.EventSet.wait.Goals as goal

pub returns-in-Some-None-clause-calls : goal.returns-in-Some-None-clause-calls
returns-in-Some-None-clause-calls g c =
    let set = c.wait_latch_only.ensures.set in
    (_, _, set.2, ended_idle c.args.seat.now.view c.wait_latch_only.new.seat.view set.1 c.requires.place set.3, inl (c.in-Some-None.at, until.Latch, c.in-Some-None.ensures, c.in-Some-None.ensures', set.4))

pub returns-in-LatchSet-clause-calls : goal.returns-in-LatchSet-clause-calls
returns-in-LatchSet-clause-calls g c =
    let woke = c.wait_latch.ensures.woke in
    (_, _, woke.2, woke.3, inl (c.in-Some-Some.at, until.LatchOrShutdown, c.in-Some-Some.ensures, (c.in-Some-Some.stop, c.in-Some-Some.ensures'), woke.4))

pub returns-in-Shutdown-clause-calls : goal.returns-in-Shutdown-clause-calls
returns-in-Shutdown-clause-calls g c =
    let woke = c.wait_latch.ensures.woke in
    (_, _, woke.2, woke.3, inl (c.in-Some-Some.at, until.LatchOrShutdown, c.in-Some-Some.ensures, (c.in-Some-Some.stop, c.in-Some-Some.ensures'), woke.4))

pub returns-in-None-Some-clause-calls : goal.returns-in-None-Some-clause-calls
returns-in-None-Some-clause-calls g c =
    let stopped = c.wait_shutdown.ensures.stopped in
    let none = subst (λ r. MatchOption r (NoneSuch Latch c.args.self.now) (λ at. FirstAt Latch c.args.self.now at)) c.in-None-Some.is-0 c.first.ensures in
    (_, _, c.proc-own.ensures, stopped.1, inr (none, stopped.3))

pub unreachable-requires : goal.unreachable-requires
unreachable-requires g c =
    let ms = c.args.self.now in
    some_member ms c.requires.members
    (subst (λ r. MatchOption r (NoneSuch Latch ms) (λ at. FirstAt Latch ms at)) c.in-None-None.is-0 c.first.ensures)
    (subst (λ r. MatchOption r (NoneSuch Shutdown ms) (λ at. FirstAt Shutdown ms at)) c.in-None-None.is-1 c.first-2.ensures)

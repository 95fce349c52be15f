use Rattle.std.proofs.Common.{◌≡◌, ◌-◌}
use Rattle.script_play.specs.Moments.{moment_of}
use Rattle.script_play.specs.Play.{repeated}
use Rattle.script_play.proofs.play.Play.repeat.Given as goal

abbrev pub invariant-steps : goal.invariant-steps
invariant-steps g l = record {
  comes : repeated g.M.Machine.begins g.M.Machine.steps (moment_of l.initial.self) l.proc l.times ≡ repeated g.M.Machine.begins g.M.Machine.steps (moment_of l.self) l.proc (l.times - l.step);
  holds : g.M.Machine.holds l.self.machine l.self.made;
}

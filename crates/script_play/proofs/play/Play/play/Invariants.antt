use Rattle.std.proofs.Common.{◌≡◌, ◌+◌, ◌<◌, ◌^◌, length}
use Rattle.script_play.specs.Lines.{lines, live}
use Rattle.script_play.specs.Moments.{moment_of}
use Rattle.script_play.specs.Play.{played}
use Rattle.script_play.proofs.play.Play.play.Given as goal

abbrev pub invariant-script : goal.invariant-script
invariant-script g l = record {
  comes : played g.M.Machine.begins g.M.Machine.steps (moment_of l.initial.self) (live l.initial.lines.number (lines l.initial.lines.rest.now))
      ≡ played g.M.Machine.begins g.M.Machine.steps (moment_of l.self) (live l.lines.number (lines l.lines.rest.now));
  holds : g.M.Machine.holds l.self.machine l.self.made;
  counted : l.lines.number + length l.lines.rest.now < 2 ^ 64;
}

abbrev pub decreases-script : goal.decreases-script
decreases-script g l = length l.lines.rest.now

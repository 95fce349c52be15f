use Rattle.std.proofs.Common.{◌≡◌, ◌+◌, ◌<◌, ◌≤◌, ◌^◌, length}
use Rattle.script_play.specs.Lines.{lines, live}
use Rattle.script_play.proofs.lines.Lines.next_line.Given as goal

abbrev pub invariant-skipping : goal.invariant-skipping
invariant-skipping l = record {
  lines_left : live l.initial.self.number (lines l.initial.self.rest.now) ≡ live l.self.number (lines l.self.rest.now);
  counted : l.self.number + length l.self.rest.now < 2 ^ 64;
  passed : l.self.number + length (lines l.self.rest.now) ≡ l.initial.self.number + length (lines l.initial.self.rest.now);
  shorter : length l.self.rest.now ≤ length l.initial.self.rest.now;
}

abbrev pub decreases-skipping : goal.decreases-skipping
decreases-skipping l = length l.self.rest.now

use Rattle.std.proofs.Common.{◌∙◌, false, true, refl}
use Rattle.script_play.specs.Lines.{lines, live}
use Rattle.script_play.specs.LineViews.{numbered}
use Rattle.script_play.specs.Moments.{moment_of}
use Rattle.script_play.specs.Play.{ComesTo, taken}
use Rattle.script_play.proofs.PlayFacts.{came, stayed, played-none, played-more, played-bad}
use Rattle.script_play.proofs.play.Play.play.Goals as goal

pub returns-then-not-branch : goal.returns-then-not-branch
returns-then-not-branch g c =
    let b = g.M.Machine.begins in
    let s = g.M.Machine.steps in
    let m = moment_of c.script.self in
    let line = numbered c.in-Some.line in
    let h : ComesTo (taken b s m line.text) false (moment_of c.take_line.new.self) = rw c.if-not-branch.true at c.in_ok-take_line.ensures.moved in
    rw (c.script.invariant.comes ∙ played-bad b s m (live c.script.lines.number (lines c.script.lines.rest.now)) (live c.next_line.new.self.number (lines c.next_line.new.self.rest.now)) line
    c.in-Some.ensures.line (stayed (taken b s m line.text) (moment_of c.take_line.new.self) h)) refl

pub script-preserved : goal.script-preserved
script-preserved g c =
    let b = g.M.Machine.begins in
    let s = g.M.Machine.steps in
    let m = moment_of c.script.self in
    let k = moment_of c.take_line.new.self in
    let line = numbered c.in-Some.line in
    let h : ComesTo (taken b s m line.text) true k = rw c.if-not-branch.false at c.in_ok-take_line.ensures.moved in
    record {
      comes = c.script.invariant.comes ∙ played-more b s m k (live c.script.lines.number (lines c.script.lines.rest.now)) (live c.next_line.new.self.number (lines c.next_line.new.self.rest.now)) line
          c.in-Some.ensures.line (came (taken b s m line.text) k h);
      holds = c.in_ok-take_line.ensures.holds;
      counted = c.in-Some.ensures.counted;
    }

pub returns : goal.returns
returns g c =
    let b = g.M.Machine.begins in
    let s = g.M.Machine.steps in
    let m = moment_of c.script.self in
    rw (c.script.invariant.comes ∙ played-none b s m (live c.script.lines.number (lines c.script.lines.rest.now)) c.in_default.ensures.line) c.in_ok-end.ensures

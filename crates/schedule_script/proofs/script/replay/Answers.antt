use Rattle.std.proofs.Common.{◌≡◌, ◌∙◌, ◌+◌, length, Option, None, Some, sym, ap, refl}
use Rattle.signal_core.specs.declared.view.About.{About}
use Rattle.lw_core.specs.declared.view.Size.{Size}
use Rattle.script_play.specs.Lines.{lines, live}
use Rattle.script_play.specs.LineViews.{numbered}
use Rattle.script_play.specs.Play.{played, silent}
use Rattle.script_play.specs.Answers.{answer_by, opening_moment}
use Rattle.schedule_script.specs.ScriptText.{answer_under, script_answer}
use Rattle.signal_script.specs.SignalScripts.{signal_header}
use Rattle.lock_script.specs.LockScripts.{lock_header}
use Rattle.signal_script.specs.SignalSketch as sketch
use Rattle.lock_script.specs.LockSketch as lock
use Rattle.wait_script.specs.declared.waits.Opening.{Opening}
use Rattle.wait_script.specs.WaitScripts.{wait_header}
use Rattle.wait_script.specs.WaitSketch as wait
use Rattle.wait_script.proofs.WaitSketchFacts.{wait_sketch_plays}
use Rattle.schedule_script.proofs.ScriptFacts.{no_header, replays, under_header}
use Rattle.signal_script.proofs.SketchFacts.{sketch_plays}
use Rattle.lock_script.proofs.LockSketchFacts.{lock_sketch_plays}
use Rattle.schedule_script.proofs.script.replay.Goals as goal

pub returns-in_default : goal.returns-in_default
returns-in_default c =
    let n : c.next_line.new.self.number ≡ 1 + length (lines c.args.script.now) = c.in_default.ensures.end refl in
    rw (no_header c.args.script.now c.next_line.new.self.number c.in_default.ensures.line n) refl

pub returns-in-Some-signal_header : goal.returns-in-Some-signal_header
returns-in-Some-signal_header c =
    let header = numbered c.in-Some.header in
    let rest = live c.next_line.new.self.number (lines c.next_line.new.self.rest.now) in
    let z : About = c.in-Some-signal_header.about in
    let some : signal_header header.text ≡ Some z = sym c.signal_header.ensures.about ∙ c.in-Some-signal_header.is in
    let is : script_answer c.args.script.now ≡ answer_by sketch.ends (played (silent sketch.begins) sketch.steps (opening_moment (sketch.opening_sketch z)) rest) =
    under_header c.args.script.now header rest c.in-Some.ensures.line ∙ ap (λ (o : Option About). answer_under header o (lock_header header.text) (wait_header header.text) rest) some ∙ sym (sketch_plays z rest) in
    let plays = rw (c.in_ok-new.ensures.opening, c.new-in-Some-signal_header.ensures.items) at c.play.ensures in
    rw is (replays (λ v. v.items) sketch.ends (played (silent sketch.begins) sketch.steps (opening_moment (sketch.opening_sketch z)) rest) c.play.result plays)

pub returns-in-Some-lock_header : goal.returns-in-Some-lock_header
returns-in-Some-lock_header c =
    let header = numbered c.in-Some.header in
    let rest = live c.next_line.new.self.number (lines c.next_line.new.self.rest.now) in
    let z : Size = c.in-Some-lock_header.size in
    let none : signal_header header.text ≡ None = sym c.signal_header.ensures.about ∙ c.in_default-signal_header.is in
    let some : lock_header header.text ≡ Some z = sym c.lock_header.ensures.size ∙ c.in-Some-lock_header.is in
    let is : script_answer c.args.script.now ≡ answer_by lock.ends (played (silent lock.begins) lock.steps (opening_moment (lock.opening_sketch z)) rest) =
    under_header c.args.script.now header rest c.in-Some.ensures.line ∙ ap (λ (o : Option About). answer_under header o (lock_header header.text) (wait_header header.text) rest) none ∙ ap (λ (o : Option Size). answer_under header None o (wait_header header.text) rest) some ∙ sym (lock_sketch_plays z rest) in
    let plays = rw (c.in_ok-new-2.ensures.opening, c.new-in-Some-lock_header-2.ensures.items) at c.play-in-Some-lock_header.ensures in
    rw is (replays (λ v. v.items) lock.ends (played (silent lock.begins) lock.steps (opening_moment (lock.opening_sketch z)) rest) c.play-in-Some-lock_header.result plays)

pub returns-in_default-wait_header : goal.returns-in_default-wait_header
returns-in_default-wait_header c =
    let header = numbered c.in-Some.header in
    let rest = live c.next_line.new.self.number (lines c.next_line.new.self.rest.now) in
    let none : signal_header header.text ≡ None = sym c.signal_header.ensures.about ∙ c.in_default-signal_header.is in
    let nor : lock_header header.text ≡ None = sym c.lock_header.ensures.size ∙ c.in_default-lock_header.is in
    let neither : wait_header header.text ≡ None = sym c.wait_header.ensures.opening ∙ c.in_default-wait_header.is in
    rw (under_header c.args.script.now header rest c.in-Some.ensures.line ∙ ap (λ (o : Option About). answer_under header o (lock_header header.text) (wait_header header.text) rest) none ∙ ap (λ (o : Option Size). answer_under header None o (wait_header header.text) rest) nor
    ∙ ap (λ (o : Option Opening). answer_under header None None o rest) neither) refl

pub returns : goal.returns
returns c =
    let header = numbered c.in-Some.header in
    let rest = live c.next_line.new.self.number (lines c.next_line.new.self.rest.now) in
    let z : Opening = c.in-Some-wait_header.opening in
    let none : signal_header header.text ≡ None = sym c.signal_header.ensures.about ∙ c.in_default-signal_header.is in
    let nor : lock_header header.text ≡ None = sym c.lock_header.ensures.size ∙ c.in_default-lock_header.is in
    let some : wait_header header.text ≡ Some z = sym c.wait_header.ensures.opening ∙ c.in-Some-wait_header.is in
    let is : script_answer c.args.script.now ≡ answer_by wait.ends (played wait.begins wait.steps (opening_moment (wait.opening_sketch z)) rest) =
    under_header c.args.script.now header rest c.in-Some.ensures.line ∙ ap (λ (o : Option About). answer_under header o (lock_header header.text) (wait_header header.text) rest) none ∙ ap (λ (o : Option Size). answer_under header None o (wait_header header.text) rest) nor
    ∙ ap (λ (o : Option Opening). answer_under header None None o rest) some ∙ sym (wait_sketch_plays z rest) in
    let plays = rw (c.in_ok-new-3.ensures.opening, c.new-3.ensures.items) at c.play-2.ensures in
    rw is (replays (λ v. v.items) wait.ends (played wait.begins wait.steps (opening_moment (wait.opening_sketch z)) rest) c.play-2.result plays)

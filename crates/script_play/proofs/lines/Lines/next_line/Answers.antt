use Rattle.std.proofs.Common.{◌≡◌, ◌∙◌, ◌+◌, false, true, length, ap, refl, sym, arith}
use Rattle.script_play.specs.Lines.{is_skipped, lines}
use Rattle.script_play.proofs.LineFacts.{live-none, live-skipped, live-taken}
use Rattle.script_play.proofs.lines.Lines.next_line.Goals as goal

pub returns-in_default-clause-line : goal.returns-in_default-clause-line
returns-in_default-clause-line c =
    let s = c.skipping.self in
    c.skipping.invariant.lines_left ∙ live-none s.number (lines s.rest.now) c.in_default.ensures.line.0

pub returns-then-not-is_skipped-clause-line : goal.returns-then-not-is_skipped-clause-line
returns-then-not-is_skipped-clause-line c =
    let s = c.skipping.self in
    let t = c.read.new.self in
    let n : t.number ≡ s.number + 1 = c.in-Some.ensures.number refl in
    let no : is_skipped c.in-Some.text.now ≡ false = sym c.is_skipped.ensures ∙ c.if-not-is_skipped.true in
    rw n (c.skipping.invariant.lines_left ∙ live-taken s.number (lines s.rest.now) c.in-Some.text.now (lines t.rest.now) c.in-Some.ensures.line no)

pub skipping-preserved : goal.skipping-preserved
skipping-preserved c =
    let s = c.skipping.self in
    let t = c.read.new.self in
    let n : t.number ≡ s.number + 1 = c.in-Some.ensures.number refl in
    let yes : is_skipped c.in-Some.text.now ≡ true = sym c.is_skipped.ensures ∙ c.if-not-is_skipped.false in
    let long : length (lines s.rest.now) ≡ length (lines t.rest.now) + 1 = ap length c.in-Some.ensures.line ∙ omega arith in
    record {
      lines_left = rw n (c.skipping.invariant.lines_left ∙ live-skipped s.number (lines s.rest.now) c.in-Some.text.now (lines t.rest.now) c.in-Some.ensures.line yes);
      counted = let a = c.skipping.invariant.counted in let b = c.in-Some.ensures.shorter refl in omega arith;
      passed = let a = c.skipping.invariant.passed in omega arith;
      shorter = let a = c.skipping.invariant.shorter in let b = c.in-Some.ensures.shorter refl in omega arith;
    }

use Rattle.std.proofs.Common.{arith}
use Rattle.std.proofs.lemmas.Grind.{common_steps}
use Rattle.std.proofs.lemmas.List.{take_rest}
use Rattle.script_play.proofs.LineFacts.{lines-cut, lines-last, lines-none}
use Rattle.script_play.proofs.lines.Lines.read.Goals as goal

pub returns-then-is_empty-clause-line : goal.returns-then-is_empty-clause-line
returns-then-is_empty-clause-line c = grind (arith, common_steps, lines-none c.args.self.now.rest.now)

pub returns-in-Some-clause-line : goal.returns-in-Some-clause-line
returns-in-Some-clause-line c = let text = c.args.self.now.rest.now in rw (take_rest text) (grind (arith, common_steps, lines-cut text))

pub returns-in-None-clause-line : goal.returns-in-None-clause-line
returns-in-None-clause-line c = let text = c.args.self.now.rest.now in grind (arith, common_steps, lines-last text, lines-none)

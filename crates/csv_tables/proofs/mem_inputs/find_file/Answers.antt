use Rattle.std.proofs.Common.{◌∙◌, sym}
use Rattle.csv_tables.proofs.MemoryFacts.{held-hit, held-miss, held-past}
use Rattle.csv_tables.proofs.mem_inputs.find_file.Goals as goal

pub returns-then-eq-clause-there : goal.returns-then-eq-clause-there
returns-then-eq-clause-there c =
    let hit = rw c.as_str.ensures.value at (sym c.eq.ensures ∙ c.if-eq.true) in
    c.files.invariant ∙ held-hit c.args.files.now c.files.i c.index-files-i.result c.args.name.now c.files-test.true c.index-files-i.is hit

pub files-preserved : goal.files-preserved
files-preserved c =
    let miss = rw c.as_str.ensures.value at (sym c.eq.ensures ∙ c.if-eq.false) in
    c.files.invariant ∙ held-miss c.args.files.now c.files.i c.index-files-i.result c.args.name.now c.files-test.true c.index-files-i.is miss

pub returns-clause-missing : goal.returns-clause-missing
returns-clause-missing c = c.files.invariant ∙ held-past c.args.files.now c.files.i c.args.name.now c.files-test.false

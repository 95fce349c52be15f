use Rattle.std.proofs.Common.{◌∙◌, ◌<◌, length, sym, arith}
use Rattle.csv_tables.proofs.MemoryFacts.{bytes_at-is, bytes_at-past}
use Rattle.csv_tables.proofs.mem_inputs.file_bytes.Goals as goal

pub returns-then-index-files : goal.returns-then-index-files
returns-then-index-files c = sym (bytes_at-past c.args.files.now c.args.index c.if-index-files.true)

pub returns : goal.returns
returns c =
    let lt : c.args.index < length c.args.files.now = omega arith in
    c.as_slice.ensures.value ∙ sym (bytes_at-is c.args.files.now c.args.index c.index-files-index.result lt c.index-files-index.is)

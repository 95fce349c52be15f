use Rattle.std.proofs.Common.{◌≡◌, ◌+◌, ◌-◌, length, drop, arith}
use Rattle.std.proofs.lemmas.List.{length-take}
use Rattle.csv_tables.proofs.MemoryFacts.{read-piece}
use Rattle.csv_tables.proofs.mem_inputs.read_at.Goals as goal

pub returns-clause-bytes : goal.returns-clause-bytes
returns-clause-bytes c =
    let n = c.min-count.result in
    let after = rw c.file_bytes-bytes.ensures at c.copy_from_slice.ensures.after in
    let same : (c.in-Some.at + n) - c.in-Some.at ≡ n = omega arith in
    let taken = length-take n c.args.into.now in
    let size : length c.copy_from_slice.new.self ≡ n = omega arith in
    rw c.in-Some.is (read-piece _ c.copy_from_slice.new.self (drop n c.args.into.now) c.in-Some.at n _ after same size)

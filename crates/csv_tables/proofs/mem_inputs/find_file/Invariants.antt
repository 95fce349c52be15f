use Rattle.std.proofs.Common.{◌≡◌, drop}
use Rattle.csv_tables.specs.Memory.{held_in}
use Rattle.csv_tables.proofs.mem_inputs.find_file.Given as goal

abbrev pub invariant-files : goal.invariant-files
invariant-files l = held_in l.files l.name ≡ held_in (drop l.i l.files) l.name

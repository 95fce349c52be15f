use Rattle.std.proofs.Common.{◌≡◌, take}
use Rattle.std.specs.List.{flat_map}
use Rattle.std.specs.Io.KnownBytes.{Appends}
use Rattle.csv_tables.specs.RowWriter.{IsAtRow}
use Rattle.csv_tables.specs.Text.{pair_text}
use Rattle.csv_tables.proofs.printing.print_pairs.Given as goal

abbrev pub invariant-pairs : goal.invariant-pairs
invariant-pairs g l = record {
  at_row : IsAtRow l.writer;
  taken : Appends (g.S.Sink.taken l.fn.out) (g.S.Sink.taken l.out) (flat_map (pair_text l.outer l.inner) (take l.pair-index l.pairs));
  faults : g.S.Sink.faults l.out ≡ g.S.Sink.faults l.fn.out;
  capacity : g.S.Sink.capacity l.out ≡ g.S.Sink.capacity l.fn.out;
}

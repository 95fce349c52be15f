use Rattle.std.proofs.Common.{[], refl}
use Rattle.std.proofs.lemmas.Result.{err_from_is_err_and}
use Rattle.csv_tables.proofs.SinkFacts.{appends-none, prints_after, prints_cut}
use Rattle.csv_tables.proofs.printing.print_counted.Goals as goal

pub returns-in_err-print_row-clause-prints : goal.returns-in_err-print_row-clause-prints
returns-in_err-print_row-clause-prints g c =
    let p = err_from_is_err_and c.from_residual.result c.from_residual.ensures.1 in
    rw (p.1, p.2) (prints_cut _ _ _ _ _ _ [] _ _ _ _ refl (appends-none (g.S.Sink.taken c.args.out.now)) refl c.in_err-print_row.ensures.prints)

pub returns-clause-prints : goal.returns-clause-prints
returns-clause-prints g c = prints_after _ _ _ _ _ _ _ _ c.print_pairs.result c.in_ok-print_row.ensures.prints.0 c.in_ok-print_row.ensures.prints.1 c.print_pairs.ensures.prints

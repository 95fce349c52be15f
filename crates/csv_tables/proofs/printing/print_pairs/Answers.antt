use Rattle.std.proofs.Common.{◌∙◌, ◌<◌, length, arith}
use Rattle.row_model.specs.declared.Pair.{Pair}
use Rattle.std.proofs.lemmas.Result.{err_from_is_err_and}
use Rattle.csv_tables.specs.Text.{pair_text}
use Rattle.csv_tables.proofs.SinkFacts.{appends-more, flat_map-more, front_after, prints_cut, flat_map-halves, flat_map-split}
use Rattle.csv_tables.proofs.printing.print_pairs.Goals as goal

pub returns-in_err-writer-clause-prints : goal.returns-in_err-writer-clause-prints
returns-in_err-writer-clause-prints g c =
    let p = err_from_is_err_and c.from_residual.result c.from_residual.ensures.1 in
    let text = pair_text c.args.outer.now c.args.inner.now in
    rw (p.1, p.2, flat_map-halves text c.args.pairs.now c.pairs.pair-index) (front_after _ _ _ _ c.pairs.invariant.taken, c.pairs.invariant.faults)

pub returns-in_err-print_row-clause-prints : goal.returns-in_err-print_row-clause-prints
returns-in_err-print_row-clause-prints g c =
    let p = err_from_is_err_and c.from_residual-in_err-print_row.result c.from_residual-in_err-print_row.ensures.1 in
    let text = pair_text c.args.outer.now c.args.inner.now in
    let i = c.pairs.pair-index in
    let none : Pair = record { outer = 0; inner = 0 } in
    let lt : i < length c.args.pairs.now = omega arith in
    rw (p.1, p.2)
    (prints_cut _ _ _ _ _ _ _ _ _ _ _ (flat_map-split text c.args.pairs.now i none lt) c.pairs.invariant.taken c.pairs.invariant.faults c.in_err-print_row.ensures.prints)

pub pairs-preserved : goal.pairs-preserved
pairs-preserved g c =
    let text = pair_text c.args.outer.now c.args.inner.now in
    let none : Pair = record { outer = 0; inner = 0 } in
    let lt : c.pairs.pair-index < length c.args.pairs.now = omega arith in
    record {
      at_row = c.in_ok-print_row.ensures.at_row;
      taken = appends-more _ _ _ _ _ _ c.pairs.invariant.taken c.in_ok-print_row.ensures.prints.0 (flat_map-more text c.args.pairs.now c.pairs.pair-index none lt);
      faults = c.in_ok-print_row.ensures.prints.1 ∙ c.pairs.invariant.faults;
      capacity = c.in_ok-print_row.ensures.capacity ∙ c.pairs.invariant.capacity;
    }

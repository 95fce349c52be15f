use Rattle.std.proofs.Common.{◌≡◌, ◌∙◌, length, arith, rules}
use Rattle.std.proofs.lemmas.Result.{err_from_is_err_and}
use Rattle.csv.specs.Writing.{writer_under}
use Rattle.csv_tables.proofs.RowWriterFacts.{row-behind, row-ends, row-within}
use Rattle.csv_tables.proofs.printing.print_row.Goals as goal

pub write_fields-requires-2-clause-few : goal.write_fields-requires-2-clause-few
write_fields-requires-2-clause-few g c = omega (arith, c.in_ok-write_fields.ensures.few, c.requires.at_row.count)

pub split_at-requires : goal.split_at-requires
split_at-requires g c =
    let text = (writer_under c.args.writer.now).items in
    let ends = row-ends _ _ _ _ _ _ c.requires.at_row c.in_ok-write_fields.ensures.fields c.in_ok-write_fields-2.ensures.fields c.in_ok-end_row.ensures.row c.in_ok-end_row.ensures.at_row in
    let whole = rw c.get_ref-2.ensures at c.deref.ensures.value ∙ ends.written in
    let start : c.len-start.result ≡ length text = search rules in
    row-within _ _ _ _ whole start

pub returns-in_err-write_all-clause-prints : goal.returns-in_err-write_all-clause-prints
returns-in_err-write_all-clause-prints g c =
    let text = (writer_under c.args.writer.now).items in
    let ends = row-ends _ _ _ _ _ _ c.requires.at_row c.in_ok-write_fields.ensures.fields c.in_ok-write_fields-2.ensures.fields c.in_ok-end_row.ensures.row c.in_ok-end_row.ensures.at_row in
    let whole = rw c.get_ref-2.ensures at c.deref.ensures.value ∙ ends.written in
    let start : c.len-start.result ≡ length text = search rules in
    let row = c.split_at.ensures.back ∙ row-behind _ _ _ _ whole start in
    let p = err_from_is_err_and c.from_residual-in_err-write_all.result c.from_residual-in_err-write_all.ensures.1 in
    rw (p.1, p.2) (rw row at c.in_err-write_all.ensures.err, c.in_err-write_all.ensures.cause.failed)

pub returns-clause-at_row : goal.returns-clause-at_row
returns-clause-at_row g c =
    (row-ends _ _ _ _ _ _ c.requires.at_row c.in_ok-write_fields.ensures.fields c.in_ok-write_fields-2.ensures.fields c.in_ok-end_row.ensures.row c.in_ok-end_row.ensures.at_row).at_row

pub returns-clause-prints : goal.returns-clause-prints
returns-clause-prints g c =
    let text = (writer_under c.args.writer.now).items in
    let ends = row-ends _ _ _ _ _ _ c.requires.at_row c.in_ok-write_fields.ensures.fields c.in_ok-write_fields-2.ensures.fields c.in_ok-end_row.ensures.row c.in_ok-end_row.ensures.at_row in
    let whole = rw c.get_ref-2.ensures at c.deref.ensures.value ∙ ends.written in
    let start : c.len-start.result ≡ length text = search rules in
    let row = c.split_at.ensures.back ∙ row-behind _ _ _ _ whole start in
    (rw row at c.in_ok-write_all.ensures.ok, c.in_ok-write_all.ensures.cause.kept)

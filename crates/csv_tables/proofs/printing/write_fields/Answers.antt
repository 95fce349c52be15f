use Rattle.std.proofs.Common.{◌∙◌, ◌≢◌, ◌++◌, ◌∷◌, [], ◌+◌, ◌<◌, ◌^◌, length, take, sym, arith}
use Rattle.std.specs.Prelude.{OnOk}
use Rattle.std.proofs.lemmas.List.{append_assoc, take_more}
use Rattle.csv.specs.Writing.{writer_setup}
use Rattle.csv.specs.declared.writer.QuoteStyle.TheVariants as style
use Rattle.csv_tables.specs.Text.{fields_at}
use Rattle.csv_tables.proofs.ReadFacts.{on_ok_false}
use Rattle.csv_tables.proofs.RowWriterFacts.{field-is, fields-more, width-at}
use Rattle.csv_tables.proofs.printing.write_fields.Goals as goal

pub columns-preserved : goal.columns-preserved
columns-preserved g c =
    let fine = sym c.is_err.ensures.value ∙ c.if-is_err.false in
    let ok = λ (P : Type 0) (h : OnOk c.write_field.result P). on_ok_false c.write_field.result P fine h in
    let e = c.write_field.ensures in
    let count = ok _ e.count in
    let row = fields_at c.args.rows.now c.args.at in
    let i = c.columns.column in
    let wide = width-at c.args.rows.now c.args.at c.width-column-end.result c.requires.row c.width-column-end.ensures.width c.width-column-end.ensures.even in
    let lt : i < length row = rw wide c.columns-test.true in
    let field = field-is c.args.rows.now c.args.at i c.field.result.now c.field.ensures.field in
    record {
      few = rw count (omega (arith, c.columns.invariant.few));
      fields = λ text fields start.
          let has = c.columns.invariant.fields text fields start in
          let few : length (fields ++ take i row) + 1 < 2 ^ 64 = omega (arith, has.count, c.columns.invariant.few, c.requires.few) in
          let plain : (writer_setup c.columns.writer).style ≢ style.NonNumeric = rw has.setup (λ h. cc h) in
          let more = fields-more c.columns.writer c.write_field.new.self text (fields ++ take i row) c.field.result.now has few
          (rw has.setup at (ok _ e.text plain)) (ok _ e.same) count (λ shown. rw has.setup at (ok _ e.wrote shown plain)) (ok _ e.stays) in
          rw (take_more row i [] lt, field, ← (append_assoc fields (take i row) (c.field.result.now ∷ []))) more;
    }

use Rattle.std.proofs.Common.{Bor, List, ℕ, ◌∙◌, sym, refl, inl, inr, rules, Some, ◌∷◌, ◌++◌, [], arith}
use Rattle.std.proofs.lemmas.List.{length-append}
use Rattle.std.proofs.lemmas.Result.{err_from_is_err_and}
use Rattle.csv.specs.Reading.{Reached, default_config, strip_bom}
use Rattle.csv.specs.Records.{fields_of}
use Rattle.csv.specs.declared.parser.State.TheVariants as st
use Rattle.csv.proofs.ReadFacts.{rows-end, rows-more}
use Rattle.row_model.specs.Form.{fault_so_far}
use Rattle.row_model.proofs.FormFacts.{form-front}
use Rattle.csv_tables.proofs.LoadFacts.{finishes-text, refused-text}
use Rattle.csv_tables.proofs.RecordFacts.{reached-records, reached-some, records-few, all-records}
use Rattle.csv_tables.proofs.tables.load_text.Goals as goal

pub records-init : goal.records-init
unfolding Reached fault_so_far
records-init c =
    let fr = c.from_reader-reader.ensures in
    let h = c.has_headers.ensures in
    let f = c.flexible.ensures in
    rw c.in_ok-builder.ensures (record {
      trims = rw (f, h) at fr.trim ∙ c.new-2.ensures.trim;
      flexible = rw f at fr.flexible;
      ready = inr (inr (rw (f, h) at fr.has_headers, fr.headers));
      config = rw (f, h) at fr.config ∙ c.new-2.ensures.config;
      key = c.as_bytes.ensures.value;
      fresh = refl;
      clean = refl;
      fine = refl;
      count = refl;
      reached = (strip_bom c.args.text.now, fr.source, (sym fr.state, refl));
    })

pub add_record-requires-clause-some : goal.add_record-requires-clause-some
add_record-requires-clause-some c =
    let inv = c.records.invariant in
    let read = rw c.in-Ok-true.field-0-test at (c.in-Ok-true.ensures.reads inv.trims inv.ready) in
    let row = fields_of c.read_byte_record.new.row in
    let m = rows-more (λ (s : Bor (List ℕ)). Some s.now) c.records.reader c.read_byte_record.new.self row default_config st.StartRecord (strip_bom c.args.text.now) inv.reached.0 c.records.builder.records inv.config inv.reached.1 inv.reached.2 read in
    reached-some st.StartRecord (strip_bom c.args.text.now) c.records.builder.records row c.read_byte_record.new.self.state m.0 m.2

pub records-preserved : goal.records-preserved
records-preserved c =
    let inv = c.records.invariant in
    let read = rw c.in-Ok-true.field-0-test at (c.in-Ok-true.ensures.reads inv.trims inv.ready) in
    let row = fields_of c.read_byte_record.new.row in
    let m = rows-more (λ (s : Bor (List ℕ)). Some s.now) c.records.reader c.read_byte_record.new.self row default_config st.StartRecord (strip_bom c.args.text.now) inv.reached.0 c.records.builder.records inv.config inv.reached.1 inv.reached.2 read in
    let size = length-append c.records.builder.records (row ∷ []) in
    rw c.in_ok-add_record-in-Ok-true.ensures.added (record {
      trims = read.3 ∙ inv.trims;
      flexible = c.in-Ok-true.ensures.flexible ∙ inv.flexible;
      ready = inl (c.in-Ok-true.ensures.ready inv.trims);
      config = read.2 ∙ inv.config;
      key = inv.key;
      fresh = inv.fresh;
      clean = inv.clean;
      fine = c.in_ok-add_record-in-Ok-true.ensures.fine;
      count = omega (arith, size, inv.count);
      reached = m;
    })

pub unreachable-requires : goal.unreachable-requires
unreachable-requires c =
    let inv = c.records.invariant in
    omega (arith, inv.count, records-few c.args.text.now c.records.builder.records c.records.reader.state inv.reached.0 inv.reached.2)

pub returns-in-Ok-false : goal.returns-in-Ok-false
returns-in-Ok-false c =
    let inv = c.records.invariant in
    let read = rw c.in-Ok-false.field-0-test at (c.in-Ok-false.ensures.reads inv.trims inv.ready) in
    let end = rows-end (λ (s : Bor (List ℕ)). Some s.now) c.records.reader c.read_byte_record.new.self _ default_config inv.reached.0 inv.config inv.reached.1 read in
    let all = all-records c.args.text.now c.records.builder.records (c.records.reader.state, inv.reached.0, inv.reached.2, end) in
    finishes-text c.records.builder c.args.key.now c.args.text.now c.finish.result inv.clean inv.key all c.finish.ensures

pub returns-in_err-add_record-in-Ok-true : goal.returns-in_err-add_record-in-Ok-true
returns-in_err-add_record-in-Ok-true c =
    let inv = c.records.invariant in
    let read = rw c.in-Ok-true.field-0-test at (c.in-Ok-true.ensures.reads inv.trims inv.ready) in
    let row = fields_of c.read_byte_record.new.row in
    let m = rows-more (λ (s : Bor (List ℕ)). Some s.now) c.records.reader c.read_byte_record.new.self row default_config st.StartRecord (strip_bom c.args.text.now) inv.reached.0 c.records.builder.records inv.config inv.reached.1 inv.reached.2 read in
    let front = reached-records c.args.text.now (c.records.builder.records ++ row ∷ []) c.read_byte_record.new.self.state m.0 m.2 in
    let given = err_from_is_err_and c.from_residual-in_err-add_record-in-Ok-true.result c.from_residual-in_err-add_record-in-Ok-true.ensures.1 in
    rw given.1 (refused-text c.args.key.now c.args.text.now given.0 (λ f is.
    let bad = c.in_err-add_record-in-Ok-true.ensures.bad f (search rules) in
    rw front.1 (form-front c.args.key.now (c.records.builder.records ++ row ∷ []) front.0 f (rw inv.key at bad))))

-- Laws of a writer of rows.
use Rattle.std.proofs.Common.{◌≡◌, ◌∙◌, ℕ, ◌+◌, ◌-◌, ◌^◌, ◌<◌, ◌≤◌, true, false, List, [], ◌∷◌, ◌++◌, length, drop, get_or, Option, Some, None, refl, sym, arith}
use Rattle.std.specs.Prelude.{◌==◌, min, not, ⊤}
use Rattle.std.specs.Option.{MatchOption}
use Rattle.std.proofs.lemmas.List.{append-nil, append_assoc, drop_at, length-append}
use Rattle.csv.specs.Writing.{default_writer, field_text, fields_written, has_written, is_blank, next_sep, row_body, row_text, writer_setup, writer_under}
use Rattle.csv.proofs.WriteFacts.{blank-more, row-more}
use Rattle.row_model.specs.Table.{Table, field_of}
use Rattle.csv_tables.specs.RowWriter.{text_of, HasFields, IsAtRow, RowWriter}
use Rattle.csv_tables.specs.Text.{fields_at}

pub fields-none : (w : RowWriter) → IsAtRow w → HasFields w (writer_under w).items []
unfolding is_blank
fields-none w at_row = record {
  setup = at_row.setup;
  written = rw at_row.pending refl;
  count = at_row.count;
  shown = rw at_row.shown refl;
}

pub fields-more : (old new : RowWriter) (text : List ℕ) (fields : List (List ℕ)) (field : List ℕ) → HasFields old text fields → length fields + 1 < 2 ^ 64
    → text_of new ≡ text_of old ++ (next_sep default_writer (fields_written old) ++ field_text default_writer field)
    → writer_setup new ≡ writer_setup old
    → fields_written new ≡ min (fields_written old + 1) (2 ^ 64 - 1)
    → (has_written old ≡ false → has_written new ≡ not (length (field_text default_writer field) == 0))
    → (has_written old ≡ true → has_written new ≡ true)
    → HasFields new text (fields ++ field ∷ [])
fields-more old new text fields field has few bytes same count wrote stays =
    let size = length-append fields (field ∷ []) in
    record {
      setup = same ∙ has.setup;
      written = rw (bytes, has.count, has.written, append_assoc text (row_body default_writer fields) (next_sep default_writer (length fields) ++ field_text default_writer field), ← (row-more default_writer fields field)) refl;
      count = rw (count, has.count) (omega (arith, size));
      shown = rw size (blank-more default_writer fields field (has_written old) (has_written new) has.shown wrote stays);
    }

-- the field that a call of `field` shows
pub field-is : (t : Table) (at : Option ℕ) (column : ℕ) (field : List ℕ) → MatchOption at (field ≡ get_or t.header column []) (λ r. field ≡ field_of t r column)
    → get_or (fields_at t at) column [] ≡ field
field-is t None column field h = sym h
field-is t (Some r) column field h = sym h

-- each row is as wide as the header
pub width-at : (t : Table) (at : Option ℕ) (width : ℕ) → MatchOption at ⊤ (λ r. r < length t.rows) → width ≡ length t.header
    → ((r : ℕ) → r < length t.rows → length (get_or t.rows r []) ≡ width) → length (fields_at t at) ≡ width
width-at t None width row is even = sym is
width-at t (Some r) width row is even = even r row

-- a text and then a row are all that was written, and lie in the memory
pub record EndsWith (w : RowWriter) (text row : List ℕ) : Type 0 where
  pub at_row : IsAtRow w
  pub written : (writer_under w).items ≡ text ++ row

-- a writer to which the fields of two rows were added, and which then ended the row
pub row-ends : (start first second end : RowWriter) (outer inner : List (List ℕ)) → IsAtRow start
    → ((text : List ℕ) (fields : List (List ℕ)) → HasFields start text fields → HasFields first text (fields ++ outer))
    → ((text : List ℕ) (fields : List (List ℕ)) → HasFields first text fields → HasFields second text (fields ++ inner))
    → ((text : List ℕ) (fields : List (List ℕ)) → HasFields second text fields → text_of end ≡ text ++ row_text default_writer fields)
    → ((text : List ℕ) (fields : List (List ℕ)) → HasFields second text fields → IsAtRow end)
    → EndsWith end (writer_under start).items (row_text default_writer (outer ++ inner))
row-ends start first second end outer inner at_row add_outer add_inner written ended =
    let text = (writer_under start).items in
    let both = add_inner text outer (add_outer text [] (fields-none start at_row)) in
    let done = ended text (outer ++ inner) both in
    record {
      at_row = done;
      written = sym (append-nil (writer_under end).items) ∙ rw done.pending at (written text (outer ++ inner) both);
    }

-- the row behind a text
pub row-within : (whole text row : List ℕ) (start : ℕ) → whole ≡ text ++ row → start ≡ length text → start ≤ length whole
row-within whole text row start is size = rw is (omega (arith, length-append text row))

pub row-behind : (whole text row : List ℕ) (start : ℕ) → whole ≡ text ++ row → start ≡ length text → drop start whole ≡ row
row-behind whole text row start is size = rw is (drop_at text row start (sym size))

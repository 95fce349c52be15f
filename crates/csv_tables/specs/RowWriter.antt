-- A writer of rows into memory.
use Rattle.std.specs.Prelude.{◌≡◌, ◌==◌, ◌&&◌, ◌||◌, ℕ, List, [], ◌++◌, length, false, not, Vec}
use Rattle.std.specs.declared.alloc.Global.{Global}
use Rattle.csv.specs.Writing.{default_writer, fields_written, has_written, is_blank, row_body, writer_pending, writer_setup, writer_under}
use Rattle.csv.specs.declared.writer.Writer.{Writer}

abbrev pub RowWriter : Type 0
RowWriter = Writer (Vec ℕ Global)

-- all that was written
abbrev pub text_of : RowWriter → List ℕ
text_of w = (writer_under w).items ++ writer_pending w

-- after this text it is writing a row, which has these fields so far
pub record HasFields (w : RowWriter) (text : List ℕ) (fields : List (List ℕ)) : Type 0 where
  pub setup : writer_setup w ≡ default_writer
  pub written : text_of w ≡ text ++ row_body default_writer fields
  pub count : fields_written w ≡ length fields
  pub shown : is_blank default_writer fields ≡ (not (has_written w) && ((length fields == 0) || (length fields == 1)))

-- it stands between two rows, and all of its text lies in the memory
pub record IsAtRow (w : RowWriter) : Type 0 where
  pub setup : writer_setup w ≡ default_writer
  pub count : fields_written w ≡ 0
  pub shown : has_written w ≡ false
  pub pending : writer_pending w ≡ []

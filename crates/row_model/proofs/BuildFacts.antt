-- Laws of a builder of rows, over plain lists.
use Rattle.std.proofs.Common.{◌≡◌, ◌≢◌, ◌∙◌, ℕ, zero, suc, ◌+◌, ◌-◌, ◌*◌, ◌^◌, ◌<◌, ◌≤◌, List, [], ◌∷◌, ◌++◌, length, take, drop, Option, Some, None, refl, sym, ap, arith, inl, inr}
use Rattle.std.proofs.Math.Nat.{mul-le-mul_right, mul-le-mul_left}
use Rattle.std.proofs.lemmas.Bool.{cases_eq, cases_lt, eq-eqb, ne_eqb, lt-ltb, le-ltb}
use Rattle.std.proofs.lemmas.List.{length-drop, length-take, length-append, take-append-le, drop-append-le, take_all}
use Rattle.row_model.specs.declared.RowFault.{RowFault}
use Rattle.row_model.specs.declared.RowFault.TheVariants as fault
use Rattle.row_model.specs.Table.{Table}
use Rattle.row_model.specs.Form.{column_limit, row_limit, or_else, key_fault, header_fault, row_fault, rows_fault, fault_so_far, form_fault, table_of, column_of}
use Rattle.row_model.specs.Layout.{fields_from, fields_of, Rising, rows_of, ended, refusal_at, refusal_of}
use Rattle.row_model.specs.BuilderLayout.{building, IsBuilding}
use Rattle.row_model.proofs.LayoutFacts.{rising-push, fields_from-push, length-fields_from, rows_of-append, rows_of-more, length-rows_of}

-- an empty builder
pub building-empty : (key : List ℕ) → IsBuilding key [] [] 0 0 0 None
unfolding Rising fault_so_far rows_of
building-empty key = record {
  rising = refl;
  whole = omega arith;
  few = omega arith;
  wide = λ h. absurd (omega arith);
  clean = λ _. refl;
  column = λ _ h. absurd (omega arith);
}

pub view-empty : (key : List ℕ) → building key [] [] 0 0 None ≡ record { key = key; records = []; fields = []; refusal = None }
unfolding rows_of fields_from
view-empty key = refl

-- a header lies before what is pushed
front : (w c : ℕ) (fields : List (List ℕ)) → 0 < c → c * w ≤ length fields → w ≤ length fields
front w c fields some whole = let one : 1 * w ≤ c * w = mul-le-mul_right w (omega arith) in omega arith

-- one more field
pub building-push : (key ends bytes field : List ℕ) (w column c : ℕ) (refusal : Option RowFault) → IsBuilding key ends bytes w column c refusal
    → length ends + 1 < 2 ^ 32
    → IsBuilding key (ends ++ (length bytes + length field) ∷ []) (bytes ++ field) w column c refusal
building-push key ends bytes field w column c refusal h more =
    let push = fields_from-push 0 ends bytes field h.rising in
    let size = length-fields_from 0 ends bytes in
    let whole : c * w ≤ length (fields_of ends bytes) = omega (arith, h.whole) in
    let rows = rows_of-append w c (fields_of ends bytes) (field ∷ []) whole in
    record {
      rising = rw (length-append bytes field) (rising-push 0 ends (length bytes) (length bytes + length field) h.rising (omega arith));
      whole = rw (length-append ends ((length bytes + length field) ∷ [])) (omega (arith, h.whole));
      few = rw (length-append ends ((length bytes + length field) ∷ [])) (omega arith);
      wide = h.wide;
      clean = λ none. rw (push, rows) (h.clean none);
      column = λ none some.
          let le = front w c (fields_of ends bytes) some whole in
          rw (push, take-append-le w (fields_of ends bytes) (field ∷ []) le) (h.column none some);
    }

pub view-push : (key ends bytes field : List ℕ) (w column c : ℕ) (refusal : Option RowFault) → IsBuilding key ends bytes w column c refusal
    → building key (ends ++ (length bytes + length field) ∷ []) (bytes ++ field) w c refusal
    ≡ (let b = building key ends bytes w c refusal in record b { fields = b.fields ++ field ∷ [] })
view-push key ends bytes field w column c refusal h =
    let push = fields_from-push 0 ends bytes field h.rising in
    let size = length-fields_from 0 ends bytes in
    let whole : c * w ≤ length (fields_of ends bytes) = omega (arith, h.whole) in
    rw (push, rows_of-append w c (fields_of ends bytes) (field ∷ []) whole, drop-append-le (c * w) (fields_of ends bytes) (field ∷ []) whole) refl

-- a header that is ended
pub building-header : (key ends bytes : List ℕ) (column : ℕ) → Rising 0 ends (length bytes) → length ends < 2 ^ 32 → 0 < length ends
    → header_fault key (fields_of ends bytes) ≡ None → column < length ends → column ≡ column_of key (fields_of ends bytes)
    → IsBuilding key ends bytes (length ends) column 1 None
unfolding fault_so_far rows_of rows_fault
building-header key ends bytes column rising few some fine inside is =
    let size = length-fields_from 0 ends bytes in
    let all : take (length ends) (fields_of ends bytes) ≡ fields_of ends bytes = take_all (length ends) (fields_of ends bytes) (omega arith) in
    record {
      rising = rising;
      whole = omega arith;
      few = few;
      wide = λ _. some;
      clean = λ _. rw (all, fine) refl;
      column = λ _ _. (inside, rw all is);
    }

pub view-header : (key ends bytes : List ℕ) → building key ends bytes (length ends) 1 None ≡ ended (record { key = key; records = []; fields = fields_of ends bytes; refusal = None })
unfolding rows_of
view-header key ends bytes =
    let size = length-fields_from 0 ends bytes in
    let all : take (length ends) (fields_of ends bytes) ≡ fields_of ends bytes = take_all (length ends) (fields_of ends bytes) (omega arith) in
    let none : drop (1 * length ends) (fields_of ends bytes) ≡ [] = gone (1 * length ends) (fields_of ends bytes) (omega arith) in
    rw (all, none) refl
  where
    gone : (n : ℕ) (xs : List (List ℕ)) → length xs ≤ n → drop n xs ≡ []
    gone zero [] h = refl
    gone zero (x ∷ xs) h = absurd (omega arith)
    gone (suc n) [] h = refl
    gone (suc n) (x ∷ xs) h = gone n xs (omega arith)

-- neither of two faults
parts : (a b : Option RowFault) → or_else a b ≡ None → (a ≡ None) × (b ≡ None)
parts None b h = (refl, h)
parts (Some f) b h = let wrong = h in cc

or_else-none : (a : Option RowFault) → or_else a None ≡ a
or_else-none None = refl
or_else-none (Some f) = refl

-- a row after rows without a fault
rows_fault-next : (w n : ℕ) (rows : List (List (List ℕ))) (row : List (List ℕ)) (at : ℕ) → rows_fault w n rows ≡ None → n + length rows ≡ at
    → rows_fault w n (rows ++ row ∷ []) ≡ row_fault w at row
unfolding rows_fault
rows_fault-next w n [] row at none here = let same : n ≡ at = omega arith in rw same (or_else-none (row_fault w at row))
rows_fault-next w n (r ∷ rows) row at none here =
    let p = parts (row_fault w n r) (rows_fault w (n + 1) rows) none in
    rw p.0 (rows_fault-next w (n + 1) rows row at p.1 (omega arith))

fault-next : (key : List ℕ) (header : List (List ℕ)) (rows : List (List (List ℕ))) (row : List (List ℕ)) (at : ℕ) → fault_so_far key (header ∷ rows) ≡ None
    → 2 + length rows ≡ at → fault_so_far key ((header ∷ rows) ++ row ∷ []) ≡ row_fault (length header) at row
unfolding fault_so_far
fault-next key header rows row at none here =
    let p = parts (header_fault key header) (rows_fault (length header) 2 rows) none in
    rw (p.0) (rows_fault-next (length header) 2 rows row at p.1 here)

-- the record at hand, in numbers
pub length-at_hand : (ends bytes : List ℕ) (w c : ℕ) → length (drop (c * w) (fields_of ends bytes)) ≡ length ends - c * w
length-at_hand ends bytes w c = rw (length-drop (c * w) (fields_of ends bytes), length-fields_from 0 ends bytes) refl

-- what the record at hand is refused for
pub refusal-next : (key ends bytes : List ℕ) (w column c : ℕ) → IsBuilding key ends bytes w column c None → 0 < c
    → refusal_at (building key ends bytes w c None) ≡ row_fault w (c + 1) (drop (c * w) (fields_of ends bytes))
unfolding rows_of
refusal-next key ends bytes w column zero h some = absurd (omega arith)
refusal-next key ends bytes w column (suc k) h some =
    let size = length-fields_from 0 ends bytes in
    let le = front w (suc k) (fields_of ends bytes) some (omega (arith, h.whole)) in
    let head : length (take w (fields_of ends bytes)) ≡ w = rw (length-take w (fields_of ends bytes)) (omega arith) in
    let count = length-rows_of w k (drop w (fields_of ends bytes)) in
    fault-next key (take w (fields_of ends bytes)) (rows_of w k (drop w (fields_of ends bytes))) (drop (suc k * w) (fields_of ends bytes)) (suc k + 1) (h.clean refl) (omega arith)
    ∙ ap (λ (n : ℕ). row_fault n (suc k + 1) (drop (suc k * w) (fields_of ends bytes))) head

-- a row of another length, one row too many, and a row of a table
row_fault-ragged : (w number : ℕ) (row : List (List ℕ)) → length row ≢ w → row_fault w number row ≡ Some (fault.Ragged number)
unfolding row_fault
row_fault-ragged w number row other = rw (ne_eqb (length row) w other) refl

row_fault-past : (w number : ℕ) (row : List (List ℕ)) → length row ≡ w → row_limit + 1 < number → row_fault w number row ≡ Some fault.TooManyRows
unfolding row_fault
row_fault-past w number row even past = rw (eq-eqb (length row) w even, lt-ltb (row_limit + 1) number past) refl

pub row_fault-none : (w number : ℕ) (row : List (List ℕ)) → length row ≡ w → number ≤ row_limit + 1 → row_fault w number row ≡ None
unfolding row_fault
row_fault-none w number row even within = rw (eq-eqb (length row) w even, le-ltb (row_limit + 1) number within) refl

pub refusal-ragged : (key ends bytes : List ℕ) (w column c : ℕ) → IsBuilding key ends bytes w column c None → 0 < c → length ends - c * w ≢ w
    → refusal_at (building key ends bytes w c None) ≡ Some (fault.Ragged (c + 1))
refusal-ragged key ends bytes w column c h some e =
    refusal-next key ends bytes w column c h some ∙ row_fault-ragged w (c + 1) _ (λ same. e (sym (length-at_hand ends bytes w c) ∙ same))

pub refusal-past : (key ends bytes : List ℕ) (w column c : ℕ) → IsBuilding key ends bytes w column c None → 0 < c → length ends - c * w ≡ w → row_limit < c
    → refusal_at (building key ends bytes w c None) ≡ Some fault.TooManyRows
refusal-past key ends bytes w column c h some e past =
    refusal-next key ends bytes w column c h some ∙ row_fault-past w (c + 1) _ (length-at_hand ends bytes w c ∙ e) (omega arith)

pub refusal-even : (key ends bytes : List ℕ) (w column c : ℕ) → IsBuilding key ends bytes w column c None → 0 < c → length ends - c * w ≡ w → c ≤ row_limit
    → refusal_at (building key ends bytes w c None) ≡ None
refusal-even key ends bytes w column c h some e within =
    refusal-next key ends bytes w column c h some ∙ row_fault-none w (c + 1) _ (length-at_hand ends bytes w c ∙ e) (omega arith)

gone : (n : ℕ) (xs : List (List ℕ)) → length xs ≤ n → drop n xs ≡ []
gone zero [] h = refl
gone zero (x ∷ xs) h = absurd (omega arith)
gone (suc n) [] h = refl
gone (suc n) (x ∷ xs) h = gone n xs (omega arith)

pub view-ended : (key ends bytes : List ℕ) (w c : ℕ) → c * w ≤ length ends → length ends - c * w ≡ w
    → building key ends bytes w (c + 1) None ≡ ended (building key ends bytes w c None)
view-ended key ends bytes w c whole e =
    let size = length-fields_from 0 ends bytes in
    let next : c + 1 ≡ suc c = omega arith in
    let all : suc c * w ≡ length (fields_of ends bytes) = omega arith in
    let rest = gone (suc c * w) (fields_of ends bytes) (omega arith) in
    rw (next, rows_of-more w c (fields_of ends bytes) all, rest) refl

pub building-ended : (key ends bytes : List ℕ) (w column c : ℕ) → IsBuilding key ends bytes w column c None → 0 < c → length ends - c * w ≡ w → c ≤ row_limit
    → IsBuilding key ends bytes w column (c + 1) None
building-ended key ends bytes w column c h some e within =
    let size = length-fields_from 0 ends bytes in
    let next : c + 1 ≡ suc c = omega arith in
    let all : suc c * w ≡ length (fields_of ends bytes) = omega (arith, h.whole) in
    record {
      rising = h.rising;
      whole = omega (arith, h.whole);
      few = h.few;
      wide = λ _. h.wide some;
      clean = λ _. rw (next, rows_of-more w c (fields_of ends bytes) all) (refusal-even key ends bytes w column c h some e within);
      column = λ none _. h.column none some;
    }

-- a header of few columns
header_fault-few : (key : List ℕ) (header : List (List ℕ)) → length header ≤ column_limit → header_fault key header ≡ key_fault key header
unfolding header_fault
header_fault-few key header few = rw (le-ltb column_limit (length header) few) refl

header_fault-wide : (key : List ℕ) (header : List (List ℕ)) → column_limit < length header → header_fault key header ≡ Some fault.TooManyColumns
unfolding header_fault
header_fault-wide key header wide = rw (lt-ltb column_limit (length header) wide) refl

-- records without a fault are no more than a table may have, and not wider
rows_fault-few : (w n : ℕ) (rows : List (List (List ℕ))) → rows_fault w n rows ≡ None → n ≤ row_limit + 2 → n + length rows ≤ row_limit + 2
unfolding rows_fault row_fault
rows_fault-few w n [] none within = omega arith
rows_fault-few w n (r ∷ rows) none within =
    let p = parts (row_fault w n r) (rows_fault w (n + 1) rows) none in
    let low : n ≤ row_limit + 1 = elim (cases_lt (row_limit + 1) n) [
      | inl past ↦ elim (cases_eq (length r) w) [
        | inl even ↦ (let wrong = sym (row_fault-past w n r even past) ∙ p.0 in absurd (cc))
        | inr other ↦ (let wrong = sym (row_fault-ragged w n r other) ∙ p.0 in absurd (cc))
      ]
      | inr le ↦ le
    ] in
    let more = rows_fault-few w (n + 1) rows p.1 (omega arith) in
    omega arith

header_fault-narrow : (key : List ℕ) (header : List (List ℕ)) → header_fault key header ≡ None → length header ≤ column_limit
header_fault-narrow key header none = elim (cases_lt column_limit (length header)) [
  | inl wide ↦ (let wrong = sym (header_fault-wide key header wide) ∙ none in absurd (cc))
  | inr le ↦ le
]

pub building-few : (key ends bytes : List ℕ) (w column c : ℕ) → IsBuilding key ends bytes w column c None → 0 < c → (c - 1 ≤ row_limit) × (w ≤ column_limit)
unfolding rows_of fault_so_far
building-few key ends bytes w column zero h some = absurd (omega arith)
building-few key ends bytes w column (suc k) h some =
    let size = length-fields_from 0 ends bytes in
    let header = take w (fields_of ends bytes) in
    let rows = rows_of w k (drop w (fields_of ends bytes)) in
    let le = front w (suc k) (fields_of ends bytes) some (omega (arith, h.whole)) in
    let head : length header ≡ w = rw (length-take w (fields_of ends bytes)) (omega arith) in
    let count = length-rows_of w k (drop w (fields_of ends bytes)) in
    let p = parts (header_fault key header) (rows_fault (length header) 2 rows) (h.clean refl) in
    (omega (arith, rows_fault-few (length header) 2 rows p.1 (omega arith)), omega (arith, header_fault-narrow key header p.0))

-- all the records as a table
pub finished : (key ends bytes : List ℕ) (w column c : ℕ) → IsBuilding key ends bytes w column c None → 0 < c
    → (refusal_of (building key ends bytes w c None) ≡ None)
    × (◌≡◌ {A = Table} (record { header = take w (fields_of ends bytes); rows = rows_of w (c - 1) (drop w (fields_of ends bytes)); column = column })
    (table_of (rows_of w c (fields_of ends bytes)) key))
unfolding rows_of form_fault table_of
finished key ends bytes w column zero h some = absurd (omega arith)
finished key ends bytes w column (suc k) h some =
    let less : suc k - 1 ≡ k = omega arith in
    let at = (h.column refl some).1 in
    (h.clean refl, rw (less, at) refl)

-- where no record was ended
pub at_start : (w c : ℕ) (fields : List (List ℕ)) → rows_of w c fields ≡ [] → c ≡ 0
at_start w c fields e = sym (length-rows_of w c fields) ∙ ap length e

pub header-few : (key ends bytes : List ℕ) → length ends ≤ column_limit → header_fault key (fields_of ends bytes) ≡ key_fault key (fields_of ends bytes)
header-few key ends bytes few = header_fault-few key (fields_of ends bytes) (rw (length-fields_from 0 ends bytes) few)

pub header-wide : (key ends bytes : List ℕ) → column_limit < length ends → header_fault key (fields_of ends bytes) ≡ Some fault.TooManyColumns
header-wide key ends bytes wide = header_fault-wide key (fields_of ends bytes) (rw (length-fields_from 0 ends bytes) wide)

pub refusal-header : (key ends bytes : List ℕ) (w : ℕ) → header_fault key (fields_of ends bytes) ≡ None → refusal_at (building key ends bytes w 0 None) ≡ None
unfolding fault_so_far rows_fault rows_of
refusal-header key ends bytes w fine = let none : 0 * w ≡ 0 = omega arith in rw (none, fine) refl

pub refused-header : (key ends bytes : List ℕ) (w : ℕ) (f : RowFault) → header_fault key (fields_of ends bytes) ≡ Some f → refusal_at (building key ends bytes w 0 None) ≡ Some f
unfolding fault_so_far rows_fault rows_of
refused-header key ends bytes w f bad = let none : 0 * w ≡ 0 = omega arith in rw (none, bad) refl

pub ended-header : (key ends bytes : List ℕ) (w : ℕ) → building key ends bytes (length ends) 1 None ≡ ended (building key ends bytes w 0 None)
unfolding rows_of
ended-header key ends bytes w = let none : 0 * w ≡ 0 = omega arith in rw none (view-header key ends bytes)

pub finished-empty : (key ends bytes : List ℕ) (w : ℕ) → refusal_of (building key ends bytes w 0 None) ≡ Some fault.NoHeader
unfolding rows_of form_fault
finished-empty key ends bytes w = refl

pub no_rows : (w c : ℕ) (fields : List (List ℕ)) → c ≡ 0 → rows_of w c fields ≡ []
unfolding rows_of
no_rows w c fields e = rw e refl

-- with a field at hand there are fewer records than a number of 32 bits counts
pub few_rows : (key ends bytes : List ℕ) (w at c : ℕ) (refusal : Option RowFault) → IsBuilding key ends bytes w at c refusal
    → 0 < length (drop (c * w) (fields_of ends bytes)) → c + 1 < 2 ^ 32
few_rows key ends bytes w at zero refusal h some = omega arith
few_rows key ends bytes w at (suc c) refusal h some =
    let size = length-at_hand ends bytes w (suc c) in
    let wide = h.wide (omega arith) in
    let many : suc c * 1 ≤ suc c * w = mul-le-mul_left (suc c) wide in
    omega (arith, h.few, h.whole)

pub same_table : (a b : Table) → a.header ≡ b.header → a.rows ≡ b.rows → a.column ≡ b.column → a ≡ b
same_table a b h r c =
    ap (λ (x : List (List ℕ)). table x a.rows a.column) h
    ∙ ap (λ (x : List (List (List ℕ))). table b.header x a.column) r
    ∙ ap (λ (x : ℕ). table b.header b.rows x) c
  where
    table : List (List ℕ) → List (List (List ℕ)) → ℕ → Table
    table x y z = record { header = x; rows = y; column = z }

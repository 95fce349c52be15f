-- A fault of the first records is the fault of all.
use Rattle.std.proofs.Common.{◌≡◌, ℕ, ◌+◌, List, [], ◌∷◌, ◌++◌, length, Option, Some, None}
use Rattle.row_model.specs.declared.RowFault.{RowFault}
use Rattle.row_model.specs.Form.{or_else, header_fault, row_fault, rows_fault, fault_so_far, form_fault}

or_else-more : (a b c : Option RowFault) (f : RowFault) → (b ≡ Some f → c ≡ Some f) → or_else a b ≡ Some f → or_else a c ≡ Some f
or_else-more None b c f more e = more e
or_else-more (Some g) b c f more e = e

pub rows_fault-append : (w n : ℕ) (xs ys : List (List (List ℕ))) (f : RowFault) → rows_fault w n xs ≡ Some f → rows_fault w n (xs ++ ys) ≡ Some f
unfolding rows_fault
rows_fault-append w n [] ys f e = cc
rows_fault-append w n (r ∷ xs) ys f e =
    or_else-more (row_fault w n r) (rows_fault w (n + 1) xs) (rows_fault w (n + 1) (xs ++ ys)) f (λ more. rows_fault-append w (n + 1) xs ys f more) e

pub fault-append : (key : List ℕ) (xs ys : List (List (List ℕ))) (f : RowFault) → fault_so_far key xs ≡ Some f → fault_so_far key (xs ++ ys) ≡ Some f
unfolding fault_so_far
fault-append key [] ys f e = cc
fault-append key (h ∷ xs) ys f e =
    or_else-more (header_fault key h) (rows_fault (length h) 2 xs) (rows_fault (length h) 2 (xs ++ ys)) f (λ more. rows_fault-append (length h) 2 xs ys f more) e

pub form-front : (key : List ℕ) (xs rest : List (List (List ℕ))) (f : RowFault) → fault_so_far key xs ≡ Some f → form_fault (xs ++ rest) key ≡ Some f
unfolding form_fault fault_so_far
form-front key [] rest f e = cc
form-front key (h ∷ xs) rest f e = fault-append key (h ∷ xs) rest f e

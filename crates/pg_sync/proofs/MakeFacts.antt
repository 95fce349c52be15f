-- Laws of the generator, of the tables that it makes, and of the total of their pairs.
use Rattle.std.proofs.Common.{◌≡◌, ◌∙◌, ℕ, zero, suc, ◌+◌, ◌≤◌, List, [], ◌∷◌, ◌++◌, length, map, take, drop, codes, None, Option, refl, sym, ap, subst, zero-add, arith}
use Rattle.std.proofs.lemmas.List.{length-map, map-append}
use Rattle.row_model.specs.declared.Pair.{Pair}
use Rattle.row_model.specs.Table.{Table, nested_loop}
use Rattle.row_model.specs.Form.{header_fault, key_fault, fault_so_far, form_fault, row_limit, rows_fault, table_of}
use Rattle.row_model.specs.Layout.{Building}
use Rattle.row_model.proofs.BuildFacts.{row_fault-none}
use Rattle.pg_sync.specs.declared.status.Status.{Status}
use Rattle.pg_sync.specs.Answer.{JoinShows}
use Rattle.pg_sync.specs.Tallies.{made_sizes, table_sizes}
use Rattle.pg_sync.specs.Make.{drawn_key, drawn_table, made_inner, made_outer, made_pairs, made_text, next_state, pairs_text, state_after, states_after}

-- the generator's states, cut in two
states-split : (x m n : ℕ) → states_after x (m + n) ≡ states_after x m ++ states_after (state_after x m) n
unfolding states_after state_after
states-split x zero n = rw (zero-add n) refl
states-split x (suc m) n =
    let more : suc m + n ≡ suc (m + n) = omega arith in
    rw more (ap (λ (t : List ℕ). next_state x ∷ t) (states-split (next_state x) m n))

pub length-states : (x n : ℕ) → length (states_after x n) ≡ n
unfolding states_after
length-states x zero = refl
length-states x (suc n) = ap suc (length-states (next_state x) n)

pub state-more : (x n : ℕ) → state_after x (n + 1) ≡ next_state (state_after x n)
unfolding state_after
state-more x zero = refl
state-more x (suc n) =
    let more : suc n + 1 ≡ suc (n + 1) = omega arith in
    rw more (state-more (next_state x) n)

states-more : (x n : ℕ) → states_after x (n + 1) ≡ states_after x n ++ next_state (state_after x n) ∷ []
unfolding states_after
states-more x n = states-split x n 1

pub states-start : (x : ℕ) → states_after x 0 ≡ []
unfolding states_after
states-start x = refl

pub state-start : (x : ℕ) → state_after x 0 ≡ x
unfolding state_after
state-start x = refl

-- the rows that states draw
abbrev pub drawn_rows : ℕ → List ℕ → List (List (List ℕ))
drawn_rows keys states = map (λ x. drawn_key keys x ∷ []) states

-- the records of a table of drawn keys
abbrev pub drawn_records : ℕ → List ℕ → List (List (List ℕ))
drawn_records keys states = (codes "k" ∷ []) ∷ drawn_rows keys states

drawn_rows-fine : (keys n : ℕ) (states : List ℕ) → n + length states ≤ row_limit + 2 → rows_fault 1 n (drawn_rows keys states) ≡ None
unfolding rows_fault
drawn_rows-fine keys n [] few = refl
drawn_rows-fine keys n (x ∷ states) few =
    rw (row_fault-none 1 n (drawn_key keys x ∷ []) refl (omega arith)) (drawn_rows-fine keys (n + 1) states (omega arith))

pub drawn_records-fine : (keys : ℕ) (states : List ℕ) → length states ≤ row_limit → fault_so_far (codes "k") (drawn_records keys states) ≡ None
unfolding fault_so_far header_fault key_fault
drawn_records-fine keys states few = drawn_rows-fine keys 2 states (omega arith)

drawn_records-more : (keys : ℕ) (states : List ℕ) (x : ℕ) → drawn_records keys states ++ (drawn_key keys x ∷ []) ∷ [] ≡ drawn_records keys (states ++ x ∷ [])
drawn_records-more keys states x =
    ap (λ (t : List (List (List ℕ))). (codes "k" ∷ []) ∷ t) (sym (map-append (λ (x : ℕ). drawn_key keys x ∷ []) states (x ∷ [])))

pub drawn_records-next : (keys start n : ℕ)
    → drawn_records keys (states_after start n) ++ (drawn_key keys (next_state (state_after start n)) ∷ []) ∷ [] ≡ drawn_records keys (states_after start (n + 1))
drawn_records-next keys start n =
    drawn_records-more keys (states_after start n) (next_state (state_after start n)) ∙ ap (drawn_records keys) (sym (states-more start n))

-- a builder of such a table, between two records
abbrev pub drawing : List (List (List ℕ)) → Building
drawing records = record { key = codes "k"; records = records; fields = []; refusal = None }

pub drawn_records-table : (keys : ℕ) (states : List ℕ) → table_of (drawn_records keys states) (codes "k") ≡ drawn_table keys states
unfolding table_of
drawn_records-table keys states = refl

pub drawn_records-form : (keys : ℕ) (states : List ℕ) → length states ≤ row_limit → form_fault (drawn_records keys states) (codes "k") ≡ None
unfolding form_fault
drawn_records-form keys states few = drawn_records-fine keys states few

-- the inner and the outer table of a join of drawn keys
made_inner-is : (rows start : ℕ) → drawn_table rows (states_after start rows) ≡ made_inner rows start
made_inner-is rows start =
    let size = length-states start rows in
    ap (drawn_table rows) (sym (ap (take rows) (states-split start rows rows) ∙ take_front rows (states_after start rows) _ size))
  where
    take_front : (n : ℕ) (xs ys : List ℕ) → length xs ≡ n → take n (xs ++ ys) ≡ xs
    take_front zero [] ys e = refl
    take_front zero (x ∷ xs) ys e = absurd (omega arith)
    take_front (suc n) [] ys e = absurd (omega arith)
    take_front (suc n) (x ∷ xs) ys e = ap (λ (t : List ℕ). x ∷ t) (take_front n xs ys (omega arith))

made_outer-is : (rows start : ℕ) → drawn_table rows (states_after (state_after start rows) rows) ≡ made_outer rows start
made_outer-is rows start =
    let size = length-states start rows in
    ap (drawn_table rows) (sym (ap (drop rows) (states-split start rows rows) ∙ drop_front rows (states_after start rows) _ size))
  where
    drop_front : (n : ℕ) (xs ys : List ℕ) → length xs ≡ n → drop n (xs ++ ys) ≡ ys
    drop_front zero [] ys e = refl
    drop_front zero (x ∷ xs) ys e = absurd (omega arith)
    drop_front (suc n) [] ys e = absurd (omega arith)
    drop_front (suc n) (x ∷ xs) ys e = drop_front n xs ys (omega arith)

-- the pairs of their join
pub made_pairs-is : (rows start state : ℕ) (inner outer : Table) → inner ≡ drawn_table rows (states_after start rows) → state ≡ state_after start rows
    → outer ≡ drawn_table rows (states_after state rows) → nested_loop outer inner ≡ made_pairs rows start
made_pairs-is rows start state inner outer first last next =
    let i : inner ≡ made_inner rows start = first ∙ made_inner-is rows start in
    let o : outer ≡ made_outer rows start = next ∙ ap (λ (x : ℕ). drawn_table rows (states_after x rows)) last ∙ made_outer-is rows start in
    rw (i, o) refl

pub made_text-is : (rows start : ℕ) (pairs : List Pair) → pairs ≡ made_pairs rows start → pairs_text pairs ≡ made_text rows start
unfolding made_text
made_text-is rows start pairs all = ap pairs_text all

-- what is shown of the pairs that were made
pub made-shows : (rows start : ℕ) (pairs : List Pair) (old new : Option (List ℕ)) (faults faults' : ℕ) (result : Status) → pairs ≡ made_pairs rows start
    → JoinShows (length pairs) (pairs_text pairs) old new faults faults' result → JoinShows (length (made_pairs rows start)) (made_text rows start) old new faults faults' result
made-shows rows start pairs old new f g result all =
    subst (λ (t : ℕ × List ℕ). JoinShows t.0 t.1 old new f g result) (λ i. (length (all i), made_text-is rows start pairs all i))

-- the sizes of the join of two tables of drawn keys
pub made_sizes-is : (rows start workers state : ℕ) (inner outer : Table) → inner ≡ drawn_table rows (states_after start rows) → state ≡ state_after start rows → outer ≡ drawn_table rows (states_after state rows)
    → table_sizes inner outer workers ≡ made_sizes rows start workers
made_sizes-is rows start workers state inner outer first on second =
    let all = made_pairs-is rows start state inner outer first on second in
    let i : length inner.rows ≡ rows = ap (λ (t : Table). length t.rows) first ∙ (length-map (states_after start rows) (λ x. drawn_key rows x ∷ []) ∙ length-states start rows) in
    let o : length outer.rows ≡ rows = ap (λ (t : Table). length t.rows) second ∙ (length-map (states_after state rows) (λ x. drawn_key rows x ∷ []) ∙ length-states state rows) in
    λ k. record { inner = i k; outer = o k; workers = workers; pairs = length (all k) }

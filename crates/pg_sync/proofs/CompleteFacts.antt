-- Where no fault rose before it, the bytes decide the answer, or memory ran out.
use Rattle.std.proofs.Common.{◌≡◌, ◌⊎◌, ℕ, ◌<◌, ◌≤◌, Bool, true, false, cond, ltb, List, length, Option, Some, None, option_map, refl, inl, inr}
use Rattle.std.specs.Option.{IfSome}
use Rattle.std.proofs.lemmas.Bool.{le-ltb, lt-ltb}
use Rattle.row_model.specs.declared.RowFault.{RowFault}
use Rattle.row_model.specs.declared.Side.TheVariants as side
use Rattle.row_model.specs.Form.{form_fault}
use Rattle.csv_tables.specs.Loading.{input_limit}
use Rattle.csv_tables.specs.Records.{records_of}
use Rattle.join_engine.specs.Limit.{pair_limit}
use Rattle.pg_sync.specs.declared.status.Status.{Status}
use Rattle.pg_sync.specs.declared.status.Status.TheVariants as status
use Rattle.pg_sync.specs.Words.{Job}
use Rattle.pg_sync.specs.Answer.{BytesShow, Counts, CountsShow, Decided, IsTable, HasFault, NoFaultBefore, NoneRose, answer_of, join_refusal, or_next, pairs_of, side_refusal}

-- what holds of every value holds of the one that is there
each-some : {A : Type 0} (o : Option A) (P : A → Type 0) → ((x : A) → P x) → IfSome o P
each-some None P each = tt
each-some (Some x) P each = each x

-- what no fault before an answer says of the inner side, whatever the answer is
inner_calm : (before now : Counts) (faults faults' : ℕ) (s : Status) → NoFaultBefore before now faults faults' s → NoneRose before now side.Inner
inner_calm before now f g status.Done h = h.0
inner_calm before now f g status.Words h = h.0
inner_calm before now f g (status.OpenFault s) h = h.0
inner_calm before now f g (status.ReadFault s) h = h.0
inner_calm before now f g (status.TooLong side.Inner) h = h
inner_calm before now f g (status.TooLong side.Outer) h = h.0
inner_calm before now f g (status.BadInput side.Inner x) h = h
inner_calm before now f g (status.BadInput side.Outer x) h = h.0
inner_calm before now f g status.TooManyResults h = h.0
inner_calm before now f g status.WriteFault h = h.0
inner_calm before now f g status.NoMemory h = h.0
inner_calm before now f g (status.BadScript n) h = h.0

-- a side that is a table is refused for nothing
pub side_refusal-table : (s : _) (key bytes : List ℕ) → IsTable key bytes → side_refusal s key bytes ≡ None
side_refusal-table s key bytes h = rw (le-ltb _ _ h.0, h.1) refl

side_refusal-long : (s : _) (key bytes : List ℕ) → input_limit < length bytes → side_refusal s key bytes ≡ Some (status.TooLong s)
side_refusal-long s key bytes h = rw (lt-ltb _ _ h) refl

side_refusal-fault : (s : _) (key bytes : List ℕ) (f : RowFault) → HasFault key f bytes → side_refusal s key bytes ≡ Some (status.BadInput s f)
side_refusal-fault s key bytes f h = rw (le-ltb _ _ h.0, h.1) refl

join_refusal-few : (job : Job) (inner outer : List ℕ) → length (pairs_of job inner outer) ≤ pair_limit → join_refusal job inner outer ≡ None
join_refusal-few job inner outer h = rw (le-ltb _ _ h) refl

join_refusal-many : (job : Job) (inner outer : List ℕ) → pair_limit < length (pairs_of job inner outer) → join_refusal job inner outer ≡ Some status.TooManyResults
join_refusal-many job inner outer h = rw (lt-ltb _ _ h) refl

-- what no fault before the outer side's part of the answer says of the outer side
outer_calm : (before now : Counts) (faults faults' : ℕ) (long : Bool) (f : Option RowFault) (many : Bool)
    → IfSome (or_next (cond long (Some (status.TooLong side.Outer)) (option_map (status.BadInput side.Outer) f)) (or_next (cond many (Some status.TooManyResults) None) (Some status.Done)))
    (λ s. NoFaultBefore before now faults faults' s → NoneRose before now side.Outer)
outer_calm before now g h true f many = λ none. none.1
outer_calm before now g h false (Some x) many = λ none. none.1
outer_calm before now g h false None true = λ none. none.1
outer_calm before now g h false None false = λ none. none.1

weaken : {A : Type 0} (o : Option A) (P Q : A → Type 0) → ((x : A) → P x → Q x) → IfSome o P → IfSome o Q
weaken None P Q more h = tt
weaken (Some x) P Q more h = more x h

-- with an inner table and an outer side of which a fault rose, nothing was decided
outer_rose : (job : Job) (i : List ℕ) (outer : Option (List ℕ)) (before now : Counts) (faults faults' : ℕ) (result : Status)
    → IsTable job.inner_key i → (NoneRose before now side.Outer → ⊥) → Decided job (Some i) outer before now faults faults' result
unfolding answer_of
outer_rose job i None before now f g result table rose = rw (side_refusal-table side.Inner job.inner_key i table) tt
outer_rose job i (Some o) before now f g result table rose =
    let calm : Status → Type 0 = λ s. NoFaultBefore before now f g s → NoneRose before now side.Outer in
    let answered : Status → Type 0 = λ s. NoFaultBefore before now f g s → (result ≡ s) ⊎ (result ≡ status.NoMemory) in
    rw (side_refusal-table side.Inner job.inner_key i table) (weaken _ calm answered (λ s quiet none. absurd (rose (quiet none)))
    (outer_calm before now f g (ltb input_limit (length o)) (form_fault (records_of o) job.outer_key) (ltb pair_limit (length (pairs_of job i o)))))

pub decided : (job : Job) (inner outer : Option (List ℕ)) (before now : Counts) (faults faults' : ℕ) (result : Status)
    → BytesShow job inner outer result → CountsShow before now faults faults' result → Decided job inner outer before now faults faults' result
unfolding answer_of
decided job None outer before now f g result bytes counts = tt
decided job (Some i) outer before now f g status.NoMemory bytes counts = each-some (answer_of job (Some i) outer) _ (λ s none. inr refl)
decided job (Some i) outer before now f g status.Words bytes counts = absurd bytes
decided job (Some i) outer before now f g (status.BadScript n) bytes counts = absurd bytes
decided job (Some i) outer before now f g (status.OpenFault side.Inner) bytes counts =
    each-some (answer_of job (Some i) outer) _ (λ s none. absurd ((inner_calm before now f g s none).opens counts.0))
decided job (Some i) outer before now f g (status.ReadFault side.Inner) bytes counts =
    each-some (answer_of job (Some i) outer) _ (λ s none. absurd ((inner_calm before now f g s none).reads counts.0))
decided job (Some i) None before now f g (status.TooLong side.Inner) bytes counts = rw (side_refusal-long side.Inner job.inner_key i bytes) (λ none. inl refl)
decided job (Some i) (Some o) before now f g (status.TooLong side.Inner) bytes counts = rw (side_refusal-long side.Inner job.inner_key i bytes) (λ none. inl refl)
decided job (Some i) None before now f g (status.BadInput side.Inner x) bytes counts = rw (side_refusal-fault side.Inner job.inner_key i x bytes) (λ none. inl refl)
decided job (Some i) (Some o) before now f g (status.BadInput side.Inner x) bytes counts = rw (side_refusal-fault side.Inner job.inner_key i x bytes) (λ none. inl refl)
decided job (Some i) outer before now f g (status.OpenFault side.Outer) bytes counts = outer_rose job i outer before now f g _ bytes (λ none. none.opens counts.1)
decided job (Some i) outer before now f g (status.ReadFault side.Outer) bytes counts = outer_rose job i outer before now f g _ bytes (λ none. none.reads counts.1)
decided job (Some i) None before now f g (status.TooLong side.Outer) bytes counts = rw (side_refusal-table side.Inner job.inner_key i bytes.0) tt
decided job (Some i) (Some o) before now f g (status.TooLong side.Outer) bytes counts =
    rw (side_refusal-table side.Inner job.inner_key i bytes.0, side_refusal-long side.Outer job.outer_key o bytes.1) (λ none. inl refl)
decided job (Some i) None before now f g (status.BadInput side.Outer x) bytes counts = rw (side_refusal-table side.Inner job.inner_key i bytes.0) tt
decided job (Some i) (Some o) before now f g (status.BadInput side.Outer x) bytes counts =
    rw (side_refusal-table side.Inner job.inner_key i bytes.0, side_refusal-fault side.Outer job.outer_key o x bytes.1) (λ none. inl refl)
decided job (Some i) None before now f g status.Done bytes counts = rw (side_refusal-table side.Inner job.inner_key i bytes.0) tt
decided job (Some i) (Some o) before now f g status.Done bytes counts =
    rw (side_refusal-table side.Inner job.inner_key i bytes.0, side_refusal-table side.Outer job.outer_key o bytes.1, join_refusal-few job i o bytes.2) (λ none. inl refl)
decided job (Some i) None before now f g status.TooManyResults bytes counts = rw (side_refusal-table side.Inner job.inner_key i bytes.0) tt
decided job (Some i) (Some o) before now f g status.TooManyResults bytes counts =
    rw (side_refusal-table side.Inner job.inner_key i bytes.0, side_refusal-table side.Outer job.outer_key o bytes.1, join_refusal-many job i o bytes.2) (λ none. inl refl)
decided job (Some i) None before now f g status.WriteFault bytes counts = rw (side_refusal-table side.Inner job.inner_key i bytes.0) tt
decided job (Some i) (Some o) before now f g status.WriteFault bytes counts =
    rw (side_refusal-table side.Inner job.inner_key i bytes.0, side_refusal-table side.Outer job.outer_key o bytes.1, join_refusal-few job i o bytes.2) (λ none. absurd (none.2 counts.2))

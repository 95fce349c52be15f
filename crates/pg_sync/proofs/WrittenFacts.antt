-- What a join leaves written, by what the join of its two tables shows.
use Rattle.std.proofs.Common.{◌≡◌, ◌⊎◌, inl, inr, ℕ, ◌≤◌, ltb, List, length, Option, Some, None, Ok, refl}
use Rattle.std.proofs.lemmas.Bool.{cases_Bool, le-ltb}
use Rattle.row_model.specs.Table.{Table, nested_loop}
use Rattle.row_model.specs.declared.Side.TheVariants as side
use Rattle.csv_tables.specs.Loading.{Loads}
use Rattle.csv_tables.specs.Text.{joined_text}
use Rattle.join_engine.specs.Limit.{pair_limit}
use Rattle.pg_sync.specs.declared.status.Status.{Status}
use Rattle.pg_sync.specs.declared.status.Status.TheVariants as status
use Rattle.pg_sync.specs.Words.{Job}
use Rattle.pg_sync.specs.Answer.{IsTable, JoinShows, Leaves, answer_of, due_text, pairs_of, text_of, text_within}
use Rattle.pg_sync.proofs.CompleteFacts.{side_refusal-table}

-- the text of the join of two tables is due, unless it has too many pairs
due-tables : (job : Job) (i o : List ℕ) → IsTable job.inner_key i → IsTable job.outer_key o
    → due_text job (Some i) (Some o) ≡ Some (text_within (length (pairs_of job i o)) (text_of job i o))
unfolding due_text answer_of
due-tables job i o inner outer =
    rw (side_refusal-table side.Inner job.inner_key i inner, side_refusal-table side.Outer job.outer_key o outer)
    (elim (cases_Bool (ltb pair_limit (length (pairs_of job i o)))) [ inl many ↦ rw many refl | inr few ↦ rw few refl ])

-- the text that is due of two inputs, one of which may be untold, is none or that of their tables
due-is : (job : Job) (inner outer : Option (List ℕ)) (i o : Table) → Loads inner job.inner_key (Ok i) → Loads outer job.outer_key (Ok o)
    → (due_text job inner outer ≡ None) ⊎ (due_text job inner outer ≡ Some (text_within (length (nested_loop o i)) (joined_text o i)))
unfolding due_text
due-is job None outer i o li lo = inl refl
due-is job (Some a) None i o li lo = inl refl
due-is job (Some a) (Some b) i o li lo = inr (rw (li.2, lo.2) (due-tables job a b (li.0, li.1) (lo.0, lo.1)))

within-few : (pairs : ℕ) (text : List ℕ) → pairs ≤ pair_limit → text_within pairs text ≡ text
within-few pairs text few = rw (le-ltb pair_limit pairs few) refl

-- of the text that is due an answer leaves what it leaves of the join of two tables
pub shown-leaves : (pairs : ℕ) (text : List ℕ) (due old new : Option (List ℕ)) (faults faults' : ℕ) (result : Status)
    → (due ≡ None) ⊎ (due ≡ Some (text_within pairs text)) → JoinShows pairs text old new faults faults' result → Leaves old new due result
shown-leaves pairs text due old new f g status.Done (inl e) h = rw e tt
shown-leaves pairs text due old new f g status.Done (inr e) h = rw (e, within-few pairs text h.0) h.1
shown-leaves pairs text due old new f g status.TooManyResults e h = h.1
shown-leaves pairs text due old new f g status.WriteFault (inl e) h = rw e tt
shown-leaves pairs text due old new f g status.WriteFault (inr e) h = rw (e, within-few pairs text h.0) h.1
shown-leaves pairs text due old new f g status.NoMemory (inl e) h = rw e tt
shown-leaves pairs text due old new f g status.NoMemory (inr e) h = rw e h.0
shown-leaves pairs text due old new f g status.Words e h = absurd h
shown-leaves pairs text due old new f g (status.OpenFault s) e h = absurd h
shown-leaves pairs text due old new f g (status.ReadFault s) e h = absurd h
shown-leaves pairs text due old new f g (status.TooLong s) e h = absurd h
shown-leaves pairs text due old new f g (status.BadInput s k) e h = absurd h
shown-leaves pairs text due old new f g (status.BadScript n) e h = absurd h

pub join-leaves : (job : Job) (inner outer : Option (List ℕ)) (i o : Table) (old new : Option (List ℕ)) (faults faults' : ℕ) (result : Status)
    → Loads inner job.inner_key (Ok i) → Loads outer job.outer_key (Ok o)
    → JoinShows (length (nested_loop o i)) (joined_text o i) old new faults faults' result → Leaves old new (due_text job inner outer) result
join-leaves job inner outer i o old new f g result li lo h =
    shown-leaves (length (nested_loop o i)) (joined_text o i) (due_text job inner outer) old new f g result (due-is job inner outer i o li lo) h

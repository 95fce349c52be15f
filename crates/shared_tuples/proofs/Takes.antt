-- A take, step by step: the head, the word after its first row, and the exchange.
use Rattle.std.proofs.Common.{◌≡◌, ℕ, suc, ◌-◌, ◌<◌, cond, eqb, true, false, List, get_or, Bool, refl, sym, ap, ◌∙◌, subst, arith, ⊎_elim, Some, None, Option}
use Rattle.wait_core.specs.declared.view.WaitView.{WaitView}
use Rattle.wait_core.specs.Ops.{op_at}
use Rattle.wait_core.specs.Parties.{IsStep}
use Rattle.wait_core.specs.Seating.{client_moved, party_of}
use Rattle.join_law.specs.declared.step.HashStep.TheVariants.{Load, Take}
use Rattle.join_law.specs.declared.step.Look.TheVariants.{TakeHead, TakeNext}
use Rattle.join_law.specs.declared.step.Source.{Source}
use Rattle.join_law.specs.declared.step.Source.TheVariants as from
use Rattle.join_law.specs.declared.view.HashView.{HashView}
use Rattle.join_law.specs.declared.view.Taking.{Taking}
use Rattle.join_law.specs.Layout.{Join, rows, heads, sizes_of}
use Rattle.join_law.specs.Phases.{known_word}
use Rattle.join_law.specs.Machine.{May, MayTake, after, found_head, source_head, source_phase, step_op, took}
use Rattle.join_law.specs.Stands.{Stands}
use Rattle.join_law.specs.Views.{View}
use Rattle.join_law.proofs.Callers.{with_there}
use Rattle.join_law.proofs.Learned.{head_found}
use Rattle.join_law.proofs.TakeKeeps.{OfSource}
use Rattle.shared_tuples.specs.Lists.{IsFrom}

-- a seat that knows this of the take that it makes
abbrev pub with_taking : WaitView HashView → Option Taking → WaitView HashView
with_taking v k = client_moved v (record (v.client) { taking = k })

abbrev pub first_at : Join → WaitView HashView → Source → ℕ → Option ℕ → Taking
first_at j v source row next = record { source = source; head = source_head j source; phase = source_phase (party_of v) source; row = row; next = next }

-- a head that isn't at its end names a row
pub row_there : (j : Join) (words : List ℕ) (views : List View) (phases : List ℕ) → Stands j words views phases → (id : ℕ) (v : View) → IsStep views phases id v → (source : Source) (n : ℕ) → source_head j source < heads j
    → get_or words (op_at (step_op j (Load (TakeHead source)))) 0 ≡ n → (n ≡ 0 → ⊥) → (n ≡ suc (n - 1)) × (n - 1 < rows j) × (n - 1 < 4294967296)
row_there j words views phases h id v s source n inside found some =
    let few = h.parts.meet.few in
    ⊎_elim (λ none. absurd (some none)) (λ row. let e = row.1 in let b = row.2 in (omega arith, omega arith, omega arith)) (head_found j words views phases h id v s (Load (TakeHead source)) (source_head j source) n refl inside found)

-- the head was read
pub head_read : (j : Join) (v l w : WaitView HashView) (source : Source) (k : Option Taking) (n : ℕ) → l ≡ with_taking v k → w ≡ client_moved l (found_head j (party_of l) source n) → n ≡ suc (n - 1) → w ≡ with_taking v (Some (first_at j v source (n - 1) None))
head_read j v l w source k n is then more =
    then ∙ (ap (λ (y : WaitView HashView). client_moved y (found_head j (party_of y) source n)) is
    ∙ ap (λ (m : ℕ). client_moved (with_taking v k) (found_head j (party_of (with_taking v k)) source m)) more)

-- and the word after its first row
pub next_read : (j : Join) (v l w : WaitView HashView) (source : Source) (row next : ℕ) → l ≡ with_taking v (Some (first_at j v source row None)) → w ≡ client_moved l (after j (party_of l) (Load (TakeNext row)) next) → w ≡ with_taking v (Some (first_at j v source row (Some next)))
next_read j v l w source row next is then = then ∙ ap (λ (y : WaitView HashView). client_moved y (after j (party_of y) (Load (TakeNext row)) next)) is

same_may : (j : Join) (v : WaitView HashView) (k : Option Taking) (source : Source) → MayTake j (party_of v) source (source_phase (party_of v) source) → MayTake j (party_of (with_taking v k)) source (source_phase (party_of v) source)
same_may j v k (from.Inner half batch) may = may
same_may j v k (from.Outer batch) may = may
same_may j v k (from.Old bar turn head) may = may

-- the exchange is allowed then
pub take_ready : (j : Join) (v l : WaitView HashView) (source : Source) (row next head : ℕ) → l ≡ with_taking v (Some (first_at j v source row (Some next))) → head ≡ source_head j source → source_head j source < heads j → MayTake j (party_of v) source (source_phase (party_of v) source) → May j (party_of l) (Take row head next)
take_ready j v l source row next head is at inside may = subst {A = ℕ × WaitView HashView} (λ x. May j (party_of x.1) (Take row x.0 next)) (λ i. (sym at i, sym is i)) (inside, (refl, refl, refl, same_may j v (Some (first_at j v source row (Some next))) source may))

-- it met the row, or it didn't, and the take begins again
pub took_row : (j : Join) (v l w : WaitView HashView) (k : Option Taking) (row next head n : ℕ) → l ≡ with_taking v k → w ≡ client_moved l (after j (party_of l) (Take row head next) n) → eqb n (suc row) ≡ true → w ≡ client_moved v (took v.client row)
took_row j v l w k row next head n is then met =
    then ∙ (ap (λ (y : WaitView HashView). client_moved y (after j (party_of y) (Take row head next) n)) is
    ∙ ap (λ (b : Bool). client_moved (with_taking v k) (cond b (took (record (v.client) { taking = k }) row) (record (v.client) { taking = None }))) met)

pub missed_row : (j : Join) (v l w : WaitView HashView) (k : Option Taking) (row next head n : ℕ) → l ≡ with_taking v k → w ≡ client_moved l (after j (party_of l) (Take row head next) n) → eqb n (suc row) ≡ false → w ≡ with_taking v None
missed_row j v l w k row next head n is then missed =
    then ∙ (ap (λ (y : WaitView HashView). client_moved y (after j (party_of y) (Take row head next) n)) is
    ∙ ap (λ (b : Bool). client_moved (with_taking v k) (cond b (took (record (v.client) { taking = k }) row) (record (v.client) { taking = None }))) missed)

-- what a source says of its row, by the sizes that the seat knows
pub from_source : (j : Join) (v : View) (source : Source) (row w : ℕ) → known_word v ≡ Some w → OfSource j (sizes_of w) source row → IsFrom j v source row
from_source j v (from.Inner half batch) row w known of = (of.0, with_there (j.hash row) _ of.1 of.2 (with_there (known_word v) _ w known of.3))
from_source j v (from.Outer batch) row w known of = (of.0, with_there (j.hash row) _ of.1 of.2 (with_there (known_word v) _ w known of.3))
from_source j v (from.Old bar turn head) row w known of = of.0

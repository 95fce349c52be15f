-- The laws of the join as a client of barriers: where everything stands is kept, whatever a seat does.
use Rattle.std.proofs.Common.{◌≡◌, ℕ, suc, ◌<◌, ◌≤◌, List, [], ◌∷◌, ◌++◌, get_or, set, refl, sym, ap, ◌∙◌, subst, arith, Some, get_or-set_same, get_or-set_other}
use mathlib.Core.Logic.{dite}
use native.Mathlib.Decide.{ℕ_discrete}
use Rattle.wait_core.specs.Ops.{op_at, op_gives}
use Rattle.wait_core.specs.Parties.{with_client, newcomer, joined, left_over, elected, now, IsStep, IsJoin, IsEnter, IsNotice, IsElection, IsPass, IsLeave}
use Rattle.join_law.specs.declared.step.HashStep.{HashStep}
use Rattle.join_law.specs.declared.step.HashStep.TheVariants.{Load, Claim, StoreHash, StoreNext, Push, Take, AddBatchSize, ClearBatchSize, StoreSizes, Draw, AddResults}
use Rattle.join_law.specs.declared.step.Word.{Word}
use Rattle.join_law.specs.Layout.{Join, Memory, place, Inside, read, write, word_count}
use Rattle.join_law.specs.Views.{View, first_view, spent_view, both_views}
use Rattle.join_law.specs.Machine.{step_op, word_of, spot, May, after}
use Rattle.join_law.specs.Quiet.{Quiet, Passes, Enters, Stays}
use Rattle.join_law.specs.Stands.{There, Parts, Stands, RowsMeet, PhasesEnd}
use Rattle.join_law.specs.Phases.{FREE, last_batch_growth, last_bucket_growth}
use Rattle.join_law.proofs.Flat.{flat_read, flat_write, place_below}
use Rattle.join_law.proofs.Steps as steps
use Rattle.join_law.proofs.PassKeeps as pass
use Rattle.join_law.proofs.Moves as moves
use Rattle.join_law.proofs.Seats as seats
use Rattle.join_law.proofs.RowsClaimed as claimed
use Rattle.join_law.proofs.LeftOvers.{left_set, left_more, left_same, numbered_left}

-- a step's operation is on its word
pub op_spot : (j : Join) (step : HashStep) → op_at (step_op j step) ≡ spot j (word_of j step)
op_spot j (Load l) = refl
op_spot j (Claim side) = refl
op_spot j (StoreHash row hash) = refl
op_spot j (StoreNext row next) = refl
op_spot j (Push row head found) = refl
op_spot j (Take row head next) = refl
op_spot j (AddBatchSize k by) = refl
op_spot j (ClearBatchSize k) = refl
op_spot j (StoreSizes bar w) = refl
op_spot j Draw = refl
op_spot j (AddResults row pairs) = refl

pub step_inside : (j : Join) (v : View) (step : HashStep) → May j v step → op_at (step_op j step) < word_count j
step_inside j v step may = let e = op_spot j step in let b = place_below j (word_of j step) may.0 in omega arith

-- a word that is there stands within 32 bits
pub in_range : (j : Join) (w : Word) → RowsMeet j → Inside j w → spot j w ≡ place j w
in_range j w meet i = let b = place_below j w i in let f = meet.few in let c = meet.chains in omega arith

-- a step of the client
pub step_keeps : (j : Join) (words : List ℕ) (views : List View) (phases : List ℕ) (id : ℕ) (v : View) (step : HashStep) → Stands j words views phases → IsStep views phases id v → May j v step
    → let n = get_or words (op_at (step_op j step)) 0 in Stands j (set words (op_at (step_op j step)) (op_gives (step_op j step) n)) (set views id (with_client v (after j v step n))) phases
step_keeps j words views phases id v step h s may =
    let m : Memory = h.memory in
    let w : Word = word_of j step in
    let op = step_op j step in
    let n : ℕ = read m w in
    let x : ℕ = op_gives op n in
    let next : View = with_client v (after j v step n) in
    let at : op_at op ≡ place j w = op_spot j step ∙ in_range j w h.parts.meet may.0 in
    let found : get_or words (op_at op) 0 ≡ n = ap (λ (k : ℕ). get_or words k 0) at ∙ (ap (λ (l : List ℕ). get_or l (place j w) 0) h.same ∙ flat_read j m h.parts.laid w may.0) in
    let kept = steps.step_keeps j m h.lists h.growth views phases h.parts id v s step may.0 may.1 in
    let stands : Stands j (set words (place j w) x) (set views id next) phases =
    record {
      memory = write m w x;
      lists = kept.0;
      growth = kept.1;
      same = ap (λ (l : List ℕ). set l (place j w) x) h.same ∙ flat_write j m h.parts.laid w x may.0;
      parts = kept.2;
      left = left_set views h.left id next (numbered_left next s.own.0 s.own.1);
      claims = claimed.step_claims j m h.lists h.growth views phases h.parts h.claims id v s step;
      ends = h.ends;
    } in
    let after_n : ℕ → ℕ → Type 0 = λ k y. Stands j (set words k (op_gives op y)) (set views id (with_client v (after j v step y))) phases in
    subst (λ (k : ℕ). after_n k (get_or words (op_at op) 0)) (sym at) (subst (after_n (place j w)) (sym found) stands)

-- a seat is drawn
pub draw_keeps : (j : Join) (words : List ℕ) (views : List View) (phases : List ℕ) (proc : ℕ) → Stands j words views phases → Stands j words (views ++ newcomer first_view (Some proc) ∷ []) phases
draw_keeps j words views phases proc h =
    let m : Memory = h.memory in
    let w : View = newcomer first_view (Some proc) in
    record {
      memory = m;
      lists = h.lists;
      growth = h.growth;
      same = h.same;
      parts = seats.draw_keeps j m h.lists h.growth views phases h.parts (Some proc);
      left = left_more views h.left w proc refl;
      claims = claimed.more_claims j m.inner_cursor m.outer_cursor views h.claims w refl;
      ends = h.ends;
    }

-- a seat takes in another
pub join_keeps : (j : Join) (words : List ℕ) (views : List View) (phases : List ℕ) (id other : ℕ) (v w : View) → Stands j words views phases → IsJoin views phases id v other w
    → Stands j words (set (set views id (joined both_views v w)) other (left_over spent_view)) phases
join_keeps j words views phases id other v w h s =
    let m : Memory = h.memory in
    let x : View = joined both_views v w in
    record {
      memory = m;
      lists = h.lists;
      growth = h.growth;
      same = h.same;
      parts = seats.join_keeps j m h.lists h.growth views phases h.parts id other v w s;
      left = left_set (set views id x) (left_set views h.left id x (numbered_left x s.own.0 s.own.1)) other (left_over spent_view) (λ _. refl);
      claims = claimed.join_claims j m.inner_cursor m.outer_cursor views h.claims phases id other v w s;
      ends = h.ends;
    }

module _ (j : Join) (words : List ℕ) (views : List View) (phases : List ℕ) (h : Stands j words views phases) where
  abbrev m : Memory
  m = h.memory

  -- a seat's view is changed, but neither its number nor what it knows of the join
  attached_keeps : (id : ℕ) (v w : View) → There views id v → w.proc ≡ v.proc → w.client ≡ v.client → Parts j m h.lists h.growth (set views id w) phases → Stands j words (set views id w) phases
  attached_keeps id v w at own same parts = record {
    memory = m;
    lists = h.lists;
    growth = h.growth;
    same = h.same;
    parts = parts;
    left = left_same views h.left id v w at own same;
    claims = claimed.same_claims j m.inner_cursor m.outer_cursor views h.claims id v w at same;
    ends = h.ends;
  }

  pub enter_keeps : (id : ℕ) (v w : View) (bar : ℕ) → IsEnter views phases id v w bar → Enters v bar → Stands j words (set views id w) phases
  enter_keeps id v w bar s may = attached_keeps id v w s.at s.after.proc s.after.client (moves.enter_keeps j m h.lists h.growth views phases h.parts id v w bar s may)

  pub notice_keeps : (id : ℕ) (v w : View) (bar ph : ℕ) → IsNotice views phases id v w bar ph → Stands j words (set views id w) phases
  notice_keeps id v w bar ph s = attached_keeps id v w s.at s.after.proc s.after.client (moves.notice_keeps j m h.lists h.growth views phases h.parts id v w bar ph s)

  pub elect_keeps : (id : ℕ) (v : View) (bar ph : ℕ) → IsElection views phases id v bar ph → Stands j words (set views id (elected v bar ph)) phases
  elect_keeps id v bar ph s = attached_keeps id v (elected v bar ph) s.at refl refl (moves.elect_keeps j m h.lists h.growth views phases h.parts id v bar ph s.at)

  pub leave_keeps : (id : ℕ) (v w : View) (bar ph : ℕ) → IsLeave Stays views phases id v w bar ph → Quiet j v bar ph → Stands j words (set views id w) phases
  leave_keeps id v w bar ph s quiet = attached_keeps id v w s.at s.after.proc s.after.client (moves.leave_keeps j m h.lists h.growth views phases h.parts id v w bar ph s quiet)

  -- a phase passes only before its barrier's last one
  phases_end : (bar : ℕ) → Passes bar (now phases bar) → PhasesEnd (set phases bar (suc (now phases bar)))
  phases_end bar passes = record {
    of_build = ends_by 0 FREE h.ends.of_build (λ here. subst (λ (b : ℕ). Passes b (now phases b)) here passes) (omega arith);
    of_batches = ends_by 1 last_batch_growth h.ends.of_batches (λ here. subst (λ (b : ℕ). Passes b (now phases b)) here passes) (omega arith);
    of_buckets = ends_by 2 last_bucket_growth h.ends.of_buckets (λ here. subst (λ (b : ℕ). Passes b (now phases b)) here passes) (omega arith);
  }
    where
      ends_by : (b last : ℕ) → now phases b ≤ last → (bar ≡ b → now phases b < last) → b < 67 → now (set phases bar (suc (now phases bar))) b ≤ last
      ends_by b last end before few = dite (ℕ_discrete bar b)
          (λ here.
          let length_is = h.parts.bars in
          let is = get_or-set_same phases b (suc (now phases b)) 0 (omega arith) in
          let less = before here in
          subst (λ (c : ℕ). now (set phases c (suc (now phases c))) b ≤ last) (sym here) (omega arith))
          (λ other. let same = get_or-set_other phases bar b (suc (now phases bar)) 0 (λ e. other (sym e)) in omega arith)

  -- a phase passes
  pub pass_keeps : (bar id : ℕ) (v : View) → IsPass (Quiet j) views phases bar id v → Passes bar (now phases bar) → Stands j words views (set phases bar (suc (now phases bar)))
  pass_keeps bar id v s passes = record {
    memory = m;
    lists = h.lists;
    growth = h.growth;
    same = h.same;
    parts = pass.pass_keeps j m h.lists h.growth views phases h.parts bar id v s;
    left = h.left;
    claims = h.claims;
    ends = phases_end bar passes;
  }

-- What a seat knows while it walks a chain.
use Rattle.std.proofs.Common.{◌≡◌, ◌⊎◌, ℕ, suc, ◌≤◌, ◌<◌, List, [], ◌∷◌, ◌++◌, get_or, refl, sym, ap, ◌∙◌, subst, arith, ⊎_elim, Some, None, Option}
use Rattle.wait_core.specs.declared.view.WaitView.{WaitView}
use Rattle.wait_core.specs.Seating.{client_moved, party_of}
use Rattle.join_law.specs.declared.view.HashView.{HashView}
use Rattle.join_law.specs.declared.view.Walk.{Walk}
use Rattle.join_law.specs.declared.step.HashStep.TheVariants.{Load}
use Rattle.join_law.specs.declared.step.Look.TheVariants.{WalkHead, WalkNext}
use Rattle.join_law.specs.Layout.{Join, sizes_of}
use Rattle.join_law.specs.Machine.{HasReached, At, after, step_op}
use Rattle.join_law.specs.Phases.{WithSizes, known_word, batch_bar, PROBE}
use Rattle.join_law.specs.Routes.{batch_of, chain_at}
use Rattle.join_law.specs.Stands.{Stands}
use Rattle.join_law.specs.Views.{View}
use Rattle.join_law.proofs.Learned.{walk_head_found, walk_next_found}
use Rattle.join_law.proofs.TakeHeads.{sizes_at_batch}
use Rattle.wait_core.specs.Ops.{op_at}
use Rattle.wait_core.specs.Parties.{IsStep}
use Rattle.shared_tuples.proofs.Tuples.{with_is}
use Rattle.hash_probe.specs.Walks.{MayWalk, walking}

-- the walk that stands at an inner row
pub reached_is : (o : Option Walk) (inner : ℕ) → HasReached o inner → (q : Walk) × (o ≡ Some q) × (q.stood ≡ suc inner)
reached_is None inner h = absurd h
reached_is (Some q) inner h = (q, refl, h)

-- the word of an inner row, or the end
pub word_most : (n inner : ℕ) → (n ≡ 0) ⊎ ((r : ℕ) × (n ≡ suc r) × (r < inner)) → n ≤ inner
word_most n inner found = ⊎_elim (λ none. omega arith) (λ some. let e = some.1 in let b = some.2 in omega arith) found

-- the walk went on by one row
pub walked_more : (j : Join) (v l w : WaitView HashView) (row inner stood n : ℕ) (passed : List ℕ) → l ≡ walking v row passed stood → w ≡ client_moved l (after j (party_of l) (Load (WalkNext inner)) n) → w ≡ walking v row (passed ++ inner ∷ []) n
walked_more j v l w row inner stood n passed is then = then ∙ ap (λ (y : WaitView HashView). client_moved y (after j (party_of y) (Load (WalkNext inner)) n)) is

module _ (j : Join) (words : List ℕ) (views : List View) (phases : List ℕ) (h : Stands j words views phases) (id : ℕ) (v : View) (s : IsStep views phases id v) where
  -- a walk begins with an inner row, or the chain has none
  pub walk_begins : (row head n : ℕ) → MayWalk j v row head → get_or words (op_at (step_op j (Load (WalkHead row head)))) 0 ≡ n → n ≤ j.inner
  walk_begins row head n may found =
      let a = with_is (j.hash row) (λ x. WithSizes v (λ z. (At v (batch_bar (batch_of z x)) PROBE) × (head ≡ chain_at j z x))) may.probing.2 in
      let b = with_is (known_word v) (λ w. (At v (batch_bar (batch_of (sizes_of w) a.0)) PROBE) × (head ≡ chain_at j (sizes_of w) a.0)) a.2 in
      let force = sizes_at_batch j h.memory h.lists h.growth views phases h.parts id v s (batch_of (sizes_of b.0) a.0) PROBE b.0 b.2.0 b.1 in
      word_most n j.inner (walk_head_found j words views phases h id v s row head a.0 n (subst (λ (w : ℕ). head ≡ chain_at j (sizes_of w) a.0) (sym force) b.2.1) found)

  -- and it goes on with one, or is at the end
  pub walk_goes_on : (row inner stood n : ℕ) (passed : List ℕ) → v.client.walk ≡ Some (record { row = row; passed = passed; stood = stood }) → stood ≡ suc inner → get_or words (op_at (step_op j (Load (WalkNext inner)))) 0 ≡ n → n ≤ j.inner
  walk_goes_on row inner stood n passed walks at found = word_most n j.inner (walk_next_found j words views phases h id v s (record { row = row; passed = passed; stood = stood }) inner n walks at found)

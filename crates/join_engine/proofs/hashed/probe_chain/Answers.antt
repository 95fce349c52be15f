use Rattle.std.proofs.Common.{◌≡◌, ◌∙◌, ℕ, ◌+◌, Option, Some, ◌∷◌, ◌++◌, length, get_or, refl, arith}
use Rattle.std.specs.Prelude.{slice_get}
use Rattle.std.proofs.lemmas.List.{length-append}
use Rattle.std.proofs.lemmas.Result.{err_from_is_err_and}
use Rattle.row_model.specs.Table.{Table, pairs_of}
use Rattle.join_engine.specs.declared.chains.Chains.{Chains}
use Rattle.join_engine.specs.Chains.{row_at, IsChained}
use Rattle.join_engine.specs.Looks.{rows_from}
use Rattle.join_engine.proofs.ChainFacts.{chain_at, chain_at-first, confirmed-counts, confirmed-more, confirmed-whole, first-chain_at, link-is}
use Rattle.join_engine.proofs.PairFacts.{shows-more}
use Rattle.join_engine.proofs.hashed.probe_chain.Goals as goal

pub chain-init : goal.chain-init
chain-init g c =
    let first = c.first-candidate.ensures ∙ c.requires.chained.heads c.args.hash in
    let all = chain_at-first c.args.inner.now 0 c.args.hash c.first-candidate.result first in
    record {
      known = first-chain_at c.args.inner.now 0 c.args.hash c.first-candidate.result first;
      pairs = rw (all, confirmed-whole c.args.outer.now c.args.inner.now c.args.o c.args.hash c.requires.hash) refl;
      few = c.requires.few;
      looks = rw all (omega arith);
    }

pub confirm-requires-clause-inner : goal.confirm-requires-clause-inner
confirm-requires-clause-inner g c = (link-is c.args.inner.now c.args.hash c.in-Some.i (rw c.in-Some.is at c.chain.invariant.known)).within

pub after-candidate-requires : goal.after-candidate-requires
after-candidate-requires g c = rw c.requires.chained.count ((link-is c.args.inner.now c.args.hash c.in-Some.i (rw c.in-Some.is at c.chain.invariant.known)).within)

-- the chain from the candidate on, and its successor
record IsStep (t : Table) (hash i : ℕ) (after : Option ℕ) : Type 0 where
  here : chain_at t hash (Some i) ≡ i ∷ rows_from t (i + 1) hash
  there : chain_at t hash after ≡ rows_from t (i + 1) hash
  known : after ≡ slice_get (chain_at t hash after) 0

step-is : (t : Table) (chains : Chains) (hash i : ℕ) (after : Option ℕ) → IsChained t chains → Some i ≡ slice_get (chain_at t hash (Some i)) 0
    → after ≡ row_at (length chains.next.items) (get_or chains.next.items i 0) → IsStep t hash i after
step-is t chains hash i after chained known is =
    let link = link-is t hash i known in
    let first : after ≡ slice_get (rows_from t (i + 1) hash) 0 = rw chained.count at is ∙ chained.next i hash (omega arith) link.within link.hash_is in
    record { here = link.rest; there = chain_at-first t (i + 1) hash after first; known = first-chain_at t (i + 1) hash after first }

pub chain-smaller : goal.chain-smaller
chain-smaller g c =
    let step = step-is c.args.inner.now c.args.chains.now c.args.hash c.in-Some.i c.after-candidate.result c.requires.chained (rw c.in-Some.is at c.chain.invariant.known) c.after-candidate.ensures in
    rw (c.in-Some.is, step.here, step.there) (omega arith)

pub chain-preserved : goal.chain-preserved
chain-preserved g c =
    let step = step-is c.args.inner.now c.args.chains.now c.args.hash c.in-Some.i c.after-candidate.result c.requires.chained (rw c.in-Some.is at c.chain.invariant.known) c.after-candidate.ensures in
    let all = rw (c.in-Some.is, step.here) at c.chain.invariant.pairs in
    let left = rw (c.in-Some.is, step.here) at c.chain.invariant.looks in
    let rows = rows_from c.args.inner.now (c.in-Some.i + 1) c.args.hash in
    record {
      known = step.known;
      pairs = rw step.there (confirmed-more c.args.outer.now c.args.inner.now c.args.o c.in-Some.i rows c.chain.pairs.items c.confirm.new.pairs.items _ c.in_ok-confirm.ensures.pairs all);
      few = c.in_ok-confirm.ensures.few;
      looks = rw step.there (omega arith);
    }

pub returns-in_err-confirm-clause-too_many : goal.returns-in_err-confirm-clause-too_many
returns-in_err-confirm-clause-too_many g c =
    let given = err_from_is_err_and c.from_residual.result c.from_residual.ensures.1 in
    let link = link-is c.args.inner.now c.args.hash c.in-Some.i (rw c.in-Some.is at c.chain.invariant.known) in
    let all = rw (c.in-Some.is, link.rest) at c.chain.invariant.pairs in
    let pairs = pairs_of c.args.outer.now c.args.inner.now c.args.o in
    let le = confirmed-counts c.args.outer.now c.args.inner.now c.args.o c.in-Some.i (rows_from c.args.inner.now (c.in-Some.i + 1) c.args.hash) c.chain.pairs.items (c.args.pairs.now.items ++ pairs) all in
    rw (given.1, given.2) (shows-more _ (length c.args.pairs.now.items + length pairs) c.in_err-confirm.field-0.0 (omega (arith, le, length-append c.args.pairs.now.items pairs)) c.in_err-confirm.ensures.too_many)

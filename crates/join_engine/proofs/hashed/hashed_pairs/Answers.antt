use Rattle.std.proofs.Common.{length, arith, rules}
use Rattle.std.proofs.lemmas.Result.{err_from_is_err_and}
use Rattle.row_model.specs.Table.{nested_loop}
use Rattle.join_engine.proofs.PairFacts.{joined-all, joined-front, joined-more, shows-more}
use Rattle.join_engine.proofs.ChainFacts.{looks_from-all, looks_from-step}
use Rattle.join_engine.proofs.hashed.hashed_pairs.Goals as goal

pub returns-in_err-chains-clause-looks : goal.returns-in_err-chains-clause-looks
returns-in_err-chains-clause-looks g c = omega (arith, looks_from-all c.args.outer.now c.args.inner.now)

pub outer-init : goal.outer-init
outer-init g c = record {
  pairs = search rules;
  few = search rules;
  looks = omega (arith, looks_from-all c.args.outer.now c.args.inner.now);
}

pub returns-in_err-probe_row-clause-looks : goal.returns-in_err-probe_row-clause-looks
returns-in_err-probe_row-clause-looks g c = omega (arith, looks_from-step c.args.outer.now c.args.inner.now c.outer.o (omega arith))

pub outer-preserved : goal.outer-preserved
outer-preserved g c = record {
  pairs = rw (joined-more c.args.outer.now c.args.inner.now c.outer.o, ← c.outer.invariant.pairs) c.in_ok-probe_row.ensures.pairs;
  few = c.in_ok-probe_row.ensures.few;
  looks = omega (arith, looks_from-step c.args.outer.now c.args.inner.now c.outer.o (omega arith));
}

pub returns-clause-pairs : goal.returns-clause-pairs
returns-clause-pairs g c = joined-all c.args.outer.now c.args.inner.now c.outer.o c.outer.pairs.items (omega arith) c.outer.invariant.pairs

pub returns-clause-few : goal.returns-clause-few
returns-clause-few g c =
    let all = joined-all c.args.outer.now c.args.inner.now c.outer.o c.outer.pairs.items (omega arith) c.outer.invariant.pairs in
    rw all at c.outer.invariant.few

pub returns-in_err-probe_row-clause-too_many : goal.returns-in_err-probe_row-clause-too_many
returns-in_err-probe_row-clause-too_many g c =
    let given = err_from_is_err_and c.from_residual-in_err-probe_row.result c.from_residual-in_err-probe_row.ensures.1 in
    let front = joined-front c.args.outer.now c.args.inner.now c.outer.o (omega arith) in
    let some = rw c.outer.invariant.pairs at c.in_err-probe_row.ensures.too_many in
    rw (given.1, given.2) (shows-more _ (length (nested_loop c.args.outer.now c.args.inner.now)) c.in_err-probe_row.field-0.0 front some)

use Rattle.std.proofs.Common.{◌≡◌, ◌∙◌, ℕ, ◌+◌, ◌-◌, ◌<◌, Option, Some, cond, nat_eq, length, refl, sym, ap, arith, rules}
use Rattle.std.proofs.lemmas.List.{length-set}
use Rattle.join_engine.proofs.ChainFacts.{first-more, first-same, linked-more, linked-same, rows_from-end}
use Rattle.join_engine.proofs.chains.Chains.of.Goals as goal

pub rows-init : goal.rows-init
rows-init g c = record {
  count = c.len-count.ensures.count;
  size = search rules;
  heads = λ hash. rw (c.new-heads.ensures.empty, rows_from-end c.args.rows.now c.len-count.result hash (omega arith)) refl;
  next = λ row hash le few key. absurd (omega arith);
  looks = omega arith;
}

pub rows-preserved-in-Some : goal.rows-preserved-in-Some
rows-preserved-in-Some g c =
    let t = c.args.rows.now in
    let place = c.rows.row - 1 in
    let succ : place + 1 ≡ c.rows.row = omega arith in
    let lt : place < length t.rows = omega arith in
    let key = sym c.in-Some.ensures.hash in
    let old = c.in_ok-after.ensures.old ∙ c.rows.invariant.heads c.in-Some.hash in
    record {
      count = c.rows.invariant.count;
      size = length-set c.rows.next.items place c.unwrap_or.result ∙ c.rows.invariant.size;
      heads = λ hash. c.in_ok-after.ensures.updates.0 hash ∙ ap (λ (o : Option ℕ). cond (nat_eq c.in-Some.hash hash) (Some place) o) (c.rows.invariant.heads hash)
          ∙ sym (first-more t place c.rows.row c.in-Some.hash hash succ lt key);
      next = rw (c.unwrap_or.ensures, c.rows.invariant.count) (linked-more t c.rows.next.items place c.rows.row c.in-Some.hash c.in_ok-after.after succ lt c.rows.invariant.size key old c.rows.invariant.next);
      looks = omega arith;
    }

pub rows-preserved : goal.rows-preserved
rows-preserved g c =
    let t = c.args.rows.now in
    let place = c.rows.row - 1 in
    let succ : place + 1 ≡ c.rows.row = omega arith in
    let lt : place < length t.rows = omega arith in
    let key = sym c.in_default.ensures.hash in
    record {
      count = c.rows.invariant.count;
      size = c.rows.invariant.size;
      heads = λ hash. c.rows.invariant.heads hash ∙ sym (first-same t place c.rows.row hash succ lt key);
      next = linked-same t c.rows.next.items place c.rows.row succ key c.rows.invariant.next;
      looks = omega arith;
    }

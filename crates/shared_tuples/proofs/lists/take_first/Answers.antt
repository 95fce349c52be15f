use Rattle.std.proofs.Common.{◌≡◌, ℕ, suc, ◌-◌, refl, sym, ap, ◌∙◌, subst, arith, Some, None}
use Rattle.std.proofs.lemmas.Bool.{eqb-true}
use Rattle.wait_core.specs.declared.view.WaitView.{WaitView}
use Rattle.wait_core.specs.Seating.{party_of}
use Rattle.join_law.specs.declared.view.HashView.{HashView}
use Rattle.join_law.specs.Machine.{IsTaking, source_head}
use Rattle.join_law.specs.Phases.{known_word}
use Rattle.join_law.proofs.Learned.{taken_known}
use Rattle.join_party.specs.Joins.{join}
use Rattle.join_party.specs.declared.party.HashParty.{HashParty}
use Rattle.shared_tuples.proofs.Tuples.{with_is}
use Rattle.shared_tuples.proofs.Takes.{first_at, row_there, head_read, next_read, take_ready, took_row, missed_row, from_source}
use Rattle.shared_tuples.proofs.lists.take_first.Goals as goal

pub loop-init : goal.loop-init
loop-init g c = (refl, refl, c.args.seat.now.view.client.taking, refl)

pub overflow_cast-row : goal.overflow_cast-row
overflow_cast-row g c =
    let stood = c.client-first.ensures.stood in
    let there = row_there (join c.args.waits.now.party) _ _ _ stood.rule.client _ (party_of c.loop.seat.view) stood.step c.args.source c.client-first.result.old c.requires.may.inside stood.read c.if-first-eq0.false in
    let few = there.2 in omega arith

pub client-next-requires-clause-may : goal.client-next-requires-clause-may
client-next-requires-clause-may g c κs =
    let j = join c.args.waits.now.party in
    let v = c.args.seat.now.view in
    let stood = c.client-first.ensures.stood in
    let there = row_there j _ _ _ stood.rule.client _ (party_of c.loop.seat.view) stood.step c.args.source c.client-first.result.old c.requires.may.inside stood.read c.if-first-eq0.false in
    let at = head_read j v c.loop.seat.view c.client-first.new.seat.view c.args.source c.loop.invariant.2 c.client-first.result.old c.loop.invariant.3 c.client-first.ensures.view there.0 in
    (there.1, subst (λ (y : WaitView HashView). IsTaking y.client.taking (c.client-first.result.old - 1)) (sym at) refl)

pub returns-then-seen-clause-taken : goal.returns-then-seen-clause-taken
returns-then-seen-clause-taken g c =
    let j = join c.args.waits.now.party in
    let v = c.args.seat.now.view in
    let source = c.args.source in
    let n : ℕ = c.client-first.result.old in
    let m : ℕ = c.client-next.result.old in
    let stood = c.client-first.ensures.stood in
    let there = row_there j _ _ _ stood.rule.client _ (party_of c.loop.seat.view) stood.step source n c.requires.may.inside stood.read c.if-first-eq0.false in
    let one = head_read j v c.loop.seat.view c.client-first.new.seat.view source c.loop.invariant.2 n c.loop.invariant.3 c.client-first.ensures.view there.0 in
    let two = next_read j v c.client-first.new.seat.view c.client-next.new.seat.view source (n - 1) m one c.client-next.ensures.view in
    took_row j v c.client-next.new.seat.view c.client-seen.new.seat.view (Some (first_at j v source (n - 1) (Some m))) (n - 1) m c.source_head-head.result c.client-seen.result.old two c.client-seen.ensures.view (sym c.client-seen.ensures.changed ∙ c.if-seen.true)

pub returns-then-seen-clause-row : goal.returns-then-seen-clause-row
returns-then-seen-clause-row g c =
    let j = join c.args.waits.now.party in
    let v = c.args.seat.now.view in
    let source = c.args.source in
    let n : ℕ = c.client-first.result.old in
    let m : ℕ = c.client-next.result.old in
    let row : ℕ = n - 1 in
    let stood = c.client-first.ensures.stood in
    let there = row_there j _ _ _ stood.rule.client _ (party_of c.loop.seat.view) stood.step source n c.requires.may.inside stood.read c.if-first-eq0.false in
    let one = head_read j v c.loop.seat.view c.client-first.new.seat.view source c.loop.invariant.2 n c.loop.invariant.3 c.client-first.ensures.view there.0 in
    let two = next_read j v c.client-first.new.seat.view c.client-next.new.seat.view source row m one c.client-next.ensures.view in
    let at : c.source_head-head.result ≡ source_head j source = c.source_head-head.ensures ∙ ap (λ (p : HashParty). source_head (join p) source) c.party.ensures in
    let known = with_is (known_word (party_of v)) _ c.requires.may.known in
    let met : c.client-seen.result.old ≡ suc row = eqb-true _ _ (sym c.client-seen.ensures.changed ∙ c.if-seen.true) in
    let took = c.client-seen.ensures.stood in
    let mine : c.client-next.new.seat.view.client.taking ≡ Some (first_at j v source row (Some m)) = ap (λ (y : WaitView HashView). y.client.taking) two in
    let still : known_word (party_of c.client-next.new.seat.view) ≡ Some known.0 = ap (λ (y : WaitView HashView). known_word (party_of y)) two ∙ known.1 in
    from_source j (party_of v) source row known.0 known.1
    (taken_known j _ _ _ took.rule.client _ (party_of c.client-next.new.seat.view) took.step (first_at j v source row (Some m)) row c.source_head-head.result m known.0 mine (take_ready j v c.client-next.new.seat.view source row m c.source_head-head.result two at c.requires.may.inside c.requires.may.may) (took.read ∙ met) still)

pub loop-preserved : goal.loop-preserved
loop-preserved g c =
    let j = join c.args.waits.now.party in
    let v = c.args.seat.now.view in
    let source = c.args.source in
    let n : ℕ = c.client-first.result.old in
    let stood = c.client-first.ensures.stood in
    let there = row_there j _ _ _ stood.rule.client _ (party_of c.loop.seat.view) stood.step source n c.requires.may.inside stood.read c.if-first-eq0.false in
    let one = head_read j v c.loop.seat.view c.client-first.new.seat.view source c.loop.invariant.2 n c.loop.invariant.3 c.client-first.ensures.view there.0 in
    let two = next_read j v c.client-first.new.seat.view c.client-next.new.seat.view source (n - 1) c.client-next.result.old one c.client-next.ensures.view in (
      c.client-seen.ensures.table.0 ∙ (c.client-next.ensures.table.0 ∙ (c.client-first.ensures.table.0 ∙ c.loop.invariant.0)),
      c.client-seen.ensures.table.1 ∙ (c.client-next.ensures.table.1 ∙ (c.client-first.ensures.table.1 ∙ c.loop.invariant.1)),
      None,
      missed_row j v c.client-next.new.seat.view c.client-seen.new.seat.view (Some (first_at j v source (n - 1) (Some c.client-next.result.old))) (n - 1) c.client-next.result.old c.source_head-head.result c.client-seen.result.old two c.client-seen.ensures.view (sym c.client-seen.ensures.changed ∙ c.if-seen.false),
    )

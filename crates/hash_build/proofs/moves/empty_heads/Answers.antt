use Rattle.std.proofs.Common.{ℕ, sym, subst, refl}
use Rattle.wait_core.specs.Seating.{party_of}
use Rattle.join_party.specs.Joins.{join}
use Rattle.hash_build.specs.Growths.{SweptTo}
use Rattle.hash_build.proofs.Moving.{may_take_still, moves_none, swept_less}
use Rattle.hash_build.proofs.moves.empty_heads.Goals as goal

pub loop-turn-init : goal.loop-turn-init
loop-turn-init g c =
    let v = c.args.seats.now.wait.view in
    (refl, refl, refl, refl, moves_none v c.requires.hand, λ start. subst (λ (n : ℕ). SweptTo c.args.growth n (party_of v)) (sym start) c.requires.attached)

pub empty_head-requires-clause-turn : goal.empty_head-requires-clause-turn
empty_head-requires-clause-turn g c =
    may_take_still (join c.args.tables.now.waits.party) c.args.seats.now.wait.view c.loop-turn.seats.wait.view c.args.growth c.loop-turn.turn c.loop-turn.invariant.4 (c.requires.turns c.loop-turn.turn c.loop-turn-test.true)

pub returns-clause-swept : goal.returns-clause-swept
returns-clause-swept g c start = swept_less c.loop-turn.seats.wait.view c.args.growth c.args.heads c.loop-turn.turn c.loop-turn-test.false (c.loop-turn.invariant.5 start)

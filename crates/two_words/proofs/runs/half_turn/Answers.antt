use Rattle.std.proofs.Common.{map, arith}
use Rattle.seat_roster.proofs.Totals.{total_at}
use Rattle.wait_core.specs.Seating.{party_of}
use Rattle.two_words.specs.Balance.{left_of}
use Rattle.two_words.proofs.runs.half_turn.Goals as goal

pub returns-clause-few : goal.returns-clause-few
returns-clause-few c =
    let stood = c.client.ensures.stood in
    let views = stood.state.views in
    let balanced = stood.rule.client in
    let v = c.args.seat.now.view in
    let few = stood.step.few in
    let mine = total_at left_of (map party_of views) _ (party_of v) stood.step.at in
    let some = c.requires.turn in
    let first = balanced.first in
    let second = balanced.second in
    let each = balanced.one_each in
    let read = stood.read in
    omega arith

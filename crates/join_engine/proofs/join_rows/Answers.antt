use Rattle.std.proofs.Common.{◌≡◌, ℕ, ◌+◌, ◌-◌, ◌<◌, ◌≤◌, length, sum, arith, rules, sym, ap, ◌∙◌, subst}
use Rattle.seat_roster.specs.Roster.{times}
use Rattle.row_model.specs.Table.{Table, nested_loop}
use Rattle.wait_core.specs.declared.view.WaitView.{WaitView}
use Rattle.signal_core.specs.declared.seat.SigSeat.{SigSeat}
use Rattle.join_law.specs.declared.view.HashView.{HashView}
use Rattle.join_law.specs.Views.{probed_rows}
use Rattle.join_end.specs.Looks.{look_bound}
use Rattle.join_end.specs.Pairs.{SamePairs}
use Rattle.join_engine.specs.Workers.{IsLeader}
use Rattle.join_engine.proofs.Finished.{leader_last, leader_opens, looks_few, pairs_whole, rows_probed}
use Rattle.join_engine.proofs.join_rows.Goals as goal

pub run_last-said-requires-clause-leader : goal.run_last-said-requires-clause-leader
run_last-said-requires-clause-leader g c κs within =
    let opened = c.in_ok-tables.ensures in
    let same : c.in_ok-tables.tables.plan.workers ≡ length c.args.steps.now = search rules in
    let none : 0 ≡ c.in_ok-tables.tables.plan.workers - length c.args.steps.now = omega arith in
    subst (λ (n : ℕ). IsLeader c.in_ok-tables.leader n 0) none (leader_opens c.in_ok-tables.leader opened.lock.1 opened.wait.1 opened.signal.1)

pub finish-requires-clause-whole : goal.finish-requires-clause-whole
finish-requires-clause-whole g c none enough =
    let rows = c.in_ok-tables.ensures.rows in
    let some : 0 < length c.args.steps.now = search rules in
    let all = pairs_whole c.in_ok-tables.tables c.run_last-said.new.leader (length c.args.steps.now) c.run_last-said.new.pairs.items c.run_last-said.result (sum c.args.steps.now) (sum c.run_last-said.new.steps) c.run_last-said.ensures.together some c.look_last.ensures.end none enough in
    subst (λ (t : Table × Table). SamePairs c.run_last-said.new.pairs.items (nested_loop t.1 t.0)) (λ i. ((rows.0 i).now, (rows.1 i).now)) all

pub returns-in-Ok-clause-looks : goal.returns-in-Ok-clause-looks
returns-in-Ok-clause-looks g c =
    let opened = c.in_ok-tables.ensures in
    let some : 0 < length c.args.steps.now = search rules in
    let few = looks_few c.in_ok-tables.tables c.run_last-said.new.leader (length c.args.steps.now) c.run_last-said.new.pairs.items c.run_last-said.result (sum c.args.steps.now) (sum c.run_last-said.new.steps) c.run_last-said.ensures.together some c.look_last.ensures.end in
    subst (λ (t : Table × (Table × ℕ)). sum c.run_last-said.new.steps ≤ sum c.args.steps.now + look_bound t.1.0 t.0 t.1.1) (λ i. ((opened.rows.0 i).now, ((opened.rows.1 i).now, opened.plan.1 i))) few

pub returns-in-Err-clause-looks : goal.returns-in-Err-clause-looks
returns-in-Err-clause-looks g c =
    let opened = c.in_ok-tables.ensures in
    let some : 0 < length c.args.steps.now = search rules in
    let few = looks_few c.in_ok-tables.tables c.run_last-said.new.leader (length c.args.steps.now) c.run_last-said.new.pairs.items c.run_last-said.result (sum c.args.steps.now) (sum c.run_last-said.new.steps) c.run_last-said.ensures.together some c.look_last.ensures.end in
    subst (λ (t : Table × (Table × ℕ)). sum c.run_last-said.new.steps ≤ sum c.args.steps.now + look_bound t.1.0 t.0 t.1.1) (λ i. ((opened.rows.0 i).now, ((opened.rows.1 i).now, opened.plan.1 i))) few

pub returns-in-Ok-clause-joined : goal.returns-in-Ok-clause-joined
returns-in-Ok-clause-joined g c =
    let rows = c.in_ok-tables.ensures.rows in
    let some : 0 < length c.args.steps.now = search rules in
    let none : length c.args.steps.now ≡ c.in_ok-tables.tables.plan.workers = search rules in
    let marks = c.in-Ok.ensures.unmarked in
    let leader = c.run_last-said.ensures.leader in
    let seen = c.look_last.ensures.same.0 in
    let probed = rows_probed c.in_ok-tables.tables c.run_last-said.new.leader (length c.args.steps.now) c.run_last-said.new.pairs.items c.run_last-said.result (sum c.args.steps.now) (sum c.run_last-said.new.steps) c.run_last-said.ensures.together some c.look_last.ensures.end marks.0 marks.1 in record {
      pairs = c.in-Ok.ensures.pairs ∙ sym (λ i. nested_loop (rows.1 i).now (rows.0 i).now);
      few = c.in-Ok.ensures.few;
      probed = λ o hash inside key. ap (λ (v : WaitView HashView). times (length c.in_ok-tables.tables.waits.party.inner.now.rows + o) (probed_rows v.client.probed)) seen ∙ probed o hash inside key;
      seats = record {
        workers = ap (λ (v : WaitView HashView). v.drawn) seen ∙ leader.drawn.1;
        all = leader_last c.run_last-said.new.leader c.look_last.new.seats c.in_ok-tables.tables.plan.workers (length c.args.steps.now) leader none seen (ap (λ (u : SigSeat). u.view) c.look_last.ensures.same.1);
      };
    }

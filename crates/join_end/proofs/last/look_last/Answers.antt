use Rattle.std.proofs.Common.{ℕ, ◌≤◌, map, sym, ap, ◌∙◌, subst}
use Rattle.seat_roster.specs.Roster.{times}
use Rattle.atomic_table.proofs.Lists.{at_map}
use Rattle.wait_core.specs.declared.view.WaitView.{WaitView}
use Rattle.wait_core.specs.Seating.{party_of}
use Rattle.wait_core.specs.Seats.{size_of}
use Rattle.wait_core.specs.Words.{client_words}
use Rattle.wait_core.specs.Barriers.{phases_in}
use Rattle.wait_core.proofs.SeatsKept.{others_left}
use Rattle.signal_core.specs.declared.view.SigView.{SigView}
use Rattle.signal_core.specs.Promises.{HasEmitted}
use Rattle.join_law.specs.declared.view.HashView.{HashView}
use Rattle.join_law.specs.Stands.{There}
use Rattle.join_party.specs.Guards.{stop_shows}
use Rattle.hash_probe.specs.Signals.{STOP}
use Rattle.join_end.proofs.last.look_last.Goals as goal

pub returns-clause-end : goal.returns-clause-end
returns-clause-end c = λ w wait signal done.
    let t = c.args.tables.now.waits in
    let v = c.args.seats.now.wait.view in
    let id : ℕ = c.args.seats.now.wait.id in
    let stood = c.client.ensures.stood in
    let last = c.requires.last in
    record {
      words = client_words (size_of t) stood.state.words;
      views = map party_of stood.state.views;
      phases = phases_in (size_of t) stood.state;
      id = id;
      stands = stood.rule.client;
      there = subst (λ (y : WaitView HashView). There (map party_of stood.state.views) id (party_of y)) (sym wait) (at_map party_of stood.state.views id v stood.here);
      free = ap (λ (y : WaitView HashView). y.attached) wait ∙ last.free;
      others = λ k u apart there. others_left _ _ _ _ stood.state stood.rule id v stood.here last.first.0 last.all.0 k u apart there;
      done = done;
      emitted = subst (λ (y : SigView). 1 ≤ times STOP y.absorbed → HasEmitted stop_shows STOP y) (sym signal) (c.settle.ensures.emitted last.first.1 last.idle.1 last.all.1 STOP);
    }

use Rattle.std.proofs.Common.{◌≡◌, ℕ, ◌+◌, ◌-◌, List, [], length, Bool, false, None, Some, Option, sym, ap, ◌∙◌, subst}
use Rattle.row_model.specs.declared.Pair.{Pair}
use Rattle.row_model.specs.Table.{Table, nested_loop}
use Rattle.wait_core.specs.declared.view.WaitView.{WaitView}
use Rattle.wait_core.specs.Seating as waits
use Rattle.signal_core.specs.declared.view.SigView.{SigView}
use Rattle.signal_core.specs.Seating as signals
use Rattle.join_law.specs.declared.view.HashView.{HashView}
use Rattle.join_law.specs.Views.{first_view}
use Rattle.join_party.specs.declared.party.HashParty.{HashParty}
use Rattle.join_end.specs.Pairs.{SamePairs}
use Rattle.join_end.specs.Works.{Work, both_work, work_of}
use Rattle.join_end.proofs.Gathers.{done_both}
use Rattle.join_end.proofs.Whole.{whole}
use Rattle.join_end.proofs.Workers.{drawn_free, drawn_new, nothing_did, signal_taken, wait_taken}
use Rattle.join_end.proofs.tests.join_alone.Goals as goal

pub work-said-requires-clause-new : goal.work-said-requires-clause-new
work-said-requires-clause-new g c κs within =
    let leader = c.open-tables.result.1 in
    let m : ℕ = leader.wait.view.drawn + 1 in
    let n : ℕ = leader.signal.view.drawn + 1 in
    (m, n, drawn_new leader c.draw-worker.new.leader c.draw-worker.result c.draw-worker.ensures.drawn)

pub look_last-requires-clause-last : goal.look_last-requires-clause-last
look_last-requires-clause-last g c =
    let opened = c.open-tables.result.1 in
    let leader = c.draw-worker.new.leader in
    let worker = c.work-said.new.seats in
    let last = c.take_in.new.into in
    let drawn = c.draw-worker.ensures.drawn in
    let m : ℕ = opened.wait.view.drawn + 1 in
    let n : ℕ = opened.signal.view.drawn + 1 in
    let numbers = c.work-said.ensures.numbers m n (drawn_new opened leader c.draw-worker.result drawn) in
    let wait : leader.wait.view ≡ waits.after_draw (waits.fresh first_view (Some 0)) = drawn.wait ∙ ap waits.after_draw c.open-tables.ensures.wait in
    let signal : leader.signal.view ≡ signals.after_draw (signals.fresh (Some 0)) = drawn.signal ∙ ap signals.after_draw c.open-tables.ensures.signal in
    let after = c.take_in.ensures.wait in
    let heard = c.take_in.ensures.signal in
    record {
      idle = (ap (λ (y : WaitView HashView). y.place) after ∙ ap (λ (y : WaitView HashView). y.place) wait, ap (λ (y : SigView). y.place) heard ∙ ap (λ (y : SigView). y.place) signal);
      free = ap (λ (y : WaitView HashView). y.attached) after ∙ ap (λ (y : WaitView HashView). y.attached) wait;
      first = (ap (λ (y : WaitView HashView). y.own) after ∙ ap (λ (y : WaitView HashView). y.own) wait, ap (λ (y : SigView). y.own) heard ∙ ap (λ (y : SigView). y.own) signal);
      all = (
        ap (λ (y : WaitView HashView). length y.taken) after ∙ (wait_taken leader.wait.view worker.wait.view m numbers.wait.0 numbers.wait.1 ∙ (ap (λ (y : WaitView HashView). length y.taken + 1) wait ∙ sym (ap (λ (y : WaitView HashView). y.drawn) after ∙ ap (λ (y : WaitView HashView). y.drawn) wait))),
        ap (λ (y : SigView). length y.taken) heard ∙ (signal_taken leader.signal.view worker.signal.view n numbers.signal.0 numbers.signal.1 ∙ (ap (λ (y : SigView). length y.taken + 1) signal ∙ sym (ap (λ (y : SigView). y.drawn) heard ∙ ap (λ (y : SigView). y.drawn) signal))),
      );
    }

pub finish-answer-requires-clause-whole : goal.finish-answer-requires-clause-whole
finish-answer-requires-clause-whole g c = λ none enough.
    let p : HashParty = c.open-tables.result.0.waits.party in
    let leader = c.draw-worker.new.leader in
    let worker = c.work-said.new.seats in
    let drawn = c.draw-worker.ensures.drawn in
    let pairs : List Pair = c.work-said.new.pairs.items in
    let over : Option ℕ = c.work-said.result.over in
    let short : Bool = c.work-said.result.short in
    let looks : ℕ = c.work-said.new.steps - c.new-steps.result in
    let nothing = nothing_did p leader (ap (λ (y : WaitView HashView). y.client) (drawn.wait ∙ ap waits.after_draw c.open-tables.ensures.wait)) (ap (λ (y : SigView). y.emissions) (drawn.signal ∙ ap signals.after_draw c.open-tables.ensures.signal)) in
    let w : Work = both_work (work_of leader [] None false 0) (work_of worker pairs over short looks) in
    let done = done_both p (work_of leader [] None false 0) (work_of worker pairs over short looks) nothing c.work-said.ensures.done in
    let end = c.look_last.ensures.end w (sym c.take_in.ensures.wait) (sym c.take_in.ensures.signal) done in
    let all : SamePairs pairs (nested_loop p.outer.now p.inner.now) = whole p w end (none, enough) in
    let rows = c.open-tables.ensures.rows in
    subst (λ (t : Table × Table). SamePairs pairs (nested_loop t.1 t.0)) (λ i. ((rows.0 i).now, (rows.1 i).now)) all

pub take_in-requires-clause-free : goal.take_in-requires-clause-free
take_in-requires-clause-free g c =
    (c.work-said.ensures.gone.lock, c.work-said.ensures.holds (drawn_free c.open-tables.result.1 c.draw-worker.new.leader c.draw-worker.result c.draw-worker.ensures.drawn))

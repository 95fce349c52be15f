use Rattle.std.proofs.Common.{ℕ, refl, sym, ap, ◌∙◌}
use Rattle.lw_core.specs.declared.step.LwStep.TheVariants.{Lock}
use Rattle.lw_core.specs.declared.view.View.{View}
use Rattle.lw_core.specs.Machine.{list_of, made_with, number_of}
use Rattle.lw_core.proofs.Programs.{part_first, part_on}
use Rattle.lwlock.proofs.Taking.{took_after, took_now}
use Rattle.lwlock.proofs.queue.take_list.Goals as goal

pub returns-then-list_is_home-clause-program : goal.returns-then-list_is_home-clause-program
returns-then-list_is_home-clause-program g c =
    let l : ℕ = c.args.lock in let b = c.args.begins in let v : View = c.args.seat.now.view in let n = c.step.result.old in
    part_first b (made_with (Lock l b) n (list_of (Lock l b) n c.step.new.seat.list (number_of v.own) v.place)) v c.step.new.seat.view (ap (λ (x : View). x.steps) c.step.ensures.view) refl refl

pub returns-clause-program : goal.returns-clause-program
returns-clause-program g c =
    let l : ℕ = c.args.lock in let b = c.args.begins in let v : View = c.args.seat.now.view in let n = c.step.result.old in let u = c.step.new.seat.view in let waited = c.wait_for_list.ensures.view in
    part_on b v u c.wait_for_list.new.seat.view (part_first b (made_with (Lock l b) n (list_of (Lock l b) n c.step.new.seat.list (number_of v.own) v.place)) v u (ap (λ (x : View). x.steps) c.step.ensures.view) refl refl) waited.0 (ap (λ (x : View). x.steps) waited.1) c.wait_for_list.ensures.program

pub returns-then-list_is_home-clause-found : goal.returns-then-list_is_home-clause-found
returns-then-list_is_home-clause-found g c = took_now c.args.lock c.step.result.old c.args.begins c.step.new.seat.list c.args.seat.now.view c.step.new.seat.view c.step.ensures.view (sym c.list_is_home.ensures ∙ c.if-list_is_home.true)

pub returns-clause-found : goal.returns-clause-found
returns-clause-found g c = took_after c.args.lock c.wait_for_list.new.seat.list c.args.seat.now.view c.step.new.seat.view c.wait_for_list.new.seat.view _ (ap (λ (x : View). x.steps) c.step.ensures.view) c.wait_for_list.ensures.found

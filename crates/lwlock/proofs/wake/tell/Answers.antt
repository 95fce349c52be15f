use Rattle.std.proofs.Common.{rules, ◌≡◌, ℕ, ◌+◌, List, [], ◌∷◌, get_or, drop, None, refl, sym, ap, ◌∙◌, subst, add-one, drop-cons}
use Rattle.lw_core.specs.declared.step.LwStep.TheVariants.{WaitStore, Post}
use Rattle.lw_core.specs.declared.view.View.{View}
use Rattle.lw_core.specs.declared.view.Waiter.{Waiter}
use Rattle.lw_core.specs.declared.view.Want.TheVariants.{Shared}
use Rattle.lw_core.specs.WaitLists.{waiter}
use Rattle.lw_core.specs.Machine.{made, next}
use Rattle.lw_core.specs.Programs.{begins_call}
use Rattle.lw_core.proofs.Programs.{count_kept}
use Rattle.lwlock.specs.Wakes.{told_by}
use Rattle.lwlock.proofs.Telling.{ToldUpTo, told_one}
use Rattle.lwlock.proofs.wake.tell.Goals as goal

pub loop-waiter-preserved : goal.loop-waiter-preserved
loop-waiter-preserved g c =
    let items = c.as_slice-waiter-items.result.now in let i = c.loop-waiter.waiter-index in let v = c.args.seat.now.view in let a = c.loop-waiter.seat.view in let b = c.step.new.seat.view in let w = c.post.new.seat.view in
    let u : Waiter = get_or items i (waiter 0 Shared) in let us : List Waiter = drop (i + 1) items in let p : c.proc_of-proc.result ≡ u.proc = c.proc_of-proc.ensures in
    let split : drop i items ≡ u ∷ us = drop-cons items i (waiter 0 Shared) c.loop-waiter-test.true ∙ ap (λ (n : ℕ). u ∷ drop n items) (sym (add-one i)) in
    let told = subst (λ (ws : List Waiter). ToldUpTo ws (told_by items) v a) split c.loop-waiter.invariant.view in
    let cleared = c.step.ensures.view ∙ ap (λ (q : ℕ). next (WaitStore q 0) a c.step.result.old c.step.new.seat.list) p in
    let posted = c.post.ensures.view.1 ∙ ap (λ (q : ℕ). next (Post q None) b c.post.ensures.view.0 []) p in record {
      table = search rules;
      program = c.post.ensures.program ∙ (count_kept begins_call a b (made (WaitStore c.proc_of-proc.result 0) c.step.result.old) (ap (λ (x : View). x.steps) c.step.ensures.view) refl ∙ c.loop-waiter.invariant.program);
      view = told_one c.step.result.old c.post.ensures.view.0 u us c.step.new.seat.list [] (told_by items) v a b w told cleared posted;
    }

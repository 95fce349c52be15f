use Rattle.std.proofs.Common.{rules, ◌≡◌, ℕ, ◌+◌, List, ◌∷◌, get_or, take, drop, refl, sym, ap, ◌∙◌, subst, add-one, drop-cons}
use Rattle.std.proofs.lemmas.List.{take_more}
use Rattle.lw_core.specs.declared.step.LwStep.TheVariants.{WaitStore}
use Rattle.lw_core.specs.declared.view.View.{View}
use Rattle.lw_core.specs.declared.view.Waiter.{Waiter}
use Rattle.lw_core.specs.declared.view.Want.TheVariants.{Shared}
use Rattle.lw_core.specs.WaitLists.{waiter}
use Rattle.lw_core.specs.Machine.{made, next}
use Rattle.lw_core.specs.Programs.{begins_call}
use Rattle.lw_core.proofs.Programs.{count_kept}
use Rattle.lwlock.specs.Wakes.{found_at, marked_by, updated_at, is_calling}
use Rattle.lwlock.proofs.Telling.{MarkedUpTo, marked_one}
use Rattle.lwlock.proofs.wake.mark.Goals as goal

pub loop-waiter-preserved : goal.loop-waiter-preserved
loop-waiter-preserved g c =
    let items = c.as_slice-waiter-items.result.now in let i = c.loop-waiter.waiter-index in let v = c.args.seat.now.view in let a = c.loop-waiter.seat.view in let w = c.step.new.seat.view in let n = c.step.result.old in
    let u : Waiter = get_or items i (waiter 0 Shared) in let us : List Waiter = drop (i + 1) items in let p : c.proc_of.result ≡ u.proc = c.proc_of.ensures in let b = is_calling v.place in let l = c.args.lock in let found = found_at v.place in let updated = updated_at v.place in
    let split : drop i items ≡ u ∷ us = drop-cons items i (waiter 0 Shared) c.loop-waiter-test.true ∙ ap (λ (k : ℕ). u ∷ drop k items) (sym (add-one i)) in
    let done = subst (λ (ws : List Waiter). MarkedUpTo b l updated found (take i items) ws (marked_by items) v a) split c.loop-waiter.invariant.view in
    let stored = c.step.ensures.view ∙ ap (λ (q : ℕ). next (WaitStore q 2) a n c.step.new.seat.list) p in
    let is = ap (λ (x : View). x.steps) c.step.ensures.view in record {
      table = search rules;
      list = c.step.ensures.list.0 refl refl ∙ c.loop-waiter.invariant.list;
      view = subst (λ (ws : List Waiter). MarkedUpTo b l updated found ws us (marked_by items) v w) (sym (take_more items i (waiter 0 Shared) c.loop-waiter-test.true)) (marked_one b l n updated found (take i items) us c.step.new.seat.list u (marked_by items) v a w done stored);
      program = count_kept begins_call a w (made (WaitStore c.proc_of.result 2) n) is refl ∙ c.loop-waiter.invariant.program;
    }

use Rattle.std.proofs.Common.{rules, ◌≡◌, ℕ, [], ◌∷◌, ◌++◌, refl, sym, ap, ◌∙◌}
use Rattle.lw_core.specs.declared.step.LwStep.TheVariants.{SetReleaseOk, Unlock, WaitLoad, WaitStore}
use Rattle.lw_core.specs.declared.view.View.{View}
use Rattle.lw_core.specs.Machine.{left_at, made, made_with, next, number_of, outer, resumed}
use Rattle.lw_core.specs.WaitLists.{without}
use Rattle.lw_core.specs.Programs.{begins_call}
use Rattle.lw_core.proofs.Programs.{count_kept}
use Rattle.lwlock.proofs.Sleeps.{left_listed, left_taken}
use Rattle.lwlock.proofs.queue.dequeue.Goals as goal

pub returns-then-listed-2-clause-view : goal.returns-then-listed-2-clause-view
returns-then-listed-2-clause-view g c =
    let l : ℕ = c.args.lock in let own : ℕ = c.proc_of-own.result in let v : View = c.args.seat.now.view in let b : View = c.step-listed.new.seat.view in let taken = c.take_list.ensures.view in let n = c.step-listed.result.old in let x = c.step.result.old in let y = c.step-then-listed-2.result.old in let clears = c.is_empty-last.result in
    let same : c.if-listed.seat.view ≡ b = search rules in
    let left = left_listed l own n x y c.args.want clears c.take_list.new.seat.list c.step-listed.new.seat.list c.step.new.seat.list c.step-then-listed-2.new.seat.list taken.0 v c.take_list.new.seat.view b c.step.new.seat.view c.step-then-listed-2.new.seat.view c.requires.place taken.1
    c.step-listed.ensures.view c.if-listed-2.true (c.step.ensures.view ∙ ap (λ (u : View). next (Unlock l clears) u x c.step.new.seat.list) same) c.step-then-listed-2.ensures.view in
    let more = taken.0 ++ (made WaitLoad n ∷ made_with (Unlock l clears) x (without (number_of v.own) c.take_list.new.seat.list) ∷ made (WaitStore own 0) y ∷ []) in let kept = sym (ap (λ (u : View). u.surplus) left) in
    (more, left ∙ (λ i. record v { place = resumed (kept i) (outer (outer v.place)); steps = v.steps ++ more; surplus = kept i }))

pub returns-clause-view : goal.returns-clause-view
returns-clause-view g c =
    let l : ℕ = c.args.lock in let v : View = c.args.seat.now.view in let b : View = c.step-listed.new.seat.view in let taken = c.take_list.ensures.view in let n = c.step-listed.result.old in let x = c.step.result.old in let y = c.step-2.result.old in let clears = c.is_empty-last.result in
    let w : View = c.sleep.new.seat.view in let slept = c.sleep.ensures.view in let same : c.if-listed.seat.view ≡ b = search rules in (
      taken.0 ++ (made WaitLoad n ∷ made_with (Unlock l clears) x c.take_list.new.seat.list ∷ made (SetReleaseOk l) y ∷ slept.0),
      left_taken l n x y w.surplus c.args.want clears c.take_list.new.seat.list c.step-listed.new.seat.list c.step.new.seat.list c.step-2.new.seat.list taken.0 slept.0 v c.take_list.new.seat.view b c.step.new.seat.view c.step-2.new.seat.view w c.requires.place taken.1
          c.step-listed.ensures.view c.if-listed-2.false (c.step.ensures.view ∙ ap (λ (u : View). next (Unlock l clears) u x c.step.new.seat.list) same) c.step-2.ensures.view slept.1,
    )

pub returns-clause-program : goal.returns-clause-program
returns-clause-program g c =
    let l : ℕ = c.args.lock in let a = c.take_list.new.seat.view in let b : View = c.step-listed.new.seat.view in let d = c.step.new.seat.view in let e = c.step-2.new.seat.view in let clears = c.is_empty-last.result in let x = c.step.result.old in
    let same : c.if-listed.seat.view ≡ b = search rules in let home = ap (λ (u : View). u.steps) (c.step.ensures.view ∙ ap (λ (u : View). next (Unlock l clears) u x c.step.new.seat.list) same) in
    c.sleep.ensures.program ∙ (count_kept begins_call d e (made (SetReleaseOk l) c.step-2.result.old) (ap (λ (u : View). u.steps) c.step-2.ensures.view) refl
    ∙ (count_kept begins_call b d (made_with (Unlock l clears) x (left_at b.place (number_of b.own))) home refl
    ∙ (count_kept begins_call a b (made WaitLoad c.step-listed.result.old) (ap (λ (u : View). u.steps) c.step-listed.ensures.view) refl ∙ c.take_list.ensures.program)))

use Rattle.std.proofs.Common.{◌≡◌, ℕ, false, List, [], ◌∷◌, ◌++◌, refl, sym, ap, ◌∙◌, subst, append_assoc}
use Rattle.lw_core.specs.declared.step.LwStep.TheVariants.{Flag, Unlock, WaitStore}
use Rattle.lw_core.specs.declared.view.Made.{Made}
use Rattle.lw_core.specs.declared.view.View.{View}
use Rattle.lw_core.specs.Machine.{left_at, made, made_with, number_of}
use Rattle.lwlock.specs.Calls.{Announced}
use Rattle.lwlock.proofs.queue.queue.Goals as goal

in_order : (a b : List Made) (x y z : Made) → ((((a ++ b) ++ x ∷ []) ++ y ∷ []) ++ z ∷ []) ≡ a ++ ((b ++ x ∷ []) ++ (y ∷ z ∷ []))
in_order a b x y z = simp append_assoc

pub returns-clause-announced : goal.returns-clause-announced
returns-clause-announced g c =
    let v : View = c.args.seat.now.view in let taken = c.take_list.ensures.view in let own : ℕ = c.proc_of-own.result in
    let x : Made = made (Flag c.args.lock) c.step.result.old in let y : Made = made (WaitStore own 1) c.step-2.result.old in let u : View = c.step-2.new.seat.view in let z : Made = made_with (Unlock c.args.lock false) c.step-3.result.old (left_at u.place (number_of u.own)) in
    let same : own ≡ number_of v.own = sym (ap number_of c.proc_of-own.ensures.own) ∙ ap (λ (a : View). number_of a.own) taken.1 in
    let steps = ap (λ (a : View). a.steps) c.step-3.ensures.view
    ∙ (ap (λ (a : View). a.steps ++ z ∷ []) c.step-2.ensures.view
    ∙ (ap (λ (a : View). (a.steps ++ y ∷ []) ++ z ∷ []) c.step.ensures.view ∙ (ap (λ (a : View). ((a.steps ++ x ∷ []) ++ y ∷ []) ++ z ∷ []) taken.1 ∙ in_order v.steps taken.0 x y z))) in
    subst (λ (n : ℕ). Announced n v c.step-3.new.seat.view) same (c.step-2.result.old, (taken.0 ++ x ∷ [], (z ∷ [], (steps, refl))))

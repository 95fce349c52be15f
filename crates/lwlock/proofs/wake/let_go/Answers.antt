use Rattle.std.proofs.Common.{◌≡◌, ◌-◌, Bool, true, [], ◌∷◌, ◌++◌, refl, sym, ap, ◌∙◌, subst, append_assoc}
use Rattle.lw_core.specs.declared.step.LwStep.TheVariants.{Sub}
use Rattle.lw_core.specs.declared.view.Made.{Made}
use Rattle.lw_core.specs.declared.view.View.{View}
use Rattle.lw_core.specs.Machine.{calls_for_wake, made}
use Rattle.lw_core.specs.Words.{grant_of}
use Rattle.lwlock.specs.Wakes.{WakesIf}
use Rattle.lw_core.proofs.Programs.{part_first, part_on}
use Rattle.lwlock.proofs.wake.let_go.Goals as goal

pub returns-then-wakes_after-clause-woken : goal.returns-then-wakes_after-clause-woken
returns-then-wakes_after-clause-woken g c =
    let l = c.args.lock in let v = c.args.seat.now.view in let word = c.step-word.result.old in let woken = c.wake.ensures.woken in
    let first : Made = made (Sub l c.args.mode c.args.begins) word in
    let called : true ≡ calls_for_wake (word - grant_of c.args.mode) = sym c.if-wakes_after.true ∙ (c.wakes_after.ensures ∙ ap calls_for_wake c.left_word.ensures) in (
      c.args.mode,
      word,
      woken.0,
      c.requires.held,
      woken.1.0 ∙ (ap (λ (x : View). x.steps ++ woken.0) c.step-word.ensures.view ∙ append_assoc v.steps (first ∷ []) woken.0),
      subst (λ (b : Bool). WakesIf b l woken.0) called woken.1.1,
    )

pub returns-then-wakes_after-clause-program : goal.returns-then-wakes_after-clause-program
returns-then-wakes_after-clause-program g c =
    let v = c.args.seat.now.view in let u = c.step-word.new.seat.view in let went = c.wake.ensures.view in
    part_on c.args.begins v u c.wake.new.seat.view (part_first c.args.begins (made (Sub c.args.lock c.args.mode c.args.begins) c.step-word.result.old) v u (ap (λ (x : View). x.steps) c.step-word.ensures.view) refl refl) went.0 (ap (λ (x : View). x.steps) went.1) c.wake.ensures.program

use Rattle.std.proofs.Common.{List, [], ◌∷◌, ◌++◌, Some, refl, ap, ◌∙◌, append_assoc}
use Rattle.lw_core.specs.declared.step.Call.TheVariants.{Try}
use Rattle.lw_core.specs.declared.step.LwStep.TheVariants.{Load, Refuse}
use Rattle.lw_core.specs.declared.view.Made.{Made}
use Rattle.lw_core.specs.declared.view.View.{View}
use Rattle.lw_core.specs.Machine.{made, on_refusal, outer}
use Rattle.lw_core.proofs.Programs.{makes_first, makes_on}
use Rattle.lwlock.specs.Calls.{went}
use Rattle.lwlock.proofs.conditional_acquire.Goals as goal

pub returns-in-Err-clause-view : goal.returns-in-Err-clause-view
returns-in-Err-clause-view g c =
    let refused = c.in-Err.ensures.view in
    let v : View = c.args.seat.now.view in
    let first : Made = made (Load c.args.lock (Some (Try c.args.lock c.args.mode))) c.step-word.result.old in
    let rest : List Made = refused.1.0 ++ made (Refuse c.args.lock c.args.mode c.in-Err.seen) c.in-Err.seen ∷ [] in (
      refused.0,
      (
        first ∷ refused.1.0,
        refused.1.1 ∙ (ap (λ (u : View). went u (on_refusal (outer u.place)) rest) c.step-word.ensures.view ∙ (λ i. record v { place = on_refusal (c.requires.idle i); steps = append_assoc v.steps (first ∷ []) rest i })),
      ),
    )

pub returns-in-Err-clause-seen : goal.returns-in-Err-clause-seen
returns-in-Err-clause-seen g c = let refused = returns-in-Err-clause-view g c in (refused.1.0, ([], ap (λ (u : View). u.steps) refused.1.1))

pub returns-in-Ok-clause-program : goal.returns-in-Ok-clause-program
returns-in-Ok-clause-program g c =
    let l = c.args.lock in let m = c.args.mode in let v : View = c.args.seat.now.view in let begun : View = c.step-word.new.seat.view in let granted = c.in-Ok.ensures.view in
    let first = makes_first (Try l m) (made (Load l (Some (Try l m))) c.step-word.result.old) v begun (ap (λ (a : View). a.steps) c.step-word.ensures.view) refl in
    makes_on (Try l m) v begun c.attempt.new.seat.view first granted.0 (ap (λ (a : View). a.steps) granted.1) c.attempt.ensures.program

pub returns-in-Err-clause-program : goal.returns-in-Err-clause-program
returns-in-Err-clause-program g c =
    let l = c.args.lock in let m = c.args.mode in let v : View = c.args.seat.now.view in let begun : View = c.step-word.new.seat.view in let refused = c.in-Err.ensures.view in
    let first = makes_first (Try l m) (made (Load l (Some (Try l m))) c.step-word.result.old) v begun (ap (λ (a : View). a.steps) c.step-word.ensures.view) refl in
    makes_on (Try l m) v begun c.attempt.new.seat.view first (refused.1.0 ++ made (Refuse l m c.in-Err.seen) c.in-Err.seen ∷ []) (ap (λ (a : View). a.steps) refused.1.1) c.attempt.ensures.program

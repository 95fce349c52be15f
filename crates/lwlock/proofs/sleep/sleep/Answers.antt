use Rattle.std.proofs.Common.{rules, ℕ, ◌+◌, [], ◌∷◌, ◌++◌, cond, refl, sym, ap, ◌∙◌, add_assoc, eq-eqb, ne_eqb}
use Rattle.lw_core.specs.declared.step.LwStep.TheVariants.{Down, WaitLoad}
use Rattle.lw_core.specs.declared.view.View.{View}
use Rattle.lw_core.specs.Machine.{made, outer, resumed}
use Rattle.lw_core.specs.Programs.{begins_call}
use Rattle.lw_core.proofs.Programs.{count_kept}
use Rattle.semaphore.specs.Calls.{is_store}
use Rattle.lwlock.proofs.Sleeps.{slept}
use Rattle.lwlock.proofs.sleep.sleep.Goals as goal

pub returns-then-step-eq0-clause-view : goal.returns-then-step-eq0-clause-view
returns-then-step-eq0-clause-view g c =
    let v : View = c.args.seat.now.view in let w : View = c.step.new.seat.view in let went = c.loop.invariant.view in let fell = c.down_in_sleep.ensures.fell in let s : ℕ = v.surplus + c.loop.surplus in let more = went.0 ++ (fell.0 ++ (made Down fell.1.0 ∷ made WaitLoad c.step.result.old ∷ [])) in
    let turned = slept v.place c.requires.place v c.loop.seat.view c.down_in_sleep.new.seat.view w s fell.1.0 c.step.result.old c.step.new.seat.list went.0 fell.0 refl went.1 fell.1.1.1 c.step.ensures.view in
    let woken = turned ∙ (λ i. record v { place = cond (eq-eqb c.step.result.old 0 c.if-step-eq0.true i) (resumed s (outer (outer v.place))) v.place; steps = v.steps ++ more; surplus = cond (eq-eqb c.step.result.old 0 c.if-step-eq0.true i) s (s + 1) }) in
    let same = sym (ap (λ (x : View). x.surplus) woken) in
    (more, woken ∙ (λ i. record v { place = resumed (same i) (outer (outer v.place)); steps = v.steps ++ more; surplus = same i }))

pub loop-preserved : goal.loop-preserved
loop-preserved g c =
    let v : View = c.args.seat.now.view in let d : View = c.down_in_sleep.new.seat.view in let w : View = c.step.new.seat.view in let went = c.loop.invariant.view in let fell = c.down_in_sleep.ensures.fell in let s : ℕ = v.surplus + c.loop.surplus in let more = went.0 ++ (fell.0 ++ (made Down fell.1.0 ∷ made WaitLoad c.step.result.old ∷ [])) in
    let turned = slept v.place c.requires.place v c.loop.seat.view d w s fell.1.0 c.step.result.old c.step.new.seat.list went.0 fell.0 refl went.1 fell.1.1.1 c.step.ensures.view in
    let kept = turned ∙ (λ i. record v { place = cond (ne_eqb c.step.result.old 0 c.if-step-eq0.false i) (resumed s (outer (outer v.place))) v.place; steps = v.steps ++ more; surplus = cond (ne_eqb c.step.result.old 0 c.if-step-eq0.false i) s (s + 1) }) in record {
      table = search rules;
      view = (more, kept ∙ (λ i. record v { steps = v.steps ++ more; surplus = add_assoc v.surplus c.loop.surplus 1 i }));
      stores = count_kept is_store d w (made WaitLoad c.step.result.old) (ap (λ (x : View). x.steps) c.step.ensures.view) refl ∙ (c.down_in_sleep.ensures.stores ∙ c.loop.invariant.stores);
      program = count_kept begins_call d w (made WaitLoad c.step.result.old) (ap (λ (x : View). x.steps) c.step.ensures.view) refl ∙ (c.down_in_sleep.ensures.program ∙ c.loop.invariant.program);
    }

use Rattle.std.proofs.Common.{rules, ◌≡◌, ℕ, ◌+◌, ◌<◌, ◌^◌, [], ◌∷◌, ◌++◌, None, refl, sym, ap, ◌∙◌, subst, arith, append_assoc}
use Rattle.lw_core.specs.declared.step.LwStep.TheVariants.{Load, SetReleaseOk}
use Rattle.lw_core.specs.declared.view.Frame.TheVariants.{Attempting, Queued, Queueing, TakingList}
use Rattle.lw_core.specs.declared.view.View.{View}
use Rattle.lw_core.specs.Machine.{MayLoad, Place, answered, made, number_of, on_grant, on_refusal, on_waking, outer, resumed, want_of}
use Rattle.lw_core.specs.Programs.{begins_call}
use Rattle.lw_core.proofs.Programs.{count_kept}
use Rattle.lwlock.proofs.Later.{freed_refused, granted_stands, held_on, refused_before, refused_since, refused_stands, stands_on, tries_again, wakes, was_granted, was_refused}
use Rattle.lwlock.proofs.rounds.try_until_granted.Goals as goal

pub returns-then-is_ok-clause-program : goal.returns-then-is_ok-clause-program
returns-then-is_ok-clause-program g c = c.attempt.ensures.program ∙ c.loop.invariant.program

pub returns-in-Granted-clause-program : goal.returns-in-Granted-clause-program
returns-in-Granted-clause-program g c = c.run_round.ensures.program ∙ (c.attempt.ensures.program ∙ c.loop.invariant.program)

pub returns-then-is_ok-clause-view : goal.returns-then-is_ok-clause-view
returns-then-is_ok-clause-view g c =
    let l = c.args.lock in let m = c.args.mode in let v = c.args.seat.now.view in let u = c.loop.seat.view in let w = c.attempt.new.seat.view in let stands = c.loop.invariant.view in
    let granted = was_granted l m (on_grant u.surplus (outer u.place)) (on_refusal (outer u.place)) u w c.attempt.result (sym c.is_ok.ensures.value ∙ c.if-is_ok.true) c.attempt.ensures.view in (
      stands.0,
      (
        granted_stands l m c.loop.word stands.0 c.loop.surplus c.loop.waited v u w stands.1.1 granted,
        (stands.1.0, λ waited. refused_since l m v u w (c.loop.invariant.refused waited) granted.0 (ap (λ (a : View). a.steps) granted.1)),
      ),
    )

pub returns-in-Granted-clause-view : goal.returns-in-Granted-clause-view
returns-in-Granted-clause-view g c =
    let l = c.args.lock in let m = c.args.mode in let v = c.args.seat.now.view in let u = c.loop.seat.view in let a = c.attempt.new.seat.view in let w = c.run_round.new.seat.view in let stands = c.loop.invariant.view in let ended = c.in-Granted.ensures.view in
    let refused = was_refused l m (on_grant u.surplus (outer u.place)) (on_refusal (outer u.place)) u a c.attempt.result (sym c.is_ok.ensures.value ∙ c.if-is_ok.false) c.attempt.ensures.view in
    let queues = refused_stands l m c.loop.word stands.0 c.loop.surplus c.loop.waited v u a stands.1.1 refused in (
      stands.0,
      (
        held_on l m (TakingList l ∷ Queueing l (want_of m) ∷ Attempting l m ∷ Queued l m (want_of m) ∷ []) stands.0 c.loop.surplus c.in-Granted.more v a w queues ended.0,
        (stands.1.0, λ waited. refused_since l m v a w (refused_since l m v u a (c.loop.invariant.refused waited) refused.0 (ap (λ (x : View). x.steps) refused.1)) ended.0.0 (ap (λ (x : View). x.steps) ended.0.1)),
      ),
    )

pub returns-in-Granted-clause-held : goal.returns-in-Granted-clause-held
returns-in-Granted-clause-held g c = c.in-Granted.ensures.view.1.0

pub step-word-requires-in-loop-clause-allowed : goal.step-word-requires-in-loop-clause-allowed
step-word-requires-in-loop-clause-allowed g c =
    let l = c.args.lock in let m = c.args.mode in let ended = c.in-Woken.ensures.view in let surplus : ℕ = c.attempt.new.seat.view.surplus + c.in-Woken.more in
    let woken = ap (λ (a : View). answered a.place) ended.0.1 ∙ ((λ i. answered (resumed surplus (on_waking (c.wanted-want.ensures i) l m []))) ∙ ap answered (wakes surplus l m)) in
    subst (λ (p : Place). MayLoad l p) (sym (ap (λ (a : View). a.place) c.step-word.ensures.view ∙ woken)) refl

pub loop-preserved : goal.loop-preserved
loop-preserved g c =
    let l = c.args.lock in let m = c.args.mode in let v = c.args.seat.now.view in let u = c.loop.seat.view in let a = c.attempt.new.seat.view in let b = c.run_round.new.seat.view in let w = c.step-word-in-loop.new.seat.view in let stands = c.loop.invariant.view in let ended = c.in-Woken.ensures.view in
    let n = c.step-word-in-loop.result.old in
    let refused = was_refused l m (on_grant u.surplus (outer u.place)) (on_refusal (outer u.place)) u a c.attempt.result (sym c.is_ok.ensures.value ∙ c.if-is_ok.false) c.attempt.ensures.view in
    let queues = refused_stands l m c.loop.word stands.0 c.loop.surplus c.loop.waited v u a stands.1.1 refused in
    let surplus : a.surplus ≡ c.loop.surplus = ap (λ (x : View). x.surplus) queues.1 in
    let total : a.surplus + c.in-Woken.more ≡ c.loop.surplus + c.in-Woken.more = ap (λ (x : ℕ). x + c.in-Woken.more) surplus in
    let slept = stands_on (TakingList l ∷ Queueing l (want_of m) ∷ Attempting l m ∷ Queued l m (want_of m) ∷ []) (resumed (c.loop.surplus + c.in-Woken.more) (on_waking (want_of m) l m [])) stands.0 c.loop.surplus c.in-Woken.more v a b queues
    (ended.0.0, ended.0.1 ∙ (λ i. record a { place = resumed (total i) (on_waking (c.wanted-want.ensures i) l m []); steps = a.steps ++ ended.0.0; surplus = a.surplus + c.in-Woken.more })) in
    let freed = c.in-Woken.ensures.freed in record {
      table = search rules;
      word = c.step-word-in-loop.ensures.told.0;
      small = subst (λ (x : ℕ). x + c.in-Woken.more < 2 ^ 32) surplus ended.1;
      refused = λ _.
          refused_since l m v b w (refused_before l m v a b (freed_refused (number_of a.own) l m c.in-Woken.seen a b freed.1 freed.2) queues.0 (ap (λ (x : View). x.steps) queues.1)) (made (SetReleaseOk l) c.step-word.result.old ∷ made (Load l None) n ∷ [])
          (ap (λ (x : View). x.steps) c.step-word-in-loop.ensures.view ∙ (ap (λ (x : View). x.steps ++ made (Load l None) n ∷ []) c.step-word.ensures.view ∙ append_assoc b.steps (made (SetReleaseOk l) c.step-word.result.old ∷ []) (made (Load l None) n ∷ [])));
      program = count_kept begins_call c.step-word.new.seat.view w (made (Load l None) n) (ap (λ (x : View). x.steps) c.step-word-in-loop.ensures.view) refl
          ∙ (count_kept begins_call b c.step-word.new.seat.view (made (SetReleaseOk l) c.step-word.result.old) (ap (λ (x : View). x.steps) c.step-word.ensures.view) refl ∙ (c.run_round.ensures.program ∙ (c.attempt.ensures.program ∙ c.loop.invariant.program)));
      view = (stands.0 + 1, ((λ _. omega arith, λ _. refl), tries_again l m c.step-word.result.old n stands.0 (c.loop.surplus + c.in-Woken.more) c.step-word.new.seat.list c.step-word-in-loop.new.seat.list v b c.step-word.new.seat.view w slept c.step-word.ensures.view c.step-word-in-loop.ensures.view));
    }

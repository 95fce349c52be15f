use Rattle.std.proofs.Common.{◌≡◌, ℕ, List, [], ◌∷◌, ◌++◌, Some, refl, sym, ap, ◌∙◌, subst, append_assoc}
use Rattle.lw_core.specs.declared.step.Call.TheVariants.{AcquireOrWait}
use Rattle.lw_core.specs.declared.step.LwStep.TheVariants.{Load}
use Rattle.lw_core.specs.declared.view.Made.{Made}
use Rattle.lw_core.specs.declared.view.View.{View}
use Rattle.lw_core.specs.Machine.{made, number_of, on_grant, on_refusal, outer}
use Rattle.lw_core.proofs.Programs.{makes_first, makes_on}
use Rattle.lwlock.specs.Calls.{FreedInCall}
use Rattle.lwlock.proofs.Later.{freed_within, granted_after, was_granted, was_refused, went_after}
use Rattle.lwlock.proofs.or_wait.acquire_or_wait.Goals as goal

pub returns-in-Woken-clause-freed : goal.returns-in-Woken-clause-freed
returns-in-Woken-clause-freed g c =
    let l : ℕ = c.args.lock in let m = c.args.mode in let v : View = c.args.seat.now.view in let begun : View = c.step-word.new.seat.view in let u : View = c.attempt.new.seat.view in let w : View = c.run_round.new.seat.view in let x : View = c.give_back-in-Woken.new.seat.view in
    let refused = was_refused l m (on_grant begun.surplus (outer begun.place)) (on_refusal (outer begun.place)) begun u c.attempt.result (sym c.is_ok.ensures.value ∙ c.if-is_ok.false) c.attempt.ensures.view in
    let given = c.give_back-in-Woken.ensures.view in let first : List Made = made (Load l (Some (AcquireOrWait l m))) c.step-word.result.old ∷ [] in
    let own : number_of u.own ≡ number_of v.own = ap (λ (a : View). number_of a.own) refused.1 ∙ ap (λ (a : View). number_of a.own) c.step-word.ensures.view in
    let began : u.steps ≡ v.steps ++ (first ++ refused.0) = ap (λ (a : View). a.steps) refused.1 ∙ (ap (λ (a : View). a.steps ++ refused.0) c.step-word.ensures.view ∙ append_assoc v.steps first refused.0) in
    freed_within (number_of v.own) l m c.in-Woken.seen v u w x (subst (λ (n : ℕ). FreedInCall n l m c.in-Woken.seen u w) own c.in-Woken.ensures.freed.2) (first ++ refused.0) given.0 began (ap (λ (a : View). a.steps) given.1)

pub returns-then-is_ok-clause-program : goal.returns-then-is_ok-clause-program
returns-then-is_ok-clause-program g c =
    let l : ℕ = c.args.lock in let m = c.args.mode in let v : View = c.args.seat.now.view in let begun : View = c.step-word.new.seat.view in let u : View = c.attempt.new.seat.view in
    let granted = was_granted l m (on_grant begun.surplus (outer begun.place)) (on_refusal (outer begun.place)) begun u c.attempt.result (sym c.is_ok.ensures.value ∙ c.if-is_ok.true) c.attempt.ensures.view in
    let first = makes_first (AcquireOrWait l m) (made (Load l (Some (AcquireOrWait l m))) c.step-word.result.old) v begun (ap (λ (a : View). a.steps) c.step-word.ensures.view) refl in
    makes_on (AcquireOrWait l m) v begun u first granted.0 (ap (λ (a : View). a.steps) granted.1) c.attempt.ensures.program

pub returns-in-Granted-clause-program : goal.returns-in-Granted-clause-program
returns-in-Granted-clause-program g c =
    let l : ℕ = c.args.lock in let m = c.args.mode in let v : View = c.args.seat.now.view in let begun : View = c.step-word.new.seat.view in let u : View = c.attempt.new.seat.view in let w : View = c.run_round.new.seat.view in
    let refused = was_refused l m (on_grant begun.surplus (outer begun.place)) (on_refusal (outer begun.place)) begun u c.attempt.result (sym c.is_ok.ensures.value ∙ c.if-is_ok.false) c.attempt.ensures.view in
    let first = makes_first (AcquireOrWait l m) (made (Load l (Some (AcquireOrWait l m))) c.step-word.result.old) v begun (ap (λ (a : View). a.steps) c.step-word.ensures.view) refl in
    let tried = makes_on (AcquireOrWait l m) v begun u first refused.0 (ap (λ (a : View). a.steps) refused.1) c.attempt.ensures.program in
    let ended = c.in-Granted.ensures.view.0 in let given = c.give_back.ensures.view in
    makes_on (AcquireOrWait l m) v w c.give_back.new.seat.view (makes_on (AcquireOrWait l m) v u w tried ended.0 (ap (λ (a : View). a.steps) ended.1) c.run_round.ensures.program) given.0 (ap (λ (a : View). a.steps) given.1) c.give_back.ensures.program

pub returns-in-Woken-clause-program : goal.returns-in-Woken-clause-program
returns-in-Woken-clause-program g c =
    let l : ℕ = c.args.lock in let m = c.args.mode in let v : View = c.args.seat.now.view in let begun : View = c.step-word.new.seat.view in let u : View = c.attempt.new.seat.view in let w : View = c.run_round.new.seat.view in
    let refused = was_refused l m (on_grant begun.surplus (outer begun.place)) (on_refusal (outer begun.place)) begun u c.attempt.result (sym c.is_ok.ensures.value ∙ c.if-is_ok.false) c.attempt.ensures.view in
    let first = makes_first (AcquireOrWait l m) (made (Load l (Some (AcquireOrWait l m))) c.step-word.result.old) v begun (ap (λ (a : View). a.steps) c.step-word.ensures.view) refl in
    let tried = makes_on (AcquireOrWait l m) v begun u first refused.0 (ap (λ (a : View). a.steps) refused.1) c.attempt.ensures.program in
    let ended = c.in-Woken.ensures.view.0 in let given = c.give_back-in-Woken.ensures.view in
    makes_on (AcquireOrWait l m) v w c.give_back-in-Woken.new.seat.view (makes_on (AcquireOrWait l m) v u w tried ended.0 (ap (λ (a : View). a.steps) ended.1) c.run_round.ensures.program) given.0 (ap (λ (a : View). a.steps) given.1) c.give_back-in-Woken.ensures.program

pub returns-in-Granted-clause-got : goal.returns-in-Granted-clause-got
returns-in-Granted-clause-got g c =
    let l : ℕ = c.args.lock in let m = c.args.mode in let v : View = c.args.seat.now.view in let begun : View = c.step-word.new.seat.view in let u : View = c.attempt.new.seat.view in
    let refused = was_refused l m (on_grant begun.surplus (outer begun.place)) (on_refusal (outer begun.place)) begun u c.attempt.result (sym c.is_ok.ensures.value ∙ c.if-is_ok.false) c.attempt.ensures.view in
    let ended = c.in-Granted.ensures.view.0 in let first : List Made = made (Load l (Some (AcquireOrWait l m))) c.step-word.result.old ∷ [] in
    granted_after l m _ _ _ _ first refused.0 ended.0 v begun u c.run_round.new.seat.view c.give_back.new.seat.view c.step-word.ensures.view refused.1 ended.1 c.give_back.ensures.view (c.step-word.ensures.told.1 c.requires.idle)

pub returns-in-Woken-clause-waited : goal.returns-in-Woken-clause-waited
returns-in-Woken-clause-waited g c =
    let l : ℕ = c.args.lock in let m = c.args.mode in let v : View = c.args.seat.now.view in let begun : View = c.step-word.new.seat.view in let u : View = c.attempt.new.seat.view in
    let refused = was_refused l m (on_grant begun.surplus (outer begun.place)) (on_refusal (outer begun.place)) begun u c.attempt.result (sym c.is_ok.ensures.value ∙ c.if-is_ok.false) c.attempt.ensures.view in
    let ended = c.in-Woken.ensures.view.0 in let first : List Made = made (Load l (Some (AcquireOrWait l m))) c.step-word.result.old ∷ [] in
    went_after _ _ _ _ first refused.0 ended.0 v begun u c.run_round.new.seat.view c.give_back-in-Woken.new.seat.view c.step-word.ensures.view refused.1 ended.1 c.give_back-in-Woken.ensures.view (c.step-word.ensures.told.1 c.requires.idle)

use Rattle.std.proofs.Common.{List, [], ◌∷◌, Some, refl, ap}
use Rattle.lw_core.specs.declared.step.Call.TheVariants.{Acquire}
use Rattle.lw_core.specs.declared.step.LwStep.TheVariants.{Load}
use Rattle.lw_core.specs.declared.view.Made.{Made}
use Rattle.lw_core.specs.declared.view.View.{View}
use Rattle.lw_core.specs.Machine.{made}
use Rattle.lw_core.proofs.Programs.{makes_first, makes_on}
use Rattle.lwlock.proofs.Later.{refused_before, refused_since}
use Rattle.lwlock.proofs.acquire.Goals as goal

pub returns-clause-refused : goal.returns-clause-refused
returns-clause-refused g c = λ waited.
    let l = c.args.lock in let m = c.args.mode in let v = c.args.seat.now.view in let begun = c.step-word.new.seat.view in let ended = c.try_until_granted-ended.new.seat.view in
    let first : List Made = made (Load l (Some (Acquire l m))) c.step-word.result.old ∷ [] in
    let found = refused_before l m v begun ended (c.try_until_granted-ended.ensures.view.1.1.1 waited) first (ap (λ (a : View). a.steps) c.step-word.ensures.view) in
    let given = c.give_back.ensures.view in refused_since l m v ended c.give_back.new.seat.view found given.0 (ap (λ (a : View). a.steps) given.1)

pub returns-clause-program : goal.returns-clause-program
returns-clause-program g c =
    let l = c.args.lock in let m = c.args.mode in let v = c.args.seat.now.view in let begun = c.step-word.new.seat.view in let ended = c.try_until_granted-ended.new.seat.view in
    let held = c.try_until_granted-ended.ensures.view.1.0 in let given = c.give_back.ensures.view in
    let first = makes_first (Acquire l m) (made (Load l (Some (Acquire l m))) c.step-word.result.old) v begun (ap (λ (a : View). a.steps) c.step-word.ensures.view) refl in
    let granted = makes_on (Acquire l m) v begun ended first held.0 (ap (λ (a : View). a.steps) held.1) c.try_until_granted-ended.ensures.program in
    makes_on (Acquire l m) v ended c.give_back.new.seat.view granted given.0 (ap (λ (a : View). a.steps) given.1) c.give_back.ensures.program

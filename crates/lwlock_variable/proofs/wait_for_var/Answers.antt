use Rattle.std.proofs.Common.{ℕ, ap}
use Rattle.lw_core.specs.declared.step.Call.TheVariants.{WaitForVar}
use Rattle.lw_core.specs.declared.view.View.{View}
use Rattle.lw_core.proofs.Programs.{makes_on}
use Rattle.lwlock_variable.proofs.Looks.{ends_within, was_looked_at, was_read}
use Rattle.lwlock_variable.proofs.wait_for_var.Goals as goal

pub returns-clause-looked : goal.returns-clause-looked
returns-clause-looked g c =
    let l : ℕ = c.args.lock in let old : ℕ = c.args.old in let a = c.wait-ended.result.answer in let v : View = c.args.seat.now.view in let u = c.compare.new.seat.view in let w = c.wait-ended.new.seat.view in let x = c.give_back.new.seat.view in
    let first = c.compare.ensures.view in let last = c.give_back.ensures.view in
    was_looked_at l old a v x (ends_within l old a v u w x c.wait-ended.ensures.ends first.0 last.0 (ap (λ (s : View). s.steps) first.1) (ap (λ (s : View). s.steps) last.1))

pub returns-clause-read : goal.returns-clause-read
returns-clause-read g c =
    let l : ℕ = c.args.lock in let old : ℕ = c.args.old in let a = c.wait-ended.result.answer in let v : View = c.args.seat.now.view in let u = c.compare.new.seat.view in let w = c.wait-ended.new.seat.view in let x = c.give_back.new.seat.view in
    let first = c.compare.ensures.view in let last = c.give_back.ensures.view in
    was_read l old a v x (ends_within l old a v u w x c.wait-ended.ensures.ends first.0 last.0 (ap (λ (s : View). s.steps) first.1) (ap (λ (s : View). s.steps) last.1))

pub returns-clause-program : goal.returns-clause-program
returns-clause-program g c =
    let v : View = c.args.seat.now.view in let u = c.compare.new.seat.view in let w = c.wait-ended.new.seat.view in let ended = c.wait-ended.ensures.view in let given = c.give_back.ensures.view in let k = WaitForVar c.args.lock c.args.old in
    makes_on k v w c.give_back.new.seat.view (makes_on k v u w c.compare.ensures.program ended.0 (ap (λ (x : View). x.steps) ended.1) c.wait-ended.ensures.program) given.0 (ap (λ (x : View). x.steps) given.1) c.give_back.ensures.program

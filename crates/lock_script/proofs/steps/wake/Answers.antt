use Rattle.lock_script.proofs.LockFacts.{woken-little}
use Rattle.std.proofs.Common.{subst, sym, ◌≤◌, ℕ, ◌+◌, ◌^◌}
use Rattle.lock_script.proofs.steps.wake.Goals as goal

pub returns-clause-little : goal.returns-clause-little
returns-clause-little c = subst (λ (to : ℕ). to ≤ c.args.word + 2 ^ 30) (sym c.woken_word-to.ensures) (woken-little c.as_slice.result.now c.as_slice-2.result.now c.args.word)

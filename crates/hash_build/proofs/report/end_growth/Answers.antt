use Rattle.std.proofs.Common.{ℕ, subst}
use Rattle.hash_build.specs.declared.report.Reported.{Reported}
use Rattle.hash_build.specs.Reports.{EndsGrowth, UnderLock}
use Rattle.hash_build.proofs.Reporting.{under_lock}
use Rattle.hash_build.proofs.report.end_growth.Goals as goal

pub returns-clause-view : goal.returns-clause-view
returns-clause-view g c =
    let u = c.args.seats.now.lock.view in
    let y = c.release.new.seat.view in
    let l : ℕ = c.the_lock-lock.result in
    let found : Reported = c.read_words-found.result in
    let next : Reported = c.after_growth-next.result in
    subst (λ (l : ℕ). EndsGrowth l c.args.stopped c.args.largest u y) c.the_lock-lock.ensures (record {
      found = found;
      under = subst (λ (r : Reported). UnderLock l found r u y) c.after_growth-next.ensures.after
          (under_lock l found next u c.acquire.new.seat.view c.read_words-found.new.seat.view c.store_changes.new.seat.view y c.acquire.ensures.view c.acquire.ensures.program c.read_words-found.ensures.steps c.store_changes.ensures.steps
          c.read_words-found.ensures.lawful c.release.ensures.view c.release.ensures.program);
    })

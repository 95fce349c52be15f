use Rattle.std.proofs.Common.{sym, ap, subst}
use Rattle.wait_core.specs.declared.view.WaitView.{WaitView}
use Rattle.join_law.specs.declared.view.HashView.{HashView}
use Rattle.hash_build.specs.Growths.{AreAt}
use Rattle.hash_build.proofs.Passing.{hashes_at_elect, reads_sizes_there}
use Rattle.hash_build.proofs.tests.threads.under_way.hash_until_wanted.Goals as goal

pub hash_inner_chunk-requires-clause-phase : goal.hash_inner_chunk-requires-clause-phase
hash_inner_chunk-requires-clause-phase g c =
    let p = c.args.phases in
    let w = c.claim.new.seats.wait.view in
    let at = subst (AreAt p) (sym (ap (λ (y : WaitView HashView). y.attached) c.in-Some-claim.ensures.claimed.view)) c.loop.invariant.attached in
    (hashes_at_elect p w at c.requires.elect, reads_sizes_there p w at)

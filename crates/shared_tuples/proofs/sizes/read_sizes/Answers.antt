use Rattle.std.proofs.Common.{◌≡◌, ℕ, subst}
use Rattle.wait_core.specs.Seating.{party_of}
use Rattle.join_law.specs.Layout.{sizes_of}
use Rattle.join_law.specs.Phases.{known_word}
use Rattle.join_law.specs.Stands.{SizesFit}
use Rattle.join_law.proofs.Callers.{with_there}
use Rattle.join_law.proofs.Learned.{known_found, sizes_fit_found}
use Rattle.join_party.specs.Joins.{join}
use Rattle.shared_tuples.specs.Tuples.{AreSizes}
use Rattle.shared_tuples.proofs.Tuples.{with_is}
use Rattle.shared_tuples.proofs.sizes.read_sizes.Goals as goal

pub returns-clause-sizes : goal.returns-clause-sizes
returns-clause-sizes c =
    let j = join c.args.waits.now.party in
    let v = party_of c.args.seat.now.view in
    let stood = c.client-word.ensures.stood in
    let n : ℕ = c.client-word.result.old in
    let known = with_is (known_word v) _ c.requires.known.0 in
    let same : n ≡ known.0 = known_found j _ _ _ stood.rule.client _ v stood.step known.0 n stood.read known.1 c.requires.known.1 in
    let fit = sizes_fit_found j _ _ _ stood.rule.client _ v stood.step n stood.read in
    with_there (known_word v) _ known.0 known.1 (subst (λ (w : ℕ). AreSizes c.of.result (sizes_of w) × SizesFit j (sizes_of w)) same (c.of.ensures, fit))

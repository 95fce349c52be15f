-- Where an emission stands once it has read the header.
use Rattle.std.proofs.Common.{◌≡◌, ℕ, ◌<◌, nat_lt, Bool, true, false, cond, None, Some, refl, arith}
use Rattle.std.proofs.lemmas.Bool.Decides.{nat_tests}
use Rattle.signal_core.specs.declared.view.Frame.TheVariants.{Posting}
use Rattle.signal_core.specs.Words.{worn}

pub begun_posting : (n k x : ℕ) → n < worn → cond (nat_lt n worn) (Some (Posting k x 0)) None ≡ Some (Posting k x 0)
begun_posting n k x less = by_case (nat_lt n worn) (grind (arith, nat_tests, less))
  where
    by_case : (b : Bool) → b ≡ true → cond b (Some (Posting k x 0)) None ≡ Some (Posting k x 0)
    by_case true e = refl
    by_case false e = absurd (cc)

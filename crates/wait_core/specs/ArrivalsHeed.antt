-- Who waits at a barrier heeds the signal that ends its sleep.
use Rattle.std.specs.Prelude.{◌≡◌, ℕ, Bool, true, false, cond, List, [], ◌∷◌}
use mathlib.Core.Option as maybe
use lib.ListN.{get_elem?}
use Rattle.wait_core.specs.declared.view.Frame.TheVariants.{Taking, Spinning, Holding, Dozing}
use Rattle.wait_core.specs.declared.view.Job.{Job}
use Rattle.wait_core.specs.declared.view.Job.TheVariants.{Notice}
use Rattle.wait_core.specs.declared.view.WaitView.{WaitView}
use Rattle.wait_core.specs.Machine.{Place}

abbrev pub is_notice : Job → Bool
is_notice (Notice b ph) = true
is_notice j = false

-- an arrival was listed on its barrier's condition, and hasn't noticed yet that its phase has passed
abbrev pub is_settled : Place → Bool
is_settled [] = false
is_settled (Dozing b ph ∷ p) = true
is_settled (Taking j ∷ p) = cond (is_notice j) true (is_settled p)
is_settled (Spinning j ∷ p) = cond (is_notice j) true (is_settled p)
is_settled (Holding j list found ∷ p) = cond (is_notice j) true (is_settled p)
is_settled (f ∷ p) = is_settled p

-- a seat in such an arrival didn't reset its latch by itself since it was listed
abbrev pub HeedsInArrival : {C : Type 0} → WaitView C → Type 0
HeedsInArrival v = is_settled v.place ≡ true → v.heeds ≡ true

abbrev pub ArrivalsHeed : {C : Type 0} → List (WaitView C) → Type 0
ArrivalsHeed {C} views = (id : ℕ) (v : WaitView C) → get_elem? views id ≡ maybe.some v → HeedsInArrival v

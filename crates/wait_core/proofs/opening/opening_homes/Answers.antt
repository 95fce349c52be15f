use Rattle.std.proofs.Common.{ℕ, List, [], ◌∷◌, ◌++◌, length, refl, ap, sym, subst, length-append, arith}
use Rattle.wait_core.specs.declared.view.Kept.{Kept}
use Rattle.wait_core.specs.Slots.{IsAsOpened, AllAsOpened}
use Rattle.wait_core.proofs.opening.opening_homes.Goals as goal

one_more : {phase : ℕ} (slots : List Kept) (new : Kept) → AllAsOpened phase slots → IsAsOpened phase new → AllAsOpened phase (slots ++ new ∷ [])
one_more [] new all is = (is, tt)
one_more (x ∷ slots) new all is = (all.0, one_more slots new all.1 is)

pub loop-preserved : goal.loop-preserved
loop-preserved c = let more = c.in_ok-push.ensures.items in (
  omega (arith, ap length more, length-append {A = Kept}),
  subst (AllAsOpened _) (sym more) (one_more c.loop.homes.items _ c.loop.invariant.1 record { nobody = c.new.ensures; opening = refl }),
)

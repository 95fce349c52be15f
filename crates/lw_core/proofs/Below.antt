-- Lists whose backends are all the table's.
use Rattle.std.proofs.Common.{ℕ, ◌<◌, Bool, true, false, cond, List, [], ◌∷◌, ◌++◌}
use Rattle.lw_core.specs.declared.view.Waiter.{Waiter}
use Rattle.lw_core.specs.declared.view.Want.TheVariants.{Shared, Exclusive, UntilFree}
use Rattle.lw_core.specs.WaitLists.{AllBelow, same_want, taken_after, until_free_from}

-- those whom a wake takes are on the list
below_head : (procs : ℕ) (some exclusive : Bool) (w : Waiter) (ws after others : List Waiter) → w.proc < procs → AllBelow procs after → AllBelow procs others → AllBelow procs (cond exclusive (cond some after (w ∷ [])) (w ∷ others))
below_head procs true true w ws after others here below more = below
below_head procs false true w ws after others here below more = (here, tt)
below_head procs some false w ws after others here below more = (here, more)

pub taken_below : (procs : ℕ) (some : Bool) (ws : List Waiter) → AllBelow procs ws → AllBelow procs (taken_after some ws)
taken_below procs some [] below = below
taken_below procs some (w ∷ ws) below = let next : Bool = cond (same_want w.want Shared) true some in
    below_head procs some (same_want w.want Exclusive) w ws (taken_after some ws) (taken_after next ws) below.0 (taken_below procs some ws below.1) (taken_below procs next ws below.1)

-- and those at its head who wait until the lock is free
pub until_free_below : (procs : ℕ) (ws : List Waiter) → AllBelow procs ws → AllBelow procs (until_free_from ws)
until_free_below procs [] below = below
until_free_below procs (w ∷ ws) below = on_head (same_want w.want UntilFree) (below.0, until_free_below procs ws below.1)
  where
    on_head : (b : Bool) → AllBelow procs (w ∷ until_free_from ws) → AllBelow procs (cond b (w ∷ until_free_from ws) [])
    on_head true all = all
    on_head false all = tt

-- and those behind some of them
pub behind_below : (procs : ℕ) (ws us : List Waiter) → AllBelow procs (ws ++ us) → AllBelow procs us
behind_below procs [] us below = below
behind_below procs (w ∷ ws) us below = behind_below procs ws us below.1

-- A phase that has passed is broadcast to whoever still sleeps through it.
use Rattle.std.specs.Prelude.{◌≡◌, ◌⊎◌, ℕ, ◌<◌, ◌≤◌, Bool, true, false, [], ◌∷◌, Option, None, Some}
use mathlib.Core.Option as maybe
use lib.ListN.{get_elem?}
use Rattle.wait_core.specs.declared.view.Frame.TheVariants.{Setting, Telling, Waking, Taking, Spinning, Holding, Rousing, Dozing, Passing}
use Rattle.wait_core.specs.declared.view.Job.{Job}
use Rattle.wait_core.specs.declared.view.Job.TheVariants.{Rebroadcast}
use Rattle.wait_core.specs.declared.view.Size.{Size}
use Rattle.wait_core.specs.declared.view.WaitView.{WaitView}
use Rattle.wait_core.specs.Machine.{WaitState, Place}
use Rattle.wait_core.specs.Parties.{now}
use Rattle.wait_core.specs.Barriers.{waits_at, phases_in}
use Rattle.wait_core.specs.Broadcasts.{listed_on, StandsBehind}

-- an arrival is in its sleep
abbrev pub dozes : Place → Bool
dozes [] = false
dozes (Dozing b ph ∷ p) = true
dozes (f ∷ p) = dozes p

-- where a call passed a phase, and hasn't ended its broadcast: the barrier, and the phase
abbrev pub passed_at : Place → Option (ℕ × ℕ)
passed_at [] = None
passed_at (Passing b ph ∷ p) = Some (b, ph)
passed_at (f ∷ p) = passed_at p

-- a broadcast has freed the list: it wakes whom it popped, or goes on
abbrev pub goes_further : Job → Bool
goes_further (Rebroadcast c) = true
goes_further j = false

abbrev pub has_freed : Place → Bool
has_freed (Setting q ∷ p) = has_freed p
has_freed (Telling q ∷ p) = has_freed p
has_freed (Waking q ∷ p) = has_freed p
has_freed (Rousing c q more ∷ p) = true
has_freed (Taking j ∷ p) = goes_further j
has_freed (Spinning j ∷ p) = goes_further j
has_freed (Holding j list found ∷ p) = goes_further j
has_freed p = false

module _ {C : Type 0} where
  -- another than p passed this phase of the barrier and is broadcasting, and hasn't freed the list yet, or its sentinel stands behind p
  pub record IsBroadcastTo (p b ph : ℕ) (s : WaitState C) : Type 0 where
    pub id : ℕ
    pub number : ℕ
    pub view : WaitView C
    pub at : get_elem? s.views id ≡ maybe.some view
    pub own : view.own ≡ Some number
    pub apart : number ≡ p → ⊥
    pub passed : passed_at view.place ≡ Some (b, ph)
    pub reaches : (has_freed view.place ≡ false) ⊎ StandsBehind number p b s

  -- that is so of whoever is listed in the sleep of its arrival, where the phase that it waits from has passed
  abbrev pub PassedPhaseIsBroadcast : Size → WaitState C → Type 0
  PassedPhaseIsBroadcast z s = (id p b ph : ℕ) (v : WaitView C) → get_elem? s.views id ≡ maybe.some v → v.own ≡ Some p → waits_at v.place ≡ Some (b, ph) → dozes v.place ≡ true → ph < now (phases_in z s) b → 1 ≤ listed_on p b s → IsBroadcastTo p b ph s

-- What a worker does at the table of signals while it probes.
use Rattle.std.specs.Prelude.{◌≡◌, ◌⊎◌, ℕ, ◌+◌, ◌==◌, ◌||◌, Bool, true, false, List, [], ◌∷◌, ◌++◌}
use Rattle.signal_core.specs.declared.step.SigStep.{SigStep}
use Rattle.signal_core.specs.declared.step.SigStep.TheVariants.{Pswap}
use Rattle.signal_core.specs.declared.view.Emission.{Emission}
use Rattle.signal_core.specs.declared.view.Made.{Made}
use Rattle.signal_core.specs.declared.view.SigView.{SigView}
use Rattle.proc_signal.specs.Signals.{IsEmitted, IsWorn}
use Rattle.generation_barrier.specs.Absorbing.{IsPublishedNow}
use Rattle.join_party.specs.Guards.{stop_shows}
use Rattle.hash_probe.specs.declared.marks.StopOrder.{StopOrder}

-- the kind that tells all workers to stop
abbrev pub STOP : ℕ
STOP = 0

-- each kind is taken, and of STOP is known that it was
abbrev pub takes_order : StopOrder → ℕ → Bool → StopOrder → Type 0
takes_order a kind answer b = (answer ≡ true) × (b.stop ≡ (a.stop || (kind == STOP)))

abbrev pub order : Bool → StopOrder
order stop = record { stop = stop }

-- how often these steps look for signals
abbrev pub swap_of : SigStep → ℕ
swap_of (Pswap begins) = 1
swap_of step = 0

abbrev pub swaps : List Made → ℕ
swaps [] = 0
swaps (m ∷ more) = swap_of m.step + swaps more

-- the seat made more steps, emissions and absorptions; its numbers are the same
pub record GoesOn (v w : SigView) : Type 0 where
  pub steps : List Made
  pub kinds : List ℕ
  pub emitted : List Emission
  pub made : w.steps ≡ v.steps ++ steps
  pub absorbed : w.absorbed ≡ v.absorbed ++ kinds
  pub emissions : w.emissions ≡ v.emissions ++ emitted
  pub own : w.own ≡ v.own
  pub pending : w.pending ≡ v.pending
  pub taken : w.taken ≡ v.taken
  pub drawn : w.drawn ≡ v.drawn

-- STOP was absorbed, and this generation was published then
pub record StopsAt (generation : ℕ) (v w : SigView) : Type 0 where
  pub from : SigView
  pub to : SigView
  pub before : GoesOn v from
  pub absorbs : IsPublishedNow takes_order stop_shows generation from (order false) to (order true)
  pub after : GoesOn to w

-- STOP was emitted with this count of pairs, or not, since the header was read at 2^62 or more. It is all that was emitted
pub record TellsOver (procs count : ℕ) (v w : SigView) : Type 0 where
  pub from : SigView
  pub to : SigView
  pub before : GoesOn v from
  pub none_before : from.emissions ≡ v.emissions
  pub emits : ((g : ℕ) × IsEmitted procs STOP count from g to) ⊎ ((at : ℕ) × IsWorn STOP count from at to)
  pub after : GoesOn to w
  pub none_after : w.emissions ≡ to.emissions

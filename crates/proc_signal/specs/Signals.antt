-- What the calls leave of a seat's view.
use Rattle.std.specs.Prelude.{◌≡◌, ◌≢◌, ◌⊎◌, ℕ, zero, suc, ◌+◌, ◌==◌, ◌<◌, ◌≤◌, cond, List, [], ◌∷◌, ◌++◌, Option, None, Some}
use Rattle.signal_core.specs.declared.step.Call.TheVariants as call
use Rattle.signal_core.specs.declared.step.SigStep.TheVariants.{Hload, Hadd, Mor, Mswap, Gstore, Pstore, Pload, Pend}
use Rattle.signal_core.specs.declared.view.About.{About}
use Rattle.signal_core.specs.declared.view.Emission.{Emission}
use Rattle.signal_core.specs.declared.view.Frame.TheVariants.{Posting, Numbering, Telling}
use Rattle.signal_core.specs.declared.view.Made.{Made}
use Rattle.signal_core.specs.declared.view.SigView.{SigView}
use Rattle.signal_core.specs.declared.view.Slot.{Slot}
use Rattle.signal_core.specs.Words.{worn}
use Rattle.signal_core.specs.Machine.{Place, made, emission}

-- the view in no call, after more steps, with this slot and these emissions: nothing else changed
abbrev pub went : SigView → List Made → Option Slot → List Emission → SigView
went v more t es = record v { place = None; steps = v.steps ++ more; slot = t; emissions = es }

-- joined with this generation, which it has published
abbrev pub joined_at : ℕ → Option Slot
joined_at g = Some record { joined = g; published = g }

-- the backend p joined its slot with the generation g: the mask was swapped out, the header read as g, and it was stored before the number was
pub record IsJoinedSlot (p g : ℕ) (v w : SigView) : Type 0 where
  pub mask : ℕ
  pub generation : ℕ
  pub pid : ℕ
  pub view : w ≡ went v (made (Mswap (Some call.Join)) mask ∷ made (Hload None) g ∷ made (Gstore g None) generation ∷ made (Pstore (p + 1)) pid ∷ []) (joined_at g) v.emissions

-- the kind k was posted at each slot below n, from the first
abbrev pub Posted : ℕ → ℕ → List Made → Type 0
Posted k zero more = more ≡ []
Posted k (suc n) more = (before : List Made) × (mask : ℕ) × Posted k n before × (more ≡ before ++ made (Mor n k None) mask ∷ [])

-- where the process word of the slot q was found to be 0, nothing was done; else its pending word was stored
abbrev pub Prodded : ℕ → ℕ → List Made → Type 0
Prodded q pid more = ((pid ≡ 0) × (more ≡ [])) ⊎ ((pid ≢ 0) × (pending : ℕ) × (more ≡ made (Pend q) pending ∷ []))

-- each backend below n that is in its slot was told, from the first
abbrev pub Told : ℕ → List Made → Type 0
Told zero more = more ≡ []
Told (suc n) more = (before : List Made) × (pid : ℕ) × (prod : List Made) × Told n before × Prodded n pid prod × (more ≡ before ++ (made (Pload n) pid ∷ prod))

-- the header was read below 2^62; the kind k was posted at every slot, and only then the emission took its generation g of the header; then everybody was told. The list of emissions has it, and nothing else changed
pub record IsEmitted (procs k x : ℕ) (v : SigView) (g : ℕ) (w : SigView) : Type 0 where
  pub header : ℕ
  pub usable : header < worn
  pub posts : List Made
  pub posted : Posted k procs posts
  pub before : ℕ
  pub generation : g ≡ before + 1
  pub tells : List Made
  pub told : Told procs tells
  pub view : w ≡ went v (made (Hload (Some (call.Emit k x))) header ∷ (posts ++ (made Hadd before ∷ tells))) v.slot (v.emissions ++ emission k x g ∷ [])

-- the header was read at 2^62 or more, and nothing else was done
pub record IsWorn (k x : ℕ) (v : SigView) (at : ℕ) (w : SigView) : Type 0 where
  pub worn_at : worn ≤ at
  pub view : w ≡ went v (made (Hload (Some (call.Emit k x))) at ∷ []) v.slot v.emissions

-- an emission that is posted at the slots below q
abbrev pub posting : About → ℕ → ℕ → ℕ → Place
posting z k x q = cond (q == z.procs) (Some (Numbering k x)) (Some (Posting k x q))

-- an emission that has told the backends below q
abbrev pub telling : About → ℕ → Place
telling z q = cond (q == z.procs) None (Some (Telling q))

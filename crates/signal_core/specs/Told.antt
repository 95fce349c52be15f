-- What each step tells its seat.
use Rattle.std.specs.Prelude.{◌≡◌, ℕ, ◌+◌, ◌<◌, ◌≤◌, None, Some, ⊤}
use Rattle.std.specs.Int.{bit_at}
use Rattle.atomic_table.specs.Table.{Me, Step, Allows, Splits, Joins}
use Rattle.signal_core.specs.declared.step.SigStep.{SigStep}
use Rattle.signal_core.specs.declared.step.SigStep.TheVariants.{Hload, Hadd, Mor, Mswap, Gstore, Gload, Pstore, Pload, Pend, Pswap}
use Rattle.signal_core.specs.declared.view.Nothing.{Nothing}
use Rattle.signal_core.specs.declared.view.About.{About}
use Rattle.signal_core.specs.declared.view.SigView.{SigView}
use Rattle.signal_core.specs.Words.{worn}
use Rattle.signal_core.specs.Machine.{next}
use Rattle.signal_core.specs.GenerationsStand.{SlotStands, IsPublished}
use Rattle.signal_core.specs.Places.{gen_of}
use Rattle.signal_core.specs.Seating.{with_drawn}
use Rattle.signal_core.specs.Rule.{Rule}

-- each kind in the mask is below 32, and some number shows what it stands for
abbrev pub BitsShow : (ℕ → ℕ → Type 0) → ℕ → Type 0
BitsShow shows mask = (k : ℕ) → 1 ≤ bit_at mask k → (k < 32) × ((x : ℕ) × shows k x)

-- what the word n that was found tells the seat, by its view before
abbrev pub Tells : (ℕ → ℕ → Type 0) → SigStep → SigView → ℕ → Type 0
Tells shows (Hload begins) v n = (n ≤ worn + 64) × SlotStands n v.slot
Tells shows Hadd v n = (n ≤ worn + 63) × SlotStands n v.slot
Tells shows (Mor q k failed) v n = ⊤
Tells shows (Mswap begins) v n = BitsShow shows n
Tells shows (Gstore g begins) v n = ⊤
Tells shows (Gload q (Some c)) v n = ⊤
Tells shows (Gload q None) v n = IsPublished n v.slot
Tells shows (Pstore x) v n = ⊤
Tells shows (Pload q) v n = ⊤
Tells shows (Pend q) v n = ⊤
Tells shows (Pswap begins) v n = ⊤

-- the generation of the seat after the step
abbrev pub gen_then : SigStep → ℕ → ℕ
gen_then (Gstore g begins) n = g
gen_then x n = n

abbrev pub Follows : About → SigStep → SigView → ℕ → Type 0
Follows z x v n = gen_of (next z x v n).slot (next z x v n).place ≡ gen_then x (gen_of v.slot v.place)

abbrev pub Sat : Type 0
Sat = Me Nothing SigView

-- a step of the machine that found n: the view goes on as the machine says
abbrev pub does : (ℕ → ℕ → Type 0) → About → SigStep → Sat → ℕ → Sat → Type 0
does shows z k m n m' = (m'.0 ≡ next z k m.0 n) × (m'.1 ≡ m.1) × Tells shows k m.0 n × Follows z k m.0 n

-- the number that is drawn next is one more than those drawn, and at most the number of backends
abbrev pub looks : About → Sat → ℕ → Sat → Type 0
looks z m n m' = (m'.0 ≡ m.0) × (m'.1 ≡ m.1) × (m.0.own ≡ Some 0 → n ≡ m.0.drawn + 1) × (n ≤ z.procs)

-- a look that told something of the table, and changed nothing
abbrev pub settles : Type 0 → Sat → ℕ → Sat → Type 0
settles Fact m n m' = (m'.0 ≡ m.0) × (m'.1 ≡ m.1) × Fact

abbrev pub draws : Step Nothing → Sat → ℕ → Sat → Type 0
draws st m n m' = (m'.0 ≡ with_drawn m.0) × (m'.1 ≡ m.1)

module _ (shows : ℕ → ℕ → Type 0) (z : About) where
  -- whatever the table is when the word becomes f of what it was, the seat goes on as `gives` says
  abbrev pub Turns : ℕ → ℕ → Sat → ℕ → (ℕ → ℕ) → (ℕ → Sat → Type 0) → Type 0
  Turns slots id me word f gives = Allows (Rule shows z) slots id me word f gives

  abbrev pub Cuts : ℕ → SigView → SigView → SigView → Type 0
  Cuts id v left right = Splits {S = Nothing} (Rule shows z) id v left right

  abbrev pub Glues : ℕ → SigView → ℕ → SigView → SigView → SigView → Type 0
  Glues id v other w both spent = Joins {S = Nothing} (Rule shows z) id v other w both spent

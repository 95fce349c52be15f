-- What the slots keep: conditions' lists, and then barriers' records.
use Rattle.std.specs.Prelude.{◌≡◌, ℕ, List, [], ◌∷◌, length, ⊤}
use Rattle.wait_core.specs.Words.{slots_in}
use Rattle.wait_core.specs.declared.view.Kept.{Kept}
use Rattle.wait_core.specs.declared.view.Record.{Record}
use Rattle.wait_core.specs.declared.view.Size.{Size}

-- a barrier at the opening phase, with no participant, and nobody elected since
abbrev pub opening_record : ℕ → Record
opening_record phase = record { phase = phase; participants = 0; arrived = 0; elected = phase }

-- nobody is on the list, and the record is that of the opening
pub record IsAsOpened (phase : ℕ) (k : Kept) : Type 0 where
  pub nobody : k.list.items ≡ []
  pub opening : k.record ≡ opening_record phase

abbrev pub AllAsOpened : ℕ → List Kept → Type 0
AllAsOpened phase [] = ⊤
AllAsOpened phase (k ∷ slots) = IsAsOpened phase k × AllAsOpened phase slots

-- the slots of a new table: one for each condition that there may be, and for each barrier
pub record OpeningSlots (z : Size) (phase : ℕ) (slots : List Kept) : Type 0 where
  pub count : length slots ≡ slots_in z
  pub each : AllAsOpened phase slots

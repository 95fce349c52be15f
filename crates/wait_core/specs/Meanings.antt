-- What a client means.
use Rattle.std.specs.Prelude.{ℕ, List}
use Rattle.wait_core.specs.declared.view.PartyView.{PartyView}

pub record Meanings (C : Type 0) : Type 1 where
  -- its law, of its words, the views of the seats, and each barrier's phase
  pub holds : List ℕ → List (PartyView C) → List ℕ → Type 0
  -- the view has nothing left to do at the barrier in the phase
  pub quiet : PartyView C → ℕ → ℕ → Type 0
  -- the barrier's phase may ever be passed
  pub passes : ℕ → ℕ → Type 0
  -- the view may attach to the barrier
  pub enters : PartyView C → ℕ → Type 0
  -- in the barrier's phase a seat may leave only while another is attached
  pub stays : ℕ → ℕ → Type 0

-- What a step needs of what is in hand, and what becomes of it.
use Rattle.std.specs.Prelude.{◌≡◌, ◌≢◌, ℕ, List, [], ⊤}
use Rattle.wait_core.specs.declared.step.WaitStep.{WaitStep}
use Rattle.wait_core.specs.declared.step.WaitStep.TheVariants.{Take, Free}
use Rattle.wait_core.specs.declared.view.Kept.{Kept}
use Rattle.wait_core.specs.declared.view.WaitView.{WaitView}
use Rattle.wait_core.specs.Machine.{number_of, as_kept, left_at, carried}
use Rattle.wait_core.specs.Stances.{hand_at}
use Rattle.wait_core.specs.Seats.{SeatView, Carries}

module _ {C : Type 0} where
  -- what goes home is what the program leaves
  abbrev pub SendsHome : WaitStep → SeatView C → Type 0
  SendsHome (Free x target) s = as_kept s.list s.record ≡ left_at (number_of s.view.own) s.view.place
  SendsHome k s = ⊤

  -- A step that found n leaves the list in hand as it was, unless it took or sent it: then there is the one found, or none
  abbrev pub ListAfter : WaitStep → ℕ → SeatView C → SeatView C → Type 0
  ListAfter (Take x begins) n old new = n ≢ 0 → new.list ≡ old.list
  ListAfter (Free x target) n old new = new.list ≡ []
  ListAfter k n old new = new.list ≡ old.list

  -- the slot that is out with the seat: where it goes home it has already what is left
  abbrev pub HasSlot : WaitStep → WaitView C → List (ℕ × Kept) → Type 0
  HasSlot (Free x target) v c = c ≡ carried (Free x target) (number_of v.own) v.place
  HasSlot k v c = Carries (hand_at v.place) c

-- a step that may take a spin word in hand, one that frees one, and one that does neither
abbrev pub IsTaking : WaitStep → Type 0
IsTaking (Take x begins) = ⊤
IsTaking k = ⊥

abbrev pub IsFreeing : WaitStep → Type 0
IsFreeing (Free x target) = ⊤
IsFreeing k = ⊥

abbrev pub IsApart : WaitStep → Type 0
IsApart (Take x begins) = ⊥
IsApart (Free x target) = ⊥
IsApart k = ⊤

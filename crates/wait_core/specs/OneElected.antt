-- Of those who waited out a phase of a barrier one is elected for the next.
use Rattle.std.specs.Prelude.{◌≡◌, ℕ, suc, ◌+◌, ◌-◌, ◌<◌, ◌≤◌, ◌==◌, cond, List, [], ◌∷◌, Option, Some}
use mathlib.Core.Option as maybe
use lib.ListN.{get_elem?}
use Rattle.wait_core.specs.declared.view.WaitView.{WaitView}
use Rattle.seat_roster.specs.Totals.{total}
use Rattle.wait_core.specs.Parties.{Elected}
use Rattle.wait_core.specs.Stances.{Homes}
use Rattle.wait_core.specs.Barriers.{Attendance, waits_at, field_of}

-- what came of a seat's arrivals: where it waits, and each barrier and phase that it waited out, and for which it was elected
pub record Outcome : Type 0 where
  pub waits : Option (ℕ × ℕ)
  pub passed : List (ℕ × ℕ)
  pub elections : List (ℕ × ℕ)

abbrev pub outcome_of : {C : Type 0} → WaitView C → Outcome
outcome_of v = record { waits = waits_at v.place; passed = v.passed; elections = v.elections }

-- how often the phase of the barrier is on the list
abbrev pub times_of : ℕ → ℕ → List (ℕ × ℕ) → ℕ
times_of b ph [] = 0
times_of b ph (x ∷ xs) = cond (x.0 == b) (cond (x.1 == ph) 1 0) 0 + times_of b ph xs

-- it stands among the phases that were waited out
abbrev pub WaitedOut : List (ℕ × ℕ) → ℕ → ℕ → Type 0
WaitedOut passed b ph = 1 ≤ times_of b ph passed

-- how often a seat was elected for it; exactly one was, once
abbrev pub elected_for : ℕ → ℕ → Outcome → ℕ
elected_for b ph v = times_of b ph v.elections

abbrev pub OneHas : List Outcome → ℕ → ℕ → Type 0
OneHas seats b ph = total (elected_for b ph) seats ≡ 1

-- the last phase for which the barrier's record says that somebody was elected
abbrev pub elected_in : {C : Type 0} → ℕ → Homes → List (Attendance C) → ℕ
elected_in b homes seats = field_of (λ r. r.elected) b homes seats

-- of so many barriers, which open at the phase `opening`, and whose records say for which phases somebody was elected last
pub record OneElected (bars opening : ℕ) (elected : ℕ → ℕ) (seats : List Outcome) : Type 0 where
  -- no seat waits from a phase below that of the opening
  pub waits : (id : ℕ) (v : Outcome) → get_elem? seats id ≡ maybe.some v → (b ph : ℕ) → v.waits ≡ Some (b, ph) → opening ≤ ph
  -- whoever was elected for a phase waited out the one below; nobody was for that of the opening
  pub waited : (id : ℕ) (v : Outcome) → get_elem? seats id ≡ maybe.some v → (b ph : ℕ) → Elected v.elections b ph → (opening < ph) × WaitedOut v.passed b (ph - 1)
  -- where a seat waited out a phase, one was elected for the next
  pub one : (id : ℕ) (v : Outcome) → get_elem? seats id ≡ maybe.some v → (b ph : ℕ) → WaitedOut v.passed b ph → OneHas seats b (suc ph)
  -- so it was where a record says that somebody was elected since the opening
  pub last : (b : ℕ) → b < bars → opening < elected b → OneHas seats b (elected b)

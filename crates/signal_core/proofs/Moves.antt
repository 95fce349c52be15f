-- A step of one seat, and what it leaves of the emissions.
use Rattle.std.proofs.Common.{◌≡◌, ◌≢◌, ◌⊎◌, ℕ, ◌+◌, ◌<◌, ◌≤◌, nat_lt, Bool, true, false, cond, List, length, get_or, set, Option, None, Some, refl, sym, ap, ◌∙◌, subst, arith}
use mathlib.Core.Option as maybe
use lib.ListN.{get_elem?}
use Rattle.seat_roster.proofs.Totals.{total_set, total_at, total_le, set_there}
use Rattle.signal_core.specs.declared.step.SigStep.{SigStep}
use Rattle.signal_core.specs.declared.step.SigStep.TheVariants.{Hadd}
use Rattle.signal_core.specs.declared.view.Emission.{Emission}
use Rattle.signal_core.specs.declared.view.Slot.{Slot}
use Rattle.signal_core.specs.declared.view.About.{About}
use Rattle.signal_core.specs.Words.{header_at, mask_at}
use Rattle.signal_core.specs.Machine.{word_of, place_after, Permits}
use Rattle.signal_core.specs.Seating.{Stance}
use Rattle.signal_core.specs.Places.{under_way, counts, emits, emitted, any, above, unabsorbed}
use Rattle.signal_core.specs.PlacesFit.{PlaceFits}
use Rattle.signal_core.proofs.Effects.{turned, emissions_grow}

-- the seat id, whose number is o and whose stance is v, makes the step x, which finds n
pub record Move (shows : ℕ → ℕ → Type 0) (z : About) (words : List ℕ) (seats : List Stance) (x : SigStep) (o id n : ℕ) (v : Stance) : Type 0 where
  pub at : get_elem? seats id ≡ maybe.some v
  pub own : v.own ≡ Some o
  pub below : o < z.procs
  pub wide : (q : ℕ) → q < z.procs → mask_at q < length words
  pub is : n ≡ get_or words (word_of o x) 0
  pub ok : Permits shows z x (Some o) v.slot v.place
  pub fits : PlaceFits z v.slot v.place
  -- nobody else has the number
  pub alone : (j : ℕ) (u : Stance) → get_elem? seats j ≡ maybe.some u → u.own ≡ Some o → j ≡ id

-- f holds of each generation above the header
abbrev pub IsOpen : List ℕ → (ℕ → Bool) → Type 0
IsOpen words f = (g : ℕ) → get_or words header_at 0 < g → f g ≡ true

pub any_open : (words : List ℕ) → IsOpen words any
any_open words g h = refl

pub above_open : (words : List ℕ) (h : ℕ) → h ≤ get_or words header_at 0 → IsOpen words (above h)
above_open words h le g more = Rattle.signal_core.proofs.Bits.lt_true h g (omega arith)

pub unabsorbed_open : (words : List ℕ) (t : Slot) → t.published ≤ get_or words header_at 0 → IsOpen words (unabsorbed t)
unabsorbed_open words t le g more = by_case (nat_lt t.published g) (Rattle.signal_core.proofs.Bits.lt_true t.published g (omega arith))
  where
    by_case : (b : Bool) → b ≡ true → cond b true (nat_lt g (t.joined + 1)) ≡ true
    by_case true e = refl
    by_case false e = absurd (cc)

counts_le : (k : ℕ) (f h : ℕ → Bool) → ((g : ℕ) → f g ≡ true → h g ≡ true) → (e : Emission) → counts k f e ≤ counts k h e
counts_le k f h le e = by_case (Rattle.std.proofs.Common.eqb e.kind k) (f e.generation) (h e.generation) (le e.generation)
  where
    by_case : (a b c : Bool) → (b ≡ true → c ≡ true) → cond a (cond b 1 0) 0 ≤ cond a (cond c 1 0) 0
    by_case false b c le = omega arith
    by_case true false c le = omega arith
    by_case true true true le = omega arith
    by_case true true false le = absurd (let e : false ≡ true = le refl in cc)

-- more generations, more emissions
pub emitted_le : (s k : ℕ) (f h : ℕ → Bool) (seats : List Stance) → ((g : ℕ) → f g ≡ true → h g ≡ true) → emitted s k f seats ≤ emitted s k h seats
emitted_le s k f h seats le = total_le (emits s k f) (emits s k h) seats (λ i v e. let a = total_le (counts k f) (counts k h) v.emissions (λ j c d. counts_le k f h le c) in omega arith)

module _ (shows : ℕ → ℕ → Type 0) (z : About) (words : List ℕ) (seats : List Stance) (x : SigStep) (o id n : ℕ) (v : Stance) (m : Move shows z words seats x o id n v) where
  -- no emission is lost
  pub grow : (s k : ℕ) (f : ℕ → Bool) → IsOpen words f → emitted s k f seats ≤ emitted s k f (set seats id (turned z x n v))
  grow s k f free = let a = total_set (emits s k f) seats id v (turned z x n v) m.at in let b = emissions_grow shows z x n (Some o) v m.ok s k f (λ (e : x ≡ Hadd). free (n + 1) (let c = m.is in let d : word_of o x ≡ header_at = ap (word_of o) e in
      let c' : get_or words (word_of o x) 0 ≡ get_or words header_at 0 = ap (λ i. get_or words i 0) d in omega arith)) in omega arith

  -- an emission under way counts
  pub there : (s k : ℕ) (f : ℕ → Bool) → 1 ≤ under_way s k (place_after z x n v.place) → 1 ≤ emitted s k f (set seats id (turned z x n v))
  there s k f some = let a = total_at (emits s k f) (set seats id (turned z x n v)) id (turned z x n v) (set_there seats id v (turned z x n v) m.at) in omega arith

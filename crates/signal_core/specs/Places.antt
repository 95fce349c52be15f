-- What a place and a view say of masks and emissions.
use Rattle.std.specs.Prelude.{ℕ, ◌+◌, ◌==◌, nat_lt, Bool, true, cond, List, Option, None, Some}
use Rattle.std.specs.Int.{bit_at}
use Rattle.signal_core.specs.declared.view.Frame.TheVariants.{Entering, Posting, Numbering, Taking, Keeping, Reminding}
use Rattle.signal_core.specs.declared.view.Emission.{Emission}
use Rattle.signal_core.specs.declared.view.Slot.{Slot}
use Rattle.signal_core.specs.Machine.{Place}
use Rattle.signal_core.specs.Words.{gone}
use Rattle.signal_core.specs.Seating.{Stance}
use Rattle.seat_roster.specs.Totals.{total}

-- THE HAND: 1 where the kind was swapped out and is neither put back nor, in the order of kinds, done with
abbrev pub in_hand : ℕ → Place → ℕ
in_hand k (Some (Taking h found)) = bit_at found k
in_hand k (Some (Keeping h found failed done)) = cond (nat_lt k done) 0 (bit_at found k)
in_hand k (Some (Reminding h found failed j)) = cond (nat_lt k (j + 1)) 0 (bit_at found k)
in_hand k p = 0

-- 1 where it was put back in this call
abbrev pub put_back : ℕ → Place → ℕ
put_back k (Some (Keeping h found failed done)) = cond (nat_lt k done) (bit_at failed k) 0
put_back k (Some (Reminding h found failed j)) = cond (nat_lt k (j + 1)) (bit_at failed k) 0
put_back k p = 0

-- the header that it read before it swapped its mask, and it is past that
abbrev pub swapped_at : Place → Option ℕ
swapped_at (Some (Taking h found)) = Some h
swapped_at (Some (Keeping h found failed done)) = Some h
swapped_at (Some (Reminding h found failed j)) = Some h
swapped_at p = None

-- THE EMISSION under way, which has no generation yet: 1 where it is of this kind and posted at the slot s
abbrev pub under_way : ℕ → ℕ → Place → ℕ
under_way s k (Some (Posting j x q)) = cond (j == k) (cond (nat_lt s q) 1 0) 0
under_way s k (Some (Numbering j x)) = cond (j == k) 1 0
under_way s k p = 0

-- 1 where it is of this kind, with such a generation. It was posted at every slot
abbrev pub counts : ℕ → (ℕ → Bool) → Emission → ℕ
counts k f e = cond (e.kind == k) (cond (f e.generation) 1 0) 0

-- how many emissions of the seat are of this kind, were posted at the slot s, and have no generation yet or such a one
abbrev pub emits : ℕ → ℕ → (ℕ → Bool) → Stance → ℕ
emits s k f v = under_way s k v.place + total (counts k f) v.emissions

-- and of all seats
abbrev pub emitted : ℕ → ℕ → (ℕ → Bool) → List Stance → ℕ
emitted s k f seats = total (emits s k f) seats

-- any generation; one above h; one above the published generation, or at most that with which the slot was joined
abbrev pub any : ℕ → Bool
any g = true

abbrev pub above : ℕ → ℕ → Bool
above h g = nat_lt h g

abbrev pub unabsorbed : Slot → ℕ → Bool
unabsorbed t g = cond (nat_lt t.published g) true (nat_lt g (t.joined + 1))

-- THE GENERATION in its slot's word
abbrev pub gen_of : Option Slot → Place → ℕ
gen_of (Some t) p = t.published
gen_of None (Some (Entering h)) = h
gen_of None p = gone

-- What a seat gets where it claims rows of a side.
use Rattle.std.specs.Prelude.{◌≡◌, ◌⊎◌, ℕ, ◌+◌, ◌-◌, ◌<◌, ◌≤◌, Bool, true, false}
use Rattle.row_model.specs.declared.Side.{Side}
use Rattle.row_model.specs.declared.Side.TheVariants.{Inner, Outer}
use Rattle.seat_roster.specs.Roster.{times}
use Rattle.wait_core.specs.declared.view.WaitView.{WaitView}
use Rattle.wait_core.specs.Seating.{client_moved}
use Rattle.join_law.specs.declared.view.HashView.{HashView}
use Rattle.join_law.specs.Layout.{Join}
use Rattle.join_law.specs.Machine.{claimed_rows}

-- where a side's rows begin in the numbering of both sides, and how many there are
abbrev pub first_of : Join → Side → ℕ
first_of j Inner = 0
first_of j Outer = j.inner

abbrev pub count_of : Join → Side → ℕ
count_of j Inner = j.inner
count_of j Outer = j.outer

-- whether a seat saw the side's end, and how often it may still find it by an add
abbrev pub has_ended : HashView → Side → Bool
has_ended v Inner = v.inner_ended
has_ended v Outer = v.outer_ended

abbrev pub claims_left : HashView → Side → ℕ
claims_left v Inner = v.inner_claims
claims_left v Outer = v.outer_claims

-- a seat that didn't see the side's end may still find it by an add
abbrev pub MayStillEnd : HashView → Side → Type 0
MayStillEnd v side = has_ended v side ≡ false → 1 ≤ claims_left v side

-- what it knows once it read the cursor at the end, and once it found it there by an add
abbrev pub saw_end : HashView → Side → HashView
saw_end v Inner = record v { inner_ended = true }
saw_end v Outer = record v { outer_ended = true }

abbrev pub drew_end : HashView → Side → HashView
drew_end v Inner = record v { inner_ended = true; inner_claims = v.inner_claims - 1 }
drew_end v Outer = record v { outer_ended = true; outer_claims = v.outer_claims - 1 }

abbrev pub FoundEnd : Side → WaitView HashView → WaitView HashView → Type 0
FoundEnd side v w = (w ≡ client_moved v (saw_end v.client side)) ⊎ (w ≡ client_moved v (drew_end v.client side))

-- only chunks of inner rows are counted
abbrev pub chunk_of : Side → ℕ
chunk_of Inner = 1
chunk_of Outer = 0

-- 1 to 64 rows of the side came to hand, in which each is once
pub record Claimed (j : Join) (side : Side) (v w : WaitView HashView) (first count : ℕ) : Type 0 where
  pub some : 1 ≤ count
  pub few : count ≤ 64
  pub begins : first_of j side ≤ first
  pub ends : first + count ≤ first_of j side + count_of j side
  pub view : w ≡ client_moved v (claimed_rows v.client first count (chunk_of side))
  pub once : (r : ℕ) → first ≤ r → r < first + count → times r w.client.hand ≡ 1

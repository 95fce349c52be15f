-- What a step does to spin words, latches and lists, and to what its seat's place and target say of them.
use Rattle.std.proofs.Common.{◌≡◌, ◌⊎◌, ℕ, ◌<◌, ◌≤◌, Bool, cond, List, [], ◌∷◌, ◌++◌, get_or, set, Option, None, Some}
use mathlib.Core.Option as maybe
use lib.ListN.{get_elem?}
use Rattle.wait_core.specs.declared.view.Kept.{Kept}
use Rattle.wait_core.specs.declared.view.Size.{Size}
use Rattle.seat_roster.specs.Roster.{times}
use Rattle.wait_core.specs.Words.{set_at, may_at, byte_at, shut_at, spin_at, client_base, slots_in}
use Rattle.wait_core.specs.Lists.{without}
use Rattle.wait_core.specs.Stances.{Hand, Stance, Homes}

abbrev pub in_hand : ℕ → List ℕ → Option Hand
in_hand c list = Some record { slot = c; list = list }

-- the word i becomes x, which changes no spin word and clears no latch
pub data IsStill (z : Size) (words : List ℕ) (i x : ℕ) : Type 0 where
  reads : x ≡ get_or words i 0 → IsStill z words i x
  first : i ≡ 0 → IsStill z words i x
  latches : (q : ℕ) → q < z.procs → i ≡ set_at q → x ≡ 1 → IsStill z words i x
  marks : (q : ℕ) → q < z.procs → i ≡ may_at q → IsStill z words i x
  wakes : (q : ℕ) → q < z.procs → i ≡ byte_at q → IsStill z words i x
  shuts : i ≡ shut_at z → IsStill z words i x
  client : client_base z ≤ i → IsStill z words i x

-- where a seat frees a list, what it belongs to is the same, or nothing where its sentinel isn't on the list
abbrev pub StillBelongs : ℕ → ℕ → List ℕ → Option ℕ → Option ℕ → Type 0
StillBelongs p c left was is = (is ≡ was) ⊎ ((is ≡ None) × (was ≡ Some c) × (times p left ≡ 0))

-- The list of the condition c, found as this, goes home as `left` by the backend p, whose stance v becomes w
pub data Sends (p c : ℕ) (found left : List ℕ) (v w : Stance) : Type 0 where
  -- as it was
  returns : (belongs : Option ℕ) → left ≡ found → StillBelongs p c left v.belongs belongs → w ≡ record v { hand = None; belongs = belongs } → Sends p c found left v w
  -- as it was, with the seat on it
  stays_listed : (heeds : Bool) → left ≡ found → 1 ≤ times p found → w ≡ record v { hand = None; heeds = cond heeds (Some c) None } → Sends p c found left v w
  -- with the seat at its end, which wasn't on it
  joins : left ≡ found ++ p ∷ [] → (v.belongs ≡ None) ⊎ ((v.belongs ≡ Some c) × (times p found ≡ 0)) → w ≡ record v { hand = None; belongs = Some c; heeds = Some c } → Sends p c found left v w
  -- without the seat
  leaves : left ≡ without p found → v.belongs ≡ Some c → w ≡ record v { hand = None; belongs = None; heeds = None } → Sends p c found left v w
  -- without the head
  pops : (q : ℕ) (belongs : Option ℕ) → found ≡ q ∷ left → StillBelongs p c left v.belongs belongs → w ≡ record v { hand = None; belongs = belongs; pops = Some q } → Sends p c found left v w
  -- without the head, and with the seat at the end as the sentinel
  signs : (q : ℕ) (rest : List ℕ) → found ≡ q ∷ rest → left ≡ rest ++ p ∷ [] → v.belongs ≡ None → v.heeds ≡ None → w ≡ record v { hand = None; belongs = Some c; pops = Some q } → Sends p c found left v w
  -- without the sentinel, which was the head
  ends : found ≡ p ∷ left → v.belongs ≡ Some c → v.heeds ≡ None → w ≡ record v { hand = None; belongs = None } → Sends p c found left v w

-- The word i becomes x, the lists at home become `after`, and the stance v of the seat becomes w
pub data Turn (z : Size) (words : List ℕ) (homes after : Homes) (i x : ℕ) (v w : Stance) : Type 0 where
  -- nothing of this
  stays : IsStill z words i x → after ≡ homes → w ≡ v → Turn z words homes after i x v w
  -- the latch of the one whom the seat popped is 1
  reaches : (q : ℕ) → q < z.procs → i ≡ set_at q → x ≡ 1 → after ≡ homes → v.pops ≡ Some q → w ≡ record v { pops = None } → Turn z words homes after i x v w
  -- the own latch is cleared
  resets : (p : ℕ) → p < z.procs → v.own ≡ Some p → i ≡ set_at p → x ≡ 0 → after ≡ homes → w ≡ record v { heeds = None } → Turn z words homes after i x v w
  -- a spin word is set, and the list is in hand
  takes : (c : ℕ) (k : Kept) → c < slots_in z → i ≡ spin_at z c → x ≡ 1 → get_or words i 0 ≡ 0 → get_elem? homes c ≡ maybe.some (maybe.some k) → after ≡ set homes c maybe.none → v.hand ≡ None
      → w ≡ record v { hand = in_hand c k.list.items } → Turn z words homes after i x v w
  -- it is cleared, and the list goes home
  frees : (p c : ℕ) (found : List ℕ) (k : Kept) → p < z.procs → c < slots_in z → v.own ≡ Some p → i ≡ spin_at z c → x ≡ 0 → v.hand ≡ in_hand c found → v.pops ≡ None → after ≡ set homes c (maybe.some k)
      → Sends p c found k.list.items v w → Turn z words homes after i x v w

-- the stance of a seat in no call and without a target
abbrev pub idle : Option ℕ → Stance
idle own = record { own = own; hand = None; belongs = None; heeds = None; pops = None }

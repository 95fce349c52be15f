-- What a seat's place and target say of lists and of signals.
use Rattle.std.specs.Prelude.{ℕ, ◌+◌, ◌==◌, Bool, true, false, cond, List, [], ◌∷◌, Option, None, Some}
use mathlib.Core.Option as maybe
use lib.ListN.{get_elem?}
use Rattle.wait_core.specs.declared.view.Job.{Job}
use Rattle.wait_core.specs.declared.view.Job.TheVariants.{Resleep, Rebroadcast}
use Rattle.wait_core.specs.declared.view.Frame.TheVariants.{Setting, Taking, Spinning, Holding, Signalling, Rousing}
use Rattle.wait_core.specs.declared.view.Kept.{Kept}
use Rattle.wait_core.specs.declared.view.WaitView.{WaitView}
use Rattle.seat_roster.specs.Totals.{total}
use Rattle.seat_roster.specs.Roster.{times}
use Rattle.wait_core.specs.Words.{slot_of}
use Rattle.wait_core.specs.Jobs.{spot_of}
use Rattle.wait_core.specs.Lists.{precedes}
use Rattle.wait_core.specs.Machine.{Place, home_of}

-- a slot whose list is in hand, as it was found
pub record Hand : Type 0 where
  pub slot : ℕ
  pub list : List ℕ

pub record Stance : Type 0 where
  -- the seat's number
  pub own : Option ℕ
  -- the list that it has in hand
  pub hand : Option Hand
  -- the one condition on whose list the backend may be: its target, or that on which it broadcasts while its sentinel is listed
  pub belongs : Option ℕ
  -- the condition by which it may be signalled: its target, where it didn't reset its latch since it was listed
  pub heeds : Option ℕ
  -- whom it popped off a list, and whose latch it has neither read as 1 nor stored yet
  pub pops : Option ℕ

abbrev pub hand_at : Place → Option Hand
hand_at (Holding j list found ∷ p) = Some record { slot = slot_of (spot_of j); list = list }
hand_at p = None

-- whose slot is out
abbrev pub slot_in : Option Hand → Option ℕ
slot_in None = None
slot_in (Some h) = Some h.slot

abbrev pub sentinel_of : Job → Option ℕ
sentinel_of (Rebroadcast c) = Some c
sentinel_of j = None

abbrev pub sentinel_at : Place → Option ℕ
sentinel_at [] = None
sentinel_at (Rousing c q true ∷ p) = Some c
sentinel_at (Taking j ∷ p) = sentinel_of j
sentinel_at (Spinning j ∷ p) = sentinel_of j
sentinel_at (Holding j list found ∷ p) = sentinel_of j
sentinel_at (f ∷ p) = sentinel_at p

-- the target, or where there is none this
abbrev pub target_or : Option ℕ → Option ℕ → Option ℕ
target_or (Some c) o = Some c
target_or None o = o

abbrev pub belongs_at : Option ℕ → Place → Option ℕ
belongs_at target p = target_or target (sentinel_at p)

-- it reset its latch in a sleep, and hasn't looked at the list since
abbrev pub is_resleep : Job → Bool
is_resleep (Resleep c) = true
is_resleep j = false

abbrev pub is_past_reset : Place → Bool
is_past_reset (Taking j ∷ p) = is_resleep j
is_past_reset (Spinning j ∷ p) = is_resleep j
is_past_reset (Holding j list found ∷ p) = is_resleep j
is_past_reset p = false

abbrev pub heeds_at : Bool → Option ℕ → Place → Option ℕ
heeds_at heeds target p = cond heeds (cond (is_past_reset p) None target) None

abbrev pub popped_by : Place → Option ℕ
popped_by (Signalling c q ∷ p) = Some q
popped_by (Rousing c q more ∷ p) = Some q
popped_by p = None

abbrev pub pops_at : Place → Option ℕ
pops_at (Setting q ∷ p) = popped_by p
pops_at p = popped_by p

abbrev pub stance_of : {C : Type 0} → WaitView C → Stance
stance_of v = record { own = v.own; hand = hand_at v.place; belongs = belongs_at v.target v.place; heeds = heeds_at v.heeds v.target v.place; pops = pops_at v.place }

-- COUNTS. 1 where the number is x
abbrev pub is_just : ℕ → Option ℕ → ℕ
is_just x None = 0
is_just x (Some y) = cond (y == x) 1 0

-- 1 where the seat has the list of the slot x in hand
abbrev pub has_slot : ℕ → Option Hand → ℕ
has_slot x None = 0
has_slot x (Some h) = cond (h.slot == x) 1 0

abbrev pub has_list : ℕ → Stance → ℕ
has_list x v = has_slot x v.hand

-- what f counts of the list of the slot x, in hand and at home
abbrev pub hand_amount : (List ℕ → ℕ) → ℕ → Option Hand → ℕ
hand_amount f x None = 0
hand_amount f x (Some h) = cond (h.slot == x) (f h.list) 0

abbrev pub amount_by : (List ℕ → ℕ) → ℕ → Stance → ℕ
amount_by f x v = hand_amount f x v.hand

abbrev pub Homes : Type 0
Homes = List (maybe.Option Kept)

abbrev pub home_amount : (List ℕ → ℕ) → ℕ → Homes → ℕ
home_amount f x homes = f (home_of (get_elem? homes x)).list.items

abbrev pub amount_on : (List ℕ → ℕ) → ℕ → Homes → List Stance → ℕ
amount_on f x homes seats = home_amount f x homes + total (amount_by f x) seats

-- how often p is on that list, and how often q stands behind it there
abbrev pub times_on : ℕ → ℕ → Homes → List Stance → ℕ
times_on p x homes seats = amount_on (times p) x homes seats

abbrev pub order_on : ℕ → ℕ → ℕ → Homes → List Stance → ℕ
order_on p q x homes seats = amount_on (precedes p q) x homes seats

-- 1 where the seat has the number p, and this is the condition x
abbrev pub both_are : ℕ → ℕ → Option ℕ → Option ℕ → ℕ
both_are p x None o = 0
both_are p x (Some q) o = cond (q == p) (is_just x o) 0

abbrev pub belongs_to : ℕ → ℕ → Stance → ℕ
belongs_to p x v = both_are p x v.own v.belongs

abbrev pub heeds_for : ℕ → ℕ → Stance → ℕ
heeds_for p x v = both_are p x v.own v.heeds

-- 1 where it popped p
abbrev pub has_popped : ℕ → Stance → ℕ
has_popped p v = is_just p v.pops

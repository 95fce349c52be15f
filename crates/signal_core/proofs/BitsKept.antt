-- Each step keeps what is said of bits and emissions.
use Rattle.std.proofs.Common.{◌≡◌, ◌≢◌, ◌⊎◌, ℕ, ◌+◌, ◌≤◌, nat_lt, Bool, true, false, cond, List, get_or, set, Option, None, Some, refl, sym, ap, ◌∙◌, subst, ⊎_elim, inl, inr, arith}
use mathlib.Core.Logic.{dite}
use mathlib.Core.Option as maybe
use native.Mathlib.Decide.{ℕ_discrete}
use lib.ListN.{get_elem?}
use Rattle.atomic_table.proofs.Lists.{at_set}
use Rattle.std.specs.Int.{bit_at}
use Rattle.signal_core.specs.declared.step.SigStep.{SigStep}
use Rattle.signal_core.specs.declared.view.Slot.{Slot}
use Rattle.signal_core.specs.declared.view.About.{About}
use Rattle.signal_core.specs.Words.{header_at, mask_at}
use Rattle.signal_core.specs.Machine.{word_of, becomes, place_after, slot_after}
use Rattle.signal_core.specs.Seating.{Stance}
use Rattle.signal_core.specs.Places.{in_hand, put_back, swapped_at, under_way, emitted, any, above, unabsorbed}
use Rattle.signal_core.specs.BitsAreEmitted.{BitsAreEmitted}
use Rattle.signal_core.specs.BitIsOwed.{BitIsOwed}
use Rattle.signal_core.specs.SwappedBitIsNewer.{SwappedBitIsNewer}
use Rattle.signal_core.proofs.Effects.{turned, MaskSays, PutsBack, masks_say, hands_say, SlotTurn, same, leaves, enters, advances, slot_turns, swap_says}
use Rattle.signal_core.proofs.Moves.{Move, any_open, above_open, unabsorbed_open, emitted_le, grow, there}

some_same : (a b : ℕ) (o : Option ℕ) → o ≡ Some a → o ≡ Some b → a ≡ b
some_same a b o x y = let e : Some a ≡ Some b = sym x ∙ y in cc

module _ (shows : ℕ → ℕ → Type 0) (z : About) (words : List ℕ) (seats : List Stance) (x : SigStep) (o id n : ℕ) (v : Stance) (m : Move shows z words seats x o id n v) where
  abbrev now : List ℕ
  now = set words (word_of o x) (becomes x n)

  abbrev later : List Stance
  later = set seats id (turned z x n v)

  says : MaskSays words now o v.place (place_after z x n v.place)
  says = masks_say shows z words o x n v.slot v.place m.fits m.below m.wide m.is m.ok

  pub bits_kept : BitsAreEmitted z.procs words seats → BitsAreEmitted z.procs now later
  bits_kept h = record {
    masked = λ s k below bit. ⊎_elim
        (λ le. let a = h.masked s k below (omega arith) in let b = grow shows z words seats x o id n v m s k any (any_open words) in omega arith)
        (⊎_elim (λ posted. there shows z words seats x o id n v m s k any posted)
        (λ (b : PutsBack o s k v.place (place_after z x n v.place)). let a = h.held id s k v m.at (m.own ∙ ap Some (sym b.0)) b.1 in let c = grow shows z words seats x o id n v m s k any (any_open words) in omega arith))
        (says s k);
    held = λ j s k u e own hand. ⊎_elim
        (λ (t : (j ≡ id) × (turned z x n v ≡ u)). let is : s ≡ o = some_same s o u.own own (ap (λ (c : Stance). c.own) (sym t.1) ∙ m.own) in let at : in_hand k u.place ≡ in_hand k (place_after z x n v.place) = ap (λ (c : Stance). in_hand k c.place) (sym t.1) in
        let less = hands_say shows z words o x n v.slot v.place m.is m.ok k in
        subst (λ (y : ℕ). 1 ≤ emitted y k any later) (sym is) (let c = grow shows z words seats x o id n v m o k any (any_open words) in
        dite (ℕ_discrete (in_hand k v.place) 0)
        (λ none. let a = h.masked o k m.below (omega arith) in omega arith)
        (λ some. let a = h.held id o k v m.at m.own (omega arith) in omega arith)))
        (λ (t : (j ≢ id) × (get_elem? seats j ≡ maybe.some u)). let a = h.held j s k u t.1 own hand in let c = grow shows z words seats x o id n v m s k any (any_open words) in omega arith)
        (at_set seats id j (turned z x n v) u e);
  }

  -- a new bit in the mask of another seat was posted there
  other_mask : (j s k : ℕ) (u : Stance) → j ≢ id → get_elem? seats j ≡ maybe.some u → u.own ≡ Some s → (bit_at (get_or now (mask_at s) 0) k ≤ bit_at (get_or words (mask_at s) 0) k) ⊎ (1 ≤ under_way s k (place_after z x n v.place))
  other_mask j s k u ne at own = ⊎_elim inl (⊎_elim inr (λ (b : PutsBack o s k v.place (place_after z x n v.place)). absurd (ne (m.alone j u at (own ∙ ap Some b.0))))) (says s k)

  pub newer_kept : ((j : ℕ) (u : Stance) (h : ℕ) → get_elem? seats j ≡ maybe.some u → swapped_at u.place ≡ Some h → h ≤ get_or words header_at 0) → SwappedBitIsNewer words seats → SwappedBitIsNewer now later
  newer_kept up old j s k h u e own swap bit kept = ⊎_elim
      (λ (t : (j ≡ id) × (turned z x n v ≡ u)). let is : s ≡ o = some_same s o u.own own (ap (λ (c : Stance). c.own) (sym t.1) ∙ m.own) in
      let at : swapped_at (place_after z x n v.place) ≡ Some h = ap (λ (c : Stance). swapped_at c.place) t.1 ∙ swap in let back : put_back k (place_after z x n v.place) ≡ 0 = ap (λ (c : Stance). put_back k c.place) t.1 ∙ kept in
      let bit' : 1 ≤ bit_at (get_or now (mask_at o) 0) k = subst (λ (y : ℕ). 1 ≤ bit_at (get_or now (mask_at y) 0) k) is bit in
      subst (λ (y : ℕ). 1 ≤ emitted y k (above h) later) (sym is) (⊎_elim
      (λ (b : (swapped_at v.place ≡ Some h) × ((i : ℕ) → put_back i v.place ≤ put_back i (place_after z x n v.place))). let more = b.1 k in let c = grow shows z words seats x o id n v m o k (above h) (above_open words h (up id v h m.at b.0)) in ⊎_elim
      (λ le. let a = old id o k h v m.at m.own b.0 (omega arith) (omega arith) in omega arith)
      (⊎_elim (λ posted. there shows z words seats x o id n v m o k (above h) posted)
      (λ (p : PutsBack o o k v.place (place_after z x n v.place)). absurd (let a = p.2 in omega arith)))
      (says o k))
      (λ (none : (i : ℕ) → bit_at (get_or now (mask_at o) 0) i ≡ 0). absurd (let a = none k in omega arith))
      (swap_says shows z words o x n v.slot v.place (m.wide o m.below) m.ok h at)))
      (λ (t : (j ≢ id) × (get_elem? seats j ≡ maybe.some u)). ⊎_elim
      (λ le. let a = old j s k h u t.1 own swap (omega arith) kept in let c = grow shows z words seats x o id n v m s k (above h) (above_open words h (up j u h t.1 swap)) in omega arith)
      (λ posted. there shows z words seats x o id n v m s k (above h) posted)
      (other_mask j s k u t.0 t.1 own))
      (at_set seats id j (turned z x n v) u e)

  all_any : (f : ℕ → Bool) → ((g : ℕ) → f g ≡ true) → (s k : ℕ) (l : List Stance) → emitted s k any l ≤ emitted s k f l
  all_any f all s k l = emitted_le s k any f l (λ g e. all g)

  joins_all : (h g : ℕ) → unabsorbed record { joined = h; published = h } g ≡ true
  joins_all h g = by_case (nat_lt h g) refl (nat_lt g (h + 1)) refl
    where
      by_case : (a : Bool) → nat_lt h g ≡ a → (b : Bool) → nat_lt g (h + 1) ≡ b → cond a true b ≡ true
      by_case true ea b eb = refl
      by_case false ea true eb = refl
      by_case false ea false eb = absurd (grind (arith, Rattle.std.proofs.lemmas.Bool.Decides.nat_tests, ea, eb))

  above_is : (t : Slot) (g : ℕ) → above t.published g ≡ true → unabsorbed t g ≡ true
  above_is t g e = by_case (nat_lt t.published g) e
    where
      by_case : (a : Bool) → a ≡ true → cond a true (nat_lt g (t.joined + 1)) ≡ true
      by_case true e = refl
      by_case false e = absurd (cc)

  -- of the seat itself: its mask and hand together
  mine_kept : ((t : Slot) → v.slot ≡ Some t → t.published ≤ get_or words header_at 0) → BitsAreEmitted z.procs words seats → BitIsOwed words seats → SwappedBitIsNewer words seats → ((i : ℕ) (h : ℕ) → swapped_at v.place ≡ Some h → h ≤ get_or words header_at 0)
      → (k : ℕ) (t : Slot) → slot_after x v.place v.slot ≡ Some t → 1 ≤ bit_at (get_or now (mask_at o) 0) k + in_hand k (place_after z x n v.place) → 1 ≤ emitted o k (unabsorbed t) later
  mine_kept low bits owed newer up k t is some = by_turn (slot_turns shows z x n (Some o) v.own v.emissions v.slot v.place m.fits m.ok)
    where
      by_turn : SlotTurn v (turned z x n v) → 1 ≤ emitted o k (unabsorbed t) later
      by_turn (same e) = let slot : v.slot ≡ Some t = sym e ∙ is in let c = grow shows z words seats x o id n v m o k (unabsorbed t) (unabsorbed_open words t (low t slot)) in
          let less = hands_say shows z words o x n v.slot v.place m.is m.ok k in ⊎_elim
          (λ le. let a = owed id o k v t m.at m.own slot (omega arith) in omega arith)
          (⊎_elim (λ posted. there shows z words seats x o id n v m o k (unabsorbed t) posted)
          (λ (b : PutsBack o o k v.place (place_after z x n v.place)). let d = b.1 in let a = owed id o k v t m.at m.own slot (omega arith) in omega arith))
          (says o k)
      by_turn (leaves e) = absurd (let a : None ≡ Some t = sym e ∙ is in cc)
      by_turn (enters h e idle) = let none : in_hand k (place_after z x n v.place) ≡ 0 = ap (in_hand k) idle in
          let a = (bits_kept bits).masked o k m.below (omega arith) in
          let b : Some record { joined = h; published = h } ≡ Some t = sym e ∙ is in let c : record { joined = h; published = h } ≡ t = cc in
          subst (λ (y : Slot). 1 ≤ emitted o k (unabsorbed y) later) c (let d = all_any (unabsorbed record { joined = h; published = h }) (joins_all h) o k later in omega arith)
      by_turn (advances h j swap back e idle) = let none : in_hand k (place_after z x n v.place) ≡ 0 = ap (in_hand k) idle in
          let b : Some record { joined = j; published = h } ≡ Some t = sym e ∙ is in let c : record { joined = j; published = h } ≡ t = cc in
          let high : h ≤ get_or words header_at 0 = up 0 h swap in
          subst (λ (y : Slot). 1 ≤ emitted o k (unabsorbed y) later) c (let d = emitted_le o k (above h) (unabsorbed record { joined = j; published = h }) later (above_is record { joined = j; published = h }) in
          let g = grow shows z words seats x o id n v m o k (above h) (above_open words h high) in ⊎_elim
          (λ le. let a = newer id o k h v m.at m.own swap (omega arith) (back k) in omega arith)
          (⊎_elim (λ posted. let a = there shows z words seats x o id n v m o k (above h) posted in omega arith)
          (λ (p : PutsBack o o k v.place (place_after z x n v.place)). absurd (let a = p.2 in let q : put_back k (place_after z x n v.place) ≡ 0 = ap (put_back k) idle in omega arith)))
          (says o k))

  pub owed_kept : ((j : ℕ) (u : Stance) (t : Slot) → get_elem? seats j ≡ maybe.some u → u.slot ≡ Some t → t.published ≤ get_or words header_at 0) → ((j : ℕ) (u : Stance) (h : ℕ) → get_elem? seats j ≡ maybe.some u → swapped_at u.place ≡ Some h → h ≤ get_or words header_at 0)
      → BitsAreEmitted z.procs words seats → SwappedBitIsNewer words seats → BitIsOwed words seats → BitIsOwed now later
  owed_kept low up bits newer old j s k u t e own slot some = ⊎_elim
      (λ (y : (j ≡ id) × (turned z x n v ≡ u)). let is : s ≡ o = some_same s o u.own own (ap (λ (c : Stance). c.own) (sym y.1) ∙ m.own) in
      let slot' : slot_after x v.place v.slot ≡ Some t = ap (λ (c : Stance). c.slot) y.1 ∙ slot in
      let hand : in_hand k u.place ≡ in_hand k (place_after z x n v.place) = ap (λ (c : Stance). in_hand k c.place) (sym y.1) in
      let word : bit_at (get_or now (mask_at s) 0) k ≡ bit_at (get_or now (mask_at o) 0) k = ap (λ (c : ℕ). bit_at (get_or now (mask_at c) 0) k) is in
      subst (λ (c : ℕ). 1 ≤ emitted c k (unabsorbed t) later) (sym is) (mine_kept (λ r. low id v r m.at) bits old newer (λ i h. up id v h m.at) k t slot' (omega arith)))
      (λ (y : (j ≢ id) × (get_elem? seats j ≡ maybe.some u)). let c = grow shows z words seats x o id n v m s k (unabsorbed t) (unabsorbed_open words t (low j u t y.1 slot)) in ⊎_elim
      (λ le. let a = old j s k u t y.1 own slot (omega arith) in omega arith)
      (λ posted. there shows z words seats x o id n v m s k (unabsorbed t) posted)
      (other_mask j s k u y.0 y.1 own))
      (at_set seats id j (turned z x n v) u e)

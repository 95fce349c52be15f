-- Where a barrier's record is: at home, or in one hand; and what it reads after each step.
use Rattle.std.proofs.Common.{◌≡◌, ◌≢◌, ℕ, zero, suc, ◌+◌, ◌<◌, ◌≤◌, eqb, Bool, true, false, cond, List, [], ◌∷◌, ◌++◌, length, get_or, set, None, refl, sym, ap, ◌∙◌, arith, eq-eqb, ne_eqb, length-append}
use mathlib.Core.Logic.{dite}
use mathlib.Core.Option as maybe
use native.Mathlib.Decide.{ℕ_discrete}
use lib.ListN.{get_elem?}
use Rattle.atomic_table.proofs.Lists.{set_here, set_else}
use Rattle.wait_core.specs.declared.step.Spot.TheVariants.{Bar}
use Rattle.wait_core.specs.declared.view.Frame.TheVariants.{Holding}
use Rattle.wait_core.specs.declared.view.Job.{Job}
use Rattle.wait_core.specs.declared.view.Kept.{Kept}
use Rattle.wait_core.specs.declared.view.Record.{Record}
use Rattle.seat_roster.specs.Totals.{total}
use Rattle.seat_roster.proofs.Totals.{total_set, total_only, at_inside}
use Rattle.wait_core.specs.Words.{slot_of, opened}
use Rattle.wait_core.specs.Jobs.{spot_of}
use Rattle.wait_core.specs.Machine.{Place, home_in, home_of, left_at}
use Rattle.wait_core.specs.Stances.{Homes, hand_at, slot_in, has_slot}
use Rattle.wait_core.specs.Barriers.{Attendance, held_field, field_of}

-- LISTS of the first numbers that a function gives
pub opened_long : (f : ℕ → ℕ) (n : ℕ) → length (opened f n) ≡ n
opened_long f zero = refl
opened_long f (suc n) = let h = opened_long f n in length-append (opened f n) (f n ∷ []) ∙ omega arith

get_end : (l : List ℕ) (v : ℕ) → get_or (l ++ v ∷ []) (length l) 0 ≡ v
get_end [] v = refl
get_end (y ∷ l) v = get_end l v

get_left : (l r : List ℕ) (i : ℕ) → i < length l → get_or (l ++ r) i 0 ≡ get_or l i 0
get_left [] r i below = absurd (omega arith)
get_left (y ∷ l) r zero below = refl
get_left (y ∷ l) r (suc i) below = get_left l r i (omega arith)

pub opened_at : (f : ℕ → ℕ) (n i : ℕ) → i < n → get_or (opened f n) i 0 ≡ f i
opened_at f zero i below = absurd (omega arith)
opened_at f (suc n) i below = let long = opened_long f n in dite (ℕ_discrete i n)
    (λ (e : i ≡ n). ap (λ (k : ℕ). get_or (opened f n ++ f n ∷ []) k 0) (e ∙ sym long) ∙ (get_end (opened f n) (f n) ∙ ap f (sym e)))
    (λ ne. get_left (opened f n) (f n ∷ []) i (omega arith) ∙ opened_at f n i (omega arith))

pub opened_same : (f g : ℕ → ℕ) (n : ℕ) → ((i : ℕ) → i < n → g i ≡ f i) → opened g n ≡ opened f n
opened_same f g zero h = refl
opened_same f g (suc n) h = λ i. opened_same f g n (λ k below. h k (omega arith)) i ++ h n (omega arith) i ∷ []

set_end : (l : List ℕ) (v x : ℕ) → set (l ++ v ∷ []) (length l) x ≡ l ++ x ∷ []
set_end [] v x = refl
set_end (y ∷ l) v x = ap (λ (xs : List ℕ). y ∷ xs) (set_end l v x)

set_left : (l r : List ℕ) (i x : ℕ) → i < length l → set (l ++ r) i x ≡ set l i x ++ r
set_left [] r i x below = absurd (omega arith)
set_left (y ∷ l) r zero x below = refl
set_left (y ∷ l) r (suc i) x below = ap (λ (xs : List ℕ). y ∷ xs) (set_left l r i x (omega arith))

pub opened_set : (f g : ℕ → ℕ) (n b x : ℕ) → b < n → g b ≡ x → ((i : ℕ) → i < n → i ≢ b → g i ≡ f i) → opened g n ≡ set (opened f n) b x
opened_set f g zero b x below here others = absurd (omega arith)
opened_set f g (suc n) b x below here others = let long = opened_long f n in dite (ℕ_discrete b n)
    (λ (e : b ≡ n). (λ i. opened_same f g n (λ k below. others k (omega arith) (λ h. omega arith)) i ++ (ap g (sym e) ∙ here) i ∷ []) ∙ (sym (set_end (opened f n) (f n) x) ∙ ap (λ (k : ℕ). set (opened f n ++ f n ∷ []) k x) (long ∙ sym e)))
    (λ ne. (λ i. opened_set f g n b x (omega arith) here (λ k below other. others k (omega arith) other) i ++ others n (omega arith) (λ h. ne (sym h)) i ∷ []) ∙ sym (set_left (opened f n) (f n ∷ []) b x (omega arith)))

-- HANDS. Who has no slot in hand has no record in hand
pub held_none : (f : Record → ℕ) (x : ℕ) (p : Place) → slot_in (hand_at p) ≡ None → held_field f x p ≡ 0
held_none f x (Holding j list found ∷ p) none = absurd (cc)
held_none f x p none = refl

-- nor who has another
pub held_else : (f : Record → ℕ) (x : ℕ) (p : Place) → has_slot x (hand_at p) ≡ 0 → held_field f x p ≡ 0
held_else f x (Holding j list found ∷ p) none = by_slot (eqb (slot_of (spot_of j)) x) none
  where
    by_slot : (b : Bool) → cond {A = ℕ} b 1 0 ≡ 0 → cond b (f found) 0 ≡ 0
    by_slot true e = absurd (omega arith)
    by_slot false e = refl
held_else f x p none = refl

-- the record that is in hand, of its slot and of another
pub held_here : (f : Record → ℕ) (x : ℕ) (j : Job) (list : List ℕ) (found : Record) (p : Place) → slot_of (spot_of j) ≡ x → held_field f x (Holding j list found ∷ p) ≡ f found
held_here f x j list found p is = ap (λ (b : Bool). cond b (f found) 0) (eq-eqb (slot_of (spot_of j)) x is)

pub held_apart : (f : Record → ℕ) (x : ℕ) (j : Job) (list : List ℕ) (found : Record) (p : Place) → slot_of (spot_of j) ≢ x → held_field f x (Holding j list found ∷ p) ≡ 0
held_apart f x j list found p ne = ap (λ (b : Bool). cond b (f found) 0) (ne_eqb (slot_of (spot_of j)) x ne)

-- a field that reads 0 of an empty slot
abbrev pub ReadsNothing : (Record → ℕ) → Type 0
ReadsNothing f = f (left_at 0 []).record ≡ 0

module _ {C : Type 0} where
  abbrev pub slot_held : ℕ → Attendance C → ℕ
  slot_held x v = has_slot x (hand_at v.place)

  -- THE STEPS, of a seat that was at v and goes on at w
  module _ (homes : Homes) (seats : List (Attendance C)) (id : ℕ) (v w : Attendance C) (at : get_elem? seats id ≡ maybe.some v) (f : Record → ℕ) (b : ℕ) where
    abbrev x : ℕ
    x = slot_of (Bar b)

    -- it has as much in hand as before
    pub field_same : held_field f x w.place ≡ held_field f x v.place → field_of f b homes (set seats id w) ≡ field_of f b homes seats
    field_same same = let sum = total_set (λ (u : Attendance C). held_field f x u.place) seats id v w at in omega arith

    -- a slot is taken, and what it kept is in hand
    pub field_out : ReadsNothing f → (k : Kept) (j : Job) (list : List ℕ) (p : Place) → get_elem? homes (slot_of (spot_of j)) ≡ maybe.some (maybe.some k) → slot_in (hand_at v.place) ≡ None → w.place ≡ Holding j list k.record ∷ p
        → field_of f b (set homes (slot_of (spot_of j)) maybe.none) (set seats id w) ≡ field_of f b homes seats
    field_out blank k j list p home free goes = let c : ℕ = slot_of (spot_of j) in
        let sum = total_set (λ (u : Attendance C). held_field f x u.place) seats id v w at in let had = held_none f x v.place free in let has = ap (held_field f x) goes in dite (ℕ_discrete c x)
        (λ (e : c ≡ x). let mine = held_here f x j list k.record p e in
        let was : f (home_in homes x).record ≡ f k.record = ap (λ (i : ℕ). f (home_in homes i).record) (sym e) ∙ ap (λ o. f (home_of o).record) home in
        let now : f (home_in (set homes c maybe.none) x).record ≡ 0 = ap (λ (i : ℕ). f (home_in (set homes c maybe.none) i).record) (sym e) ∙ (ap (λ o. f (home_of o).record) (set_here homes c maybe.none (at_inside homes c (maybe.some k) home)) ∙ blank) in omega arith)
        (λ ne. let mine = held_apart f x j list k.record p ne in let now : f (home_in (set homes c maybe.none) x).record ≡ f (home_in homes x).record = ap (λ o. f (home_of o).record) (set_else homes c x maybe.none (λ e. ne (sym e))) in omega arith)

    -- what is in hand goes home, to this slot or to another
    module _ (blank : ReadsNothing f) (k : Kept) (j : Job) (list : List ℕ) (found : Record) (p : Place) (out : get_elem? homes (slot_of (spot_of j)) ≡ maybe.some maybe.none) (has : v.place ≡ Holding j list found ∷ p) (free : slot_in (hand_at w.place) ≡ None) where
      pub field_sent : slot_of (spot_of j) ≡ x → field_of f b (set homes (slot_of (spot_of j)) (maybe.some k)) (set seats id w) + f found ≡ field_of f b homes seats + f k.record
      field_sent e = let c : ℕ = slot_of (spot_of j) in
          let sum = total_set (λ (u : Attendance C). held_field f x u.place) seats id v w at in let left = held_none f x w.place free in let had = ap (held_field f x) has ∙ held_here f x j list found p e in
          let was : f (home_in homes x).record ≡ 0 = ap (λ (i : ℕ). f (home_in homes i).record) (sym e) ∙ (ap (λ o. f (home_of o).record) out ∙ blank) in
          let now : f (home_in (set homes c (maybe.some k)) x).record ≡ f k.record = ap (λ (i : ℕ). f (home_in (set homes c (maybe.some k)) i).record) (sym e) ∙ ap (λ o. f (home_of o).record) (set_here homes c (maybe.some k) (at_inside homes c maybe.none out)) in omega arith

      pub field_apart : slot_of (spot_of j) ≢ x → field_of f b (set homes (slot_of (spot_of j)) (maybe.some k)) (set seats id w) ≡ field_of f b homes seats
      field_apart ne = let c : ℕ = slot_of (spot_of j) in
          let sum = total_set (λ (u : Attendance C). held_field f x u.place) seats id v w at in let left = held_none f x w.place free in let had = ap (held_field f x) has ∙ held_apart f x j list found p ne in
          let now : f (home_in (set homes c (maybe.some k)) x).record ≡ f (home_in homes x).record = ap (λ o. f (home_of o).record) (set_else homes c x (maybe.some k) (λ e. ne (sym e))) in omega arith

  -- where one seat alone has the slot out, the record is as it found it
  pub field_held : (f : Record → ℕ) → ReadsNothing f → (homes : Homes) (seats : List (Attendance C)) (id b : ℕ) (v : Attendance C) (j : Job) (list : List ℕ) (found : Record) (p : Place) → get_elem? seats id ≡ maybe.some v → v.place ≡ Holding j list found ∷ p → slot_of (spot_of j) ≡ slot_of (Bar b)
      → total (slot_held (slot_of (Bar b))) seats ≤ 1 → get_elem? homes (slot_of (Bar b)) ≡ maybe.some maybe.none → field_of f b homes seats ≡ f found
  field_held f blank homes seats id b v j list found p at has is one out = let x : ℕ = slot_of (Bar b) in
      let home : f (home_in homes x).record ≡ 0 = ap (λ o. f (home_of o).record) out ∙ blank in
      let mine = ap (λ (q : Place). has_slot x (hand_at q)) has ∙ ap (λ (t : Bool). cond {A = ℕ} t 1 0) (eq-eqb (slot_of (spot_of j)) x is) in
      let only = total_only (λ (u : Attendance C). held_field f x u.place) (slot_held x) seats id v at one mine (λ i u e none. held_else f x u.place none) in
      let here = ap (held_field f x) has ∙ held_here f x j list found p is in omega arith

  -- where nobody has it out, it is as it lies at home
  pub field_home : (f : Record → ℕ) (homes : Homes) (seats : List (Attendance C)) (b : ℕ) → total (slot_held (slot_of (Bar b))) seats ≡ 0 → field_of f b homes seats ≡ f (home_in homes (slot_of (Bar b))).record
  field_home f homes seats b none = let x : ℕ = slot_of (Bar b) in
      let nobody = Rattle.seat_roster.proofs.Totals.total_none (λ (u : Attendance C). held_field f x u.place) seats (λ i u e. held_else f x u.place (let low = Rattle.seat_roster.proofs.Totals.total_at (slot_held x) seats i u e in omega arith)) in omega arith

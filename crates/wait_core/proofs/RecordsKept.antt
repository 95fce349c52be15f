-- What each step does to what a barrier's record reads: nothing, but for the free of that record.
use Rattle.std.proofs.Common.{◌≡◌, ◌≢◌, ℕ, ◌<◌, ◌≤◌, eqb, Bool, true, false, cond, List, ◌∷◌, map, length, get_or, set, Option, None, Some, refl, sym, ap, ◌∙◌, subst, arith, eqb-true}
use mathlib.Core.Option as maybe
use lib.ListN.{get_elem?}
use Rattle.atomic_table.specs.Table.{homes_after, keeps, takes}
use Rattle.atomic_table.proofs.Lists.{at_map}
use Rattle.wait_core.specs.declared.step.Spot.{Spot}
use Rattle.wait_core.specs.declared.step.Spot.TheVariants.{Bar}
use Rattle.wait_core.specs.declared.step.WaitStep.{WaitStep}
use Rattle.wait_core.specs.declared.step.WaitStep.TheVariants.{Sload, Sset, Reset, Mstore, Mload, Byte, Look, Drain, Shload, Shstore, Take, Spin, Free}
use Rattle.wait_core.specs.declared.view.Frame.TheVariants.{Taking, Holding}
use Rattle.wait_core.specs.declared.view.Job.{Job}
use Rattle.wait_core.specs.declared.view.Kept.{Kept}
use Rattle.wait_core.specs.declared.view.Record.{Record}
use Rattle.wait_core.specs.declared.view.Size.{Size}
use Rattle.wait_core.specs.declared.view.WaitView.{WaitView}
use Rattle.seat_roster.specs.Totals.{total}
use Rattle.seat_roster.proofs.Totals.{total_map}
use Rattle.wait_core.specs.Words.{slot_of, slots_in, spin_at, client_base}
use Rattle.wait_core.specs.Jobs.{spot_of}
use Rattle.wait_core.specs.Machine.{WaitState, Place, top, taken, number_of, word_of, home_in, home_of, slot_number, act_of, carried, next_with, MayTake, Permits}
use Rattle.wait_core.specs.Meanings.{Meanings}
use Rattle.wait_core.specs.Seating.{standing_of}
use Rattle.wait_core.specs.Fits.{Fits}
use Rattle.wait_core.specs.Stances.{Homes, hand_at, slot_in, stance_of, has_list}
use Rattle.wait_core.specs.Barriers.{Attendance, attendance_of, held_field, field_of}
use Rattle.wait_core.specs.Rule.{Rule}
use Rattle.wait_core.specs.Told.{slot_then}
use Rattle.wait_core.specs.Sending.{IsApart}
use Rattle.wait_core.proofs.Effects.{spot_inside}
use Rattle.wait_core.proofs.Turning.{enters}
use Rattle.wait_core.proofs.SpinInOneHand.{SpinsAreFlags, one_hand, home_out}
use Rattle.wait_core.proofs.Hands.{hand_follows, taking_free, IsNoFree}
use Rattle.wait_core.proofs.Records.{ReadsNothing, slot_held, held_none, field_same, field_out, field_sent, field_apart, field_held}

-- a step that takes and frees no spin word
apart_homes : (k : WaitStep) → IsApart k → (homes : Homes) (c : List (ℕ × Kept)) (n : ℕ) (found : Kept) → homes_after homes c (act_of k n found) ≡ homes
apart_homes (Take x b) apart homes c n found = absurd apart
apart_homes (Free x target) apart homes c n found = absurd apart
apart_homes k apart homes c n found = refl

apart_slot : (k : WaitStep) → IsApart k → (n : ℕ) (o : Option ℕ) → slot_then k n o ≡ o
apart_slot (Take x b) apart n o = absurd apart
apart_slot (Free x target) apart n o = absurd apart
apart_slot k apart n o = refl

-- is made with nothing in hand
pub apart_free : (z : Size) (k : WaitStep) (own t : Option ℕ) (p : Place) → IsApart k → Permits z k own t p → slot_in (hand_at p) ≡ None
apart_free z k own t (Holding j list found ∷ p) apart ok = absurd (by_kind k apart ok)
  where
    by_kind : (k : WaitStep) → IsApart k → Permits z k own t (Holding j list found ∷ p) → ⊥
    by_kind (Sload q (Some c)) apart ok = ok.1
    by_kind (Sload q None) apart ok = ok.1
    by_kind (Sset q) apart ok = let e = ok.1 in cc
    by_kind (Reset (Some c)) apart ok = ok.1
    by_kind (Reset None) apart ok = ok
    by_kind (Mstore true) apart ok = ok
    by_kind (Mstore false) apart ok = ok
    by_kind (Mload q) apart ok = let e = ok.1 in cc
    by_kind (Byte q) apart ok = ok.1
    by_kind Look apart ok = ok
    by_kind Drain apart ok = ok
    by_kind (Shload (Some c)) apart ok = ok.1
    by_kind (Shload None) apart ok = cc
    by_kind (Shstore b) apart ok = ok.1
    by_kind (Spin x) apart ok = ok.1
    by_kind (Take x b) apart ok = apart
    by_kind (Free x target) apart ok = apart
apart_free z k own t p apart ok = refl

module _ {C : Type 0} (means : Meanings C) (z : Size) (phase count : ℕ) (s : WaitState C) (r : Rule means z phase count s) where
  pub wide : client_base z ≤ length s.words
  wide = let long = r.sized.long in omega arith

  pub spins : SpinsAreFlags z s.words
  spins x below = r.flags (spin_at z x) (omega arith) (omega arith)

  -- a slot is out with one seat at most, counted as the parts on barriers see the seats
  pub held_once : (x : ℕ) → total (slot_held x) (map attendance_of s.views) ≡ total (has_list x) (map stance_of s.views)
  held_once x = total_map (slot_held x) attendance_of s.views ∙ sym (total_map (has_list x) stance_of s.views)

  pub few_held : (x : ℕ) → x < slots_in z → total (slot_held x) (map attendance_of s.views) ≤ 1
  few_held x below = let one = one_hand z s.words s.homes (map stance_of s.views) wide spins r.lists.hands x below in let same = held_once x in omega arith

  module _ (id : ℕ) (v : WaitView C) (o : ℕ) (at : get_elem? s.views id ≡ maybe.some v) where
    abbrev seats : List (Attendance C)
    seats = map attendance_of s.views

    seat : get_elem? seats id ≡ maybe.some (attendance_of v)
    seat = at_map attendance_of s.views id v at

    fits : Fits z.cvs v.target v.place
    fits = r.places.fits id (standing_of v) (at_map standing_of s.views id v at)

    -- the seat and the slots after the step k
    abbrev pub view_then : WaitStep → WaitView C
    view_then k = next_with z k v (get_or s.words (word_of z o k) 0) (home_in s.homes (slot_number k))

    abbrev pub homes_then : WaitStep → Homes
    homes_then k = homes_after s.homes (carried k o v.place) (act_of k (get_or s.words (word_of z o k) 0) (home_in s.homes (slot_number k)))

    -- A STEP THAT FREES NOTHING
    abbrev RecordsStay : Homes → WaitView C → Type 0
    RecordsStay homes w = (f : Record → ℕ) → ReadsNothing f → (b : ℕ) → field_of f b homes (set seats id (attendance_of w)) ≡ field_of f b s.homes seats

    apart : (k : WaitStep) → IsApart k → Permits z k (Some o) v.target v.place → RecordsStay (homes_then k) (view_then k)
    apart k is ok f blank b =
        let n : ℕ = get_or s.words (word_of z o k) 0 in let found : Kept = home_in s.homes (slot_number k) in let none = apart_free z k (Some o) v.target v.place is ok in
        let none' = hand_follows z v.target k (Some o) (number_of v.own) n found v.place ok fits ∙ (apart_slot k is n (slot_in (hand_at v.place)) ∙ none) in
        ap (λ (h : Homes). field_of f b h (set seats id (attendance_of (view_then k)))) (apart_homes k is s.homes (carried k o v.place) n found)
        ∙ field_same s.homes seats id (attendance_of v) (attendance_of (view_then k)) seat f b (held_none _ _ (view_then k).place none' ∙ sym (held_none _ _ v.place none))

    -- a spin word is taken for the job, or found taken
    takes_out : (w : WaitView C) (x : Spot) (j : Job) (q : Place) (k : Kept) (clear : Bool) → spot_of j ≡ x → w.place ≡ taken clear k (Taking j ∷ q) → (clear ≡ true → get_elem? s.homes (slot_of x) ≡ maybe.some (maybe.some k)) → slot_in (hand_at v.place) ≡ None
        → (c : List (ℕ × Kept)) → RecordsStay (homes_after s.homes c (cond clear (takes (slot_of x) k) keeps)) w
    takes_out w x j q k true is place home free c f blank b = subst (λ (y : Spot). field_of f b (set s.homes (slot_of y) maybe.none) (set seats id (attendance_of w)) ≡ field_of f b s.homes seats) is
        (field_out s.homes seats id (attendance_of v) (attendance_of w) seat f b blank k j k.list.items q (ap (λ (y : Spot). get_elem? s.homes (slot_of y)) is ∙ home refl) free place)
    takes_out w x j q k false is place home free c f blank b = field_same s.homes seats id (attendance_of v) (attendance_of w) seat f b (ap (held_field f (slot_of (Bar b))) place ∙ sym (held_none _ _ v.place free))

    -- what a slot keeps, where its word is 0
    at_home : (x : Spot) → slot_of x < slots_in z → eqb (get_or s.words (spin_at z (slot_of x)) 0) 0 ≡ true → get_elem? s.homes (slot_of x) ≡ maybe.some (maybe.some (home_in s.homes (slot_of x)))
    at_home x inside clear = let there = (r.lists.hands (slot_of x) inside).at_home (eqb-true _ 0 clear) in there.1 ∙ ap (λ (k : Kept). maybe.some (maybe.some k)) (sym (ap home_of there.1))

    takes_within : (x : Spot) (p : Place) → v.place ≡ p → Permits z (Take x None) (Some o) v.target v.place → MayTake x (top p) → RecordsStay (homes_then (Take x None)) (view_then (Take x None))
    takes_within x (Taking j ∷ p) is ok may = let n : ℕ = get_or s.words (spin_at z (slot_of x)) 0 in let found : Kept = home_in s.homes (slot_of x) in
        takes_out (view_then (Take x None)) x j p found (eqb n 0) may (ap (taken (eqb n 0) found) is) (at_home x (spot_inside z x r.sized.cvs ok.0)) (taking_free z v.target x None (Some o) v.place ok) (carried (Take x None) o v.place)
    takes_within x p is ok may = absurd may

    pub records_stay : (k : WaitStep) → IsNoFree k → Permits z k (Some o) v.target v.place → RecordsStay (homes_then k) (view_then k)
    records_stay (Take x (Some c)) none ok = let n : ℕ = get_or s.words (spin_at z (slot_of x)) 0 in let found : Kept = home_in s.homes (slot_of x) in let e = enters z.cvs v.own v.target v.heeds c x v.place ok.1 ok.3 fits in
        takes_out (view_then (Take x (Some c))) x e.0 e.1 found (eqb n 0) e.3 (ap (taken (eqb n 0) found) e.2) (at_home x (spot_inside z x r.sized.cvs ok.0)) (taking_free z v.target x (Some c) (Some o) v.place ok) (carried (Take x (Some c)) o v.place)
    records_stay (Take x None) none ok = takes_within x v.place refl ok ok.1
    records_stay (Free x target) none ok = absurd none
    records_stay k none ok = apart k tt ok

    -- WHAT IS IN HAND GOES HOME, as k, from the place of a seat that frees the spin word of its job
    module _ (j : Job) (list : List ℕ) (found : Record) (q : Place) (place : v.place ≡ Holding j list found ∷ q) (low : slot_of (spot_of j) < slots_in z) where
      abbrev slot : ℕ
      slot = slot_of (spot_of j)

      out : get_elem? s.homes slot ≡ maybe.some maybe.none
      out = home_out z s.words s.homes (map stance_of s.views) wide spins r.lists.hands id slot (stance_of v) list (at_map stance_of s.views id v at) low (ap hand_at place)

      -- what the record read, of this slot
      pub found_reads : (f : Record → ℕ) → ReadsNothing f → (b : ℕ) → slot ≡ slot_of (Bar b) → field_of f b s.homes seats ≡ f found
      found_reads f blank b is = field_held f blank s.homes seats id b (attendance_of v) j list found q seat place is (subst (λ (x : ℕ). total (slot_held x) seats ≤ 1) is (few_held slot low)) (ap (get_elem? s.homes) (sym is) ∙ out)

      module _ (w : WaitView C) (free : slot_in (hand_at w.place) ≡ None) (k : Kept) (f : Record → ℕ) (blank : ReadsNothing f) (b : ℕ) where
        -- and reads
        pub left_reads : slot ≡ slot_of (Bar b) → field_of f b (set s.homes slot (maybe.some k)) (set seats id (attendance_of w)) ≡ f k.record
        left_reads is = let e = field_sent s.homes seats id (attendance_of v) (attendance_of w) seat f b blank k j list found q out place free is in let h = found_reads f blank b is in omega arith

        -- another reads as before
        pub others_read : slot ≢ slot_of (Bar b) → field_of f b (set s.homes slot (maybe.some k)) (set seats id (attendance_of w)) ≡ field_of f b s.homes seats
        others_read ne = field_apart s.homes seats id (attendance_of v) (attendance_of w) seat f b blank k j list found q out place free ne

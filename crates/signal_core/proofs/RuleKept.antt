-- Each step of the machine keeps the whole rule.
use Rattle.std.proofs.Common.{◌≡◌, ℕ, ◌<◌, ◌≤◌, List, [], map, length, get_or, set, Option, None, Some, refl, sym, ap, ◌∙◌, subst, arith, length-set, get_or-set_other}
use Rattle.std.proofs.lemmas.List.{length-map}
use mathlib.Core.Option as maybe
use lib.ListN.{get_elem?}
use lib.Seq.{map-set}
use Rattle.atomic_table.specs.Table.{keeps, stepped}
use Rattle.atomic_table.proofs.Lists.{at_map}
use Rattle.signal_core.specs.declared.step.SigStep.{SigStep}
use Rattle.signal_core.specs.declared.step.SigStep.TheVariants.{Hload, Hadd, Mor, Mswap, Gstore, Gload, Pstore, Pload, Pend, Pswap}
use Rattle.signal_core.specs.declared.view.Frame.TheVariants.{Taking, Keeping, Reminding}
use Rattle.signal_core.specs.declared.view.Slot.{Slot}
use Rattle.signal_core.specs.declared.view.About.{About}
use Rattle.signal_core.specs.declared.view.SigView.{SigView}
use Rattle.seat_roster.specs.Roster.{Numbers, Roster}
use Rattle.seat_roster.proofs.Stretches.{unseen, from_seen}
use Rattle.seat_roster.proofs.Numbers.{one_seat, own_inside}
use Rattle.signal_core.specs.Words.{header_at, gen_at, pend_at, word_count}
use Rattle.signal_core.specs.Machine.{SigState, Place, number_of, word_of, becomes, next, Permits, Allowed, after}
use Rattle.signal_core.specs.Seating.{Stance, numbers_of, stance_of, doings_of}
use Rattle.signal_core.specs.Places.{swapped_at, gen_of}
use Rattle.signal_core.specs.PlacesFit.{PlaceFits}
use Rattle.signal_core.specs.GenerationsStand.{PlaceStands, SlotStands}
use Rattle.signal_core.specs.WordsAreMade.{WordsAreMade}
use Rattle.signal_core.specs.Promises.{SlotIsPublished}
use Rattle.signal_core.specs.Rule.{SeatsAreCounted, Rule}
use Rattle.signal_core.proofs.Effects.{turned}
use Rattle.signal_core.proofs.Moves.{Move}
use Rattle.signal_core.proofs.BitsKept.{bits_kept, newer_kept, owed_kept}
use Rattle.signal_core.proofs.GenerationsKept.{generations_kept, word_of_seat}
use Rattle.signal_core.proofs.PlacesKept.{places_kept, shown_kept}
use Rattle.signal_core.proofs.AbsorbedKept.{absorbed_kept}
use Rattle.signal_core.proofs.WordsAreMade.{made_step}

-- each step is on a word behind the next number
pub word_inside : (z : About) (o : ℕ) (x : SigStep) → 0 < word_of o x
word_inside z o (Hload c) = omega arith
word_inside z o Hadd = omega arith
word_inside z o (Mor q j failed) = omega arith
word_inside z o (Mswap c) = omega arith
word_inside z o (Gstore g c) = omega arith
word_inside z o (Gload q c) = omega arith
word_inside z o (Pstore y) = omega arith
word_inside z o (Pload q) = omega arith
word_inside z o (Pend q) = omega arith
word_inside z o (Pswap c) = omega arith

-- each step is on a word of a table that has the words of the backend
pub word_below : (shows : ℕ → ℕ → Type 0) (z : About) (o words : ℕ) (x : SigStep) (own : Option ℕ) (t : Option Slot) (p : Place) → pend_at o < words → words ≡ word_count z → own ≡ Some o → Permits shows z x own t p → word_of o x < words
word_below shows z o words (Hload c) own t p below wide mine ok = omega arith
word_below shows z o words Hadd own t p below wide mine ok = omega arith
word_below shows z o words (Mor q j failed) own t p below wide mine ok = let few = ok.0 in omega arith
word_below shows z o words (Mswap c) own t p below wide mine ok = omega arith
word_below shows z o words (Gstore g c) own t p below wide mine ok = omega arith
word_below shows z o words (Gload q (Some c)) own t p below wide mine ok = let few = ok.1 in omega arith
word_below shows z o words (Gload q None) own t p below wide mine ok = let e : Some o ≡ Some q = sym mine ∙ ok.0 in let is : o ≡ q = cc in omega arith
word_below shows z o words (Pstore y) own t p below wide mine ok = omega arith
word_below shows z o words (Pload q) own t p below wide mine ok = let few = ok.0 in omega arith
word_below shows z o words (Pend q) own t p below wide mine ok = let few = ok.0 in omega arith
word_below shows z o words (Pswap c) own t p below wide mine ok = omega arith

-- a header read before a swap isn't above the header
pub swap_low : (z : About) (header h : ℕ) (t : Option Slot) (p : Place) → PlaceFits z t p → PlaceStands header t p → swapped_at p ≡ Some h → h ≤ header
swap_low z header h (Some t) (Some (Taking g found)) fits read e = let is : g ≡ h = cc in let a = read.1 in omega arith
swap_low z header h (Some t) (Some (Keeping g found failed done)) fits read e = let is : g ≡ h = cc in let a = read.1 in omega arith
swap_low z header h (Some t) (Some (Reminding g found failed k)) fits read e = let is : g ≡ h = cc in let a = read.1 in omega arith
swap_low z header h None (Some (Taking g found)) fits read e = absurd fits
swap_low z header h None (Some (Keeping g found failed done)) fits read e = absurd fits.0
swap_low z header h None (Some (Reminding g found failed k)) fits read e = absurd fits.0
swap_low z header h t None fits read e = absurd (cc)
swap_low z header h t (Some f) fits read e = absurd (cc)

slot_low : (header : ℕ) (t : Option Slot) (r : Slot) → t ≡ Some r → SlotStands header t → r.published ≤ header
slot_low header None r e h = absurd (cc)
slot_low header (Some t) r e h = let is : t ≡ r = cc in let a : t.published ≡ r.published = ap (λ (y : Slot). y.published) is in let b = h.1 in omega arith

module _ (shows : ℕ → ℕ → Type 0) (z : About) (s : SigState) (r : Rule shows z s) (id : ℕ) (v : SigView) (o : ℕ) (at : get_elem? s.views id ≡ maybe.some v) (own : v.own ≡ Some o) where
  pub own_below : o < z.procs
  own_below = let a = own_inside _ _ _ r.roster id o (numbers_of v) (at_map numbers_of s.views id v at) own in let b = r.roster.few in omega arith

  pub few_seats : length (map stance_of s.views) ≤ 64
  few_seats = let a = r.counted in let b = r.roster.few in let c = r.sized.procs in let x = length-map s.views numbers_of in let y = length-map s.views stance_of in omega arith

  pub lone_seat : (j : ℕ) (u : Stance) → get_elem? (map stance_of s.views) j ≡ maybe.some u → u.own ≡ Some o → j ≡ id
  lone_seat j u e is = let f = from_seen stance_of s.views j u e in one_seat _ _ _ r.roster j id o (numbers_of f.0) (numbers_of v) (at_map numbers_of s.views j f.0 f.1) (at_map numbers_of s.views id v at) (ap (λ (y : Stance). y.own) f.2 ∙ is) own

  pub the_move : (x : SigStep) → Permits shows z x (Some o) v.slot v.place → Move shows z s.words (map stance_of s.views) x o id (get_or s.words (word_of o x) 0) (stance_of v)
  the_move x ok = record {
    at = at_map stance_of s.views id v at;
    own = own;
    below = own_below;
    wide = λ q below. let a = r.sized.long in omega arith;
    is = refl;
    ok = ok;
    fits = r.places.fits id (stance_of v) (at_map stance_of s.views id v at);
    alone = lone_seat;
  }

  pub low_slot : (j : ℕ) (u : Stance) (t : Slot) → get_elem? (map stance_of s.views) j ≡ maybe.some u → u.slot ≡ Some t → t.published ≤ get_or s.words header_at 0
  low_slot j u t e is = slot_low _ u.slot t is (r.generations.slots j u e)

  pub low_swap : (j : ℕ) (u : Stance) (h : ℕ) → get_elem? (map stance_of s.views) j ≡ maybe.some u → swapped_at u.place ≡ Some h → h ≤ get_or s.words header_at 0
  low_swap j u h e is = swap_low z _ h u.slot u.place (r.places.fits j u e) (r.generations.read j u e) is

  -- what a joined slot has published
  pub slot_published : (t : Slot) → v.slot ≡ Some t → SlotIsPublished (get_or s.words header_at 0) (get_or s.words (gen_at o) 0) t
  slot_published t is =
      let stance = at_map stance_of s.views id v at in
      let word : get_or s.words (gen_at o) 0 ≡ gen_of v.slot v.place = word_of_seat z.procs s.words (map stance_of s.views) o id (stance_of v) r.generations stance own own_below lone_seat in
      let stands : SlotStands (get_or s.words header_at 0) (Some t) = subst (SlotStands (get_or s.words header_at 0)) is (r.generations.slots id (stance_of v) stance) in
      record { word_is = word ∙ ap (λ (q : Option Slot). gen_of q v.place) is; since = stands.0; up_to = stands.1 }

  -- the step x of the backend o
  pub step_kept : (x : SigStep) → Permits shows z x (Some o) v.slot v.place → let n = get_or s.words (word_of o x) 0 in Rule shows z (stepped s (word_of o x) (becomes x n) id [] (next z x v n) keeps)
  step_kept x ok =
      let i : ℕ = word_of o x in let n : ℕ = get_or s.words i 0 in let w : SigView = next z x v n in let seats = map stance_of s.views in let m = the_move x ok in
      let inside = word_inside z o x in
      let seen : set seats id (turned z x n (stance_of v)) ≡ map stance_of (set s.views id w) = sym (map-set stance_of s.views id w) in
      let first : get_or (set s.words i (becomes x n)) 0 0 ≡ get_or s.words 0 0 = get_or-set_other s.words i 0 (becomes x n) 0 (λ e. omega arith) in
      let numbers = sym (unseen numbers_of s.views id v w at refl) in
      record {
        sized = record { procs = r.sized.procs; long = length-set s.words i (becomes x n) ∙ r.sized.long };
        roster = subst (λ (y : ℕ × List Numbers). Roster z.procs y.0 y.1) (λ j. (sym first j, numbers j)) r.roster;
        counted = subst (λ (y : ℕ × List Numbers). SeatsAreCounted y.0 y.1) (λ j. (sym first j, numbers j)) r.counted;
        made = subst (WordsAreMade z (set s.words i (becomes x n))) (sym (map-set doings_of s.views id w)) (made_step z s.words (map doings_of s.views) id (doings_of v) o x (at_map doings_of s.views id v at) own
            (word_below shows z o (length s.words) x (Some o) v.slot v.place (let a = own_below in let b = r.sized.long in omega arith) r.sized.long refl ok) r.made);
        places = subst (Rattle.signal_core.specs.PlacesFit.PlacesFit z) seen (places_kept shows z s.words seats x o id n (stance_of v) m r.sized.procs.0 r.places);
        bits = subst (Rattle.signal_core.specs.BitsAreEmitted.BitsAreEmitted z.procs (set s.words i (becomes x n))) seen (bits_kept shows z s.words seats x o id n (stance_of v) m r.bits);
        owed = subst (Rattle.signal_core.specs.BitIsOwed.BitIsOwed (set s.words i (becomes x n))) seen (owed_kept shows z s.words seats x o id n (stance_of v) m low_slot low_swap r.bits r.newer r.owed);
        newer = subst (Rattle.signal_core.specs.SwappedBitIsNewer.SwappedBitIsNewer (set s.words i (becomes x n))) seen (newer_kept shows z s.words seats x o id n (stance_of v) m low_swap r.newer);
        generations = subst (Rattle.signal_core.specs.GenerationsStand.GenerationsStand z.procs (set s.words i (becomes x n))) seen (generations_kept shows z s.words seats x o id n (stance_of v) m r.generations few_seats);
        shown = subst (Rattle.signal_core.specs.EmissionsShow.EmissionsShow shows) seen (shown_kept shows z s.words seats x o id n (stance_of v) m r.sized.procs.0 r.shown);
        absorbed = absorbed_kept shows z s.words s.views x o id n v at m r.bits r.absorbed;
      }

  -- the same, where the seat's number is read from its view
  pub machine_kept : (x : SigStep) → Allowed shows z x v → Rule shows z (after z s id v x)
  machine_kept x ok = subst (λ (y : ℕ). Rule shows z (stepped s (word_of y x) (becomes x (get_or s.words (word_of y x) 0)) id [] (next z x v (get_or s.words (word_of y x) 0)) keeps)) (sym (ap number_of own)) (step_kept x (subst (λ (y : Option ℕ). Permits shows z x y v.slot v.place) own ok))

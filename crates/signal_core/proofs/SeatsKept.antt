-- Drawing a number, giving it to a new seat, and joining two seats keep the rule.
use Rattle.std.proofs.Common.{◌≡◌, ◌≢◌, ◌⊎◌, ℕ, zero, suc, ◌+◌, ◌<◌, ◌≤◌, eqb, Bool, true, false, cond, List, [], ◌∷◌, ◌++◌, map, get_or, set, ◌-◌, Option, None, Some, refl, sym, ap, ◌∙◌, subst, ⊎_elim, inl, inr, arith, length-set, length-append, get_or-set_same, get_or-set_other}
use Rattle.std.proofs.lemmas.List.{map-append}
use mathlib.Core.Logic.{dite}
use native.Mathlib.Decide.{ℕ_discrete}
use mathlib.Core.Option as maybe
use lib.ListN.{get_elem?}
use lib.Seq.{map-set}
use Rattle.atomic_table.specs.Table.{keeps, stepped}
use Rattle.atomic_table.proofs.Lists.{at_map, at_set, at_snoc, set_else}
use Rattle.seat_roster.specs.Totals.{total}
use Rattle.seat_roster.proofs.Totals.{total_set, total_snoc}
use Rattle.seat_roster.specs.Roster.{Numbers, Roster, one_if, numbered, drew, gave, took, times}
use Rattle.seat_roster.proofs.Numbers.{roster_drew, roster_gave, roster_took, times_append}
use Rattle.seat_roster.proofs.Stretches.{unseen}
use Rattle.std.specs.Int.{bit_at}
use Rattle.signal_core.specs.declared.view.Emission.{Emission}
use Rattle.signal_core.specs.declared.view.Slot.{Slot}
use Rattle.signal_core.specs.declared.view.About.{About}
use Rattle.signal_core.specs.declared.view.SigView.{SigView}
use Rattle.signal_core.specs.Words.{header_at, gen_at, mask_at, gone}
use Rattle.signal_core.specs.Machine.{SigState, Place}
use Rattle.signal_core.specs.Seating.{Stance, Doings, numbers_of, doings_of, stance_of, with_drawn, stays, comes, took_in, spent_view, idle}
use Rattle.signal_core.specs.Places.{in_hand, swapped_at, counts, emits, emitted, any}
use Rattle.signal_core.specs.PlacesFit.{PlaceFits, PlacesFit}
use Rattle.signal_core.specs.BitsAreEmitted.{BitsAreEmitted}
use Rattle.signal_core.specs.BitIsOwed.{BitIsOwed}
use Rattle.signal_core.specs.SwappedBitIsNewer.{SwappedBitIsNewer}
use Rattle.signal_core.specs.GenerationsStand.{shortfall, short_of, SlotStands, PlaceStands, emitting, GenerationsStand}
use Rattle.signal_core.specs.EmissionsShow.{PlaceShows, EmissionsShow}
use Rattle.signal_core.specs.WordsAreMade.{WordsAreMade}
use Rattle.signal_core.proofs.WordsAreMade.{made_same, made_snoc, made_joined}
use Rattle.signal_core.specs.Rule.{SeatsAreCounted, Rule}

-- the words behind the next number are the same
abbrev pub Agree : List ℕ → List ℕ → Type 0
Agree words new = (i : ℕ) → 0 < i → get_or new i 0 ≡ get_or words i 0

-- a stance that was there, but for what it emitted; or one in no call that has no slot
abbrev pub WasThere : List Stance → Stance → Type 0
WasThere seats u = ((u.place ≡ None) × (u.slot ≡ None)) ⊎ ((i : ℕ) × (w : Stance) × (get_elem? seats i ≡ maybe.some w) × (w.own ≡ u.own) × (w.place ≡ u.place) × (w.slot ≡ u.slot))

-- seats come and go, and what they emitted is kept by one of them
pub record SameSeats (seats new : List Stance) : Type 0 where
  pub emits : (s k : ℕ) (f : ℕ → Bool) → emitted s k f new ≡ emitted s k f seats
  -- a sum that counts nothing for a seat in no call that has no slot
  pub sums : (f : Option ℕ → Place → Option Slot → ℕ) → ((own : Option ℕ) → f own None None ≡ 0) → total (λ (v : Stance). f v.own v.place v.slot) new ≡ total (λ (v : Stance). f v.own v.place v.slot) seats
  pub from : (j : ℕ) (u : Stance) → get_elem? new j ≡ maybe.some u → WasThere seats u
  pub unnumbered : (j : ℕ) (u : Stance) → get_elem? new j ≡ maybe.some u → u.own ≡ None → (u ≡ idle None []) ⊎ (get_elem? seats j ≡ maybe.some u)
  pub lists : (j i : ℕ) (u : Stance) (e : Emission) → get_elem? new j ≡ maybe.some u → get_elem? u.emissions i ≡ maybe.some e → (p : ℕ) × (w : Stance) × (q : ℕ) × (get_elem? seats p ≡ maybe.some w) × (get_elem? w.emissions q ≡ maybe.some e)

pub same_seats : (seats : List Stance) → SameSeats seats seats
same_seats seats = record { emits = λ s k f. refl; sums = λ f none. refl; from = λ j u e. inr (j, u, e, refl, refl, refl); unnumbered = λ j u e none. inr e; lists = λ j i u e at there. (j, u, i, at, there) }

pub seats_are : (seats new : List Stance) → new ≡ seats → SameSeats seats new
seats_are seats new is = subst (SameSeats seats) (sym is) (same_seats seats)

-- an idle stance adds nothing but what it emitted
pub idle_short : (s : ℕ) (own : Option ℕ) (es : List Emission) → short_of s (idle own es) ≡ 0
idle_short s None es = refl
idle_short s (Some p) es = by_case (eqb p s)
  where
    by_case : (b : Bool) → cond b (gone - gone) 0 ≡ 0
    by_case true = omega arith
    by_case false = refl

module _ (shows : ℕ → ℕ → Type 0) (z : About) (words new : List ℕ) (seats later : List Stance) (agree : Agree words new) (same : SameSeats seats later) where
  pub places_same : PlacesFit z seats → PlacesFit z later
  places_same h = record {
    fits = λ j u e. ⊎_elim
        (λ (y : (u.place ≡ None) × (u.slot ≡ None)). subst (PlaceFits z u.slot) (sym y.0) tt)
        (λ (y : (i : ℕ) × (w : Stance) × (get_elem? seats i ≡ maybe.some w) × (w.own ≡ u.own) × (w.place ≡ u.place) × (w.slot ≡ u.slot)). subst (λ (c : Option Slot × Place). PlaceFits z c.0 c.1) (λ i. (y.5 i, y.4 i)) (h.fits y.0 y.1 y.2))
        (same.from j u e);
    unnumbered = λ j u e none. ⊎_elim
        (λ (is : u ≡ idle None []). (ap (λ (c : Stance). c.place) is, ap (λ (c : Stance). c.slot) is, ap (λ (c : Stance). c.emissions) is))
        (λ old. h.unnumbered j u old none)
        (same.unnumbered j u e none);
  }

  pub bits_same : BitsAreEmitted z.procs words seats → BitsAreEmitted z.procs new later
  bits_same h = record {
    masked = λ s k below bit. let w : bit_at (get_or new (mask_at s) 0) k ≡ bit_at (get_or words (mask_at s) 0) k = ap (λ n. bit_at n k) (agree (mask_at s) (omega arith)) in let a = h.masked s k below (omega arith) in let b = same.emits s k any in omega arith;
    held = λ j s k u e own hand. ⊎_elim
        (λ (y : (u.place ≡ None) × (u.slot ≡ None)). absurd (let a : in_hand k u.place ≡ 0 = ap (in_hand k) y.0 in omega arith))
        (λ (y : (i : ℕ) × (w : Stance) × (get_elem? seats i ≡ maybe.some w) × (w.own ≡ u.own) × (w.place ≡ u.place) × (w.slot ≡ u.slot)). let w : in_hand k y.1.place ≡ in_hand k u.place = ap (in_hand k) y.4 in let a = h.held y.0 s k y.1 y.2 (y.3 ∙ own) (omega arith) in let b = same.emits s k any in omega arith)
        (same.from j u e);
  }

  pub owed_same : BitIsOwed words seats → BitIsOwed new later
  owed_same h j s k u t e own slot bit = ⊎_elim
      (λ (y : (u.place ≡ None) × (u.slot ≡ None)). absurd (let a : None ≡ Some t = sym y.1 ∙ slot in cc))
      (λ (y : (i : ℕ) × (w : Stance) × (get_elem? seats i ≡ maybe.some w) × (w.own ≡ u.own) × (w.place ≡ u.place) × (w.slot ≡ u.slot)). let w : in_hand k y.1.place ≡ in_hand k u.place = ap (in_hand k) y.4 in
      let c : bit_at (get_or new (mask_at s) 0) k ≡ bit_at (get_or words (mask_at s) 0) k = ap (λ n. bit_at n k) (agree (mask_at s) (omega arith)) in let a = h y.0 s k y.1 t y.2 (y.3 ∙ own) (y.5 ∙ slot) (omega arith) in let b = same.emits s k (Rattle.signal_core.specs.Places.unabsorbed t) in omega arith)
      (same.from j u e)

  pub newer_same : SwappedBitIsNewer words seats → SwappedBitIsNewer new later
  newer_same h j s k g u e own swap bit kept = ⊎_elim
      (λ (y : (u.place ≡ None) × (u.slot ≡ None)). absurd (let a : None ≡ Some g = ap swapped_at (sym y.0) ∙ swap in cc))
      (λ (y : (i : ℕ) × (w : Stance) × (get_elem? seats i ≡ maybe.some w) × (w.own ≡ u.own) × (w.place ≡ u.place) × (w.slot ≡ u.slot)).
      let c : bit_at (get_or new (mask_at s) 0) k ≡ bit_at (get_or words (mask_at s) 0) k = ap (λ n. bit_at n k) (agree (mask_at s) (omega arith)) in let a = h y.0 s k g y.1 y.2 (y.3 ∙ own) (ap swapped_at y.4 ∙ swap) (omega arith) (ap (Rattle.signal_core.specs.Places.put_back k) y.4 ∙ kept) in let b = same.emits s k (Rattle.signal_core.specs.Places.above g) in omega arith)
      (same.from j u e)

  pub generations_same : GenerationsStand z.procs words seats → GenerationsStand z.procs new later
  generations_same h = let top : get_or new header_at 0 ≡ get_or words header_at 0 = agree header_at (omega arith) in record {
    words_are = λ s below. let a = h.words_are s below in let b = agree (gen_at s) (omega arith) in let c = same.sums (λ own p t. shortfall s own (Rattle.signal_core.specs.Places.gen_of t p)) (λ own. idle_short s own []) in omega arith;
    slots = λ j u e. subst (λ (n : ℕ). SlotStands n u.slot) (sym top) (⊎_elim
        (λ (y : (u.place ≡ None) × (u.slot ≡ None)). subst (SlotStands (get_or words header_at 0)) (sym y.1) tt)
        (λ (y : (i : ℕ) × (w : Stance) × (get_elem? seats i ≡ maybe.some w) × (w.own ≡ u.own) × (w.place ≡ u.place) × (w.slot ≡ u.slot)). subst (SlotStands (get_or words header_at 0)) y.5 (h.slots y.0 y.1 y.2))
        (same.from j u e));
    read = λ j u e. subst (λ (n : ℕ). PlaceStands n u.slot u.place) (sym top) (⊎_elim
        (λ (y : (u.place ≡ None) × (u.slot ≡ None)). subst (PlaceStands (get_or words header_at 0) u.slot) (sym y.0) tt)
        (λ (y : (i : ℕ) × (w : Stance) × (get_elem? seats i ≡ maybe.some w) × (w.own ≡ u.own) × (w.place ≡ u.place) × (w.slot ≡ u.slot)). subst (λ (c : Option Slot × Place). PlaceStands (get_or words header_at 0) c.0 c.1) (λ i. (y.5 i, y.4 i)) (h.read y.0 y.1 y.2))
        (same.from j u e));
    bounded = let a = h.bounded in let b = same.sums (λ own p t. Rattle.signal_core.specs.GenerationsStand.is_emitting p) (λ own. refl) in omega arith;
  }

  pub shown_same : EmissionsShow shows seats → EmissionsShow shows later
  shown_same h = record {
    numbered = λ j i u e at there. let a = same.lists j i u e at there in h.numbered a.0 a.2 a.1 e a.3 a.4;
    under_way = λ j u e. ⊎_elim
        (λ (y : (u.place ≡ None) × (u.slot ≡ None)). subst (PlaceShows shows) (sym y.0) tt)
        (λ (y : (i : ℕ) × (w : Stance) × (get_elem? seats i ≡ maybe.some w) × (w.own ≡ u.own) × (w.place ≡ u.place) × (w.slot ≡ u.slot)). subst (PlaceShows shows) y.4 (h.under_way y.0 y.1 y.2))
        (same.from j u e);
  }

no_member : (i : ℕ) (e : Emission) → get_elem? [] i ≡ maybe.some e → ⊥
no_member i e at = absurd (maybe.some-ne-none e (sym at))

-- a new seat
pub seats_more : (seats : List Stance) (own : Option ℕ) → SameSeats seats (seats ++ idle own [] ∷ [])
seats_more seats own = record {
  unnumbered = λ j u e none. ⊎_elim inr (λ (is : idle own [] ≡ u). inl (sym is ∙ ap (λ (o : Option ℕ). idle o []) (ap (λ (c : Stance). c.own) is ∙ none))) (at_snoc seats (idle own []) u j e);
  emits = λ s k f. let a = total_snoc (emits s k f) seats (idle own []) in omega arith;
  sums = λ f none. let a = total_snoc (λ (v : Stance). f v.own v.place v.slot) seats (idle own []) in let b = none own in omega arith;
  from = λ j u e. ⊎_elim (λ old. inr (j, u, old, refl, refl, refl)) (λ (is : idle own [] ≡ u). inl (sym (ap (λ (c : Stance). c.place) is), sym (ap (λ (c : Stance). c.slot) is))) (at_snoc seats (idle own []) u j e);
  lists = λ j i u e at there. ⊎_elim (λ old. (j, u, i, old, there)) (λ (is : idle own [] ≡ u). absurd (no_member i e (ap (λ (c : Stance). get_elem? c.emissions i) is ∙ there))) (at_snoc seats (idle own []) u j at);
}

total_append : {A : Type 0} (f : A → ℕ) (xs ys : List A) → total f (xs ++ ys) ≡ total f xs + total f ys
total_append f [] ys = omega arith
total_append f (x ∷ xs) ys = let r = total_append f xs ys in omega arith

at_append : {A : Type 0} (xs ys : List A) (i : ℕ) (e : A) → get_elem? (xs ++ ys) i ≡ maybe.some e → (get_elem? xs i ≡ maybe.some e) ⊎ ((j : ℕ) × (get_elem? ys j ≡ maybe.some e))
at_append [] ys i e at = inr (i, at)
at_append (x ∷ xs) ys zero e at = inl at
at_append (x ∷ xs) ys (suc i) e at = at_append xs ys i e at

-- two seats are joined
pub seats_joined : (seats : List Stance) (id other : ℕ) (v w : Stance) → get_elem? seats id ≡ maybe.some v → get_elem? seats other ≡ maybe.some w → (other ≡ id → ⊥) → (v.own ≡ None → ⊥) → w.place ≡ None → w.slot ≡ None
    → SameSeats seats (set (set seats id (record v { emissions = v.emissions ++ w.emissions })) other (idle None []))
seats_joined seats id other v w at there apart mine free left =
    let x : Stance = record v { emissions = v.emissions ++ w.emissions } in let vs = set seats id x in let y : Stance = idle None [] in
    let there' : get_elem? vs other ≡ maybe.some w = set_else seats id other x apart ∙ there in record {
      unnumbered = λ j u e none. ⊎_elim
          (λ (c : (j ≡ other) × (y ≡ u)). inl (sym c.1))
          (λ (c : (j ≢ other) × (get_elem? vs j ≡ maybe.some u)). ⊎_elim
          (λ (d : (j ≡ id) × (x ≡ u)). absurd (mine (ap (λ (b : Stance). b.own) d.1 ∙ none)))
          (λ (d : (j ≢ id) × (get_elem? seats j ≡ maybe.some u)). inr d.1)
          (at_set seats id j x u c.1))
          (at_set vs other j y u e);
      emits = λ s k f. let a = total_set (emits s k f) seats id v x at in let b = total_set (emits s k f) vs other w y there' in let c = total_append (counts k f) v.emissions w.emissions in
          let d : Rattle.signal_core.specs.Places.under_way s k w.place ≡ 0 = ap (Rattle.signal_core.specs.Places.under_way s k) free in omega arith;
      sums = λ f none. let g : Stance → ℕ = λ c. f c.own c.place c.slot in let a = total_set (λ (c : Stance). f c.own c.place c.slot) seats id v x at in let b = total_set (λ (c : Stance). f c.own c.place c.slot) vs other w y there' in
          let c : f w.own w.place w.slot ≡ f w.own None None = (λ i. f w.own (free i) (left i)) in let d = none w.own in let e = none None in omega arith;
      from = λ j u e. ⊎_elim
          (λ (c : (j ≡ other) × (y ≡ u)). inl (sym (ap (λ (d : Stance). d.place) c.1), sym (ap (λ (d : Stance). d.slot) c.1)))
          (λ (c : (j ≢ other) × (get_elem? vs j ≡ maybe.some u)). ⊎_elim
          (λ (d : (j ≡ id) × (x ≡ u)). inr (id, v, at, ap (λ (b : Stance). b.own) d.1, ap (λ (b : Stance). b.place) d.1, ap (λ (b : Stance). b.slot) d.1))
          (λ (d : (j ≢ id) × (get_elem? seats j ≡ maybe.some u)). inr (j, u, d.1, refl, refl, refl))
          (at_set seats id j x u c.1))
          (at_set vs other j y u e);
      lists = λ j i u e is in_it. ⊎_elim
          (λ (c : (j ≡ other) × (y ≡ u)). absurd (no_member i e (ap (λ (d : Stance). get_elem? d.emissions i) c.1 ∙ in_it)))
          (λ (c : (j ≢ other) × (get_elem? vs j ≡ maybe.some u)). ⊎_elim
          (λ (d : (j ≡ id) × (x ≡ u)). ⊎_elim
          (λ (mine : get_elem? v.emissions i ≡ maybe.some e). (id, v, i, at, mine))
          (λ (theirs : (q : ℕ) × (get_elem? w.emissions q ≡ maybe.some e)). (other, w, theirs.0, there, theirs.1))
          (at_append v.emissions w.emissions i e (ap (λ (b : Stance). get_elem? b.emissions i) d.1 ∙ in_it)))
          (λ (d : (j ≢ id) × (get_elem? seats j ≡ maybe.some u)). (j, u, i, d.1, in_it))
          (at_set seats id j x u c.1))
          (at_set vs other j y u is);
    }

module _ (shows : ℕ → ℕ → Type 0) (z : About) (s : SigState) (r : Rule shows z s) where
  -- the seat with the number 0 draws the next
  pub draw_kept : (id : ℕ) (v : SigView) → get_elem? s.views id ≡ maybe.some v → v.own ≡ Some 0 → v.pending ≡ None → v.drawn + 1 < z.procs → (x : ℕ) → x ≡ get_or s.words 0 0 + 1
      → Rule shows z (stepped s 0 x id [] (with_drawn v) keeps)
  draw_kept id v at own free room x is =
      let w : SigView = with_drawn v in let next : ℕ = get_or s.words 0 0 in let ns = map numbers_of s.views in let at' = at_map numbers_of s.views id v at in
      let up = (r.roster.drawer id (numbers_of v) at' own).up_to in let long = r.sized.long in
      let agree : Agree s.words (set s.words 0 x) = λ i some. get_or-set_other s.words 0 i x 0 (λ e. omega arith) in
      let seen : map stance_of (set s.views id w) ≡ map stance_of s.views = unseen stance_of s.views id v w at refl in
      let same = seats_are (map stance_of s.views) (map stance_of (set s.views id w)) seen in
      let first : get_or (set s.words 0 x) 0 0 ≡ next + 1 = get_or-set_same s.words 0 x 0 (omega arith) ∙ is in
      let numbers : set ns id (drew (numbers_of v)) ≡ map numbers_of (set s.views id w) = sym (map-set numbers_of s.views id w) in
      record {
        sized = record { procs = r.sized.procs; long = length-set s.words 0 x ∙ long };
        roster = subst (λ (y : ℕ × List Numbers). Roster z.procs y.0 y.1) (λ j. (sym first j, numbers j)) (roster_drew z.procs next ns r.roster id (numbers_of v) at' own free (omega arith));
        counted = subst (λ (y : ℕ × List Numbers). SeatsAreCounted y.0 y.1) (λ j. (sym first j, numbers j))
            (let sum = total_set (λ (u : Numbers). one_if u.pending) ns id (numbers_of v) (drew (numbers_of v)) at' in let none : one_if v.pending ≡ 0 = ap one_if free in let c = r.counted in let d = length-set ns id (drew (numbers_of v)) in omega arith);
        made = subst (WordsAreMade z (set s.words 0 x)) (sym (unseen doings_of s.views id v w at refl)) (made_same z s.words (set s.words 0 x) (map doings_of s.views) agree r.made);
        places = places_same shows z s.words (set s.words 0 x) (map stance_of s.views) (map stance_of (set s.views id w)) agree same r.places;
        bits = bits_same shows z s.words (set s.words 0 x) (map stance_of s.views) (map stance_of (set s.views id w)) agree same r.bits;
        owed = owed_same shows z s.words (set s.words 0 x) (map stance_of s.views) (map stance_of (set s.views id w)) agree same r.owed;
        newer = newer_same shows z s.words (set s.words 0 x) (map stance_of s.views) (map stance_of (set s.views id w)) agree same r.newer;
        generations = generations_same shows z s.words (set s.words 0 x) (map stance_of s.views) (map stance_of (set s.views id w)) agree same r.generations;
        shown = shown_same shows z s.words (set s.words 0 x) (map stance_of s.views) (map stance_of (set s.views id w)) agree same r.shown;
        absorbed = λ j k u e some. subst (λ (l : List Stance). 1 ≤ emitted 0 k any l) (sym seen) (⊎_elim
            (λ (y : (j ≡ id) × (w ≡ u)). r.absorbed id k v at (subst (λ (c : SigView). 1 ≤ times k c.absorbed) (sym y.1) some))
            (λ (y : (j ≢ id) × (get_elem? s.views j ≡ maybe.some u)). r.absorbed j k u y.1 some)
            (at_set s.views id j w u e));
      }

  -- the number drawn goes to a new seat
  pub seat_kept : (id : ℕ) (v : SigView) → get_elem? s.views id ≡ maybe.some v → (n : ℕ) → v.pending ≡ Some n
      → Rule shows z record { words = s.words; homes = s.homes; views = set s.views id (stays v) ++ comes v ∷ [] }
  seat_kept id v at n drawn =
      let vs = set s.views id (stays v) in let w : SigView = comes v in let ns = map numbers_of s.views in let at' = at_map numbers_of s.views id v at in
      let agree : Agree s.words s.words = λ i some. refl in
      let seen : map stance_of (vs ++ w ∷ []) ≡ map stance_of s.views ++ idle v.pending [] ∷ [] = map-append stance_of vs (w ∷ []) ∙ ap (λ (l : List Stance). l ++ idle v.pending [] ∷ []) (unseen stance_of s.views id v (stays v) at refl) in
      let same : SameSeats (map stance_of s.views) (map stance_of (vs ++ w ∷ [])) = subst (SameSeats (map stance_of s.views)) (sym seen) (seats_more (map stance_of s.views) v.pending) in
      let numbers : set ns id (gave (numbers_of v)) ++ numbered v.pending ∷ [] ≡ map numbers_of (vs ++ w ∷ []) = sym (map-append numbers_of vs (w ∷ []) ∙ ap (λ (l : List Numbers). l ++ numbered v.pending ∷ []) (map-set numbers_of s.views id (stays v))) in
      let one : one_if v.pending ≡ 1 = ap one_if drawn in let all = r.counted in
      record {
        sized = r.sized;
        roster = subst (Roster z.procs (get_or s.words 0 0)) numbers (roster_gave z.procs (get_or s.words 0 0) ns r.roster id (numbers_of v) at');
        counted = subst (SeatsAreCounted (get_or s.words 0 0)) numbers
            (let a = total_set (λ (u : Numbers). one_if u.pending) ns id (numbers_of v) (gave (numbers_of v)) at' in let b = total_snoc (λ (u : Numbers). one_if u.pending) (set ns id (gave (numbers_of v))) (numbered v.pending) in
            let d = length-set ns id (gave (numbers_of v)) in let e = length-append (set ns id (gave (numbers_of v))) (numbered v.pending ∷ []) in omega arith);
        made = subst (WordsAreMade z s.words) (sym (map-append doings_of vs (w ∷ []) ∙ ap (λ (l : List Doings). l ++ record { own = v.pending; steps = []; inherited = [] } ∷ []) (unseen doings_of s.views id v (stays v) at refl))) (made_snoc z s.words (map doings_of s.views) v.pending r.made);
        places = places_same shows z s.words s.words (map stance_of s.views) (map stance_of (vs ++ w ∷ [])) agree same r.places;
        bits = bits_same shows z s.words s.words (map stance_of s.views) (map stance_of (vs ++ w ∷ [])) agree same r.bits;
        owed = owed_same shows z s.words s.words (map stance_of s.views) (map stance_of (vs ++ w ∷ [])) agree same r.owed;
        newer = newer_same shows z s.words s.words (map stance_of s.views) (map stance_of (vs ++ w ∷ [])) agree same r.newer;
        generations = generations_same shows z s.words s.words (map stance_of s.views) (map stance_of (vs ++ w ∷ [])) agree same r.generations;
        shown = shown_same shows z s.words s.words (map stance_of s.views) (map stance_of (vs ++ w ∷ [])) agree same r.shown;
        absorbed = λ j k u e some. let b = same.emits 0 k any in ⊎_elim
            (λ (old : get_elem? vs j ≡ maybe.some u). ⊎_elim
            (λ (y : (j ≡ id) × (stays v ≡ u)). let a = r.absorbed id k v at (subst (λ (c : SigView). 1 ≤ times k c.absorbed) (sym y.1) some) in omega arith)
            (λ (y : (j ≢ id) × (get_elem? s.views j ≡ maybe.some u)). let a = r.absorbed j k u y.1 some in omega arith)
            (at_set s.views id j (stays v) u old))
            (λ (is : w ≡ u). absurd (let a : 0 ≡ times k u.absorbed = ap (λ (c : SigView). times k c.absorbed) is in omega arith))
            (at_snoc vs w u j e);
      }

  -- a seat takes in another, which is in no call and whose slot isn't joined
  pub join_kept : (id : ℕ) (v : SigView) → get_elem? s.views id ≡ maybe.some v → (v.own ≡ None → ⊥) → (other : ℕ) (w : SigView) → (other ≡ id → ⊥) → get_elem? s.views other ≡ maybe.some w → w.place ≡ None → w.slot ≡ None → w.pending ≡ None
      → Rule shows z record { words = s.words; homes = s.homes; views = set (set s.views id (took_in v w)) other spent_view }
  join_kept id v at mine other w apart there free left none =
      let x : SigView = took_in v w in let y : SigView = spent_view in let vs = set s.views id x in let ns = map numbers_of s.views in
      let at' = at_map numbers_of s.views id v at in
      let agree : Agree s.words s.words = λ i some. refl in
      let seen : set (set (map stance_of s.views) id (stance_of x)) other (stance_of y) ≡ map stance_of (set vs other y) = sym (map-set stance_of vs other y ∙ ap (λ (l : List Stance). set l other (stance_of y)) (map-set stance_of s.views id x)) in
      let same : SameSeats (map stance_of s.views) (map stance_of (set vs other y)) = subst (SameSeats (map stance_of s.views)) seen (seats_joined (map stance_of s.views) id other (stance_of v) (stance_of w) (at_map stance_of s.views id v at) (at_map stance_of s.views other w there) apart mine free left) in
      let numbers : set (set ns id (took (numbers_of v) (numbers_of w))) other (numbered None) ≡ map numbers_of (set vs other y) = sym (map-set numbers_of vs other y ∙ ap (λ (l : List Numbers). set l other (numbered None)) (map-set numbers_of s.views id x)) in
      let there_n : get_elem? (set ns id (took (numbers_of v) (numbers_of w))) other ≡ maybe.some (numbers_of w) = set_else ns id other (took (numbers_of v) (numbers_of w)) apart ∙ at_map numbers_of s.views other w there in
      record {
        sized = r.sized;
        roster = subst (Roster z.procs (get_or s.words 0 0)) numbers (roster_took z.procs (get_or s.words 0 0) ns r.roster id other (numbers_of v) (numbers_of w) at' there_n none);
        counted = subst (SeatsAreCounted (get_or s.words 0 0)) numbers
            (let f : Numbers → ℕ = λ u. one_if u.pending in let a = total_set f ns id (numbers_of v) (took (numbers_of v) (numbers_of w)) at' in let b = total_set f (set ns id (took (numbers_of v) (numbers_of w))) other (numbers_of w) (numbered None) there_n in
            let d = length-set ns id (took (numbers_of v) (numbers_of w)) in let e = length-set (set ns id (took (numbers_of v) (numbers_of w))) other (numbered None) in let gone : one_if w.pending ≡ 0 = ap one_if none in let all = r.counted in omega arith);
        made = subst (WordsAreMade z s.words) (sym (map-set doings_of vs other y ∙ ap (λ (l : List Doings). set l other record { own = None; steps = []; inherited = [] }) (map-set doings_of s.views id x)))
            (made_joined z s.words (map doings_of s.views) id other (doings_of v) (doings_of w) apart (at_map doings_of s.views id v at) (at_map doings_of s.views other w there) r.made);
        places = places_same shows z s.words s.words (map stance_of s.views) (map stance_of (set vs other y)) agree same r.places;
        bits = bits_same shows z s.words s.words (map stance_of s.views) (map stance_of (set vs other y)) agree same r.bits;
        owed = owed_same shows z s.words s.words (map stance_of s.views) (map stance_of (set vs other y)) agree same r.owed;
        newer = newer_same shows z s.words s.words (map stance_of s.views) (map stance_of (set vs other y)) agree same r.newer;
        generations = generations_same shows z s.words s.words (map stance_of s.views) (map stance_of (set vs other y)) agree same r.generations;
        shown = shown_same shows z s.words s.words (map stance_of s.views) (map stance_of (set vs other y)) agree same r.shown;
        absorbed = λ j k u e some. let b = same.emits 0 k any in ⊎_elim
            (λ (c : (j ≡ other) × (y ≡ u)). absurd (let a : 0 ≡ times k u.absorbed = ap (λ (d : SigView). times k d.absorbed) c.1 in omega arith))
            (λ (c : (j ≢ other) × (get_elem? vs j ≡ maybe.some u)). ⊎_elim
            (λ (d : (j ≡ id) × (x ≡ u)). let a : times k (v.absorbed ++ w.absorbed) ≡ times k u.absorbed = ap (λ (g : SigView). times k g.absorbed) d.1 in let g = times_append k v.absorbed w.absorbed in
            dite (ℕ_discrete (times k v.absorbed) 0) (λ zero_is. let h = r.absorbed other k w there (omega arith) in omega arith) (λ more. let h = r.absorbed id k v at (omega arith) in omega arith))
            (λ (d : (j ≢ id) × (get_elem? s.views j ≡ maybe.some u)). let a = r.absorbed j k u d.1 some in omega arith)
            (at_set s.views id j x u c.1))
            (at_set vs other j y u e);
      }

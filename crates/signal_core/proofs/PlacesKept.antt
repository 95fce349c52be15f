-- Each step leaves its seat where a seat may stand, with emissions that show what their kind stands for.
use Rattle.std.proofs.Common.{◌≡◌, ◌≢◌, ℕ, ◌+◌, ◌^◌, ◌<◌, eqb, nat_lt, Bool, true, false, cond, List, set, Option, None, Some, refl, sym, ap, ◌∙◌, subst, ⊎_elim, arith}
use Rattle.std.proofs.lemmas.Bool.{eqb-false}
use mathlib.Core.Option as maybe
use lib.ListN.{get_elem?}
use Rattle.atomic_table.proofs.Lists.{at_set, at_snoc}
use Rattle.signal_core.specs.declared.step.Call.{Call}
use Rattle.signal_core.specs.declared.step.Call.TheVariants as call
use Rattle.signal_core.specs.declared.step.SigStep.{SigStep}
use Rattle.signal_core.specs.declared.step.SigStep.TheVariants.{Hload, Hadd, Mor, Mswap, Gstore, Gload, Pstore, Pload, Pend, Pswap}
use Rattle.signal_core.specs.declared.view.Frame.TheVariants.{Reading, Opening, Posting, Numbering, Telling, Prodding, Comparing, Heading, Swapping, Taking, Keeping, Reminding}
use Rattle.signal_core.specs.declared.view.Emission.{Emission}
use Rattle.signal_core.specs.declared.view.Slot.{Slot}
use Rattle.signal_core.specs.declared.view.About.{About}
use Rattle.signal_core.specs.Words.{worn}
use Rattle.signal_core.specs.Machine.{Place, begun, headed, numbered, posted, compared, told, looked, prodded, place_after, slot_after, gains, emission, emissions_after, MayRead, MayNumber, MayPost, MayTell, MayProd, BeginsLoad, Permits}
use Rattle.signal_core.specs.Seating.{Stance}
use Rattle.signal_core.specs.PlacesFit.{PlaceFits, PlacesFit}
use Rattle.signal_core.specs.EmissionsShow.{PlaceShows, EmissionsShow}
use Rattle.signal_core.proofs.Effects.{turned}
use Rattle.signal_core.proofs.Moves.{Move}
use Rattle.signal_core.proofs.EitherWay.{either_way}

begun_fits : (z : About) (t : Option Slot) (c : Call) (n : ℕ) → 0 < z.procs → PlaceFits z t (begun c n)
begun_fits z t (call.Emit j x) n some = either_way (λ (u : Place). PlaceFits z t u) (nat_lt n worn) (Some (Posting j x 0)) None some tt
begun_fits z t call.Join n some = tt
begun_fits z t call.Leave n some = tt
begun_fits z t call.Absorb n some = tt
begun_fits z t (call.Published q) n some = tt

headed_fits : (z : About) (t : Option Slot) (n : ℕ) (p : Place) → MayRead p → PlaceFits z t p → PlaceFits z t (headed n p)
headed_fits z t n (Some Reading) ok fits = fits
headed_fits z t n (Some (Heading g)) ok fits = either_way (λ (u : Place). PlaceFits z t u) (eqb n g) None (Some (Swapping n)) tt fits
headed_fits z t n p ok fits = absurd ok

numbered_fits : (z : About) (t : Option Slot) (p : Place) → 0 < z.procs → MayNumber p → PlaceFits z t (numbered p)
numbered_fits z t (Some (Numbering j x)) some ok = some
numbered_fits z t p some ok = absurd ok

next_below : (q procs : ℕ) → q < procs → eqb (q + 1) procs ≡ false → q + 1 < procs
next_below q procs below e = grind (arith, Rattle.std.proofs.lemmas.Bool.Decides.nat_tests, below, e)

posted_fits : (z : About) (own : Option ℕ) (q j : ℕ) (failed : Option ℕ) (t : Option Slot) (p : Place) → MayPost z own q j failed p → PlaceFits z t p → PlaceFits z t (posted z j failed p)
posted_fits z own q j None t (Some (Posting i x r)) ok fits = by_case (eqb (r + 1) z.procs) refl
  where
    by_case : (b : Bool) → eqb (r + 1) z.procs ≡ b → PlaceFits z t (cond b (Some (Numbering i x)) (Some (Posting i x (r + 1))))
    by_case true e = tt
    by_case false e = next_below r z.procs fits e
posted_fits z own q j None t (Some (Keeping h found failed done)) ok fits = fits
posted_fits z own q j (Some failed) t (Some (Taking h found)) ok fits = (fits, ok.1)
posted_fits z own q j None t p ok fits = absurd ok
posted_fits z own q j (Some failed) t p ok fits = absurd ok

told_fits : (z : About) (q : ℕ) (t : Option Slot) → q < z.procs → PlaceFits z t (told z q)
told_fits z q t below = by_case (eqb (q + 1) z.procs) refl
  where
    by_case : (b : Bool) → eqb (q + 1) z.procs ≡ b → PlaceFits z t (cond b None (Some (Telling (q + 1))))
    by_case true e = tt
    by_case false e = next_below q z.procs below e

looked_fits : (z : About) (q n : ℕ) (t : Option Slot) (p : Place) → MayTell q p → PlaceFits z t p → PlaceFits z t (looked z n p)
looked_fits z q n t (Some (Telling r)) ok fits = either_way (λ (u : Place). PlaceFits z t u) (eqb n 0) (told z r) (Some (Prodding r)) (told_fits z r t fits) fits
looked_fits z q n t p ok fits = absurd ok

prodded_fits : (z : About) (own : Option ℕ) (q : ℕ) (t : Option Slot) (p : Place) → MayProd own q p → PlaceFits z t p → PlaceFits z t (prodded z p)
prodded_fits z own q t (Some (Prodding r)) ok fits = told_fits z r t fits
prodded_fits z own q t (Some (Reminding h found failed j)) ok fits = either_way (λ (u : Place). PlaceFits z t u) (nat_lt failed (2 ^ (j + 1))) None (Some (Keeping h found failed (j + 1))) tt fits
prodded_fits z own q t p ok fits = absurd ok

pub place_fits : (shows : ℕ → ℕ → Type 0) (z : About) (x : SigStep) (n : ℕ) (own : Option ℕ) (t : Option Slot) (p : Place) → 0 < z.procs → Permits shows z x own t p → PlaceFits z t p → PlaceFits z (slot_after x p t) (place_after z x n p)
place_fits shows z (Hload (Some c)) n own t p some ok fits = begun_fits z t c n some
place_fits shows z (Hload None) n own t p some ok fits = headed_fits z t n p ok fits
place_fits shows z Hadd n own t p some ok fits = numbered_fits z t p some ok
place_fits shows z (Mor q j failed) n own t p some ok fits = posted_fits z own q j failed t p ok.2 fits
place_fits shows z (Mswap (Some c)) n own t p some ok fits = ok.2
place_fits shows z (Mswap None) n own t (Some (Swapping h)) some ok fits = fits
place_fits shows z (Mswap None) n own t p some ok fits = absurd ok
place_fits shows z (Gstore g (Some c)) n own t p some ok fits = refl
place_fits shows z (Gstore g None) n own t (Some (Opening h)) some ok fits = fits
place_fits shows z (Gstore g None) n own t (Some (Taking h found)) some ok fits = tt
place_fits shows z (Gstore g None) n own t p some ok fits = absurd ok
place_fits shows z (Gload q (Some c)) n own t p some ok fits = fits
place_fits shows z (Gload q None) n own t (Some Comparing) some ok fits = fits
place_fits shows z (Gload q None) n own t p some ok fits = absurd (let e : p ≡ Some Comparing = ok.1 in cc)
place_fits shows z (Pstore y) n own t p some ok fits = tt
place_fits shows z (Pload q) n own t p some ok fits = looked_fits z q n t p ok.1 fits
place_fits shows z (Pend q) n own t p some ok fits = prodded_fits z own q t p ok.1 fits
place_fits shows z (Pswap c) n own t p some ok fits = either_way (λ (u : Place). PlaceFits z t u) (eqb n 0) None (Some Comparing) tt (ok.2)

-- WHAT IS SHOWN
begun_shows : (shows : ℕ → ℕ → Type 0) (c : Call) (n : ℕ) → BeginsLoad shows c → PlaceShows shows (begun c n)
begun_shows shows (call.Emit j x) n ok = either_way (λ (u : Place). PlaceShows shows u) (nat_lt n worn) (Some (Posting j x 0)) None ok tt
begun_shows shows call.Join n ok = absurd ok
begun_shows shows call.Leave n ok = absurd ok
begun_shows shows call.Absorb n ok = absurd ok
begun_shows shows (call.Published q) n ok = absurd ok

headed_shows : (shows : ℕ → ℕ → Type 0) (n : ℕ) (p : Place) → MayRead p → PlaceShows shows (headed n p)
headed_shows shows n (Some Reading) ok = tt
headed_shows shows n (Some (Heading g)) ok = either_way (λ (u : Place). PlaceShows shows u) (eqb n g) None (Some (Swapping n)) tt tt
headed_shows shows n p ok = absurd ok

numbered_shows : (shows : ℕ → ℕ → Type 0) (p : Place) → MayNumber p → PlaceShows shows (numbered p)
numbered_shows shows (Some (Numbering j x)) ok = tt
numbered_shows shows p ok = absurd ok

posted_shows : (shows : ℕ → ℕ → Type 0) (z : About) (own : Option ℕ) (q j : ℕ) (failed : Option ℕ) (p : Place) → MayPost z own q j failed p → PlaceShows shows p → PlaceShows shows (posted z j failed p)
posted_shows shows z own q j None (Some (Posting i x r)) ok is = either_way (λ (u : Place). PlaceShows shows u) (eqb (r + 1) z.procs) (Some (Numbering i x)) (Some (Posting i x (r + 1))) is is
posted_shows shows z own q j None (Some (Keeping h found failed done)) ok is = tt
posted_shows shows z own q j (Some failed) (Some (Taking h found)) ok is = tt
posted_shows shows z own q j None p ok is = absurd ok
posted_shows shows z own q j (Some failed) p ok is = absurd ok

told_shows : (shows : ℕ → ℕ → Type 0) (z : About) (q : ℕ) → PlaceShows shows (told z q)
told_shows shows z q = either_way (λ (u : Place). PlaceShows shows u) (eqb (q + 1) z.procs) None (Some (Telling (q + 1))) tt tt

looked_shows : (shows : ℕ → ℕ → Type 0) (z : About) (q n : ℕ) (p : Place) → MayTell q p → PlaceShows shows (looked z n p)
looked_shows shows z q n (Some (Telling r)) ok = either_way (λ (u : Place). PlaceShows shows u) (eqb n 0) (told z r) (Some (Prodding r)) (told_shows shows z r) tt
looked_shows shows z q n p ok = absurd ok

prodded_shows : (shows : ℕ → ℕ → Type 0) (z : About) (own : Option ℕ) (q : ℕ) (p : Place) → MayProd own q p → PlaceShows shows (prodded z p)
prodded_shows shows z own q (Some (Prodding r)) ok = told_shows shows z r
prodded_shows shows z own q (Some (Reminding h found failed j)) ok = either_way (λ (u : Place). PlaceShows shows u) (nat_lt failed (2 ^ (j + 1))) None (Some (Keeping h found failed (j + 1))) tt tt
prodded_shows shows z own q p ok = absurd ok

pub place_shows : (shows : ℕ → ℕ → Type 0) (z : About) (x : SigStep) (n : ℕ) (own : Option ℕ) (t : Option Slot) (p : Place) → Permits shows z x own t p → PlaceShows shows p → PlaceShows shows (place_after z x n p)
place_shows shows z (Hload (Some c)) n own t p ok is = begun_shows shows c n ok.0
place_shows shows z (Hload None) n own t p ok is = headed_shows shows n p ok
place_shows shows z Hadd n own t p ok is = numbered_shows shows p ok
place_shows shows z (Mor q j failed) n own t p ok is = posted_shows shows z own q j failed p ok.2 is
place_shows shows z (Mswap (Some c)) n own t p ok is = tt
place_shows shows z (Mswap None) n own t (Some (Swapping h)) ok is = tt
place_shows shows z (Mswap None) n own t p ok is = absurd ok
place_shows shows z (Gstore g (Some c)) n own t p ok is = tt
place_shows shows z (Gstore g None) n own t (Some (Opening h)) ok is = tt
place_shows shows z (Gstore g None) n own t (Some (Taking h found)) ok is = tt
place_shows shows z (Gstore g None) n own t p ok is = absurd ok
place_shows shows z (Gload q (Some c)) n own t p ok is = is
place_shows shows z (Gload q None) n own t p ok is = subst (λ (u : Place). PlaceShows shows (compared n u)) (sym ok.1) tt
place_shows shows z (Pstore y) n own t p ok is = tt
place_shows shows z (Pload q) n own t p ok is = looked_shows shows z q n p ok.1
place_shows shows z (Pend q) n own t p ok is = prodded_shows shows z own q p ok.1
place_shows shows z (Pswap c) n own t p ok is = either_way (λ (u : Place). PlaceShows shows u) (eqb n 0) None (Some Comparing) tt tt

abbrev AllShow : (ℕ → ℕ → Type 0) → List Emission → Type 0
AllShow shows es = (i : ℕ) (e : Emission) → get_elem? es i ≡ maybe.some e → (e.kind < 32) × shows e.kind e.number

gains_show : (shows : ℕ → ℕ → Type 0) (n : ℕ) (p : Place) (es : List Emission) → MayNumber p → PlaceShows shows p → AllShow shows es → AllShow shows (gains p n es)
gains_show shows n (Some (Numbering k x)) es ok is all = λ i e at. ⊎_elim (all i e) (λ (same : emission k x (n + 1) ≡ e). subst (λ (c : Emission). (c.kind < 32) × shows c.kind c.number) same is) (at_snoc es (emission k x (n + 1)) e i at)
gains_show shows n p es ok is all = absurd ok

pub list_shows : (shows : ℕ → ℕ → Type 0) (z : About) (x : SigStep) (n : ℕ) (own : Option ℕ) (t : Option Slot) (p : Place) (es : List Emission) → Permits shows z x own t p → PlaceShows shows p → AllShow shows es → AllShow shows (emissions_after x n p es)
list_shows shows z Hadd n own t p es ok is all = gains_show shows n p es ok is all
list_shows shows z (Hload c) n own t p es ok is all = all
list_shows shows z (Mor q j failed) n own t p es ok is all = all
list_shows shows z (Mswap c) n own t p es ok is all = all
list_shows shows z (Gstore g c) n own t p es ok is all = all
list_shows shows z (Gload q c) n own t p es ok is all = all
list_shows shows z (Pstore y) n own t p es ok is all = all
list_shows shows z (Pload q) n own t p es ok is all = all
list_shows shows z (Pend q) n own t p es ok is all = all
list_shows shows z (Pswap c) n own t p es ok is all = all

module _ (shows : ℕ → ℕ → Type 0) (z : About) (words : List ℕ) (seats : List Stance) (x : SigStep) (o id n : ℕ) (v : Stance) (m : Move shows z words seats x o id n v) (some : 0 < z.procs) where
  pub places_kept : PlacesFit z seats → PlacesFit z (set seats id (turned z x n v))
  places_kept h = record {
    fits = λ j u e. ⊎_elim
        (λ (y : (j ≡ id) × (turned z x n v ≡ u)). subst (λ (c : Stance). PlaceFits z c.slot c.place) y.1 (place_fits shows z x n (Some o) v.slot v.place some m.ok m.fits))
        (λ (y : (j ≢ id) × (get_elem? seats j ≡ maybe.some u)). h.fits j u y.1)
        (at_set seats id j (turned z x n v) u e);
    unnumbered = λ j u e none. ⊎_elim
        (λ (y : (j ≡ id) × (turned z x n v ≡ u)). absurd (let a : v.own ≡ u.own = ap (λ (c : Stance). c.own) y.1 in let b = m.own in let c : Some o ≡ None = sym b ∙ (a ∙ none) in cc))
        (λ (y : (j ≢ id) × (get_elem? seats j ≡ maybe.some u)). h.unnumbered j u y.1 none)
        (at_set seats id j (turned z x n v) u e);
  }

  pub shown_kept : EmissionsShow shows seats → EmissionsShow shows (set seats id (turned z x n v))
  shown_kept h = record {
    numbered = λ j i u c e. ⊎_elim
        (λ (y : (j ≡ id) × (turned z x n v ≡ u)). subst (λ (d : Stance). get_elem? d.emissions i ≡ maybe.some c → (c.kind < 32) × shows c.kind c.number) y.1 (list_shows shows z x n (Some o) v.slot v.place v.emissions m.ok (h.under_way id v m.at) (λ k f at. h.numbered id k v f m.at at) i c))
        (λ (y : (j ≢ id) × (get_elem? seats j ≡ maybe.some u)). h.numbered j i u c y.1)
        (at_set seats id j (turned z x n v) u e);
    under_way = λ j u e. ⊎_elim
        (λ (y : (j ≡ id) × (turned z x n v ≡ u)). subst (λ (c : Stance). PlaceShows shows c.place) y.1 (place_shows shows z x n (Some o) v.slot v.place m.ok (h.under_way id v m.at)))
        (λ (y : (j ≢ id) × (get_elem? seats j ≡ maybe.some u)). h.under_way j u y.1)
        (at_set seats id j (turned z x n v) u e);
  }

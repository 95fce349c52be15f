-- Each seat's place fits what it holds, after each kind of step and each move.
use Rattle.std.proofs.Common.{◌≡◌, ℕ, ◌+◌, ◌-◌, ◌*◌, ◌^◌, ◌<◌, ◌≤◌, eqb, Bool, cond, List, [], ◌∷◌, ◌++◌, length, map, set, get_or, Option, None, Some, sym, refl, ap, ◌∙◌, subst, arith, length-set, length-append}
use mathlib.Core.Option as maybe
use lib.ListN.{get_elem?}
use Rattle.proc_table.specs.declared.Mode.{Mode}
use Rattle.lw_core.specs.declared.step.Call.{Call}
use Rattle.lw_core.specs.declared.step.Call.TheVariants as call
use Rattle.lw_core.specs.declared.step.LwStep.{LwStep}
use Rattle.lw_core.specs.declared.step.LwStep.TheVariants as kind
use Rattle.lw_core.specs.declared.view.Frame.TheVariants.{Trying, Spinning, Downing, Releasing}
use Rattle.lw_core.specs.declared.view.Hold.{Hold}
use Rattle.lw_core.specs.declared.view.View.{View}
use Rattle.lw_core.specs.declared.view.Size.{Size}
use Rattle.lw_core.specs.declared.view.Waiter.{Waiter}
use Rattle.lw_core.specs.Words.{state_at, guard_at, grant_of, locked, has_flag}
use Rattle.lw_core.specs.WaitLists.{home_list}
use Rattle.lw_core.specs.Machine.{LwState, Place, top, outer, not_held, held, hold_in, mode_in, number_of, lock_number, IsInRange, word_of, moved, gripped, next, on_grant, on_refusal, loaded, taking, releasing, in_hand, posted, surplus_posted, MayTake, BeginsAttempt, BeginsRelease, Allowed, after, fresh, guard_hold}
use Rattle.lw_core.specs.SeatFits.{Seating, PlaceFits, SeatFits, SeatsFit}
use Rattle.lw_core.specs.Rule.{seating_of, PlacesFit, Rule}
use Rattle.lw_core.specs.Runs.{drew_one, stays, comes, both, spent, drawn, split, joined}
use Rattle.seat_roster.specs.Roster.{listed}
use Rattle.seat_roster.proofs.Stretches.{seen, seen_more, at_seen, unseen, for_same, each_set, each_more}
use Rattle.lw_core.proofs.Touches.{on_exchange, top_is, begun_release, fresh_hold}
use Rattle.lw_core.proofs.Fits.{idle_fits, idle_clear, down_fits, loaded_fits, granted_fits, refused_fits, let_go_fits, taken_fits, sent_fits, flagged_fits, stored_fits, reread_fits, detached_fits, posted_fits, looked_fits, answered_fits, taking_fits, compared_fits, published_fits, peeked_fits, looked_on_fits}

seats_set : (seats : List Seating) (id : ℕ) (b : Seating) → SeatsFit seats → SeatFits b → SeatsFit (set seats id b)
seats_set seats id b h mine = each_set SeatFits seats id b h mine

seats_more : (seats : List Seating) (b : Seating) → SeatsFit seats → SeatFits b → SeatsFit (seats ++ b ∷ [])
seats_more seats b h mine = each_more SeatFits seats b h mine

pub fresh_fits : (own : Option ℕ) → SeatFits (seating_of (fresh own))
fresh_fits own = record { long = refl; place = refl; unnumbered = λ _ l. ap (λ (h : Hold). h.mode) (fresh_hold own l); idle = λ _. (refl, refl); pokes = omega arith; poked = omega arith }

-- the numbers that a seat takes over have at most as many pokes as they may
length_taken : (own : Option ℕ) (xs ys : List ℕ) → (own ≡ None → ⊥) → length (xs ++ (listed own ++ ys)) ≡ length xs + (1 + length ys)
length_taken None xs ys numbered = absurd (numbered refl)
length_taken (Some n) xs ys numbered = length-append xs (n ∷ ys) ∙ omega arith

took_poked : (v w : Seating) (xs : List ℕ) → SeatFits v → SeatFits w → xs ≡ v.taken ++ (listed w.own ++ w.taken) → length (v.poked ++ w.poked) ≤ 1048576 * length xs + v.pokes
took_poked v w xs fits other e = by_own w.own refl
  where
    by_own : (o : Option ℕ) → w.own ≡ o → length (v.poked ++ w.poked) ≤ 1048576 * length xs + v.pokes
    by_own None none = let a = fits.poked in let b = other.poked in let c = (other.idle none).1 in let d = length-append v.poked w.poked in
        let f : length xs ≡ length v.taken + length w.taken = ap length (e ∙ ap (λ (o : Option ℕ). v.taken ++ (listed o ++ w.taken)) none) ∙ length-append v.taken w.taken in omega arith
    by_own (Some n) is = let a = fits.poked in let b = other.poked in let c = other.pokes in let d = length-append v.poked w.poked in
        let f : length xs ≡ length v.taken + (1 + length w.taken) = ap length (e ∙ ap (λ (o : Option ℕ). v.taken ++ (listed o ++ w.taken)) is) ∙ length_taken (Some n) v.taken w.taken (λ none. absurd (cc)) in omega arith

module _ (lawful : ℕ → List ℕ → Type 0) (z : Size) (s : LwState) (r : Rule lawful z s) (id : ℕ) (v : View) (at : get_elem? s.views id ≡ maybe.some v) where
  pub mine : SeatFits (seating_of v)
  mine = r.places id (seating_of v) (at_seen seating_of s.views id v (seating_of v) at refl)

  -- what an attempt rests on
  pub tries : (l w : ℕ) (m : Mode) → top v.place ≡ Some (Trying l m w) → PlaceFits v.holds v.surplus (Trying l m w ∷ outer v.place)
  tries l w m is = subst (PlaceFits v.holds v.surplus) (top_is v.place (Trying l m w) is) mine.place

  pub nothing_back : v.place ≡ [] → v.surplus ≡ 0
  nothing_back idle = idle_clear v.holds v.surplus v.place idle mine.place

  -- the seat moves on, to a place that fits
  goes : (w : View) → SeatFits (seating_of w) → SeatsFit (map seating_of (set s.views id w))
  goes w fits = for_same _ _ (seen seating_of s.views id w (seating_of w) refl) SeatsFit (seats_set (map seating_of s.views) id (seating_of w) r.places fits)

  module _ (numbered : v.own ≡ None → ⊥) where
    -- with these holds, this place, and this to give back
    stands : (p : Place) (holds : List Hold) (surplus : ℕ) → length holds ≡ 200 → PlaceFits holds surplus p
        → SeatFits record { own = v.own; place = p; holds = holds; surplus = surplus; pokes = v.pokes; poked = v.poked; taken = v.taken }
    stands p holds surplus long fits = record { long = long; place = fits; unnumbered = λ none. absurd (numbered none); idle = λ none. absurd (numbered none); pokes = mine.pokes; poked = mine.poked }

    moves : (p : Place) → PlaceFits v.holds v.surplus p → SeatFits record { own = v.own; place = p; holds = v.holds; surplus = v.surplus; pokes = v.pokes; poked = v.poked; taken = v.taken }
    moves p fits = stands p v.holds v.surplus mine.long fits

    -- with another hold of the lock
    grips : (p : Place) (l : ℕ) (h : Hold) → PlaceFits (set v.holds l h) v.surplus p → SeatFits record { own = v.own; place = p; holds = set v.holds l h; surplus = v.surplus; pokes = v.pokes; poked = v.poked; taken = v.taken }
    grips p l h fits = stands p (set v.holds l h) v.surplus (length-set v.holds l h ∙ mine.long) fits

    nothing_left : (b : Option Call) (l : ℕ) → BeginsRelease l b v → v.surplus ≡ 0
    nothing_left (Some (call.Release k)) l ok = nothing_back ok.1
    nothing_left (Some c) l ok = absurd ok
    nothing_left None l ok = (subst (PlaceFits v.holds v.surplus) (top_is v.place (Releasing l) ok) mine.place).1

    begins : (l n : ℕ) (c : Call) → n < 2 ^ 32 → BeginsAttempt l (Some c) v → PlaceFits v.holds v.surplus (loaded (Some c) n v.place)
    begins l n (call.Try k m) small ok = (subst (λ (i : ℕ). mode_in i v ≡ None) (sym ok.0) ok.2, small, subst (Rattle.lw_core.specs.SeatFits.FollowsAttempt k m v.surplus) (sym ok.1) (nothing_back ok.1))
    begins l n (call.Acquire k m) small ok = (subst (λ (i : ℕ). mode_in i v ≡ None) (sym ok.0) ok.2, small, (refl, refl, (λ _. refl), ok.1))
    begins l n (call.AcquireOrWait k m) small ok = (subst (λ (i : ℕ). mode_in i v ≡ None) (sym ok.0) ok.2, small, (refl, refl, (λ no. absurd (cc)), ok.1))
    begins l n c small ok = absurd ok

    -- a poke
    pokes_more : (q : ℕ) (p : Place) (surplus : ℕ) → PlaceFits v.holds surplus p → v.pokes < 1048576
        → SeatFits record { own = v.own; place = p; holds = v.holds; surplus = surplus; pokes = v.pokes + 1; poked = v.poked ++ q ∷ []; taken = v.taken }
    pokes_more q p surplus fits few = record {
      long = mine.long;
      place = fits;
      unnumbered = λ none. absurd (numbered none);
      idle = λ none. absurd (numbered none);
      pokes = omega arith;
      poked = let a = mine.poked in let b = length-append v.poked (q ∷ []) in omega arith;
    }

    takes : (l : ℕ) (found : List Waiter) (p : Place) → MayTake l p → PlaceFits v.holds v.surplus p → (b : Bool) → PlaceFits v.holds v.surplus (cond b (in_hand found (outer p)) (Spinning l ∷ outer p))
    takes l found [] ok fits b = absurd ok
    takes l found (f ∷ p) ok fits b = taken_fits v.holds v.surplus l f found p ok fits b

    by_kind : (k : LwStep) → IsInRange z k → Allowed lawful k v → SeatFits (seating_of (next k v (get_or s.words (word_of z (number_of v.own) k) 0) (home_list s.homes (lock_number k))))
    by_kind (kind.Load l None) inside ok = moves _ (loaded_fits v.holds v.surplus l (get_or s.words (state_at l) 0) v.place (r.counts l inside.0).fits ok mine.place)
    by_kind (kind.Load l (Some c)) inside ok = moves _ (begins l (get_or s.words (state_at l) 0) c (r.counts l inside.0).fits ok)
    by_kind (kind.Grant l m w) inside ok = let n : ℕ = get_or s.words (state_at l) 0 in let k : LwStep = kind.Grant l m w in let now = tries l w m ok.0 in
        on_exchange n w (λ (b : Bool). SeatFits (seating_of (cond b (gripped v k l n (on_grant v.surplus (outer v.place)) (held m) (v.grants + 1)) (moved v k n (Trying l m n ∷ outer v.place)))))
        (λ _. grips _ l (held m) (granted_fits v.holds v.surplus l m (outer v.place) (let long = mine.long in let most = r.sized.locks in let below = inside.0 in omega arith) now.2))
        (λ _. moves _ (now.0, (r.counts l inside.0).fits, now.2))
    by_kind (kind.Refuse l m w) inside ok = let n : ℕ = get_or s.words (state_at l) 0 in let now = tries l w m ok.0 in
        on_exchange n w (λ (b : Bool). SeatFits (seating_of (moved v (kind.Refuse l m w) n (cond b (on_refusal (outer v.place)) (Trying l m n ∷ outer v.place)))))
        (λ _. moves _ (refused_fits v.holds v.surplus l m (outer v.place) now.0 now.2))
        (λ _. moves _ (now.0, (r.counts l inside.0).fits, now.2))
    by_kind (kind.Sub l m b) inside ok = grips _ l not_held (let_go_fits b (set v.holds l not_held) v.surplus l (get_or s.words (state_at l) 0 - grant_of m) (releasing b v.place) (begun_release b l v mine.place ok.0) (nothing_left b l ok.0))
    by_kind (kind.Peek l (Some (call.WaitForVar i old))) inside ok = moves _ (peeked_fits v.holds v.surplus i old _ v.place (subst (λ (x : ℕ). mode_in x v ≡ None) (sym ok.0) ok.2) ok.1 (nothing_back ok.1))
    by_kind (kind.Peek l None) inside ok = moves _ (looked_on_fits v.holds v.surplus l _ v.place ok mine.place)
    by_kind (kind.Peek l (Some c)) inside ok = absurd ok
    by_kind (kind.Guard l k o) inside ok = grips v.place l (guard_hold o (hold_in l v) k (get_or s.words (guard_at l k) 0)) (idle_fits _ v.surplus v.place ok.1 (nothing_back ok.1))
    by_kind (kind.Lock l b) inside ok = let now = taking_fits (lawful l) b l v mine.place ok in moves _ (takes l (home_list s.homes l) (taking b v.place) now.0 now.1 (eqb (has_flag locked (get_or s.words (state_at l) 0)) 0))
    by_kind (kind.VarLoad l) inside ok = moves _ (compared_fits v.holds v.surplus l _ v.place ok mine.place)
    by_kind (kind.VarStore l x) inside ok = moves _ (published_fits v.holds v.surplus l x v.place ok mine.place)
    by_kind (kind.Unlock l c) inside ok = moves _ (sent_fits v.holds v.surplus l (number_of v.own) c v.place ok mine.place)
    by_kind (kind.Flag l) inside ok = moves _ (flagged_fits v.holds v.surplus l v.place ok mine.place)
    by_kind (kind.WaitStore q x) inside ok = moves _ (stored_fits v.holds v.surplus q x v.own v.place ok mine.place)
    by_kind kind.WaitLoad inside ok = stands _ v.holds _ mine.long (reread_fits v.holds v.surplus _ v.place ok mine.place)
    by_kind (kind.Wake l w to) inside ok = moves _ (detached_fits v.holds v.surplus l w to (get_or s.words (state_at l) 0) v.place (r.counts l inside.0).fits ok mine.place (eqb (get_or s.words (state_at l) 0) w))
    by_kind (kind.Post q None) inside ok = stands _ v.holds _ mine.long (posted_fits v.holds v.surplus q v.own v.place ok mine.place)
    by_kind (kind.Post q (Some (call.Poke i))) inside ok = pokes_more i _ _ (subst (λ (p : Place). PlaceFits v.holds (surplus_posted p v.surplus) (posted (surplus_posted p v.surplus) p)) (sym ok.1) (nothing_back ok.1)) ok.2
    by_kind (kind.Post q (Some c)) inside ok = absurd ok
    by_kind (kind.Look b) inside ok = moves _ (looked_fits v.holds v.surplus b v.place ok mine.place _)
    by_kind kind.Down inside ok = moves _ (down_fits v.holds v.surplus (outer v.place) (subst (PlaceFits v.holds v.surplus) (top_is v.place Downing ok) mine.place))
    by_kind (kind.SetReleaseOk l) inside ok = moves _ (answered_fits v.holds v.surplus l v.place ok mine.place)

    pub places_step : (k : LwStep) → IsInRange z k → Allowed lawful k v → PlacesFit (after z s id v k)
    places_step k inside ok = goes (next k v (get_or s.words (word_of z (number_of v.own) k) 0) (home_list s.homes (lock_number k))) (by_kind k inside ok)

  pub places_draw : PlacesFit (drawn s id v)
  places_draw = subst SeatsFit (sym (unseen seating_of s.views id v (drew_one v) at refl)) r.places

  pub places_split : PlacesFit (split s id v)
  places_split = for_same _ _ (seen_more seating_of (set s.views id (stays v)) (comes v)) SeatsFit
      (seats_more (map seating_of (set s.views id (stays v))) (seating_of (comes v)) (subst SeatsFit (sym (unseen seating_of s.views id v (stays v) at refl)) r.places) (fresh_fits v.pending))

  pub places_join : (other : ℕ) (w : View) → get_elem? (set s.views id (both v w)) other ≡ maybe.some w → get_elem? s.views other ≡ maybe.some w → PlacesFit (joined s id v other w)
  places_join other w there before = for_same _ _ (seen seating_of (set s.views id (both v w)) other spent (seating_of spent) refl) SeatsFit
      (seats_set (map seating_of (set s.views id (both v w))) other (seating_of spent) (goes (both v w) took) (fresh_fits None))
    where
      theirs : SeatFits (seating_of w)
      theirs = r.places other (seating_of w) (at_seen seating_of s.views other w (seating_of w) before refl)

      took : SeatFits (seating_of (both v w))
      took = record { long = mine.long; place = mine.place; unnumbered = mine.unnumbered; idle = mine.idle; pokes = mine.pokes; poked = took_poked (seating_of v) (seating_of w) _ mine theirs refl }

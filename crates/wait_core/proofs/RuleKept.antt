-- Each step of the machine keeps the whole rule.
use Rattle.std.proofs.Common.{◌≡◌, ◌≢◌, ◌⊎◌, ℕ, ◌+◌, ◌<◌, ◌≤◌, eqb, Bool, true, false, cond, List, [], ◌∷◌, ◌++◌, map, length, get_or, set, Option, None, Some, refl, sym, ap, ◌∙◌, subst, ⊎_elim, arith, length-set, get_or-set_same, get_or-set_other}
use mathlib.Core.Logic.{dite}
use mathlib.Core.Option as maybe
use native.Mathlib.Decide.{ℕ_discrete}
use lib.ListN.{get_elem?}
use lib.Seq.{map-set}
use Rattle.atomic_table.specs.Table.{homes_after, keeps, takes, stepped}
use Rattle.atomic_table.proofs.Lists.{at_map, at_set}
use Rattle.wait_core.specs.declared.step.WaitStep.{WaitStep}
use Rattle.wait_core.specs.declared.step.WaitStep.TheVariants.{Sload, Sset, Reset, Mstore, Mload, Byte, Look, Drain, Shload, Shstore, Take, Spin, Free}
use Rattle.wait_core.specs.declared.step.Call.TheVariants as call
use Rattle.wait_core.specs.declared.view.Kept.{Kept}
use Rattle.wait_core.specs.declared.view.Size.{Size}
use Rattle.wait_core.specs.declared.view.WaitView.{WaitView}
use Rattle.wait_core.specs.Meanings.{Meanings}
use Rattle.seat_roster.specs.Totals.{total}
use Rattle.seat_roster.specs.Roster.{Numbers, Roster, times_in, stands}
use Rattle.wait_core.specs.Words.{most_conditions, byte_at, slot_of, client_base}
use Rattle.wait_core.specs.Machine.{WaitState, Place, top, left_at, list_of, made_with, place_then, number_of, word_of, becomes, home_in, slot_number, act_of, carried, next_with, Permits, Allowed, after}
use Rattle.wait_core.specs.Seating.{Standing, numbers_of, standing_of, doings_of}
use Rattle.wait_core.specs.Fits.{Fits, IsTarget, PlacesFit}
use Rattle.wait_core.specs.Barriers.{StepSuits}
use Rattle.wait_core.specs.WordsAreMade.{WordsAreMade}
use Rattle.wait_core.specs.Rule.{Flags, Sized, Rule}
use Rattle.seat_roster.proofs.Totals.{total_map, total_le}
use Rattle.seat_roster.proofs.Stretches.{unseen, each_set}
use Rattle.seat_roster.proofs.Numbers.{most_one, own_inside}
use Rattle.wait_core.proofs.Counts.{owns, bit_le}
use Rattle.wait_core.proofs.Effects.{Effect, effect, spot_inside}
use Rattle.wait_core.proofs.Untouched.{idle}
use Rattle.wait_core.proofs.Fitting.{fits_after, target_kept}
use Rattle.wait_core.specs.ListsAreMade.{ListsAreMade}
use Rattle.wait_core.proofs.ListsAreMade.{lists_made_step}
use Rattle.wait_core.proofs.ListsKept.{lists_found, lists_step}
use Rattle.wait_core.proofs.MaySleepIsMarked.{may_kept}
use Rattle.wait_core.proofs.SetLatchWakes.{latch_kept}
use Rattle.wait_core.proofs.ShutdownWakes.{shutdown_kept}
use Rattle.wait_core.proofs.WordsAreMade.{made_step}
use Rattle.wait_core.proofs.Arriving.{Owes, attended_step}
use Rattle.wait_core.proofs.Electing.{one_elected_step}
use Rattle.wait_core.specs.ArrivalsHeed.{HeedsInArrival}
use Rattle.wait_core.proofs.ArrivalsHeed.{heeds_kept}
use Rattle.wait_core.proofs.PassedPhaseIsBroadcast.{passed_step}

-- each step is on a word between the next number and the client's
pub word_inside : (z : Size) (o : ℕ) (k : WaitStep) → z.cvs ≤ most_conditions → (t : Option ℕ) (p : Place) → o < z.procs → Permits z k (Some o) t p → (0 < word_of z o k) × (word_of z o k < client_base z)
word_inside z o (Sload q (Some (call.Set r))) most t p below ok = let few = ok.0.1 in (omega arith, omega arith)
word_inside z o (Sload q (Some (call.Wait w))) most t p below ok = let is : o ≡ q = cc (ok.0) in (omega arith, omega arith)
word_inside z o (Sload q (Some call.IsSet)) most t p below ok = let is : o ≡ q = cc (ok.0) in (omega arith, omega arith)
word_inside z o (Sload q (Some (call.Sleep c))) most t p below ok = let is : o ≡ q = cc (ok.0.0) in (omega arith, omega arith)
word_inside z o (Sload q (Some c)) most t p below ok = absurd ok.0
word_inside z o (Sload q None) most t p below ok = let is : o ≡ q = cc (ok.0) in (omega arith, omega arith)
word_inside z o (Sset q) most t p below ok = let few = ok.0 in (omega arith, omega arith)
word_inside z o (Reset b) most t p below ok = (omega arith, omega arith)
word_inside z o (Mstore may) most t p below ok = (omega arith, omega arith)
word_inside z o (Mload q) most t p below ok = let few = ok.0 in (omega arith, omega arith)
word_inside z o (Byte q) most t p below ok = let few = ok.0 in (omega arith, omega arith)
word_inside z o Look most t p below ok = (omega arith, omega arith)
word_inside z o Drain most t p below ok = (omega arith, omega arith)
word_inside z o (Shload b) most t p below ok = (omega arith, omega arith)
word_inside z o (Shstore b) most t p below ok = (omega arith, omega arith)
word_inside z o (Take x (Some c)) most t p below ok = let few = spot_inside z x most ok.0 in (omega arith, omega arith)
word_inside z o (Take x None) most t p below ok = let few = spot_inside z x most ok.0 in (omega arith, omega arith)
word_inside z o (Spin x) most t p below ok = let few = spot_inside z x most ok.0 in (omega arith, omega arith)
word_inside z o (Free x after) most t p below ok = let few = spot_inside z x most ok.0 in (omega arith, omega arith)

-- each step is on a word of a table that has the words of the backend
pub word_below : (z : Size) (o count words : ℕ) (k : WaitStep) → z.cvs ≤ most_conditions → (t : Option ℕ) (p : Place) → byte_at o < words → words ≡ client_base z + count → Permits z k (Some o) t p → word_of z o k < words
word_below z o count words (Sload q (Some (call.Set r))) most t p below wide ok = let few = ok.0.1 in omega arith
word_below z o count words (Sload q (Some (call.Wait w))) most t p below wide ok = let is : o ≡ q = cc (ok.0) in omega arith
word_below z o count words (Sload q (Some call.IsSet)) most t p below wide ok = let is : o ≡ q = cc (ok.0) in omega arith
word_below z o count words (Sload q (Some (call.Sleep c))) most t p below wide ok = let is : o ≡ q = cc (ok.0.0) in omega arith
word_below z o count words (Sload q (Some c)) most t p below wide ok = absurd ok.0
word_below z o count words (Sload q None) most t p below wide ok = let is : o ≡ q = cc (ok.0) in omega arith
word_below z o count words (Sset q) most t p below wide ok = let few = ok.0 in omega arith
word_below z o count words (Reset b) most t p below wide ok = omega arith
word_below z o count words (Mstore may) most t p below wide ok = omega arith
word_below z o count words (Mload q) most t p below wide ok = let few = ok.0 in omega arith
word_below z o count words (Byte q) most t p below wide ok = let few = ok.0 in omega arith
word_below z o count words Look most t p below wide ok = omega arith
word_below z o count words Drain most t p below wide ok = omega arith
word_below z o count words (Shload b) most t p below wide ok = omega arith
word_below z o count words (Shstore b) most t p below wide ok = omega arith
word_below z o count words (Take x (Some c)) most t p below wide ok = let few = spot_inside z x most ok.0 in omega arith
word_below z o count words (Take x None) most t p below wide ok = let few = spot_inside z x most ok.0 in omega arith
word_below z o count words (Spin x) most t p below wide ok = let few = spot_inside z x most ok.0 in omega arith
word_below z o count words (Free x after) most t p below wide ok = let few = spot_inside z x most ok.0 in omega arith

-- what a step leaves is 0 or 1
pub small_after : (k : WaitStep) (n : ℕ) → n ≤ 1 → becomes k n ≤ 1
small_after (Sload q b) n h = h
small_after (Sset q) n h = omega arith
small_after (Reset b) n h = omega arith
small_after (Mstore may) n h = bit_le may
small_after (Mload q) n h = h
small_after (Byte q) n h = omega arith
small_after Look n h = h
small_after Drain n h = omega arith
small_after (Shload b) n h = h
small_after (Shstore b) n h = omega arith
small_after (Take x b) n h = omega arith
small_after (Spin x) n h = h
small_after (Free x after) n h = omega arith

pub flags_set : (z : Size) (words : List ℕ) (i x : ℕ) → Flags z words → i < length words → x ≤ 1 → Flags z (set words i x)
flags_set z words i x h inside small j some below = dite (ℕ_discrete j i)
    (λ is. let here = ap (λ (n : ℕ). get_or (set words i x) n 0) is ∙ get_or-set_same words i x 0 inside in omega arith)
    (λ ne. let there = get_or-set_other words i j x 0 ne in let old = h j some below in omega arith)

-- a slot that is taken or given back leaves as many
pub homes_long : (z : Size) (k : WaitStep) (o n : ℕ) (found : Kept) (p : Place) (homes : List (maybe.Option Kept)) → length (homes_after homes (carried k o p) (act_of k n found)) ≡ length homes
homes_long z (Take x b) o n found p homes = by_word (eqb n 0)
  where
    by_word : (clear : Bool) → length (homes_after homes (carried (Take x b) o p) (cond clear (takes (slot_of x) found) keeps)) ≡ length homes
    by_word true = length-set homes (slot_of x) maybe.none
    by_word false = refl
homes_long z (Free x after) o n found p homes = length-set homes (slot_of x) (maybe.some (left_at o p))
homes_long z k o n found p homes = refl

-- no two seats have one number
owns_le : (p : ℕ) (own pending : Option ℕ) (n : ℕ) → owns p (idle own) ≤ times_in p own + n
owns_le p None pending n = omega arith
owns_le p (Some q) pending n = omega arith

module _ {C : Type 0} where
  pub alone : (procs next : ℕ) (views : List (WaitView C)) → Roster procs next (map numbers_of views) → (p : ℕ) → total (owns p) (map standing_of views) ≤ 1
  alone procs next views r p =
      let a = total_map (owns p) standing_of views in let b = total_map (stands p) numbers_of views in let most = most_one procs next (map numbers_of views) r p in
      let le = total_le (λ (v : WaitView C). owns p (standing_of v)) (λ (v : WaitView C). stands p (numbers_of v)) views (λ i v e. le_at v) in omega arith
    where
      by_own : (own : Option ℕ) (a b : ℕ) → owns p (idle own) ≤ times_in p own + a + b
      by_own None a b = omega arith
      by_own (Some q) a b = omega arith

      le_at : (v : WaitView C) → owns p (standing_of v) ≤ stands p (numbers_of v)
      le_at v = by_own v.own _ _

  -- the place of one seat changes, and fits
  pub places_set : (cvs : ℕ) (views : List (WaitView C)) (id : ℕ) (v w : WaitView C) (o : ℕ) → get_elem? views id ≡ maybe.some v → PlacesFit cvs (map standing_of views) → Fits cvs w.target w.place → IsTarget cvs w.target → w.own ≡ Some o → PlacesFit cvs (map standing_of (set views id w))
  places_set cvs views id v w o at h fit inside own = record {
    fits = λ j u e. ⊎_elim (λ (t : (j ≡ id) × (standing_of w ≡ u)). subst (λ (x : Standing). Fits cvs x.target x.place) t.1 fit) (λ t. h.fits j u t.1) (found j u e);
    targets = λ j u e. ⊎_elim (λ (t : (j ≡ id) × (standing_of w ≡ u)). subst (λ (x : Standing). IsTarget cvs x.target) t.1 inside) (λ t. h.targets j u t.1) (found j u e);
    unnumbered = λ j u e none. ⊎_elim (λ (t : (j ≡ id) × (standing_of w ≡ u)). absurd (numbered u t.1 none)) (λ t. h.unnumbered j u t.1 none) (found j u e);
  }
    where
      found : (j : ℕ) (u : Standing) → get_elem? (map standing_of (set views id w)) j ≡ maybe.some u → ((j ≡ id) × (standing_of w ≡ u)) ⊎ ((j ≢ id) × (get_elem? (map standing_of views) j ≡ maybe.some u))
      found j u e = at_set (map standing_of views) id j (standing_of w) u (ap (λ l. get_elem? l j) (sym (map-set standing_of views id w)) ∙ e)

      numbered : (u : Standing) → standing_of w ≡ u → u.own ≡ None → ⊥
      numbered u is none = let a : w.own ≡ u.own = ap (λ (x : Standing). x.own) is in cc

module _ {C : Type 0} (means : Meanings C) (z : Size) (phase count : ℕ) (s : WaitState C) (r : Rule means z phase count s) (id : ℕ) (v : WaitView C) (o : ℕ) (at : get_elem? s.views id ≡ maybe.some v) (own : v.own ≡ Some o) where
  pub own_below : o < z.procs
  own_below = let a = own_inside _ _ _ r.roster id o (numbers_of v) (at_map numbers_of s.views id v at) own in let b = r.roster.few in omega arith

  -- the step k of the backend o
  abbrev pub after_own : WaitStep → WaitState C
  after_own k =
      let i : ℕ = word_of z o k in let n : ℕ = get_or s.words i 0 in let found : Kept = home_in s.homes (slot_number k) in
      stepped s i (becomes k n) id (carried k o v.place) (next_with z k v n found) (act_of k n found)

  pub step_kept : Owes means → (k : WaitStep) → Permits z k (Some o) v.target v.place → StepSuits means k v → Rule means z phase count (after_own k)
  step_kept laws k ok suits =
      let i : ℕ = word_of z o k in let n : ℕ = get_or s.words i 0 in let found : Kept = home_in s.homes (slot_number k) in let w : WaitView C = next_with z k v n found in
      let below = own_below in let at' = at_map standing_of s.views id v at in let long = r.sized.long in
      let inside = word_inside z o k r.sized.cvs v.target v.place below ok in
      let fit = r.places.fits id (standing_of v) at' in let target = r.places.targets id (standing_of v) at' in
      let o_is : number_of v.own ≡ o = ap number_of own in
      let goes = ap (λ (x : ℕ). place_then z k n found record { own = x; target = v.target; place = v.place }) o_is in
      let e = subst (λ (p : Place). Effect z k n (top v.place) (top p)) (sym goes) (effect z v.target k (Some o) o n found v.place ok fit) in
      let one = alone z.procs (get_or s.words 0 0) s.views r.roster in
      let seen = sym (map-set standing_of s.views id w) in
      let first : get_or (set s.words i (becomes k n)) 0 0 ≡ get_or s.words 0 0 = get_or-set_other s.words i 0 (becomes k n) 0 (λ e. omega arith) in
      let numbers = sym (unseen numbers_of s.views id v w at refl) in
      let b = attended_step means z phase count s r laws id v o at own k inside.1 ok suits in
      record {
        sized = record { procs = r.sized.procs; cvs = r.sized.cvs; bars = r.sized.bars; long = length-set s.words i (becomes k n) ∙ long; slots = homes_long z k o n found v.place s.homes ∙ r.sized.slots };
        flags = flags_set z s.words i (becomes k n) r.flags (omega arith) (small_after k n (r.flags i inside.0 inside.1));
        roster = subst (λ (x : ℕ × List Numbers). Roster z.procs x.0 x.1) (λ j. (sym first j, numbers j)) r.roster;
        counted = subst (λ (x : ℕ × List Numbers). Rattle.wait_core.specs.Rule.SeatsAreCounted x.0 x.1) (λ j. (sym first j, numbers j)) r.counted;
        places = places_set z.cvs s.views id v w o at r.places (subst (Fits z.cvs w.target) (sym goes) (fits_after z r.sized.bars v.target k (Some o) o n found v.place ok target fit)) (target_kept z v.target k (Some o) v.place ok fit target) own;
        may = subst (Rattle.wait_core.specs.MaySleepIsMarked.MaySleepIsMarked z.procs (set s.words i (becomes k n))) seen
            (may_kept z s.words (map standing_of s.views) one id o (standing_of v) (standing_of w) at' own own below (omega arith) r.may k e);
        latches = subst (Rattle.wait_core.specs.SetLatchWakes.SetLatchWakes z.procs (set s.words i (becomes k n))) seen
            (latch_kept z s.words (map standing_of s.views) one id o (standing_of v) (standing_of w) at' own own below (omega arith) r.may r.latches k found ok e goes);
        shutdown = subst (Rattle.wait_core.specs.ShutdownWakes.ShutdownWakes z (set s.words i (becomes k n))) seen
            (shutdown_kept z s.words (map standing_of s.views) one id o (standing_of v) (standing_of w) at' own own below (omega arith) r.shutdown k found ok e goes);
        made = subst (WordsAreMade z (set s.words i (becomes k n))) (sym (map-set doings_of s.views id w)) (made_step z s.words (map doings_of s.views) id (doings_of v) o k (list_of k n found (number_of v.own) v.place) (at_map doings_of s.views id v at) own (omega arith) r.made);
        lists_made = subst (ListsAreMade z (homes_after s.homes (carried k o v.place) (act_of k n found))) (sym (map-set doings_of s.views id w ∙ ap (λ (x : ℕ). set (map doings_of s.views) id record (doings_of v) { steps = v.steps ++ made_with k n (list_of k n found x v.place) ∷ [] }) o_is)) (lists_made_step z s.homes (map doings_of s.views) id (doings_of v) o (at_map doings_of s.views id v at) own r.lists_made k n found v.place (lists_found z r.sized.cvs (get_or s.words 0 0) s.words s.homes s.views (omega arith) r.flags r.roster r.lists id v at o k ok));
        lists = lists_step z r.sized.cvs (get_or s.words 0 0) s.words s.homes s.views (omega arith) r.flags r.roster r.lists id v at o own below k ok fit (r.flags i inside.0 inside.1);
        heeds = each_set HeedsInArrival s.views id w r.heeds (heeds_kept z v.target k (Some o) (number_of v.own) n found v.place v.heeds ok fit (r.heeds id v at));
        broadcasts = passed_step means z phase count s r id v o at own below k ok (r.flags i inside.0 inside.1);
        left = b.left;
        barriers = b.barriers;
        known = b.known;
        waiters = b.waiters;
        participants = b.participants;
        arrived = b.arrived;
        elections = b.elections;
        one_elected = one_elected_step means z phase count s r id v o at own k ok;
        inside = b.inside;
        suits = b.suits;
        client = b.client;
      }

  -- the same, where the seat's number is read from its view
  pub machine_kept : Owes means → (k : WaitStep) → Allowed z k v → StepSuits means k v → Rule means z phase count (after z s id v k)
  machine_kept laws k ok suits = subst (Rule means z phase count) (sym same) (step_kept laws k (subst (λ (x : Option ℕ). Permits z k x v.target v.place) own ok) suits)
    where
      same : after z s id v k ≡ after_own k
      same = ap (λ (x : ℕ). let i : ℕ = word_of z x k in let n : ℕ = get_or s.words i 0 in let found : Kept = home_in s.homes (slot_number k) in
          stepped s i (becomes k n) id (carried k x v.place) (next_with z k v n found) (act_of k n found)) (ap number_of own)

-- A phase that has passed is broadcast to whoever sleeps through it: each step keeps it, and so do the moves of seats.
use Rattle.std.proofs.Common.{◌≡◌, ◌≢◌, ◌⊎◌, ℕ, suc, ◌+◌, ◌<◌, ◌≤◌, eqb, Bool, true, false, cond, List, [], ◌∷◌, ◌++◌, map, length, get_or, set, Option, None, Some, refl, sym, ap, ◌∙◌, subst, ⊎_elim, inl, inr, arith}
use Rattle.std.proofs.lemmas.Bool.{eqb-false}
use mathlib.Core.List.{map-append}
use mathlib.Core.Logic.{dite}
use mathlib.Core.Option as maybe
use native.Mathlib.Decide.{ℕ_discrete}
use lib.ListN.{get_elem?}
use lib.Seq.{map-set}
use Rattle.atomic_table.specs.Table.{stepped}
use Rattle.atomic_table.proofs.Lists.{at_map, at_set, at_snoc, at_longer, set_else}
use Rattle.wait_core.specs.declared.step.Spot.{Spot}
use Rattle.wait_core.specs.declared.step.Spot.TheVariants.{Cv, Bar}
use Rattle.wait_core.specs.declared.step.WaitStep.{WaitStep}
use Rattle.wait_core.specs.declared.step.WaitStep.TheVariants.{Take, Free}
use Rattle.wait_core.specs.declared.view.Frame.TheVariants.{Holding, Dozing, Passing, Returning}
use Rattle.wait_core.specs.declared.view.Job.{Job}
use Rattle.wait_core.specs.declared.view.Job.TheVariants as job
use Rattle.wait_core.specs.declared.view.Kept.{Kept}
use Rattle.wait_core.specs.declared.view.Record.{Record}
use Rattle.wait_core.specs.declared.view.Size.{Size}
use Rattle.wait_core.specs.declared.view.WaitView.{WaitView}
use Rattle.seat_roster.specs.Roster.{times, one_if}
use Rattle.seat_roster.proofs.Numbers.{one_seat}
use Rattle.seat_roster.proofs.Totals.{total_at, total_two, total_some, total_snoc, set_there}
use Rattle.wait_core.specs.Words.{most_conditions, slot_of, client_base, slots_in}
use Rattle.wait_core.specs.Lists.{is_listed, precedes}
use Rattle.wait_core.specs.Jobs.{spot_of, has_passed, left_list, left_record, rouses, rouses_on, goes_on}
use Rattle.wait_core.specs.Machine.{WaitState, Place, number_of, word_of, becomes, left_at, freed, home_in, slot_number, act_of, carried, home_of, next_with, IsSpot, Permits}
use Rattle.wait_core.specs.Meanings.{Meanings}
use Rattle.wait_core.specs.Parties.{phase_of, now}
use Rattle.wait_core.specs.Seating.{numbers_of, standing_of, party_of}
use Rattle.wait_core.specs.Fits.{JobFits, Fits}
use Rattle.wait_core.specs.Stances.{Hand, Stance, Homes, stance_of, hand_at, slot_in, is_just, hand_amount, amount_by, home_amount, amount_on, times_on, order_on, sentinel_at, pops_at, target_or}
use Rattle.wait_core.specs.Barriers.{Attendance, attendance_of, waits_at, asked, asks_at, JobSuits, held_field, field_of, phase_in, phases, phases_in, takes_part}
use Rattle.wait_core.specs.Broadcasts.{listed_on, StandsBehind}
use Rattle.wait_core.specs.PassedPhaseIsBroadcast.{dozes, passed_at, goes_further, has_freed, IsBroadcastTo, PassedPhaseIsBroadcast}
use Rattle.wait_core.specs.Rule.{Rule}
use Rattle.wait_core.proofs.Effects.{spot_inside}
use Rattle.wait_core.proofs.Lists.{listed_there, stands_behind}
use Rattle.wait_core.proofs.Turns.{in_hand, Turn, stays, reaches, resets, takes as takes_list, frees}
use Rattle.wait_core.proofs.Turning.{view_turns}
use Rattle.wait_core.proofs.Owning.{amount_same, amount_out, amount_sent, amount_apart, amount_held, Alone, alone_stances, own_counts, counts_most}
use Rattle.wait_core.proofs.SpinInOneHand.{Hands, SpinsAreFlags, one_hand, home_out, sends_hand}
use Rattle.wait_core.proofs.TargetsAreListed.{sends_listed}
use Rattle.wait_core.proofs.Sentinel.{Goes, broadcast_goes, rebroadcast_goes, order_turn}
use Rattle.wait_core.proofs.Hands.{hand_follows, taking_free, IsNoFree, waits_stay, IsOfList, list_waits}
use Rattle.wait_core.proofs.Attachments.{waited, same_waited}
use Rattle.wait_core.proofs.Records.{ReadsNothing, opened_at, opened_same, field_same}
use Rattle.wait_core.proofs.RecordsKept.{apart_free, wide, spins, records_stay, found_reads, left_reads, others_read}
use Rattle.wait_core.proofs.Arriving.{phase_seen, phases_long}
use Rattle.wait_core.proofs.Dozing.{Course, course, Ends, GoesOn, course_follows, freed_dozes, passer_frees, rouses_passed, rouses_on_passed, phase_passes}

-- MOVES. Seats in calls stand as they did, and lists and phases read the same
module _ {C : Type 0} (z : Size) where
  abbrev Stand : WaitState C → WaitState C → Type 0
  Stand s t = (i : ℕ) (u : WaitView C) → get_elem? t.views i ≡ maybe.some u → (u.place ≡ [] → ⊥) → (v : WaitView C) × (get_elem? s.views i ≡ maybe.some v) × (v.own ≡ u.own) × (v.place ≡ u.place)

  carried_over : (s t : WaitState C) → Stand s t → Stand t s → ((f : List ℕ → ℕ) → f [] ≡ 0 → (c : ℕ) → amount_on f c t.homes (map stance_of t.views) ≡ amount_on f c s.homes (map stance_of s.views)) → phases_in z t ≡ phases_in z s → PassedPhaseIsBroadcast z s → PassedPhaseIsBroadcast z t
  carried_over s t back forth lists phases part i p b ph u at own waits dozing late listed = by_before (back i u at (λ e. let none = ap dozes e in cc))
    where
      by_after : (cover : IsBroadcastTo p b ph s) → (w : WaitView C) × (get_elem? t.views cover.id ≡ maybe.some w) × (w.own ≡ cover.view.own) × (w.place ≡ cover.view.place) → IsBroadcastTo p b ph t
      by_after cover (w, at_w, own_w, place) = record {
        id = cover.id;
        number = cover.number;
        view = w;
        at = at_w;
        own = own_w ∙ cover.own;
        apart = cover.apart;
        passed = ap passed_at place ∙ cover.passed;
        reaches = ⊎_elim (λ first. inl (ap has_freed place ∙ first)) (λ behind. let order = lists (precedes p cover.number) refl b in inr (omega arith)) cover.reaches;
      }

      by_cover : IsBroadcastTo p b ph s → IsBroadcastTo p b ph t
      by_cover cover = by_after cover (forth cover.id cover.view cover.at (λ e. let none = ap passed_at e in let some = cover.passed in cc))

      by_before : (v : WaitView C) × (get_elem? s.views i ≡ maybe.some v) × (v.own ≡ u.own) × (v.place ≡ u.place) → IsBroadcastTo p b ph t
      by_before (v, at_v, own_v, place) = let same = lists (times p) refl b in by_cover (part i p b ph v at_v (own_v ∙ own) (ap waits_at place ∙ waits) (ap dozes place ∙ dozing) (subst (λ (l : List ℕ). ph < now l b) phases late) (omega arith))

  -- a seat's view changes in what this doesn't see
  pub broadcast_set : (s : WaitState C) (words : List ℕ) (id : ℕ) (v w : WaitView C) → get_elem? s.views id ≡ maybe.some v → w.own ≡ v.own → w.place ≡ v.place → PassedPhaseIsBroadcast z s → PassedPhaseIsBroadcast z record { words = words; homes = s.homes; views = set s.views id w }
  broadcast_set s words id v w at own place = carried_over s record { words = words; homes = s.homes; views = set s.views id w }
      (λ i u e _. ⊎_elim (λ (x : (i ≡ id) × (w ≡ u)). (v, ap (get_elem? s.views) x.0 ∙ at, sym own ∙ ap (λ (y : WaitView C). y.own) x.1, sym place ∙ ap (λ (y : WaitView C). y.place) x.1)) (λ x. (u, x.1, refl, refl)) (at_set s.views id i w u e))
      (λ i u e _. dite (ℕ_discrete i id)
      (λ (same : i ≡ id). let is : v ≡ u = maybe.some-injective v u (sym at ∙ (ap (get_elem? s.views) (sym same) ∙ e)) in (w, ap (get_elem? (set s.views id w)) same ∙ set_there s.views id v w at, own ∙ ap (λ (y : WaitView C). y.own) is, place ∙ ap (λ (y : WaitView C). y.place) is))
      (λ (ne : i ≢ id). (u, set_else s.views id i w ne ∙ e, refl, refl)))
      (λ f none c. ap (amount_on f c s.homes) (map-set stance_of s.views id w) ∙ amount_same s.homes (map stance_of s.views) id (stance_of v) (stance_of w) (at_map stance_of s.views id v at) f none c (ap hand_at place))
      ((λ i. phases z s.homes (map-set attendance_of s.views id w i)) ∙ opened_same (λ b. phase_in b s.homes (map attendance_of s.views)) (λ b. phase_in b s.homes (set (map attendance_of s.views) id (attendance_of w))) z.bars
      (λ b below. field_same s.homes (map attendance_of s.views) id (attendance_of v) (attendance_of w) (at_map attendance_of s.views id v at) (λ r. r.phase) b (ap (held_field (λ r. r.phase) (slot_of (Bar b))) place)))

  -- a seat comes
  pub broadcast_more : (s : WaitState C) (w : WaitView C) → w.place ≡ [] → PassedPhaseIsBroadcast z s → PassedPhaseIsBroadcast z record { words = s.words; homes = s.homes; views = s.views ++ w ∷ [] }
  broadcast_more s w still = carried_over s record { words = s.words; homes = s.homes; views = s.views ++ w ∷ [] }
      (λ i u e call. ⊎_elim (λ there. (u, there, refl, refl)) (λ (is : w ≡ u). absurd (call (sym (ap (λ (y : WaitView C). y.place) is) ∙ still))) (at_snoc s.views w u i e))
      (λ i u e _. (u, at_longer s.views (w ∷ []) i u e, refl, refl))
      (λ f none c. ap (amount_on f c s.homes) (map-append stance_of s.views (w ∷ [])) ∙ (let sum = total_snoc (amount_by f c) (map stance_of s.views) (stance_of w) in let nothing : amount_by f c (stance_of w) ≡ 0 = ap (λ (q : Place). hand_amount f c (hand_at q)) still in omega arith))
      ((λ i. phases z s.homes (map-append attendance_of s.views (w ∷ []) i)) ∙ opened_same (λ b. phase_in b s.homes (map attendance_of s.views)) (λ b. phase_in b s.homes (map attendance_of s.views ++ attendance_of w ∷ [])) z.bars
      (λ b below. let sum = total_snoc (λ (u : Attendance C). held_field (λ r. r.phase) (slot_of (Bar b)) u.place) (map attendance_of s.views) (attendance_of w) in let nothing : held_field (λ r. r.phase) (slot_of (Bar b)) w.place ≡ 0 = ap (held_field (λ r. r.phase) (slot_of (Bar b))) still in omega arith))

  -- a seat in no call is spent
  pub broadcast_spent : (s : WaitState C) (other : ℕ) (w left : WaitView C) → get_elem? s.views other ≡ maybe.some w → w.place ≡ [] → left.place ≡ [] → PassedPhaseIsBroadcast z s → PassedPhaseIsBroadcast z record { words = s.words; homes = s.homes; views = set s.views other left }
  broadcast_spent s other w left at still gone = carried_over s record { words = s.words; homes = s.homes; views = set s.views other left }
      (λ i u e call. ⊎_elim (λ (x : (i ≡ other) × (left ≡ u)). absurd (call (sym (ap (λ (y : WaitView C). y.place) x.1) ∙ gone))) (λ x. (u, x.1, refl, refl)) (at_set s.views other i left u e))
      (λ i u e call. dite (ℕ_discrete i other)
      (λ (same : i ≡ other). let is : w ≡ u = maybe.some-injective w u (sym at ∙ (ap (get_elem? s.views) (sym same) ∙ e)) in absurd (call (sym (ap (λ (y : WaitView C). y.place) is) ∙ still)))
      (λ (ne : i ≢ other). (u, set_else s.views other i left ne ∙ e, refl, refl)))
      (λ f none c. ap (amount_on f c s.homes) (map-set stance_of s.views other left) ∙ amount_same s.homes (map stance_of s.views) other (stance_of w) (stance_of left) (at_map stance_of s.views other w at) f none c (ap hand_at gone ∙ sym (ap hand_at still)))
      ((λ i. phases z s.homes (map-set attendance_of s.views other left i)) ∙ opened_same (λ b. phase_in b s.homes (map attendance_of s.views)) (λ b. phase_in b s.homes (set (map attendance_of s.views) other (attendance_of left))) z.bars
      (λ b below. field_same s.homes (map attendance_of s.views) other (attendance_of w) (attendance_of left) (at_map attendance_of s.views other w at) (λ r. r.phase) b (ap (held_field (λ r. r.phase) (slot_of (Bar b))) (gone ∙ sym still))))

-- TURNS. Who is listed after one was so before it, or is the one who frees the list, and wasn't on it
module _ (z : Size) (words : List ℕ) (homes : Homes) (seats : List Stance) (wide : client_base z ≤ length words) (flags : SpinsAreFlags z words) (hands : Hands z words homes seats) (id : ℕ) (v : Stance) (at : get_elem? seats id ≡ maybe.some v) (after : Homes) (i x : ℕ) (w : Stance) (p c : ℕ) where
  abbrev WasListed : Type 0
  WasListed = (1 ≤ times_on p c homes seats) ⊎ ((found : List ℕ) × (v.own ≡ Some p) × (v.hand ≡ in_hand c found) × (times p found ≡ 0))

  unmoved : after ≡ homes → w.hand ≡ v.hand → 1 ≤ times_on p c after (set seats id w) → WasListed
  unmoved stay hand there = let now = subst (λ (h : Homes). 1 ≤ times_on p c h (set seats id w)) stay there in let same = amount_same homes seats id v w at (times p) refl c hand in inl (omega arith)

  was_listed : Turn z words homes after i x v w → 1 ≤ times_on p c after (set seats id w) → WasListed
  was_listed (stays still stay is) there = unmoved stay (ap (λ (u : Stance). u.hand) is) there
  was_listed (reaches r few at_r to stay popped is) there = unmoved stay (ap (λ (u : Stance). u.hand) is) there
  was_listed (resets r few own at_r to stay is) there = unmoved stay (ap (λ (u : Stance). u.hand) is) there
  was_listed (takes_list d k inside at_d to clear home goes free is) there = let now = subst (λ (h : Homes). 1 ≤ times_on p c h (set seats id w)) goes there in
      let same = amount_out homes seats id v w at (times p) refl c d k home free (ap (λ (u : Stance). u.hand) is) in inl (omega arith)
  was_listed (frees o d found k few inside own at_d to has nobody goes sends) there =
      let now = subst (λ (h : Homes). 1 ≤ times_on p c h (set seats id w)) goes there in let free = sends_hand o d found k.list.items v w sends in
      dite (ℕ_discrete c d)
      (λ (same : c ≡ d).
      let out = home_out z words homes seats wide flags hands id d v found at inside has in
      let held = amount_held (times p) refl homes seats id d v found at (one_hand z words homes seats wide flags hands d inside) out has in
      let sent = amount_sent homes seats id v w at (times p) refl c d found k out has free same in
      let here : times_on p c homes seats ≡ times_on p d homes seats = ap (λ (n : ℕ). times_on p n homes seats) same in
      dite (ℕ_discrete (times p found) 0)
      (λ (none : times p found ≡ 0). dite (ℕ_discrete o p)
      (λ (mine : o ≡ p). inr (found, own ∙ ap Some mine, subst (λ (n : ℕ). v.hand ≡ in_hand n found) (sym same) has, none))
      (λ (ne : o ≢ p). let less = (sends_listed o d found k.list.items v w sends).others p ne in absurd (omega arith)))
      (λ some. inl (omega arith)))
      (λ (ne : c ≢ d). let same = amount_apart homes seats id v w at (times p) refl c d found (maybe.some k) has free ne in inl (omega arith))

-- LISTS. Whoever stands behind another is on the list
hand_listed : (p q c : ℕ) (hand : Option Hand) → 1 ≤ hand_amount (precedes p q) c hand → 1 ≤ hand_amount (times q) c hand
hand_listed p q c None some = absurd (omega arith)
hand_listed p q c (Some h) some = by_slot (eqb h.slot c) some
  where
    by_slot : (b : Bool) → 1 ≤ cond {A = ℕ} b (precedes p q h.list) 0 → 1 ≤ cond {A = ℕ} b (times q h.list) 0
    by_slot true some = stands_behind p q h.list some
    by_slot false some = absurd (omega arith)

order_listed : (p q c : ℕ) (homes : Homes) (seats : List Stance) → 1 ≤ order_on p q c homes seats → 1 ≤ times_on q c homes seats
order_listed p q c homes seats some = dite (ℕ_discrete (home_amount (precedes p q) c homes) 0)
    (λ none. let t = total_some (amount_by (precedes p q) c) seats (omega arith) in let there = hand_listed p q c t.1.hand t.3 in let all = total_at (amount_by (times q) c) seats t.0 t.1 t.2 in omega arith)
    (λ home. let there = stands_behind p q (home_of (get_elem? homes c)).list.items (omega arith) in omega arith)

no_hand : (p : Place) → slot_in (hand_at p) ≡ None → hand_at p ≡ None
no_hand p none = by_hand (hand_at p) none
  where
    by_hand : (h : Option Hand) → slot_in h ≡ None → h ≡ None
    by_hand None none = refl
    by_hand (Some h) none = absurd (cc)

unfreed_hand : (z : Size) (k : WaitStep) (own t : Option ℕ) (p : Place) → IsNoFree k → Permits z k own t p → hand_at p ≡ None
unfreed_hand z (Take x b) own t p apart ok = no_hand p (taking_free z t x b own p ok)
unfreed_hand z (Free x a) own t p apart ok = absurd apart
unfreed_hand z k own t p apart ok = no_hand p (apart_free z k own t p tt ok)

abbrev list_in : Option Hand → List ℕ
list_in None = []
list_in (Some h) = h.list

-- a step frees what is in hand, or nothing
data Frees (k : WaitStep) (p : Place) : Type 0 where
  nothing : IsNoFree k → Frees k p
  in_job : (j : Job) (list : List ℕ) (found : Record) (q : Place) (a : Option ℕ) → p ≡ Holding j list found ∷ q → k ≡ Free (spot_of j) a → Frees k p

what_frees : (z : Size) (k : WaitStep) (own t : Option ℕ) (p : Place) → Permits z k own t p → Frees k p
what_frees z (Free x a) own t (Holding j list found ∷ p) ok = in_job j list found p a refl (λ i. Free (sym ok.1.0 i) a)
what_frees z (Free x a) own t p ok = absurd ok.1
what_frees z k own t p ok = nothing tt

-- the slot of a record is that of its barrier alone
bar_slot : (z : Size) (x : Spot) (b : ℕ) → z.cvs ≤ most_conditions → IsSpot z x → slot_of x ≡ slot_of (Bar b) → x ≡ Bar b
bar_slot z (Cv c) b most inside same = absurd (omega arith)
bar_slot z (Bar d) b most inside same = let is : d ≡ b = omega arith in ap Bar is

-- THE STEPS, of the backend o in the seat id
module _ {C : Type 0} (means : Meanings C) (z : Size) (phase count : ℕ) (s : WaitState C) (r : Rule means z phase count s) (id : ℕ) (v : WaitView C) (o : ℕ) (at : get_elem? s.views id ≡ maybe.some v) (own : v.own ≡ Some o) (below : o < z.procs) where
  abbrev seats : List Stance
  seats = map stance_of s.views

  abbrev attends : List (Attendance C)
  attends = map attendance_of s.views

  alone : Alone seats
  alone = alone_stances z.procs (get_or s.words 0 0) s.views r.roster

  many : client_base z ≤ length s.words
  many = wide means z phase count s r

  flags : SpinsAreFlags z s.words
  flags = spins means z phase count s r

  there : get_elem? seats id ≡ maybe.some (stance_of v)
  there = at_map stance_of s.views id v at

  attending : get_elem? attends id ≡ maybe.some (attendance_of v)
  attending = at_map attendance_of s.views id v at

  fits : Fits z.cvs v.target v.place
  fits = r.places.fits id (standing_of v) (at_map standing_of s.views id v at)

  other_number : (i : ℕ) (u : WaitView C) (p : ℕ) → i ≢ id → get_elem? s.views i ≡ maybe.some u → u.own ≡ Some p → p ≢ o
  other_number i u p ne e its same = ne (one_seat z.procs (get_or s.words 0 0) (map numbers_of s.views) r.roster i id o (numbers_of u) (numbers_of v) (at_map numbers_of s.views i u e) (at_map numbers_of s.views id v at) (its ∙ ap Some same) own)

  -- a seat that waits knows the phase from which it does
  bar_inside : (i : ℕ) (u : WaitView C) (b ph : ℕ) → get_elem? s.views i ≡ maybe.some u → phase_of u.attached b ≡ Some ph → b < z.bars
  bar_inside i u b ph e known = subst (λ (n : ℕ). b < n) (phases_long means z phase count s r) (r.barriers.inside i (party_of u) (at_map party_of s.views i u e) b ph known)

  is_attached : (i : ℕ) (u : WaitView C) (b ph : ℕ) → get_elem? s.views i ≡ maybe.some u → waits_at u.place ≡ waited b ph → phase_of u.attached b ≡ Some ph
  is_attached i u b ph e waits = (r.waiters i (attendance_of u) (at_map attendance_of s.views i u e) b ph waits).attached

  phase_near : (i : ℕ) (u : WaitView C) (b ph : ℕ) → get_elem? s.views i ≡ maybe.some u → waits_at u.place ≡ waited b ph → (now (phases_in z s) b ≡ ph) ⊎ (now (phases_in z s) b ≡ suc ph)
  phase_near i u b ph e waits = ⊎_elim (λ here. inl here) (λ late. inr late.0) (r.known i (attendance_of u) (at_map attendance_of s.views i u e) b ph (is_attached i u b ph e waits))

  abbrev phase_was : ℕ → ℕ
  phase_was b = phase_in b s.homes attends

  module _ (k : WaitStep) (ok : Permits z k (Some o) v.target v.place) (small : get_or s.words (word_of z o k) 0 ≤ 1) where
    abbrev word : ℕ
    word = get_or s.words (word_of z o k) 0

    abbrev taken_out : Kept
    taken_out = home_in s.homes (slot_number k)

    abbrev next : WaitView C
    next = next_with z k v word taken_out

    abbrev state : WaitState C
    state = stepped s (word_of z o k) (becomes k word) id (carried k o v.place) next (act_of k word taken_out)

    abbrev phase_is : ℕ → ℕ
    phase_is b = phase_in b state.homes (map attendance_of state.views)

    now_is : (b : ℕ) → b < z.bars → now (phases_in z state) b ≡ phase_is b
    now_is b inside = opened_at (λ c. phase_in c state.homes (map attendance_of state.views)) z.bars b inside

    now_was : (b : ℕ) → b < z.bars → now (phases_in z s) b ≡ phase_was b
    now_was b inside = phase_seen means z phase count s r b inside

    seen : map stance_of state.views ≡ set seats id (stance_of next)
    seen = map-set stance_of s.views id next

    turned : Turn z s.words s.homes state.homes (word_of z o k) (becomes k word) (stance_of v) (stance_of next)
    turned = view_turns z r.sized.cvs s.words s.homes o below v k (λ x less none. (r.lists.hands x less).at_home none) own ok fits small

    before : (p b : ℕ) → 1 ≤ listed_on p b state → WasListed z s.words s.homes seats many flags r.lists.hands id (stance_of v) there state.homes (word_of z o k) (becomes k word) (stance_of next) p b
    before p b listed = was_listed z s.words s.homes seats many flags r.lists.hands id (stance_of v) there state.homes (word_of z o k) (becomes k word) (stance_of next) p b turned (subst (λ (l : List Stance). 1 ≤ times_on p b state.homes l) seen listed)

    -- who is listed still stands before the sentinel
    still_behind : (p q b : ℕ) → (v.own ≡ Some q → hand_at v.place ≡ None) → 1 ≤ listed_on p b state → StandsBehind q p b s → StandsBehind q p b state
    still_behind p q b free listed behind = ⊎_elim
        (λ off. absurd (let none = subst (λ (l : List Stance). times_on p b state.homes l ≡ 0) (sym seen) off.gone in omega arith))
        (λ still. subst (λ (l : List Stance). 1 ≤ order_on p q b state.homes l) (sym seen) still)
        (order_turn z s.words s.homes seats many flags r.lists.hands alone r.lists.listed id (stance_of v) there state.homes (word_of z o k) (becomes k word) (stance_of next) p q b free turned behind)

    -- the broadcast of another seat reaches whom it reached
    by_other : (p b ph : ℕ) → 1 ≤ listed_on p b state → (cover : IsBroadcastTo p b ph s) → cover.id ≢ id → IsBroadcastTo p b ph state
    by_other p b ph listed cover ne = record {
      id = cover.id;
      number = cover.number;
      view = cover.view;
      at = set_else s.views id cover.id next ne ∙ cover.at;
      own = cover.own;
      apart = cover.apart;
      passed = cover.passed;
      reaches = ⊎_elim inl (λ behind. inr (still_behind p cover.number b (λ mine. absurd (other_number cover.id cover.view cover.number ne cover.at cover.own (let e = sym mine ∙ own in cc))) listed behind)) cover.reaches;
    }

    -- WHAT THE STEP OWES
    abbrev PhaseGoes : ℕ → Type 0
    PhaseGoes b = (phase_is b ≡ phase_was b)
        ⊎ (((passed_at next.place ≡ waited b (phase_was b)) × (has_freed next.place ≡ false) × (dozes next.place ≡ false))
        ⊎ ((field_of (λ r. r.participants) b s.homes attends ≡ 1) × ((g : ℕ) × (phase_of v.attached b ≡ Some g)) × (dozes next.place ≡ false)))

    record Owed : Type 0 where
      -- the seat slept in its arrival, and was listed, where it sleeps there after a phase has passed
      slept : (b ph : ℕ) → waits_at next.place ≡ waited b ph → dozes next.place ≡ true → ph < now (phases_in z state) b → 1 ≤ listed_on o b state → (waits_at v.place ≡ waited b ph) × (dozes v.place ≡ true) × (1 ≤ listed_on o b s)
      -- where it broadcasts, it goes on with that
      broadcasts : (p b ph : ℕ) → o ≢ p → b < z.bars → 1 ≤ listed_on p b s → 1 ≤ listed_on p b state → passed_at v.place ≡ waited b ph → (has_freed v.place ≡ false) ⊎ StandsBehind o p b s → (passed_at next.place ≡ waited b ph) × ((has_freed next.place ≡ false) ⊎ StandsBehind o p b state)
      -- a phase passes where it broadcasts then, or takes part alone
      passes : (b : ℕ) → b < z.bars → PhaseGoes b

    -- who sleeps in an arrival passed no phase
    passes_none : (b : ℕ) → dozes next.place ≡ true → PhaseGoes b → phase_is b ≡ phase_was b
    passes_none b dozing (inl same) = same
    passes_none b dozing (inr (inl t)) = absurd (let none = t.2 in cc)
    passes_none b dozing (inr (inr t)) = absurd (let none = t.2 in cc)

    -- where the broadcast is that of the seat itself
    is_mine : (p b ph : ℕ) (cover : IsBroadcastTo p b ph s) → cover.id ≡ id → (cover.view ≡ v) × (cover.number ≡ o)
    is_mine p b ph cover same = by_view (maybe.some-injective cover.view v (sym cover.at ∙ (ap (get_elem? s.views) same ∙ at)))
      where
        by_view : cover.view ≡ v → (cover.view ≡ v) × (cover.number ≡ o)
        by_view is = (is, let e : Some cover.number ≡ Some o = sym cover.own ∙ (ap (λ (y : WaitView C). y.own) is ∙ own) in cc)

    module _ (owed : Owed) where
      -- the seat sleeps in its arrival
      for_own : (b ph : ℕ) → waits_at next.place ≡ waited b ph → dozes next.place ≡ true → ph < now (phases_in z state) b → 1 ≤ listed_on o b state → IsBroadcastTo o b ph state
      for_own b ph waits dozing late listed = by_before (owed.slept b ph waits dozing late listed)
        where
          by_before : (waits_at v.place ≡ waited b ph) × (dozes v.place ≡ true) × (1 ≤ listed_on o b s) → IsBroadcastTo o b ph state
          by_before (waited_there, slept_there, was) =
              let inside = bar_inside id v b ph at (is_attached id v b ph at waited_there) in
              let same = passes_none b dozing (owed.passes b inside) in let then = now_is b inside in let first = now_was b inside in
              let cover = r.broadcasts id o b ph v at own waited_there slept_there (omega arith) was in
              by_other o b ph listed cover (λ mine. cover.apart (is_mine o b ph cover mine).1)

      -- another does
      module _ (i p b ph : ℕ) (u : WaitView C) (ne : i ≢ id) (at_u : get_elem? s.views i ≡ maybe.some u) (its : u.own ≡ Some p) (waits : waits_at u.place ≡ waited b ph) (dozing : dozes u.place ≡ true) (late : ph < now (phases_in z state) b) (listed : 1 ≤ listed_on p b state) where
        others : p ≢ o
        others = other_number i u p ne at_u its

        inside : b < z.bars
        inside = bar_inside i u b ph at_u (is_attached i u b ph at_u waits)

        by_seat : (passed_at next.place ≡ waited b ph) × ((has_freed next.place ≡ false) ⊎ StandsBehind o p b state) → IsBroadcastTo p b ph state
        by_seat goes = record { id = id; number = o; view = next; at = set_there s.views id v next at; own = own; apart = λ same. others (sym same); passed = goes.0; reaches = goes.1 }

        -- the phase passes in this step
        for_next : now (phases_in z s) b ≡ ph → PhaseGoes b → IsBroadcastTo p b ph state
        for_next on (inl same) = let then = now_is b inside in let first = now_was b inside in absurd (omega arith)
        for_next on (inr (inl t)) = by_seat (t.0 ∙ ap (waited b) (sym (now_was b inside) ∙ on), inl t.1)
        for_next on (inr (inr t)) =
            let two = total_two (takes_part b) attends id i (attendance_of v) (attendance_of u) ne attending (at_map attendance_of s.views i u at_u) in let one : takes_part b (attendance_of v) ≡ 1 = ap one_if t.1.1 in
            let other : takes_part b (attendance_of u) ≡ 1 = ap one_if (is_attached i u b ph at_u waits) in let counted = r.participants b inside in let only = t.0 in absurd (omega arith)

        was_there : WasListed z s.words s.homes seats many flags r.lists.hands id (stance_of v) there state.homes (word_of z o k) (becomes k word) (stance_of next) p b → 1 ≤ listed_on p b s
        was_there (inl was) = was
        was_there (inr t) = absurd (others (let e : Some p ≡ Some o = sym t.1 ∙ own in cc))

        -- it had passed before
        for_past : 1 ≤ listed_on p b s → IsBroadcastTo p b ph s → IsBroadcastTo p b ph state
        for_past was cover = dite (ℕ_discrete cover.id id) (λ (mine : cover.id ≡ id). by_mine (is_mine p b ph cover mine)) (λ (apart : cover.id ≢ id). by_other p b ph listed cover apart)
          where
            by_mine : (cover.view ≡ v) × (cover.number ≡ o) → IsBroadcastTo p b ph state
            by_mine (is, number) = by_seat (owed.broadcasts p b ph (λ same. others (sym same)) inside was listed (ap (λ (y : WaitView C). passed_at y.place) (sym is) ∙ cover.passed)
                (⊎_elim (λ first. inl (ap (λ (y : WaitView C). has_freed y.place) (sym is) ∙ first)) (λ behind. inr (subst (λ (n : ℕ). StandsBehind n p b s) number behind)) cover.reaches))

        for_other : IsBroadcastTo p b ph state
        for_other = ⊎_elim (λ (on : now (phases_in z s) b ≡ ph). for_next on (owed.passes b inside))
            (λ (past : now (phases_in z s) b ≡ suc ph). let was = was_there (before p b listed) in for_past was (r.broadcasts i p b ph u at_u its waits dozing (omega arith) was)) (phase_near i u b ph at_u waits)

      finish : PassedPhaseIsBroadcast z state
      finish i p b ph u e its waits dozing late listed = ⊎_elim
          (λ (x : (i ≡ id) × (next ≡ u)). by_own x.1 (let e : Some o ≡ Some p = sym own ∙ (ap (λ (y : WaitView C). y.own) x.1 ∙ its) in cc))
          (λ (x : (i ≢ id) × (get_elem? s.views i ≡ maybe.some u)). for_other i p b ph u x.0 x.1 its waits dozing late listed) (at_set s.views id i next u e)
        where
          by_own : next ≡ u → o ≡ p → IsBroadcastTo p b ph state
          by_own is mine = subst (λ (n : ℕ). IsBroadcastTo n b ph state) mine (for_own b ph (ap (λ (y : WaitView C). waits_at y.place) is ∙ waits) (ap (λ (y : WaitView C). dozes y.place) is ∙ dozing) late (subst (λ (n : ℕ). 1 ≤ listed_on n b state) (sym mine) listed))

  -- A STEP THAT FREES NOTHING
  module _ (k : WaitStep) (ok : Permits z k (Some o) v.target v.place) (small : get_or s.words (word_of z o k) 0 ≤ 1) (none : IsNoFree k) where
    abbrev after : WaitView C
    after = next k ok small

    free : hand_at v.place ≡ None
    free = unfreed_hand z k (Some o) v.target v.place none ok

    goes : GoesOn v.target v.place after.place
    goes = course_follows z v.target k (Some o) (number_of v.own) (word k ok small) (taken_out k ok small) v.place none ok fits

    -- who stands before a sentinel stands there no more once the broadcast has ended
    unlisted : (p b : ℕ) → b < slots_in z → Ends v.target v.place after.place → StandsBehind o p b s → ⊥
    unlisted p b inside ends behind =
        let on = order_listed p o b s.homes seats behind in let low = r.lists.listed o b inside in
        let mine = own_counts seats alone id o (stance_of v) (stance_of v) there own refl (λ (u : Stance). u.belongs) b in
        let nowhere : is_just b (stance_of v).belongs ≡ 0 = (λ i. is_just b (target_or (ends.1 i) (ends.2 i))) in omega arith

  frees_nothing : (k : WaitStep) (ok : Permits z k (Some o) v.target v.place) (small : get_or s.words (word_of z o k) 0 ≤ 1) → IsNoFree k → Owed k ok small
  frees_nothing k ok small none = record {
    slept = λ b ph waits dozing late listed. ⊎_elim
        (λ (same : course (next k ok small).place ≡ course v.place). (
          sym (waits_stay z v.target k (Some o) (number_of v.own) (word k ok small) (taken_out k ok small) v.place none ok) ∙ waits,
          sym (ap (λ (c : Course). c.0) same) ∙ dozing,
          ⊎_elim (λ was. was) (λ (t : (found : List ℕ) × (v.own ≡ Some o) × (hand_at v.place ≡ in_hand b found) × (times o found ≡ 0)). absurd (let e = sym (free k ok small none) ∙ t.2 in cc)) (before k ok small o b listed),
        ))
        (λ (ends : Ends v.target v.place (next k ok small).place). absurd (let no = ap dozes ends.3 in cc)) (goes k ok small none);
    broadcasts = λ p b ph ne inside was listed passed reached. ⊎_elim
        (λ (same : course (next k ok small).place ≡ course v.place). (
          ap (λ (c : Course). c.1) same ∙ passed,
          ⊎_elim (λ (first : has_freed v.place ≡ false). inl (ap (λ (c : Course). c.2) same ∙ first)) (λ behind. inr (still_behind k ok small p o b (λ mine. free k ok small none) listed behind)) reached,
        ))
        (λ (ends : Ends v.target v.place (next k ok small).place). absurd (⊎_elim (λ (first : has_freed v.place ≡ false). let freed = ends.0 in cc) (λ behind. unlisted k ok small none p b (let wide = r.sized.bars in let most = r.sized.cvs in omega arith) ends behind) reached)) (goes k ok small none);
    passes = λ b inside. inl (ap (field_of (λ y. y.phase) b (state k ok small).homes) (map-set attendance_of s.views id (next k ok small)) ∙ records_stay means z phase count s r id v o at k none ok (λ y. y.phase) refl b);
  }

  -- THE FREE OF A SPIN WORD
  module _ (j : Job) (list : List ℕ) (found : Record) (q : Place) (a : Option ℕ) (place : v.place ≡ Holding j list found ∷ q) (ok : Permits z (Free (spot_of j) a) (Some o) v.target v.place) (small : get_or s.words (word_of z o (Free (spot_of j) a)) 0 ≤ 1) where
    abbrev step : WaitStep
    step = Free (spot_of j) a

    abbrev goes_to : WaitView C
    goes_to = next step ok small

    abbrev slot : ℕ
    slot = slot_of (spot_of j)

    abbrev kept : Kept
    kept = left_at o v.place

    place_is : goes_to.place ≡ goes_on j o list found q
    place_is = ap (λ (x : ℕ). freed x v.place) (ap number_of own) ∙ ap (freed o) place

    job_fits : JobFits z.cvs v.target j q
    job_fits = subst (Fits z.cvs v.target) place fits

    low : slot < slots_in z
    low = spot_inside z (spot_of j) r.sized.cvs ok.0

    has : hand_at v.place ≡ in_hand slot list
    has = ap hand_at place

    out : get_elem? s.homes slot ≡ maybe.some maybe.none
    out = home_out z s.words s.homes seats many flags r.lists.hands id slot (stance_of v) list there low has

    left_free : slot_in (hand_at goes_to.place) ≡ None
    left_free = hand_follows z v.target step (Some o) (number_of v.own) (word step ok small) (taken_out step ok small) v.place ok fits

    -- RECORDS
    attends_then : map attendance_of (state step ok small).views ≡ set attends id (attendance_of goes_to)
    attends_then = map-set attendance_of s.views id goes_to

    field_found : (f : Record → ℕ) → ReadsNothing f → (b : ℕ) → slot ≡ slot_of (Bar b) → field_of f b s.homes attends ≡ f found
    field_found f blank b is = found_reads means z phase count s r id v o at j list found q place low f blank b is

    phase_left : (b : ℕ) → slot ≡ slot_of (Bar b) → phase_is step ok small b ≡ (left_record j found).phase
    phase_left b is = ap (field_of (λ y. y.phase) b (state step ok small).homes) attends_then
        ∙ (left_reads means z phase count s r id v o at j list found q place low goes_to left_free kept (λ y. y.phase) refl b is ∙ ap (λ (p : Place). (left_at o p).record.phase) place)

    phase_apart : (b : ℕ) → slot ≢ slot_of (Bar b) → phase_is step ok small b ≡ phase_was b
    phase_apart b ne = ap (field_of (λ y. y.phase) b (state step ok small).homes) attends_then ∙ others_read means z phase count s r id v o at j list found q place low goes_to left_free kept (λ y. y.phase) refl b ne

    except_last : (b : ℕ) → j ≡ job.ExceptLast b → (g : ℕ) × (phase_of v.attached b ≡ Some g)
    except_last b is = let suits = subst (λ (x : Option Job). JobSuits means x (party_of v)) (ap asks_at place ∙ ap asked is) (r.suits id (attendance_of v) attending) in (suits.0, suits.1)

    phase_goes : (b : ℕ) → b < z.bars → PhaseGoes step ok small b
    phase_goes b inside = dite (ℕ_discrete slot (slot_of (Bar b)))
        (λ (is : slot ≡ slot_of (Bar b)).
        let was = field_found (λ y. y.phase) refl b is in let now = phase_left b is in
        ⊎_elim (λ (same : (left_record j found).phase ≡ found.phase). inl (omega arith))
        (⊎_elim (λ (t : (passed_at (goes_on j o list found q) ≡ waited b found.phase) × (has_freed (goes_on j o list found q) ≡ false) × (dozes (goes_on j o list found q) ≡ false)).
        inr (inl (ap passed_at place_is ∙ (t.0 ∙ ap (waited b) (sym was)), ap has_freed place_is ∙ t.1, ap dozes place_is ∙ t.2)))
        (λ (t : (found.participants ≡ 1) × (j ≡ job.ExceptLast b) × (dozes (goes_on j o list found q) ≡ false)).
        inr (inr (field_found (λ y. y.participants) refl b is ∙ t.0, except_last b t.1, ap dozes place_is ∙ t.2))))
        (phase_passes z.cvs v.target o list found j q b job_fits (bar_slot z (spot_of j) b r.sized.cvs ok.0 is)))
        (λ (ne : slot ≢ slot_of (Bar b)). inl (phase_apart b ne))

    -- WHO SLEEPS
    finds_passed : (d g b ph : ℕ) → j ≡ job.Notice d g → has_passed g found ≡ false → waits_at goes_to.place ≡ waited b ph → dozes goes_to.place ≡ true → ph < now (phases_in z (state step ok small)) b → ⊥
    finds_passed d g b ph is unpassed waits dozing late =
        let goes : goes_on j o list found q ≡ Dozing d g ∷ q = ap (λ (x : Job). goes_on x o list found q) is ∙ ap (λ (x : Bool). cond x (Returning d g ∷ q) (Dozing d g ∷ q)) unpassed in
        let same = same_waited d g b ph (sym (ap waits_at (place_is ∙ goes)) ∙ waits) in
        let here : waits_at v.place ≡ waited b ph = ap waits_at (place ∙ ap (λ (x : Job). Holding x list found ∷ q) is) ∙ (λ i. waited (same.0 i) (same.1 i)) in
        let inside = bar_inside id v b ph at (is_attached id v b ph at here) in
        let spot : slot ≡ slot_of (Bar b) = ap (λ (x : Job). slot_of (spot_of x)) is ∙ ap (λ (n : ℕ). slot_of (Bar n)) same.0 in
        let was = field_found (λ y. y.phase) refl b spot in let there = now_was step ok small b inside in let then = now_is step ok small b inside in
        let same_phase = passes_none step ok small b dozing (phase_goes b inside) in
        let ne = eqb-false found.phase (g + 1) unpassed in let f = same.1 in
        ⊎_elim (λ (on : now (phases_in z s) b ≡ ph). omega arith) (λ (past : now (phases_in z s) b ≡ suc ph). ne (omega arith)) (phase_near id v b ph at here)

    slept_there : (b ph : ℕ) → waits_at goes_to.place ≡ waited b ph → dozes goes_to.place ≡ true → ph < now (phases_in z (state step ok small)) b → 1 ≤ listed_on o b (state step ok small) → (waits_at v.place ≡ waited b ph) × (dozes v.place ≡ true) × (1 ≤ listed_on o b s)
    slept_there b ph waits dozing late listed = ⊎_elim
        (λ (t : (dozes q ≡ true) × (is_listed o list ≡ true) × ((c : ℕ) × (j ≡ job.Resleep c))). (
          ap waits_at place ∙ (sym (list_waits j o list found q (subst IsOfList (sym t.2.1) tt)) ∙ (sym (ap waits_at place_is) ∙ waits)),
          ap dozes place ∙ t.0,
          ⊎_elim (λ was. was) (λ (x : (found : List ℕ) × (v.own ≡ Some o) × (hand_at v.place ≡ in_hand b found) × (times o found ≡ 0)).
              let same : x.0 ≡ list = ap list_in (sym x.2 ∙ has) in let some = listed_there o list t.1 in let count = ap (times o) same in let none = x.3 in absurd (omega arith)) (before step ok small o b listed),
        ))
        (λ (t : (d : ℕ) × (g : ℕ) × (j ≡ job.Notice d g) × (has_passed g found ≡ false)). absurd (finds_passed t.0 t.1 b ph t.2 t.3 waits dozing late))
        (freed_dozes z.cvs v.target o list found j q job_fits (sym (ap dozes place_is) ∙ dozing))

    -- WHO BROADCASTS. Each list reads what was found, and then what is left
    count_found : (f : List ℕ → ℕ) → f [] ≡ 0 → amount_on f slot s.homes seats ≡ f list
    count_found f none = amount_held f none s.homes seats id slot (stance_of v) list there (one_hand z s.words s.homes seats many flags r.lists.hands slot low) out has

    count_left : (f : List ℕ → ℕ) → f [] ≡ 0 → hand_at goes_to.place ≡ None → amount_on f slot (state step ok small).homes (map stance_of (state step ok small).views) ≡ f (left_list j o list)
    count_left f none clear =
        let sent = amount_sent s.homes seats id (stance_of v) (stance_of goes_to) there f none slot slot list kept out has clear refl in let held = count_found f none in
        let left : f kept.list.items ≡ f (left_list j o list) = ap (λ (p : Place). f (left_at o p).list.items) place in
        ap (amount_on f slot (state step ok small).homes) (seen step ok small) ∙ omega arith

    once : (p : ℕ) → times p list ≤ 1
    once p = let count = count_found (times p) refl in let belongs = r.lists.listed p slot low in let most = counts_most seats p slot (λ (u : Stance). u.belongs) alone in omega arith

    -- the sentinel stands behind whoever is still listed
    reaches_on : (p b : ℕ) → slot ≡ b → Goes p o slot (left_list j o list) (goes_on j o list found q) → 1 ≤ listed_on p b (state step ok small) → (sentinel_at (goes_on j o list found q) ≡ Some b) × StandsBehind o p b (state step ok small)
    reaches_on p b is goes listed = subst (λ (n : ℕ). 1 ≤ listed_on p n (state step ok small) → (sentinel_at (goes_on j o list found q) ≡ Some n) × StandsBehind o p n (state step ok small)) is
        (λ some. let clear = ap hand_at place_is ∙ goes.0 in let count = count_left (times p) refl clear in let order = count_left (precedes p o) refl clear in
        ⊎_elim (λ (t : (times p (left_list j o list) ≡ 0) × (pops_at (goes_on j o list found q) ≡ Some p)). let none = t.0 in absurd (omega arith))
        (λ (t : (sentinel_at (goes_on j o list found q) ≡ Some slot) × (1 ≤ precedes p o (left_list j o list))). let behind = t.1 in (t.0, omega arith)) goes.1) listed

    listed_here : (p b : ℕ) → slot ≡ b → 1 ≤ listed_on p b s → 1 ≤ times p list
    listed_here p b is some = let count = count_found (times p) refl in let same : listed_on p slot s ≡ listed_on p b s = ap (λ (n : ℕ). listed_on p n s) is in omega arith

    before_here : (p b : ℕ) → slot ≡ b → StandsBehind o p b s → 1 ≤ precedes p o list
    before_here p b is behind = let count = count_found (precedes p o) refl in let same : order_on p o slot s.homes seats ≡ order_on p o b s.homes seats = ap (λ (n : ℕ). order_on p o n s.homes seats) is in omega arith

    abbrev Broadcasts : ℕ → ℕ → ℕ → Type 0
    Broadcasts p b ph = (passed_at goes_to.place ≡ waited b ph) × ((has_freed goes_to.place ≡ false) ⊎ StandsBehind o p b (state step ok small))

    first_free : (p b ph : ℕ) → p ≢ o → j ≡ job.Broadcast b → q ≡ Passing b ph ∷ [] → 1 ≤ listed_on p b s → 1 ≤ listed_on p b (state step ok small) → Broadcasts p b ph
    first_free p b ph ne is behind was listed =
        let spot : slot ≡ b = ap (λ (x : Job). slot_of (spot_of x)) is in
        let goes : Goes p o b (left_list j o list) (goes_on j o list found q) = subst (λ (x : Job). Goes p o b (left_list x o list) (goes_on x o list found q)) (sym is) (broadcast_goes p o b q list ne (once p) (listed_here p b spot was)) in
        let reached = reaches_on p b spot (subst (λ (n : ℕ). Goes p o n (left_list j o list) (goes_on j o list found q)) (sym spot) goes) listed in
        let then : goes_on j o list found q ≡ rouses b list (Passing b ph ∷ []) = (λ i. goes_on (is i) o list found (behind i)) in
        (ap passed_at (place_is ∙ then) ∙ rouses_passed z.cvs v.target o list found b ph list (sym (ap sentinel_at then) ∙ reached.0), inr reached.1)

    later_free : (p b ph : ℕ) → p ≢ o → j ≡ job.Rebroadcast b → q ≡ Passing b ph ∷ [] → StandsBehind o p b s → 1 ≤ listed_on p b (state step ok small) → Broadcasts p b ph
    later_free p b ph ne is behind stood listed =
        let spot : slot ≡ b = ap (λ (x : Job). slot_of (spot_of x)) is in
        let goes : Goes p o b (left_list j o list) (goes_on j o list found q) = subst (λ (x : Job). Goes p o b (left_list x o list) (goes_on x o list found q)) (sym is) (rebroadcast_goes p o b q list ne (once p) (once o) (before_here p b spot stood)) in
        let reached = reaches_on p b spot (subst (λ (n : ℕ). Goes p o n (left_list j o list) (goes_on j o list found q)) (sym spot) goes) listed in
        let then : goes_on j o list found q ≡ rouses_on b o list (Passing b ph ∷ []) = (λ i. goes_on (is i) o list found (behind i)) in
        (ap passed_at (place_is ∙ then) ∙ rouses_on_passed z.cvs v.target o list found b ph list (sym (ap sentinel_at then) ∙ reached.0), inr reached.1)

    broadcasts_on : (p b ph : ℕ) → o ≢ p → b < z.bars → 1 ≤ listed_on p b s → 1 ≤ listed_on p b (state step ok small) → passed_at v.place ≡ waited b ph → (has_freed v.place ≡ false) ⊎ StandsBehind o p b s → Broadcasts p b ph
    broadcasts_on p b ph ne inside was listed passed reached = ⊎_elim
        (λ (t : (passed_at (goes_on j o list found q) ≡ waited b ph) × (has_freed (goes_on j o list found q) ≡ false)). (ap passed_at place_is ∙ t.0, inl (ap has_freed place_is ∙ t.1)))
        (λ (t : (q ≡ Passing b ph ∷ []) × (v.target ≡ None) × ((j ≡ job.Broadcast b) ⊎ (j ≡ job.Rebroadcast b))). ⊎_elim
        (λ (is : j ≡ job.Broadcast b). first_free p b ph (λ same. ne (sym same)) is t.0 was listed)
        (λ (is : j ≡ job.Rebroadcast b). later_free p b ph (λ same. ne (sym same)) is t.0 (⊎_elim (λ (first : has_freed v.place ≡ false). absurd (let freed = ap has_freed place ∙ ap goes_further is in cc)) (λ behind. behind) reached) listed) t.2)
        (passer_frees z.cvs v.target o list found b ph j q job_fits (sym (ap passed_at place) ∙ passed))

    frees_job : Owed step ok small
    frees_job = record { slept = slept_there; broadcasts = broadcasts_on; passes = phase_goes }

  -- EACH STEP
  pub passed_step : (k : WaitStep) (ok : Permits z k (Some o) v.target v.place) (small : get_or s.words (word_of z o k) 0 ≤ 1) → PassedPhaseIsBroadcast z (state k ok small)
  passed_step k ok small = by_frees (what_frees z k (Some o) v.target v.place ok)
    where
      by_frees : Frees k v.place → PassedPhaseIsBroadcast z (state k ok small)
      by_frees (nothing none) = finish k ok small (frees_nothing k ok small none)
      by_frees (in_job j list found q a place is) = subst (λ (x : WaitStep). (ok : Permits z x (Some o) v.target v.place) (small : get_or s.words (word_of z o x) 0 ≤ 1) → PassedPhaseIsBroadcast z (state x ok small)) (sym is)
          (λ ok small. finish (Free (spot_of j) a) ok small (frees_job j list found q a place ok small)) ok small

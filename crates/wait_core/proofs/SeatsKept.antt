-- Steps of the client, and the drawing and joining of seats, keep the whole rule.
use Rattle.std.proofs.Common.{◌≡◌, ℕ, ◌+◌, ◌<◌, ◌≤◌, List, [], ◌∷◌, ◌++◌, map, drop, length, get_or, set, Option, None, Some, refl, sym, ap, ◌∙◌, subst, ⊎_elim, arith, length-set, length-append, get_or-set_same, get_or-set_other}
use Rattle.std.proofs.lemmas.List.{drop-set-lt, drop-set-add, get_or-drop, length-map}
use mathlib.Core.List.{map-append}
use mathlib.Core.Option as maybe
use lib.ListN.{get_elem?}
use lib.Seq.{map-set}
use Rattle.atomic_table.specs.Table.{keeps, stepped}
use Rattle.atomic_table.proofs.Lists.{at_map, set_else}
use Rattle.wait_core.specs.declared.step.Spot.TheVariants.{Bar}
use Rattle.wait_core.specs.declared.view.PartyView.{PartyView}
use Rattle.wait_core.specs.declared.view.Record.{Record}
use Rattle.wait_core.specs.declared.view.Size.{Size}
use Rattle.wait_core.specs.declared.view.WaitView.{WaitView}
use Rattle.wait_core.specs.Meanings.{Meanings}
use Rattle.seat_roster.specs.Totals.{total}
use Rattle.seat_roster.specs.Roster.{Numbers, Roster, count as numbers_in, numbered, one_if, drew, gave, took}
use Rattle.wait_core.specs.Words.{slot_of, client_base}
use Rattle.wait_core.specs.Machine.{WaitState, Place}
use Rattle.wait_core.specs.Parties.{phase_of, Elected, with_client, newcomer, joined, left_over, Barriers, IsStep, IsDraw, IsJoin}
use Rattle.wait_core.specs.Seating.{Standing, Doings, numbers_of, standing_of, doings_of, party_of, client_moved, with_drawn, stays, comes, took_in, spent_view}
use Rattle.wait_core.specs.LeftAreFree.{IsFree}
use Rattle.wait_core.specs.ArrivalsHeed.{HeedsInArrival}
use Rattle.wait_core.specs.Fits.{PlacesFit}
use Rattle.wait_core.specs.Barriers.{Attendance, attendance_of, waits_at, is_from, asks_at, held_field, field_of, phase_in, phases, phases_in, takes_part, waits_from, CountsParticipants, CountsArrived, PhasesAreInside, KnowsPhases, PhasesAreKnown, IsWaiter, WaitersAreQuiet, ElectionsAreRecorded, JobSuits, CallsSuit}
use Rattle.wait_core.specs.OneElected.{Outcome, outcome_of, elected_in, OneElected}
use Rattle.wait_core.specs.WordsAreMade.{WordsAreMade}
use Rattle.wait_core.specs.Promises.{LastHoldsAlone}
use Rattle.wait_core.specs.Rule.{SeatsAreCounted, Rule}
use Rattle.seat_roster.proofs.Totals.{total_set, total_snoc, total_at, total_two}
use Rattle.seat_roster.proofs.Stretches.{unseen, from_seen, each_set, each_more}
use Rattle.seat_roster.proofs.Numbers.{roster_drew, roster_gave, roster_took, pending_inside}
use Rattle.wait_core.proofs.Records.{opened_same, field_same}
use Rattle.wait_core.proofs.Attachments.{none_waited}
use Rattle.wait_core.specs.Stances.{Homes}
use Rattle.wait_core.proofs.Attending.{here_idle, unmoved, moved}
use Rattle.wait_core.proofs.Arriving.{attended, few_views}
use Rattle.wait_core.proofs.Outcomes.{one_more, one_joined}
use Rattle.wait_core.proofs.Electing.{one_unmoved}
use Rattle.wait_core.proofs.PassedPhaseIsBroadcast.{broadcast_set, broadcast_more, broadcast_spent}
use Rattle.wait_core.proofs.BarriersKept.{elected_either, nobody_elected, barriers_more, barriers_joined}
use Rattle.wait_core.proofs.Turns.{first as is_first, client as is_client}
use Rattle.wait_core.specs.ListsAreMade.{ListsAreMade}
use Rattle.wait_core.proofs.ListsAreMade.{lists_made_snoc, lists_made_joined}
use Rattle.wait_core.proofs.ListsKept.{lists_apart, lists_more, lists_joined}
use Rattle.wait_core.proofs.WordsAreMade.{made_same, made_snoc, made_joined}
use Rattle.wait_core.proofs.Untouched.{Agree, SameCounts, counts_are, counts_snoc, counts_idle, flags_same, may_same, latches_same, shutdown_same, places_snoc, places_idle, idle}

-- a seat with a number isn't one that was joined
has_number : (own : Option ℕ) (p : ℕ) → own ≡ Some p → own ≡ None → ⊥
has_number own p is none = absurd (cc)

-- the view of a seat that was joined into another is free
abbrev WasLeft : {C : Type 0} → WaitView C → Type 0
WasLeft u = u.own ≡ None → IsFree u

-- what the parts on barriers say of each seat that may wait, and of its elections
abbrev IsQuietWaiter : {C : Type 0} → Meanings C → Attendance C → Type 0
IsQuietWaiter means u = (b ph : ℕ) → waits_at u.place ≡ Some (b, ph) → IsWaiter means u.party b ph

abbrev IsRecorded : {C : Type 0} → Size → Homes → List (Attendance C) → Attendance C → Type 0
IsRecorded z homes seats u = (b ph : ℕ) → Elected u.party.elections b ph → (b < z.bars) × (ph ≤ field_of (λ r. r.elected) b homes seats)

-- as much is in hand as before, so each phase reads as before
phases_same : {C : Type 0} (z : Size) (homes : Homes) (seats others : List (Attendance C)) → ((f : Record → ℕ) (x : ℕ) → total (λ (u : Attendance C). held_field f x u.place) others ≡ total (λ (u : Attendance C). held_field f x u.place) seats) → phases z homes others ≡ phases z homes seats
phases_same z homes seats others same = opened_same (λ b. phase_in b homes seats) (λ b. phase_in b homes others) z.bars (λ b below. let e = same (λ r. r.phase) (slot_of (Bar b)) in omega arith)

module _ {C : Type 0} (means : Meanings C) (z : Size) (phase count : ℕ) where
  -- there are no more views than the seat with the number 0 has drawn, and itself
  pub few_drawn : (s : WaitState C) → Rule means z phase count s → (id : ℕ) (v : WaitView C) → get_elem? s.views id ≡ maybe.some v → v.own ≡ Some 0 → length (map party_of s.views) ≤ v.drawn + 1
  few_drawn s r id v at own = let up = (r.roster.drawer id (numbers_of v) (at_map numbers_of s.views id v at) own).up_to in let a = r.counted in let x = length-map s.views numbers_of in let y = length-map s.views party_of in omega arith

  -- what a client's step may suppose: its seat has a number, and is in no call
  pub is_step : (s : WaitState C) → Rule means z phase count s → (id : ℕ) (v : WaitView C) → get_elem? s.views id ≡ maybe.some v → (p : ℕ) → v.own ≡ Some p → v.place ≡ [] → IsStep (map party_of s.views) (phases_in z s) id (party_of v)
  is_step s r id v at p own idle = record { at = at_map party_of s.views id v at; own = (p, own); few = few_views means z phase count s r; barriers = r.barriers; here = here_idle (phases_in z s) (attendance_of v) (r.known id (attendance_of v) (at_map attendance_of s.views id v at)) (ap waits_at idle) }

  -- a step of the client's f on its word k
  pub client_kept : (s : WaitState C) → Rule means z phase count s → (id : ℕ) (v : WaitView C) → get_elem? s.views id ≡ maybe.some v → (p : ℕ) → v.own ≡ Some p → v.place ≡ [] → (k : ℕ) (f : ℕ → ℕ) (then : ℕ → C) → k < count
      → ((words : List ℕ) (views : List (PartyView C)) (phases : List ℕ) → means.holds words views phases → IsStep views phases id (party_of v) → means.holds (set words k (f (get_or words k 0))) (set views id (with_client (party_of v) (then (get_or words k 0)))) phases)
      → let n = get_or s.words (client_base z + k) 0 in Rule means z phase count (stepped s (client_base z + k) (f n) id [] (client_moved v (then n)) keeps)
  client_kept s r id v at p own idle k f then below law =
      let b : ℕ = client_base z in let n : ℕ = get_or s.words (b + k) 0 in let w : WaitView C = client_moved v (then n) in
      let agree : Agree z s.words (set s.words (b + k) (f n)) = λ i some inside. get_or-set_other s.words (b + k) i (f n) 0 (λ e. omega arith) in
      let same = counts_are (map standing_of s.views) (map standing_of (set s.views id w)) (unseen standing_of s.views id v w at refl) in
      let first : get_or (set s.words (b + k) (f n)) 0 0 ≡ get_or s.words 0 0 = get_or-set_other s.words (b + k) 0 (f n) 0 (λ e. omega arith) in
      let numbers = sym (unseen numbers_of s.views id v w at refl) in
      let found : get_or (drop b s.words) k 0 ≡ n = get_or-drop b s.words k 0 in
      let seats = map attendance_of s.views in let seat = at_map attendance_of s.views id v at in
      let b' = moved means z phase s (attended means z phase count s r) id v w at (set s.words (b + k) (f n)) s.homes (has_number v.own p own)
      (λ g blank c below. field_same s.homes seats id (attendance_of v) (attendance_of w) seat g c refl) refl refl refl idle idle
      (subst (λ (x : List ℕ). means.holds x (set (map party_of s.views) id (with_client (party_of v) (then n))) (phases_in z s)) (sym (drop-set-add b s.words k (f n)))
      (subst (λ (x : ℕ). means.holds (set (drop b s.words) k (f x)) (set (map party_of s.views) id (with_client (party_of v) (then x))) (phases_in z s)) found
      (law (drop b s.words) (map party_of s.views) (phases_in z s) r.client (is_step s r id v at p own idle)))) in
      record {
        sized = record { procs = r.sized.procs; cvs = r.sized.cvs; bars = r.sized.bars; long = length-set s.words (b + k) (f n) ∙ r.sized.long; slots = r.sized.slots };
        flags = flags_same z s.words (set s.words (b + k) (f n)) (map standing_of s.views) (map standing_of (set s.views id w)) agree same r.flags;
        roster = subst (λ (x : ℕ × List Numbers). Roster z.procs x.0 x.1) (λ j. (sym first j, numbers j)) r.roster;
        counted = subst (λ (x : ℕ × List Numbers). SeatsAreCounted x.0 x.1) (λ j. (sym first j, numbers j)) r.counted;
        places = subst (PlacesFit z.cvs) (sym (unseen standing_of s.views id v w at refl)) r.places;
        may = may_same z s.words (set s.words (b + k) (f n)) (map standing_of s.views) (map standing_of (set s.views id w)) agree same r.may;
        latches = latches_same z s.words (set s.words (b + k) (f n)) (map standing_of s.views) (map standing_of (set s.views id w)) agree same r.latches;
        shutdown = shutdown_same z s.words (set s.words (b + k) (f n)) (map standing_of s.views) (map standing_of (set s.views id w)) agree same r.shutdown;
        made = subst (WordsAreMade z (set s.words (b + k) (f n))) (sym (unseen doings_of s.views id v w at refl)) (made_same z s.words (set s.words (b + k) (f n)) (map doings_of s.views) agree r.made);
        lists_made = subst (ListsAreMade z s.homes) (sym (unseen doings_of s.views id v w at refl)) r.lists_made;
        lists = lists_apart z r.sized.cvs (get_or s.words 0 0) s.words s.homes s.views (omega (arith, r.sized.long)) r.flags r.roster r.lists id v at (b + k) (f n) w (is_client (omega arith)) refl;
        heeds = each_set HeedsInArrival s.views id w r.heeds (r.heeds id v at);
        broadcasts = broadcast_set z s (set s.words (b + k) (f n)) id v w at refl refl r.broadcasts;
        left = b'.left;
        barriers = b'.barriers;
        known = b'.known;
        waiters = b'.waiters;
        participants = b'.participants;
        arrived = b'.arrived;
        elections = b'.elections;
        one_elected = one_unmoved means z phase count s r id v w at refl refl;
        inside = b'.inside;
        suits = b'.suits;
        client = b'.client;
      }

  -- the seat with the number 0 draws the next
  pub draw_kept : (s : WaitState C) → Rule means z phase count s → (id : ℕ) (v : WaitView C) → get_elem? s.views id ≡ maybe.some v → v.own ≡ Some 0 → v.pending ≡ None → v.drawn + 1 < z.procs → (x : ℕ) → x ≡ get_or s.words 0 0 + 1
      → Rule means z phase count (stepped s 0 x id [] (with_drawn v) keeps)
  draw_kept s r id v at own free room x is =
      let w : WaitView C = with_drawn v in let next : ℕ = get_or s.words 0 0 in let ns = map numbers_of s.views in let at' = at_map numbers_of s.views id v at in
      let up = (r.roster.drawer id (numbers_of v) at' own).up_to in let long = r.sized.long in
      let agree : Agree z s.words (set s.words 0 x) = λ i some inside. get_or-set_other s.words 0 i x 0 (λ e. omega arith) in
      let same = counts_are (map standing_of s.views) (map standing_of (set s.views id w)) (unseen standing_of s.views id v w at refl) in
      let first : get_or (set s.words 0 x) 0 0 ≡ next + 1 = get_or-set_same s.words 0 x 0 (omega arith) ∙ is in
      let numbers : set ns id (drew (numbers_of v)) ≡ map numbers_of (set s.views id w) = sym (map-set numbers_of s.views id w) in
      let seats = map attendance_of s.views in let seat = at_map attendance_of s.views id v at in
      let b = unmoved means z phase s (attended means z phase count s r) id v w at (set s.words 0 x) s.homes (has_number v.own 0 own)
      (λ g blank c below. field_same s.homes seats id (attendance_of v) (attendance_of w) seat g c refl) (drop-set-lt (client_base z) s.words 0 x (omega arith)) refl refl (r.suits id (attendance_of v) seat) in
      record {
        sized = record { procs = r.sized.procs; cvs = r.sized.cvs; bars = r.sized.bars; long = length-set s.words 0 x ∙ long; slots = r.sized.slots };
        flags = flags_same z s.words (set s.words 0 x) (map standing_of s.views) (map standing_of (set s.views id w)) agree same r.flags;
        roster = subst (λ (y : ℕ × List Numbers). Roster z.procs y.0 y.1) (λ j. (sym first j, numbers j)) (roster_drew z.procs next ns r.roster id (numbers_of v) at' own free (omega arith));
        counted = subst (λ (y : ℕ × List Numbers). SeatsAreCounted y.0 y.1) (λ j. (sym first j, numbers j))
            (let sum = total_set (λ (u : Numbers). one_if u.pending) ns id (numbers_of v) (drew (numbers_of v)) at' in let none : one_if v.pending ≡ 0 = ap one_if free in let c = r.counted in let d = length-set ns id (drew (numbers_of v)) in omega arith);
        places = subst (PlacesFit z.cvs) (sym (unseen standing_of s.views id v w at refl)) r.places;
        may = may_same z s.words (set s.words 0 x) (map standing_of s.views) (map standing_of (set s.views id w)) agree same r.may;
        latches = latches_same z s.words (set s.words 0 x) (map standing_of s.views) (map standing_of (set s.views id w)) agree same r.latches;
        shutdown = shutdown_same z s.words (set s.words 0 x) (map standing_of s.views) (map standing_of (set s.views id w)) agree same r.shutdown;
        made = subst (WordsAreMade z (set s.words 0 x)) (sym (unseen doings_of s.views id v w at refl)) (made_same z s.words (set s.words 0 x) (map doings_of s.views) agree r.made);
        lists_made = subst (ListsAreMade z s.homes) (sym (unseen doings_of s.views id v w at refl)) r.lists_made;
        lists = lists_apart z r.sized.cvs (get_or s.words 0 0) s.words s.homes s.views (omega (arith, long)) r.flags r.roster r.lists id v at 0 x w (is_first refl) refl;
        heeds = each_set HeedsInArrival s.views id w r.heeds (r.heeds id v at);
        broadcasts = broadcast_set z s (set s.words 0 x) id v w at refl refl r.broadcasts;
        left = b.left;
        barriers = b.barriers;
        known = b.known;
        waiters = b.waiters;
        participants = b.participants;
        arrived = b.arrived;
        elections = b.elections;
        one_elected = one_unmoved means z phase count s r id v w at refl refl;
        inside = b.inside;
        suits = b.suits;
        client = b.client;
      }

  -- the number drawn goes to a new seat
  pub seat_kept : (s : WaitState C) → Rule means z phase count s → (id : ℕ) (v : WaitView C) → get_elem? s.views id ≡ maybe.some v → (n : ℕ) → v.pending ≡ Some n → (c : C)
      → ((words : List ℕ) (views : List (PartyView C)) (phases : List ℕ) (proc : ℕ) → means.holds words views phases → IsDraw views phases proc → means.holds words (views ++ newcomer c (Some proc) ∷ []) phases)
      → Rule means z phase count record { words = s.words; homes = s.homes; views = set s.views id (stays v) ++ comes c v ∷ [] }
  seat_kept s r id v at n drawn c law =
      let vs = set s.views id (stays v) in let w : WaitView C = comes c v in let ns = map numbers_of s.views in let at' = at_map numbers_of s.views id v at in
      let agree : Agree z s.words s.words = λ i some inside. refl in
      let standing : map standing_of (vs ++ w ∷ []) ≡ map standing_of s.views ++ idle v.pending ∷ [] = map-append standing_of vs (w ∷ []) ∙ ap (λ (l : List Standing). l ++ idle v.pending ∷ []) (unseen standing_of s.views id v (stays v) at refl) in
      let same : SameCounts (map standing_of s.views) (map standing_of (vs ++ w ∷ [])) = subst (SameCounts (map standing_of s.views)) (sym standing) (counts_snoc (map standing_of s.views) v.pending) in
      let numbers : set ns id (gave (numbers_of v)) ++ numbered v.pending ∷ [] ≡ map numbers_of (vs ++ w ∷ []) = sym (map-append numbers_of vs (w ∷ []) ∙ ap (λ (l : List Numbers). l ++ numbered v.pending ∷ []) (map-set numbers_of s.views id (stays v))) in
      let parties : map party_of s.views ++ newcomer c (Some n) ∷ [] ≡ map party_of (vs ++ w ∷ []) = sym (map-append party_of vs (w ∷ []) ∙ (ap (λ (l : List (PartyView C)). l ++ newcomer c v.pending ∷ []) (unseen party_of s.views id v (stays v) at refl) ∙ ap (λ (o : Option ℕ). map party_of s.views ++ newcomer c o ∷ []) drawn)) in
      let one : one_if v.pending ≡ 1 = ap one_if drawn in let all = r.counted in let few = r.roster.few in let most = r.sized.procs in
      let low = total_at (λ (u : Numbers). one_if u.pending) ns id (numbers_of v) at' in
      let before = map attendance_of s.views in
      let seen : map attendance_of (vs ++ w ∷ []) ≡ before ++ attendance_of w ∷ [] = map-append attendance_of vs (w ∷ []) ∙ ap (λ (l : List (Attendance C)). l ++ attendance_of w ∷ []) (unseen attendance_of s.views id v (stays v) at refl) in
      let held : (f : Record → ℕ) (i : ℕ) → total (λ (u : Attendance C). held_field f i u.place) (before ++ attendance_of w ∷ []) ≡ total (λ (u : Attendance C). held_field f i u.place) before = λ f i. let e = total_snoc (λ (u : Attendance C). held_field f i u.place) before (attendance_of w) in omega arith in
      let stay : phases z s.homes (map attendance_of (vs ++ w ∷ [])) ≡ phases_in z s = (λ i. phases z s.homes (seen i)) ∙ phases_same z s.homes before (before ++ attendance_of w ∷ []) held in
      let x = length-map s.views numbers_of in let y = length-map s.views party_of in
      record {
        sized = r.sized;
        flags = r.flags;
        roster = subst (Roster z.procs (get_or s.words 0 0)) numbers (roster_gave z.procs (get_or s.words 0 0) ns r.roster id (numbers_of v) at');
        counted = subst (SeatsAreCounted (get_or s.words 0 0)) numbers
            (let a = total_set (λ (u : Numbers). one_if u.pending) ns id (numbers_of v) (gave (numbers_of v)) at' in let b = total_snoc (λ (u : Numbers). one_if u.pending) (set ns id (gave (numbers_of v))) (numbered v.pending) in
            let d = length-set ns id (gave (numbers_of v)) in let e = length-append (set ns id (gave (numbers_of v))) (numbered v.pending ∷ []) in omega arith);
        places = subst (PlacesFit z.cvs) (sym standing) (places_snoc z.cvs (map standing_of s.views) v.pending r.places);
        may = may_same z s.words s.words (map standing_of s.views) (map standing_of (vs ++ w ∷ [])) agree same r.may;
        latches = latches_same z s.words s.words (map standing_of s.views) (map standing_of (vs ++ w ∷ [])) agree same r.latches;
        shutdown = shutdown_same z s.words s.words (map standing_of s.views) (map standing_of (vs ++ w ∷ [])) agree same r.shutdown;
        made = subst (WordsAreMade z s.words) (sym (map-append doings_of vs (w ∷ []) ∙ ap (λ (l : List Doings). l ++ record { own = v.pending; steps = []; inherited = [] } ∷ []) (unseen doings_of s.views id v (stays v) at refl))) (made_snoc z s.words (map doings_of s.views) v.pending r.made);
        lists_made = subst (ListsAreMade z s.homes) (sym (map-append doings_of vs (w ∷ []) ∙ ap (λ (l : List Doings). l ++ record { own = v.pending; steps = []; inherited = [] } ∷ []) (unseen doings_of s.views id v (stays v) at refl))) (lists_made_snoc z s.homes (map doings_of s.views) v.pending r.lists_made);
        lists = lists_more z r.sized.cvs (get_or s.words 0 0) s.words s.homes s.views (omega (arith, r.sized.long)) r.flags r.roster r.lists id v at (stays v) w v.pending refl refl;
        heeds = each_more HeedsInArrival vs w (each_set HeedsInArrival s.views id (stays v) r.heeds (r.heeds id v at)) (λ settled. absurd (cc));
        broadcasts = broadcast_more z record { words = s.words; homes = s.homes; views = vs } w refl (broadcast_set z s s.words id v (stays v) at refl refl r.broadcasts);
        left = each_more WasLeft vs w (each_set WasLeft s.views id (stays v) r.left (λ none. let free = r.left id v at none in record { attached = free.attached; elections = free.elections; passed = free.passed })) (λ none. record { attached = refl; elections = refl; passed = refl });
        barriers = subst (λ (y : List (PartyView C) × List ℕ). Barriers y.0 y.1) (λ i. (parties i, sym stay i)) (barriers_more (map party_of s.views) (phases_in z s) c (Some n) r.barriers);
        known = subst (λ (y : List ℕ × List (Attendance C)). PhasesAreKnown y.0 y.1) (λ i. (sym stay i, sym seen i)) (each_more (KnowsPhases (phases_in z s)) before (attendance_of w) r.known (λ b ph e. absurd (cc)));
        waiters = subst (WaitersAreQuiet means) (sym seen) (each_more (IsQuietWaiter means) before (attendance_of w) r.waiters (λ b ph e. absurd (cc)));
        participants = subst (CountsParticipants z s.homes) (sym seen) (λ b below. let was = r.participants b below in let a = total_snoc (takes_part b) before (attendance_of w) in let e = held (λ y. y.participants) (slot_of (Bar b)) in omega arith);
        arrived = subst (CountsArrived z s.homes) (sym seen) (λ b below. let was = r.arrived b below in let e = held (λ y. y.arrived) (slot_of (Bar b)) in let ph = held (λ y. y.phase) (slot_of (Bar b)) in
            let a = total_snoc (waits_from b (phase_in b s.homes before)) before (attendance_of w) in
            let same : phase_in b s.homes (before ++ attendance_of w ∷ []) ≡ phase_in b s.homes before = omega arith in let counts = ap (λ (n : ℕ). total (waits_from b n) (before ++ attendance_of w ∷ [])) same in omega arith);
        elections = subst (ElectionsAreRecorded z s.homes) (sym seen) (record {
          past = λ b below. let was = r.elections.past b below in let e = held (λ y. y.elected) (slot_of (Bar b)) in let ph = held (λ y. y.phase) (slot_of (Bar b)) in omega arith;
          known = each_more (IsRecorded z s.homes (before ++ attendance_of w ∷ [])) before (attendance_of w) (λ j u e b ph won. let was = r.elections.known j u e b ph won in let most = was.1 in let same = held (λ y. y.elected) (slot_of (Bar b)) in (was.0, omega arith)) (λ b ph won. absurd (nobody_elected b ph won));
        });
        one_elected = subst (λ (y : List (Attendance C) × List Outcome). OneElected z.bars phase (λ b. elected_in b s.homes y.0) y.1) (λ i. (sym seen i, sym (map-append outcome_of vs (w ∷ []) ∙ ap (λ (l : List Outcome). l ++ outcome_of w ∷ []) (unseen outcome_of s.views id v (stays v) at refl)) i))
            (one_more z.bars phase (λ b. elected_in b s.homes before) (λ b. elected_in b s.homes (before ++ attendance_of w ∷ [])) (map outcome_of s.views) (outcome_of w) r.one_elected (λ b ph e. absurd (cc)) refl refl (λ b below. let e = held (λ y. y.elected) (slot_of (Bar b)) in omega arith));
        inside = subst (PhasesAreInside z phase s.homes) (sym seen) (λ b below. let was = r.inside b below in let low = was.0 in let high = was.1 in let e = held (λ y. y.phase) (slot_of (Bar b)) in (omega arith, omega arith));
        suits = subst (CallsSuit means) (sym seen) (each_more (λ (u : Attendance C). JobSuits means (asks_at u.place) u.party) before (attendance_of w) r.suits tt);
        client = subst (λ (y : List (PartyView C) × List ℕ). means.holds (drop (client_base z) s.words) y.0 y.1) (λ i. (parties i, sym stay i))
            (law (drop (client_base z) s.words) (map party_of s.views) (phases_in z s) n r.client
            (record { barriers = r.barriers; few = omega arith; proc_below = let b = pending_inside z.procs (get_or s.words 0 0) ns r.roster id n (numbers_of v) at' drawn in omega arith }));
      }

  -- a seat takes in another, which is in no call
  pub join_kept : (s : WaitState C) → Rule means z phase count s → (id : ℕ) (v : WaitView C) → get_elem? s.views id ≡ maybe.some v → (p : ℕ) → v.own ≡ Some p → v.place ≡ [] → (other : ℕ) (w : WaitView C) → (other ≡ id → ⊥) → get_elem? s.views other ≡ maybe.some w
      → w.place ≡ [] → (w.target ≡ None) × (w.attached ≡ []) → w.pending ≡ None → (both : C → C → C) (c : C)
      → ((words : List ℕ) (views : List (PartyView C)) (phases : List ℕ) → means.holds words views phases → IsJoin views phases id (party_of v) other (party_of w) → means.holds words (set (set views id (joined both (party_of v) (party_of w))) other (left_over c)) phases)
      → Rule means z phase count record { words = s.words; homes = s.homes; views = set (set s.views id (took_in both v w)) other (spent_view c) }
  join_kept s r id v at p own idle_is other w apart there still free none both c law =
      let x : WaitView C = took_in both v w in let y : WaitView C = spent_view c in let vs = set s.views id x in let ns = map numbers_of s.views in
      let at' = at_map numbers_of s.views id v at in
      let there' : get_elem? vs other ≡ maybe.some w = set_else s.views id other x apart ∙ there in
      let agree : Agree z s.words s.words = λ i some inside. refl in
      let standing : map standing_of (set vs other y) ≡ set (map standing_of s.views) other (idle None) = map-set standing_of vs other y ∙ ap (λ (l : List Standing). set l other (idle None)) (unseen standing_of s.views id v x at refl) in
      let stood : get_elem? (map standing_of s.views) other ≡ maybe.some (idle w.own) = at_map standing_of s.views other w there ∙ (λ j. maybe.some record { own = w.own; target = free.0 j; place = still j }) in
      let same : SameCounts (map standing_of s.views) (map standing_of (set vs other y)) = subst (SameCounts (map standing_of s.views)) (sym standing) (counts_idle (map standing_of s.views) other w.own None stood) in
      let numbers : set (set ns id (took (numbers_of v) (numbers_of w))) other (numbered None) ≡ map numbers_of (set vs other y) = sym (map-set numbers_of vs other y ∙ ap (λ (l : List Numbers). set l other (numbered None)) (map-set numbers_of s.views id x)) in
      let there_n : get_elem? (set ns id (took (numbers_of v) (numbers_of w))) other ≡ maybe.some (numbers_of w) = set_else ns id other (took (numbers_of v) (numbers_of w)) apart ∙ at_map numbers_of s.views other w there in
      let parties : set (set (map party_of s.views) id (joined both (party_of v) (party_of w))) other (left_over c) ≡ map party_of (set vs other y) = sym (map-set party_of vs other y ∙ ap (λ (l : List (PartyView C)). set l other (left_over c)) (map-set party_of s.views id x)) in
      let before = map attendance_of s.views in let seat = at_map attendance_of s.views id v at in
      let other_seat : get_elem? (set before id (attendance_of x)) other ≡ maybe.some (attendance_of w) = set_else before id other (attendance_of x) apart ∙ at_map attendance_of s.views other w there in
      let seen : map attendance_of (set vs other y) ≡ set (set before id (attendance_of x)) other (attendance_of y) = map-set attendance_of vs other y ∙ ap (λ (l : List (Attendance C)). set l other (attendance_of y)) (map-set attendance_of s.views id x) in
      let held : (f : Record → ℕ) (i : ℕ) → total (λ (u : Attendance C). held_field f i u.place) (set (set before id (attendance_of x)) other (attendance_of y)) ≡ total (λ (u : Attendance C). held_field f i u.place) before = λ f i.
      let h : Attendance C → ℕ = λ u. held_field f i u.place in let first = total_set h before id (attendance_of v) (attendance_of x) seat in let second = total_set h (set before id (attendance_of x)) other (attendance_of w) (attendance_of y) other_seat in
      let none : held_field f i w.place ≡ 0 = ap (held_field f i) still in omega arith in
      let stay : phases z s.homes (map attendance_of (set vs other y)) ≡ phases_in z s = (λ i. phases z s.homes (seen i)) ∙ phases_same z s.homes before (set (set before id (attendance_of x)) other (attendance_of y)) held in
      record {
        sized = r.sized;
        flags = r.flags;
        roster = subst (Roster z.procs (get_or s.words 0 0)) numbers (roster_took z.procs (get_or s.words 0 0) ns r.roster id other (numbers_of v) (numbers_of w) at' there_n none);
        counted = subst (SeatsAreCounted (get_or s.words 0 0)) numbers
            (let f : Numbers → ℕ = λ u. one_if u.pending in let a = total_set f ns id (numbers_of v) (took (numbers_of v) (numbers_of w)) at' in let b = total_set f (set ns id (took (numbers_of v) (numbers_of w))) other (numbers_of w) (numbered None) there_n in
            let d = length-set ns id (took (numbers_of v) (numbers_of w)) in let e = length-set (set ns id (took (numbers_of v) (numbers_of w))) other (numbered None) in let gone : one_if w.pending ≡ 0 = ap one_if none in let all = r.counted in omega arith);
        places = subst (PlacesFit z.cvs) (sym standing) (places_idle z.cvs (map standing_of s.views) other None r.places);
        may = may_same z s.words s.words (map standing_of s.views) (map standing_of (set vs other y)) agree same r.may;
        latches = latches_same z s.words s.words (map standing_of s.views) (map standing_of (set vs other y)) agree same r.latches;
        shutdown = shutdown_same z s.words s.words (map standing_of s.views) (map standing_of (set vs other y)) agree same r.shutdown;
        made = subst (WordsAreMade z s.words) (sym (map-set doings_of vs other y ∙ ap (λ (l : List Doings). set l other record { own = None; steps = []; inherited = [] }) (map-set doings_of s.views id x)))
            (made_joined z s.words (map doings_of s.views) id other (doings_of v) (doings_of w) apart (at_map doings_of s.views id v at) (at_map doings_of s.views other w there) r.made);
        lists_made = subst (ListsAreMade z s.homes) (sym (map-set doings_of vs other y ∙ ap (λ (l : List Doings). set l other record { own = None; steps = []; inherited = [] }) (map-set doings_of s.views id x)))
            (lists_made_joined z s.homes (map doings_of s.views) id other (doings_of v) (doings_of w) apart (at_map doings_of s.views id v at) (at_map doings_of s.views other w there) r.lists_made);
        lists = lists_joined z r.sized.cvs (get_or s.words 0 0) s.words s.homes s.views (omega (arith, r.sized.long)) r.flags r.roster r.lists id v at other w x y apart there still free.0 refl refl;
        heeds = each_set HeedsInArrival vs other y (each_set HeedsInArrival s.views id x r.heeds (r.heeds id v at)) (λ settled. absurd (cc));
        broadcasts = broadcast_spent z record { words = s.words; homes = s.homes; views = vs } other w y there' still refl (broadcast_set z s s.words id v x at refl refl r.broadcasts);
        left = each_set WasLeft vs other y (each_set WasLeft s.views id x r.left (λ none. absurd (has_number v.own p own none))) (λ none. record { attached = refl; elections = refl; passed = refl });
        barriers = subst (λ (q : List (PartyView C) × List ℕ). Barriers q.0 q.1) (λ i. (parties i, sym stay i)) (barriers_joined (map party_of s.views) (phases_in z s) id other (party_of v) (party_of w) both c r.barriers (at_map party_of s.views id v at) (at_map party_of s.views other w there) apart);
        known = subst (λ (q : List ℕ × List (Attendance C)). PhasesAreKnown q.0 q.1) (λ i. (sym stay i, sym seen i))
            (each_set (KnowsPhases (phases_in z s)) (set before id (attendance_of x)) other (attendance_of y) (each_set (KnowsPhases (phases_in z s)) before id (attendance_of x) r.known (r.known id (attendance_of v) seat)) (λ b ph e. absurd (cc)));
        waiters = subst (WaitersAreQuiet means) (sym seen) (each_set (IsQuietWaiter means) (set before id (attendance_of x)) other (attendance_of y)
            (each_set (IsQuietWaiter means) before id (attendance_of x) r.waiters (λ b ph e. absurd (none_waited b ph (sym (ap waits_at idle_is) ∙ e)))) (λ b ph e. absurd (cc)));
        participants = subst (CountsParticipants z s.homes) (sym seen) (λ b below. let was = r.participants b below in let e = held (λ q. q.participants) (slot_of (Bar b)) in
            let first = total_set (takes_part b) before id (attendance_of v) (attendance_of x) seat in let second = total_set (takes_part b) (set before id (attendance_of x)) other (attendance_of w) (attendance_of y) other_seat in
            let none : takes_part b (attendance_of w) ≡ 0 = ap (λ (l : List (ℕ × ℕ)). one_if (phase_of l b)) free.1 in omega arith);
        arrived = subst (CountsArrived z s.homes) (sym seen) (λ b below. let was = r.arrived b below in let e = held (λ q. q.arrived) (slot_of (Bar b)) in let ph = held (λ q. q.phase) (slot_of (Bar b)) in let f : Attendance C → ℕ = waits_from b (phase_in b s.homes before) in
            let first = total_set f before id (attendance_of v) (attendance_of x) seat in let second = total_set f (set before id (attendance_of x)) other (attendance_of w) (attendance_of y) other_seat in
            let none : f (attendance_of w) ≡ 0 = ap (λ (q : Place). is_from b (phase_in b s.homes before) (waits_at q)) still in
            let same : phase_in b s.homes (set (set before id (attendance_of x)) other (attendance_of y)) ≡ phase_in b s.homes before = omega arith in
            let counts = ap (λ (n : ℕ). total (waits_from b n) (set (set before id (attendance_of x)) other (attendance_of y))) same in omega arith);
        elections = subst (ElectionsAreRecorded z s.homes) (sym seen) (record {
          past = λ b below. let was = r.elections.past b below in let e = held (λ q. q.elected) (slot_of (Bar b)) in let ph = held (λ q. q.phase) (slot_of (Bar b)) in omega arith;
          known = let recorded : Attendance C → Type 0 = IsRecorded z s.homes (set (set before id (attendance_of x)) other (attendance_of y)) in
              let moved_over : (j : ℕ) (u : Attendance C) → get_elem? before j ≡ maybe.some u → recorded u = λ j u e b ph won. let was = r.elections.known j u e b ph won in let most = was.1 in let same = held (λ q. q.elected) (slot_of (Bar b)) in (was.0, omega arith) in
              each_set recorded (set before id (attendance_of x)) other (attendance_of y) (each_set recorded before id (attendance_of x) moved_over
              (λ b ph won. ⊎_elim (λ mine. moved_over id (attendance_of v) seat b ph mine) (λ its. moved_over other (attendance_of w) (at_map attendance_of s.views other w there) b ph its) (elected_either v.elections w.elections b ph won.0 won.1)))
              (λ b ph won. absurd (nobody_elected b ph won));
        });
        one_elected = subst (λ (q : List (Attendance C) × List Outcome). OneElected z.bars phase (λ b. elected_in b s.homes q.0) q.1) (λ i. (sym seen i, sym (map-set outcome_of vs other y ∙ ap (λ (l : List Outcome). set l other (outcome_of y)) (map-set outcome_of s.views id x)) i))
            (one_joined z.bars phase (λ b. elected_in b s.homes before) (λ b. elected_in b s.homes (set (set before id (attendance_of x)) other (attendance_of y))) (map outcome_of s.views) id other (outcome_of v) (outcome_of w) (outcome_of x) (outcome_of y) r.one_elected apart (at_map outcome_of s.views id v at) (at_map outcome_of s.views other w there)
            (r.one_elected.waits id (outcome_of v) (at_map outcome_of s.views id v at)) (λ b ph e. absurd (cc)) refl refl refl refl (λ b below. let e = held (λ q. q.elected) (slot_of (Bar b)) in omega arith));
        inside = subst (PhasesAreInside z phase s.homes) (sym seen) (λ b below. let was = r.inside b below in let low = was.0 in let high = was.1 in let e = held (λ q. q.phase) (slot_of (Bar b)) in (omega arith, omega arith));
        suits = subst (CallsSuit means) (sym seen) (each_set (λ (u : Attendance C). JobSuits means (asks_at u.place) u.party) (set before id (attendance_of x)) other (attendance_of y)
            (each_set (λ (u : Attendance C). JobSuits means (asks_at u.place) u.party) before id (attendance_of x) r.suits (subst (λ (q : Place). JobSuits means (asks_at q) (party_of x)) (sym idle_is) tt)) tt);
        client = subst (λ (q : List (PartyView C) × List ℕ). means.holds (drop (client_base z) s.words) q.0 q.1) (λ i. (parties i, sym stay i))
            (law (drop (client_base z) s.words) (map party_of s.views) (phases_in z s) r.client
            (record { at = at_map party_of s.views id v at; own = (p, own); apart = apart; there = at_map party_of s.views other w there; free = free.1; few = few_views means z phase count s r; barriers = r.barriers }));
      }

  -- once the seat with the number 0 has taken over every number that it drew, no other view has one
  pub others_numberless : (s : WaitState C) → Rule means z phase count s → (id : ℕ) (v : WaitView C) → get_elem? s.views id ≡ maybe.some v → v.own ≡ Some 0 → length v.taken ≡ v.drawn
      → (k : ℕ) (u : WaitView C) → (k ≡ id → ⊥) → get_elem? s.views k ≡ maybe.some u → u.own ≡ None
  others_numberless s r id v at own all k u apart there = by_number u.own refl
    where
      by_number : (o : Option ℕ) → u.own ≡ o → o ≡ None
      by_number None e = refl
      by_number (Some p) e =
          let two = total_two numbers_in (map numbers_of s.views) id k (numbers_of v) (numbers_of u) apart (at_map numbers_of s.views id v at) (at_map numbers_of s.views k u there) in
          let counted = r.roster.counted in
          let up = (r.roster.drawer id (numbers_of v) (at_map numbers_of s.views id v at) own).up_to in
          let one : one_if v.own ≡ 1 = ap one_if own in
          let other : one_if u.own ≡ 1 = ap one_if e in absurd (omega arith)

  -- the same, of what the client sees
  pub others_left : (s : WaitState C) → Rule means z phase count s → (id : ℕ) (v : WaitView C) → get_elem? s.views id ≡ maybe.some v → v.own ≡ Some 0 → length v.taken ≡ v.drawn
      → (k : ℕ) (u : PartyView C) → (k ≡ id → ⊥) → get_elem? (map party_of s.views) k ≡ maybe.some u → u.proc ≡ None
  others_left s r id v at own all k u apart there = let w = from_seen party_of s.views k u there in sym (ap (λ (x : PartyView C). x.proc) w.2) ∙ others_numberless s r id v at own all k w.0 apart w.1

  -- nor is in a call, attached to a barrier or elected by one
  pub alone_at_last : (s : WaitState C) → Rule means z phase count s → LastHoldsAlone s
  alone_at_last s r i j v u apart at there own all =
      let none = others_numberless s r i v at own all j u apart there in
      let free = r.left j u there none in
      let out = r.places.unnumbered j (standing_of u) (at_map standing_of s.views j u there) none in
      record { numberless = none; idle = out.0; target = out.1; attached = free.attached; elections = free.elections; passed = free.passed }

-- What each step of the machine keeps of barriers, and of the client's law: by what the free of a record makes of them.
use Rattle.std.proofs.Common.{◌≡◌, ◌≢◌, ◌⊎◌, ℕ, zero, suc, ◌+◌, ◌-◌, ◌<◌, ◌≤◌, eqb, nat_lt, Bool, true, false, cond, List, [], ◌∷◌, map, length, get_or, set, Option, None, Some, refl, sym, ap, ◌∙◌, subst, ⊎_elim, inl, inr, arith, eqb-true, length-set, get_or-set_same, get_or-set_other}
use Rattle.std.proofs.lemmas.Bool.{eqb-false}
use Rattle.std.proofs.lemmas.Bool.Decides.{nat_tests}
use Rattle.std.proofs.lemmas.List.{drop-set-lt, length-map}
use mathlib.Core.Logic.{dite}
use mathlib.Core.Option as maybe
use native.Mathlib.Decide.{ℕ_discrete}
use lib.ListN.{get_elem?}
use Rattle.atomic_table.specs.Table.{stepped}
use Rattle.atomic_table.proofs.Lists.{at_map, at_set}
use Rattle.wait_core.specs.declared.step.Spot.{Spot}
use Rattle.wait_core.specs.declared.step.Spot.TheVariants.{Bar}
use Rattle.wait_core.specs.declared.step.WaitStep.{WaitStep}
use Rattle.wait_core.specs.declared.step.WaitStep.TheVariants.{Take, Free}
use Rattle.wait_core.specs.declared.view.Frame.TheVariants.{Holding, Settling, Dozing, Passing, Returning}
use Rattle.wait_core.specs.declared.view.Job.{Job}
use Rattle.wait_core.specs.declared.view.Job.TheVariants as job
use Rattle.wait_core.specs.declared.view.Kept.{Kept}
use Rattle.wait_core.specs.declared.view.PartyView.{PartyView}
use Rattle.wait_core.specs.declared.view.Record.{Record}
use Rattle.wait_core.specs.declared.view.Size.{Size}
use Rattle.wait_core.specs.declared.view.WaitView.{WaitView}
use Rattle.seat_roster.specs.Totals.{total}
use Rattle.seat_roster.specs.Roster.{one_if}
use Rattle.seat_roster.proofs.Totals.{total_set, total_at, total_map, total_none, total_some}
use Rattle.seat_roster.proofs.Stretches.{from_seen, each_set}
use Rattle.wait_core.specs.Words.{last_phase, slot_of, slots_in, client_base, client_words}
use Rattle.wait_core.specs.Jobs.{spot_of, is_worn, is_last, is_only, is_awaited, has_passed, departed, left_record, away_from, at_phase, attached_after, elections_after, passes_on, resumed, goes_on}
use Rattle.wait_core.specs.Machine.{WaitState, Place, top, number_of, word_of, becomes, left_at, freed, home_in, slot_number, act_of, carried, freed_attached, freed_elections, attached_then, elections_then, next_with, MayFree, Permits}
use Rattle.wait_core.specs.Meanings.{Meanings}
use Rattle.wait_core.specs.Parties.{phase_of, now, Elected, elected, Reattached, Barriers, Here, HereBut, IsEnter, IsNotice, IsElection, IsPass, IsLeave}
use Rattle.wait_core.specs.Seating.{numbers_of, standing_of, party_of}
use Rattle.wait_core.specs.Fits.{JobFits, Fits}
use Rattle.wait_core.specs.Stances.{Homes, hand_at, slot_in}
use Rattle.wait_core.specs.Barriers.{Attendance, attendance_of, noticing, waits_at, asked, asks_at, asks_then, field_of, phase_in, phases_in, takes_part, waits_from, IsWaiter, IsDone, LetsPass, JobSuits, StepSuits}
use Rattle.wait_core.specs.Rule.{Rule}
use Rattle.wait_core.proofs.Effects.{spot_inside}
use Rattle.wait_core.proofs.Hands.{hand_follows, asks_follows, IsNoFree, waits_stay, IsOfList, list_waits}
use Rattle.wait_core.proofs.Attachments.{attached_here, attached_else, away_here, away_else, moved_else, attached_after as is_attached, moved_after, away_after, some_is, none_isnt, waited, same_waited, none_waited, waits_none, waits_here, waits_before, waiting_is}
use Rattle.wait_core.proofs.BarriersKept.{elected_more, IsNew, Wins, barriers_set, barriers_passed}
use Rattle.wait_core.proofs.RecordsKept.{homes_then, records_stay, found_reads, left_reads, others_read}
use Rattle.wait_core.proofs.Records.{ReadsNothing, opened_long, opened_at, opened_set}
use Rattle.wait_core.proofs.Attending.{here_idle, here_waiting, Attended, there, phases_are, goes, phases_stay, same_part, same_waits, unmoved}
use Rattle.wait_core.proofs.Passing.{arrived_less, others_wait, all_quiet, some_waits}

module _ {C : Type 0} (means : Meanings C) where
  -- what the client owes: the laws on attaching, noticing, elections, passing and leaving
  pub record Owes : Type 0 where
    pub enter : (words : List ℕ) (views : List (PartyView C)) (phases : List ℕ) (id : ℕ) (v w : PartyView C) (bar : ℕ) → means.holds words views phases → IsEnter views phases id v w bar → means.enters v bar → means.holds words (set views id w) phases
    pub notice : (words : List ℕ) (views : List (PartyView C)) (phases : List ℕ) (id : ℕ) (v w : PartyView C) (bar ph : ℕ) → means.holds words views phases → IsNotice views phases id v w bar ph → means.quiet v bar ph → means.holds words (set views id w) phases
    pub elect : (words : List ℕ) (views : List (PartyView C)) (phases : List ℕ) (id : ℕ) (v : PartyView C) (bar ph : ℕ) → means.holds words views phases → IsElection views phases id v bar ph → means.holds words (set views id (elected v bar ph)) phases
    pub pass : (words : List ℕ) (views : List (PartyView C)) (phases : List ℕ) (bar id : ℕ) (v : PartyView C) → means.holds words views phases → IsPass means.quiet views phases bar id v → means.passes bar (now phases bar) → means.holds words views (set phases bar (suc (now phases bar)))
    pub leave : (words : List ℕ) (views : List (PartyView C)) (phases : List ℕ) (id : ℕ) (v w : PartyView C) (bar ph : ℕ) → means.holds words views phases → IsLeave means.stays views phases id v w bar ph → means.quiet v bar ph → means.holds words (set views id w) phases

-- a step that frees nothing leaves what the client sees of its seat
no_free_party : {C : Type 0} (k : WaitStep) → IsNoFree k → (p : Place) (v : PartyView C) → record v { attached = attached_then k p v.attached; elections = elections_then k p v.elections } ≡ v
no_free_party (Free x target) none p v = absurd none
no_free_party k none p v = refl

-- a list's member is replaced twice
set_twice : {A : Type 0} (l : List A) (i : ℕ) (v w : A) → set (set l i v) i w ≡ set l i w
set_twice [] i v w = refl
set_twice (x ∷ l) zero v w = refl
set_twice (x ∷ l) (suc i) v w = λ j. x ∷ set_twice l i v w j

module _ {C : Type 0} (means : Meanings C) (z : Size) (phase count : ℕ) (s : WaitState C) (r : Rule means z phase count s) where
  -- the parts on barriers, of the rule
  pub attended : Attended means z phase s
  attended = record { left = r.left; barriers = r.barriers; known = r.known; waiters = r.waiters; participants = r.participants; arrived = r.arrived; elections = r.elections; inside = r.inside; suits = r.suits; client = r.client }

  -- there are at most as many views as numbers
  pub few_views : length (map party_of s.views) ≤ 64
  few_views = let a = r.counted in let b = r.roster.few in let c = r.sized.procs in let x = length-map s.views numbers_of in let y = length-map s.views party_of in omega arith

  -- the phase that the client's law sees is that of the record
  pub phase_seen : (b : ℕ) → b < z.bars → now (phases_in z s) b ≡ phase_in b s.homes (map attendance_of s.views)
  phase_seen b below = opened_at (λ b. phase_in b s.homes (map attendance_of s.views)) z.bars b below

  pub phases_long : length (phases_in z s) ≡ z.bars
  phases_long = opened_long (λ b. phase_in b s.homes (map attendance_of s.views)) z.bars

  module _ (laws : Owes means) (id : ℕ) (v : WaitView C) (o : ℕ) (at : get_elem? s.views id ≡ maybe.some v) (own : v.own ≡ Some o) where
    abbrev seats : List (Attendance C)
    seats = map attendance_of s.views

    abbrev views : List (PartyView C)
    views = map party_of s.views

    seat : get_elem? seats id ≡ maybe.some (attendance_of v)
    seat = at_map attendance_of s.views id v at

    member : get_elem? views id ≡ maybe.some (party_of v)
    member = at_map party_of s.views id v at

    fits : Fits z.cvs v.target v.place
    fits = r.places.fits id (standing_of v) (at_map standing_of s.views id v at)

    numbered : v.own ≡ None → ⊥
    numbered none = none_isnt o (sym none ∙ own)

    -- the state after the step k
    abbrev goes_on_as : WaitStep → WaitView C
    goes_on_as k = next_with z k v (get_or s.words (word_of z o k) 0) (home_in s.homes (slot_number k))

    abbrev pub StillAttended : WaitStep → Type 0
    StillAttended k = let n : ℕ = get_or s.words (word_of z o k) 0 in let found : Kept = home_in s.homes (slot_number k) in Attended means z phase (stepped s (word_of z o k) (becomes k n) id (carried k o v.place) (goes_on_as k) (act_of k n found))

    same_words : (i x : ℕ) → i < client_base z → client_words z (set s.words i x) ≡ client_words z s.words
    same_words i x inside = drop-set-lt (client_base z) s.words i x inside

    -- what the seat's job asks of the client, after the step
    goes_suits : (k : WaitStep) → Permits z k (Some o) v.target v.place → JobSuits means (asks_then k v.place) (party_of v) → JobSuits means (asks_at (goes_on_as k).place) (party_of v)
    goes_suits k ok suits = subst (λ (j : Option Job). JobSuits means j (party_of v)) (sym (asks_follows z v.target k (Some o) (number_of v.own) (get_or s.words (word_of z o k) 0) (home_in s.homes (slot_number k)) v.place ok fits)) suits

    goes_waits : (k : WaitStep) → IsNoFree k → Permits z k (Some o) v.target v.place → waits_at (goes_on_as k).place ≡ waits_at v.place
    goes_waits k none ok = waits_stay z v.target k (Some o) (number_of v.own) (get_or s.words (word_of z o k) 0) (home_in s.homes (slot_number k)) v.place none ok

    -- A step that frees nothing
    stays : (k : WaitStep) → IsNoFree k → word_of z o k < client_base z → Permits z k (Some o) v.target v.place → JobSuits means (asks_then k v.place) (party_of v) → StillAttended k
    stays k none inside ok suits = let i : ℕ = word_of z o k in let n : ℕ = get_or s.words i 0 in
        unmoved means z phase s attended id v (goes_on_as k) at (set s.words i (becomes k n)) (homes_then means z phase count s r id v o at k) numbered (λ f blank b below. records_stay means z phase count s r id v o at k none ok f blank b)
        (same_words i (becomes k n) inside) (no_free_party k none v.place (party_of v)) (goes_waits k none ok) (goes_suits k ok suits)

    -- WHAT IS IN HAND GOES HOME, from the place p of a seat that frees the spin word of its job
    module _ (j : Job) (list : List ℕ) (found : Record) (q : Place) (place : v.place ≡ Holding j list found ∷ q) (low : slot_of (spot_of j) < slots_in z) (w : WaitView C) (same_own : w.own ≡ v.own) (free : slot_in (hand_at w.place) ≡ None) (asks : asks_at w.place ≡ None) (k : Kept) (words : List ℕ) (same_client : client_words z words ≡ client_words z s.words) where
      abbrev slot : ℕ
      slot = slot_of (spot_of j)

      abbrev homes : Homes
      homes = set s.homes slot (maybe.some k)

      abbrev now_seats : List (Attendance C)
      now_seats = set seats id (attendance_of w)

      abbrev Result : Type 0
      Result = Attended means z phase record { words = words; homes = homes; views = set s.views id w }

      asks_nothing : (u : PartyView C) → JobSuits means (asks_at w.place) u
      asks_nothing u = subst (λ (x : Option Job). JobSuits means x u) (sym asks) tt

      -- what the record read and reads, of this slot
      was : (f : Record → ℕ) → ReadsNothing f → (b : ℕ) → slot ≡ slot_of (Bar b) → field_of f b s.homes seats ≡ f found
      was = found_reads means z phase count s r id v o at j list found q place low

      is_now : (f : Record → ℕ) → ReadsNothing f → (b : ℕ) → slot ≡ slot_of (Bar b) → field_of f b homes now_seats ≡ f k.record
      is_now = left_reads means z phase count s r id v o at j list found q place low w free k

      -- and of another
      else : (f : Record → ℕ) → ReadsNothing f → (b : ℕ) → slot ≢ slot_of (Bar b) → field_of f b homes now_seats ≡ field_of f b s.homes seats
      else = others_read means z phase count s r id v o at j list found q place low w free k

      -- as it was found
      returned : k.record ≡ found → party_of w ≡ party_of v → waits_at w.place ≡ waits_at v.place → Result
      returned same party waits = unmoved means z phase s attended id v w at words homes numbered
          (λ f blank b below. dite (ℕ_discrete slot (slot_of (Bar b))) (λ is. let x = was f blank b is in let y = is_now f blank b is in let e = ap f same in omega arith) (λ ne. else f blank b ne)) same_client party waits (asks_nothing (party_of v))

      -- A RECORD OF THE BARRIER b
      module _ (b : ℕ) (bar : spot_of j ≡ Bar b) (below : b < z.bars) where
        slot_is : slot ≡ slot_of (Bar b)
        slot_is = ap slot_of bar

        at_slot : (c : ℕ) → c ≡ b → slot ≡ slot_of (Bar c)
        at_slot c e = slot_is ∙ ap (λ (n : ℕ). slot_of (Bar n)) (sym e)

        off_slot : (c : ℕ) → c ≢ b → slot ≢ slot_of (Bar c)
        off_slot c ne h = ne (let x = sym slot_is ∙ h in omega arith)

        -- a field, at this barrier and at others
        reads : (f : Record → ℕ) → ReadsNothing f → (c : ℕ) → c ≡ b → field_of f c homes now_seats ≡ f k.record
        reads f blank c e = is_now f blank c (at_slot c e)

        read : (f : Record → ℕ) → ReadsNothing f → (c : ℕ) → c ≡ b → field_of f c s.homes seats ≡ f found
        read f blank c e = was f blank c (at_slot c e)

        reads_else : (f : Record → ℕ) → ReadsNothing f → (c : ℕ) → c ≢ b → field_of f c homes now_seats ≡ field_of f c s.homes seats
        reads_else f blank c ne = else f blank c (off_slot c ne)

        -- the record as it was found
        phase_found : now (phases_in z s) b ≡ found.phase
        phase_found = phase_seen b below ∙ read (λ r. r.phase) refl b refl

        found_participants : found.participants ≡ total (takes_part b) seats
        found_participants = sym (read (λ r. r.participants) refl b refl) ∙ r.participants b below

        found_arrived : found.arrived ≡ total (waits_from b found.phase) seats
        found_arrived = sym (read (λ r. r.arrived) refl b refl) ∙ (r.arrived b below ∙ ap (λ (n : ℕ). total (waits_from b n) seats) (read (λ r. r.phase) refl b refl))

        found_elected : found.elected ≤ found.phase
        found_elected = let p = r.elections.past b below in let e = read (λ r. r.elected) refl b refl in let f = read (λ r. r.phase) refl b refl in omega arith

        found_inside : (phase ≤ found.phase) × (found.phase ≤ last_phase)
        found_inside = let i = r.inside b below in let low = i.0 in let high = i.1 in let e = read (λ r. r.phase) refl b refl in (omega arith, omega arith)

        knows_found : (i : ℕ) (u : Attendance C) → get_elem? seats i ≡ maybe.some u → (ph : ℕ) → phase_of u.party.attached b ≡ Some ph → (found.phase ≡ ph) ⊎ ((found.phase ≡ suc ph) × (waits_at u.place ≡ waited b ph))
        knows_found i u e ph is = ⊎_elim (λ here. inl (sym phase_found ∙ here)) (λ late. inr (sym phase_found ∙ late.0, late.1)) (r.known i u e b ph is)

        part_sum : total (takes_part b) now_seats + takes_part b (attendance_of v) ≡ total (takes_part b) seats + takes_part b (attendance_of w)
        part_sum = total_set (takes_part b) seats id (attendance_of v) (attendance_of w) seat

        wait_sum : (ph : ℕ) → total (waits_from b ph) now_seats + waits_from b ph (attendance_of v) ≡ total (waits_from b ph) seats + waits_from b ph (attendance_of w)
        wait_sum ph = total_set (waits_from b ph) seats id (attendance_of v) (attendance_of w) seat

        -- the seat waits at no other barrier
        abbrev OnlyHere : WaitView C → Type 0
        OnlyHere u = (c ph : ℕ) → c ≢ b → waits_at u.place ≡ waited c ph → ⊥

        nowhere : (u : WaitView C) → waits_at u.place ≡ None → OnlyHere u
        nowhere u none c ph ne is = none_waited c ph (sym none ∙ is)

        here_only : (u : WaitView C) (ph : ℕ) → waits_at u.place ≡ waited b ph → OnlyHere u
        here_only u ph here c g ne is = ne (sym (same_waited b ph c g (sym here ∙ is)).0)

        uncounted : (u : WaitView C) → OnlyHere u → (c ph : ℕ) → c ≢ b → waits_from c ph (attendance_of u) ≡ 0
        uncounted u only c ph ne = dite (ℕ_discrete (waits_from c ph (attendance_of u)) 0) (λ none. none) (λ some. absurd (only c ph ne (waiting_is c ph (waits_at u.place) (omega arith))))

        -- WHAT THE FREE OWES, at this barrier
        record AtBar : Type 0 where
          others_know : (i : ℕ) (u : Attendance C) → i ≢ id → get_elem? seats i ≡ maybe.some u → (ph : ℕ) → phase_of u.party.attached b ≡ Some ph → (k.record.phase ≡ ph) ⊎ ((k.record.phase ≡ suc ph) × (waits_at u.place ≡ waited b ph))
          knows : (ph : ℕ) → phase_of w.attached b ≡ Some ph → (k.record.phase ≡ ph) ⊎ ((k.record.phase ≡ suc ph) × (waits_at w.place ≡ waited b ph))
          elsewhere : (c : ℕ) → c ≢ b → phase_of w.attached c ≡ phase_of v.attached c
          only_was : OnlyHere v
          only_is : OnlyHere w
          waits : (ph : ℕ) → waits_at w.place ≡ waited b ph → IsWaiter means (party_of w) b ph
          participants : k.record.participants ≡ total (takes_part b) now_seats
          arrived : k.record.arrived ≡ total (waits_from b k.record.phase) now_seats
          elected_past : k.record.elected ≤ k.record.phase
          elected_stays : found.elected ≤ k.record.elected
          wins : Wins views v.elections w.elections
          won : (c ph : ℕ) → Elected w.elections c ph → Elected v.elections c ph ⊎ ((c ≡ b) × (ph ≤ k.record.elected))
          later : found.phase ≤ k.record.phase
          inside : k.record.phase ≤ last_phase
          law : means.holds (client_words z s.words) (set views id (party_of w)) (phases_are means z phase s attended id v w at words homes)

        at_bar : AtBar → Result
        at_bar h = goes means z phase s attended id v w at words homes (record {
          numbered = numbered;
          same_number = same_own;
          others_know = λ i u ne e c ph is. dite (ℕ_discrete c b)
              (λ (same : c ≡ b). ⊎_elim (λ here. inl (now_here c same ∙ here)) (λ late. inr (now_here c same ∙ late.0, late.1 ∙ ap (λ (n : ℕ). waited n ph) (sym same))) (h.others_know i u ne e ph (ap (phase_of u.party.attached) (sym same) ∙ is)))
              (λ (other : c ≢ b). let same = now_else c other (attached_low i u e c ph is) in ⊎_elim (λ here. inl (same ∙ here)) (λ late. inr (same ∙ late.0, late.1)) (r.known i u e c ph is));
          knows = λ c ph is. dite (ℕ_discrete c b)
              (λ (same : c ≡ b). ⊎_elim (λ here. inl (now_here c same ∙ here)) (λ late. inr (now_here c same ∙ late.0, late.1 ∙ ap (λ (n : ℕ). waited n ph) (sym same))) (h.knows ph (ap (phase_of w.attached) (sym same) ∙ is)))
              (λ (other : c ≢ b). let before = sym (h.elsewhere c other) ∙ is in let same = now_else c other (attached_low id (attendance_of v) seat c ph before) in
              ⊎_elim (λ here. inl (same ∙ here)) (λ late. absurd (h.only_was c ph other late.1)) (r.known id (attendance_of v) seat c ph before));
          attached_inside = λ c ph is. dite (ℕ_discrete c b) (λ (same : c ≡ b). omega arith) (λ (other : c ≢ b). attached_low id (attendance_of v) seat c ph (sym (h.elsewhere c other) ∙ is));
          waits = λ c ph is. dite (ℕ_discrete c b) (λ (same : c ≡ b). subst (λ (n : ℕ). IsWaiter means (party_of w) n ph) (sym same) (h.waits ph (is ∙ ap (λ (n : ℕ). waited n ph) same))) (λ (other : c ≢ b). absurd (h.only_is c ph other is));
          participants = λ c low'. dite (ℕ_discrete c b)
              (λ (same : c ≡ b). reads (λ r. r.participants) refl c same ∙ (h.participants ∙ ap (λ (n : ℕ). total (takes_part n) now_seats) (sym same)))
              (λ (other : c ≢ b). reads_else (λ r. r.participants) refl c other ∙ (r.participants c low' ∙ sym (same_part means z phase s attended id v w at words homes c (h.elsewhere c other))));
          arrived = λ c low'. dite (ℕ_discrete c b)
              (λ (same : c ≡ b). reads (λ r. r.arrived) refl c same ∙ (h.arrived ∙ (λ i. total (waits_from (sym same i) (sym (reads (λ r. r.phase) refl c same) i)) now_seats)))
              (λ (other : c ≢ b). let ph = field_of (λ r. r.phase) c homes now_seats in reads_else (λ r. r.arrived) refl c other ∙ (r.arrived c low' ∙ (ap (λ (n : ℕ). total (waits_from c n) seats) (sym (reads_else (λ r. r.phase) refl c other))
              ∙ sym (same_waits means z phase s attended id v w at words homes c ph (uncounted w h.only_is c ph other ∙ sym (uncounted v h.only_was c ph other))))));
          elected_past = λ c low'. dite (ℕ_discrete c b)
              (λ (same : c ≡ b). let e = reads (λ r. r.elected) refl c same in let p = reads (λ r. r.phase) refl c same in let most = h.elected_past in omega arith)
              (λ (other : c ≢ b). let e = reads_else (λ r. r.elected) refl c other in let p = reads_else (λ r. r.phase) refl c other in let most = r.elections.past c low' in omega arith);
          elected_stays = λ c low'. more c;
          wins = h.wins;
          won = λ c ph is. ⊎_elim (λ old. let was = r.elections.known id (attendance_of v) seat c ph old in let up = more c in let low = was.1 in (was.0, omega arith))
              (λ (t : (c ≡ b) × (ph ≤ k.record.elected)). let e = reads (λ r. r.elected) refl c t.0 in let most = t.1 in let same = t.0 in (omega arith, omega arith)) (h.won c ph is);
          phases_inside = λ c low'. dite (ℕ_discrete c b)
              (λ (same : c ≡ b). let p = reads (λ r. r.phase) refl c same in let most = h.inside in let least = h.later in let up = found_inside in let from = up.0 in (omega arith, omega arith))
              (λ (other : c ≢ b). let p = reads_else (λ r. r.phase) refl c other in let i = r.inside c low' in let least = i.0 in let most = i.1 in (omega arith, omega arith));
          suits = asks_nothing (party_of w);
          law = subst (λ (x : List ℕ). means.holds x (set views id (party_of w)) (phases_are means z phase s attended id v w at words homes)) (sym same_client) h.law;
        })
          where
            phases_now : List ℕ
            phases_now = phases_are means z phase s attended id v w at words homes

            now_here : (c : ℕ) → c ≡ b → now phases_now c ≡ k.record.phase
            now_here c same = opened_at (λ n. phase_in n homes now_seats) z.bars c (omega arith) ∙ reads (λ r. r.phase) refl c same

            now_else : (c : ℕ) → c ≢ b → c < z.bars → now phases_now c ≡ now (phases_in z s) c
            now_else c ne inside = opened_at (λ n. phase_in n homes now_seats) z.bars c inside ∙ (reads_else (λ r. r.phase) refl c ne ∙ sym (phase_seen c inside))

            attached_low : (i : ℕ) (u : Attendance C) → get_elem? seats i ≡ maybe.some u → (c ph : ℕ) → phase_of u.party.attached c ≡ Some ph → c < z.bars
            attached_low i u e c ph is = let x = from_seen attendance_of s.views i u e in subst (λ (n : ℕ). c < n) phases_long (r.barriers.inside i (party_of x.0) (at_map party_of s.views i x.0 x.1) c ph (ap (λ (y : Attendance C). phase_of y.party.attached c) x.2 ∙ is))

            more : (c : ℕ) → field_of (λ r. r.elected) c s.homes seats ≤ field_of (λ r. r.elected) c homes now_seats
            more c = dite (ℕ_discrete c b)
                (λ (same : c ≡ b). let e = reads (λ r. r.elected) refl c same in let p = read (λ r. r.elected) refl c same in let up = h.elected_stays in omega arith)
                (λ (other : c ≢ b). let e = reads_else (λ r. r.elected) refl c other in omega arith)

        -- THE PHASES AFTER IT: as before, or with that of this barrier one higher
        stay : k.record.phase ≡ found.phase → phases_are means z phase s attended id v w at words homes ≡ phases_in z s
        stay same = phases_stay means z phase s attended id v w at words homes
            (λ c inside. dite (ℕ_discrete c b) (λ e. reads (λ r. r.phase) refl c e ∙ (same ∙ sym (read (λ r. r.phase) refl c e))) (λ ne. reads_else (λ r. r.phase) refl c ne))

        abbrev next_phases : List ℕ
        next_phases = set (phases_in z s) b (suc found.phase)

        pass : k.record.phase ≡ suc found.phase → phases_are means z phase s attended id v w at words homes ≡ next_phases
        pass next = opened_set (λ c. phase_in c s.homes seats) (λ c. phase_in c homes now_seats) z.bars b (suc found.phase) below (reads (λ r. r.phase) refl b refl ∙ next) (λ c inside ne. reads_else (λ r. r.phase) refl c ne)

        -- THE CLIENT'S LAWS, at these phases
        abbrev moved_on : ℕ → PartyView C
        moved_on ph = record (party_of v) { attached = at_phase b (suc ph) v.attached }

        module _ (now_phases : List ℕ) (long : length now_phases ≡ z.bars) (holds : means.holds (client_words z s.words) views now_phases) (barriers : Barriers views now_phases) (ph : ℕ) (mine : phase_of v.attached b ≡ Some ph) (quiet : means.quiet (party_of v) b ph) (elsewhere : HereBut now_phases (party_of v) b) where
          -- the seat finds that its phase has passed
          notices : now now_phases b ≡ suc ph → means.holds (client_words z s.words) (set views id (moved_on ph)) now_phases
          notices passed = laws.notice (client_words z s.words) views now_phases id (party_of v) (moved_on ph) b ph holds
              (record { at = member; few = few_views; barriers = barriers; here = elsewhere; attached = mine; passed = passed; after = moved_after (party_of v) b (suc ph) }) quiet

          barriers_noticed : now now_phases b ≡ suc ph → Barriers (set views id (moved_on ph)) now_phases
          barriers_noticed passed = barriers_set views now_phases now_phases id (party_of v) (moved_on ph) member barriers refl
              (each_set (λ (u : PartyView C). (c g : ℕ) → phase_of u.attached c ≡ Some g → (now now_phases c ≡ g) ⊎ (now now_phases c ≡ suc g)) views id (moved_on ph) barriers.near own_near)
              (λ c g is. dite (ℕ_discrete c b) (λ (same : c ≡ b). omega arith) (λ (ne : c ≢ b). barriers.inside id (party_of v) member c g (sym (moved_else b (suc ph) c v.attached ne) ∙ is)))
              (each_set (λ (u : PartyView C). (c g : ℕ) → Elected u.elections c g → g ≤ now now_phases c) views id (moved_on ph) barriers.past (barriers.past id (party_of v) member)) (inl refl)
            where
              own_near : (c g : ℕ) → phase_of (at_phase b (suc ph) v.attached) c ≡ Some g → (now now_phases c ≡ g) ⊎ (now now_phases c ≡ suc g)
              own_near c g is = dite (ℕ_discrete c b)
                  (λ (same : c ≡ b). inl (ap (now now_phases) same ∙ (passed ∙ some_is (suc ph) g (sym (attached_here b (suc ph) (away_from b v.attached)) ∙ (ap (phase_of (at_phase b (suc ph) v.attached)) (sym same) ∙ is)))))
                  (λ (ne : c ≢ b). inl (elsewhere c g ne (sym (moved_else b (suc ph) c v.attached ne) ∙ is)))

          -- and is elected where nobody is
          elects : now now_phases b ≡ suc ph → IsNew views b (suc ph) → means.holds (client_words z s.words) (set views id (elected (moved_on ph) b (suc ph))) now_phases
          elects passed new = subst (λ (l : List (PartyView C)). means.holds (client_words z s.words) l now_phases) (set_twice views id (moved_on ph) (elected (moved_on ph) b (suc ph)))
              (laws.elect (client_words z s.words) (set views id (moved_on ph)) now_phases id (moved_on ph) b (suc ph) (notices passed) (record {
                at = Rattle.seat_roster.proofs.Totals.set_there views id (party_of v) (moved_on ph) member;
                few = let e = length-set views id (moved_on ph) in let few = few_views in omega arith;
                barriers = barriers_noticed passed;
                attached = attached_here b (suc ph) (away_from b v.attached);
                reached = passed;
                new = each_set (λ (u : PartyView C). Elected u.elections b (suc ph) → ⊥) views id (moved_on ph) new (new id (party_of v) member);
              }))

          -- the seat leaves
          leaves : (now now_phases b ≡ ph) ⊎ (now now_phases b ≡ suc ph) → ((means.stays b (now now_phases b) → ⊥) ⊎ ((i : ℕ) × (u : PartyView C) × (g : ℕ) × (i ≡ id → ⊥) × (get_elem? views i ≡ maybe.some u) × (phase_of u.attached b ≡ Some g)))
              → means.holds (client_words z s.words) (set views id (record (party_of v) { attached = away_from b v.attached })) now_phases
          leaves near lets = laws.leave (client_words z s.words) views now_phases id (party_of v) (record (party_of v) { attached = away_from b v.attached }) b ph holds
              (record { at = member; few = few_views; barriers = barriers; here = elsewhere; attached = mine; near = near; leaves = lets; after = away_after (party_of v) b }) quiet

        -- another is attached, where the seat isn't any more and somebody is
        abbrev Another : Type 0
        Another = (i : ℕ) × (u : PartyView C) × (g : ℕ) × (i ≡ id → ⊥) × (get_elem? views i ≡ maybe.some u) × (phase_of u.attached b ≡ Some g)

        as_party : (i : ℕ) (x : Attendance C) (g : ℕ) → (i ≡ id → ⊥) → get_elem? seats i ≡ maybe.some x → phase_of x.party.attached b ≡ Some g → Another
        as_party i x g ne e is = let y = from_seen attendance_of s.views i x e in (i, party_of y.0, g, ne, at_map party_of s.views i y.0 y.1, ap (λ (a : Attendance C). phase_of a.party.attached b) y.2 ∙ is)

        another : 1 ≤ total (takes_part b) now_seats → takes_part b (attendance_of w) ≡ 0 → Another
        another some gone = let t = total_some (takes_part b) now_seats some in by_member t.0 t.1 t.3 (at_set seats id t.0 (attendance_of w) t.1 t.2)
          where
            known_some : (o : Option ℕ) → 1 ≤ one_if o → (g : ℕ) × (o ≡ Some g)
            known_some None h = absurd (omega arith)
            known_some (Some g) h = (g, refl)

            by_member : (i : ℕ) (x : Attendance C) → 1 ≤ takes_part b x → ((i ≡ id) × (attendance_of w ≡ x)) ⊎ ((i ≢ id) × (get_elem? seats i ≡ maybe.some x)) → Another
            by_member i x part (inl (same, is)) = let e = ap (takes_part b) is in absurd (omega arith)
            by_member i x part (inr (ne, e)) = let g = known_some (phase_of x.party.attached b) part in as_party i x g.0 ne e g.1

        -- A SEAT THAT WAITS NOWHERE
        module _ (idle : waits_at v.place ≡ None) where
          here : Here (phases_in z s) (party_of v)
          here = here_idle (phases_in z s) (attendance_of v) (r.known id (attendance_of v) seat) idle

          mine_is : (ph : ℕ) → phase_of v.attached b ≡ Some ph → ph ≡ found.phase
          mine_is ph is = sym (here b ph is) ∙ phase_found

          -- it attaches
          attaches : k.record ≡ record found { participants = found.participants + 1 } → party_of w ≡ record (party_of v) { attached = (b, found.phase) ∷ v.attached } → waits_at w.place ≡ None → (phase_of v.attached b ≡ None) × means.enters (party_of v) b → Result
          attaches counted party idle' suits =
              let l : List (ℕ × ℕ) = (b, found.phase) ∷ v.attached in let attached : w.attached ≡ l = ap (λ (u : PartyView C). u.attached) party in
              let won : w.elections ≡ v.elections = ap (λ (u : PartyView C). u.elections) party in let phase_is = ap (λ (x : Record). x.phase) counted in
              at_bar record {
                others_know = λ i u ne e ph is. ⊎_elim (λ same. inl (phase_is ∙ same)) (λ late. inr (phase_is ∙ late.0, late.1)) (knows_found i u e ph is);
                knows = λ ph is. inl (phase_is ∙ some_is found.phase ph (sym (attached_here b found.phase v.attached) ∙ (sym (ap (λ (m : List (ℕ × ℕ)). phase_of m b) attached) ∙ is)));
                elsewhere = λ c ne. ap (λ (m : List (ℕ × ℕ)). phase_of m c) attached ∙ attached_else b found.phase c v.attached ne;
                only_was = nowhere v idle;
                only_is = nowhere w idle';
                waits = λ ph is. absurd (none_waited b ph (sym idle' ∙ is));
                participants = let p = ap (λ (x : Record). x.participants) counted in let sum = part_sum in let was = found_participants in
                    let none : takes_part b (attendance_of v) ≡ 0 = ap one_if suits.0 in
                    let one : takes_part b (attendance_of w) ≡ 1 = ap one_if (ap (λ (m : List (ℕ × ℕ)). phase_of m b) attached ∙ attached_here b found.phase v.attached) in omega arith;
                arrived = ap (λ (x : Record). x.arrived) counted ∙ (found_arrived ∙ (ap (λ (n : ℕ). total (waits_from b n) seats) (sym phase_is)
                    ∙ sym (same_waits means z phase s attended id v w at words homes b k.record.phase (waits_none b k.record.phase (waits_at w.place) idle' ∙ sym (waits_none b k.record.phase (waits_at v.place) idle)))));
                elected_past = let e = ap (λ (x : Record). x.elected) counted in let most = found_elected in omega arith;
                elected_stays = let e = ap (λ (x : Record). x.elected) counted in omega arith;
                wins = inl won;
                won = λ c ph is. inl (subst (λ (m : List (ℕ × ℕ)). Elected m c ph) won is);
                later = omega arith;
                inside = let i = found_inside in let most = i.1 in omega arith;
                law = subst (λ (x : List (PartyView C) × List ℕ). means.holds (client_words z s.words) x.0 x.1) (λ i. (set views id (sym party i), sym (stay phase_is) i))
                    (laws.enter (client_words z s.words) views (phases_in z s) id (party_of v) (record (party_of v) { attached = l }) b r.client (record {
                      at = member;
                      few = few_views;
                      barriers = r.barriers;
                      here = here;
                      inside = let long = phases_long in omega arith;
                      away = suits.0;
                      after = subst (Reattached (party_of v) (record (party_of v) { attached = l }) b) (ap (λ (n : ℕ). Some n) (sym phase_found)) (is_attached (party_of v) b found.phase);
                    }) suits.1);
              }

          -- it arrives, and waits for the others
          arrives : k.record ≡ record found { arrived = found.arrived + 1 } → party_of w ≡ party_of v → waits_at w.place ≡ waited b found.phase → (found.phase ≡ last_phase → ⊥) → IsDone means b (LetsPass means b) (party_of v) → Result
          arrives counted party waiting unworn (ph, there, done, passes) =
              let phase_is = ap (λ (x : Record). x.phase) counted in let is = mine_is ph there in let attached : w.attached ≡ v.attached = ap (λ (u : PartyView C). u.attached) party in
              let won : w.elections ≡ v.elections = ap (λ (u : PartyView C). u.elections) party in
              at_bar record {
                others_know = λ i u ne e ph is. ⊎_elim (λ same. inl (phase_is ∙ same)) (λ late. inr (phase_is ∙ late.0, late.1)) (knows_found i u e ph is);
                knows = λ g known. inl (phase_is ∙ sym (mine_is g (sym (ap (λ (m : List (ℕ × ℕ)). phase_of m b) attached) ∙ known)));
                elsewhere = λ c ne. ap (λ (m : List (ℕ × ℕ)). phase_of m c) attached;
                only_was = nowhere v idle;
                only_is = here_only w found.phase waiting;
                waits = λ g waits. let same = (same_waited b found.phase b g (sym waiting ∙ waits)).1 in subst (λ (x : PartyView C × ℕ). IsWaiter means x.0 b x.1) (λ i. (sym party i, (is ∙ same) i))
                    (record { attached = there; quiet = done; passes = passes; below = let i = found_inside in let most = i.1 in dite (ℕ_discrete found.phase last_phase) (λ worn. absurd (unworn worn)) (λ ne. omega arith) });
                participants = ap (λ (x : Record). x.participants) counted ∙ (found_participants ∙ sym (same_part means z phase s attended id v w at words homes b (ap (λ (m : List (ℕ × ℕ)). phase_of m b) attached)));
                arrived = let e = ap (λ (x : Record). x.arrived) counted in let sum = wait_sum found.phase in let was = found_arrived in let none = waits_none b found.phase (waits_at v.place) idle in let one = waits_here b found.phase (waits_at w.place) waiting in
                    let same = ap (λ (n : ℕ). total (waits_from b n) now_seats) phase_is in omega arith;
                elected_past = let e = ap (λ (x : Record). x.elected) counted in let most = found_elected in omega arith;
                elected_stays = let e = ap (λ (x : Record). x.elected) counted in omega arith;
                wins = inl won;
                won = λ c ph is. inl (subst (λ (m : List (ℕ × ℕ)). Elected m c ph) won is);
                later = omega arith;
                inside = let i = found_inside in let most = i.1 in omega arith;
                law = subst (λ (x : List (PartyView C) × List ℕ). means.holds (client_words z s.words) x.0 x.1) (λ i. ((sym (Rattle.atomic_table.proofs.Lists.set_again views id (party_of v) member) ∙ ap (set views id) (sym party)) i, sym (stay phase_is) i)) r.client;
              }

          -- it leaves, and no phase passes
          departs : k.record ≡ record found { participants = found.participants - 1 } → party_of w ≡ record (party_of v) { attached = away_from b v.attached } → waits_at w.place ≡ None → (ph : ℕ) → phase_of v.attached b ≡ Some ph → means.quiet (party_of v) b ph
              → ((means.stays b ph → ⊥) ⊎ (2 ≤ found.participants)) → Result
          departs counted party idle' ph there done lets =
              let phase_is = ap (λ (x : Record). x.phase) counted in let l : List (ℕ × ℕ) = away_from b v.attached in let attached : w.attached ≡ l = ap (λ (u : PartyView C). u.attached) party in
              let won : w.elections ≡ v.elections = ap (λ (u : PartyView C). u.elections) party in let now_is = here b ph there in
              at_bar record {
                others_know = λ i u ne e ph is. ⊎_elim (λ same. inl (phase_is ∙ same)) (λ late. inr (phase_is ∙ late.0, late.1)) (knows_found i u e ph is);
                knows = λ g known. absurd (none_isnt g (sym (away_here b v.attached) ∙ (sym (ap (λ (m : List (ℕ × ℕ)). phase_of m b) attached) ∙ known)));
                elsewhere = λ c ne. ap (λ (m : List (ℕ × ℕ)). phase_of m c) attached ∙ away_else b c v.attached ne;
                only_was = nowhere v idle;
                only_is = nowhere w idle';
                waits = λ ph is. absurd (none_waited b ph (sym idle' ∙ is));
                participants = let p = ap (λ (x : Record). x.participants) counted in let left = one_less in omega arith;
                arrived = ap (λ (x : Record). x.arrived) counted ∙ (found_arrived ∙ (ap (λ (n : ℕ). total (waits_from b n) seats) (sym phase_is)
                    ∙ sym (same_waits means z phase s attended id v w at words homes b k.record.phase (waits_none b k.record.phase (waits_at w.place) idle' ∙ sym (waits_none b k.record.phase (waits_at v.place) idle)))));
                elected_past = let e = ap (λ (x : Record). x.elected) counted in let most = found_elected in omega arith;
                elected_stays = let e = ap (λ (x : Record). x.elected) counted in omega arith;
                wins = inl won;
                won = λ c ph is. inl (subst (λ (m : List (ℕ × ℕ)). Elected m c ph) won is);
                later = omega arith;
                inside = let i = found_inside in let most = i.1 in omega arith;
                law = subst (λ (x : List (PartyView C) × List ℕ). means.holds (client_words z s.words) x.0 x.1) (λ i. (set views id (sym party i), sym (stay phase_is) i))
                    (leaves (phases_in z s) phases_long r.client r.barriers ph there done (λ c g ne e. here c g e) (inl now_is)
                    (⊎_elim (λ never. inl (λ stays. never (subst (means.stays b) now_is stays))) (λ two. inr (another (let left = one_less in omega arith) gone)) lets));
              }
            where
              gone : takes_part b (attendance_of w) ≡ 0
              gone = ap (λ (u : PartyView C). one_if (phase_of u.attached b)) party ∙ ap one_if (away_here b v.attached)

              one_less : total (takes_part b) now_seats + 1 ≡ found.participants
              one_less = let sum = part_sum in let was = found_participants in let none = gone in let one : takes_part b (attendance_of v) ≡ 1 = ap one_if there in omega arith

          -- THE PHASE PASSES: all others wait for that
          module _ (ph : ℕ) (mine : phase_of v.attached b ≡ Some ph) (done : means.quiet (party_of v) b ph) (last : found.arrived + 1 ≡ found.participants) (lets : means.passes b ph) (low_phase : ph < last_phase) where
            ph_is : ph ≡ found.phase
            ph_is = mine_is ph mine

            mine_found : phase_of v.attached b ≡ Some found.phase
            mine_found = mine ∙ ap (λ (n : ℕ). Some n) ph_is

            others_waiting : (i g : ℕ) (u : Attendance C) → i ≢ id → get_elem? seats i ≡ maybe.some u → phase_of u.party.attached b ≡ Some g → waits_at u.place ≡ waited b found.phase
            others_waiting = others_wait means (phases_in z s) seats r.known r.waiters b found.phase found.participants found.arrived phase_found found_participants found_arrived id (attendance_of v) seat idle mine_found last

            everybody : (i : ℕ) (u : PartyView C) (g : ℕ) → get_elem? views i ≡ maybe.some u → phase_of u.attached b ≡ Some g → (g ≡ now (phases_in z s) b) × means.quiet u b g × Here (phases_in z s) u
            everybody i u g e is = let x = from_seen party_of s.views i u e in subst (λ (y : PartyView C). phase_of y.attached b ≡ Some g → (g ≡ now (phases_in z s) b) × means.quiet y b g × Here (phases_in z s) y) x.2 (of_seat x.0 x.1) is
              where
                of_seat : (y : WaitView C) → get_elem? s.views i ≡ maybe.some y → phase_of y.attached b ≡ Some g → (g ≡ now (phases_in z s) b) × means.quiet (party_of y) b g × Here (phases_in z s) (party_of y)
                of_seat y e' is' =
                    let q = all_quiet means (phases_in z s) seats r.known r.waiters b found.phase found.participants found.arrived phase_found found_participants found_arrived id (attendance_of v) seat idle mine_found last (subst (means.quiet (party_of v) b) ph_is done) i (attendance_of y) g (at_map attendance_of s.views i y e') is' in
                    (q.0 ∙ sym phase_found, subst (means.quiet (party_of y) b) (sym q.0) q.1, q.2)

            passed : means.holds (client_words z s.words) views next_phases
            passed = subst (λ (n : ℕ). means.holds (client_words z s.words) views (set (phases_in z s) b (suc n))) phase_found
                (laws.pass (client_words z s.words) views (phases_in z s) b id (party_of v) r.client
                (record { few = few_views; barriers = r.barriers; inside = let long = phases_long in omega arith; at = member; attached = mine_found ∙ ap (λ (n : ℕ). Some n) (sym phase_found); all = everybody })
                (subst (means.passes b) (ph_is ∙ sym phase_found) lets))

            barriers_next : Barriers views next_phases
            barriers_next = subst (λ (n : ℕ). Barriers views (set (phases_in z s) b (suc n))) phase_found (barriers_passed views (phases_in z s) b r.barriers (let long = phases_long in omega arith) (λ i u g e is. (everybody i u g e is).0))

            next_long : length next_phases ≡ z.bars
            next_long = length-set (phases_in z s) b (suc found.phase) ∙ phases_long

            next_is : now next_phases b ≡ suc ph
            next_is = get_or-set_same (phases_in z s) b (suc found.phase) 0 (let long = phases_long in omega arith) ∙ ap suc (sym ph_is)

            next_elsewhere : HereBut next_phases (party_of v) b
            next_elsewhere c g ne is = get_or-set_other (phases_in z s) b c (suc found.phase) 0 ne ∙ here c g is

            unelected : IsNew views b (suc ph)
            unelected i u e won = let past = r.barriers.past i u e b (suc ph) won in let now_is = phase_found in let is = ph_is in absurd (omega arith)

            -- what the others know then, and how many wait
            others_late : k.record.phase ≡ suc found.phase → (i : ℕ) (u : Attendance C) → i ≢ id → get_elem? seats i ≡ maybe.some u → (g : ℕ) → phase_of u.party.attached b ≡ Some g → (k.record.phase ≡ g) ⊎ ((k.record.phase ≡ suc g) × (waits_at u.place ≡ waited b g))
            others_late next i u ne e g is = let waits = others_waiting i g u ne e is in let same = some_is g found.phase (sym is ∙ (r.waiters i u e b found.phase waits).attached) in
                inr (next ∙ ap suc (sym same), waits ∙ ap (waited b) (sym same))

            nobody_waits : k.record.phase ≡ suc found.phase → waits_at w.place ≡ None → total (waits_from b k.record.phase) now_seats ≡ 0
            nobody_waits next idle' = total_none (waits_from b k.record.phase) now_seats (each_set (λ (u : Attendance C). waits_from b k.record.phase u ≡ 0) seats id (attendance_of w)
                (λ i u e. dite (ℕ_discrete (waits_from b k.record.phase u) 0) (λ none. none) (λ some. absurd (too_late i u e (waiting_is b k.record.phase (waits_at u.place) (omega arith)))))
                (waits_none b k.record.phase (waits_at w.place) idle'))
              where
                too_late : (i : ℕ) (u : Attendance C) → get_elem? seats i ≡ maybe.some u → waits_at u.place ≡ waited b k.record.phase → ⊥
                too_late i u e waits = ⊎_elim (λ same. omega arith) (λ late. let more = late.0 in omega arith) (knows_found i u e k.record.phase (r.waiters i u e b k.record.phase waits).attached)

            -- the seat goes on in the next phase, and is elected or isn't
            module _ (next : k.record.phase ≡ suc found.phase) (participants : k.record.participants ≡ found.participants) (arrived : k.record.arrived ≡ 0) (idle' : waits_at w.place ≡ None) (attached : w.attached ≡ at_phase b (suc ph) v.attached) where
              goes_along : Wins views v.elections w.elections → ((c g : ℕ) → Elected w.elections c g → Elected v.elections c g ⊎ ((c ≡ b) × (g ≤ k.record.elected))) → k.record.elected ≤ k.record.phase → found.elected ≤ k.record.elected
                  → means.holds (client_words z s.words) (set views id (party_of w)) next_phases → Result
              goes_along wins won past stays law = at_bar record {
                others_know = others_late next;
                knows = λ g known. inl (next ∙ (ap suc (sym ph_is) ∙ some_is (suc ph) g (sym (attached_here b (suc ph) (away_from b v.attached)) ∙ (sym (ap (λ (m : List (ℕ × ℕ)). phase_of m b) attached) ∙ known))));
                elsewhere = λ c ne. ap (λ (m : List (ℕ × ℕ)). phase_of m c) attached ∙ moved_else b (suc ph) c v.attached ne;
                only_was = nowhere v idle;
                only_is = nowhere w idle';
                waits = λ g is. absurd (none_waited b g (sym idle' ∙ is));
                participants = participants ∙ (found_participants ∙ (let sum = part_sum in let one : takes_part b (attendance_of v) ≡ 1 = ap one_if mine in
                    let one' : takes_part b (attendance_of w) ≡ 1 = ap one_if (ap (λ (m : List (ℕ × ℕ)). phase_of m b) attached ∙ attached_here b (suc ph) (away_from b v.attached)) in omega arith));
                arrived = arrived ∙ sym (nobody_waits next idle');
                elected_past = past;
                elected_stays = stays;
                wins = wins;
                won = won;
                later = omega arith;
                inside = let is = ph_is in omega arith;
                law = subst (means.holds (client_words z s.words) (set views id (party_of w))) (sym (pass next)) law;
              }

            -- by the last that arrives, which is elected
            completes : k.record ≡ record { phase = found.phase + 1; participants = found.participants; arrived = 0; elected = found.phase + 1 } → party_of w ≡ elected (moved_on ph) b (suc ph) → waits_at w.place ≡ None → Result
            completes left party idle' =
                let next : k.record.phase ≡ suc found.phase = ap (λ (x : Record). x.phase) left ∙ omega arith in let won : w.elections ≡ (b, suc ph) ∷ v.elections = ap (λ (u : PartyView C). u.elections) party in let is = ph_is in let e = ap (λ (x : Record). x.elected) left in
                goes_along next (ap (λ (x : Record). x.participants) left) (ap (λ (x : Record). x.arrived) left) idle' (ap (λ (u : PartyView C). u.attached) party) (inr (b, suc ph, won, unelected))
                (λ c g el. ⊎_elim (λ (t : (b ≡ c) × (suc ph ≡ g)). let x = t.0 in let y = t.1 in inr (sym x, omega arith)) (λ old. inl old) (elected_more v.elections b (suc ph) c g (subst (λ (m : List (ℕ × ℕ)). Elected m c g) won el)))
                (omega arith) (let most = found_elected in omega arith)
                (subst (λ (u : PartyView C). means.holds (client_words z s.words) (set views id u) next_phases) (sym party) (elects next_phases next_long passed barriers_next ph mine done next_elsewhere next_is unelected))

            -- by the only one, which stays
            goes_alone : k.record ≡ record found { phase = found.phase + 1 } → party_of w ≡ moved_on ph → waits_at w.place ≡ None → found.arrived ≡ 0 → Result
            goes_alone left party idle' none =
                let next : k.record.phase ≡ suc found.phase = ap (λ (x : Record). x.phase) left ∙ omega arith in let won : w.elections ≡ v.elections = ap (λ (u : PartyView C). u.elections) party in let e = ap (λ (x : Record). x.elected) left in
                goes_along next (ap (λ (x : Record). x.participants) left) (ap (λ (x : Record). x.arrived) left ∙ none) idle' (ap (λ (u : PartyView C). u.attached) party) (inl won) (λ c g el. inl (subst (λ (m : List (ℕ × ℕ)). Elected m c g) won el))
                (let most = found_elected in omega arith) (omega arith) (subst (λ (u : PartyView C). means.holds (client_words z s.words) (set views id u) next_phases) (sym party) (notices next_phases next_long passed barriers_next ph mine done next_elsewhere next_is))

            -- by one that leaves
            departs_last : k.record ≡ departed true found → party_of w ≡ record (party_of v) { attached = away_from b v.attached } → waits_at w.place ≡ None → (means.stays b (suc ph) → ⊥) ⊎ Another → Result
            departs_last left party idle' goes_from =
                let next : k.record.phase ≡ suc found.phase = ap (λ (x : Record). x.phase) left ∙ omega arith in let won : w.elections ≡ v.elections = ap (λ (u : PartyView C). u.elections) party in
                let attached : w.attached ≡ away_from b v.attached = ap (λ (u : PartyView C). u.attached) party in let e = ap (λ (x : Record). x.elected) left in
                at_bar record {
                  others_know = others_late next;
                  knows = λ g known. absurd (none_isnt g (sym (away_here b v.attached) ∙ (sym (ap (λ (m : List (ℕ × ℕ)). phase_of m b) attached) ∙ known)));
                  elsewhere = λ c ne. ap (λ (m : List (ℕ × ℕ)). phase_of m c) attached ∙ away_else b c v.attached ne;
                  only_was = nowhere v idle;
                  only_is = nowhere w idle';
                  waits = λ g is. absurd (none_waited b g (sym idle' ∙ is));
                  participants = let p = ap (λ (x : Record). x.participants) left in let sum = part_sum in let was = found_participants in let one : takes_part b (attendance_of v) ≡ 1 = ap one_if mine in
                      let none : takes_part b (attendance_of w) ≡ 0 = ap one_if (ap (λ (m : List (ℕ × ℕ)). phase_of m b) attached ∙ away_here b v.attached) in omega arith;
                  arrived = ap (λ (x : Record). x.arrived) left ∙ sym (nobody_waits next idle');
                  elected_past = let most = found_elected in omega arith;
                  elected_stays = omega arith;
                  wins = inl won;
                  won = λ c g el. inl (subst (λ (m : List (ℕ × ℕ)). Elected m c g) won el);
                  later = omega arith;
                  inside = let is = ph_is in omega arith;
                  law = subst (λ (x : List (PartyView C) × List ℕ). means.holds (client_words z s.words) x.0 x.1) (λ i. (set views id (sym party i), sym (pass next) i))
                      (leaves next_phases next_long passed barriers_next ph mine done next_elsewhere (inr next_is) (⊎_elim (λ never. inl (λ stays. never (subst (means.stays b) next_is stays))) inr goes_from));
                }

        -- A SEAT THAT WAITS HERE finds that its phase has passed, and is elected where nobody is
        module _ (ph : ℕ) (waiting : waits_at v.place ≡ waited b ph) (passed : found.phase ≡ suc ph) (left : k.record ≡ record found { elected = found.phase }) (idle' : waits_at w.place ≡ None) (attached : w.attached ≡ at_phase b (suc ph) v.attached) where
          waiter : IsWaiter means (party_of v) b ph
          waiter = r.waiters id (attendance_of v) seat b ph waiting

          elsewhere_known : HereBut (phases_in z s) (party_of v) b
          elsewhere_known = here_waiting (phases_in z s) (attendance_of v) b ph (r.known id (attendance_of v) seat) waiting

          now_passed : now (phases_in z s) b ≡ suc ph
          now_passed = phase_found ∙ passed

          returns : Wins views v.elections w.elections → ((c g : ℕ) → Elected w.elections c g → Elected v.elections c g ⊎ ((c ≡ b) × (g ≤ k.record.elected))) → means.holds (client_words z s.words) (set views id (party_of w)) (phases_in z s) → Result
          returns wins won law = let phase_is = ap (λ (x : Record). x.phase) left in let e = ap (λ (x : Record). x.elected) left in at_bar record {
            others_know = λ i u ne e ph is. ⊎_elim (λ same. inl (phase_is ∙ same)) (λ late. inr (phase_is ∙ late.0, late.1)) (knows_found i u e ph is);
            knows = λ g known. inl (phase_is ∙ (passed ∙ some_is (suc ph) g (sym (attached_here b (suc ph) (away_from b v.attached)) ∙ (sym (ap (λ (m : List (ℕ × ℕ)). phase_of m b) attached) ∙ known))));
            elsewhere = λ c ne. ap (λ (m : List (ℕ × ℕ)). phase_of m c) attached ∙ moved_else b (suc ph) c v.attached ne;
            only_was = here_only v ph waiting;
            only_is = nowhere w idle';
            waits = λ g is. absurd (none_waited b g (sym idle' ∙ is));
            participants = ap (λ (x : Record). x.participants) left ∙ (found_participants ∙ (let sum = part_sum in let one : takes_part b (attendance_of v) ≡ 1 = ap one_if waiter.attached in
                let one' : takes_part b (attendance_of w) ≡ 1 = ap one_if (ap (λ (m : List (ℕ × ℕ)). phase_of m b) attached ∙ attached_here b (suc ph) (away_from b v.attached)) in omega arith));
            arrived = ap (λ (x : Record). x.arrived) left ∙ (found_arrived ∙ (ap (λ (n : ℕ). total (waits_from b n) seats) (sym phase_is)
                ∙ sym (same_waits means z phase s attended id v w at words homes b k.record.phase (waits_none b k.record.phase (waits_at w.place) idle' ∙ sym (waits_before b k.record.phase ph (waits_at v.place) waiting (λ same. omega arith))))));
            elected_past = omega arith;
            elected_stays = let most = found_elected in omega arith;
            wins = wins;
            won = won;
            later = omega arith;
            inside = let i = found_inside in let most = i.1 in omega arith;
            law = subst (means.holds (client_words z s.words) (set views id (party_of w))) (sym (stay phase_is)) law;
          }

          returns_unelected : party_of w ≡ moved_on ph → Result
          returns_unelected party = let won : w.elections ≡ v.elections = ap (λ (u : PartyView C). u.elections) party in
              returns (inl won) (λ c g el. inl (subst (λ (m : List (ℕ × ℕ)). Elected m c g) won el))
              (subst (λ (u : PartyView C). means.holds (client_words z s.words) (set views id u) (phases_in z s)) (sym party) (notices (phases_in z s) phases_long r.client r.barriers ph waiter.attached waiter.quiet elsewhere_known now_passed))

          returns_elected : (found.elected ≡ suc ph → ⊥) → party_of w ≡ elected (moved_on ph) b (suc ph) → Result
          returns_elected vacant party = let won : w.elections ≡ (b, suc ph) ∷ v.elections = ap (λ (u : PartyView C). u.elections) party in let e = ap (λ (x : Record). x.elected) left in
              returns (inr (b, suc ph, won, unelected))
              (λ c g el. ⊎_elim (λ (t : (b ≡ c) × (suc ph ≡ g)). let x = t.0 in let y = t.1 in inr (sym x, omega arith)) (λ old. inl old) (elected_more v.elections b (suc ph) c g (subst (λ (m : List (ℕ × ℕ)). Elected m c g) won el)))
              (subst (λ (u : PartyView C). means.holds (client_words z s.words) (set views id u) (phases_in z s)) (sym party) (elects (phases_in z s) phases_long r.client r.barriers ph waiter.attached waiter.quiet elsewhere_known now_passed unelected))
            where
              unelected : IsNew views b (suc ph)
              unelected i u e won =
                  let x = from_seen party_of s.views i u e in let known = r.elections.known i (attendance_of x.0) (at_map attendance_of s.views i x.0 x.1) b (suc ph) (subst (λ (y : PartyView C). Elected y.elections b (suc ph)) (sym x.2) won) in
                  let most = known.1 in let was = read (λ r. r.elected) refl b refl in let past = found_elected in absurd (dite (ℕ_discrete found.elected (suc ph)) (λ same. vacant same) (λ ne. omega arith))

    -- THE FREE OF EACH JOB
    module _ (list : List ℕ) (found : Record) (q : Place) (target : Option ℕ) where
      abbrev FreesAs : Job → Type 0
      FreesAs j = v.place ≡ Holding j list found ∷ q → Permits z (Free (spot_of j) target) (Some o) v.target v.place → word_of z o (Free (spot_of j) target) < client_base z → StillAttended (Free (spot_of j) target)

      -- what each free knows: of its job, of the place that it leaves, and of what the client sees then
      module _ (j : Job) (place : v.place ≡ Holding j list found ∷ q) (ok : Permits z (Free (spot_of j) target) (Some o) v.target v.place) (inside : word_of z o (Free (spot_of j) target) < client_base z) where
        abbrev step : WaitStep
        step = Free (spot_of j) target

        abbrev goes_to : WaitView C
        goes_to = goes_on_as step

        low : slot_of (spot_of j) < slots_in z
        low = spot_inside z (spot_of j) r.sized.cvs ok.0

        free : slot_in (hand_at goes_to.place) ≡ None
        free = hand_follows z v.target step (Some o) (number_of v.own) (get_or s.words (word_of z o step) 0) (home_in s.homes (slot_number step)) v.place ok fits

        asks : asks_at goes_to.place ≡ None
        asks = asks_follows z v.target step (Some o) (number_of v.own) (get_or s.words (word_of z o step) 0) (home_in s.homes (slot_number step)) v.place ok fits

        left_is : (left_at o v.place).record ≡ left_record j found
        left_is = ap (λ (p : Place). (left_at o p).record) place

        place_is : goes_to.place ≡ goes_on j o list found q
        place_is = ap (λ (x : ℕ). freed x v.place) (ap number_of own) ∙ ap (freed o) place

        party_is : party_of goes_to ≡ record (party_of v) { attached = attached_after j found v.attached; elections = elections_after j found v.elections }
        party_is = ap (λ (p : Place). record (party_of v) { attached = freed_attached p v.attached; elections = freed_elections p v.elections }) place

        job_fits : JobFits z.cvs v.target j q
        job_fits = subst (Fits z.cvs v.target) place fits

        job_suits : JobSuits means (asked j) (party_of v)
        job_suits = subst (λ (p : Place). JobSuits means (asks_at p) (party_of v)) place (r.suits id (attendance_of v) seat)

        same_there : client_words z (set s.words (word_of z o step) 0) ≡ client_words z s.words
        same_there = same_words (word_of z o step) 0 inside

        -- the record goes home as it was found
        back : left_record j found ≡ found → record (party_of v) { attached = attached_after j found v.attached; elections = elections_after j found v.elections } ≡ party_of v → waits_at goes_to.place ≡ waits_at v.place → StillAttended step
        back same party waits = returned j list found q place low goes_to refl free asks (left_at o v.place) (set s.words (word_of z o step) 0) same_there (left_is ∙ same) (party_is ∙ party) waits

      -- nothing stands behind the job, and the seat waits nowhere
      idle_behind : (j : Job) → v.place ≡ Holding j list found ∷ q → q ≡ [] → noticing j None ≡ None → waits_at v.place ≡ None
      idle_behind j place none idle = ap waits_at place ∙ (ap (λ (p : Place). noticing j (waits_at p)) none ∙ idle)

      one_more : (n : ℕ) → n + 1 ≡ suc n
      one_more n = omega arith

      frees_attach : (b : ℕ) → FreesAs (job.Attach b)
      frees_attach b place ok inside = let none = job_fits (job.Attach b) place ok inside in let idle = idle_behind (job.Attach b) place none refl in
          attaches (job.Attach b) list found q place (low (job.Attach b) place ok inside) (goes_to (job.Attach b) place ok inside) refl (free (job.Attach b) place ok inside) (asks (job.Attach b) place ok inside) (left_at o v.place) (set s.words (word_of z o (Free (Bar b) target)) 0) (same_there (job.Attach b) place ok inside) b refl ok.0 idle (left_is (job.Attach b) place ok inside) (party_is (job.Attach b) place ok inside) (ap waits_at ((place_is (job.Attach b) place ok inside) ∙ ap resumed none)) (job_suits (job.Attach b) place ok inside)

      frees_arrive : (b : ℕ) → FreesAs (job.Arrive b)
      frees_arrive b place ok inside = by_test (is_worn found) refl (is_last found) refl
        where
          none : q ≡ []
          none = (job_fits (job.Arrive b) place ok inside).1

          idle : waits_at v.place ≡ None
          idle = idle_behind (job.Arrive b) place none refl

          by_test : (worn : Bool) → is_worn found ≡ worn → (last : Bool) → is_last found ≡ last → StillAttended (Free (Bar b) target)
          by_test true worn last all = back (job.Arrive b) place ok inside (λ i. cond (worn i) found (cond (is_last found) (record { phase = found.phase + 1; participants = found.participants; arrived = 0; elected = found.phase + 1 }) (record found { arrived = found.arrived + 1 })))
              (λ i. record (party_of v) { attached = cond (worn i) v.attached (cond (is_last found) (at_phase b (found.phase + 1) v.attached) v.attached); elections = cond (worn i) v.elections (cond (is_last found) ((b, found.phase + 1) ∷ v.elections) v.elections) })
              (ap waits_at ((place_is (job.Arrive b) place ok inside) ∙ (λ i. cond (worn i) (resumed (none i)) (cond (is_last found) (Passing b found.phase ∷ none i) (Settling b found.phase ∷ none i)))) ∙ sym idle)
          by_test false worn true all = let t = (job_suits (job.Arrive b) place ok inside) in let is = mine_is (job.Arrive b) list found q place (low (job.Arrive b) place ok inside) (goes_to (job.Arrive b) place ok inside) refl (free (job.Arrive b) place ok inside) (asks (job.Arrive b) place ok inside) (left_at o v.place) (set s.words (word_of z o (Free (Bar b) target)) 0) (same_there (job.Arrive b) place ok inside) b refl ok.0 idle t.0 t.1 in
              completes (job.Arrive b) list found q place (low (job.Arrive b) place ok inside) (goes_to (job.Arrive b) place ok inside) refl (free (job.Arrive b) place ok inside) (asks (job.Arrive b) place ok inside) (left_at o v.place) (set s.words (word_of z o (Free (Bar b) target)) 0) (same_there (job.Arrive b) place ok inside) b refl ok.0 idle found.phase (t.1 ∙ ap (λ (n : ℕ). Some n) is) (subst (means.quiet (party_of v) b) is t.2) (eqb-true (found.arrived + 1) found.participants all) (subst (means.passes b) is t.3)
              (let i = found_inside (job.Arrive b) list found q place (low (job.Arrive b) place ok inside) (goes_to (job.Arrive b) place ok inside) refl (free (job.Arrive b) place ok inside) (asks (job.Arrive b) place ok inside) (left_at o v.place) (set s.words (word_of z o (Free (Bar b) target)) 0) (same_there (job.Arrive b) place ok inside) b refl ok.0 in let most = i.1 in let ne = eqb-false found.phase last_phase worn in dite (ℕ_discrete found.phase last_phase) (λ same. absurd (ne same)) (λ apart. omega arith))
              ((left_is (job.Arrive b) place ok inside) ∙ (λ i. cond (worn i) found (cond (all i) (record { phase = found.phase + 1; participants = found.participants; arrived = 0; elected = found.phase + 1 }) (record found { arrived = found.arrived + 1 }))))
              ((party_is (job.Arrive b) place ok inside) ∙ ((λ i. record (party_of v) { attached = cond (worn i) v.attached (cond (all i) (at_phase b (found.phase + 1) v.attached) v.attached); elections = cond (worn i) v.elections (cond (all i) ((b, found.phase + 1) ∷ v.elections) v.elections) })
              ∙ (λ i. elected (record (party_of v) { attached = at_phase b (one_more found.phase i) v.attached }) b (one_more found.phase i))))
              (ap waits_at ((place_is (job.Arrive b) place ok inside) ∙ (λ i. cond (worn i) (resumed (none i)) (cond (all i) (Passing b found.phase ∷ none i) (Settling b found.phase ∷ none i)))))
          by_test false worn false all =
              arrives (job.Arrive b) list found q place (low (job.Arrive b) place ok inside) (goes_to (job.Arrive b) place ok inside) refl (free (job.Arrive b) place ok inside) (asks (job.Arrive b) place ok inside) (left_at o v.place) (set s.words (word_of z o (Free (Bar b) target)) 0) (same_there (job.Arrive b) place ok inside) b refl ok.0 idle ((left_is (job.Arrive b) place ok inside) ∙ (λ i. cond (worn i) found (cond (all i) (record { phase = found.phase + 1; participants = found.participants; arrived = 0; elected = found.phase + 1 }) (record found { arrived = found.arrived + 1 }))))
              ((party_is (job.Arrive b) place ok inside) ∙ (λ i. record (party_of v) { attached = cond (worn i) v.attached (cond (all i) (at_phase b (found.phase + 1) v.attached) v.attached); elections = cond (worn i) v.elections (cond (all i) ((b, found.phase + 1) ∷ v.elections) v.elections) }))
              (ap waits_at ((place_is (job.Arrive b) place ok inside) ∙ (λ i. cond (worn i) (resumed (none i)) (cond (all i) (Passing b found.phase ∷ none i) (Settling b found.phase ∷ none i)))))
              (eqb-false found.phase last_phase worn) (job_suits (job.Arrive b) place ok inside)

      frees_notice : (b ph : ℕ) → FreesAs (job.Notice b ph)
      frees_notice b ph place ok inside = by_test (has_passed ph found) refl (eqb found.elected (ph + 1)) refl
        where
          none : q ≡ []
          none = (job_fits (job.Notice b ph) place ok inside).2

          waiting : waits_at v.place ≡ waited b ph
          waiting = ap waits_at place

          by_test : (passed : Bool) → has_passed ph found ≡ passed → (won : Bool) → eqb found.elected (ph + 1) ≡ won → StillAttended (Free (Bar b) target)
          by_test false passed won same = back (job.Notice b ph) place ok inside (λ i. cond (passed i) (record found { elected = found.phase }) found)
              (λ i. record (party_of v) { attached = cond (passed i) (at_phase b (ph + 1) v.attached) v.attached; elections = cond (passed i) (cond (eqb found.elected (ph + 1)) v.elections ((b, ph + 1) ∷ v.elections)) v.elections })
              (ap waits_at ((place_is (job.Notice b ph) place ok inside) ∙ (λ i. cond (passed i) (Returning b ph ∷ q) (Dozing b ph ∷ q))) ∙ sym waiting)
          by_test true passed true same =
              returns_unelected (job.Notice b ph) list found q place (low (job.Notice b ph) place ok inside) (goes_to (job.Notice b ph) place ok inside) refl (free (job.Notice b ph) place ok inside) (asks (job.Notice b ph) place ok inside) (left_at o v.place) (set s.words (word_of z o (Free (Bar b) target)) 0) (same_there (job.Notice b ph) place ok inside) b refl ok.0 ph waiting (eqb-true found.phase (ph + 1) passed ∙ one_more ph) ((left_is (job.Notice b ph) place ok inside) ∙ (λ i. cond (passed i) (record found { elected = found.phase }) found))
              (ap waits_at ((place_is (job.Notice b ph) place ok inside) ∙ (λ i. cond (passed i) (Returning b ph ∷ none i) (Dozing b ph ∷ none i))))
              (ap (λ (u : PartyView C). u.attached) ((party_is (job.Notice b ph) place ok inside) ∙ noticed)) ((party_is (job.Notice b ph) place ok inside) ∙ noticed)
            where
              noticed : record (party_of v) { attached = attached_after (job.Notice b ph) found v.attached; elections = elections_after (job.Notice b ph) found v.elections } ≡ record (party_of v) { attached = at_phase b (suc ph) v.attached }
              noticed = (λ i. record (party_of v) { attached = cond (passed i) (at_phase b (ph + 1) v.attached) v.attached; elections = cond (passed i) (cond (same i) v.elections ((b, ph + 1) ∷ v.elections)) v.elections })
                  ∙ (λ i. record (party_of v) { attached = at_phase b (one_more ph i) v.attached })
          by_test true passed false same =
              returns_elected (job.Notice b ph) list found q place (low (job.Notice b ph) place ok inside) (goes_to (job.Notice b ph) place ok inside) refl (free (job.Notice b ph) place ok inside) (asks (job.Notice b ph) place ok inside) (left_at o v.place) (set s.words (word_of z o (Free (Bar b) target)) 0) (same_there (job.Notice b ph) place ok inside) b refl ok.0 ph waiting (eqb-true found.phase (ph + 1) passed ∙ one_more ph) ((left_is (job.Notice b ph) place ok inside) ∙ (λ i. cond (passed i) (record found { elected = found.phase }) found))
              (ap waits_at ((place_is (job.Notice b ph) place ok inside) ∙ (λ i. cond (passed i) (Returning b ph ∷ none i) (Dozing b ph ∷ none i))))
              (ap (λ (u : PartyView C). u.attached) ((party_is (job.Notice b ph) place ok inside) ∙ noticed)) (λ won. eqb-false found.elected (ph + 1) same (won ∙ sym (one_more ph))) ((party_is (job.Notice b ph) place ok inside) ∙ noticed)
            where
              noticed : record (party_of v) { attached = attached_after (job.Notice b ph) found v.attached; elections = elections_after (job.Notice b ph) found v.elections } ≡ elected (record (party_of v) { attached = at_phase b (suc ph) v.attached }) b (suc ph)
              noticed = (λ i. record (party_of v) { attached = cond (passed i) (at_phase b (ph + 1) v.attached) v.attached; elections = cond (passed i) (cond (same i) v.elections ((b, ph + 1) ∷ v.elections)) v.elections })
                  ∙ (λ i. elected (record (party_of v) { attached = at_phase b (one_more ph i) v.attached }) b (one_more ph i))

      frees_detach : (b : ℕ) → FreesAs (job.Detach b)
      frees_detach b place ok inside = by_test (is_awaited found) refl
        where
          none : q ≡ []
          none = (job_fits (job.Detach b) place ok inside).1

          idle : waits_at v.place ≡ None
          idle = idle_behind (job.Detach b) place none refl

          awaited : (last others : Bool) → is_last found ≡ last → nat_lt 1 found.participants ≡ others → cond last others false ≡ true → (found.arrived + 1 ≡ found.participants) × (1 < found.participants)
          awaited true true last others e = (eqb-true (found.arrived + 1) found.participants last, grind (arith, nat_tests, others))
          awaited true false last others e = absurd (cc)
          awaited false others last is e = absurd (cc)

          left : (passes : Bool) → is_awaited found ≡ passes → (left_at o v.place).record ≡ departed passes found
          left passes e = (left_is (job.Detach b) place ok inside) ∙ ap (λ (t : Bool). departed t found) e

          by_test : (passes : Bool) → is_awaited found ≡ passes → StillAttended (Free (Bar b) target)
          by_test false e = let t = (job_suits (job.Detach b) place ok inside) in
              departs (job.Detach b) list found q place (low (job.Detach b) place ok inside) (goes_to (job.Detach b) place ok inside) refl (free (job.Detach b) place ok inside) (asks (job.Detach b) place ok inside) (left_at o v.place) (set s.words (word_of z o (Free (Bar b) target)) 0) (same_there (job.Detach b) place ok inside) b refl ok.0 idle (left false e) (party_is (job.Detach b) place ok inside) (ap waits_at ((place_is (job.Detach b) place ok inside) ∙ (λ i. passes_on (e i) b found (none i)))) t.0 t.1 t.2 (inl t.3)
          by_test true e = let t = (job_suits (job.Detach b) place ok inside) in let is = mine_is (job.Detach b) list found q place (low (job.Detach b) place ok inside) (goes_to (job.Detach b) place ok inside) refl (free (job.Detach b) place ok inside) (asks (job.Detach b) place ok inside) (left_at o v.place) (set s.words (word_of z o (Free (Bar b) target)) 0) (same_there (job.Detach b) place ok inside) b refl ok.0 idle t.0 t.1 in let a = awaited (is_last found) (nat_lt 1 found.participants) refl refl e in
              let m = some_waits means (phases_in z s) seats r.known r.waiters b found.phase found.participants found.arrived (phase_found (job.Detach b) list found q place (low (job.Detach b) place ok inside) (goes_to (job.Detach b) place ok inside) refl (free (job.Detach b) place ok inside) (asks (job.Detach b) place ok inside) (left_at o v.place) (set s.words (word_of z o (Free (Bar b) target)) 0) (same_there (job.Detach b) place ok inside) b refl ok.0) (found_participants (job.Detach b) list found q place (low (job.Detach b) place ok inside) (goes_to (job.Detach b) place ok inside) refl (free (job.Detach b) place ok inside) (asks (job.Detach b) place ok inside) (left_at o v.place) (set s.words (word_of z o (Free (Bar b) target)) 0) (same_there (job.Detach b) place ok inside) b refl ok.0) (found_arrived (job.Detach b) list found q place (low (job.Detach b) place ok inside) (goes_to (job.Detach b) place ok inside) refl (free (job.Detach b) place ok inside) (asks (job.Detach b) place ok inside) (left_at o v.place) (set s.words (word_of z o (Free (Bar b) target)) 0) (same_there (job.Detach b) place ok inside) b refl ok.0) id (attendance_of v) seat idle (t.1 ∙ ap (λ (n : ℕ). Some n) is) a.0 a.1 in
              departs_last (job.Detach b) list found q place (low (job.Detach b) place ok inside) (goes_to (job.Detach b) place ok inside) refl (free (job.Detach b) place ok inside) (asks (job.Detach b) place ok inside) (left_at o v.place) (set s.words (word_of z o (Free (Bar b) target)) 0) (same_there (job.Detach b) place ok inside) b refl ok.0 idle found.phase (t.1 ∙ ap (λ (n : ℕ). Some n) is) (subst (means.quiet (party_of v) b) is t.2) a.0 m.4.passes m.4.below (left true e) (party_is (job.Detach b) place ok inside) (ap waits_at ((place_is (job.Detach b) place ok inside) ∙ (λ i. passes_on (e i) b found (none i))))
              (inr (as_party (job.Detach b) list found q place (low (job.Detach b) place ok inside) (goes_to (job.Detach b) place ok inside) refl (free (job.Detach b) place ok inside) (asks (job.Detach b) place ok inside) (left_at o v.place) (set s.words (word_of z o (Free (Bar b) target)) 0) (same_there (job.Detach b) place ok inside) b refl ok.0 m.0 m.1 found.phase (λ same. other m.0 m.1 m.2 m.3 same) m.2 m.4.attached))
            where
              other : (i : ℕ) (u : Attendance C) → get_elem? seats i ≡ maybe.some u → waits_at u.place ≡ waited b found.phase → i ≡ id → ⊥
              other i u e' waits same = let e : u ≡ attendance_of v = maybe.some-injective u (attendance_of v) (sym e' ∙ (ap (get_elem? seats) same ∙ seat)) in none_waited b found.phase (sym idle ∙ (ap (λ (y : Attendance C). waits_at y.place) (sym e) ∙ waits))

      frees_arrive_detach : (b : ℕ) → FreesAs (job.ArriveDetach b)
      frees_arrive_detach b place ok inside = by_test (is_worn found) refl (is_last found) refl
        where
          none : q ≡ []
          none = (job_fits (job.ArriveDetach b) place ok inside).1

          idle : waits_at v.place ≡ None
          idle = idle_behind (job.ArriveDetach b) place none refl

          left : (worn last : Bool) → is_worn found ≡ worn → is_last found ≡ last → (left_at o v.place).record ≡ cond worn found (departed last found)
          left worn last e f = (left_is (job.ArriveDetach b) place ok inside) ∙ (λ i. cond (e i) found (departed (f i) found))

          party : (worn : Bool) → is_worn found ≡ worn → party_of (goes_to (job.ArriveDetach b) place ok inside) ≡ record (party_of v) { attached = cond worn v.attached (away_from b v.attached) }
          party worn e = (party_is (job.ArriveDetach b) place ok inside) ∙ (λ i. record (party_of v) { attached = cond (e i) v.attached (away_from b v.attached) })

          waits : (worn last : Bool) → is_worn found ≡ worn → is_last found ≡ last → waits_at (goes_to (job.ArriveDetach b) place ok inside).place ≡ waits_at (cond worn (resumed []) (passes_on last b found []))
          waits worn last e f = ap waits_at ((place_is (job.ArriveDetach b) place ok inside) ∙ (λ i. cond (e i) (resumed (none i)) (passes_on (f i) b found (none i))))

          by_test : (worn : Bool) → is_worn found ≡ worn → (last : Bool) → is_last found ≡ last → StillAttended (Free (Bar b) target)
          by_test true worn last all = returned (job.ArriveDetach b) list found q place (low (job.ArriveDetach b) place ok inside) (goes_to (job.ArriveDetach b) place ok inside) refl (free (job.ArriveDetach b) place ok inside) (asks (job.ArriveDetach b) place ok inside) (left_at o v.place) (set s.words (word_of z o (Free (Bar b) target)) 0) (same_there (job.ArriveDetach b) place ok inside) (left true last worn all) (party true worn) (waits true last worn all ∙ sym idle)
          by_test false worn false all = let t = (job_suits (job.ArriveDetach b) place ok inside) in departs (job.ArriveDetach b) list found q place (low (job.ArriveDetach b) place ok inside) (goes_to (job.ArriveDetach b) place ok inside) refl (free (job.ArriveDetach b) place ok inside) (asks (job.ArriveDetach b) place ok inside) (left_at o v.place) (set s.words (word_of z o (Free (Bar b) target)) 0) (same_there (job.ArriveDetach b) place ok inside) b refl ok.0 idle (left false false worn all) (party false worn) (waits false false worn all) t.0 t.1 t.2 (inl t.3.1)
          by_test false worn true all = let t = (job_suits (job.ArriveDetach b) place ok inside) in let is = mine_is (job.ArriveDetach b) list found q place (low (job.ArriveDetach b) place ok inside) (goes_to (job.ArriveDetach b) place ok inside) refl (free (job.ArriveDetach b) place ok inside) (asks (job.ArriveDetach b) place ok inside) (left_at o v.place) (set s.words (word_of z o (Free (Bar b) target)) 0) (same_there (job.ArriveDetach b) place ok inside) b refl ok.0 idle t.0 t.1 in
              departs_last (job.ArriveDetach b) list found q place (low (job.ArriveDetach b) place ok inside) (goes_to (job.ArriveDetach b) place ok inside) refl (free (job.ArriveDetach b) place ok inside) (asks (job.ArriveDetach b) place ok inside) (left_at o v.place) (set s.words (word_of z o (Free (Bar b) target)) 0) (same_there (job.ArriveDetach b) place ok inside) b refl ok.0 idle found.phase (t.1 ∙ ap (λ (n : ℕ). Some n) is) (subst (means.quiet (party_of v) b) is t.2) (eqb-true (found.arrived + 1) found.participants all) (subst (means.passes b) is t.3.0)
              (let i = found_inside (job.ArriveDetach b) list found q place (low (job.ArriveDetach b) place ok inside) (goes_to (job.ArriveDetach b) place ok inside) refl (free (job.ArriveDetach b) place ok inside) (asks (job.ArriveDetach b) place ok inside) (left_at o v.place) (set s.words (word_of z o (Free (Bar b) target)) 0) (same_there (job.ArriveDetach b) place ok inside) b refl ok.0 in let most = i.1 in let ne = eqb-false found.phase last_phase worn in dite (ℕ_discrete found.phase last_phase) (λ same. absurd (ne same)) (λ apart. omega arith))
              (left false true worn all) (party false worn) (waits false true worn all) (inl (subst (λ (n : ℕ). means.stays b (suc n) → ⊥) is t.3.2))

      frees_except_last : (b : ℕ) → FreesAs (job.ExceptLast b)
      frees_except_last b place ok inside = by_test (is_worn found) refl (is_only found) refl
        where
          none : q ≡ []
          none = job_fits (job.ExceptLast b) place ok inside

          idle : waits_at v.place ≡ None
          idle = idle_behind (job.ExceptLast b) place none refl

          left : (worn only : Bool) → is_worn found ≡ worn → is_only found ≡ only → (left_at o v.place).record ≡ cond worn found (cond only (record found { phase = found.phase + 1 }) (record found { participants = found.participants - 1 }))
          left worn only e f = (left_is (job.ExceptLast b) place ok inside) ∙ (λ i. cond (e i) found (cond (f i) (record found { phase = found.phase + 1 }) (record found { participants = found.participants - 1 })))

          party : (worn only : Bool) → is_worn found ≡ worn → is_only found ≡ only → party_of (goes_to (job.ExceptLast b) place ok inside) ≡ record (party_of v) { attached = cond worn v.attached (cond only (at_phase b (found.phase + 1) v.attached) (away_from b v.attached)) }
          party worn only e f = (party_is (job.ExceptLast b) place ok inside) ∙ (λ i. record (party_of v) { attached = cond (e i) v.attached (cond (f i) (at_phase b (found.phase + 1) v.attached) (away_from b v.attached)) })

          waits : waits_at (goes_to (job.ExceptLast b) place ok inside).place ≡ None
          waits = ap waits_at ((place_is (job.ExceptLast b) place ok inside) ∙ ap resumed none)

          by_test : (worn : Bool) → is_worn found ≡ worn → (only : Bool) → is_only found ≡ only → StillAttended (Free (Bar b) target)
          by_test true worn only one = returned (job.ExceptLast b) list found q place (low (job.ExceptLast b) place ok inside) (goes_to (job.ExceptLast b) place ok inside) refl (free (job.ExceptLast b) place ok inside) (asks (job.ExceptLast b) place ok inside) (left_at o v.place) (set s.words (word_of z o (Free (Bar b) target)) 0) (same_there (job.ExceptLast b) place ok inside) (left true only worn one) (party true only worn one) (waits ∙ sym idle)
          by_test false worn only one = let t = (job_suits (job.ExceptLast b) place ok inside) in let is = mine_is (job.ExceptLast b) list found q place (low (job.ExceptLast b) place ok inside) (goes_to (job.ExceptLast b) place ok inside) refl (free (job.ExceptLast b) place ok inside) (asks (job.ExceptLast b) place ok inside) (left_at o v.place) (set s.words (word_of z o (Free (Bar b) target)) 0) (same_there (job.ExceptLast b) place ok inside) b refl ok.0 idle t.0 t.1 in by_only only one t.0 t.1 t.2 t.3 is
              (arrived_less means (phases_in z s) seats r.known r.waiters b found.phase found.participants found.arrived (phase_found (job.ExceptLast b) list found q place (low (job.ExceptLast b) place ok inside) (goes_to (job.ExceptLast b) place ok inside) refl (free (job.ExceptLast b) place ok inside) (asks (job.ExceptLast b) place ok inside) (left_at o v.place) (set s.words (word_of z o (Free (Bar b) target)) 0) (same_there (job.ExceptLast b) place ok inside) b refl ok.0) (found_participants (job.ExceptLast b) list found q place (low (job.ExceptLast b) place ok inside) (goes_to (job.ExceptLast b) place ok inside) refl (free (job.ExceptLast b) place ok inside) (asks (job.ExceptLast b) place ok inside) (left_at o v.place) (set s.words (word_of z o (Free (Bar b) target)) 0) (same_there (job.ExceptLast b) place ok inside) b refl ok.0) (found_arrived (job.ExceptLast b) list found q place (low (job.ExceptLast b) place ok inside) (goes_to (job.ExceptLast b) place ok inside) refl (free (job.ExceptLast b) place ok inside) (asks (job.ExceptLast b) place ok inside) (left_at o v.place) (set s.words (word_of z o (Free (Bar b) target)) 0) (same_there (job.ExceptLast b) place ok inside) b refl ok.0) id (attendance_of v) seat idle (t.1 ∙ ap (λ (n : ℕ). Some n) is))
            where
              by_only : (only : Bool) → is_only found ≡ only → (ph : ℕ) → phase_of v.attached b ≡ Some ph → means.quiet (party_of v) b ph → means.passes b ph → ph ≡ found.phase → found.arrived + 1 ≤ found.participants → StillAttended (Free (Bar b) target)
              by_only true one ph there done passes is less = let alone = eqb-true found.participants 1 one in
                  goes_alone (job.ExceptLast b) list found q place (low (job.ExceptLast b) place ok inside) (goes_to (job.ExceptLast b) place ok inside) refl (free (job.ExceptLast b) place ok inside) (asks (job.ExceptLast b) place ok inside) (left_at o v.place) (set s.words (word_of z o (Free (Bar b) target)) 0) (same_there (job.ExceptLast b) place ok inside) b refl ok.0 idle found.phase (there ∙ ap (λ (n : ℕ). Some n) is) (subst (means.quiet (party_of v) b) is done) (omega arith) (subst (means.passes b) is passes)
                  (let i = found_inside (job.ExceptLast b) list found q place (low (job.ExceptLast b) place ok inside) (goes_to (job.ExceptLast b) place ok inside) refl (free (job.ExceptLast b) place ok inside) (asks (job.ExceptLast b) place ok inside) (left_at o v.place) (set s.words (word_of z o (Free (Bar b) target)) 0) (same_there (job.ExceptLast b) place ok inside) b refl ok.0 in let most = i.1 in let ne = eqb-false found.phase last_phase worn in dite (ℕ_discrete found.phase last_phase) (λ same. absurd (ne same)) (λ apart. omega arith))
                  (left false true worn one) (party false true worn one ∙ (λ i. record (party_of v) { attached = at_phase b (one_more found.phase i) v.attached })) waits (omega arith)
              by_only false one ph there done passes is less = let more = eqb-false found.participants 1 one in
                  departs (job.ExceptLast b) list found q place (low (job.ExceptLast b) place ok inside) (goes_to (job.ExceptLast b) place ok inside) refl (free (job.ExceptLast b) place ok inside) (asks (job.ExceptLast b) place ok inside) (left_at o v.place) (set s.words (word_of z o (Free (Bar b) target)) 0) (same_there (job.ExceptLast b) place ok inside) b refl ok.0 idle (left false false worn one) (party false false worn one) waits ph there done (inr (dite (ℕ_discrete found.participants 1) (λ same. absurd (more same)) (λ ne. omega arith)))

      frees_list : (j : Job) → IsOfList j → left_record j found ≡ found → record (party_of v) { attached = attached_after j found v.attached; elections = elections_after j found v.elections } ≡ party_of v → FreesAs j
      frees_list j of_list same party place ok inside = back j place ok inside same party (ap waits_at (place_is j place ok inside) ∙ (list_waits j o list found q of_list ∙ sym (ap waits_at place)))

      frees : (j : Job) → FreesAs j
      frees (job.Attach b) = frees_attach b
      frees (job.Arrive b) = frees_arrive b
      frees (job.Notice b ph) = frees_notice b ph
      frees (job.Detach b) = frees_detach b
      frees (job.ArriveDetach b) = frees_arrive_detach b
      frees (job.ExceptLast b) = frees_except_last b
      frees j = frees_list j tt refl refl

    freed_at : (x : Spot) (target : Option ℕ) (p : Place) → v.place ≡ p → MayFree x target v.target (top p) → Permits z (Free x target) (Some o) v.target v.place → word_of z o (Free x target) < client_base z → StillAttended (Free x target)
    freed_at x target (Holding j list found ∷ q) place may ok inside = subst (λ (y : Spot). Permits z (Free y target) (Some o) v.target v.place → word_of z o (Free y target) < client_base z → StillAttended (Free y target)) may.0 (frees list found q target j place) ok inside
    freed_at x target p place may ok inside = absurd may

    -- EACH STEP
    pub attended_step : (k : WaitStep) → word_of z o k < client_base z → Permits z k (Some o) v.target v.place → StepSuits means k v → StillAttended k
    attended_step (Take x (Some c)) inside ok suits = stays (Take x (Some c)) tt inside ok suits
    attended_step (Free x target) inside ok suits = freed_at x target v.place refl ok.1 ok inside
    attended_step k inside ok suits = stays k tt inside ok (r.suits id (attendance_of v) seat)

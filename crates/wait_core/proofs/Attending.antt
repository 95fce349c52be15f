-- What each step keeps of barriers, and of the client's law.
use Rattle.std.proofs.Common.{◌≡◌, ◌≢◌, ◌⊎◌, ℕ, suc, ◌<◌, ◌≤◌, List, [], map, length, set, None, Some, refl, sym, ap, ◌∙◌, subst, ⊎_elim, inl, inr, arith}
use mathlib.Core.Option as maybe
use lib.ListN.{get_elem?}
use lib.Seq.{map-set}
use Rattle.atomic_table.proofs.Lists.{at_map, at_set}
use Rattle.wait_core.specs.declared.view.PartyView.{PartyView}
use Rattle.wait_core.specs.declared.view.Record.{Record}
use Rattle.wait_core.specs.declared.view.Size.{Size}
use Rattle.wait_core.specs.declared.view.WaitView.{WaitView}
use Rattle.seat_roster.specs.Totals.{total}
use Rattle.seat_roster.specs.Roster.{one_if}
use Rattle.seat_roster.proofs.Totals.{total_set}
use Rattle.seat_roster.proofs.Stretches.{unseen, from_seen, each_set}
use Rattle.wait_core.specs.Words.{last_phase, client_words}
use Rattle.wait_core.specs.Machine.{WaitState}
use Rattle.wait_core.specs.Meanings.{Meanings}
use Rattle.wait_core.specs.Parties.{phase_of, now, Elected, Barriers, Here, HereBut}
use Rattle.wait_core.specs.Seating.{party_of}
use Rattle.wait_core.specs.LeftAreFree.{IsFree, LeftAreFree}
use Rattle.wait_core.specs.Stances.{Homes}
use Rattle.wait_core.specs.Barriers.{Attendance, attendance_of, waits_at, is_from, asks_at, field_of, phase_in, phases, phases_in, takes_part, waits_from, CountsParticipants, CountsArrived, PhasesAreInside, KnowsPhases, PhasesAreKnown, IsWaiter, WaitersAreQuiet, ElectionsAreRecorded, JobSuits, CallsSuit}
use Rattle.wait_core.specs.ClientHolds.{ClientHolds}
use Rattle.wait_core.proofs.Records.{ReadsNothing, opened_long, opened_at, opened_same}
use Rattle.wait_core.proofs.BarriersKept.{Wins, barriers_set}
use Rattle.wait_core.proofs.Attachments.{waited, same_waited, none_waited}

-- a seat that waits for no phase knows that of each barrier; one that waits knows that of each other
pub here_idle : {C : Type 0} (phases : List ℕ) (v : Attendance C) → KnowsPhases phases v → waits_at v.place ≡ None → Here phases v.party
here_idle phases v knows idle b ph is = ⊎_elim (λ (e : now phases b ≡ ph). e) (λ (late : (now phases b ≡ suc ph) × (waits_at v.place ≡ Some (b, ph))). absurd (none_waited b ph (sym idle ∙ late.1))) (knows b ph is)

pub here_waiting : {C : Type 0} (phases : List ℕ) (v : Attendance C) (bar f : ℕ) → KnowsPhases phases v → waits_at v.place ≡ waited bar f → HereBut phases v.party bar
here_waiting phases v bar f knows waits b ph ne is =
    ⊎_elim (λ (e : now phases b ≡ ph). e) (λ (late : (now phases b ≡ suc ph) × (waits_at v.place ≡ Some (b, ph))). absurd (ne (sym (same_waited bar f b ph (sym waits ∙ late.1)).0))) (knows b ph is)

module _ {C : Type 0} (means : Meanings C) (z : Size) (phase : ℕ) where
  -- the parts of the rule on barriers, and the client's
  pub record Attended (s : WaitState C) : Type 0 where
    pub left : LeftAreFree s.views
    pub barriers : Barriers (map party_of s.views) (phases_in z s)
    pub known : PhasesAreKnown (phases_in z s) (map attendance_of s.views)
    pub waiters : WaitersAreQuiet means (map attendance_of s.views)
    pub participants : CountsParticipants z s.homes (map attendance_of s.views)
    pub arrived : CountsArrived z s.homes (map attendance_of s.views)
    pub elections : ElectionsAreRecorded z s.homes (map attendance_of s.views)
    pub inside : PhasesAreInside z phase s.homes (map attendance_of s.views)
    pub suits : CallsSuit means (map attendance_of s.views)
    pub client : ClientHolds means z s

  module _ (s : WaitState C) (a : Attended s) (id : ℕ) (v w : WaitView C) (at : get_elem? s.views id ≡ maybe.some v) (words : List ℕ) (homes : Homes) where
    abbrev t : WaitState C
    t = record { words = words; homes = homes; views = set s.views id w }

    abbrev pub before : List (Attendance C)
    before = map attendance_of s.views

    abbrev pub after : List (Attendance C)
    after = set before id (attendance_of w)

    seen : map attendance_of (set s.views id w) ≡ after
    seen = map-set attendance_of s.views id w

    pub there : get_elem? before id ≡ maybe.some (attendance_of v)
    there = at_map attendance_of s.views id v at

    parties : map party_of (set s.views id w) ≡ set (map party_of s.views) id (party_of w)
    parties = map-set party_of s.views id w

    -- what f reads of the record of b, before the step and after it
    abbrev pub field_was : (Record → ℕ) → ℕ → ℕ
    field_was f b = field_of f b s.homes before

    abbrev pub field_is : (Record → ℕ) → ℕ → ℕ
    field_is f b = field_of f b homes after

    abbrev pub phases_are : List ℕ
    phases_are = phases z homes after

    same_phases : phases_in z t ≡ phases_are
    same_phases i = phases z homes (seen i)

    -- WHAT A STEP OWES to the parts on barriers
    pub record Goes : Type 0 where
      pub numbered : v.own ≡ None → ⊥
      pub same_number : w.own ≡ v.own
      -- the other seats, and this one
      pub others_know : (j : ℕ) (u : Attendance C) → (j ≡ id → ⊥) → get_elem? before j ≡ maybe.some u → KnowsPhases phases_are u
      pub knows : KnowsPhases phases_are (attendance_of w)
      pub attached_inside : (b ph : ℕ) → phase_of w.attached b ≡ Some ph → b < z.bars
      pub waits : (b ph : ℕ) → waits_at w.place ≡ Some (b, ph) → IsWaiter means (party_of w) b ph
      -- the records
      pub participants : (b : ℕ) → b < z.bars → field_is (λ r. r.participants) b ≡ total (takes_part b) after
      pub arrived : (b : ℕ) → b < z.bars → field_is (λ r. r.arrived) b ≡ total (waits_from b (field_is (λ r. r.phase) b)) after
      pub elected_past : (b : ℕ) → b < z.bars → field_is (λ r. r.elected) b ≤ field_is (λ r. r.phase) b
      pub elected_stays : (b : ℕ) → b < z.bars → field_was (λ r. r.elected) b ≤ field_is (λ r. r.elected) b
      pub wins : Wins (map party_of s.views) v.elections w.elections
      pub won : (b ph : ℕ) → Elected w.elections b ph → (b < z.bars) × (ph ≤ field_is (λ r. r.elected) b)
      pub phases_inside : (b : ℕ) → b < z.bars → (phase ≤ field_is (λ r. r.phase) b) × (field_is (λ r. r.phase) b ≤ last_phase)
      -- the call, and the client's law
      pub suits : JobSuits means (asks_at w.place) (party_of w)
      pub law : means.holds (client_words z words) (set (map party_of s.views) id (party_of w)) phases_are

    pub goes : Goes → Attended t
    goes g = record {
      left = each_set (λ (x : WaitView C). x.own ≡ None → IsFree x) s.views id w a.left (λ none. absurd (g.numbered (sym g.same_number ∙ none)));
      barriers = subst (λ (x : List (PartyView C) × List ℕ). Barriers x.0 x.1) (λ i. (sym parties i, sym same_phases i)) (barriers_set (map party_of s.views) (phases_in z s) phases_are id (party_of v) (party_of w) (at_map party_of s.views id v at) a.barriers
          (long homes after ∙ sym (long s.homes before)) (λ j u e b ph is. near j u (member j u e) b ph is) (λ b ph is. subst (λ (n : ℕ). b < n) (sym (long s.homes before)) (g.attached_inside b ph is)) (λ j u e b ph is. past j u (member j u e) b ph is) g.wins);
      known = subst (λ (x : List ℕ × List (Attendance C)). PhasesAreKnown x.0 x.1) (λ i. (sym same_phases i, sym seen i)) all_know;
      waiters = subst (WaitersAreQuiet means) (sym seen) (each_set (λ (u : Attendance C). (b ph : ℕ) → waits_at u.place ≡ Some (b, ph) → IsWaiter means u.party b ph) before id (attendance_of w) a.waiters g.waits);
      participants = subst (CountsParticipants z homes) (sym seen) g.participants;
      arrived = subst (CountsArrived z homes) (sym seen) g.arrived;
      elections = subst (ElectionsAreRecorded z homes) (sym seen) (record { past = g.elected_past; known = all_won });
      inside = subst (PhasesAreInside z phase homes) (sym seen) g.phases_inside;
      suits = subst (CallsSuit means) (sym seen) (each_set (λ (u : Attendance C). JobSuits means (asks_at u.place) u.party) before id (attendance_of w) a.suits g.suits);
      client = subst (λ (x : List (PartyView C) × List ℕ). means.holds (client_words z words) x.0 x.1) (λ i. (sym parties i, sym same_phases i)) g.law;
    }
      where
        long : (h : Homes) (l : List (Attendance C)) → length (phases z h l) ≡ z.bars
        long h l = opened_long (λ b. phase_in b h l) z.bars

        all_know : PhasesAreKnown phases_are after
        all_know j u e = ⊎_elim (λ (x : (j ≡ id) × (attendance_of w ≡ u)). subst (KnowsPhases phases_are) x.1 g.knows) (λ (x : (j ≢ id) × (get_elem? before j ≡ maybe.some u)). g.others_know j u x.0 x.1) (at_set before id j (attendance_of w) u e)

        all_won : (j : ℕ) (u : Attendance C) → get_elem? after j ≡ maybe.some u → (b ph : ℕ) → Elected u.party.elections b ph → (b < z.bars) × (ph ≤ field_is (λ r. r.elected) b)
        all_won = each_set (λ (u : Attendance C). (b ph : ℕ) → Elected u.party.elections b ph → (b < z.bars) × (ph ≤ field_is (λ r. r.elected) b)) before id (attendance_of w)
            (λ j u e b ph won. let was = a.elections.known j u e b ph won in let more = g.elected_stays b was.0 in let low = was.1 in (was.0, omega arith)) g.won

        -- a client's view of a seat is that of one who attends
        member : (j : ℕ) (u : PartyView C) → get_elem? (set (map party_of s.views) id (party_of w)) j ≡ maybe.some u → (x : WaitView C) × (get_elem? (set s.views id w) j ≡ maybe.some x) × (party_of x ≡ u)
        member j u e = from_seen party_of (set s.views id w) j u (subst (λ (l : List (PartyView C)). get_elem? l j ≡ maybe.some u) (sym parties) e)

        attends : (j : ℕ) (x : WaitView C) → get_elem? (set s.views id w) j ≡ maybe.some x → get_elem? after j ≡ maybe.some (attendance_of x)
        attends j x e = subst (λ (l : List (Attendance C)). get_elem? l j ≡ maybe.some (attendance_of x)) seen (at_map attendance_of (set s.views id w) j x e)

        near : (j : ℕ) (u : PartyView C) → ((x : WaitView C) × (get_elem? (set s.views id w) j ≡ maybe.some x) × (party_of x ≡ u)) → (b ph : ℕ) → phase_of u.attached b ≡ Some ph → (now phases_are b ≡ ph) ⊎ (now phases_are b ≡ suc ph)
        near j u (x, e, is) b ph known = ⊎_elim inl (λ late. inr late.0) (all_know j (attendance_of x) (attends j x e) b ph (ap (λ (y : PartyView C). phase_of y.attached b) is ∙ known))

        past : (j : ℕ) (u : PartyView C) → ((x : WaitView C) × (get_elem? (set s.views id w) j ≡ maybe.some x) × (party_of x ≡ u)) → (b ph : ℕ) → Elected u.elections b ph → ph ≤ now phases_are b
        past j u (x, e, is) b ph won =
            let mine = all_won j (attendance_of x) (attends j x e) b ph (subst (λ (y : PartyView C). Elected y.elections b ph) (sym is) won) in let high = g.elected_past b mine.0 in let low = mine.1 in
            let reads = opened_at (λ c. phase_in c homes after) z.bars b mine.0 in omega arith

    -- NO PHASE PASSES. What stays as it is
    abbrev pub PhasesStay : Type 0
    PhasesStay = (b : ℕ) → b < z.bars → field_is (λ r. r.phase) b ≡ field_was (λ r. r.phase) b

    pub phases_stay : PhasesStay → phases_are ≡ phases_in z s
    phases_stay same = opened_same (λ b. phase_in b s.homes before) (λ b. phase_in b homes after) z.bars same

    pub others_know : PhasesStay → (j : ℕ) (u : Attendance C) → (j ≡ id → ⊥) → get_elem? before j ≡ maybe.some u → KnowsPhases phases_are u
    others_know same j u ne e = subst (λ (l : List ℕ). KnowsPhases l u) (sym (phases_stay same)) (a.known j u e)

    pub still_inside : PhasesStay → (b : ℕ) → b < z.bars → (phase ≤ field_is (λ r. r.phase) b) × (field_is (λ r. r.phase) b ≤ last_phase)
    still_inside same b below = let e = same b below in let was = a.inside b below in let low = was.0 in let high = was.1 in (omega arith, omega arith)

    pub was_won : (b ph : ℕ) → Elected v.elections b ph → (b < z.bars) × (ph ≤ field_was (λ r. r.elected) b)
    was_won b ph won = a.elections.known id (attendance_of v) there b ph won

    pub was_inside : (b ph : ℕ) → phase_of v.attached b ≡ Some ph → b < z.bars
    was_inside b ph is = subst (λ (n : ℕ). b < n) (opened_long (λ c. phase_in c s.homes before) z.bars) (a.barriers.inside id (party_of v) (at_map party_of s.views id v at) b ph is)

    -- how many take part and wait, where the seat does as before
    pub same_part : (b : ℕ) → phase_of w.attached b ≡ phase_of v.attached b → total (takes_part b) after ≡ total (takes_part b) before
    same_part b same = let sum = total_set (takes_part b) before id (attendance_of v) (attendance_of w) there in let e : takes_part b (attendance_of w) ≡ takes_part b (attendance_of v) = ap one_if same in omega arith

    pub same_waits : (b ph : ℕ) → is_from b ph (waits_at w.place) ≡ is_from b ph (waits_at v.place) → total (waits_from b ph) after ≡ total (waits_from b ph) before
    same_waits b ph same = let sum = total_set (waits_from b ph) before id (attendance_of v) (attendance_of w) there in omega arith

    -- each record reads as before
    abbrev pub RecordsStay : Type 0
    RecordsStay = (f : Record → ℕ) → ReadsNothing f → (b : ℕ) → b < z.bars → field_is f b ≡ field_was f b

    -- a step that leaves each record, where the seat waits, and to what it is attached
    module _ (numbered : v.own ≡ None → ⊥) (records : RecordsStay) where
      still : w.own ≡ v.own → w.attached ≡ v.attached → w.elections ≡ v.elections → waits_at w.place ≡ waits_at v.place → ((b ph : ℕ) → waits_at v.place ≡ Some (b, ph) → IsWaiter means (party_of w) b ph) → JobSuits means (asks_at w.place) (party_of w)
          → means.holds (client_words z words) (set (map party_of s.views) id (party_of w)) (phases_in z s) → Attended t
      still own attached won waits waiter suits law = let same : PhasesStay = λ b below. records (λ r. r.phase) refl b below in goes record {
        numbered = numbered;
        same_number = own;
        others_know = others_know same;
        knows = subst (λ (l : List ℕ). KnowsPhases l (attendance_of w)) (sym (phases_stay same))
            (λ b ph is. ⊎_elim (λ e. inl e) (λ late. inr (late.0, waits ∙ late.1)) (a.known id (attendance_of v) there b ph (sym (ap (λ (l : List (ℕ × ℕ)). phase_of l b) attached) ∙ is)));
        attached_inside = λ b ph is. was_inside b ph (sym (ap (λ (l : List (ℕ × ℕ)). phase_of l b) attached) ∙ is);
        waits = λ b ph is. waiter b ph (sym waits ∙ is);
        participants = λ b below. records (λ r. r.participants) refl b below ∙ (a.participants b below ∙ sym (same_part b (ap (λ (l : List (ℕ × ℕ)). phase_of l b) attached)));
        arrived = λ b below. records (λ r. r.arrived) refl b below ∙ (a.arrived b below ∙ (ap (λ (n : ℕ). total (waits_from b n) before) (sym (same b below)) ∙ sym (same_waits b (field_is (λ r. r.phase) b) (ap (is_from b (field_is (λ r. r.phase) b)) waits))));
        elected_past = λ b below. let e = records (λ r. r.elected) refl b below in let p = same b below in let was = a.elections.past b below in omega arith;
        elected_stays = λ b below. let e = records (λ r. r.elected) refl b below in omega arith;
        wins = inl won;
        won = λ b ph is. let was = was_won b ph (subst (λ (l : List (ℕ × ℕ)). Elected l b ph) won is) in let e = records (λ r. r.elected) refl b was.0 in let low = was.1 in (was.0, omega arith);
        phases_inside = still_inside same;
        suits = suits;
        law = subst (means.holds (client_words z words) (set (map party_of s.views) id (party_of w))) (sym (phases_stay same)) law;
      }

      -- and what the client sees of it
      pub unmoved : client_words z words ≡ client_words z s.words → party_of w ≡ party_of v → waits_at w.place ≡ waits_at v.place → JobSuits means (asks_at w.place) (party_of v) → Attended t
      unmoved same_words party waits suits = still (ap (λ (u : PartyView C). u.proc) party) (ap (λ (u : PartyView C). u.attached) party) (ap (λ (u : PartyView C). u.elections) party) waits
          (λ b ph is. subst (λ (u : PartyView C). IsWaiter means u b ph) (sym party) (a.waiters id (attendance_of v) there b ph is)) (subst (JobSuits means (asks_at w.place)) (sym party) suits)
          (subst (λ (x : List ℕ × List (PartyView C)). means.holds x.0 x.1 (phases_in z s)) (λ i. (sym same_words i, (sym (unseen party_of s.views id v w at party) ∙ parties) i)) a.client)

      -- a step of its client
      pub moved : w.own ≡ v.own → w.attached ≡ v.attached → w.elections ≡ v.elections → v.place ≡ [] → w.place ≡ [] → means.holds (client_words z words) (set (map party_of s.views) id (party_of w)) (phases_in z s) → Attended t
      moved own attached won was is law = still own attached won (ap waits_at is ∙ sym (ap waits_at was)) (λ b ph waits. absurd (none_waited b ph (sym (ap waits_at was) ∙ waits))) (subst (λ q. JobSuits means (asks_at q) (party_of w)) (sym is) tt) law

-- The table at its opening meets the rule.
use Rattle.std.proofs.Common.{◌≡◌, ℕ, zero, suc, ◌+◌, ◌<◌, ◌≤◌, Bool, true, false, List, [], ◌∷◌, ◌++◌, length, map, drop, get_or, set, Option, None, Some, refl, sym, ap, ◌∙◌, subst, arith, length-append, length-set, get_or-set_same, get_or-set_other}
use Rattle.std.specs.Prelude.{replicate}
use Rattle.std.proofs.lemmas.List.{length-replicate, length-map, get_or-replicate, get_or_append_left}
use Rattle.std.proofs.Math.Seq.{drop-append_seam}
use mathlib.Core.Option as maybe
use lib.ListN.{get_elem?}
use Rattle.atomic_table.specs.Table.{opening}
use Rattle.wait_core.specs.declared.step.Spot.TheVariants.{Bar}
use Rattle.wait_core.specs.declared.view.Frame.{Frame}
use Rattle.wait_core.specs.declared.view.Kept.{Kept}
use Rattle.wait_core.specs.declared.view.Record.{Record}
use Rattle.wait_core.specs.declared.view.Size.{Size}
use Rattle.wait_core.specs.declared.view.WaitView.{WaitView}
use Rattle.wait_core.specs.Meanings.{Meanings}
use Rattle.wait_core.specs.Words.{most_conditions, last_phase, slot_of, may_at, client_base, opening_phases, opened, opening_words}
use Rattle.wait_core.specs.Machine.{WaitState, home_in}
use Rattle.wait_core.specs.Parties.{newcomer, Elected, Barriers}
use Rattle.wait_core.specs.Seating.{Standing, fresh}
use Rattle.wait_core.specs.Places.{may_sleep, past_latch, past_shutdown, backend_count}
use Rattle.wait_core.specs.Fits.{PlacesFit}
use Rattle.wait_core.specs.Slots.{opening_record, AllAsOpened, OpeningSlots}
use Rattle.wait_core.specs.ArrivalsHeed.{HeedsInArrival}
use Rattle.wait_core.specs.PassedPhaseIsBroadcast.{dozes}
use Rattle.wait_core.specs.LeftAreFree.{LeftAreFree}
use Rattle.wait_core.specs.Barriers.{Attendance, attendance_of, waits_at, asks_at, field_of, phase_in, phases, KnowsPhases, IsWaiter, JobSuits}
use Rattle.wait_core.specs.OneElected.{outcome_of, elected_in}
use Rattle.wait_core.specs.Promises.{IsOpening}
use Rattle.wait_core.specs.Rule.{Rule}
use Rattle.seat_roster.proofs.Numbers.{roster_first}
use Rattle.seat_roster.proofs.Stretches.{each_more}
use Rattle.wait_core.proofs.ListsAreMade.{lists_made_open}
use Rattle.wait_core.proofs.ListsKept.{lists_open}
use Rattle.wait_core.proofs.Records.{opened_long}
use Rattle.wait_core.proofs.BarriersKept.{nobody_elected, barriers_more}
use Rattle.wait_core.proofs.Outcomes.{one_of_none, one_more}
use Rattle.wait_core.proofs.Untouched.{idle, idle_backend, places_snoc}

first_place : (cvs : ℕ) → PlacesFit cvs (idle (Some 0) ∷ [])
first_place cvs = places_snoc cvs [] (Some 0) record { fits = λ id v e. absurd (nobody id v e); targets = λ id v e. absurd (nobody id v e); unnumbered = λ id v e none. absurd (nobody id v e) }
  where
    nobody : (id : ℕ) (v : Standing) → get_elem? [] id ≡ maybe.some v → ⊥
    nobody id v e = maybe.some-ne-none v (sym e)

none_there : (p : ℕ) (f : Option Frame → Bool) → f None ≡ false → backend_count p f (idle (Some 0) ∷ []) ≡ 0
none_there p f none = let a = idle_backend p f (Some 0) none in omega arith

-- BARRIERS. Each record is as opened
opened_slot : (phase : ℕ) (slots : List Kept) (x : ℕ) → x < length slots → AllAsOpened phase slots → (home_in (map maybe.some slots) x).record ≡ opening_record phase
opened_slot phase [] x below all = absurd (omega arith)
opened_slot phase (k ∷ slots) zero below all = all.0.opening
opened_slot phase (k ∷ slots) (suc x) below all = opened_slot phase slots x (omega arith) all.1

opened_record : (z : Size) (phase : ℕ) (slots : List Kept) (b : ℕ) → b < z.bars → OpeningSlots z phase slots → (home_in (map maybe.some slots) (slot_of (Bar b))).record ≡ opening_record phase
opened_record z phase slots b below new = let many = new.count in opened_slot phase slots (slot_of (Bar b)) (omega arith) new.each

replicate_opened : (f : ℕ → ℕ) (x n : ℕ) → ((i : ℕ) → i < n → f i ≡ x) → opened f n ≡ replicate n x
replicate_opened f x zero h = refl
replicate_opened f x (suc n) h = (λ i. replicate_opened f x n (λ k below. h k (omega arith)) i ++ h n (omega arith) i ∷ []) ∙ replicate_end x n
  where
    replicate_end : (x n : ℕ) → replicate n x ++ x ∷ [] ≡ replicate (suc n) x
    replicate_end x zero = refl
    replicate_end x (suc n) = ap (λ (l : List ℕ). x ∷ l) (replicate_end x n)

phases_open : {C : Type 0} (z : Size) (phase : ℕ) (slots : List Kept) (c : C) → OpeningSlots z phase slots → phases z (map maybe.some slots) (attendance_of (fresh c (Some 0)) ∷ []) ≡ opening_phases z phase
phases_open z phase slots c new = replicate_opened (λ b. phase_in b (map maybe.some slots) (attendance_of (fresh c (Some 0)) ∷ [])) phase z.bars
    (λ b below. let e = opened_record z phase slots b below new in let p = ap (λ (k : Record). k.phase) e in omega arith)

module _ {C : Type 0} (means : Meanings C) (z : Size) (phase count : ℕ) (f : ℕ → ℕ) (c : C) where
  abbrev machine : List ℕ
  machine = set (replicate (client_base z) 0) 0 1

  long : length machine ≡ client_base z
  long = length-set (replicate (client_base z) 0) 0 1 ∙ length-replicate {A = ℕ} (client_base z) 0

  only_numbered : LeftAreFree (fresh c (Some 0) ∷ [])
  only_numbered zero v e none = let own = ap (λ (x : WaitView C). x.own) (maybe.some-injective _ _ e) in absurd (cc)
  only_numbered (suc i) v e none = absurd (maybe.some-ne-none v (sym e))

  nobody : Barriers {C = C} [] (opening_phases z phase)
  nobody = record {
    near = λ i v e. absurd (maybe.some-ne-none v (sym e));
    inside = λ i v e. absurd (maybe.some-ne-none v (sym e));
    past = λ i v e. absurd (maybe.some-ne-none v (sym e));
    one = λ i j v w e. absurd (maybe.some-ne-none v (sym e));
  }

  pub length-opening : length (opening_words z f count) ≡ client_base z + count
  length-opening = length-append machine (opened f count) ∙ (λ i. long i + opened_long f count i)

  zero_at : (i : ℕ) → 0 < i → i < client_base z → get_or (opening_words z f count) i 0 ≡ 0
  zero_at i some below = get_or_append_left machine (opened f count) 0 i (omega (arith, long))
      ∙ (get_or-set_other (replicate (client_base z) 0) 0 i 1 0 (λ e. omega arith) ∙ get_or-replicate {A = ℕ} (client_base z) i 0 0 below)

  one_at : get_or (opening_words z f count) 0 0 ≡ 1
  one_at = get_or_append_left machine (opened f count) 0 0 (omega (arith, long)) ∙ get_or-set_same (replicate (client_base z) 0) 0 1 0 (let l = length-replicate {A = ℕ} (client_base z) 0 in omega arith)

  abbrev start : Attendance C
  start = attendance_of (fresh c (Some 0))

  pub opens : (xs : List Kept) → OpeningSlots z phase xs → 0 < z.procs → z.procs ≤ 64 → z.cvs ≤ most_conditions → z.bars ≤ z.cvs → phase ≤ last_phase → means.holds (opened f count) (newcomer c (Some 0) ∷ []) (opening_phases z phase) → Rule means z phase count (opening (opening_words z f count) xs (fresh c (Some 0)))
  opens xs new some most few wide low kept = let stay = phases_open z phase xs c new in record {
    sized = record { procs = (some, most); cvs = few; bars = wide; long = length-opening; slots = length-map xs maybe.some ∙ new.count };
    flags = λ i above below. let a = zero_at i above below in omega arith;
    roster = subst (λ (n : ℕ). Rattle.seat_roster.specs.Roster.Roster z.procs n (Rattle.seat_roster.specs.Roster.numbered (Some 0) ∷ [])) (sym one_at) (roster_first z.procs some);
    counted = let a = one_at in omega arith;
    places = first_place z.cvs;
    may = λ p below. zero_at (may_at p) (omega arith) (omega arith) ∙ sym (none_there p may_sleep refl);
    latches = λ p below come up. let a = none_there p past_latch refl in absurd (omega arith);
    shutdown = λ p below come up. let a = none_there p past_shutdown refl in absurd (omega arith);
    made = λ i above below. let a = zero_at i above below in omega arith;
    lists_made = lists_made_open z phase xs (Some 0) new.count new.each;
    lists = lists_open z phase (opening_words z f count) xs zero_at new;
    heeds = each_more HeedsInArrival [] (fresh c (Some 0)) (λ i v e. absurd (maybe.some-ne-none v (sym e))) (λ settled. absurd (cc));
    broadcasts = λ i p b ph v at own waits dozing late listed. absurd (each_more (λ (u : WaitView C). dozes u.place ≡ true → ⊥) [] (fresh c (Some 0)) (λ i v e. absurd (maybe.some-ne-none v (sym e))) (λ dozing. cc) i v at dozing);
    left = only_numbered;
    barriers = subst (Barriers (newcomer c (Some 0) ∷ [])) (sym stay) (barriers_more [] (opening_phases z phase) c (Some 0) nobody);
    known = each_more (KnowsPhases (phases z (map maybe.some xs) (start ∷ []))) [] start (λ i v e. absurd (maybe.some-ne-none v (sym e))) (λ b ph e. absurd (cc));
    waiters = each_more (λ (u : Attendance C). (b ph : ℕ) → waits_at u.place ≡ Some (b, ph) → IsWaiter means u.party b ph) [] start (λ i v e. absurd (maybe.some-ne-none v (sym e))) (λ b ph e. absurd (cc));
    participants = λ b below. let e = opened_record z phase xs b below new in let p = ap (λ (k : Record). k.participants) e in omega arith;
    arrived = λ b below. let e = opened_record z phase xs b below new in let p = ap (λ (k : Record). k.arrived) e in omega arith;
    elections = record {
      past = λ b below. let e = opened_record z phase xs b below new in let p = ap (λ (k : Record). k.elected) e in let q = ap (λ (k : Record). k.phase) e in omega arith;
      known = each_more (λ (u : Attendance C). (b ph : ℕ) → Elected u.party.elections b ph → (b < z.bars) × (ph ≤ field_of (λ r. r.elected) b (map maybe.some xs) (start ∷ []))) [] start (λ i v e. absurd (maybe.some-ne-none v (sym e))) (λ b ph won. absurd (nobody_elected b ph won));
    };
    one_elected = one_more z.bars phase (λ b. phase) (λ b. elected_in b (map maybe.some xs) (start ∷ [])) [] (outcome_of (fresh c (Some 0))) (one_of_none z.bars phase) (λ b ph e. absurd (cc)) refl refl (λ b below. let e = opened_record z phase xs b below new in let p = ap (λ (k : Record). k.elected) e in omega arith);
    inside = λ b below. let e = opened_record z phase xs b below new in let p = ap (λ (k : Record). k.phase) e in (omega arith, omega arith);
    suits = each_more (λ (u : Attendance C). JobSuits means (asks_at u.place) u.party) [] start (λ i v e. absurd (maybe.some-ne-none v (sym e))) tt;
    client = subst (λ (x : List ℕ × List ℕ). means.holds x.0 (newcomer c (Some 0) ∷ []) x.1) (λ i. (sym ((λ i. drop (sym long i) (machine ++ opened f count)) ∙ drop-append_seam machine (opened f count)) i, sym stay i)) kept;
  }

  -- so each state that is an opening does
  pub opening_kept : (s : WaitState C) → IsOpening c f means count z phase s → Rule means z phase count s
  opening_kept s o = subst (Rule means z phase count) (sym o.is) (opens o.slots o.new o.procs.0 o.procs.1 o.cvs o.bars o.phase_inside o.kept)

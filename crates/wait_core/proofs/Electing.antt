-- Each step of the machine keeps it that of those who waited out a phase one is elected.
use Rattle.std.proofs.Common.{◌≡◌, ◌≢◌, ℕ, suc, ◌+◌, ◌-◌, ◌<◌, ◌≤◌, eqb, Bool, true, false, cond, List, [], ◌∷◌, map, get_or, set, Option, None, Some, refl, sym, ap, ◌∙◌, subst, arith, eqb-true}
use Rattle.std.proofs.lemmas.Bool.{eqb-false}
use mathlib.Core.Logic.{dite}
use mathlib.Core.Option as maybe
use native.Mathlib.Decide.{ℕ_discrete}
use lib.ListN.{get_elem?}
use lib.Seq.{map-set}
use Rattle.atomic_table.proofs.Lists.{at_map}
use Rattle.wait_core.specs.declared.step.Spot.{Spot}
use Rattle.wait_core.specs.declared.step.Spot.TheVariants.{Bar}
use Rattle.wait_core.specs.declared.step.WaitStep.{WaitStep}
use Rattle.wait_core.specs.declared.step.WaitStep.TheVariants.{Free}
use Rattle.wait_core.specs.declared.view.Frame.TheVariants.{Holding, Settling, Dozing, Passing, Returning}
use Rattle.wait_core.specs.declared.view.Job.{Job}
use Rattle.wait_core.specs.declared.view.Job.TheVariants as job
use Rattle.wait_core.specs.declared.view.Record.{Record}
use Rattle.wait_core.specs.declared.view.Size.{Size}
use Rattle.wait_core.specs.declared.view.WaitView.{WaitView}
use Rattle.seat_roster.specs.Totals.{total}
use Rattle.seat_roster.proofs.Totals.{total_at, total_two, total_none, total_some}
use Rattle.seat_roster.proofs.Stretches.{unseen, from_seen}
use Rattle.wait_core.specs.Words.{slot_of, slots_in}
use Rattle.wait_core.specs.Jobs.{spot_of, is_worn, is_last, is_only, is_awaited, has_passed, departed, left_record, elections_after, passed_after, passes_on, resumed, goes_on}
use Rattle.wait_core.specs.Machine.{WaitState, Place, top, number_of, word_of, left_at, freed, home_in, slot_number, freed_elections, freed_passed, elections_then, passed_then, MayFree, Permits}
use Rattle.wait_core.specs.Meanings.{Meanings}
use Rattle.wait_core.specs.Parties.{Elected}
use Rattle.wait_core.specs.Seating.{standing_of}
use Rattle.wait_core.specs.Fits.{Fits}
use Rattle.wait_core.specs.Stances.{hand_at, slot_in}
use Rattle.wait_core.specs.Barriers.{Attendance, attendance_of, waits_at, held_field, field_of}
use Rattle.wait_core.specs.OneElected.{Outcome, outcome_of, times_of, WaitedOut, elected_for, OneHas, elected_in, OneElected}
use Rattle.wait_core.specs.Promises.{IsElected, OneIsElected}
use Rattle.wait_core.specs.Rule.{Rule}
use Rattle.wait_core.proofs.Effects.{spot_inside}
use Rattle.wait_core.proofs.Attachments.{same_waited, none_waited}
use Rattle.wait_core.proofs.Hands.{hand_follows, waits_resumed, either_waits, list_waits, IsNoFree, waits_stay}
use Rattle.wait_core.proofs.Outcomes.{times_elected, elected_times, says_same as all_say, keeps, notices, gains}
use Rattle.wait_core.proofs.Records.{field_same}
use Rattle.wait_core.proofs.RecordsKept.{view_then, homes_then, records_stay, found_reads, left_reads, others_read}

-- a step that frees nothing changes neither elections nor what was waited out
no_free_elections : (k : WaitStep) → IsNoFree k → (p : Place) (l : List (ℕ × ℕ)) → elections_then k p l ≡ l
no_free_elections (Free x target) none p l = absurd none
no_free_elections k none p l = refl

no_free_passed : (k : WaitStep) → IsNoFree k → (p : Place) (l : List (ℕ × ℕ)) → passed_then k p l ≡ l
no_free_passed (Free x target) none p l = absurd none
no_free_passed k none p l = refl

-- the free of the job elects nobody: it is neither an arrival nor the look whether the phase has passed
abbrev ElectsNobody : Job → Type 0
ElectsNobody (job.Arrive b) = ⊥
ElectsNobody (job.Notice b ph) = ⊥
ElectsNobody j = Unit {0}

passes_waits : (passes : Bool) (b : ℕ) (found : Record) (p : Place) → waits_at (passes_on passes b found p) ≡ waits_at p
passes_waits true b found p = refl
passes_waits false b found p = waits_resumed p

-- it changes nothing of where the seat waits, nor of the last election that the record says
still_waits : (j : Job) (own : ℕ) (list : List ℕ) (found : Record) (p : Place) → ElectsNobody j → waits_at (goes_on j own list found p) ≡ waits_at (Holding j list found ∷ p)
still_waits (job.Attach b) own list found p nobody = waits_resumed p
still_waits (job.Detach b) own list found p nobody = passes_waits (is_awaited found) b found p
still_waits (job.ArriveDetach b) own list found p nobody = either_waits (is_worn found) (resumed p) (passes_on (is_last found) b found p) (waits_at p) (waits_resumed p) (passes_waits (is_last found) b found p)
still_waits (job.ExceptLast b) own list found p nobody = waits_resumed p
still_waits (job.Arrive b) own list found p nobody = absurd nobody
still_waits (job.Notice b ph) own list found p nobody = absurd nobody
still_waits j own list found p nobody = list_waits j own list found p tt

departed_elected : (passes : Bool) (r : Record) → (departed passes r).elected ≡ r.elected
departed_elected true r = refl
departed_elected false r = refl

either_elected : (b : Bool) (x y r : Record) → x.elected ≡ r.elected → y.elected ≡ r.elected → (cond b x y).elected ≡ r.elected
either_elected true x y r e f = e
either_elected false x y r e f = f

still_elected : (j : Job) (r : Record) → ElectsNobody j → (left_record j r).elected ≡ r.elected
still_elected (job.Arrive b) r nobody = absurd nobody
still_elected (job.Notice b ph) r nobody = absurd nobody
still_elected (job.Detach b) r nobody = departed_elected (is_awaited r) r
still_elected (job.ArriveDetach b) r nobody = either_elected (is_worn r) r (departed (is_last r) r) r refl (departed_elected (is_last r) r)
still_elected (job.ExceptLast b) r nobody = either_elected (is_worn r) r (cond (is_only r) (record r { phase = r.phase + 1 }) (record r { participants = r.participants - 1 })) r refl (either_elected (is_only r) (record r { phase = r.phase + 1 }) (record r { participants = r.participants - 1 }) r refl refl)
still_elected j r nobody = refl

still_elections : (j : Job) (r : Record) (l : List (ℕ × ℕ)) → ElectsNobody j → elections_after j r l ≡ l
still_elections (job.Arrive b) r l nobody = absurd nobody
still_elections (job.Notice b ph) r l nobody = absurd nobody
still_elections j r l nobody = refl

still_passed : (j : Job) (r : Record) (l : List (ℕ × ℕ)) → ElectsNobody j → passed_after j r l ≡ l
still_passed (job.Arrive b) r l nobody = absurd nobody
still_passed (job.Notice b ph) r l nobody = absurd nobody
still_passed j r l nobody = refl

-- a step of another kind, which leaves where the seat stands and what came of its arrivals
pub one_unmoved : {C : Type 0} (means : Meanings C) (z : Size) (phase count : ℕ) (s : WaitState C) → Rule means z phase count s → (id : ℕ) (v w : WaitView C) → get_elem? s.views id ≡ maybe.some v → w.place ≡ v.place → outcome_of w ≡ outcome_of v
    → OneElected z.bars phase (λ b. elected_in b s.homes (map attendance_of (set s.views id w))) (map outcome_of (set s.views id w))
one_unmoved {C} means z phase count s r id v w at stands same =
    let seats : List (Attendance C) = map attendance_of s.views in let outcomes : List Outcome = map outcome_of s.views in
    subst (λ (x : List (Attendance C) × List Outcome). OneElected z.bars phase (λ b. elected_in b s.homes x.0) x.1) (λ i. (sym (map-set attendance_of s.views id w) i, sym (unseen outcome_of s.views id v w at same) i))
    (all_say z.bars phase (λ b. elected_in b s.homes seats) (λ b. elected_in b s.homes (set seats id (attendance_of w))) outcomes r.one_elected
    (λ b below. field_same s.homes seats id (attendance_of v) (attendance_of w) (at_map attendance_of s.views id v at) (λ r. r.elected) b (ap (held_field (λ r. r.elected) (slot_of (Bar b))) stands)))

module _ {C : Type 0} (means : Meanings C) (z : Size) (phase count : ℕ) (s : WaitState C) (r : Rule means z phase count s) (id : ℕ) (v : WaitView C) (o : ℕ) (at : get_elem? s.views id ≡ maybe.some v) (own : v.own ≡ Some o) where
  abbrev seats : List (Attendance C)
  seats = map attendance_of s.views

  abbrev outcomes : List Outcome
  outcomes = map outcome_of s.views

  member : get_elem? outcomes id ≡ maybe.some (outcome_of v)
  member = at_map outcome_of s.views id v at

  fits : Fits z.cvs v.target v.place
  fits = r.places.fits id (standing_of v) (at_map standing_of s.views id v at)

  -- the last elections that the records say, before a step and after it
  abbrev said : ℕ → ℕ
  said b = elected_in b s.homes seats

  abbrev goes_to : WaitStep → WaitView C
  goes_to k = view_then means z phase count s r id v o at k

  abbrev says : WaitStep → ℕ → ℕ
  says k b = elected_in b (homes_then means z phase count s r id v o at k) (set seats id (attendance_of (goes_to k)))

  abbrev StillOneElected : WaitStep → Type 0
  StillOneElected k = OneElected z.bars phase (says k) (set outcomes id (outcome_of (goes_to k)))

  -- the seat waits from no phase below that of the opening
  since : (b ph : ℕ) → waits_at v.place ≡ Some (b, ph) → phase ≤ ph
  since = r.one_elected.waits id (outcome_of v) member

  -- nobody was elected for a phase above the last one
  nobody_yet : (b ph : ℕ) → said b < ph → total (elected_for b ph) outcomes ≡ 0
  nobody_yet b ph above = total_none (elected_for b ph) outcomes (λ i u e. dite (ℕ_discrete (elected_for b ph u) 0) (λ none. none) (λ some.
      let x = from_seen outcome_of s.views i u e in let won = times_elected b ph u.elections (omega arith) in
      let known = r.elections.known i (attendance_of x.0) (at_map attendance_of s.views i x.0 x.1) b ph (subst (λ (y : Outcome). Elected y.elections b ph) (sym x.2) won) in let most = known.1 in absurd (omega arith)))

  stays : (k : WaitStep) → IsNoFree k → Permits z k (Some o) v.target v.place → StillOneElected k
  stays k none ok = keeps z.bars phase said (says k) outcomes r.one_elected id (outcome_of v) (outcome_of (goes_to k)) member
      (λ b ph is. since b ph (sym (waits_stay z v.target k (Some o) (number_of v.own) (get_or s.words (word_of z o k) 0) (home_in s.homes (slot_number k)) v.place none ok) ∙ is))
      (no_free_passed k none v.place v.passed) (no_free_elections k none v.place v.elections) (λ b below. records_stay means z phase count s r id v o at k none ok (λ r. r.elected) refl b)

  -- THE FREE OF A JOB, from the place p of a seat that has this list and this record in hand
  module _ (list : List ℕ) (found : Record) (q : Place) (target : Option ℕ) where
    abbrev FreesAs : Job → Type 0
    FreesAs j = v.place ≡ Holding j list found ∷ q → Permits z (Free (spot_of j) target) (Some o) v.target v.place → StillOneElected (Free (spot_of j) target)

    module _ (j : Job) (place : v.place ≡ Holding j list found ∷ q) (ok : Permits z (Free (spot_of j) target) (Some o) v.target v.place) where
      abbrev step : WaitStep
      step = Free (spot_of j) target

      abbrev slot : ℕ
      slot = slot_of (spot_of j)

      abbrev w : WaitView C
      w = goes_to step

      low : slot < slots_in z
      low = spot_inside z (spot_of j) r.sized.cvs ok.0

      free : slot_in (hand_at w.place) ≡ None
      free = hand_follows z v.target step (Some o) (number_of v.own) (get_or s.words (word_of z o step) 0) (home_in s.homes (slot_number step)) v.place ok fits

      waits_is : waits_at w.place ≡ waits_at (goes_on j o list found q)
      waits_is = ap waits_at (ap (λ (x : ℕ). freed x v.place) (ap number_of own) ∙ ap (freed o) place)

      won_is : w.elections ≡ elections_after j found v.elections
      won_is = ap (λ (p : Place). freed_elections p v.elections) place

      passed_is : w.passed ≡ passed_after j found v.passed
      passed_is = ap (λ (p : Place). freed_passed p v.passed) place

      -- what the record said and says, and what another says
      read : (f : Record → ℕ) → f (left_at 0 []).record ≡ 0 → (b : ℕ) → slot ≡ slot_of (Bar b) → field_of f b s.homes seats ≡ f found
      read = found_reads means z phase count s r id v o at j list found q place low

      says_left : (b : ℕ) → slot ≡ slot_of (Bar b) → says step b ≡ (left_record j found).elected
      says_left b is = left_reads means z phase count s r id v o at j list found q place low w free (left_at o v.place) (λ r. r.elected) refl b is ∙ ap (λ (p : Place). (left_at o p).record.elected) place

      others_say : (b : ℕ) → slot ≢ slot_of (Bar b) → says step b ≡ said b
      others_say = others_read means z phase count s r id v o at j list found q place low w free (left_at o v.place) (λ r. r.elected) refl

      says_same : (left_record j found).elected ≡ found.elected → (b : ℕ) → b < z.bars → says step b ≡ said b
      says_same same b below = dite (ℕ_discrete slot (slot_of (Bar b))) (λ is. says_left b is ∙ (same ∙ sym (read (λ r. r.elected) refl b is))) (λ ne. others_say b ne)

      -- nobody is elected
      keeps_all : ((b ph : ℕ) → waits_at w.place ≡ Some (b, ph) → phase ≤ ph) → passed_after j found v.passed ≡ v.passed → elections_after j found v.elections ≡ v.elections → (left_record j found).elected ≡ found.elected → StillOneElected step
      keeps_all waits passed won same = keeps z.bars phase said (says step) outcomes r.one_elected id (outcome_of v) (outcome_of w) member waits (passed_is ∙ passed) (won_is ∙ won) (says_same same)

      -- of a barrier's record
      module _ (b : ℕ) (bar : spot_of j ≡ Bar b) (below : b < z.bars) where
        slot_is : slot ≡ slot_of (Bar b)
        slot_is = ap slot_of bar

        said_is : said b ≡ found.elected
        said_is = read (λ r. r.elected) refl b slot_is

        past : found.elected ≤ found.phase
        past = let most = r.elections.past b below in let e = said_is in let p = read (λ r. r.phase) refl b slot_is in omega arith

        opened : phase ≤ found.phase
        opened = let i = r.inside b below in let most = i.0 in let p = read (λ r. r.phase) refl b slot_is in omega arith

        -- the seat is elected
        gains_next : (ph : ℕ) → phase ≤ ph → found.elected < suc ph → waits_at w.place ≡ None → w.passed ≡ (b, ph) ∷ v.passed → w.elections ≡ (b, suc ph) ∷ v.elections → (left_record j found).elected ≡ suc ph → StillOneElected step
        gains_next ph low_phase vacant idle passed won left = let e = said_is in gains z.bars phase said (says step) outcomes r.one_elected id (outcome_of v) (outcome_of w) member (λ c g is. absurd (none_waited c g (sym idle ∙ is)))
            b ph low_phase passed won (nobody_yet b (suc ph) (omega arith)) (says_left b slot_is ∙ left) (λ c low' ne. others_say c (λ h. ne (let x = sym slot_is ∙ h in omega arith)))

    frees_nobody : (j : Job) → ElectsNobody j → FreesAs j
    frees_nobody j nobody place ok = keeps_all j place ok (λ b ph is. since b ph (ap waits_at place ∙ (sym (still_waits j o list found q nobody) ∙ (sym (waits_is j place ok) ∙ is)))) (still_passed j found v.passed nobody) (still_elections j found v.elections nobody) (still_elected j found nobody)

    one_more : (n : ℕ) → n + 1 ≡ suc n
    one_more n = omega arith

    frees_arrive : (b : ℕ) → FreesAs (job.Arrive b)
    frees_arrive b place ok = by_test (is_worn found) refl (is_last found) refl
      where
        none : q ≡ []
        none = (subst (Fits z.cvs v.target) place fits).1

        waits : (worn last : Bool) → is_worn found ≡ worn → is_last found ≡ last → waits_at (goes_to (Free (Bar b) target)).place ≡ waits_at (cond worn (resumed []) (cond last (Passing b found.phase ∷ []) (Settling b found.phase ∷ [])))
        waits worn last e f = waits_is (job.Arrive b) place ok ∙ (λ i. waits_at (cond (e i) (resumed (none i)) (cond (f i) (Passing b found.phase ∷ none i) (Settling b found.phase ∷ none i))))

        passed : (worn last : Bool) → is_worn found ≡ worn → is_last found ≡ last → passed_after (job.Arrive b) found v.passed ≡ cond worn v.passed (cond last ((b, found.phase) ∷ v.passed) v.passed)
        passed worn last e f = λ i. cond (e i) v.passed (cond (f i) ((b, found.phase) ∷ v.passed) v.passed)

        won : (worn last : Bool) → is_worn found ≡ worn → is_last found ≡ last → elections_after (job.Arrive b) found v.elections ≡ cond worn v.elections (cond last ((b, found.phase + 1) ∷ v.elections) v.elections)
        won worn last e f = λ i. cond (e i) v.elections (cond (f i) ((b, found.phase + 1) ∷ v.elections) v.elections)

        left : (worn last : Bool) → is_worn found ≡ worn → is_last found ≡ last → (left_record (job.Arrive b) found).elected ≡ (cond worn found (cond last (record { phase = found.phase + 1; participants = found.participants; arrived = 0; elected = found.phase + 1 }) (record found { arrived = found.arrived + 1 }))).elected
        left worn last e f = λ i. (cond (e i) found (cond (f i) (record { phase = found.phase + 1; participants = found.participants; arrived = 0; elected = found.phase + 1 }) (record found { arrived = found.arrived + 1 }))).elected

        by_test : (worn : Bool) → is_worn found ≡ worn → (last : Bool) → is_last found ≡ last → StillOneElected (Free (Bar b) target)
        by_test true e last f = keeps_all (job.Arrive b) place ok (λ c ph is. absurd (none_waited c ph (sym (waits true last e f) ∙ is))) (passed true last e f) (won true last e f) (left true last e f)
        by_test false e true f = gains_next (job.Arrive b) place ok b refl ok.0 found.phase (opened (job.Arrive b) place ok b refl ok.0) (let most = past (job.Arrive b) place ok b refl ok.0 in omega arith) (waits false true e f) (passed_is (job.Arrive b) place ok ∙ passed false true e f)
            (won_is (job.Arrive b) place ok ∙ (won false true e f ∙ (λ i. (b, one_more found.phase i) ∷ v.elections))) (left false true e f ∙ one_more found.phase)
        by_test false e false f = keeps_all (job.Arrive b) place ok (λ c ph is. let same = (same_waited b found.phase c ph (sym (waits false false e f) ∙ is)).1 in let low = opened (job.Arrive b) place ok b refl ok.0 in omega arith) (passed false false e f) (won false false e f) (left false false e f)

    frees_notice : (b ph : ℕ) → FreesAs (job.Notice b ph)
    frees_notice b ph place ok = by_test (has_passed ph found) refl (eqb found.elected (ph + 1)) refl
      where
        none : q ≡ []
        none = (subst (Fits z.cvs v.target) place fits).2

        low : phase ≤ ph
        low = since b ph (ap waits_at place)

        waits : (passes : Bool) → has_passed ph found ≡ passes → waits_at (goes_to (Free (Bar b) target)).place ≡ waits_at (cond passes (Returning b ph ∷ []) (Dozing b ph ∷ []))
        waits passes e = waits_is (job.Notice b ph) place ok ∙ (λ i. waits_at (cond (e i) (Returning b ph ∷ none i) (Dozing b ph ∷ none i)))

        passed : (passes : Bool) → has_passed ph found ≡ passes → passed_after (job.Notice b ph) found v.passed ≡ cond passes ((b, ph) ∷ v.passed) v.passed
        passed passes e = λ i. cond (e i) ((b, ph) ∷ v.passed) v.passed

        won : (passes has : Bool) → has_passed ph found ≡ passes → eqb found.elected (ph + 1) ≡ has → elections_after (job.Notice b ph) found v.elections ≡ cond passes (cond has v.elections ((b, ph + 1) ∷ v.elections)) v.elections
        won passes has e f = λ i. cond (e i) (cond (f i) v.elections ((b, ph + 1) ∷ v.elections)) v.elections

        left : (passes : Bool) → has_passed ph found ≡ passes → (left_record (job.Notice b ph) found).elected ≡ (cond passes (record found { elected = found.phase }) found).elected
        left passes e = λ i. (cond (e i) (record found { elected = found.phase }) found).elected

        by_test : (passes : Bool) → has_passed ph found ≡ passes → (has : Bool) → eqb found.elected (ph + 1) ≡ has → StillOneElected (Free (Bar b) target)
        by_test false e has f = keeps_all (job.Notice b ph) place ok (λ c g is. since c g (ap waits_at place ∙ (sym (waits false e) ∙ is))) (passed false e) (won false has e f) (left false e)
        by_test true e true f =
            let now = eqb-true found.phase (ph + 1) e in let named = eqb-true found.elected (ph + 1) f in let was = said_is (job.Notice b ph) place ok b refl ok.0 in
            notices z.bars phase said (says (Free (Bar b) target)) outcomes r.one_elected id (outcome_of v) (outcome_of (goes_to (Free (Bar b) target))) member (λ c g is. absurd (none_waited c g (sym (waits true e) ∙ is)))
            b ph (passed_is (job.Notice b ph) place ok ∙ passed true e) (subst (OneHas outcomes b) (was ∙ (named ∙ one_more ph)) (r.one_elected.last b ok.0 (let l = low in omega arith))) (won_is (job.Notice b ph) place ok ∙ won true true e f)
            (says_same (job.Notice b ph) place ok (left true e ∙ (now ∙ sym named)))
        by_test true e false f =
            let now = eqb-true found.phase (ph + 1) e in let vacant = eqb-false found.elected (ph + 1) f in let most = past (job.Notice b ph) place ok b refl ok.0 in
            gains_next (job.Notice b ph) place ok b refl ok.0 ph low (dite (ℕ_discrete found.elected (ph + 1)) (λ same. absurd (vacant same)) (λ ne. omega arith)) (waits true e) (passed_is (job.Notice b ph) place ok ∙ passed true e)
            (won_is (job.Notice b ph) place ok ∙ (won true false e f ∙ (λ i. (b, one_more ph i) ∷ v.elections))) (left true e ∙ (now ∙ one_more ph))

    frees : (j : Job) → FreesAs j
    frees (job.Arrive b) = frees_arrive b
    frees (job.Notice b ph) = frees_notice b ph
    frees j = frees_nobody j tt

  freed_at : (x : Spot) (target : Option ℕ) (p : Place) → v.place ≡ p → MayFree x target v.target (top p) → Permits z (Free x target) (Some o) v.target v.place → StillOneElected (Free x target)
  freed_at x target (Holding j list found ∷ q) place may ok = subst (λ (y : Spot). Permits z (Free y target) (Some o) v.target v.place → StillOneElected (Free y target)) may.0 (frees list found q target j place) ok
  freed_at x target p place may ok = absurd may

  -- EACH STEP
  one_elected : (k : WaitStep) → Permits z k (Some o) v.target v.place → StillOneElected k
  one_elected (Free x target) ok = freed_at x target v.place refl ok.1 ok
  one_elected k ok = stays k tt ok

  pub one_elected_step : (k : WaitStep) → Permits z k (Some o) v.target v.place → let h = homes_then means z phase count s r id v o at k in let views = set s.views id (view_then means z phase count s r id v o at k) in OneElected z.bars phase (λ b. elected_in b h (map attendance_of views)) (map outcome_of views)
  one_elected_step k ok = subst (λ (x : List (Attendance C) × List Outcome). OneElected z.bars phase (λ b. elected_in b (homes_then means z phase count s r id v o at k) x.0) x.1)
      (λ i. (sym (map-set attendance_of s.views id (goes_to k)) i, sym (map-set outcome_of s.views id (goes_to k)) i)) (one_elected k ok)

-- WHAT THE RULE SAYS of who was elected
pub one_is_elected : {C : Type 0} (means : Meanings C) (z : Size) (phase count : ℕ) (s : WaitState C) → Rule means z phase count s → OneIsElected s
one_is_elected {C} means z phase count s r = record {
  one = λ id b ph v at out. of_one b ph (r.one_elected.one id (outcome_of v) (at_map outcome_of s.views id v at) b ph out);
  waited = λ id b ph v at won. let was = earned id b ph v at won in let above = was.0 in (omega arith, was.1);
}
  where
    earned : (id b ph : ℕ) (v : WaitView C) → get_elem? s.views id ≡ maybe.some v → Elected v.elections b ph → (phase < ph) × WaitedOut v.passed b (ph - 1)
    earned id b ph v at won = r.one_elected.waited id (outcome_of v) (at_map outcome_of s.views id v at) b ph won

    of_one : (b ph : ℕ) → OneHas (map outcome_of s.views) b (suc ph) → (i : ℕ) × IsElected b ph i s
    of_one b ph one = let some = total_some (elected_for b (suc ph)) (map outcome_of s.views) (omega arith) in let x = from_seen outcome_of s.views some.0 some.1 some.2 in
        let low : 1 ≤ times_of b (suc ph) x.0.elections = subst (λ (u : Outcome). 1 ≤ elected_for b (suc ph) u) (sym x.2) some.3 in
        let most = total_at (elected_for b (suc ph)) (map outcome_of s.views) some.0 (outcome_of x.0) (at_map outcome_of s.views some.0 x.0 x.1) in
        let before = (earned some.0 b (suc ph) x.0 x.1 (times_elected b (suc ph) x.0.elections low)).1 in let is : suc ph - 1 ≡ ph = omega arith in (
          some.0,
          record {
            view = x.0;
            at = x.1;
            waited = subst (WaitedOut x.0.passed b) is before;
            once = omega arith;
            alone = λ j u there won. dite (ℕ_discrete j some.0) (λ (same : j ≡ some.0). same) (λ ne. let its = elected_times b (suc ph) u.elections won in
                let two = total_two (elected_for b (suc ph)) (map outcome_of s.views) some.0 j (outcome_of x.0) (outcome_of u) ne (at_map outcome_of s.views some.0 x.0 x.1) (at_map outcome_of s.views j u there) in absurd (omega arith));
          },
        )

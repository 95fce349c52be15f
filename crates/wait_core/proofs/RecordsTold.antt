-- What a seat is told of the record that it takes in hand.
use Rattle.std.proofs.Common.{◌≡◌, ℕ, ◌+◌, ◌<◌, ◌≤◌, List, [], ◌∷◌, map, length, get_or, Option, None, Some, refl, sym, ap, ◌∙◌, arith}
use Rattle.std.proofs.lemmas.List.{length-map}
use mathlib.Core.Option as maybe
use lib.ListN.{get_elem?}
use Rattle.atomic_table.proofs.Lists.{at_map}
use Rattle.wait_core.specs.declared.step.Spot.{Spot}
use Rattle.wait_core.specs.declared.step.Spot.TheVariants.{Cv, Bar}
use Rattle.wait_core.specs.declared.step.WaitStep.{WaitStep}
use Rattle.wait_core.specs.declared.step.WaitStep.TheVariants.{Take}
use Rattle.wait_core.specs.declared.view.Record.{Record}
use Rattle.wait_core.specs.declared.view.Size.{Size}
use Rattle.wait_core.specs.declared.view.WaitView.{WaitView}
use Rattle.seat_roster.specs.Totals.{total}
use Rattle.seat_roster.specs.Roster.{one_if}
use Rattle.seat_roster.proofs.Totals.{total_at, total_gap, total_le}
use Rattle.wait_core.specs.Words.{slot_of, spin_at}
use Rattle.wait_core.specs.Machine.{WaitState, word_of, home_in, slot_number, IsSpot, Permits}
use Rattle.wait_core.specs.Meanings.{Meanings}
use Rattle.wait_core.specs.Parties.{phase_of}
use Rattle.wait_core.specs.Seating.{party_of}
use Rattle.wait_core.specs.Barriers.{Attendance, attendance_of, waits_at, field_of, phases_in, takes_part, waits_from}
use Rattle.wait_core.specs.Rule.{Rule}
use Rattle.wait_core.specs.Told.{IsInside, FindsPhase, CountsSeat, TellsRecord, TellsBarrier}
use Rattle.wait_core.proofs.Records.{field_home}
use Rattle.wait_core.proofs.Attending.{here_idle}
use Rattle.wait_core.proofs.Passing.{waits_less}
use Rattle.wait_core.proofs.Arriving.{few_views, phase_seen}
use Rattle.wait_core.proofs.RecordsKept.{held_once}

part_most : {C : Type 0} (b : ℕ) (v : Attendance C) → takes_part b v ≤ 1
part_most b v = by_known (phase_of v.party.attached b)
  where
    by_known : (o : Option ℕ) → one_if o ≤ 1
    by_known None = omega arith
    by_known (Some ph) = omega arith

ones : {A : Type 0} (l : List A) → total (λ (u : A). 1) l ≡ length l
ones [] = refl
ones (u ∷ l) = let e = ones l in omega arith

module _ {C : Type 0} (means : Meanings C) (z : Size) (phase count : ℕ) (s : WaitState C) (r : Rule means z phase count s) where
  abbrev seats : List (Attendance C)
  seats = map attendance_of s.views

  few_seats : length seats ≤ 64
  few_seats = let few = few_views means z phase count s r in let a = length-map s.views party_of in let b = length-map s.views attendance_of in omega arith

  -- where its spin word is 0 a record lies at home
  module _ (b : ℕ) (below : b < z.bars) (clear : get_or s.words (spin_at z (slot_of (Bar b))) 0 ≡ 0) where
    abbrev found : Record
    found = (home_in s.homes (slot_of (Bar b))).record

    lies : (f : Record → ℕ) → field_of f b s.homes seats ≡ f found
    lies f = let one = (r.lists.hands (slot_of (Bar b)) (omega arith)).one in let held = held_once means z phase count s r (slot_of (Bar b)) in field_home f s.homes seats b (omega arith)

    inside : IsInside found
    inside = record {
      few = let counted = r.participants b below in let home = lies (λ r. r.participants) in let few = few_seats in let most = total_le (takes_part b) (λ (u : Attendance C). 1) seats (λ i u e. part_most b u) in let all = ones seats in omega arith;
      arrived = let arrived = r.arrived b below in let counted = r.participants b below in let home = lies (λ r. r.arrived) in let home' = lies (λ r. r.participants) in
          let less = total_le (waits_from b (field_of (λ r. r.phase) b s.homes seats)) (takes_part b) seats (λ i u e. waits_less means (phases_in z s) seats r.known r.waiters b (field_of (λ r. r.phase) b s.homes seats) i u e) in omega arith;
      phase = let i = r.inside b below in let most = i.1 in let home = lies (λ r. r.phase) in omega arith;
    }

    counts_seat : (id : ℕ) (v : WaitView C) → get_elem? s.views id ≡ maybe.some v → CountsSeat (waits_at v.place) (phase_of v.attached b) found
    counts_seat id v at =
        let there = at_map attendance_of s.views id v at in let few = few_seats in let counted = r.participants b below in let home = lies (λ r. r.participants) in
        by_known (phase_of v.attached b) refl (waits_at v.place) refl (total_at (takes_part b) seats id (attendance_of v) there) (total_gap (takes_part b) (λ (u : Attendance C). 1) seats id (attendance_of v) (λ i u e. part_most b u) there) (ones seats) (omega arith) (omega arith)
      where
        phase_is : waits_at v.place ≡ None → (ph : ℕ) → phase_of v.attached b ≡ Some ph → found.phase ≡ ph
        phase_is idle ph is = sym (lies (λ r. r.phase)) ∙ (sym (phase_seen means z phase count s r b below) ∙ here_idle (phases_in z s) (attendance_of v) (r.known id (attendance_of v) (at_map attendance_of s.views id v at)) idle b ph is)

        finds : (w : Option (ℕ × ℕ)) → waits_at v.place ≡ w → (ph : ℕ) → phase_of v.attached b ≡ Some ph → FindsPhase w ph found
        finds None idle ph is = phase_is idle ph is
        finds (Some w) waits ph is = tt

        by_known : (o : Option ℕ) → phase_of v.attached b ≡ o → (w : Option (ℕ × ℕ)) → waits_at v.place ≡ w → (let t : ℕ = total (takes_part b) seats in takes_part b (attendance_of v) ≤ t → t + 1 ≤ total (λ (u : Attendance C). 1) seats + takes_part b (attendance_of v)
            → total (λ (u : Attendance C). 1) seats ≡ length seats → found.participants ≡ t → length seats ≤ 64 → CountsSeat w o found)
        by_known None is w waits some gap all counted few = let none : takes_part b (attendance_of v) ≡ 0 = ap one_if is in omega arith
        by_known (Some ph) is w waits some gap all counted few = let one : takes_part b (attendance_of v) ≡ 1 = ap one_if is in (omega arith, finds w waits ph is)

  tells_record : (id : ℕ) (v : WaitView C) → get_elem? s.views id ≡ maybe.some v → (x : Spot) → IsSpot z x → get_or s.words (spin_at z (slot_of x)) 0 ≡ 0 → TellsRecord means z phase count x id (waits_at v.place) (party_of v) (home_in s.homes (slot_of x)).record
  tells_record id v at (Cv c) below clear = tt
  tells_record id v at (Bar b) below clear = (
    let wide = r.sized.bars in omega arith,
    inside b below clear,
    counts_seat b below clear id v at,
    record {
      state = s;
      rule = r;
      here = at_map party_of s.views id v at;
      counted = sym (lies b below clear (λ r. r.participants)) ∙ r.participants b below;
      waiting = sym (lies b below clear (λ r. r.arrived)) ∙ (r.arrived b below ∙ ap (λ (n : ℕ). total (waits_from b n) seats) (lies b below clear (λ r. r.phase)));
    },
  )

  pub barrier_tells : (id : ℕ) (v : WaitView C) → get_elem? s.views id ≡ maybe.some v → (o : ℕ) (k : WaitStep) → Permits z k (Some o) v.target v.place → TellsBarrier means z phase count k id (waits_at v.place) (party_of v) (get_or s.words (word_of z o k) 0) (home_in s.homes (slot_number k)).record
  barrier_tells id v at o (Take x (Some c)) ok = tells_record id v at x ok.0
  barrier_tells id v at o (Take x None) ok = tells_record id v at x ok.0
  barrier_tells id v at o k ok = tt

-- Where all who take part but one have arrived, each of those waits for the phase to pass, and is quiet in it.
use Rattle.std.proofs.Common.{◌≡◌, ◌≢◌, ℕ, zero, suc, ◌+◌, ◌<◌, ◌≤◌, List, [], ◌∷◌, None, Some, refl, sym, ap, ◌∙◌, subst, ⊎_elim, arith}
use mathlib.Core.Logic.{dite}
use mathlib.Core.Option as maybe
use native.Mathlib.Decide.{ℕ_discrete}
use lib.ListN.{get_elem?}
use Rattle.seat_roster.specs.Totals.{total}
use Rattle.seat_roster.specs.Roster.{one_if}
use Rattle.seat_roster.proofs.Totals.{total_gap, total_some}
use Rattle.wait_core.specs.Meanings.{Meanings}
use Rattle.wait_core.specs.Parties.{phase_of, now, Here}
use Rattle.wait_core.specs.Barriers.{Attendance, waits_at, takes_part, waits_from, PhasesAreKnown, IsWaiter, WaitersAreQuiet}
use Rattle.wait_core.proofs.Attachments.{some_is, waited, same_waited, waits_none, waiting_is, waits_most}
use Rattle.wait_core.proofs.Attending.{here_idle}

-- by how much f is below g at two members
total_gap_two : {A : Type 0} (f g : A → ℕ) (l : List A) (i j : ℕ) (v w : A) → j ≢ i → ((i : ℕ) (v : A) → get_elem? l i ≡ maybe.some v → f v ≤ g v) → get_elem? l i ≡ maybe.some v → get_elem? l j ≡ maybe.some w → total f l + (g v + g w) ≤ total g l + (f v + f w)
total_gap_two f g [] i j v w ne h e e' = absurd (maybe.some-ne-none v (sym e))
total_gap_two f g (x ∷ xs) zero zero v w ne h e e' = absurd (ne refl)
total_gap_two f g (x ∷ xs) zero (suc j) v w ne h e e' =
    let a : f x ≡ f v = ap f (maybe.some-injective x v e) in let b : g x ≡ g v = ap g (maybe.some-injective x v e) in let c = total_gap f g xs j w (λ i v e. h (suc i) v e) e' in omega arith
total_gap_two f g (x ∷ xs) (suc i) zero v w ne h e e' =
    let a : f x ≡ f w = ap f (maybe.some-injective x w e') in let b : g x ≡ g w = ap g (maybe.some-injective x w e') in let c = total_gap f g xs i v (λ i v e. h (suc i) v e) e in omega arith
total_gap_two f g (x ∷ xs) (suc i) (suc j) v w ne h e e' = let a = h 0 x refl in let b = total_gap_two f g xs i j v w (λ is. ne (ap suc is)) (λ i v e. h (suc i) v e) e e' in omega arith

module _ {C : Type 0} (means : Meanings C) (phases : List ℕ) (seats : List (Attendance C)) (known : PhasesAreKnown phases seats) (calm : WaitersAreQuiet means seats) where
  -- who waits takes part
  pub waits_less : (b f id : ℕ) (v : Attendance C) → get_elem? seats id ≡ maybe.some v → waits_from b f v ≤ takes_part b v
  waits_less b f id v at = dite (ℕ_discrete (waits_from b f v) 0) (λ none. omega arith)
      (λ some. let is = waiting_is b f (waits_at v.place) (omega arith) in let part : takes_part b v ≡ 1 = ap one_if (calm id v at b f is).attached in let most = waits_most b f (waits_at v.place) in omega arith)

  -- who waits from a phase that hasn't passed yet knows that of each barrier
  here_before : (b f id : ℕ) (v : Attendance C) → get_elem? seats id ≡ maybe.some v → now phases b ≡ f → waits_at v.place ≡ waited b f → Here phases v.party
  here_before b f id v at here waits a g there = ⊎_elim (λ (e : now phases a ≡ g). e)
      (λ (late : (now phases a ≡ suc g) × (waits_at v.place ≡ Some (a, g))). let same = same_waited b f a g (sym waits ∙ late.1) in
      let p : now phases b ≡ now phases a = ap (now phases) same.0 in let q = late.0 in let r = same.1 in absurd (omega arith))
      (known id v at a g there)

  -- of a barrier at the phase f, the seat id takes part and doesn't wait
  module _ (b f participants arrived : ℕ) (here : now phases b ≡ f) (counts : participants ≡ total (takes_part b) seats) (counted : arrived ≡ total (waits_from b f) seats)
      (id : ℕ) (v : Attendance C) (at : get_elem? seats id ≡ maybe.some v) (idle : waits_at v.place ≡ None) (mine : phase_of v.party.attached b ≡ Some f) where
    part : takes_part b v ≡ 1
    part = ap one_if mine

    pub arrived_less : arrived + 1 ≤ participants
    arrived_less = let gap = total_gap (waits_from b f) (takes_part b) seats id v (waits_less b f) at in let p = part in let n = waits_none b f (waits_at v.place) idle in omega arith

    -- where all others have arrived
    module _ (last : arrived + 1 ≡ participants) where
      -- each other who takes part waits from this phase
      pub others_wait : (j g : ℕ) (u : Attendance C) → j ≢ id → get_elem? seats j ≡ maybe.some u → phase_of u.party.attached b ≡ Some g → waits_at u.place ≡ waited b f
      others_wait j g u ne there is =
          let gap = total_gap_two (waits_from b f) (takes_part b) seats id j v u ne (waits_less b f) at there in
          let p = part in let q : takes_part b u ≡ 1 = ap one_if is in let n = waits_none b f (waits_at v.place) idle in waiting_is b f (waits_at u.place) (omega arith)

      -- so whoever takes part knows the phase, is quiet in it, and waits at no other barrier
      pub all_quiet : means.quiet v.party b f → (j : ℕ) (u : Attendance C) (g : ℕ) → get_elem? seats j ≡ maybe.some u → phase_of u.party.attached b ≡ Some g → (g ≡ f) × means.quiet u.party b f × Here phases u.party
      all_quiet done j u g there is = dite (ℕ_discrete j id)
          (λ (same : j ≡ id). let e : u ≡ v = maybe.some-injective u v (sym there ∙ (ap (get_elem? seats) same ∙ at)) in
          (some_is g f (sym is ∙ (ap (λ (y : Attendance C). phase_of y.party.attached b) e ∙ mine)), subst (λ (y : Attendance C). means.quiet y.party b f) (sym e) done, subst (λ (y : Attendance C). Here phases y.party) (sym e) (here_idle phases v (known id v at) idle)))
          (λ (ne : j ≢ id). let w = others_wait j g u ne there is in let is_waiter = calm j u there b f w in (some_is g f (sym is ∙ is_waiter.attached), is_waiter.quiet, here_before b f j u there here w))

      -- where there is another, one waits
      pub some_waits : 1 < participants → (i : ℕ) × (u : Attendance C) × (get_elem? seats i ≡ maybe.some u) × (waits_at u.place ≡ waited b f) × IsWaiter means u.party b f
      some_waits others = let some = total_some (waits_from b f) seats (omega arith) in let waits = waiting_is b f (waits_at some.1.place) some.3 in (some.0, some.1, some.2, waits, calm some.0 some.1 some.2 b f waits)

-- The machine allows the step that a place of a script names.
use Rattle.std.proofs.Common.{◌≡◌, ◌∙◌, ℕ, zero, suc, ◌+◌, ◌-◌, ◌*◌, ◌/◌, ◌%◌, ◌^◌, ◌<◌, ◌≤◌, nat_lt, bit_and, eqb, Bool, true, false, cond, List, Option, None, Some, refl, sym, ap, subst, arith}
use mathlib.Core.Logic.{dite}
use native.Mathlib.Decide.{ℕ_discrete}
use Rattle.std.specs.Prelude.{⊤}
use Rattle.std.specs.Int.{bit_at}
use Rattle.std.proofs.lemmas.Bool.{eqb-true, ne_eqb}
use Rattle.std.proofs.lemmas.Bool.Decides.{nat_tests}
use Rattle.std.proofs.lemmas.Nat.Bits.{bit_at-lt, bit_at-suc, bit_at_and, bit_at_lowest}
use Rattle.std.proofs.Common.{eq-eqb}
use Rattle.seat_roster.proofs.Totals.{total_some}
use Rattle.signal_core.specs.declared.step.SigStep.TheVariants.{Gstore, Mor}
use Rattle.signal_core.specs.declared.view.About.{About}
use Rattle.signal_core.specs.declared.view.Emission.{Emission}
use Rattle.signal_core.specs.declared.view.Frame.TheVariants.{Reading, Opening, Entering, Leaving, Posting, Numbering, Telling, Prodding, Comparing, Heading, Swapping, Taking, Keeping, Reminding}
use Rattle.signal_core.specs.declared.view.Slot.{Slot}
use Rattle.signal_core.specs.Machine.{IsJoined, IsLowest, IsPart, Permits, Place, number_of, place_after, told}
use Rattle.signal_core.specs.Places.{any, counts, emits, emitted, in_hand, under_way}
use Rattle.signal_core.specs.PlacesFit.{PlaceFits}
use Rattle.signal_core.specs.EmissionsShow.{EmissionsShow, PlaceShows}
use Rattle.signal_core.specs.Seating.{Stance}
use Rattle.signal_core.specs.Words.{worn}
use Rattle.signal_script.specs.declared.signals.Ask.{Ask}
use Rattle.signal_script.specs.declared.signals.Ask.TheVariants.{Join, Leave, Emit, Absorb}
use Rattle.signal_script.specs.Signals.{failing_of, lowest, step_at}
use Rattle.signal_script.specs.Passed.{anything}
use Rattle.signal_script.proofs.KindFacts.{lowest-below, lowest-skip, lowest-step}

-- BITS. A number that isn't 0 has one, and one that is no less than a power has one from there on
some_bit : (fuel n : ℕ) → n ≤ fuel → 0 < n → (j : ℕ) × (bit_at n j ≡ 1)
some_bit zero n most more = absurd (omega arith)
some_bit (suc fuel) n most more = dite (ℕ_discrete (n % 2) 1)
    (λ odd. (0, bit_at_lowest n ∙ odd))
    (λ even. let rest = some_bit fuel (n / 2) (omega arith) (omega arith) in (suc rest.0, bit_at-suc n rest.0 ∙ rest.1))

bit_from : (m n : ℕ) → 2 ^ m ≤ n → (j : ℕ) × (m ≤ j) × (bit_at n j ≡ 1)
bit_from zero n most = let some : 0 < n = omega (arith, pow-zero) in let b = some_bit n n (omega arith) some in (b.0, omega arith, b.1)
  where
    pow-zero : 2 ^ 0 ≡ 1
    pow-zero = refl
bit_from (suc m) n most = let half : 2 ^ m ≤ n / 2 = omega (arith, double m) in let b = bit_from m (n / 2) half in (suc b.0, omega (arith, b.1), bit_at-suc n b.0 ∙ b.2)
  where
    double : (k : ℕ) → 2 ^ suc k ≡ 2 ^ k * 2
    double k = omega arith

-- the lowest of the last kinds that failed
lowest-is : (failed left j : ℕ) → left ≤ 32 → 32 - left ≤ j → j < 32 → bit_at failed j ≡ 1 → IsLowest failed (32 - left) (lowest failed left)
lowest-is failed zero j few from below bit = absurd (omega arith)
lowest-is failed (suc left) j few from below bit = dite (ℕ_discrete (bit_at failed d) 1) here (behind (λ later. lowest-is failed left j (omega (arith, few)) later below bit))
  where
    d : ℕ
    d = 31 - left

    is_d : d ≡ 31 - left
    is_d = refl

    here : bit_at failed d ≡ 1 → IsLowest failed (32 - suc left) (lowest failed (suc left))
    here set = subst (λ (k : ℕ). IsLowest failed (32 - suc left) k) (sym (lowest-step failed left (eq-eqb (bit_at failed (31 - left)) 1 set)))
        (omega (arith, is_d), set, λ i low high. absurd (omega (arith, low, high)))

    behind : (32 - left ≤ j → IsLowest failed (32 - left) (lowest failed left)) → (bit_at failed d ≡ 1 → ⊥) → IsLowest failed (32 - suc left) (lowest failed (suc left))
    behind later clear =
        let apart : (j ≡ d → ⊥) = λ e. clear (ap (λ (k : ℕ). bit_at failed k) (sym e) ∙ bit) in
        let rest : IsLowest failed (32 - left) (lowest failed left) = later (omega (arith, apart, from, is_d)) in
        let zero_here : bit_at failed d ≡ 0 = (let b = bit_at-lt failed d in omega (arith, clear, b)) in
        subst (λ (k : ℕ). IsLowest failed (32 - suc left) k) (sym (lowest-skip failed left (ne_eqb (bit_at failed (31 - left)) 1 clear)))
        (omega (arith, rest.0), rest.1, λ i low high. dite (ℕ_discrete i d) (λ e. ap (λ (k : ℕ). bit_at failed k) e ∙ zero_here) (λ ne. rest.2 i (omega (arith, low, ne, is_d)) high))

-- EMISSIONS. A bit in a hand is of a kind that was emitted, and that is one of 32
way_kind : (s k : ℕ) (p : Place) → 1 ≤ under_way s k p → PlaceShows anything p → k < 32
way_kind s k (Some (Posting j x q)) more shows = by_kind (eqb j k) refl more
  where
    by_kind : (b : Bool) → eqb j k ≡ b → 1 ≤ cond b (cond (nat_lt s q) 1 0) 0 → k < 32
    by_kind true e h = let same = eqb-true j k e in omega (arith, shows.0, same)
    by_kind false e h = absurd (omega (arith, h))
way_kind s k (Some (Numbering j x)) more shows = by_kind (eqb j k) refl more
  where
    by_kind : (b : Bool) → eqb j k ≡ b → 1 ≤ cond b 1 0 → k < 32
    by_kind true e h = let same = eqb-true j k e in omega (arith, shows.0, same)
    by_kind false e h = absurd (omega (arith, h))
way_kind s k p more shows = absurd (omega (arith, more))

emission_kind : (k : ℕ) (e : Emission) → 1 ≤ counts k any e → e.kind ≡ k
emission_kind k e more = by_kind (eqb e.kind k) refl more
  where
    by_kind : (b : Bool) → eqb e.kind k ≡ b → 1 ≤ cond b 1 0 → e.kind ≡ k
    by_kind true is h = eqb-true e.kind k is
    by_kind false is h = absurd (omega (arith, h))

pub kind_below : (seats : List Stance) (s k : ℕ) → EmissionsShow anything seats → 1 ≤ emitted s k any seats → k < 32
kind_below seats s k shown more =
    let one = total_some (emits s k any) seats more in
    let v : Stance = one.1 in
    dite (ℕ_discrete (under_way s k v.place) 0)
    (λ none. let some = total_some (counts k any) v.emissions (omega (arith, one.3, none)) in
    let e : Emission = some.1 in
    let small = (shown.numbered one.0 some.0 v e one.2 some.2).0 in
    let same : e.kind ≡ k = emission_kind k e some.3 in
    omega (arith, small, same))
    (λ some. way_kind s k v.place (omega (arith, some)) (shown.under_way one.0 v one.2))

-- A CALL that is begun suits the slot, and a place that goes on with a kind has one that failed
abbrev pub CallSuits : Ask → Option Slot → Type 0
CallSuits Join t = t ≡ None
CallSuits Leave t = IsJoined t
CallSuits (Emit k) t = k < 32
CallSuits (Absorb failing) t = IsJoined t

abbrev pub AskSuits : Option Ask → Place → Option Slot → Type 0
AskSuits (Some a) None t = CallSuits a t
AskSuits a p t = ⊤

abbrev pub HasFailed : Place → Type 0
HasFailed (Some (Keeping h found failed done)) = 2 ^ done ≤ failed
HasFailed p = ⊤

module _ (z : About) (p : ℕ) (below : p < z.procs) where
  begins : (a : Ask) (own : Option ℕ) (t : Option Slot) → CallSuits a t → Permits anything z (step_at p a None) own t None
  begins Join own t h = (refl, refl, h)
  begins Leave own t h = (refl, refl, refl, h)
  begins (Emit k) own t h = ((h, tt), refl)
  begins (Absorb failing) own t h = (refl, refl, h)

  puts_back : (own : Option ℕ) (t : Option Slot) (h found failing : ℕ) → own ≡ Some p → ((k : ℕ) → 1 ≤ bit_at found k → k < 32) → (b : Bool) → eqb (bit_and found failing) 0 ≡ b
      → Permits anything z (cond b (Gstore h None) (Mor p (lowest (bit_and found failing) 32) (Some (bit_and found failing)))) own t (Some (Taking h found))
  puts_back own t h found failing is kinds true e = refl
  puts_back own t h found failing is kinds false e =
      let failed : ℕ = bit_and found failing in
      let some : 0 < failed = dite (ℕ_discrete failed 0) (λ none. absurd (let f = eq-eqb failed 0 none in let g = sym f ∙ e in cc)) (λ ne. omega (arith, ne)) in
      let one = some_bit failed failed (omega arith) some in
      let part : IsPart failed found = λ j. (let m = bit_at_and found failing j in omega (arith, m)) in
      let small : one.0 < 32 = kinds one.0 (let q = part one.0 in omega (arith, q, one.1)) in
      (below, lowest-below failed 32, (is, part, lowest-is failed 32 one.0 (omega arith) (omega arith) small one.1))

  pub permits : (a : Ask) (own : Option ℕ) (t : Option Slot) (place : Place) → own ≡ Some p → PlaceFits z t place → PlaceShows anything place → HasFailed place → ((k : ℕ) → 1 ≤ in_hand k place → k < 32) → AskSuits (Some a) place t
      → Permits anything z (step_at p a place) own t place
  permits a own t None is fits shows failed kinds suits = begins a own t suits
  permits a own t (Some Reading) is fits shows failed kinds suits = tt
  permits a own t (Some (Opening h)) is fits shows failed kinds suits = refl
  permits a own t (Some (Entering h)) is fits shows failed kinds suits = ap (λ (o : Option ℕ). number_of o + 1) (sym is)
  permits a own t (Some Leaving) is fits shows failed kinds suits = refl
  permits a own t (Some (Posting k x q)) is fits shows failed kinds suits = (fits, shows.0, (refl, refl))
  permits a own t (Some (Numbering k x)) is fits shows failed kinds suits = tt
  permits a own t (Some (Telling q)) is fits shows failed kinds suits = (fits, refl)
  permits a own t (Some (Prodding q)) is fits shows failed kinds suits = (fits, refl)
  permits a own t (Some Comparing) is fits shows failed kinds suits = (is, refl)
  permits a own t (Some (Heading g)) is fits shows failed kinds suits = tt
  permits a own t (Some (Swapping h)) is fits shows failed kinds suits = tt
  permits a own t (Some (Taking h found)) is fits shows failed kinds suits = puts_back own t h found (failing_of a) is kinds (eqb (bit_and found (failing_of a)) 0) refl
  permits a own t (Some (Keeping h found failed done)) is fits shows some kinds suits =
      let one = bit_from done failed some in
      let j : ℕ = one.0 in
      let set : 1 ≤ bit_at found j = (let q = fits.1 j in omega (arith, q, one.2)) in
      let past : nat_lt j done ≡ false = grind (arith, nat_tests, one.1) in
      let small : j < 32 = kinds j (subst (λ (b : Bool). 1 ≤ cond b 0 (bit_at found j)) (sym past) set) in
      let few : 32 - (32 - done) ≡ done = omega (arith, small, one.1) in
      (below, lowest-below failed (32 - done), (is, subst (λ (n : ℕ). IsLowest failed n (lowest failed (32 - done))) few (lowest-is failed (32 - done) j (omega arith) (omega (arith, few, one.1)) small one.2)))
  permits a own t (Some (Reminding h found failed k)) is fits shows some kinds suits = (below, is)

-- and the next place has one that failed, too
failed_cond : (b : Bool) (p q : Place) → HasFailed p → HasFailed q → HasFailed (cond b p q)
failed_cond true p q h k = h
failed_cond false p q h k = k

pub failed_after : (z : About) (p n : ℕ) (a : Ask) (place : Place) → HasFailed place → HasFailed (place_after z (step_at p a place) n place)
failed_after z p n Join None h = tt
failed_after z p n Leave None h = tt
failed_after z p n (Emit k) None h = failed_cond (nat_lt n worn) (Some (Posting k 0 0)) None tt tt
failed_after z p n (Absorb failing) None h = failed_cond (eqb n 0) None (Some Comparing) tt tt
failed_after z p n a (Some Reading) h = tt
failed_after z p n a (Some (Opening g)) h = tt
failed_after z p n a (Some (Entering g)) h = tt
failed_after z p n a (Some Leaving) h = tt
failed_after z p n a (Some (Posting k x q)) h = failed_cond (eqb (q + 1) z.procs) (Some (Numbering k x)) (Some (Posting k x (q + 1))) tt tt
failed_after z p n a (Some (Numbering k x)) h = tt
failed_after z p n a (Some (Telling q)) h = failed_cond (eqb n 0) (told z q) (Some (Prodding q)) (failed_cond (eqb (q + 1) z.procs) None (Some (Telling (q + 1))) tt tt) tt
failed_after z p n a (Some (Prodding q)) h = failed_cond (eqb (q + 1) z.procs) None (Some (Telling (q + 1))) tt tt
failed_after z p n a (Some Comparing) h = tt
failed_after z p n a (Some (Heading g)) h = failed_cond (eqb n g) None (Some (Swapping n)) tt tt
failed_after z p n a (Some (Swapping g)) h = tt
failed_after z p n a (Some (Taking g found)) h = by_case (eqb (bit_and found (failing_of a)) 0)
  where
    by_case : (b : Bool) → HasFailed (place_after z (cond b (Gstore g None) (Mor p (lowest (bit_and found (failing_of a)) 32) (Some (bit_and found (failing_of a))))) n (Some (Taking g found)))
    by_case true = tt
    by_case false = tt
failed_after z p n a (Some (Keeping g found failed done)) h = tt
failed_after z p n a (Some (Reminding g found failed k)) h = by_case (nat_lt failed (2 ^ (k + 1))) refl
  where
    by_case : (b : Bool) → nat_lt failed (2 ^ (k + 1)) ≡ b → HasFailed (cond b None (Some (Keeping g found failed (k + 1))))
    by_case true e = tt
    by_case false e = grind (arith, nat_tests, e)

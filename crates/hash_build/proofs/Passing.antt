-- How a worker goes from phase to phase of a growth.
use Rattle.std.proofs.Common.{◌≡◌, ◌⊎◌, ℕ, zero, suc, ◌+◌, ◌%◌, ◌<◌, ◌≤◌, Bool, true, false, ◌&&◌, ◌||◌, List, [], ◌∷◌, refl, sym, ap, ◌∙◌, subst, arith, inl, inr, ⊎_elim, eqb, eq-eqb, Some, None}
use Rattle.std.proofs.lemmas.Option.{same_Some}
use Rattle.wait_core.specs.declared.view.WaitView.{WaitView}
use Rattle.wait_core.specs.Jobs.{at_phase, away_from}
use Rattle.wait_core.specs.Parties.{phase_of, Elected}
use Rattle.wait_core.specs.Seating.{party_of}
use Rattle.phase_barrier.specs.Calls.{Arrived}
use Rattle.join_law.specs.declared.view.HashView.{HashView}
use Rattle.join_law.specs.Layout.{Join}
use Rattle.join_law.specs.Phases.{growth_phase, moves_rows, FREE, HASH_INNER, REINSERT}
use Rattle.join_law.specs.Quiet.{Passes, Quiet, QuietAtBuild, QuietAtGrowth, Stays}
use Rattle.join_law.specs.Views.{View}
use Rattle.join_party.specs.declared.tables.JoinSeats.{JoinSeats}
use Rattle.join_party.specs.declared.tables.JoinTables.{JoinTables}
use Rattle.join_party.specs.Workers.{IsAt}
use Rattle.shared_tuples.specs.declared.sizes.Growth.{Growth}
use Rattle.shared_tuples.specs.declared.sizes.Growth.TheVariants.{Batches, Buckets}
use Rattle.shared_tuples.specs.Growing.{bar_of}
use Rattle.shared_tuples.specs.Tuples.{Hashing}
use Rattle.hash_build.specs.declared.growths.GrowthPhases.{GrowthPhases}
use Rattle.hash_build.specs.Growths.{AreAt, AreElecting, Grows, IsElecting, IsGrowing, IsMoving, MayMove, last_of, passed, phase_at}
use Rattle.hash_build.specs.Hashing.{IsFree, ReadsSizes}
use Rattle.hash_build.proofs.Hashing.{claims_none, hashes_on}

-- what a worker knows of the barriers that it is attached to
pub phase_there : (growth : Growth) (p : GrowthPhases) (l : List (ℕ × ℕ)) → AreAt p l → phase_of l (bar_of growth) ≡ Some (phase_at growth p)
phase_there Batches p l at = ⊎_elim (λ is. ap (λ a. phase_of a 1) is) (λ is. ap (λ a. phase_of a 1) is) at
phase_there Buckets p l at = ⊎_elim (λ is. ap (λ a. phase_of a 2) is) (λ is. ap (λ a. phase_of a 2) is) at

pub build_there : (p : GrowthPhases) (l : List (ℕ × ℕ)) → AreAt p l → phase_of l 0 ≡ Some HASH_INNER
build_there p l at = ⊎_elim (λ is. ap (λ a. phase_of a 0) is) (λ is. ap (λ a. phase_of a 0) is) at

pub reads_sizes_there : (p : GrowthPhases) (v : WaitView HashView) → AreAt p v.attached → ReadsSizes (party_of v)
reads_sizes_there p v at = inr (p.batches, p.buckets, phase_there Batches p v.attached at, phase_there Buckets p v.attached at)

-- rows may be put at ELECT, and while they move
moves_named : (bar ph : ℕ) → (growth_phase bar ph ≡ 0) ⊎ (growth_phase bar ph ≡ REINSERT) → moves_rows bar (Some ph) ≡ true
moves_named bar ph named = ⊎_elim
    (λ elect. ap (λ (b : Bool). b || eqb (growth_phase bar ph) 2) (eq-eqb (growth_phase bar ph) 0 elect))
    (λ moves. or_true (eqb (growth_phase bar ph) 0) (eqb (growth_phase bar ph) 2) (eq-eqb (growth_phase bar ph) 2 moves)) named
  where
    or_true : (a b : Bool) → b ≡ true → (a || b) ≡ true
    or_true true b e = refl
    or_true false b e = e

hashes_there : (p : GrowthPhases) (v : WaitView HashView) → AreAt p v.attached → moves_rows 1 (Some p.batches) ≡ true → moves_rows 2 (Some p.buckets) ≡ true → Hashing (party_of v)
hashes_there p v at one two = (
  build_there p v.attached at,
  ap (λ o. moves_rows 1 o && moves_rows 2 (phase_of v.attached 2)) (phase_there Batches p v.attached at)
      ∙ (ap (λ o. moves_rows 1 (Some p.batches) && moves_rows 2 o) (phase_there Buckets p v.attached at) ∙ (ap (λ b. b && moves_rows 2 (Some p.buckets)) one ∙ two)),
)

pub hashes_at_elect : (p : GrowthPhases) (v : WaitView HashView) → AreAt p v.attached → AreElecting p → Hashing (party_of v)
hashes_at_elect p v at elect = hashes_there p v at (moves_named 1 p.batches (inl elect.0)) (moves_named 2 p.buckets (inl elect.1))

pub hashes_moving : (growth : Growth) (p : GrowthPhases) (v : WaitView HashView) → AreAt p v.attached → IsMoving growth p → MayMove growth p → Hashing (party_of v)
hashes_moving Batches p v at moves may = hashes_there p v at (moves_named 1 p.batches (inr moves)) (moves_named 2 p.buckets may)
hashes_moving Buckets p v at moves may = hashes_there p v at (moves_named 1 p.batches may) (moves_named 2 p.buckets (inr moves))

-- a phase after ELECT isn't the last one
pub before_last : (growth : Growth) (p : GrowthPhases) → phase_at growth p ≤ last_of growth → 1 ≤ growth_phase (bar_of growth) (phase_at growth p) → phase_at growth p < last_of growth
before_last Batches p most named = let n : 1 ≤ p.batches % 5 = named in omega arith
before_last Buckets p most named = let n : 1 ≤ p.buckets % 3 = named in omega arith

-- the worker may arrive at a growth's barrier
pub may_arrive : (j : Join) (growth : Growth) (p : GrowthPhases) (v : WaitView HashView) → AreAt p v.attached → v.client.hand ≡ [] → phase_at growth p < last_of growth → QuietAtGrowth j (party_of v) (bar_of growth) (phase_at growth p)
    → (x : ℕ) × (phase_of v.attached (bar_of growth) ≡ Some x) × Quiet j (party_of v) (bar_of growth) x × Passes (bar_of growth) x
may_arrive j Batches p v at hand less quiet = (p.batches, phase_there Batches p v.attached at, (hand, quiet), less)
may_arrive j Buckets p v at hand less quiet = (p.buckets, phase_there Buckets p v.attached at, (hand, quiet), less)

-- and may leave it at ELECT
pub may_leave : (j : Join) (growth : Growth) (p : GrowthPhases) (v : WaitView HashView) → phase_of v.attached (bar_of growth) ≡ Some (phase_at growth p) → v.client.hand ≡ [] → IsElecting growth p
    → (x : ℕ) × (phase_of v.attached (bar_of growth) ≡ Some x) × Quiet j (party_of v) (bar_of growth) x × (Stays (bar_of growth) x → ⊥)
may_leave j Batches p v there hand elect = (p.batches, there, (hand, λ moves. absurd (omega arith)), λ stays. let n : p.batches % 5 ≡ 0 = elect in omega arith)
may_leave j Buckets p v there hand elect = (p.buckets, there, (hand, λ moves. absurd (omega arith)), λ stays. let n : p.buckets % 3 ≡ 0 = elect in omega arith)

pub left_batches : (p : GrowthPhases) (l : List (ℕ × ℕ)) → AreAt p l → away_from 1 l ≡ (2, p.buckets) ∷ (0, HASH_INNER) ∷ []
left_batches p l at = ⊎_elim (λ is. ap (away_from 1) is) (λ is. ap (away_from 1) is) at

-- from FREE on a worker has nothing left to do at the build
pub quiet_free : (j : Join) (v : View) (ph : ℕ) → FREE ≤ ph → QuietAtBuild j v ph
quiet_free j v zero free = absurd (omega arith)
quiet_free j v (suc zero) free = absurd (omega arith)
quiet_free j v (suc (suc zero)) free = absurd (omega arith)
quiet_free j v (suc (suc (suc zero))) free = absurd (omega arith)
quiet_free j v (suc (suc (suc (suc zero)))) free = absurd (omega arith)
quiet_free j v (suc (suc (suc (suc (suc ph))))) free = tt

-- a phase passed
there_passed : (growth : Growth) (p : GrowthPhases) (l : List (ℕ × ℕ)) → AreAt p l → AreAt (passed growth p) (at_phase (bar_of growth) (phase_at growth p + 1) l)
there_passed Batches p l at = ⊎_elim (λ is. inr (ap (at_phase 1 (p.batches + 1)) is)) (λ is. inr (ap (at_phase 1 (p.batches + 1)) is)) at
there_passed Buckets p l at = ⊎_elim (λ is. inl (ap (at_phase 2 (p.buckets + 1)) is)) (λ is. inl (ap (at_phase 2 (p.buckets + 1)) is)) at

passed_ends : (growth other : Growth) (p : GrowthPhases) → phase_at growth p < last_of growth → ((g : Growth) → phase_at g p ≤ last_of g) → phase_at other (passed growth p) ≤ last_of other
passed_ends Batches Batches p less ends = omega arith
passed_ends Batches Buckets p less ends = ends Buckets
passed_ends Buckets Batches p less ends = ends Batches
passed_ends Buckets Buckets p less ends = omega arith

passed_more : (growth other : Growth) (p : GrowthPhases) → phase_at other p ≤ phase_at other (passed growth p)
passed_more Batches Batches p = omega arith
passed_more Batches Buckets p = omega arith
passed_more Buckets Batches p = omega arith
passed_more Buckets Buckets p = omega arith

pub passed_by_one : (growth : Growth) (p : GrowthPhases) → phase_at growth (passed growth p) ≡ phase_at growth p + 1
passed_by_one Batches p = refl
passed_by_one Buckets p = refl

pub growing_passed : (t : JoinTables) (v w : JoinSeats) (growth : Growth) (p : GrowthPhases) (bar : ℕ) (elected : Bool) → IsGrowing t v p → phase_at growth p < last_of growth → bar ≡ bar_of growth → IsAt t w → w.lock ≡ v.lock
    → Arrived bar elected v.wait.view w.wait.view → IsGrowing t w (passed growth p)
growing_passed t v w growth p bar elected g less is at lock a =
    let there = phase_there growth p v.wait.view.attached g.attached in
    let known : phase_of v.wait.view.attached (bar_of growth) ≡ Some a.phase = subst (λ (b : ℕ). phase_of v.wait.view.attached b ≡ Some a.phase) is a.known in
    let same : a.phase ≡ phase_at growth p = same_Some a.phase (phase_at growth p) (sym known ∙ there) in
    let attached : w.wait.view.attached ≡ at_phase (bar_of growth) (phase_at growth p + 1) v.wait.view.attached =
    ap (λ (y : WaitView HashView). y.attached) a.view ∙ (λ i. at_phase (is i) (same i + 1) v.wait.view.attached) in
    let client : w.wait.view.client ≡ v.wait.view.client = ap (λ (y : WaitView HashView). y.client) a.view in
    record {
      at = at;
      idle = (ap (λ (y : WaitView HashView). y.place) a.view, ap (λ (y : WaitView HashView). y.target) a.view);
      free = subst (λ l. IsFree l.view) (sym lock) g.free;
      attached = subst (AreAt (passed growth p)) (sym attached) (there_passed growth p v.wait.view.attached g.attached);
      hand = ap (λ (c : HashView). c.hand) client ∙ g.hand;
      ends = λ other. passed_ends growth other p less g.ends;
      stored = λ other later e. let before = g.stored other later (subst (λ (c : HashView). Elected c.stored (bar_of other) later) client e) in let more = passed_more growth other p in omega arith;
    }

-- what was done for a growth, one thing after another
pub grows_on : (u v w : JoinSeats) → Grows u v → Grows v w → Grows u w
grows_on u v w a b = record {
  only = hashes_on u.wait.view.client v.wait.view.client w.wait.view.client a.only b.only;
  claims = claims_none u.wait.view.client v.wait.view.client w.wait.view.client a.claims b.claims;
  ended = b.ended ∙ a.ended;
  grants = let one = a.grants in let two = b.grants in omega arith;
  holds = λ none. b.holds (a.holds none);
  numbers = (
    record { own = b.numbers.0.own ∙ a.numbers.0.own; pending = b.numbers.0.pending ∙ a.numbers.0.pending; taken = b.numbers.0.taken ∙ a.numbers.0.taken; drawn = b.numbers.0.drawn ∙ a.numbers.0.drawn },
    record { own = b.numbers.1.own ∙ a.numbers.1.own; pending = b.numbers.1.pending ∙ a.numbers.1.pending; taken = b.numbers.1.taken ∙ a.numbers.1.taken; drawn = b.numbers.1.drawn ∙ a.numbers.1.drawn },
  );
  signal = b.signal ∙ a.signal;
}

-- a worker attached to both barriers and read the sizes
pub growing_first : (t : JoinTables) (w : JoinSeats) (p : GrowthPhases) (one two : ℕ) → one ≡ 1 → two ≡ 2 → IsAt t w → (w.wait.view.place ≡ []) × (w.wait.view.target ≡ None) → IsFree w.lock.view
    → w.wait.view.attached ≡ (two, p.buckets) ∷ (one, p.batches) ∷ (0, HASH_INNER) ∷ [] → w.wait.view.client.hand ≡ []
    → ((ph : ℕ) → (phase_of w.wait.view.attached 1 ≡ Some ph → ph ≤ 1000000) × (phase_of w.wait.view.attached 2 ≡ Some ph → ph ≤ 999999))
    → ((bar ph later : ℕ) → phase_of w.wait.view.attached bar ≡ Some ph → Elected w.wait.view.client.stored bar later → later ≤ ph) → IsGrowing t w p
growing_first t w p one two one_is two_is at idle free attached hand ends stored =
    let there : AreAt p w.wait.view.attached = inl (attached ∙ (λ i. (two_is i, p.buckets) ∷ (one_is i, p.batches) ∷ (0, HASH_INNER) ∷ [])) in
    record {
      at = at;
      idle = idle;
      free = free;
      attached = there;
      hand = hand;
      ends = λ growth. ends_of growth there;
      stored = λ growth later. stored (bar_of growth) (phase_at growth p) later (phase_there growth p w.wait.view.attached there);
    }
  where
    ends_of : (growth : Growth) → AreAt p w.wait.view.attached → phase_at growth p ≤ last_of growth
    ends_of Batches there = (ends p.batches).0 (phase_there Batches p w.wait.view.attached there)
    ends_of Buckets there = (ends p.buckets).1 (phase_there Buckets p w.wait.view.attached there)

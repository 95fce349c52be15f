-- How a worker takes part in a growth.
use Rattle.std.specs.Prelude.{◌≡◌, ◌⊎◌, ℕ, ◌+◌, ◌≤◌, [], ◌∷◌, List, None}
use Rattle.wait_core.specs.declared.view.WaitView.{WaitView}
use Rattle.wait_core.specs.Parties.{Elected, phase_of}
use Rattle.wait_core.specs.Seating.{client_moved}
use Rattle.join_law.specs.declared.view.HashView.{HashView}
use Rattle.join_law.specs.Layout.{Join, SizesOf}
use Rattle.join_law.specs.Machine.{Grown, swept_at}
use Rattle.join_law.specs.Phases.{batch_growth, bucket_growth, build, growth_phase, last_batch_growth, last_bucket_growth, HASH_INNER, REINSERT, With}
use Rattle.join_law.specs.Views.{View}
use Rattle.join_party.specs.declared.tables.JoinSeats.{JoinSeats}
use Rattle.join_party.specs.declared.tables.JoinTables.{JoinTables}
use Rattle.join_party.specs.Workers.{IsAt}
use Rattle.shared_tuples.specs.declared.sizes.Growth.{Growth}
use Rattle.shared_tuples.specs.declared.sizes.Growth.TheVariants.{Batches, Buckets}
use Rattle.shared_tuples.specs.declared.sizes.Sizes.{Sizes}
use Rattle.shared_tuples.specs.Growing.{bar_of}
use Rattle.shared_tuples.specs.Tuples.{AreSizes}
use Rattle.hash_build.specs.declared.growths.GrowthPhases.{GrowthPhases}
use Rattle.hash_build.specs.Hashing.{ClaimsNone, HashesOnly, HoldsNoMore, IsFree, SameNumbers, SameWaitNumbers}

-- attached to both growth barriers in these phases, at whichever it arrived last first, and to the build in HASH_INNER
abbrev pub AreAt : GrowthPhases → List (ℕ × ℕ) → Type 0
AreAt p attached = (attached ≡ (bucket_growth, p.buckets) ∷ (batch_growth, p.batches) ∷ (build, HASH_INNER) ∷ [])
    ⊎ (attached ≡ (batch_growth, p.batches) ∷ (bucket_growth, p.buckets) ∷ (build, HASH_INNER) ∷ [])

-- the phase at a growth's barrier, and the phases once that has passed
abbrev pub phase_at : Growth → GrowthPhases → ℕ
phase_at Batches p = p.batches
phase_at Buckets p = p.buckets

abbrev pub passed : Growth → GrowthPhases → GrowthPhases
passed Batches p = record p { batches = p.batches + 1 }
passed Buckets p = record p { buckets = p.buckets + 1 }

-- the other growth
abbrev pub other_than : Growth → Growth
other_than Batches = Buckets
other_than Buckets = Batches

-- the ELECT phase in which nobody takes part any more
abbrev pub last_of : Growth → ℕ
last_of Batches = last_batch_growth
last_of Buckets = last_bucket_growth

-- a growth is at ELECT, and moves rows
abbrev pub IsElecting : Growth → GrowthPhases → Type 0
IsElecting growth p = growth_phase (bar_of growth) (phase_at growth p) ≡ 0

abbrev pub IsMoving : Growth → GrowthPhases → Type 0
IsMoving growth p = growth_phase (bar_of growth) (phase_at growth p) ≡ REINSERT

-- A worker that hashes inner rows, between two of them: in no call, attached to both growth barriers, with no row in hand. No phase is past the last one, and it stored sizes in none that is to come
pub record IsGrowing (t : JoinTables) (s : JoinSeats) (p : GrowthPhases) : Type 0 where
  pub at : IsAt t s
  pub idle : (s.wait.view.place ≡ []) × (s.wait.view.target ≡ None)
  pub free : IsFree s.lock.view
  pub attached : AreAt p s.wait.view.attached
  pub hand : s.wait.view.client.hand ≡ []
  pub ends : (growth : Growth) → phase_at growth p ≤ last_of growth
  pub stored : (growth : Growth) (later : ℕ) → Elected s.wait.view.client.stored (bar_of growth) later → later ≤ phase_at growth p

-- It did nothing but for a growth: it claimed nothing, and has its numbers. The lock may have been granted to it
pub record Grows (v w : JoinSeats) : Type 0 where
  pub only : HashesOnly v.wait.view.client w.wait.view.client
  pub claims : ClaimsNone v.wait.view.client w.wait.view.client
  pub ended : w.wait.view.client.inner_ended ≡ v.wait.view.client.inner_ended
  pub grants : v.lock.view.grants ≤ w.lock.view.grants
  pub holds : HoldsNoMore v.lock.view w.lock.view
  pub numbers : SameNumbers v.lock.view w.lock.view × SameWaitNumbers v.wait.view w.wait.view
  pub signal : w.signal ≡ v.signal

-- rows may be moved for a growth: the other one is at ELECT, or moves rows as well
abbrev pub MayMove : Growth → GrowthPhases → Type 0
MayMove growth p = IsElecting (other_than growth) p ⊎ IsMoving (other_than growth) p

-- both are at ELECT
abbrev pub AreElecting : GrowthPhases → Type 0
AreElecting p = IsElecting Batches p × IsElecting Buckets p

-- the other growth's phase is the same
abbrev pub SameOther : Growth → GrowthPhases → GrowthPhases → Type 0
SameOther growth p q = phase_at (other_than growth) q ≡ phase_at (other_than growth) p

-- all heads of the old half before this turn were seen at their end
abbrev pub SweptTo : Growth → ℕ → View → Type 0
SweptTo growth turn v = With (phase_of v.attached (bar_of growth)) (λ ph. turn ≤ swept_at v.client.swept (bar_of growth) ph)

-- rows were moved: none is left in hand, and the seat knows and did the same for the rest
pub record MovesRows (v w : WaitView HashView) : Type 0 where
  pub view : w ≡ client_moved v w.client
  pub hand : w.client.hand ≡ []
  pub only : HashesOnly v.client w.client
  pub claims : ClaimsNone v.client w.client
  pub ended : w.client.inner_ended ≡ v.client.inner_ended
  pub sizes : (w.client.known ≡ v.client.known) × (w.client.stored ≡ v.client.stored)

-- a growth may bring these sizes, after those
abbrev pub MayGrow : Join → Growth → Sizes → Sizes → Type 0
MayGrow j growth sizes grown = (z w : SizesOf) → AreSizes sizes z → AreSizes grown w → Grown j (bar_of growth) z w

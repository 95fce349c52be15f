-- How a worker's seats are after the build.
use Rattle.std.specs.Prelude.{◌≡◌, ℕ, Bool, true, [], ◌∷◌, None}
use Rattle.wait_core.specs.Parties.{Elected}
use Rattle.join_law.specs.Layout.{Join, sizes_of}
use Rattle.join_law.specs.Phases.{build, RUN}
use Rattle.join_law.specs.Stands.{SizesFit}
use Rattle.join_party.specs.declared.tables.JoinSeats.{JoinSeats}
use Rattle.hash_build.specs.declared.Built.{Built}
use Rattle.hash_build.specs.declared.Built.TheVariants.{Late, Ready}
use Rattle.hash_build.specs.Hashing.{IsFree, Reached, SameWaitNumbers, for_good, with_late}

-- a worker that begins is in no call and has no lock, waits for no condition, is attached to nothing, and has no row in hand
pub record Begins (s : JoinSeats) : Type 0 where
  pub idle : (s.wait.view.place ≡ []) × (s.wait.view.target ≡ None)
  pub free : IsFree s.lock.view
  pub away : s.wait.view.attached ≡ []
  pub hand : s.wait.view.client.hand ≡ []

-- It found the build at FREE, which its view says, and is attached to nothing. Nothing else was done
pub record FoundDone (v w : JoinSeats) (looks_before looks_after : ℕ) : Type 0 where
  pub idle : (w.wait.view.place ≡ []) × (w.wait.view.target ≡ None)
  pub away : w.wait.view.attached ≡ []
  pub late : w.wait.view.client ≡ with_late v.wait.view.client
  pub numbers : SameWaitNumbers v.wait.view w.wait.view
  pub others : (w.lock ≡ v.lock) × (w.signal ≡ v.signal)
  pub looks : looks_after ≡ looks_before

-- it is attached to the build in RUN, and knows the sizes in force for good. If it says that it is elected, it is for RUN
pub record HasBuilt (j : Join) (v w : JoinSeats) (buckets batches : ℕ) (elected : Bool) (looks_before looks_after : ℕ) : Type 0 where
  pub idle : (w.wait.view.place ≡ []) × (w.wait.view.target ≡ None)
  pub attached : w.wait.view.attached ≡ (build, RUN) ∷ []
  pub word : ℕ
  pub known : w.wait.view.client.known ≡ for_good word
  pub sizes : ((sizes_of word).buckets ≡ buckets) × ((sizes_of word).batches ≡ batches)
  pub fit : SizesFit j (sizes_of word)
  pub elected_so : elected ≡ true → Elected w.wait.view.elections build RUN
  pub reached : Reached v w looks_before looks_after

abbrev pub Builds : Join → Built → JoinSeats → JoinSeats → ℕ → ℕ → Type 0
Builds j Late v w before after = FoundDone v w before after
Builds j (Ready buckets batches elected) v w before after = HasBuilt j v w buckets batches elected before after

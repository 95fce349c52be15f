-- What a worker knows while it hashes rows, and what stays as it was.
use Rattle.std.specs.Prelude.{◌≡◌, ◌⊎◌, ℕ, ◌+◌, ◌<◌, ◌≤◌, true, [], Option, Some, None}
use Rattle.row_model.specs.declared.Route.{Route}
use Rattle.row_model.specs.declared.Side.{Side}
use Rattle.row_model.specs.declared.Side.TheVariants.{Inner, Outer}
use Rattle.lw_core.specs.declared.view.View as lock
use Rattle.lw_core.specs.Machine.{HoldsNothing, mode_in}
use Rattle.wait_core.specs.declared.view.WaitView.{WaitView}
use Rattle.join_law.specs.declared.view.HashView.{HashView}
use Rattle.join_law.specs.declared.view.Known.{Known}
use Rattle.join_law.specs.Layout.{Join, sizes_of, rows}
use Rattle.join_law.specs.Phases.{batch_growth, bucket_growth, build, known_word, settled, HASH_OUTER}
use Rattle.join_law.specs.Machine.{At}
use Rattle.join_law.specs.Stands.{SizesFit}
use Rattle.join_law.specs.Views.{View}
use Rattle.join_party.specs.declared.tables.JoinSeats.{JoinSeats}
use Rattle.shared_tuples.specs.declared.sizes.Sizes.{Sizes}
use Rattle.shared_tuples.specs.Tuples.{AreSizes, Hashing, IsReady, Leads, Routed}

-- these sizes are known for good
abbrev pub for_good : ℕ → Option Known
for_good w = Some (record { word = w; settled = true; batch_growth = 0; bucket_growth = 0 })

-- these sizes are known for good, and there is room for them
pub record KnowsForGood (j : Join) (known : Option Known) (sizes : Sizes) : Type 0 where
  pub word : ℕ
  pub is : known ≡ for_good word
  pub are : AreSizes sizes (sizes_of word)
  pub fit : SizesFit j (sizes_of word)

-- these are the sizes that the seat knows, and there is room for them
pub record KnowsThese (j : Join) (v : View) (sizes : Sizes) : Type 0 where
  pub word : ℕ
  pub is : known_word v ≡ Some word
  pub are : AreSizes sizes (sizes_of word)
  pub fit : SizesFit j (sizes_of word)

-- a seat may know the sizes that it reads: past HASH_INNER, or on both growth barriers
abbrev pub ReadsSizes : View → Type 0
ReadsSizes v = (settled v ≡ true) ⊎ ((batches buckets : ℕ) × (At v batch_growth batches) × (At v bucket_growth buckets))

-- rows of a side are hashed in a phase of the build, inner rows while no growth changes the sizes
abbrev pub HashesAt : View → Side → Type 0
HashesAt v Inner = Hashing v
HashesAt v Outer = At v build HASH_OUTER

-- a row of the side that is there
abbrev pub IsRow : Join → Side → ℕ → Type 0
IsRow j Inner row = row < j.inner
IsRow j Outer row = (j.inner ≤ row) × (row < rows j)

-- a row in hand, with its hash stored, by the route of its hash, in the phase that hashes its side
pub record MayPlace (j : Join) (v : View) (side : Side) (route : Route) (row : ℕ) : Type 0 where
  pub phase : HashesAt v side
  pub ready : IsReady v row
  pub of_side : IsRow j side row
  pub few : route.batch < 64
  pub leads : Routed j v row (λ z x. Leads z x route)

-- hashing changes the rows in hand and set aside, what was seen of the cursors and claimed, the sizes that are known, and what was done for a growth
pub record HashesOnly (v w : HashView) : Type 0 where
  pub given : w.given ≡ v.given
  pub probed : w.probed ≡ v.probed
  pub emptied : w.emptied ≡ v.emptied
  pub drained : w.drained ≡ v.drained
  pub done : w.done ≡ v.done
  pub late : w.late ≡ v.late

-- nothing was claimed
pub record ClaimsNone (v w : HashView) : Type 0 where
  pub chunks : w.chunks ≡ v.chunks
  pub claimed : w.claimed ≡ v.claimed

-- what is known of the sizes, and was done for a growth, is the same
pub record KeepsSizes (v w : HashView) : Type 0 where
  pub known : w.known ≡ v.known
  pub stored : w.stored ≡ v.stored
  pub swept : w.swept ≡ v.swept

-- the seat at the lock is in no call, and doesn't hold the lock
abbrev pub IsFree : lock.View → Type 0
IsFree v = (v.place ≡ []) × (mode_in 0 v ≡ None)

-- it holds no lock that it didn't hold
abbrev pub HoldsNoMore : lock.View → lock.View → Type 0
HoldsNoMore v w = HoldsNothing v → HoldsNothing w

-- the numbers of a seat, and the numbers drawn and taken over for others, are the same
pub record SameNumbers (v w : lock.View) : Type 0 where
  pub own : w.own ≡ v.own
  pub pending : w.pending ≡ v.pending
  pub taken : w.taken ≡ v.taken
  pub drawn : w.drawn ≡ v.drawn

pub record SameWaitNumbers (v w : WaitView HashView) : Type 0 where
  pub own : w.own ≡ v.own
  pub pending : w.pending ≡ v.pending
  pub taken : w.taken ≡ v.taken
  pub drawn : w.drawn ≡ v.drawn

-- How far a worker came: it has no row in hand, for each chunk of inner rows that it claimed the lock was granted to it at least once, and each row that it claimed was looked at once
pub record Reached (v w : JoinSeats) (looks_before looks_after : ℕ) : Type 0 where
  pub hand : w.wait.view.client.hand ≡ []
  pub only : HashesOnly v.wait.view.client w.wait.view.client
  pub free : IsFree w.lock.view
  pub holds : HoldsNoMore v.lock.view w.lock.view
  pub numbers : SameNumbers v.lock.view w.lock.view × SameWaitNumbers v.wait.view w.wait.view
  pub signal : w.signal ≡ v.signal
  pub reports : v.lock.view.grants + w.wait.view.client.chunks ≤ w.lock.view.grants + v.wait.view.client.chunks
  pub looks : looks_after + v.wait.view.client.claimed ≡ looks_before + w.wait.view.client.claimed

-- sizes were read
abbrev pub with_known : HashView → Option Known → HashView
with_known v k = record v { known = k }

-- the join was found at its end
abbrev pub with_late : HashView → HashView
with_late v = record v { late = true }

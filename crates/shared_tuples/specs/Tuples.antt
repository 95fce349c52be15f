-- When a seat may put, insert and take out a row, and what it knows then.
use Rattle.std.specs.Prelude.{◌≡◌, ◌⊎◌, ℕ, ◌<◌, ◌≤◌, ◌∷◌, true, None, Some, ⊤}
use Rattle.row_model.specs.declared.Route.{Route}
use Rattle.row_model.specs.declared.Side.{Side}
use Rattle.row_model.specs.declared.Side.TheVariants.{Inner, Outer}
use Rattle.join_law.specs.declared.view.HashView.{HashView}
use Rattle.join_law.specs.Layout.{Join, SizesOf}
use Rattle.join_law.specs.Routes.{bucket_of, batch_of}
use Rattle.join_law.specs.Phases.{With, WithSizes, growth_place, build, batch_bar, HASH_INNER, HASH_OUTER, RUN, LOAD, PROBE}
use Rattle.join_law.specs.Machine.{At, InHand}
use Rattle.join_law.specs.Views.{View}
use Rattle.shared_tuples.specs.declared.sizes.Sizes.{Sizes}

-- a row of the side
abbrev pub IsOf : Join → Side → ℕ → Type 0
IsOf j Inner row = row < j.inner
IsOf j Outer row = j.inner ≤ row

-- the row has a key, and this holds of the sizes that the seat knows and of the key's hash
abbrev pub Routed : Join → View → ℕ → (SizesOf → ℕ → Type 0) → Type 0
Routed j v row P = With (j.hash row) (λ x. WithSizes v (λ z. P z x))

-- the row is in hand, and its hash word is stored
abbrev pub IsReady : View → ℕ → Type 0
IsReady v row = InHand v row × (v.client.hashed ≡ Some row)

-- the seat knows the sizes, and they are in force: while no growth changes them, or past HASH_INNER
abbrev pub KnowsSizes : View → Type 0
KnowsSizes v = WithSizes v (λ z. ⊤) × ((growth_place v ≡ true) ⊎ ((phase : ℕ) × (At v build phase) × (HASH_OUTER ≤ phase)))

-- inner rows may be put while they are hashed and no growth changes the sizes
abbrev pub Hashing : View → Type 0
Hashing v = (At v build HASH_INNER) × (growth_place v ≡ true)

-- rows go into the inner stores in HASH_INNER, but for batch 0, whose rows go into chains; into the outer stores in HASH_OUTER
abbrev pub FillsStore : View → Side → ℕ → Type 0
FillsStore v Inner batch = Hashing v × (1 ≤ batch)
FillsStore v Outer batch = At v build HASH_OUTER

pub record MayPut (j : Join) (v : View) (side : Side) (batch row : ℕ) : Type 0 where
  pub ready : IsReady v row
  pub of_side : IsOf j side row
  pub few : batch < 64
  pub fills : FillsStore v side batch
  pub route : Routed j v row (λ z x. batch_of z x ≡ batch)

-- rows of batch 0 go into chains in HASH_INNER, those of each batch in its LOAD
abbrev pub FillsChain : View → ℕ → Type 0
FillsChain v batch = (Hashing v × (batch ≡ 0)) ⊎ ((At v build RUN) × (At v (batch_bar batch) LOAD))

-- the route of a hash, and of some hash
abbrev pub Leads : SizesOf → ℕ → Route → Type 0
Leads z x route = (bucket_of z x ≡ route.bucket) × (batch_of z x ≡ route.batch)

abbrev pub IsRoute : SizesOf → Route → Type 0
IsRoute z route = (x : ℕ) × Leads z x route

pub record MayInsert (j : Join) (v : View) (route : Route) (row : ℕ) : Type 0 where
  pub ready : IsReady v row
  pub inner : IsOf j Inner row
  pub fills : FillsChain v route.batch
  pub leads : Routed j v row (λ z x. Leads z x route)

-- inner stores are emptied in LOAD, outer stores in PROBE
abbrev pub EmptiesIn : Side → ℕ
EmptiesIn Inner = LOAD
EmptiesIn Outer = PROBE

pub record MayTakeOut (v : View) (side : Side) (batch : ℕ) : Type 0 where
  pub few : batch < 64
  pub running : At v build RUN
  pub empties : At v (batch_bar batch) (EmptiesIn side)
  pub known : WithSizes v (λ z. ⊤)

-- the row is one of the store
abbrev pub IsRowOf : Join → View → Side → ℕ → ℕ → Type 0
IsRowOf j v side batch row = IsOf j side row × Routed j v row (λ z x. batch_of z x ≡ batch)

-- the store was seen at its end
abbrev pub found_empty : Side → ℕ → HashView → HashView
found_empty Inner batch v = record v { emptied = batch ∷ v.emptied; taking = None }
found_empty Outer batch v = record v { drained = batch ∷ v.drained; taking = None }

-- sizes as the code has them
abbrev pub AreSizes : Sizes → SizesOf → Type 0
AreSizes s z = (s.half ≡ z.half) × (s.buckets ≡ z.buckets) × (s.batches ≡ z.batches)

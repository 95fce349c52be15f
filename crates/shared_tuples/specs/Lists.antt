-- When a seat may put a row in front of a list, and take the first of one, by the head.
use Rattle.std.specs.Prelude.{◌≡◌, ℕ, ◌+◌, ◌*◌, ◌<◌, ⊤}
use Rattle.row_model.specs.declared.Route.{Route}
use Rattle.row_model.specs.declared.Side.{Side}
use Rattle.row_model.specs.declared.Side.TheVariants.{Inner, Outer}
use Rattle.join_law.specs.declared.step.Source.{Source}
use Rattle.join_law.specs.declared.step.Source.TheVariants as from
use Rattle.join_law.specs.Layout.{Join, SizesOf, heads, chain_no, store_no, outer_no}
use Rattle.join_law.specs.Phases.{WithSizes}
use Rattle.join_law.specs.Machine.{MayPush, MayTake, source_head, source_phase}
use Rattle.join_law.specs.Views.{View}
use Rattle.shared_tuples.specs.declared.sizes.Growth.{Growth}
use Rattle.shared_tuples.specs.Growing.{bar_of}
use Rattle.shared_tuples.specs.Tuples.{IsReady, Routed, IsRowOf}

-- the head of a route's chain, and of the store of a side and a batch
abbrev pub chain_head : Join → SizesOf → Route → ℕ
chain_head j z route = chain_no j z.half (route.batch * z.buckets + route.bucket)

abbrev pub store_head : Join → SizesOf → Side → ℕ → ℕ
store_head j z Inner batch = store_no j z.half batch
store_head j z Outer batch = outer_no j batch

pub record MayPushTo (j : Join) (v : View) (head row : ℕ) : Type 0 where
  pub inside : head < heads j
  pub ready : IsReady v row
  pub route : Routed j v row (λ z x. MayPush j v row head z x)

pub record MayTakeFrom (j : Join) (v : View) (source : Source) : Type 0 where
  pub inside : source_head j source < heads j
  pub known : WithSizes v (λ z. ⊤)
  pub may : MayTake j v source (source_phase v source)

-- the source is the store of the side and the batch
abbrev pub IsStore : Source → Side → ℕ → Type 0
IsStore (from.Inner half b) side batch = (side ≡ Inner) × (b ≡ batch)
IsStore (from.Outer b) side batch = (side ≡ Outer) × (b ≡ batch)
IsStore (from.Old bar turn head) side batch = ⊥

-- the source is that head of the old half
abbrev pub IsOld : Source → Growth → ℕ → Type 0
IsOld (from.Inner half b) growth turn = ⊥
IsOld (from.Outer b) growth turn = ⊥
IsOld (from.Old bar t head) growth turn = (bar ≡ bar_of growth) × (t ≡ turn)

-- the row came from there: of a batch's store it is a row of its side and of the batch
abbrev pub IsFrom : Join → View → Source → ℕ → Type 0
IsFrom j v (from.Inner half batch) row = IsRowOf j v Inner batch row
IsFrom j v (from.Outer batch) row = IsRowOf j v Outer batch row
IsFrom j v (from.Old bar turn head) row = row < j.inner

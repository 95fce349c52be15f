-- How the sizes grow, and when a seat may take a row out of the half that a growth leaves.
use Rattle.std.specs.Prelude.{◌≡◌, ℕ, ◌-◌, ◌*◌, ◌<◌, ◌==◌, cond, None}
use Rattle.join_law.specs.declared.view.HashView.{HashView}
use Rattle.join_law.specs.Layout.{Join}
use Rattle.join_law.specs.Machine.{At, swept_more}
use Rattle.join_law.specs.Phases.{WithSizes, batch_growth, bucket_growth, growth_phase, REINSERT}
use Rattle.join_law.specs.Routes.{before_growth, old_heads}
use Rattle.join_law.specs.Views.{View}
use Rattle.shared_tuples.specs.Tuples.{Hashing}
use Rattle.wait_core.specs.Parties.{phase_of}
use Rattle.shared_tuples.specs.declared.sizes.Growth.{Growth}
use Rattle.shared_tuples.specs.declared.sizes.Growth.TheVariants.{Batches, Buckets}
use Rattle.shared_tuples.specs.declared.sizes.Sizes.{Sizes}

-- the sizes that a growth brings, in the other half
abbrev pub grown_sizes : Sizes → Growth → ℕ → Sizes
grown_sizes s Batches first = record { half = 1 - s.half; buckets = s.buckets; batches = cond (s.batches == 1) first (2 * s.batches) }
grown_sizes s Buckets first = record { half = 1 - s.half; buckets = 2 * s.buckets; batches = s.batches }

-- the barrier of a growth
abbrev pub bar_of : Growth → ℕ
bar_of Batches = batch_growth
bar_of Buckets = bucket_growth

-- rows of the old half may be taken while they move, from each of its heads that may hold one
pub record MayTakeOld (j : Join) (v : View) (growth : Growth) (turn : ℕ) : Type 0 where
  pub phase : ℕ
  pub on : At v (bar_of growth) phase
  pub moves : growth_phase (bar_of growth) phase ≡ REINSERT
  pub hashing : Hashing v
  pub turns : WithSizes v (λ z. turn < old_heads (before_growth j (bar_of growth) z))

-- that head was seen at its end
abbrev pub found_swept : Growth → ℕ → View → HashView
found_swept growth turn v = record (v.client) { taking = None; swept = swept_more (phase_of v.attached (bar_of growth)) v.client.swept (bar_of growth) turn }

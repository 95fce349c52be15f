-- The heads of the half that a growth leaves.
use Rattle.std.proofs.Common.{◌≡◌, ℕ, ◌+◌, ◌-◌, ◌*◌, ◌<◌, ◌≤◌, Bool, cond, refl, sym, ap, ◌∙◌, subst, arith, inl, inr, Some, mul-le-mul_left}
use Rattle.std.proofs.lemmas.Bool.{lt-ltb, le-ltb}
use Rattle.std.proofs.lemmas.Option.{same_Some}
use Rattle.wait_core.specs.Parties.{phase_of}
use Rattle.join_law.specs.declared.step.Source.TheVariants as from
use Rattle.join_law.specs.Layout.{Join, SizesOf, sizes_of, heads, chain_no, store_no}
use Rattle.join_law.specs.Machine.{or_zero}
use Rattle.join_law.specs.Phases.{IsGrowth, WithSizes, growth_phase, known_word, REINSERT}
use Rattle.join_law.specs.Routes.{before_growth, old_head, old_heads}
use Rattle.join_law.specs.Stands.{SizesFit}
use Rattle.join_law.specs.Views.{View}
use Rattle.join_law.proofs.Callers.{with_there}
use Rattle.join_law.proofs.Heads.{old_batches, old_buckets}
use Rattle.shared_tuples.specs.declared.sizes.Growth.{Growth}
use Rattle.shared_tuples.specs.declared.sizes.Growth.TheVariants.{Batches, Buckets}
use Rattle.shared_tuples.specs.declared.sizes.Sizes.{Sizes}
use Rattle.shared_tuples.specs.Growing.{MayTakeOld, bar_of}
use Rattle.shared_tuples.specs.Lists.{MayTakeFrom}
use Rattle.shared_tuples.specs.Tuples.{AreSizes}
use Rattle.shared_tuples.proofs.Tuples.{with_is}

pub is_growth : (growth : Growth) → IsGrowth (bar_of growth)
is_growth Batches = inl refl
is_growth Buckets = inr refl

module _ (j : Join) (v : View) (sizes old : Sizes) (growth : Growth) (turn first : ℕ) (read : WithSizes v (λ z. AreSizes sizes z × SizesFit j z))
    (before : (j : Join) (z : SizesOf) → j.first_batches ≡ first → AreSizes sizes z → AreSizes old (before_growth j (bar_of growth) z)) (same : j.first_batches ≡ first) (may : MayTakeOld j v growth turn) where
  pub known : (w : ℕ) × (known_word v ≡ Some w) × (AreSizes sizes (sizes_of w) × SizesFit j (sizes_of w))
  known = with_is (known_word v) _ read

  abbrev pub o : SizesOf
  o = before_growth j (bar_of growth) (sizes_of known.0)

  are : AreSizes old o
  are = before j (sizes_of known.0) same (known.2).0

  turns : turn < old_heads o
  turns =
      let t = with_is (known_word v) _ may.turns in
      subst (λ (w : ℕ). turn < old_heads (before_growth j (bar_of growth) (sizes_of w))) (same_Some t.0 known.0 (sym t.1 ∙ known.1)) t.2

  -- they aren't many, and the head of this turn is one of them
  pub few_old : (old.half ≤ 1) × (old.buckets ≤ 262144) × (old.batches ≤ 64) × (turn < old.buckets + old.batches - 1) × (old.buckets ≤ j.chains)
  few_old =
      let fit = (known.2).1 in
      let z : SizesOf = sizes_of known.0 in
      let buckets = old_buckets j (bar_of growth) z in
      let batches = old_batches j (bar_of growth) z fit.batches in
      let one : z.buckets * 1 ≤ z.buckets * z.batches = mul-le-mul_left z.buckets fit.batches in
      let room = fit.room in
      let few = fit.few in
      let most = fit.most in
      let half : old.half ≡ 1 - z.half = are.0 in
      let b : old.buckets ≡ o.buckets = are.1 in
      let n : old.batches ≡ o.batches = are.2 in
      let t : turn < o.buckets + o.batches - 1 = turns in
      let p : ℕ = z.buckets * z.batches in
      let one' : z.buckets ≤ p = omega (arith, one) in
      (omega arith, omega arith, omega arith, omega arith, omega arith)

  pub old_chain : turn < old.buckets → old.half * j.chains + (0 * old.buckets + turn) ≡ old_head j o turn
  old_chain low =
      let b : old.buckets ≡ o.buckets = are.1 in
      let turn_is : 0 * old.buckets + turn ≡ turn = omega arith in
      (λ i. are.0 i * j.chains + turn_is i) ∙ sym (ap (λ (b : Bool). cond b (chain_no j o.half turn) (store_no j o.half (turn - o.buckets + 1))) (lt-ltb turn o.buckets (omega arith)))

  pub old_store : old.buckets ≤ turn → 2 * j.chains + (old.half * 64 + (turn - old.buckets + 1)) ≡ old_head j o turn
  old_store past =
      let b : old.buckets ≡ o.buckets = are.1 in
      (λ i. 2 * j.chains + (are.0 i * 64 + (turn - are.1 i + 1))) ∙ sym (ap (λ (b : Bool). cond b (chain_no j o.half turn) (store_no j o.half (turn - o.buckets + 1))) (le-ltb turn o.buckets (omega arith)))

  pub may_take_old : (bar head : ℕ) → bar ≡ bar_of growth → head ≡ old_head j o turn → head < heads j → MayTakeFrom j v (from.Old bar turn head)
  may_take_old bar head is at inside = subst (λ (b : ℕ). MayTakeFrom j v (from.Old b turn head)) (sym is)
      (record {
        inside = inside;
        known = with_there (known_word v) _ known.0 known.1 tt;
        may = (
          subst (λ (ph : ℕ). phase_of v.attached (bar_of growth) ≡ Some ph) (sym phase) may.on,
          is_growth growth,
          subst (λ (ph : ℕ). growth_phase (bar_of growth) ph ≡ REINSERT) (sym phase) may.moves,
          may.hashing.1,
          may.hashing.0,
          with_there (known_word v) _ known.0 known.1 (turns, at),
        );
      })
    where
      phase : or_zero (phase_of v.attached (bar_of growth)) ≡ may.phase
      phase = ap or_zero may.on

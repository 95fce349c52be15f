-- How new sizes are stored.
use mathlib.Core.Option as maybe
use Rattle.std.proofs.Common.{List, ◌∷◌, Option, ◌≡◌, ℕ, zero, suc, ◌-◌, ◌*◌, ◌^◌, ◌≤◌, Bool, cond, refl, sym, ap, ◌∙◌, subst, arith, eqb, not, ◌&&◌, ⊎_elim, true, false}
use Rattle.std.proofs.lemmas.Bool.{cases_Bool, eqb-true, true≢false}
use Rattle.std.proofs.Math.Nat.{two-pow-succ}
use Rattle.std.specs.Int.{IsPowerOfTwo}
use Rattle.wait_core.specs.declared.view.WaitView.{WaitView}
use Rattle.wait_core.specs.Parties.{phase_of, Elected}
use Rattle.wait_core.specs.Seating.{client_moved, party_of}
use Rattle.join_law.specs.declared.view.HashView.{HashView}
use Rattle.join_law.specs.Layout.{Join, SizesOf, sizes_of}
use Rattle.join_law.specs.declared.step.HashStep.TheVariants.{StoreSizes}
use Rattle.join_law.specs.Machine.{MayStoreSizes, after, stored_more}
use Rattle.join_party.specs.declared.tables.JoinSeats.{JoinSeats}
use Rattle.join_party.specs.declared.tables.JoinTables.{JoinTables}
use Rattle.join_party.specs.Workers.{IsAt}
use Rattle.lw_core.specs.declared.seat.LwSeat.{LwSeat}
use Rattle.join_law.specs.Phases.{growth_phase, known_word, REALLOCATE}
use Rattle.join_law.specs.Routes.{before_growth}
use Rattle.join_law.specs.Stands.{SizesFit}
use Rattle.join_law.proofs.Callers.{with_there}
use Rattle.shared_tuples.specs.declared.sizes.Growth.{Growth}
use Rattle.shared_tuples.specs.declared.sizes.Growth.TheVariants.{Batches, Buckets}
use Rattle.shared_tuples.specs.declared.sizes.Sizes.{Sizes}
use Rattle.shared_tuples.specs.Growing.{bar_of, grown_sizes}
use Rattle.shared_tuples.specs.Tuples.{AreSizes}
use Rattle.shared_tuples.proofs.OldHeads.{is_growth}
use Rattle.hash_build.specs.declared.growths.GrowthPhases.{GrowthPhases}
use Rattle.hash_build.specs.Growths.{AreAt, IsElecting, IsGrowing, MayGrow, other_than, phase_at}
use Rattle.hash_build.specs.Hashing.{IsFree, KnowsThese}
use Rattle.hash_build.proofs.Passing.{phase_there}

-- twice a power of two is one
double_power : (n : ℕ) → IsPowerOfTwo n → IsPowerOfTwo (2 * n)
double_power n p = (suc p.0, let e : n ≡ 2 ^ p.0 = p.1 in omega (arith, two-pow-succ p.0))

-- the grown sizes are powers of two, of which there is one at least
grown_powers : (growth : Growth) (s : Sizes) (first : ℕ) → IsPowerOfTwo s.buckets → IsPowerOfTwo s.batches → IsPowerOfTwo first → 1 ≤ s.buckets → 1 ≤ s.batches → 2 ≤ first
    → (IsPowerOfTwo (grown_sizes s growth first).buckets × IsPowerOfTwo (grown_sizes s growth first).batches) × (1 ≤ (grown_sizes s growth first).buckets) × (1 ≤ (grown_sizes s growth first).batches)
grown_powers Buckets s first buckets batches one some there two = ((double_power s.buckets buckets, batches), omega arith, there)
grown_powers Batches s first buckets batches one some there two = ⊎_elim
    (λ (yes : eqb s.batches 1 ≡ true). let e : cond (eqb s.batches 1) first (2 * s.batches) ≡ first = ap (λ b. cond b first (2 * s.batches)) yes in ((buckets, subst IsPowerOfTwo (sym e) one), some, subst (λ n. 1 ≤ n) (sym e) (omega arith)))
    (λ (no : eqb s.batches 1 ≡ false). let e : cond (eqb s.batches 1) first (2 * s.batches) ≡ 2 * s.batches = ap (λ b. cond b first (2 * s.batches)) no in ((buckets, subst IsPowerOfTwo (sym e) (double_power s.batches batches)), some, subst (λ n. 1 ≤ n) (sym e) (omega arith)))
    (cases_Bool (eqb s.batches 1))

both_true : (a b : Bool) → (a && b) ≡ true → (a ≡ true) × (b ≡ true)
both_true true b e = (refl, e)
both_true false b e = absurd (true≢false (sym e))

-- sizes that agree in all three numbers
pub same_sizes : (a b : Sizes) → not (eqb a.half b.half && (eqb a.buckets b.buckets && eqb a.batches b.batches)) ≡ false → a ≡ b
same_sizes a b none =
    let all = both_true (eqb a.half b.half) (eqb a.buckets b.buckets && eqb a.batches b.batches) (not_false _ none) in
    let two = both_true (eqb a.buckets b.buckets) (eqb a.batches b.batches) all.1 in
    (λ i. record { half = eqb-true a.half b.half all.0 i; buckets = eqb-true a.buckets b.buckets two.0 i; batches = eqb-true a.batches b.batches two.1 i })
  where
    not_false : (x : Bool) → not x ≡ false → x ≡ true
    not_false true e = refl
    not_false false e = absurd (true≢false e)

pub other_half : (growth : Growth) (s : Sizes) (first : ℕ) → (grown_sizes s growth first).half ≡ 1 - s.half
other_half Batches s first = refl
other_half Buckets s first = refl

pub may_grow : (j : Join) (growth : Growth) (s old grown : Sizes) (first : ℕ) (fit : (z : SizesOf) × AreSizes s z × SizesFit j z) → grown ≡ grown_sizes s growth first → ((j : Join) (z : SizesOf) → j.first_batches ≡ first → AreSizes grown z → AreSizes old (before_growth j (bar_of growth) z))
    → j.first_batches ≡ first → old ≡ s → IsPowerOfTwo first → 2 ≤ first → grown.buckets ≤ 262144 → grown.batches ≤ 64 → grown.half ≤ 1 → grown.buckets * grown.batches ≤ j.chains → MayGrow j growth s grown
may_grow j growth s old grown first fit is before same back power two few most half room z w s_is g_is =
    let u : SizesOf = fit.0 in
    let f = fit.2 in
    let su = fit.1 in
    let buckets = subst IsPowerOfTwo (sym su.1) f.powers.0 in
    let batches = subst IsPowerOfTwo (sym su.2) f.powers.1 in
    let some : 1 ≤ s.buckets = subst (λ n. 1 ≤ n) (sym su.1) f.buckets in
    let there : 1 ≤ s.batches = subst (λ n. 1 ≤ n) (sym su.2) f.batches in
    let p = subst (λ (x : Sizes). (IsPowerOfTwo x.buckets × IsPowerOfTwo x.batches) × (1 ≤ x.buckets) × (1 ≤ x.batches)) (sym is) (grown_powers growth s first buckets batches power some there two) in
    let b = before j w same g_is in (
      (λ i. record { half = (sym b.0 ∙ (ap (λ (x : Sizes). x.half) back ∙ s_is.0)) i; buckets = (sym b.1 ∙ (ap (λ (x : Sizes). x.buckets) back ∙ s_is.1)) i; batches = (sym b.2 ∙ (ap (λ (x : Sizes). x.batches) back ∙ s_is.2)) i }),
      subst (λ n. 1 ≤ n) g_is.1 p.1,
      subst (λ n. 1 ≤ n) g_is.2 p.2,
      subst (λ n. n ≤ 64) g_is.2 most,
      subst (λ n. n ≤ 1) g_is.0 half,
      subst {A = ℕ × ℕ} (λ n. n.0 * n.1 ≤ j.chains) (λ i. (g_is.1 i, g_is.2 i)) room,
      subst (λ n. n ≤ 262144) g_is.1 few,
      subst IsPowerOfTwo g_is.1 p.0.0,
      subst IsPowerOfTwo g_is.2 p.0.1,
    )

-- the seat may store them
pub may_store : (j : Join) (growth : Growth) (p : GrowthPhases) (v : WaitView HashView) (s grown : Sizes) (word : ℕ) → AreAt p v.attached → growth_phase (bar_of growth) (phase_at growth p) ≡ REALLOCATE → Elected v.elections (bar_of growth) (phase_at growth p)
    → (Elected v.client.stored (bar_of growth) (phase_at growth p) → ⊥) → IsElecting (other_than growth) p → KnowsThese j (party_of v) s → MayGrow j growth s grown → AreSizes grown (sizes_of word) → MayStoreSizes j (party_of v) (bar_of growth) word
may_store j Batches p v s grown word at phase elected fresh other k may are = (
  is_growth Batches,
  with_there (phase_of v.attached 1) _ p.batches (phase_there Batches p v.attached at) (phase, elected, fresh),
  with_there (phase_of v.attached 2) _ p.buckets (phase_there Buckets p v.attached at) other,
  with_there (known_word (party_of v)) _ k.word k.is (may (sizes_of k.word) (sizes_of word) k.are are),
)
may_store j Buckets p v s grown word at phase elected fresh other k may are = (
  is_growth Buckets,
  with_there (phase_of v.attached 2) _ p.buckets (phase_there Buckets p v.attached at) (phase, elected, fresh),
  with_there (phase_of v.attached 1) _ p.batches (phase_there Batches p v.attached at) other,
  with_there (known_word (party_of v)) _ k.word k.is (may (sizes_of k.word) (sizes_of word) k.are are),
)

-- two growths with one barrier are one
same_growth : (a b : Growth) (p : GrowthPhases) → bar_of a ≡ bar_of b → phase_at a p ≤ phase_at b p
same_growth Batches Batches p is = omega arith
same_growth Batches Buckets p is = absurd (omega arith)
same_growth Buckets Batches p is = absurd (omega arith)
same_growth Buckets Buckets p is = omega arith

-- nothing else is different then, but what the seat stored
stored_one : (t : JoinTables) (v : JoinSeats) (growth other : Growth) (p : GrowthPhases) (later : ℕ) → IsGrowing t v p → Elected (stored_more (phase_of v.wait.view.attached (bar_of growth)) v.wait.view.client.stored (bar_of growth)) (bar_of other) later → later ≤ phase_at other p
stored_one t v growth other p later g e =
    let there = phase_there growth p v.wait.view.attached g.attached in
    let e' : Elected ((bar_of growth, phase_at growth p) ∷ v.wait.view.client.stored) (bar_of other) later = subst (λ (o : Option ℕ). Elected (stored_more o v.wait.view.client.stored (bar_of growth)) (bar_of other) later) there e in
    one e'
  where
    one : Elected ((bar_of growth, phase_at growth p) ∷ v.wait.view.client.stored) (bar_of other) later → later ≤ phase_at other p
    one (zero, e) = let same = maybe.some-injective (bar_of growth, phase_at growth p) (bar_of other, later) e in subst (λ (n : ℕ). n ≤ phase_at other p) (ap (λ (x : ℕ × ℕ). x.1) same) (same_growth growth other p (ap (λ (x : ℕ × ℕ). x.0) same))
    one (suc k, e) = g.stored other later (k, e)

pub growing_resized : (j : Join) (t : JoinTables) (v w : JoinSeats) (growth : Growth) (p : GrowthPhases) (bar word n : ℕ) → IsGrowing t v p → bar ≡ bar_of growth → IsAt t w → w.lock ≡ v.lock
    → w.wait.view ≡ client_moved v.wait.view (after j (party_of v.wait.view) (StoreSizes bar word) n) → IsGrowing t w p
growing_resized j t v w growth p bar word n g is at lock view =
    let stored : w.wait.view.client.stored ≡ stored_more (phase_of v.wait.view.attached (bar_of growth)) v.wait.view.client.stored (bar_of growth) =
    ap (λ (y : WaitView HashView). y.client.stored) view ∙ ap (λ (b : ℕ). stored_more (phase_of v.wait.view.attached b) v.wait.view.client.stored b) is in
    record {
      at = at;
      idle = (ap (λ (y : WaitView HashView). y.place) view ∙ g.idle.0, ap (λ (y : WaitView HashView). y.target) view ∙ g.idle.1);
      free = subst (λ (l : LwSeat). IsFree l.view) (sym lock) g.free;
      attached = subst (AreAt p) (sym (ap (λ (y : WaitView HashView). y.attached) view)) g.attached;
      hand = ap (λ (y : WaitView HashView). y.client.hand) view ∙ g.hand;
      ends = g.ends;
      stored = λ other later e. stored_one t v growth other p later g (subst (λ (l : List (ℕ × ℕ)). Elected l (bar_of other) later) stored e);
    }

-- Which heads are apart.
use Rattle.std.proofs.Common.{◌≡◌, ◌≢◌, ◌⊎◌, ℕ, zero, suc, ◌+◌, ◌-◌, ◌*◌, ◌/◌, ◌<◌, ◌≤◌, cond, eqb, nat_lt, true, false, sym, ap, ◌∙◌, subst, arith, inl, inr, ⊎_elim, mul-le-mul_right, mul-le-mul_left, suc-mul, mul_comm, lt_of_not-le}
use Rattle.std.proofs.lemmas.Nat.{and_le_r}
use Rattle.std.specs.Int.{w32, rotate_right, trailing_zeros}
use Rattle.std.proofs.lemmas.Bool.{cases_Bool, cond_both, ltb-true, ltb-false, eqb-true, eqb-false, lt-ltb, le-ltb}
use mathlib.Core.Logic.{dite}
use native.Mathlib.Decide.{ℕ_discrete, dec_le}
use Rattle.join_law.specs.Layout.{Join, SizesOf, heads, chain_no, store_no, outer_no}
use Rattle.join_law.specs.Routes.{bucket_of, batch_of, chain_at, store_at, hashed_at, before_growth, old_head, old_heads}
use Rattle.join_law.specs.Stands.{SizesFit}

pub bucket_below : (z : SizesOf) (x : ℕ) → 1 ≤ z.buckets → bucket_of z x < z.buckets
unfolding Rattle.row_model.specs.Routes.bucket_of
bucket_below z x some = let low = and_le_r x (z.buckets - 1) in omega arith

pub batch_below : (z : SizesOf) (x : ℕ) → 1 ≤ z.batches → batch_of z x < z.batches
unfolding Rattle.row_model.specs.Routes.batch_of
batch_below z x some = let low = and_le_r (rotate_right w32 x (trailing_zeros w32 z.buckets)) (z.batches - 1) in omega arith

further : (b c n : ℕ) → b < c → b * n + n ≤ c * n
further b c n h = let a : suc b * n ≤ c * n = mul-le-mul_right n h in omega (arith, suc-mul b n)

-- the chains of a batch stand together
same_batch : (b c n k l : ℕ) → k < n → l < n → b * n + k ≡ c * n + l → b ≡ c
same_batch b c n k l kn ln e = dite (dec_le b c)
    (λ le. dite (dec_le c b) (λ ge. omega arith) (λ gt. let lt : b < c = lt_of_not-le gt in let a = further b c n lt in let p : ℕ = b * n in let q : ℕ = c * n in
    let a' : p + n ≤ q = a in let e' : p + k ≡ q + l = e in absurd (omega arith)))
    (λ gt. let lt : c < b = lt_of_not-le gt in let a = further c b n lt in let p : ℕ = b * n in let q : ℕ = c * n in
    let a' : q + n ≤ p = a in let e' : p + k ≡ q + l = e in absurd (omega arith))

module _ (j : Join) (z : SizesOf) (fit : SizesFit j z) where
  pub route_below : (bucket batch : ℕ) → bucket < z.buckets → batch < z.batches → batch * z.buckets + bucket < j.chains
  route_below bucket batch low few =
      let room = fit.room in
      let b : ℕ = batch * z.buckets in
      let n : ℕ = z.batches * z.buckets in
      let s : n ≡ z.buckets * z.batches = mul_comm z.batches z.buckets in
      let f : b + z.buckets ≤ n = further batch z.batches z.buckets few in omega arith

  index_below : (x : ℕ) → batch_of z x * z.buckets + bucket_of z x < j.chains
  index_below x = route_below (bucket_of z x) (batch_of z x) (bucket_below z x fit.buckets) (batch_below z x fit.batches)

  -- half 0 or 1
  half_of : (half : ℕ) → half ≤ 1 → (half * j.chains ≡ 0) ⊎ (half * j.chains ≡ j.chains)
  half_of zero h = inl (omega arith)
  half_of (suc zero) h = inr (omega arith)
  half_of (suc (suc n)) h = absurd (omega arith)

  pub chain_low : (x : ℕ) → chain_at j z x < 2 * j.chains
  chain_low x = let i = index_below x in let p : ℕ = z.half * j.chains in ⊎_elim (λ (e : p ≡ 0). omega arith) (λ (e : p ≡ j.chains). omega arith) (half_of z.half fit.half)

  pub store_inside : (b : ℕ) → b < 64 → store_no j z.half b < heads j
  store_inside b few = let h = fit.half in omega arith

  pub chain_inside : (x : ℕ) → chain_at j z x < heads j
  chain_inside x = let a = chain_low x in omega arith

  pub batch_few : (x : ℕ) → batch_of z x < 64
  batch_few x = let a = batch_below z x fit.batches in let b = fit.most in omega arith

  -- a chain is no store
  pub chain_no_store : (x half b : ℕ) → chain_at j z x ≢ store_no j half b
  chain_no_store x half b e = let a = chain_low x in absurd (omega arith)

  pub chain_no_outer : (x b : ℕ) → chain_at j z x ≢ outer_no j b
  chain_no_outer x b e = let a = chain_low x in absurd (omega arith)

  -- one chain, one batch
  pub chain_batch : (x y : ℕ) → chain_at j z x ≡ chain_at j z y → batch_of z x ≡ batch_of z y
  chain_batch x y e = same_batch (batch_of z x) (batch_of z y) z.buckets (bucket_of z x) (bucket_of z y) (bucket_below z x fit.buckets) (bucket_below z y fit.buckets)
      (let p : ℕ = z.half * j.chains in let q : ℕ = batch_of z x * z.buckets in let r : ℕ = batch_of z y * z.buckets in let e' : p + (q + bucket_of z x) ≡ p + (r + bucket_of z y) = e in omega arith)

-- stores of half 0 and 1 are no outer stores
pub store_no_outer : (j : Join) (half b c : ℕ) → half ≤ 1 → b < 64 → store_no j half b ≢ outer_no j c
store_no_outer j half b c h few e = absurd (omega arith)

pub store_batch : (j : Join) (half b c : ℕ) → store_no j half b ≡ store_no j half c → b ≡ c
store_batch j half b c e = omega arith

pub outer_batch : (j : Join) (b c : ℕ) → outer_no j b ≡ outer_no j c → b ≡ c
outer_batch j b c e = omega arith

-- THE OLD HALF
pub old_buckets : (j : Join) (bar : ℕ) (z : SizesOf) → (before_growth j bar z).buckets ≤ z.buckets
old_buckets j bar z = cond_both (eqb bar 1) z.buckets (z.buckets / 2) (λ n. n ≤ z.buckets) (λ _. omega arith) (λ _. omega arith)

pub old_batches : (j : Join) (bar : ℕ) (z : SizesOf) → 1 ≤ z.batches → (before_growth j bar z).batches ≤ z.batches
old_batches j bar z some = cond_both (eqb bar 1) (cond (eqb z.batches j.first_batches) 1 (z.batches / 2)) z.batches (λ n. n ≤ z.batches)
    (λ _. cond_both (eqb z.batches j.first_batches) 1 (z.batches / 2) (λ n. n ≤ z.batches) (λ _. some) (λ _. omega arith)) (λ _. omega arith)

-- a head that may hold rows while rows are hashed is one of the half's first chains, or a store
old_place : (j : Join) (o : SizesOf) (k : ℕ) → k < old_heads o → ((c : ℕ) × (old_head j o k ≡ chain_no j o.half c) × (c < o.buckets)) ⊎ ((b : ℕ) × (old_head j o k ≡ store_no j o.half b) × (b < o.batches))
old_place j o k few = ⊎_elim
    (λ (e : nat_lt k o.buckets ≡ true). inl (k, ap (λ b. cond b (chain_no j o.half k) (store_no j o.half (k - o.buckets + 1))) e, ltb-true k o.buckets e))
    (λ (e : nat_lt k o.buckets ≡ false). let past = ltb-false k o.buckets e in inr (k - o.buckets + 1, ap (λ b. cond b (chain_no j o.half k) (store_no j o.half (k - o.buckets + 1))) e, omega arith))
    (cases_Bool (nat_lt k o.buckets))

module _ (j : Join) (z : SizesOf) (fit : SizesFit j z) (bar : ℕ) where
  old_chains : (c : ℕ) → c < (before_growth j bar z).buckets → c < j.chains
  old_chains c few = let a = old_buckets j bar z in let room = fit.room in let b : z.buckets * 1 ≤ z.buckets * z.batches = mul-le-mul_left z.buckets fit.batches in let p : ℕ = z.buckets * z.batches in let b' : z.buckets ≤ p = omega (arith, b) in omega arith

  chain_half : (c i : ℕ) → c < j.chains → i < j.chains → chain_no j z.half c ≢ chain_no j (1 - z.half) i
  chain_half c i cs is e = ⊎_elim (λ (zero_half : z.half ≡ 0). let e' : chain_no j 0 c ≡ chain_no j 1 i = subst (λ (h : ℕ). chain_no j h c ≡ chain_no j (1 - h) i) zero_half e in absurd (omega arith))
      (λ (one_half : z.half ≡ 1). let e' : chain_no j 1 c ≡ chain_no j 0 i = subst (λ (h : ℕ). chain_no j h c ≡ chain_no j (1 - h) i) one_half e in absurd (omega arith))
      (let h = fit.half in dite (ℕ_discrete z.half 0) (λ a. inl a) (λ a. inr (omega arith)))

  module _ (k : ℕ) (few : k < old_heads (before_growth j bar z)) where
    -- a chain in force is none of them
    pub chain_no_old : (x : ℕ) → chain_at j z x ≢ old_head j (before_growth j bar z) k
    chain_no_old x e = ⊎_elim (λ t. chain_half (batch_of z x * z.buckets + bucket_of z x) t.0 (index_below j z fit x) (old_chains t.0 t.2) (e ∙ t.1))
        (λ t. chain_no_store j z fit x (1 - z.half) t.0 (e ∙ t.1)) (old_place j (before_growth j bar z) k few)

    -- nor a store in force
    pub store_no_old : (b : ℕ) → b < 64 → store_no j z.half b ≢ old_head j (before_growth j bar z) k
    store_no_old b bs e = ⊎_elim
        (λ t. let h = fit.half in let c = old_chains t.0 t.2 in let u = t.1 in let i : ℕ = (1 - z.half) * j.chains in let low : i ≤ j.chains = ⊎_elim (λ (q : i ≡ 0). omega arith) (λ (q : i ≡ j.chains). omega arith) (half_of j z fit (1 - z.half) (omega arith)) in
        let u' : old_head j (before_growth j bar z) k ≡ i + t.0 = u in absurd (omega arith))
        (λ t. let h = fit.half in let u = t.1 in let c = t.2 in let n = old_batches j bar z fit.batches in let most = fit.most in absurd (omega arith)) (old_place j (before_growth j bar z) k few)

    -- nor an outer store
    pub outer_no_old : (b : ℕ) → outer_no j b ≢ old_head j (before_growth j bar z) k
    outer_no_old b e = ⊎_elim
        (λ t. let h = fit.half in let c = old_chains t.0 t.2 in let i : ℕ = (1 - z.half) * j.chains in let low : i ≤ j.chains = ⊎_elim (λ (q : i ≡ 0). omega arith) (λ (q : i ≡ j.chains). omega arith) (half_of j z fit (1 - z.half) (omega arith)) in
        let u' : old_head j (before_growth j bar z) k ≡ i + t.0 = t.1 in absurd (omega arith))
        (λ t. let u = t.1 in let c = t.2 in let n = old_batches j bar z fit.batches in let most = fit.most in absurd (omega arith)) (old_place j (before_growth j bar z) k few)

-- each place of a row while rows are hashed is one of the heads that are taken from in turn
pub hashed_is_old : (j : Join) (o : SizesOf) (x : ℕ) → 1 ≤ o.buckets → 1 ≤ o.batches → (k : ℕ) × (k < old_heads o) × (hashed_at j o x ≡ old_head j o k)
hashed_is_old j o x some some' = ⊎_elim
    (λ (e : eqb (batch_of o x) 0 ≡ true).
    let low = bucket_below o x some in
    let first : batch_of o x ≡ 0 = eqb-true _ _ e in
    let c : batch_of o x * o.buckets + bucket_of o x ≡ bucket_of o x = ap (λ n. n * o.buckets + bucket_of o x) first ∙ (let z : 0 * o.buckets + bucket_of o x ≡ bucket_of o x = omega arith in z) in (
      bucket_of o x,
      omega arith,
      ap (λ b. cond b (chain_at j o x) (store_at j o x)) e ∙ (ap (chain_no j o.half) c
          ∙ sym (ap (λ b. cond b (chain_no j o.half (bucket_of o x)) (store_no j o.half (bucket_of o x - o.buckets + 1))) (lt-ltb (bucket_of o x) o.buckets low))),
    ))
    (λ (e : eqb (batch_of o x) 0 ≡ false).
    let low = batch_below o x some' in
    let ne : batch_of o x ≢ 0 = eqb-false _ _ e in
    let k : ℕ = o.buckets + batch_of o x - 1 in
    let c : k - o.buckets + 1 ≡ batch_of o x = omega arith in (
      k,
      omega arith,
      ap (λ b. cond b (chain_at j o x) (store_at j o x)) e ∙ (ap (store_no j o.half) (sym c)
          ∙ sym (ap (λ b. cond b (chain_no j o.half k) (store_no j o.half (k - o.buckets + 1))) (le-ltb k o.buckets (omega arith)))),
    ))
    (cases_Bool (eqb (batch_of o x) 0))

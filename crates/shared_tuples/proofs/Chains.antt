-- Where a route's chain stands in its half.
use Rattle.std.proofs.Common.{◌≡◌, ℕ, ◌+◌, ◌*◌, ◌<◌, ◌≤◌, sym, ap, ◌∙◌, subst, arith}
use Rattle.std.proofs.lemmas.Option.{same_Some}
use Rattle.row_model.specs.declared.Route.{Route}
use Rattle.join_law.specs.Layout.{Join, SizesOf, sizes_of}
use Rattle.join_law.specs.Phases.{WithSizes, known_word}
use Rattle.join_law.specs.Stands.{SizesFit}
use Rattle.join_law.specs.Views.{View}
use Rattle.row_model.specs.Routes as routes
use Rattle.join_law.proofs.Callers.{with_there}
use Rattle.join_law.proofs.Heads.{bucket_below, batch_below, route_below}
use Rattle.shared_tuples.specs.declared.sizes.Sizes.{Sizes}
use Rattle.shared_tuples.specs.Tuples.{AreSizes, IsRoute}
use Rattle.shared_tuples.proofs.Tuples.{with_is}

chain_index : (j : Join) (s : Sizes) (z : SizesOf) (route : Route) → AreSizes s z → SizesFit j z → IsRoute z route → (s.half ≤ 1) × (route.batch * s.buckets + route.bucket < j.chains)
chain_index j s z route are fit is =
    let bucket : route.bucket < z.buckets = subst (λ (n : ℕ). n < z.buckets) is.1.0 (bucket_below z is.0 fit.buckets) in
    let batch : route.batch < z.batches = subst (λ (n : ℕ). n < z.batches) is.1.1 (batch_below z is.0 fit.batches) in
    let half = fit.half in
    let same = are.0 in
    (omega arith, subst (λ (n : ℕ). route.batch * n + route.bucket < j.chains) (sym are.1) (route_below j z fit route.bucket route.batch bucket batch))

pub chain_fits : (j : Join) (v : View) (s : Sizes) (route : Route) (chains : ℕ) → WithSizes v (λ z. AreSizes s z × SizesFit j z) → WithSizes v (λ z. IsRoute z route) → chains ≡ j.chains → (s.half ≤ 1) × (route.batch * s.buckets + route.bucket < chains)
chain_fits j v s route chains sizes leads same =
    let a = with_is (known_word v) (λ w. AreSizes s (sizes_of w) × SizesFit j (sizes_of w)) sizes in
    let b = with_is (known_word v) (λ w. IsRoute (sizes_of w) route) leads in
    let one : b.0 ≡ a.0 = same_Some b.0 a.0 (sym b.1 ∙ a.1) in
    let both = chain_index j s (sizes_of a.0) route a.2.0 a.2.1 (subst (λ (w : ℕ). IsRoute (sizes_of w) route) one b.2) in
    (both.0, subst (λ (n : ℕ). route.batch * s.buckets + route.bucket < n) (sym same) both.1)

-- the route that was computed of a hash, by the sizes as the code has them
pub hash_route : (j : Join) (v : View) (s : Sizes) (route : Route) (x : ℕ) → WithSizes v (λ z. AreSizes s z × SizesFit j z) → route.bucket ≡ routes.bucket_of s.buckets x → route.batch ≡ routes.batch_of s.buckets s.batches x → WithSizes v (λ z. IsRoute z route)
hash_route j v s route x sizes bucket batch =
    let a = with_is (known_word v) (λ w. AreSizes s (sizes_of w) × SizesFit j (sizes_of w)) sizes in
    let z : SizesOf = sizes_of a.0 in
    let b : routes.bucket_of z.buckets x ≡ route.bucket = ap (λ (n : ℕ). routes.bucket_of n x) (sym a.2.0.1) ∙ sym bucket in
    let c : routes.batch_of z.buckets z.batches x ≡ route.batch = ap {A = ℕ × ℕ} (λ n. routes.batch_of n.0 n.1 x) (λ i. (sym a.2.0.1 i, sym a.2.0.2 i)) ∙ sym batch in
    with_there (known_word v) _ a.0 a.1 (x, (b, c))

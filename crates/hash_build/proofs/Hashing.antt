-- What a worker may do with the rows that it hashes.
use Rattle.std.proofs.Common.{◌≡◌, ℕ, suc, ◌+◌, ◌-◌, ◌<◌, ◌≤◌, cond, eq-eqb, List, ◌∷◌, Bool, refl, sym, ap, ◌∙◌, subst, arith, Some, Option}
use Rattle.row_model.specs.declared.Side.{Side}
use Rattle.row_model.specs.declared.Side.TheVariants.{Inner, Outer}
use Rattle.row_model.specs.declared.Route.{Route}
use Rattle.row_model.specs.Routes as routes
use Rattle.wait_core.specs.declared.view.WaitView.{WaitView}
use Rattle.wait_core.specs.Parties.{phase_of}
use Rattle.wait_core.specs.Seating.{client_moved, party_of}
use Rattle.join_law.specs.declared.view.HashView.{HashView}
use Rattle.join_law.specs.declared.view.Known.{Known}
use Rattle.join_law.specs.Layout.{Join, SizesOf, sizes_of}
use Rattle.join_law.specs.Phases.{known_at, known_word}
use Rattle.join_law.specs.Views.{View, stretch, without}
use Rattle.join_law.proofs.Callers.{with_there}
use Rattle.join_law.proofs.Heads.{batch_few}
use Rattle.join_party.specs.Claims.{MayStillEnd}
use Rattle.shared_tuples.specs.declared.sizes.Sizes.{Sizes}
use Rattle.shared_tuples.specs.Tuples.{Leads, Routed}
use Rattle.join_law.proofs.Rows.{times_stretch}
use Rattle.seat_roster.specs.Roster.{times}
use Rattle.hash_build.specs.Hashing.{ClaimsNone, HashesAt, HashesOnly, KeepsSizes, KnowsThese, with_known, with_late}

-- a seat that saw and claimed nothing of the cursors may still find an end by an add
pub still_ends : (v w : WaitView HashView) (c : HashView) → w ≡ client_moved v c → c.inner_ended ≡ v.client.inner_ended → c.outer_ended ≡ v.client.outer_ended → c.inner_claims ≡ v.client.inner_claims → c.outer_claims ≡ v.client.outer_claims
    → ((side : Side) → MayStillEnd v.client side) → (side : Side) → MayStillEnd w.client side
still_ends v w c is a b d e may Inner = subst (λ (y : WaitView HashView). MayStillEnd y.client Inner) (sym is) (λ none. subst (λ (n : ℕ). 1 ≤ n) (sym d) (may Inner (sym a ∙ none)))
still_ends v w c is a b d e may Outer = subst (λ (y : WaitView HashView). MayStillEnd y.client Outer) (sym is) (λ none. subst (λ (n : ℕ). 1 ≤ n) (sym e) (may Outer (sym b ∙ none)))

-- a seat that stays attached as it is, and knows the same of the sizes, may go on by them
pub knows_still : (j : Join) (v w : WaitView HashView) (c : HashView) (sizes : Sizes) → w ≡ client_moved v c → c.known ≡ v.client.known → KnowsThese j (party_of v) sizes → KnowsThese j (party_of w) sizes
knows_still j v w c sizes is same k = record {
  word = k.word;
  is = ap (λ (y : WaitView HashView). known_word (party_of y)) is ∙ (ap (λ (o : Option Known). known_at o (phase_of v.attached 1) (phase_of v.attached 2)) same ∙ k.is);
  are = k.are;
  fit = k.fit;
}

-- where a route leads
pub leads_by : (j : Join) (v : View) (sizes : Sizes) (route : Route) (row x : ℕ) → KnowsThese j v sizes → j.hash row ≡ Some x → route.bucket ≡ routes.bucket_of sizes.buckets x → route.batch ≡ routes.batch_of sizes.buckets sizes.batches x
    → Routed j v row (λ z x. Leads z x route) × (route.batch < 64)
leads_by j v sizes route row x k key bucket batch =
    let z : SizesOf = sizes_of k.word in
    let b : routes.bucket_of z.buckets x ≡ route.bucket = ap (λ (n : ℕ). routes.bucket_of n x) (sym k.are.1) ∙ sym bucket in
    let c : routes.batch_of z.buckets z.batches x ≡ route.batch = ap {A = ℕ × ℕ} (λ n. routes.batch_of n.0 n.1 x) (λ i. (sym k.are.1 i, sym k.are.2 i)) ∙ sym batch in (
      with_there (j.hash row) _ x key (with_there (known_word v) _ k.word k.is (b, c)),
      subst (λ (n : ℕ). n < 64) c (batch_few j z k.fit x),
    )

-- steps of which each changes no more than hashing does
pub hashes_on : (u v w : HashView) → HashesOnly u v → HashesOnly v w → HashesOnly u w
hashes_on u v w a b = record {
  given = b.given ∙ a.given;
  probed = b.probed ∙ a.probed;
  emptied = b.emptied ∙ a.emptied;
  drained = b.drained ∙ a.drained;
  done = b.done ∙ a.done;
  late = b.late ∙ a.late;
}

pub claims_none : (u v w : HashView) → ClaimsNone u v → ClaimsNone v w → ClaimsNone u w
claims_none u v w a b = record { chunks = b.chunks ∙ a.chunks; claimed = b.claimed ∙ a.claimed }

pub keeps_sizes : (u v w : HashView) → KeepsSizes u v → KeepsSizes v w → KeepsSizes u w
keeps_sizes u v w a b = record { known = b.known ∙ a.known; stored = b.stored ∙ a.stored; swept = b.swept ∙ a.swept }

pub view_on : (u v w : WaitView HashView) → v ≡ client_moved u v.client → w ≡ client_moved v w.client → w ≡ client_moved u w.client
view_on u v w a b = b ∙ ap (λ (y : WaitView HashView). client_moved y w.client) a

-- the first of a stretch of rows leaves the hand
pub first_gone : (row n : ℕ) (hand left : List ℕ) → row < n → hand ≡ stretch row (n - row) → left ≡ without row hand → left ≡ stretch (row + 1) (n - (row + 1))
first_gone row n hand left less is then =
    let many : n - row ≡ suc (n - (row + 1)) = omega arith in
    let next : row + 1 ≡ suc row = omega arith in
    then ∙ (ap (without row) (is ∙ ap (stretch row) many) ∙ (ap (λ (b : Bool). cond b (stretch (suc row) (n - (row + 1))) (row ∷ without row (stretch (suc row) (n - (row + 1))))) (eq-eqb row row refl) ∙ ap (λ (a : ℕ). stretch a (n - (row + 1))) (sym next)))

-- what was read and seen leaves ends and claims as they are
pub known_ends : (c : HashView) (k : Option Known) → ((side : Side) → MayStillEnd c side) → (side : Side) → MayStillEnd (with_known c k) side
known_ends c k may Inner = may Inner
known_ends c k may Outer = may Outer

pub late_ends : (c : HashView) → ((side : Side) → MayStillEnd c side) → (side : Side) → MayStillEnd (with_late c) side
late_ends c may Inner = may Inner
late_ends c may Outer = may Outer

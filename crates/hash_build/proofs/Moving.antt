-- How rows move out of the half that a growth leaves.
use Rattle.std.proofs.Common.{◌≡◌, ℕ, suc, ◌+◌, ◌-◌, ◌*◌, ◌^◌, ◌<◌, ◌≤◌, mul-le-mul, Bool, true, false, cond, ◌&&◌, [], ◌∷◌, refl, sym, ap, ◌∙◌, subst, arith, ⊎_elim, eqb, eq-eqb, Some, Option}
use Rattle.std.proofs.lemmas.Bool.{cases_Bool, eqb-false}
use Rattle.std.proofs.lemmas.Option.{same_Some}
use Rattle.wait_core.specs.declared.view.WaitView.{WaitView}
use Rattle.wait_core.specs.Parties.{phase_of}
use Rattle.wait_core.specs.Seating.{client_moved, party_of}
use Rattle.join_law.specs.declared.view.HashView.{HashView}
use Rattle.join_law.specs.declared.view.Known.{Known}
use Rattle.join_law.specs.declared.view.Swept.{Swept}
use Rattle.join_law.specs.Layout.{Join, SizesOf, sizes_of}
use Rattle.join_law.specs.Machine.{swept_at, swept_more, took}
use Rattle.join_law.specs.Phases.{known_at, known_word, With}
use Rattle.join_law.specs.Quiet.{AllSwept}
use Rattle.join_law.specs.Routes.{before_growth, old_heads}
use Rattle.join_law.specs.Views.{View, dropped, without}
use Rattle.join_law.proofs.Callers.{with_there}
use Rattle.shared_tuples.specs.declared.sizes.Growth.{Growth}
use Rattle.shared_tuples.specs.declared.sizes.Sizes.{Sizes}
use Rattle.shared_tuples.specs.Growing.{MayTakeOld, bar_of, found_swept}
use Rattle.shared_tuples.specs.Tuples.{AreSizes, Hashing}
use Rattle.shared_tuples.proofs.Tuples.{with_is}
use Rattle.hash_build.specs.declared.growths.GrowthPhases.{GrowthPhases}
use Rattle.hash_build.specs.Growths.{AreAt, IsMoving, MayMove, MovesRows, SweptTo, phase_at}
use Rattle.hash_build.specs.Hashing.{KnowsThese}
use Rattle.hash_build.proofs.Hashing.{claims_none, hashes_on}
use Rattle.hash_build.proofs.Passing.{hashes_moving, phase_there}

-- sizes that are known aren't large
pub these_few : (j : Join) (v : View) (s : Sizes) → KnowsThese j v s → (s.half ≤ 1) × ((1 ≤ s.buckets) × (s.buckets ≤ 262144)) × ((1 ≤ s.batches) × (s.batches ≤ 64))
these_few j v s k =
    let half = k.fit.half in let some = k.fit.buckets in let few = k.fit.few in let one = k.fit.batches in let most = k.fit.most in
    let a = k.are.0 in let b = k.are.1 in let c = k.are.2 in
    (omega arith, (omega arith, omega arith), (omega arith, omega arith))

-- and so many heads, a worker's share of them times, are few
pub shares_few : (drawn workers buckets batches : ℕ) → drawn < workers → workers ≤ 16 → buckets ≤ 262144 → batches ≤ 64 → drawn * (buckets + batches - 1) < 2 ^ 32
shares_few drawn workers buckets batches less few buckets_few batches_few =
    let one : drawn ≤ 16 = omega arith in let two : buckets + batches - 1 ≤ 262207 = omega arith in
    let most : drawn * (buckets + batches - 1) ≤ 16 * 262207 = mul-le-mul one two in omega arith

-- a row may be taken from the head of this turn
pub may_take_turn : (j : Join) (w : WaitView HashView) (growth : Growth) (p : GrowthPhases) (s old : Sizes) (turn first : ℕ) → AreAt p w.attached → IsMoving growth p → MayMove growth p → KnowsThese j (party_of w) s
    → ((j : Join) (z : SizesOf) → j.first_batches ≡ first → AreSizes s z → AreSizes old (before_growth j (bar_of growth) z)) → j.first_batches ≡ first → turn < old.buckets + old.batches - 1 → MayTakeOld j (party_of w) growth turn
may_take_turn j w growth p s old turn first at moves may k before same less =
    let are = before j (sizes_of k.word) same k.are in
    let o : SizesOf = before_growth j (bar_of growth) (sizes_of k.word) in
    let buckets : old.buckets ≡ o.buckets = are.1 in
    let batches : old.batches ≡ o.batches = are.2 in
    record {
      phase = phase_at growth p;
      on = phase_there growth p w.attached at;
      moves = moves;
      hashing = hashes_moving growth p w at moves may;
      turns = with_there (known_word (party_of w)) _ k.word k.is (omega arith);
    }

-- all heads were swept, where those before the last turn were
pub all_swept : (j : Join) (w : WaitView HashView) (growth : Growth) (p : GrowthPhases) (s old : Sizes) (turn first : ℕ) → AreAt p w.attached → IsMoving growth p → MayMove growth p → KnowsThese j (party_of w) s
    → ((j : Join) (z : SizesOf) → j.first_batches ≡ first → AreSizes s z → AreSizes old (before_growth j (bar_of growth) z)) → j.first_batches ≡ first → old.buckets + old.batches - 1 ≤ turn → SweptTo growth turn (party_of w)
    → AllSwept j (party_of w) (bar_of growth) (phase_at growth p)
all_swept j w growth p s old turn first at moves may k before same most swept =
    let are = before j (sizes_of k.word) same k.are in
    let o : SizesOf = before_growth j (bar_of growth) (sizes_of k.word) in
    let buckets : old.buckets ≡ o.buckets = are.1 in
    let batches : old.batches ≡ o.batches = are.2 in
    let t = with_is (phase_of w.attached (bar_of growth)) (λ ph. turn ≤ swept_at w.client.swept (bar_of growth) ph) swept in
    let ph : t.0 ≡ phase_at growth p = same_Some t.0 (phase_at growth p) (sym t.1 ∙ phase_there growth p w.attached at) in
    let far : turn ≤ swept_at w.client.swept (bar_of growth) (phase_at growth p) = subst (λ (n : ℕ). turn ≤ swept_at w.client.swept (bar_of growth) n) ph t.2 in
    ((hashes_moving growth p w at moves may).1, with_there (known_word (party_of w)) _ k.word k.is (omega arith))

-- nothing was moved yet
pub moves_none : (v : WaitView HashView) → v.client.hand ≡ [] → MovesRows v v
moves_none v hand = record {
  view = refl;
  hand = hand;
  only = record { given = refl; probed = refl; emptied = refl; drained = refl; done = refl; late = refl };
  claims = record { chunks = refl; claimed = refl };
  ended = refl;
  sizes = (refl, refl);
}

-- rows were moved, and then more
pub moves_more : (u v w : WaitView HashView) → MovesRows u v → MovesRows v w → MovesRows u w
moves_more u v w a b = record {
  view = b.view ∙ ap (λ (y : WaitView HashView). client_moved y w.client) a.view;
  hand = b.hand;
  only = hashes_on u.client v.client w.client a.only b.only;
  claims = claims_none u.client v.client w.client a.claims b.claims;
  ended = b.ended ∙ a.ended;
  sizes = (b.sizes.0 ∙ a.sizes.0, b.sizes.1 ∙ a.sizes.1);
}

-- a seat that moved rows may take the next one
pub may_take_still : (j : Join) (v w : WaitView HashView) (growth : Growth) (turn : ℕ) → MovesRows v w → MayTakeOld j (party_of v) growth turn → MayTakeOld j (party_of w) growth turn
may_take_still j v w growth turn m may = subst (λ (y : WaitView HashView). MayTakeOld j (party_of y) growth turn) (sym m.view)
    (record {
      phase = may.phase;
      on = may.on;
      moves = may.moves;
      hashing = may.hashing;
      turns = subst (λ (o : Option Known). With (known_at o (phase_of v.attached 1) (phase_of v.attached 2)) (λ w. turn < old_heads (before_growth j (bar_of growth) (sizes_of w)))) (sym m.sizes.0) may.turns;
    })

-- where many heads were swept, fewer were
pub swept_less : (v : WaitView HashView) (growth : Growth) (fewer turn : ℕ) → fewer ≤ turn → SweptTo growth turn (party_of v) → SweptTo growth fewer (party_of v)
swept_less v growth fewer turn less swept =
    let t = with_is (phase_of v.attached (bar_of growth)) (λ ph. turn ≤ swept_at v.client.swept (bar_of growth) ph) swept in
    with_there (phase_of v.attached (bar_of growth)) _ t.0 t.1 (omega arith)

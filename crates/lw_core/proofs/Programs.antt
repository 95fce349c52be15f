-- How the parts of a call go together: its first step, and then steps that begin no call.
use Rattle.std.proofs.Common.{◌≡◌, ℕ, ◌+◌, Bool, true, false, cond, List, [], ◌∷◌, ◌++◌, Option, None, Some, is_some, count_by, refl, ap, ◌∙◌, arith, append_assoc}
use Rattle.std.proofs.lemmas.List.Sums.{sum_by-append}
use Rattle.lw_core.specs.declared.step.Call.{Call}
use Rattle.lw_core.specs.declared.step.LwStep.{LwStep}
use Rattle.lw_core.specs.declared.view.Made.{Made}
use Rattle.lw_core.specs.declared.view.View.{View}
use Rattle.lw_core.specs.Programs.{begins_call, begun_by, calls, BeginsNone, Makes, MakesFrom}

calls_append : (xs ys : List Made) → calls (xs ++ ys) ≡ calls xs + calls ys
calls_append xs ys = sum_by-append (λ (a : Made). cond (begins_call a.step) 1 0) xs ys

none_more : (b : Bool) (c n : ℕ) → c ≡ n + cond b 1 0 → b ≡ false → c ≡ n
none_more true c n e is = absurd (cc)
none_more false c n e is = omega arith

-- a step that isn't counted
pub count_kept : (counted : LwStep → Bool) (v w : View) (m : Made) → w.steps ≡ v.steps ++ m ∷ [] → counted m.step ≡ false → count_by (λ (m : Made). counted m.step) w.steps ≡ count_by (λ (m : Made). counted m.step) v.steps
count_kept counted v w m is none =
    let all = ap (count_by (λ (m : Made). counted m.step)) is in let a = sum_by-append (λ (m : Made). cond (counted m.step) 1 0) v.steps (m ∷ []) in
    none_more (counted m.step) (count_by (λ (m : Made). counted m.step) w.steps) (count_by (λ (m : Made). counted m.step) v.steps) (omega arith) none

-- what none of the steps since counted
pub counted_since : (counted : LwStep → Bool) (v w : View) (more : List Made) → w.steps ≡ v.steps ++ more → count_by (λ (m : Made). counted m.step) w.steps ≡ count_by (λ (m : Made). counted m.step) v.steps → count_by (λ (m : Made). counted m.step) more ≡ 0
counted_since counted v w more is none = let all = ap (count_by (λ (m : Made). counted m.step)) is in let a = sum_by-append (λ (m : Made). cond (counted m.step) 1 0) v.steps more in omega arith

-- a call goes on with steps that begin none
pub makes_on : (c : Call) (v u w : View) → Makes c v u → (more : List Made) → w.steps ≡ u.steps ++ more → BeginsNone u w → Makes c v w
makes_on c v u w begun more is none = record {
  first = begun.first;
  then = begun.then ++ more;
  steps = is ∙ (ap (λ (s : List Made). s ++ more) begun.steps ∙ append_assoc v.steps (begun.first ∷ begun.then) more);
  begins = begun.begins;
  only = let a = calls_append begun.then more in let b = begun.only in let c = counted_since begins_call u w more is none in omega arith;
}

-- and so does a part of a program
pub part_on : (b : Option Call) (v u w : View) → MakesFrom b v u → (more : List Made) → w.steps ≡ u.steps ++ more → BeginsNone u w → MakesFrom b v w
part_on None v u w begun more is none = none ∙ begun
part_on (Some c) v u w begun more is none = makes_on c v u w begun more is none

-- the first step of a call, or of a part of one
pub makes_first : (c : Call) (m : Made) (v w : View) → w.steps ≡ v.steps ++ m ∷ [] → begun_by m.step ≡ Some c → Makes c v w
makes_first c m v w is begins = record { first = m; then = []; steps = is; begins = begins; only = refl }

pub part_first : (b : Option Call) (m : Made) (v w : View) → w.steps ≡ v.steps ++ m ∷ [] → begun_by m.step ≡ b → begins_call m.step ≡ is_some b → MakesFrom b v w
part_first None m v w is begins none = count_kept begins_call v w m is none
part_first (Some c) m v w is begins one = makes_first c m v w is begins

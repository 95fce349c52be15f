-- What the seat knows of the lock's words, step by step, and all that it does under the lock.
use Rattle.std.proofs.Common.{append-nil, cond, ◌≡◌, ℕ, zero, suc, ◌+◌, ◌*◌, ◌<◌, ◌≤◌, List, [], ◌∷◌, ◌++◌, get_or, set, refl, sym, ap, ◌∙◌, subst, arith, Option, None, Some, append_assoc}
use Rattle.std.proofs.lemmas.Bool.{eq-eqb}
use Rattle.std.proofs.lemmas.List.{set-set, set-get_or}
use Rattle.proc_table.specs.declared.Mode.TheVariants.{Exclusive}
use Rattle.lw_core.specs.declared.step.Call.TheVariants as call
use Rattle.lw_core.specs.declared.step.GuardOp.{GuardOp}
use Rattle.lw_core.specs.declared.step.GuardOp.TheVariants as guard
use Rattle.lw_core.specs.declared.step.LwStep.TheVariants.{Guard}
use Rattle.lw_core.specs.declared.view.Made.{Made}
use Rattle.lw_core.specs.declared.view.Hold.{Hold}
use Rattle.lw_core.specs.declared.view.View.{View}
use Rattle.lw_core.specs.Machine.{made, next, hold_in, guard_hold, held, not_held, known_at, LeavesLawful}
use Rattle.lw_core.specs.Programs.{Makes}
use Rattle.lw_core.specs.Told.{KnowsAll}
use Rattle.lwlock.specs.Calls.{Acquires, Released}
use Rattle.join_party.specs.Guards.{IsReported}
use Rattle.hash_build.specs.declared.report.Reported.{Reported}
use Rattle.hash_build.specs.Reports.{Touched, UnderLock, changing, known_of, knowing, reading, storing, words_of}

pub touched_one : (l k : ℕ) (o : GuardOp) (n : ℕ) (v w : View) → w ≡ next (Guard l k o) v n [] → Touched l (made (Guard l k o) n ∷ []) v w
touched_one l k o n v w e = (guard_hold o (hold_in l v) k n, e)

pub touched_more : (l : ℕ) (a b : List Made) (u v w : View) → Touched l a u v → Touched l b v w → Touched l (a ++ b) u w
touched_more l a b u v w x y = (
  y.0,
  y.1 ∙ (ap (λ (s : View). record s { steps = s.steps ++ b; holds = set s.holds l y.0 }) x.1 ∙ (λ i. record u { steps = append_assoc u.steps a b i; holds = set-set u.holds l x.0 y.0 i })),
)

-- no step was made
pub touched_none : (l : ℕ) (v : View) → Touched l [] v v
touched_none l v = (hold_in l v, sym (λ i. record v { steps = append-nil v.steps i; holds = set-get_or v.holds l not_held i }))

-- a word that says already what it is to say wasn't stored
pub touched_same : (l k old new : ℕ) (v : View) → old ≡ new → Touched l (changing l k old new) v v
touched_same l k old new v same =
    subst (λ (steps : List Made). Touched l steps v v) (λ i. cond (sym (eq-eqb old new same) i) [] (made (Guard l k (guard.Store new)) old ∷ [])) (touched_none l v)

-- all four words are known
pub knows_all : (found : Reported) → KnowsAll (knowing found) (words_of found)
knows_all found = (refl, at)
  where
    at : (k : ℕ) → k < 4 → known_at (knowing found) k ≡ Some (get_or (words_of found) k 0)
    at zero low = refl
    at (suc zero) low = refl
    at (suc (suc zero)) low = refl
    at (suc (suc (suc zero))) low = refl
    at (suc (suc (suc (suc k)))) low = absurd (omega arith)

-- who knows all four words leaves lawful ones
pub known_lawful : (h : Hold) (now : Reported) → h.known ≡ known_of now → IsReported (words_of now) → LeavesLawful IsReported h
known_lawful h now known is wrote words agrees =
    let zero_is : get_or words 0 0 ≡ now.rows = agrees.1 0 now.rows (omega arith) (ap (λ (k : List (Option ℕ)). get_or k 0 None) known) in
    let one_is : get_or words 1 0 ≡ now.wanted = agrees.1 1 now.wanted (omega arith) (ap (λ (k : List (Option ℕ)). get_or k 1 None) known) in
    let three_is : get_or words 3 0 ≡ now.reports = agrees.1 3 now.reports (omega arith) (ap (λ (k : List (Option ℕ)). get_or k 3 None) known) in
    let wanted : now.wanted ≤ 3 = is.wanted in
    let few : now.reports ≤ 262144 = is.few in
    let least : now.reports ≤ now.rows = is.least in
    let most : now.rows ≤ 64 * now.reports = is.most in record { wanted = omega arith; few = omega arith; least = omega arith; most = omega arith }

-- what is done under the lock, from the calls
pub under_lock : (l : ℕ) (found after : Reported) (u v w x y : View) → ((sleeps : ℕ) × Acquires l Exclusive sleeps u v) → Makes (call.Acquire l Exclusive) u v → Touched l (reading l found) v w → Touched l (storing l found after) w x → IsReported (words_of found) → Released l x y
    → Makes (call.Release l) x y → UnderLock l found after u y
under_lock l found after u v w x y acquired acquires read stored lawful released releases =
    let acquiring : List Made = acquires.first ∷ acquires.then in
    let releasing : List Made = releases.first ∷ releases.then in
    let sleeps : ℕ = acquired.0 in
    let a : v ≡ record u { place = []; steps = u.steps ++ acquiring; holds = set u.holds l (held Exclusive); grants = u.grants + 1; waits = u.waits + sleeps; surplus = 0 } =
    (acquired.1).1 ∙ ap (λ (s : List Made). record u { place = []; steps = s; holds = set u.holds l (held Exclusive); grants = u.grants + 1; waits = u.waits + sleeps; surplus = 0 }) (sym (ap (λ (q : View). q.steps) (acquired.1).1) ∙ acquires.steps) in
    let r : y ≡ record x { place = []; steps = x.steps ++ releasing; holds = set x.holds l not_held } =
    released.1 ∙ ap (λ (s : List Made). record x { place = []; steps = s; holds = set x.holds l not_held }) (sym (ap (λ (q : View). q.steps) released.1) ∙ releases.steps) in
    let changes : List Made = storing l found after in
    let t = touched_more l (reading l found) changes v w x read stored in
    let h : Hold = t.0 in
    let middle : List Made = reading l found ++ changes in
    let b : y ≡ record v { place = []; steps = v.steps ++ (middle ++ releasing); holds = set v.holds l not_held } =
    r ∙ (ap (λ (q : View). record q { place = []; steps = q.steps ++ releasing; holds = set q.holds l not_held }) t.1 ∙ (λ i. record v { place = []; steps = append_assoc v.steps middle releasing i; holds = set-set v.holds l h not_held i })) in
    let c : y ≡ record u { place = []; steps = u.steps ++ (acquiring ++ (middle ++ releasing)); holds = set u.holds l not_held; grants = u.grants + 1; waits = u.waits + sleeps; surplus = 0 } =
    b ∙ (ap (λ (q : View). record q { place = []; steps = q.steps ++ (middle ++ releasing); holds = set q.holds l not_held }) a
    ∙ (λ i. record u { place = []; steps = append_assoc u.steps acquiring (middle ++ releasing) i; holds = set-set u.holds l (held Exclusive) not_held i; grants = u.grants + 1; waits = u.waits + sleeps; surplus = 0 })) in
    record {
      acquiring = acquiring;
      releasing = releasing;
      sleeps = sleeps;
      acquires = record { first = acquires.first; then = acquires.then; are = refl; begins = acquires.begins; only = acquires.only };
      releases = record { first = releases.first; then = releases.then; are = refl; begins = releases.begins; only = releases.only };
      lawful = lawful;
      view = c ∙ (λ i. record u { place = []; steps = u.steps ++ (acquiring ++ append_assoc (reading l found) changes releasing i); holds = set u.holds l not_held; grants = u.grants + 1; waits = u.waits + sleeps; surplus = 0 });
    }

-- Each step, each drawing and each joining of seats keeps the balance.
use Rattle.std.proofs.Common.{◌≡◌, ◌≢◌, Some, ℕ, zero, suc, ◌+◌, ◌-◌, ◌%◌, ◌^◌, ◌<◌, ◌≤◌, List, [], ◌∷◌, ◌++◌, length, get_or, set, refl, sym, ap, ◌∙◌, subst, arith, length-set, length-append, get_or-set_same, get_or-set_other}
use mathlib.Core.Option.{some}
use lib.ListN.{get_elem?}
use Rattle.atomic_table.proofs.Lists.{set_else}
use Rattle.wait_core.specs.Ops.{op_at, op_gives}
use Rattle.wait_core.specs.Parties.{with_client, newcomer, joined, left_over, IsStep, IsJoin}
use Rattle.wait_core.specs.declared.view.PartyView.{PartyView}
use Rattle.two_words.specs.declared.Turn.{Turn}
use Rattle.two_words.specs.declared.Turn.TheVariants.{First, Second}
use Rattle.two_words.specs.declared.Progress.{Progress}
use Rattle.seat_roster.specs.Totals.{total}
use Rattle.seat_roster.proofs.Totals.{total_set, total_snoc, total_at}
use Rattle.two_words.specs.Balance.{progress, turn_op, may_turn, turned, added, left_of, between_of, done_of, Balanced}

abbrev V : Type 0
V = PartyView Progress

pub turn_inside : (t : Turn) → op_at (turn_op t) < 2
turn_inside First = omega arith
turn_inside Second = omega arith

-- 1 was added to the word at a place, and the other word is as before
added_one : (words : List ℕ) (at other : ℕ) → length words ≡ 2 → at < 2 → other ≢ at → get_or words at 0 ≤ 64
    → let after = set words at ((get_or words at 0 + 1) % 2 ^ 64) in (length after ≡ 2) × (get_or after at 0 ≡ get_or words at 0 + 1) × (get_or after other 0 ≡ get_or words other 0)
added_one words at other two inside apart few =
    let x : ℕ = (get_or words at 0 + 1) % 2 ^ 64 in (
      length-set words at x ∙ two,
      get_or-set_same words at x 0 (omega arith) ∙ Rattle.std.proofs.Common.mod-eq_of_lt (omega arith),
      get_or-set_other words at other x 0 apart,
    )

-- the words change as a seat's view does
moves : (words after : List ℕ) (views : List V) (id : ℕ) (v w : V) → Balanced words views → get_elem? views id ≡ some v → length after ≡ 2
    → left_of w + between_of w + done_of w ≡ left_of v + between_of v + done_of v → get_or after 1 0 + done_of v ≡ get_or words 1 0 + done_of w
    → get_or after 0 0 + between_of v + done_of v ≡ get_or words 0 0 + between_of w + done_of w → Balanced after (set views id w)
moves words after views id v w b at two turns done begun =
    let l = total_set left_of views id v w at in
    let m = total_set between_of views id v w at in
    let d = total_set done_of views id v w at in
    let one = b.one_each in
    let first = b.first in
    let second = b.second in
    let long = length-set views id w in
    record { two = two; second = omega arith; first = omega arith; one_each = omega arith }

pub turn_keeps : (words : List ℕ) (views : List V) (phases : List ℕ) (id : ℕ) (v : V) (t : Turn) → Balanced words views → IsStep views phases id v → may_turn v.client t
    → let n = get_or words (op_at (turn_op t)) 0 in Balanced (set words (op_at (turn_op t)) (op_gives (turn_op t) n)) (set views id (with_client v (turned v.client t)))
turn_keeps words views phases id v First b s may =
    let one = b.one_each in
    let first = b.first in
    let second = b.second in
    let few = s.few in
    let a = added_one words 0 1 b.two (omega arith) (λ e. omega arith) (omega arith) in
    moves words _ views id v _ b s.at a.0 (omega arith) (omega arith) (omega arith)
turn_keeps words views phases id v Second b s may =
    let one = b.one_each in
    let first = b.first in
    let second = b.second in
    let few = s.few in
    let a = added_one words 1 0 b.two (omega arith) (λ e. omega arith) (omega arith) in
    moves words _ views id v _ b s.at a.0 (omega arith) (omega arith) (omega arith)

pub draw_keeps_balance : (words : List ℕ) (views : List V) (proc : ℕ) → Balanced words views → Balanced words (views ++ newcomer (progress 1 0 0) (Some proc) ∷ [])
draw_keeps_balance words views proc b =
    let w : V = newcomer (progress 1 0 0) (Some proc) in
    let l = total_snoc left_of views w in
    let m = total_snoc between_of views w in
    let d = total_snoc done_of views w in
    let one = b.one_each in
    let first = b.first in
    let second = b.second in
    let long = length-append views (w ∷ []) in
    record { two = b.two; second = omega arith; first = omega arith; one_each = omega arith }

joins : (f : V → ℕ) (views : List V) (phases : List ℕ) (id other : ℕ) (v w x y : V) → IsJoin views phases id v other w → f x ≡ f v + f w → f y ≡ 0 → total f (set (set views id x) other y) ≡ total f views
joins f views phases id other v w x y j sums none =
    let a = total_set f views id v x j.at in
    let b = total_set f (set views id x) other w y (set_else views id other x j.apart ∙ j.there) in
    omega arith

pub join_keeps_balance : (words : List ℕ) (views : List V) (phases : List ℕ) (id other : ℕ) (v w : V) → Balanced words views → IsJoin views phases id v other w
    → Balanced words (set (set views id (joined added v w)) other (left_over (progress 0 0 0)))
join_keeps_balance words views phases id other v w b j =
    let x : V = joined added v w in
    let y : V = left_over (progress 0 0 0) in
    let l = joins left_of views phases id other v w x y j refl refl in
    let m = joins between_of views phases id other v w x y j refl refl in
    let d = joins done_of views phases id other v w x y j refl refl in
    let one = b.one_each in
    let first = b.first in
    let second = b.second in
    let long = length-set (set views id x) other y ∙ length-set views id x in
    record { two = b.two; second = omega arith; first = omega arith; one_each = omega arith }

-- a seat that attaches, notices, is elected or detaches has done what it had done before
pub same_balance : (words : List ℕ) (views : List V) (id : ℕ) (v w : V) → Balanced words views → get_elem? views id ≡ some v → w.client ≡ v.client → Balanced words (set views id w)
same_balance words views id v w b at same =
    let l : left_of w ≡ left_of v = ap (λ (c : Progress). c.left) same in
    let m : between_of w ≡ between_of v = ap (λ (c : Progress). c.between) same in
    let d : done_of w ≡ done_of v = ap (λ (c : Progress). c.done) same in
    moves words words views id v w b at b.two (omega arith) (omega arith) (omega arith)

-- what the words are once one view has all that two seats came with
pub two_done : (words : List ℕ) (views : List V) (id : ℕ) (v : V) → Balanced words views → get_elem? views id ≡ some v → v.client ≡ progress 0 0 2 → length views ≤ 2 → (get_or words 0 0 ≡ 2) × (get_or words 1 0 ≡ 2)
two_done words views id v b at is two =
    let d = total_at done_of views id v at in
    let done : v.client.done ≡ 2 = ap (λ (p : Progress). p.done) is in
    let one = b.one_each in
    let first = b.first in
    let second = b.second in
    (omega arith, omega arith)

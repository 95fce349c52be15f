use Rattle.std.proofs.Common.{ℕ, false, true, List, [], ◌∷◌, ◌++◌, refl, sym, ap, ◌∙◌, cond, subst, eq-eqb, ne_eqb}
use Rattle.lw_core.specs.declared.step.LwStep.TheVariants.{Peek, Unlock, VarLoad}
use Rattle.lw_core.specs.declared.view.Made.{Made}
use Rattle.lw_core.specs.declared.view.View.{View}
use Rattle.lw_core.specs.Machine.{Place, left_at, made, made_with, MaySendHome, number_of, on_conflict, on_outcome}
use Rattle.lw_core.specs.Programs.{begins_call}
use Rattle.lw_core.proofs.Programs.{count_kept, part_first, part_on}
use Rattle.lwlock.specs.Calls.{went}
use Rattle.lwlock_variable.specs.Waits.{behind}
use Rattle.lwlock_variable.proofs.Looks.{compares, to_return}
use Rattle.lwlock_variable.proofs.compare.compare.Goals as goal

pub returns-then-is_free_for-clause-finds : goal.returns-then-is_free_for-clause-finds
returns-then-is_free_for-clause-finds g c = (sym c.is_free_for.ensures ∙ c.if-is_free_for.true, (c.args.begins, ([], ([], ap (λ (a : View). a.steps) c.step-seen.ensures.view))))

-- the place at which the list is to go home
pub step-requires-clause-allowed : goal.step-requires-clause-allowed
step-requires-clause-allowed g c =
    let v : View = c.args.seat.now.view in let d : View = c.step-value.new.seat.view in let taken = c.take_list.ensures.view in
    let place = to_return c.args.lock c.args.old c.step-seen.result.old c.step-value.result.old c.args.begins c.step-seen.new.seat.list c.step-value.new.seat.list c.take_list.new.seat.list taken.0 v c.step-seen.new.seat.view c.take_list.new.seat.view d
    c.requires.place (sym c.is_free_for.ensures ∙ c.if-is_free_for.false) c.step-seen.ensures.view taken.1 c.step-value.ensures.view in
    subst (λ (p : Place). MaySendHome c.args.lock false (number_of d.own) p) (sym place) (refl, refl)

pub step-requires-clause-list : goal.step-requires-clause-list
step-requires-clause-list g c =
    let v : View = c.args.seat.now.view in let d : View = c.step-value.new.seat.view in let taken = c.take_list.ensures.view in
    let place = to_return c.args.lock c.args.old c.step-seen.result.old c.step-value.result.old c.args.begins c.step-seen.new.seat.list c.step-value.new.seat.list c.take_list.new.seat.list taken.0 v c.step-seen.new.seat.view c.take_list.new.seat.view d
    c.requires.place (sym c.is_free_for.ensures ∙ c.if-is_free_for.false) c.step-seen.ensures.view taken.1 c.step-value.ensures.view in
    c.step-value.ensures.list.0 refl refl ∙ ap (λ (p : Place). left_at p (number_of d.own)) (sym place)

pub returns-then-value-old-clause-view : goal.returns-then-value-old-clause-view
returns-then-value-old-clause-view g c =
    let l : ℕ = c.args.lock in let v : View = c.args.seat.now.view in let b = c.args.begins in let n : ℕ = c.step-seen.result.old in let m : ℕ = c.step-value.result.old in let o : ℕ = c.step.result.old in let taken = c.take_list.ensures.view in
    let made_here : List Made = made (Peek l b) n ∷ (taken.0 ++ (made (VarLoad l) m ∷ made_with (Unlock l false) o c.take_list.new.seat.list ∷ [])) in
    let is = compares l c.args.old n m o b c.step-seen.new.seat.list c.step-value.new.seat.list c.step.new.seat.list c.take_list.new.seat.list taken.0 v c.step-seen.new.seat.view c.take_list.new.seat.view c.step-value.new.seat.view c.step.new.seat.view
    c.requires.place (sym c.is_free_for.ensures ∙ c.if-is_free_for.false) c.step-seen.ensures.view taken.1 c.step-value.ensures.view c.step.ensures.view in
    (made_here, is ∙ (λ i. went v (cond (eq-eqb m c.args.old c.if-value-old.true i) (on_conflict (behind b v.place)) (on_outcome true v.surplus (behind b v.place))) made_here))

pub returns-else-value-old-clause-view : goal.returns-else-value-old-clause-view
returns-else-value-old-clause-view g c =
    let l : ℕ = c.args.lock in let v : View = c.args.seat.now.view in let b = c.args.begins in let n : ℕ = c.step-seen.result.old in let m : ℕ = c.step-value.result.old in let o : ℕ = c.step.result.old in let taken = c.take_list.ensures.view in
    let made_here : List Made = made (Peek l b) n ∷ (taken.0 ++ (made (VarLoad l) m ∷ made_with (Unlock l false) o c.take_list.new.seat.list ∷ [])) in
    let is = compares l c.args.old n m o b c.step-seen.new.seat.list c.step-value.new.seat.list c.step.new.seat.list c.take_list.new.seat.list taken.0 v c.step-seen.new.seat.view c.take_list.new.seat.view c.step-value.new.seat.view c.step.new.seat.view
    c.requires.place (sym c.is_free_for.ensures ∙ c.if-is_free_for.false) c.step-seen.ensures.view taken.1 c.step-value.ensures.view c.step.ensures.view in
    (made_here, is ∙ (λ i. went v (cond (ne_eqb m c.args.old c.if-value-old.false i) (on_conflict (behind b v.place)) (on_outcome true v.surplus (behind b v.place))) made_here))

pub returns-else-value-old-clause-finds : goal.returns-else-value-old-clause-finds
unfolding returns-else-value-old-clause-view
returns-else-value-old-clause-finds g c =
    let l : ℕ = c.args.lock in let n : ℕ = c.step-seen.result.old in let taken = c.take_list.ensures.view in
    let is = ap (λ (a : View). a.steps) (returns-else-value-old-clause-view g c).1 in
    (c.if-value-old.false, (made (Peek l c.args.begins) n ∷ taken.0, (made_with (Unlock l false) c.step.result.old c.take_list.new.seat.list ∷ [], is)))

pub returns-then-is_free_for-clause-program : goal.returns-then-is_free_for-clause-program
returns-then-is_free_for-clause-program g c = part_first c.args.begins (made (Peek c.args.lock c.args.begins) c.step-seen.result.old) c.args.seat.now.view c.step-seen.new.seat.view (ap (λ (a : View). a.steps) c.step-seen.ensures.view) refl refl

pub returns-then-value-old-clause-program : goal.returns-then-value-old-clause-program
returns-then-value-old-clause-program g c =
    let l : ℕ = c.args.lock in let b = c.args.begins in let v : View = c.args.seat.now.view in let a = c.step-seen.new.seat.view in let u = c.take_list.new.seat.view in let d = c.step-value.new.seat.view in let w = c.step.new.seat.view in let taken = c.take_list.ensures.view in
    let looked = part_first b (made (Peek l b) c.step-seen.result.old) v a (ap (λ (x : View). x.steps) c.step-seen.ensures.view) refl refl in let took = part_on b v a u looked taken.0 (ap (λ (x : View). x.steps) taken.1) c.take_list.ensures.program in
    let n : ℕ = c.step-value.result.old in let o : ℕ = c.step.result.old in let was_read = ap (λ (x : View). x.steps) c.step-value.ensures.view in let home = ap (λ (x : View). x.steps) c.step.ensures.view in
    let gone : Made = made_with (Unlock l false) o (left_at d.place (number_of d.own)) in
    part_on b v d w (part_on b v u d took (made (VarLoad l) n ∷ []) was_read (count_kept begins_call u d (made (VarLoad l) n) was_read refl)) (gone ∷ []) home (count_kept begins_call d w gone home refl)

pub returns-else-value-old-clause-program : goal.returns-else-value-old-clause-program
returns-else-value-old-clause-program g c =
    let l : ℕ = c.args.lock in let b = c.args.begins in let v : View = c.args.seat.now.view in let a = c.step-seen.new.seat.view in let u = c.take_list.new.seat.view in let d = c.step-value.new.seat.view in let w = c.step.new.seat.view in let taken = c.take_list.ensures.view in
    let looked = part_first b (made (Peek l b) c.step-seen.result.old) v a (ap (λ (x : View). x.steps) c.step-seen.ensures.view) refl refl in let took = part_on b v a u looked taken.0 (ap (λ (x : View). x.steps) taken.1) c.take_list.ensures.program in
    let n : ℕ = c.step-value.result.old in let o : ℕ = c.step.result.old in let was_read = ap (λ (x : View). x.steps) c.step-value.ensures.view in let home = ap (λ (x : View). x.steps) c.step.ensures.view in
    let gone : Made = made_with (Unlock l false) o (left_at d.place (number_of d.own)) in
    part_on b v d w (part_on b v u d took (made (VarLoad l) n ∷ []) was_read (count_kept begins_call u d (made (VarLoad l) n) was_read refl)) (gone ∷ []) home (count_kept begins_call d w gone home refl)

use Rattle.std.proofs.Common.{◌≡◌, ℕ, false, not, List, [], ◌∷◌, ◌++◌, Some, refl, ap, ◌∙◌, append_assoc}
use Rattle.lw_core.specs.declared.step.Call.TheVariants.{UpdateVar}
use Rattle.lw_core.specs.declared.step.LwStep.{LwStep}
use Rattle.lw_core.specs.declared.step.LwStep.TheVariants.{Unlock, VarStore}
use Rattle.lw_core.specs.declared.view.Frame.TheVariants.{Calling}
use Rattle.lw_core.specs.declared.view.Made.{Made}
use Rattle.lw_core.specs.declared.view.View.{View}
use Rattle.lw_core.specs.declared.view.Waiter.{Waiter}
use Rattle.lw_core.specs.Machine.{Place, in_hand, left_at, made, made_with, number_of, outer, published, taking}
use Rattle.lw_core.specs.Programs.{begins_call}
use Rattle.lw_core.specs.WaitLists.{lockers_from, until_free_from}
use Rattle.lw_core.proofs.Programs.{count_kept, counted_since, makes_on}
use Rattle.lwlock.specs.Wakes.{found_at, is_calling, marked_by, marking, takes_in_hand, told_by, updated_at}
use Rattle.lwlock_variable.proofs.update_var.Goals as goal

pub returns-clause-program : goal.returns-clause-program
returns-clause-program g c =
    let l : ℕ = c.args.lock in let k = UpdateVar l c.args.value in let v : View = c.args.seat.now.view in let a = c.take_list.new.seat.view in let b = c.step.new.seat.view in let d = c.mark.new.seat.view in let e = c.step-2.new.seat.view in let w = c.tell.new.seat.view in
    let n : ℕ = c.step.result.old in let o : ℕ = c.step-2.result.old in let stored = ap (λ (x : View). x.steps) c.step.ensures.view in let home = ap (λ (x : View). x.steps) c.step-2.ensures.view in let marked = c.mark.ensures.view in let told = c.tell.ensures.view in
    let updated = makes_on k v a b c.take_list.ensures.program (made (VarStore l c.args.value) n ∷ []) stored (count_kept begins_call a b (made (VarStore l c.args.value) n) stored refl) in
    let called = makes_on k v b d updated marked.0 (ap (λ (x : View). x.steps) marked.1.0) c.mark.ensures.program in
    let gone : Made = made_with (Unlock l false) o (left_at d.place (number_of d.own)) in
    makes_on k v e w (makes_on k v d e called (gone ∷ []) home (count_kept begins_call d e gone home refl)) told.0 (ap (λ (x : View). x.steps) told.1.0) c.tell.ensures.program

in_order : (v taking marked told : List Made) (x y : Made) → (((((v ++ taking) ++ x ∷ []) ++ marked) ++ y ∷ []) ++ told) ≡ v ++ (taking ++ (x ∷ (marked ++ (y ∷ told))))
in_order v taking marked told x y = simp append_assoc

pub returns-clause-woken : goal.returns-clause-woken
returns-clause-woken g c =
    let l : ℕ = c.args.lock in let v : View = c.args.seat.now.view in let a = c.take_list.new.seat.view in let d = c.mark.new.seat.view in let b = c.step.new.seat.view in let took = c.take_list.ensures.view in let taken = c.take_list.ensures.found in let marked = c.mark.ensures.view in let told = c.tell.ensures.view in
    let found : List Waiter = c.take_list.new.seat.list in let o : ℕ = c.step-2.result.old in
    let at : b.place ≡ Calling l found [] (until_free_from found) ∷ [] = ap (λ (s : View). s.place) c.step.ensures.view ∙ (ap (λ (s : View). published s.place) took.1 ∙ ap (λ (p : Place). published (in_hand found (outer (taking (Some (UpdateVar l c.args.value)) p)))) c.requires.idle) in
    let sent : left_at d.place (number_of d.own) ≡ lockers_from found = ap (λ (s : View). left_at s.place (number_of s.own)) marked.1.0
    ∙ ap (λ (p : Place). left_at (marking (is_calling p) l (updated_at p) (found_at p) c.take_until_free-called.result.items [] ∷ []) (number_of b.own)) at in
    let x : Made = made (VarStore l c.args.value) c.step.result.old in let y : Made = made_with (Unlock l false) o (lockers_from found) in
    let called : c.take_until_free-called.result.items ≡ until_free_from found = c.take_until_free-called.ensures.taken ∙ ap until_free_from (c.list.ensures.value ∙ c.step.ensures.list.0 refl refl) in record {
      found = found;
      taking = taken.more;
      old = c.step.result.old;
      marks = marked.0;
      home = o;
      since = told.0;
      steps = ap (λ (s : View). s.steps) told.1.0
          ∙ (ap (λ (s : View). s.steps ++ told.0) c.step-2.ensures.view
          ∙ ((λ i. (d.steps ++ made_with (Unlock l false) o (sent i) ∷ []) ++ told.0)
          ∙ (ap (λ (s : View). (s.steps ++ y ∷ []) ++ told.0) marked.1.0
          ∙ (ap (λ (s : View). ((s.steps ++ marked.0) ++ y ∷ []) ++ told.0) c.step.ensures.view ∙ (ap (λ (s : List Made). (((s ++ x ∷ []) ++ marked.0) ++ y ∷ []) ++ told.0) taken.steps ∙ in_order v.steps taken.more marked.0 told.0 x y)))));
      taken = taken.last;
      only_took = counted_since (λ (k : LwStep). not (takes_in_hand k)) v a taken.more taken.steps c.take_list.ensures.took;
      marked = marked.1.1 ∙ ap marked_by called;
      told = told.1.1 ∙ ap told_by called;
    }

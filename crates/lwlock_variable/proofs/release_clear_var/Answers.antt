use Rattle.std.proofs.Common.{◌≡◌, ℕ, false, not, List, [], ◌∷◌, ◌++◌, Some, refl, ap, ◌∙◌, append_assoc}
use Rattle.lw_core.specs.declared.step.Call.TheVariants.{ReleaseClearVar}
use Rattle.lw_core.specs.declared.step.LwStep.{LwStep}
use Rattle.lw_core.specs.declared.step.LwStep.TheVariants.{Unlock, VarStore}
use Rattle.lw_core.specs.declared.view.Made.{Made}
use Rattle.lw_core.specs.declared.view.View.{View}
use Rattle.lw_core.specs.declared.view.Waiter.{Waiter}
use Rattle.lw_core.specs.Machine.{Place, in_hand, left_at, made, made_with, mode_in, number_of, outer, published, taking}
use Rattle.lw_core.specs.Programs.{begins_call}
use Rattle.lw_core.proofs.Programs.{count_kept, counted_since, makes_on}
use Rattle.lwlock.specs.Wakes.{takes_in_hand}
use Rattle.lwlock_variable.proofs.release_clear_var.Goals as goal

pub returns-clause-program : goal.returns-clause-program
returns-clause-program g c =
    let l : ℕ = c.args.lock in let k = ReleaseClearVar l c.args.value in let v : View = c.args.seat.now.view in let a = c.take_list.new.seat.view in let b = c.step.new.seat.view in let d = c.step-2.new.seat.view in
    let n : ℕ = c.step.result.old in let o : ℕ = c.step-2.result.old in let stored = ap (λ (x : View). x.steps) c.step.ensures.view in let home = ap (λ (x : View). x.steps) c.step-2.ensures.view in let released = c.let_go.ensures.view in
    let updated = makes_on k v a b c.take_list.ensures.program (made (VarStore l c.args.value) n ∷ []) stored (count_kept begins_call a b (made (VarStore l c.args.value) n) stored refl) in
    let gone : Made = made_with (Unlock l false) o (left_at b.place (number_of b.own)) in
    makes_on k v d c.let_go.new.seat.view (makes_on k v b d updated (gone ∷ []) home (count_kept begins_call b d gone home refl)) released.0 (ap (λ (x : View). x.steps) released.1) c.let_go.ensures.program

in_order : (v taking : List Made) (x y : Made) → (((v ++ taking) ++ x ∷ []) ++ y ∷ []) ≡ v ++ (taking ++ (x ∷ y ∷ []))
in_order v taking x y = simp append_assoc

pub returns-clause-woken : goal.returns-clause-woken
returns-clause-woken g c =
    let l : ℕ = c.args.lock in let v : View = c.args.seat.now.view in let a = c.take_list.new.seat.view in let b = c.step.new.seat.view in let d = c.step-2.new.seat.view in let took = c.take_list.ensures.view in let taken = c.take_list.ensures.found in
    let found : List Waiter = c.take_list.new.seat.list in let sent : left_at b.place (number_of b.own) ≡ found = ap (λ (s : View). left_at s.place (number_of s.own)) c.step.ensures.view
    ∙ (ap (λ (s : View). left_at (published s.place) (number_of s.own)) took.1 ∙ ap (λ (p : Place). left_at (published (in_hand found (outer (taking (Some (ReleaseClearVar l c.args.value)) p)))) (number_of v.own)) c.requires.idle) in
    let x : Made = made (VarStore l c.args.value) c.step.result.old in let y : Made = made_with (Unlock l false) c.step-2.result.old found in record {
      found = found;
      taking = taken.more;
      old = c.step.result.old;
      home = c.step-2.result.old;
      stored = d;
      steps = ap (λ (s : View). s.steps) c.step-2.ensures.view ∙ ((λ i. b.steps ++ made_with (Unlock l false) c.step-2.result.old (sent i) ∷ []) ∙ (ap (λ (s : View). s.steps ++ y ∷ []) c.step.ensures.view ∙ (ap (λ (s : List Made). (s ++ x ∷ []) ++ y ∷ []) taken.steps ∙ in_order v.steps taken.more x y)));
      taken = taken.last;
      only_took = counted_since (λ (k : LwStep). not (takes_in_hand k)) v a taken.more taken.steps c.take_list.ensures.took;
      held = ap (mode_in l) c.step-2.ensures.view ∙ (ap (mode_in l) c.step.ensures.view ∙ (ap (mode_in l) took.1 ∙ c.requires.held));
      woken = c.let_go.ensures.woken;
    }

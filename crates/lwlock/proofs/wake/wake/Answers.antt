use Rattle.std.proofs.Common.{◌≡◌, not, List, [], ◌∷◌, ◌++◌, refl, sym, ap, ◌∙◌, subst, append_assoc}
use Rattle.lw_core.specs.declared.step.LwStep.{LwStep}
use Rattle.lw_core.specs.declared.step.LwStep.TheVariants.{Wake}
use Rattle.lw_core.specs.declared.view.Made.{Made}
use Rattle.lw_core.specs.declared.view.View.{View}
use Rattle.lw_core.specs.declared.view.Waiter.{Waiter}
use Rattle.lw_core.specs.Machine.{Place, in_hand, made_with, outer, woken_word}
use Rattle.lw_core.specs.WaitLists.{taken_from, kept_from}
use Rattle.lw_core.proofs.Programs.{counted_since}
use Rattle.lwlock.specs.Wakes.{TakesLast, found_at, marked_by, takes_in_hand, told_by, updated_at, is_calling}
use Rattle.lwlock.proofs.Telling.{marks_found}
use Rattle.lwlock.proofs.wake.wake.Goals as goal

in_order : (v taking marks seeking since : List Made) (x : Made) → ((((v ++ taking) ++ marks) ++ (seeking ++ x ∷ [])) ++ since) ≡ v ++ (taking ++ (marks ++ (seeking ++ (x ∷ since))))
in_order v taking marks seeking since x = simp append_assoc

pub returns-clause-woken : goal.returns-clause-woken
returns-clause-woken g c =
    let l = c.args.lock in let v = c.args.seat.now.view in let a = c.take_list.new.seat.view in let b = c.mark.new.seat.view in let list = c.take_list.new.seat.list in
    let took = c.take_list.ensures.view in let list_taken = c.take_list.ensures.found in let marked = c.mark.ensures.view in let x = c.detach.ensures.exchanged in let told = c.tell.ensures.view in
    let hand : found_at a.place ≡ list = ap (λ (x : View). found_at x.place) took.1 ∙ ap (λ (p : Place). found_at (in_hand list (outer p))) c.requires.place in
    let found : found_at b.place ≡ list = ap (λ (x : View). found_at x.place) marked.1.0 ∙ (marks_found (is_calling a.place) l (updated_at a.place) (found_at a.place) c.part-taken.result.items [] [] ∙ hand) in
    let taken : c.part-taken.result.items ≡ taken_from (found_at b.place) = c.part-taken.ensures.taken ∙ ap taken_from (c.list.ensures.value ∙ sym found) in
    let last : Made = made_with (Wake l x.word (woken_word (taken_from (found_at b.place)) (kept_from (found_at b.place)) x.word)) x.word (kept_from (found_at b.place)) in (
      list_taken.more ++ (marked.0 ++ (x.seeking ++ (last ∷ told.0))),
      (
        ap (λ (s : View). s.steps) told.1.0
            ∙ (ap (λ (s : List Made). s ++ told.0) (x.steps ∙ ap (λ (s : List Made). s ++ (x.seeking ++ last ∷ [])) (ap (λ (s : View). s.steps) marked.1.0 ∙ ap (λ (s : List Made). s ++ marked.0) list_taken.steps))
            ∙ in_order v.steps list_taken.more marked.0 x.seeking told.0 last),
        record {
          found = found_at b.place;
          word = x.word;
          taking = list_taken.more;
          marks = marked.0;
          seeking = x.seeking;
          since = told.0;
          split = refl;
          taken = subst (λ (ws : List Waiter). TakesLast l ws list_taken.more) (sym found) list_taken.last;
          only_took = counted_since (λ (k : LwStep). not (takes_in_hand k)) v a list_taken.more list_taken.steps c.take_list.ensures.took;
          marked = marked.1.1 ∙ ap marked_by taken;
          only_sought = x.only_sought;
          told = told.1.1 ∙ ap told_by taken;
        },
      ),
    )

-- Which list was taken in hand.
use Rattle.std.proofs.Common.{◌≡◌, ℕ, eqb, true, cond, List, [], ◌∷◌, ◌++◌, Option, refl, sym, ap, ◌∙◌, append_assoc}
use Rattle.std.proofs.lemmas.Bool.{eqb-true}
use Rattle.lw_core.specs.declared.step.Call.{Call}
use Rattle.lw_core.specs.declared.step.LwStep.TheVariants.{Lock}
use Rattle.lw_core.specs.declared.view.Made.{Made}
use Rattle.lw_core.specs.declared.view.View.{View}
use Rattle.lw_core.specs.declared.view.Waiter.{Waiter}
use Rattle.lw_core.specs.Machine.{made_with, next}
use Rattle.lw_core.specs.Words.{has_flag, locked}
use Rattle.lwlock.specs.Wakes.{TookList}

-- a step that found LOCKED clear took it
pub took_now : (l n : ℕ) (b : Option Call) (list : List Waiter) (v w : View) → w ≡ next (Lock l b) v n list → eqb (has_flag locked n) 0 ≡ true → TookList l list v w
took_now l n b list v w is clear = let last : Made = made_with (Lock l b) n list in record {
  more = last ∷ [];
  steps = ap (λ (s : View). s.steps) is ∙ (λ i. v.steps ++ made_with (Lock l b) n (cond (clear i) list []) ∷ []);
  last = record { word = n; clear = eqb-true (has_flag locked n) 0 clear; begins = b; before = []; split = refl };
}

-- some steps were made before
pub took_after : (l : ℕ) (list : List Waiter) (v u w : View) (more : List Made) → u.steps ≡ v.steps ++ more → TookList l list u w → TookList l list v w
took_after l list v u w more began took = let last = took.last in record {
  more = more ++ took.more;
  steps = took.steps ∙ (ap (λ (s : List Made). s ++ took.more) began ∙ append_assoc v.steps more took.more);
  last = record {
    word = last.word;
    clear = last.clear;
    begins = last.begins;
    before = more ++ last.before;
    split = ap (λ (s : List Made). more ++ s) last.split ∙ sym (append_assoc more last.before (made_with (Lock l last.begins) last.word list ∷ []));
  };
}

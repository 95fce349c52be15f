use Rattle.std.proofs.Common.{◌≡◌, ◌∙◌, ◌++◌, ◌+◌, ◌<◌, ◌≤◌, List, ℕ, [], map, length, drop, get_or, sym, ap, subst, append_assoc, append-nil, arith}
use Rattle.std.proofs.lemmas.List.{get_or-map, length-map}
use Rattle.wait_core.specs.declared.view.Kept.{Kept}
use Rattle.wait_script.specs.declared.homes.Home.{Home}
use Rattle.wait_script.specs.Waits.{list_text}
use Rattle.wait_script.specs.WaitScripts.{nothing}
use Rattle.wait_script.specs.WaitSketch.{kept_of}
use Rattle.script_play.specs.Texts.{texts_of}
use Rattle.script_play.proofs.TextFacts.{texts-more, texts-none}
use Rattle.wait_script.proofs.texts.push_lists.Goals as goal

pub lists-preserved : goal.lists-preserved
lists-preserved c =
    let text : ℕ → Kept → List ℕ = list_text in
    let ws : List Kept = map kept_of c.args.homes.now in
    let w = c.lists.condition in
    let inside : w < length ws = subst (λ (n : ℕ). w < n) (sym (length-map c.args.homes.now kept_of)) c.lists-test.true in
    let this : Home = c.index-homes-condition.result in
    let is : get_or ws w nothing ≡ kept_of this = get_or-map kept_of c.args.homes.now w this nothing c.lists-test.true ∙ ap kept_of (sym c.index-homes-condition.is) in
    let rest = texts_of text (drop (w + 1) ws) (w + 1) in
    c.lists.invariant ∙ ap (λ (t : List ℕ). c.lists.out.items ++ t) (texts-more text ws w w nothing inside)
    ∙ sym (append_assoc c.lists.out.items (text w (get_or ws w nothing)) rest) ∙ ap (λ (t : Kept). (c.lists.out.items ++ text w t) ++ rest) is ∙ ap (λ (t : List ℕ). t ++ rest) (sym c.in_ok-push_list.ensures)

pub returns : goal.returns
returns c =
    let text : ℕ → Kept → List ℕ = list_text in
    let ws : List Kept = map kept_of c.args.homes.now in
    let past : length ws ≤ c.lists.condition = subst (λ (n : ℕ). n ≤ c.lists.condition) (sym (length-map c.args.homes.now kept_of)) (omega arith) in
    let none : texts_of text (drop c.lists.condition ws) c.lists.condition ≡ [] = texts-none text ws c.lists.condition c.lists.condition past in
    sym (c.lists.invariant ∙ rw none (append-nil c.lists.out.items))

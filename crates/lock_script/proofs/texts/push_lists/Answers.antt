use Rattle.std.proofs.Common.{◌≡◌, ◌∙◌, ◌++◌, ◌+◌, ◌<◌, ◌≤◌, List, Vec, Global, ℕ, [], map, length, drop, get_or, sym, ap, subst, append_assoc, append-nil, arith}
use Rattle.std.proofs.lemmas.List.{get_or-map, length-map}
use Rattle.lw_core.specs.declared.view.Waiter.{Waiter}
use Rattle.lock_script.specs.Locks.{list_text}
use Rattle.script_play.specs.Texts.{texts_of}
use Rattle.script_play.proofs.TextFacts.{texts-more, texts-none}
use Rattle.lock_script.proofs.texts.push_lists.Goals as goal

pub lists-preserved : goal.lists-preserved
lists-preserved c =
    let items : Vec Waiter Global → List Waiter = λ h. h.items in
    let ws = map items c.args.homes.now in
    let w = c.lists.lock in
    let inside : w < length ws = subst (λ (n : ℕ). w < n) (sym (length-map c.args.homes.now items)) c.lists-test.true in
    let this : Vec Waiter Global = c.index-homes-lock.result in
    let is : get_or ws w [] ≡ c.as_slice.result.now = get_or-map items c.args.homes.now w this [] c.lists-test.true ∙ ap items (sym c.index-homes-lock.is) ∙ sym c.as_slice.ensures.value in
    let rest = texts_of list_text (drop (w + 1) ws) (w + 1) in
    c.lists.invariant ∙ ap (λ (t : List ℕ). c.lists.out.items ++ t) (texts-more list_text ws w w [] inside)
    ∙ sym (append_assoc c.lists.out.items (list_text w (get_or ws w [])) rest) ∙ ap (λ (t : List Waiter). (c.lists.out.items ++ list_text w t) ++ rest) is ∙ ap (λ (t : List ℕ). t ++ rest) (sym c.in_ok-push_list.ensures)

pub returns : goal.returns
returns c =
    let items : Vec Waiter Global → List Waiter = λ h. h.items in
    let ws = map items c.args.homes.now in
    let past : length ws ≤ c.lists.lock = subst (λ (n : ℕ). n ≤ c.lists.lock) (sym (length-map c.args.homes.now items)) (omega arith) in
    let none : texts_of list_text (drop c.lists.lock ws) c.lists.lock ≡ [] = texts-none list_text ws c.lists.lock c.lists.lock past in
    sym (c.lists.invariant ∙ rw none (append-nil c.lists.out.items))

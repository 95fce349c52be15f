use Rattle.std.proofs.Common.{◌≡◌, ◌∙◌, ◌++◌, ◌+◌, ◌<◌, ◌≤◌, List, ℕ, [], map, length, drop, get_or, sym, ap, subst, append_assoc, append-nil, arith}
use Rattle.std.proofs.lemmas.List.{get_or-map, length-map}
use Rattle.wait_core.specs.declared.view.Kept.{Kept}
use Rattle.wait_script.specs.declared.homes.Home.{Home}
use Rattle.wait_script.specs.Waits.{record_text}
use Rattle.wait_script.specs.WaitScripts.{nothing}
use Rattle.wait_script.specs.WaitSketch.{kept_of}
use Rattle.script_play.specs.Texts.{texts_of}
use Rattle.script_play.proofs.TextFacts.{texts-more, texts-none}
use Rattle.wait_script.proofs.texts.push_records.Goals as goal

pub records-preserved : goal.records-preserved
records-preserved c =
    let text : ℕ → Kept → List ℕ = (record_text c.args.phase) in
    let ws : List Kept = map kept_of c.args.homes.now in
    let w = c.records.barrier in
    let inside : w < length ws = subst (λ (n : ℕ). w < n) (sym (length-map c.args.homes.now kept_of)) c.records-test.true in
    let this : Home = c.index-homes-barrier.result in
    let is : get_or ws w nothing ≡ kept_of this = get_or-map kept_of c.args.homes.now w this nothing c.records-test.true ∙ ap kept_of (sym c.index-homes-barrier.is) in
    let rest = texts_of text (drop (w + 1) ws) (w + 1) in
    c.records.invariant ∙ ap (λ (t : List ℕ). c.records.out.items ++ t) (texts-more text ws w w nothing inside)
    ∙ sym (append_assoc c.records.out.items (text w (get_or ws w nothing)) rest) ∙ ap (λ (t : Kept). (c.records.out.items ++ text w t) ++ rest) is ∙ ap (λ (t : List ℕ). t ++ rest) (sym c.in_ok-push_record.ensures)

pub returns : goal.returns
returns c =
    let text : ℕ → Kept → List ℕ = (record_text c.args.phase) in
    let ws : List Kept = map kept_of c.args.homes.now in
    let past : length ws ≤ c.records.barrier = subst (λ (n : ℕ). n ≤ c.records.barrier) (sym (length-map c.args.homes.now kept_of)) (omega arith) in
    let none : texts_of text (drop c.records.barrier ws) c.records.barrier ≡ [] = texts-none text ws c.records.barrier c.records.barrier past in
    sym (c.records.invariant ∙ rw none (append-nil c.records.out.items))

use Rattle.std.proofs.Common.{◌≡◌, ◌∙◌, ◌++◌, ℕ, List, map, drop, take, sym, ap, subst, append_assoc, codes}
use Rattle.std.specs.Prelude.{OnOk}
use Rattle.std.proofs.lemmas.List.{drop-map, take-map}
use Rattle.wait_core.specs.declared.view.Kept.{Kept}
use Rattle.wait_core.specs.Words.{most_conditions}
use Rattle.script_play.specs.Texts.{texts_of}
use Rattle.wait_script.specs.declared.homes.Home.{Home}
use Rattle.wait_script.specs.declared.waits.Opening.{Opening}
use Rattle.wait_script.specs.Waits.{changed_word, list_text, record_text}
use Rattle.wait_script.specs.WaitSketch.{Sketch, ends, kept_of, stand_of}
use Rattle.wait_script.proofs.waits.WaitsMachine.end.Goals as goal

joined : (o a b x y p q : List ℕ) → p ≡ o ++ a → q ≡ p ++ b → q ++ (x ++ y) ≡ o ++ (a ++ b ++ x ++ y)
joined o a b x y p q ep eq = rw (eq, ep) (simp append_assoc)

pub returns : goal.returns
returns c =
    let o : Opening = c.self.inside.opening in
    let words : List ℕ = c.self.inside.words.items in
    let homes : List Home = c.self.inside.homes.items in
    let s : Sketch = record { opening = o; words = words; homes = map kept_of homes; stands = map stand_of c.self.inside.backends.items } in
    let before : List ℕ = c.args.out.now.items in
    let p : List ℕ = c.push.new.out.items in
    let q : List ℕ = c.push_changed.new.out.items in
    let changed : List ℕ → List ℕ = λ ws. texts_of (changed_word o.size) (drop 1 ws) 1 in
    let lists : List Kept → List ℕ = λ ks. texts_of list_text ks 0 in
    let records : List Kept → List ℕ = λ ks. texts_of (record_text o.phase) ks 0 in
    let e : q ++ (lists (map kept_of (take most_conditions c.as_slice-2.result.now)) ++ records (map kept_of (drop most_conditions c.as_slice-2.result.now))) ≡ before ++ ends c.args.self.now =
    ap (λ (hs : List Home). q ++ (lists (map kept_of (take most_conditions hs)) ++ records (map kept_of (drop most_conditions hs)))) c.as_slice-2.ensures.value
    ∙ ap (λ (ks : List Kept). q ++ (lists ks ++ records (map kept_of (drop most_conditions homes)))) (sym (take-map kept_of most_conditions homes))
    ∙ ap (λ (ks : List Kept). q ++ (lists (take most_conditions (map kept_of homes)) ++ records ks)) (sym (drop-map kept_of most_conditions homes))
    ∙ joined before (codes "final\n") (changed words) (lists (take most_conditions (map kept_of homes))) (records (drop most_conditions (map kept_of homes))) p q c.in_ok-push.ensures (c.in_ok-push_changed.ensures ∙ ap (λ (ws : List ℕ). p ++ changed ws) c.as_slice.ensures.value)
    ∙ ap (λ (t : Sketch). before ++ ends t) c.self.view_is in
    subst (λ (t : List ℕ). OnOk c.push_homes.result (c.push_homes.new.out.items ≡ t)) e c.push_homes.ensures

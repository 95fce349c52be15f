use Rattle.std.proofs.Common.{◌≡◌, ◌∙◌, ◌++◌, List, ℕ, ap, subst, append_assoc, codes}
use Rattle.std.specs.Prelude.{OnOk, decimal}
use Rattle.wait_script.specs.Waits.{record_line}
use Rattle.wait_script.proofs.texts.push_record_line.Goals as goal

-- numbers after their texts, and an end
joined : (o a b x y z u v w r t e p q s k l : List ℕ) → p ≡ o ++ (a ++ b) → q ≡ p ++ (x ++ y) → s ≡ q ++ (z ++ u) → k ≡ s ++ (v ++ w) → l ≡ k ++ (r ++ t) → l ++ e ≡ o ++ (a ++ b ++ x ++ y ++ z ++ u ++ v ++ w ++ r ++ t ++ e)
joined o a b x y z u v w r t e p q s k l ep eq es ek el = rw (el, ek, es, eq, ep) (simp append_assoc)

pub returns : goal.returns
returns c =
    let f = c.args.found in
    let o : List ℕ = c.args.out.now.items in
    let e : c.push_counted-5.new.out.items ++ codes "\n" ≡ o ++ record_line c.args.barrier f =
    joined o (codes "B") (decimal c.args.barrier) (codes " phase ") (decimal f.phase) (codes " participants ") (decimal f.participants) (codes " arrived ") (decimal f.arrived) (codes " elected ") (decimal f.elected) (codes "\n")
    c.push_counted.new.out.items c.push_counted-2.new.out.items c.push_counted-3.new.out.items c.push_counted-4.new.out.items c.push_counted-5.new.out.items
    c.in_ok-push_counted.ensures c.in_ok-push_counted-2.ensures (c.in_ok-push_counted-3.ensures ∙ ap (λ (n : ℕ). c.push_counted-2.new.out.items ++ (codes " participants " ++ decimal n)) c.from.ensures)
    (c.in_ok-push_counted-4.ensures ∙ ap (λ (n : ℕ). c.push_counted-3.new.out.items ++ (codes " arrived " ++ decimal n)) c.from-2.ensures) c.in_ok-push_counted-5.ensures in
    subst (λ (t : List ℕ). OnOk c.push.result (c.push.new.out.items ≡ t)) e c.push.ensures

use Rattle.std.proofs.Common.{◌∙◌, ◌++◌, ℕ, [], ◌∷◌, List, Vec, Global, map, sym, ap, arith}
use Rattle.std.proofs.lemmas.List.FromFn.{map-range_with_len_more}
use Rattle.std.proofs.lemmas.List.{map-append}
use Rattle.lw_core.specs.declared.view.Waiter.{Waiter}
use Rattle.lock_script.proofs.locks.first_homes.Goals as goal

pub locks-preserved : goal.locks-preserved
locks-preserved c =
    let items : Vec Waiter Global → List Waiter = λ h. h.items in
    let none : ℕ → List Waiter = λ _. [] in
    let more = map-range_with_len_more none 0 c.locks.lock c.locks.lock (omega arith) in
    ap (λ (t : List (Vec Waiter Global)). map items t) c.in_ok-push.ensures.items ∙ map-append items c.locks.homes.items (c.new.result ∷ []) ∙ ap (λ (t : List Waiter). map items c.locks.homes.items ++ t ∷ []) c.new.ensures.items
    ∙ ap (λ (t : List (List Waiter)). t ++ [] ∷ []) c.locks.invariant ∙ sym more

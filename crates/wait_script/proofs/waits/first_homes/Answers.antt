use Rattle.std.proofs.Common.{◌≡◌, ◌∙◌, ◌++◌, ℕ, [], ◌∷◌, List, map, sym, ap, arith}
use Rattle.std.specs.List.{range_with_len}
use Rattle.std.proofs.lemmas.List.FromFn.{map-range_with_len_more}
use Rattle.std.proofs.lemmas.List.{map-append}
use Rattle.wait_core.specs.declared.view.Kept.{Kept}
use Rattle.wait_core.specs.Words.{slots_in}
use Rattle.wait_script.specs.declared.homes.Home.{Home}
use Rattle.wait_script.specs.WaitScripts.{first_home}
use Rattle.wait_script.specs.WaitSketch.{kept_of}
use Rattle.wait_script.proofs.waits.first_homes.Goals as goal

pub slots-preserved : goal.slots-preserved
slots-preserved c =
    let first : ℕ → Kept = λ _. first_home c.args.opening.phase in
    let more = map-range_with_len_more first 0 c.slots.slot c.slots.slot (omega arith) in
    ap (λ (t : List Home). map kept_of t) c.in_ok-push.ensures.items ∙ map-append kept_of c.slots.homes.items (c.first_home.result ∷ []) ∙ ap (λ (t : Kept). map kept_of c.slots.homes.items ++ t ∷ []) c.first_home.ensures
    ∙ ap (λ (t : List Kept). t ++ first_home c.args.opening.phase ∷ []) c.slots.invariant ∙ sym more

pub returns : goal.returns
returns c =
    let first : ℕ → Kept = λ _. first_home c.args.opening.phase in
    let all : c.slots.slot ≡ slots_in c.args.opening.size = omega arith in
    c.slots.invariant ∙ ap (λ (n : ℕ). map first (range_with_len 0 n)) all

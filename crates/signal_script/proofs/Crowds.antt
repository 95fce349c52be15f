-- A script's opening meets the rule: its table's backends were drawn one after the other.
use Rattle.std.proofs.Common.{◌≡◌, ◌∙◌, ℕ, zero, suc, ◌+◌, ◌-◌, ◌<◌, ◌≤◌, eqb, Bool, cond, List, [], ◌∷◌, ◌++◌, map, length, set, get_or, None, Some, refl, sym, ap, subst, arith, add-one, get_or-set_same, get_or-set_other}
use mathlib.Core.Logic.{dite}
use native.Mathlib.Decide.{ℕ_discrete}
use Rattle.std.specs.List.{range_with_len}
use Rattle.std.proofs.lemmas.Bool.{ne_eqb}
use Rattle.std.proofs.lemmas.List.{length-set, set-set}
use Rattle.std.proofs.lemmas.List.FromFn.{get_or-map-range_with_len, length-map-range_with_len, map-range_with_len_more}
use Rattle.seat_roster.proofs.Stretches.{map_twice}
use Rattle.signal_core.specs.declared.view.About.{About}
use Rattle.signal_core.specs.declared.view.SigView.{SigView}
use Rattle.signal_core.specs.Words.{Opens, opened, word_count, worn}
use Rattle.signal_core.specs.Machine.{SigState}
use Rattle.signal_core.specs.Rule.{Rule}
use Rattle.signal_core.specs.Runs.{after_draw, after_seat, draw, seat}
use Rattle.signal_core.specs.Seating.{fresh, with_drawn}
use Rattle.signal_core.proofs.Openings.{opens}
use Rattle.signal_core.proofs.RunsKept.{step_holds}
use Rattle.script_play.proofs.ListFacts.{set-same}
use Rattle.signal_script.specs.SignalScripts.{Seat, first_seats, first_view, first_words, state_of}
use Rattle.signal_script.specs.Passed.{anything}

-- the first seat, which drew so many numbers, and those whom it drew
abbrev head : ℕ → SigView
head j = record (fresh (Some 0)) { drawn = j }

abbrev others : ℕ → List SigView
others zero = []
others (suc j) = others j ++ fresh (Some (j + 1)) ∷ []

abbrev with_views : List ℕ → List SigView → SigState
with_views words views = record { words = words; homes = []; views = views }

abbrev crowd : List ℕ → ℕ → SigState
crowd words j = with_views (set words 0 (j + 1)) (head j ∷ others j)

module _ (z : About) (words : List ℕ) (some : 0 < z.procs) (most : z.procs ≤ 64) (low : z.generation ≤ worn) (open_is : Opens z words) where
  rule_of_crowd : (j : ℕ) → j < z.procs → Rule anything z (crowd words j)
  rule_of_crowd zero below =
      let first : 1 ≡ get_or words 0 0 = sym (open_is.1 0 (omega arith)) in
      let same : set words 0 1 ≡ words = ap (λ (n : ℕ). set words 0 n) first ∙ set-same 0 words 0 in
      subst (λ (ws : List ℕ). Rule anything z (with_views ws (fresh (Some 0) ∷ []))) (sym same) (opens anything z words [] some most low open_is)
  rule_of_crowd (suc j) below =
      let s : SigState = crowd words j in
      let v : SigView = head j in
      let drawn : SigState = after_draw s 0 v in
      let seated : SigState = after_seat drawn 0 (with_drawn v) in
      let one : Rule anything z drawn = step_holds anything z s drawn (0, draw) (rule_of_crowd j (omega arith)) (v, 0, refl, refl, (refl, refl, (omega arith), refl)) in
      let two : Rule anything z seated = step_holds anything z drawn seated (0, seat) one (with_drawn v, 0, refl, refl, ((j + 1, refl), refl)) in
      let wide : 0 < length words = omega (arith, open_is.0) in
      let same : set (set words 0 (j + 1)) 0 (get_or (set words 0 (j + 1)) 0 0 + 1) ≡ set words 0 (suc j + 1) =
      set-set words 0 (j + 1) (get_or (set words 0 (j + 1)) 0 0 + 1) ∙ ap (λ (n : ℕ). set words 0 n) (ap (λ (n : ℕ). n + 1) (get_or-set_same words 0 (j + 1) 0 wide) ∙ (omega arith)) in
      let three : Rule anything z (with_views (set words 0 (suc j + 1)) (head (j + 1) ∷ others (suc j))) = subst (λ (ws : List ℕ). Rule anything z (with_views ws (head (j + 1) ∷ others (suc j)))) same two in
      subst (λ (n : ℕ). Rule anything z (with_views (set words 0 (suc j + 1)) (head n ∷ others (suc j)))) (add-one j) three

-- the views of a script's seats
views_are : (d j : ℕ) → map (λ p. let v : SigView = record (fresh (Some p)) { drawn = cond (eqb p 0) d 0 } in v) (range_with_len 0 (j + 1)) ≡ head d ∷ others j
views_are d zero = refl
views_are d (suc j) =
    let g : ℕ → SigView = λ p. record (fresh (Some p)) { drawn = cond (eqb p 0) d 0 } in
    let last : g (suc j) ≡ fresh (Some (j + 1)) = ap (λ (b : Bool). let v : SigView = record (fresh (Some (suc j))) { drawn = cond b d 0 } in v) (ne_eqb (suc j) 0 (λ e. omega arith)) ∙ ap (λ (n : ℕ). fresh (Some n)) (sym (add-one j)) in
    map-range_with_len_more g 0 (suc j) (suc j) (omega arith) ∙ ap (λ (t : List SigView). t ++ g (suc j) ∷ []) (ap (λ (n : ℕ). map g (range_with_len 0 n)) (sym (add-one j)) ∙ views_are d j) ∙ ap (λ (v : SigView). head d ∷ (others j ++ v ∷ [])) last

pub opening_meets : (z : About) → 0 < z.procs → z.procs ≤ 64 → z.generation ≤ worn → Rule anything z (state_of (first_words z) (first_seats z))
opening_meets z some most low =
    let first : ℕ → ℕ = λ i. cond (eqb i 0) z.procs (opened z i) in
    let all : List ℕ = first_words z in
    let words : List ℕ = set all 0 1 in
    let long : length all ≡ word_count z = length-map-range_with_len first 0 (word_count z) in
    let there : (i : ℕ) → i < word_count z → get_or all i 0 ≡ first i = λ i below. get_or-map-range_with_len first 0 (word_count z) i i 0 below (omega arith) in
    let open_is : Opens z words = (
      length-set all 0 1 ∙ long,
      λ i below. dite (ℕ_discrete i 0)
          (λ is. ap (λ (j : ℕ). get_or words j 0) is ∙ get_or-set_same all 0 1 0 (omega (arith, long)) ∙ ap (λ (j : ℕ). opened z j) (sym is))
          (λ apart. get_or-set_other all 0 i 1 0 apart ∙ there i below ∙ ap (λ (b : Bool). cond b z.procs (opened z i)) (ne_eqb i 0 apart)),
    ) in
    let d : ℕ = z.procs - 1 in
    let counted : d + 1 ≡ z.procs = omega arith in
    let words_is : set words 0 (d + 1) ≡ all = set-set all 0 1 (d + 1) ∙ ap (λ (n : ℕ). set all 0 n) (counted ∙ sym (there 0 (omega arith))) ∙ set-same 0 all 0 in
    let views_is : head d ∷ others d ≡ map (λ x. x.view) (first_seats z) =
    sym (views_are d d) ∙ ap (λ (n : ℕ). map (first_view z) (range_with_len 0 n)) counted ∙ sym (map_twice (λ (x : Seat). x.view) (λ p. let x : Seat = record { view = first_view z p; ask = None } in x) (range_with_len 0 z.procs)) in
    subst (λ (ws : List ℕ). Rule anything z (with_views ws (map (λ x. x.view) (first_seats z)))) words_is
    (subst (λ (vs : List SigView). Rule anything z (with_views (set words 0 (d + 1)) vs)) views_is (rule_of_crowd z words some most low open_is d (omega arith)))

-- A script's opening meets the rule: its table's backends were drawn one after the other.
use Rattle.std.proofs.Common.{◌≡◌, ◌∙◌, ℕ, zero, suc, ◌+◌, ◌-◌, ◌<◌, ◌≤◌, eqb, Bool, cond, List, [], ◌∷◌, ◌++◌, drop, map, length, set, get_or, None, Some, refl, sym, ap, subst, arith, add-one, append-nil, eq-eqb, get_or-set_same, get_or-set_other}
use mathlib.Core.Logic.{dite}
use mathlib.Core.Option as maybe
use native.Mathlib.Decide.{ℕ_discrete}
use Rattle.std.specs.Prelude.{replicate}
use Rattle.std.specs.List.{range_with_len}
use Rattle.std.proofs.lemmas.Bool.{ne_eqb}
use Rattle.std.proofs.Math.Seq.{get_or-drop}
use Rattle.std.proofs.lemmas.List.{get_or-replicate, length-replicate, length-set, set-set}
use Rattle.std.proofs.lemmas.List.FromFn.{fill_by_all, length-map-range_with_len, map-range_with_len_more}
use Rattle.seat_roster.proofs.Stretches.{map_twice}
use Rattle.wait_core.specs.declared.view.Kept.{Kept}
use Rattle.wait_core.specs.declared.view.Size.{Size}
use Rattle.wait_core.specs.declared.view.WaitView.{WaitView}
use Rattle.wait_core.specs.Words.{client_base, last_phase, most_conditions, slots_in, spin_at}
use Rattle.wait_core.specs.Machine.{WaitState}
use Rattle.wait_core.specs.Rule.{Rule}
use Rattle.wait_core.specs.Seating.{fresh, with_drawn}
use Rattle.wait_core.specs.Slots.{AllAsOpened, OpeningSlots}
use Rattle.wait_core.proofs.Openings.{opens}
use Rattle.wait_core.proofs.SeatsKept.{draw_kept, seat_kept}
use Rattle.wait_script.specs.declared.waits.Opening.{Opening}
use Rattle.wait_script.specs.declared.waits.Told.TheVariants as told
use Rattle.wait_script.specs.WaitScripts.{Seat, first_home, first_homes, first_seats, first_view, first_words, opening_state, slots_of, unless_taken}
use Rattle.wait_script.specs.Passed.{no_client}

abbrev pub View : Type 0
View = WaitView (Unit {0})

-- the first seat, which drew so many numbers, and those whom it drew
abbrev head : ℕ → View
head j = record (fresh tt (Some 0)) { drawn = j }

abbrev others : ℕ → List View
others zero = []
others (suc j) = others j ++ fresh tt (Some (j + 1)) ∷ []

abbrev with_views : List ℕ → List (maybe.Option Kept) → List View → WaitState (Unit {0})
with_views words homes views = record { words = words; homes = homes; views = views }

-- the words of a table that drew so many numbers
abbrev row : Size → ℕ → List ℕ
row z n = set (replicate (client_base z) 0) 0 n

row-long : (z : Size) (n : ℕ) → length (row z n) ≡ client_base z
row-long z n = length-set (replicate (client_base z) 0) 0 n ∙ length-replicate {A = ℕ} (client_base z) 0

row-first : (z : Size) (n : ℕ) → get_or (row z n) 0 0 ≡ n
row-first z n = get_or-set_same (replicate (client_base z) 0) 0 n 0 (let l = length-replicate {A = ℕ} (client_base z) 0 in omega (arith, l))

row-next : (z : Size) (n i : ℕ) → (i ≡ 0 → ⊥) → i < client_base z → get_or (row z n) i 0 ≡ 0
row-next z n i apart below = get_or-set_other (replicate (client_base z) 0) 0 i n 0 apart ∙ get_or-replicate {A = ℕ} (client_base z) i 0 0 below

module _ (o : Opening) (some : 0 < o.size.procs) (most : o.size.procs ≤ 64) (few : o.size.cvs ≤ most_conditions) (wide : o.size.bars ≤ o.size.cvs) (low : o.phase ≤ last_phase) where
  abbrev Meets : WaitState (Unit {0}) → Type 0
  Meets = Rule no_client o.size o.phase 0

  abbrev slots : List (maybe.Option Kept)
  slots = map maybe.some (first_homes o)

  abbrev crowd : ℕ → WaitState (Unit {0})
  crowd j = with_views (row o.size (j + 1)) slots (head j ∷ others j)

  as_opened : (xs : List ℕ) → AllAsOpened o.phase (map (λ _. first_home o.phase) xs)
  as_opened [] = tt
  as_opened (x ∷ xs) = (record { nobody = refl; opening = refl }, as_opened xs)

  rule_of_first : Meets (crowd 0)
  rule_of_first =
      let new : OpeningSlots o.size o.phase (first_homes o) = record { count = length-map-range_with_len (λ _. first_home o.phase) 0 (slots_in o.size); each = as_opened (range_with_len 0 (slots_in o.size)) } in
      subst (λ (ws : List ℕ). Meets (with_views ws slots (fresh tt (Some 0) ∷ []))) (append-nil (row o.size 1)) (opens no_client o.size o.phase 0 (λ i. 0) tt (first_homes o) new some most few wide low tt)

  rule_of_crowd : (j : ℕ) → j < o.size.procs → Meets (crowd j)
  rule_of_crowd zero below = rule_of_first
  rule_of_crowd (suc j) below =
      let s : WaitState (Unit {0}) = crowd j in
      let v : View = head j in
      let words : List ℕ = set s.words 0 (get_or s.words 0 0 + 1) in
      let drawn : WaitState (Unit {0}) = with_views words slots (with_drawn v ∷ others j) in
      let one : Meets drawn = draw_kept no_client o.size o.phase 0 s (rule_of_crowd j (omega arith)) 0 v refl refl refl (omega arith) (get_or s.words 0 0 + 1) refl in
      let two : Meets (with_views words slots (head (j + 1) ∷ others (suc j))) = seat_kept no_client o.size o.phase 0 drawn one 0 (with_drawn v) refl (j + 1) refl tt (λ ws vs ps proc kept is. tt) in
      let same : words ≡ row o.size (suc j + 1) = set-set (replicate (client_base o.size) 0) 0 (j + 1) (get_or s.words 0 0 + 1) ∙ ap (row o.size) (ap (λ (n : ℕ). n + 1) (row-first o.size (j + 1)) ∙ (omega arith)) in
      let three : Meets (with_views (row o.size (suc j + 1)) slots (head (j + 1) ∷ others (suc j))) = subst (λ (ws : List ℕ). Meets (with_views ws slots (head (j + 1) ∷ others (suc j)))) same two in
      subst (λ (n : ℕ). Meets (with_views (row o.size (suc j + 1)) slots (head n ∷ others (suc j)))) (add-one j) three

-- the views of a script's seats
views_are : (d j : ℕ) → map (λ p. let v : View = record (fresh tt (Some p)) { drawn = cond (eqb p 0) d 0 } in v) (range_with_len 0 (j + 1)) ≡ head d ∷ others j
views_are d zero = refl
views_are d (suc j) =
    let g : ℕ → View = λ p. record (fresh tt (Some p)) { drawn = cond (eqb p 0) d 0 } in
    let last : g (suc j) ≡ fresh tt (Some (j + 1)) = ap (λ (b : Bool). let v : View = record (fresh tt (Some (suc j))) { drawn = cond b d 0 } in v) (ne_eqb (suc j) 0 (λ e. omega arith)) ∙ ap (λ (n : ℕ). fresh tt (Some n)) (sym (add-one j)) in
    map-range_with_len_more g 0 (suc j) (suc j) (omega arith) ∙ ap (λ (t : List View). t ++ g (suc j) ∷ []) (ap (λ (n : ℕ). map g (range_with_len 0 n)) (sym (add-one j)) ∙ views_are d j) ∙ ap (λ (v : View). head d ∷ (others j ++ v ∷ [])) last

-- the words of a script
words_are : (z : Size) → row z z.procs ≡ first_words z
words_are z = fill_by_all first (row z z.procs) (client_base z) 0 (row-long z z.procs) (λ i below. dite (ℕ_discrete i 0)
    (λ is. ap (λ (j : ℕ). get_or (row z z.procs) j 0) is ∙ row-first z z.procs ∙ ap (λ (b : Bool). cond b z.procs 0) (sym (eq-eqb i 0 is)))
    (λ apart. row-next z z.procs i apart below ∙ ap (λ (b : Bool). cond b z.procs 0) (sym (ne_eqb i 0 apart))))
  where
    first : ℕ → ℕ
    first i = cond (eqb i 0) z.procs 0

-- and all its slots are at home
all_home : (spins : List ℕ) (homes : List Kept) → ((x : ℕ) → x < length homes → get_or spins x 0 ≡ 0) → slots_of spins homes ≡ map maybe.some homes
all_home spins [] clear = refl
all_home [] (h ∷ homes) clear = ap (λ (t : List (maybe.Option Kept)). maybe.some h ∷ t) (all_home [] homes (λ x below. refl))
all_home (s ∷ spins) (h ∷ homes) clear =
    let here : unless_taken s h ≡ maybe.some h = ap (λ (b : Bool). cond b (maybe.some h) maybe.none) (eq-eqb s 0 (clear 0 (omega arith))) in
    let rest : slots_of spins homes ≡ map maybe.some homes = all_home spins homes (λ x below. clear (suc x) (omega arith)) in
    λ i. here i ∷ rest i

pub opening_meets : (o : Opening) → 0 < o.size.procs → o.size.procs ≤ 64 → o.size.cvs ≤ most_conditions → o.size.bars ≤ o.size.cvs → o.phase ≤ last_phase → Rule no_client o.size o.phase 0 (opening_state o)
opening_meets o some most few wide low =
    let z : Size = o.size in
    let d : ℕ = z.procs - 1 in
    let counted : d + 1 ≡ z.procs = omega arith in
    let homes : List Kept = first_homes o in
    let many : length homes ≡ slots_in z = length-map-range_with_len (λ _. first_home o.phase) 0 (slots_in z) in
    let clear : (x : ℕ) → x < length homes → get_or (drop (spin_at z 0) (row z z.procs)) x 0 ≡ 0 = λ x below. get_or-drop (spin_at z 0) (row z z.procs) x 0 ∙ row-next z z.procs (spin_at z 0 + x) (λ e. omega arith) (omega (arith, below, many)) in
    let slots_are : map maybe.some homes ≡ slots_of (drop (spin_at z 0) (first_words z)) homes = sym (all_home (drop (spin_at z 0) (row z z.procs)) homes clear) ∙ ap (λ (ws : List ℕ). slots_of (drop (spin_at z 0) ws) homes) (words_are z) in
    let views_is : head d ∷ others d ≡ map (λ x. x.view) (first_seats z) =
    sym (views_are d d) ∙ ap (λ (n : ℕ). map (first_view z) (range_with_len 0 n)) counted ∙ sym (map_twice (λ (x : Seat). x.view) (λ p. let x : Seat = record { view = first_view z p; ask = None; told = told.Nothing } in x) (range_with_len 0 z.procs)) in
    let words_is : row z (d + 1) ≡ first_words z = ap (row z) counted ∙ words_are z in
    let crowded : Rule no_client z o.phase 0 (with_views (row z (d + 1)) (map maybe.some homes) (head d ∷ others d)) = rule_of_crowd o some most few wide low d (omega arith) in
    subst (Rule no_client z o.phase 0) (λ i. with_views (words_is i) (slots_are i) (views_is i)) crowded

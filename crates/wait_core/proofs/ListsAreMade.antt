-- Each step leaves lists at home that the steps of the seats account for.
use Rattle.std.proofs.Common.{◌≡◌, ℕ, zero, suc, ◌<◌, eqb, Bool, true, false, cond, List, [], ◌∷◌, ◌++◌, length, map, get_or, set, Option, None, Some, refl, sym, ap, ◌∙◌, subst, arith, eqb-true}
use Rattle.std.proofs.lemmas.List.{map_push, length-map}
use mathlib.Core.Option as maybe
use lib.ListN.{get_elem?}
use lib.Seq.{map-set}
use Rattle.atomic_table.specs.Table.{homes_after, keeps, takes}
use Rattle.atomic_table.proofs.Lists.{at_map}
use Rattle.wait_core.specs.declared.step.WaitStep.{WaitStep}
use Rattle.wait_core.specs.declared.step.WaitStep.TheVariants.{Sload, Sset, Reset, Mstore, Mload, Byte, Look, Drain, Shload, Shstore, Take, Spin, Free}
use Rattle.wait_core.specs.declared.view.Kept.{Kept}
use Rattle.wait_core.specs.declared.view.Made.{Made}
use Rattle.wait_core.specs.declared.view.Size.{Size}
use Rattle.seat_roster.specs.WordsAreMade.{AreMade}
use Rattle.seat_roster.proofs.WordsAreMade.{one_more}
use Rattle.seat_roster.proofs.WordsAreMade as roster
use Rattle.seat_roster.proofs.Totals.{at_inside}
use Rattle.wait_core.specs.Words.{slot_of, slots_in}
use Rattle.wait_core.specs.Machine.{Place, number_of, left_at, list_of, made_with, act_of, carried}
use Rattle.wait_core.specs.Seating.{Doings}
use Rattle.wait_core.specs.Slots.{AllAsOpened}
use Rattle.wait_core.specs.Stances.{Homes}
use Rattle.wait_core.specs.WordsAreMade.{sign, all_steps}
use Rattle.wait_core.specs.ListsAreMade.{is_same, is_home, moves, at_homes, ListsAreMade}
use Rattle.wait_core.proofs.WordsAreMade.{took_over, stepless, both_made}

-- what a slot says of this list, where it is at home, and where it is out
home_bit : (list : List ℕ) (homes : Homes) (x : ℕ) (h : maybe.Option Kept) → get_elem? homes x ≡ maybe.some h → is_home list h ≡ get_or (map (is_home list) homes) x 0
home_bit list [] x h at = absurd (maybe.some-ne-none h (sym at))
home_bit list (k ∷ homes) zero h at = ap (is_home list) (sym (maybe.some-injective _ _ at))
home_bit list (k ∷ homes) (suc x) h at = home_bit list homes x h at

-- where the slot x gets h, what the slots say of a list changes there
slot_set : (list : List ℕ) (homes : Homes) (x : ℕ) (h : maybe.Option Kept) → set (at_homes list homes) (suc x) (is_home list h) ≡ at_homes list (set homes x h)
slot_set list homes x h = ap (λ (l : List ℕ). 0 ∷ l) (sym (map-set (is_home list) homes x h))

module _ (z : Size) where
  abbrev Accounts : List ℕ → Homes → List (List (ℕ × Made)) → Type 0
  Accounts list homes seats = AreMade (moves list) (λ i. is_same list []) (suc (slots_in z)) (at_homes list homes) seats

  -- what a step may find: a slot that it takes from is home with this, one that it frees is out
  abbrev pub Finds : WaitStep → ℕ → Kept → Homes → Type 0
  Finds (Take x begins) n found homes = n ≡ 0 → get_elem? homes (slot_of x) ≡ maybe.some (maybe.some found)
  Finds (Free x target) n found homes = get_elem? homes (slot_of x) ≡ maybe.some maybe.none
  Finds k n found homes = Unit {0}

  module _ (homes : Homes) (seats : List Doings) (id : ℕ) (v : Doings) (o : ℕ) (at : get_elem? seats id ≡ maybe.some v) (own : v.own ≡ Some o) (h : ListsAreMade z homes seats) where
    abbrev more : WaitStep → ℕ → List ℕ → Doings
    more k n list = record v { steps = v.steps ++ made_with k n list ∷ [] }

    -- a step that makes of the slots what its effect says
    counted : (k : WaitStep) (n : ℕ) (told : List ℕ) (after : Homes) (list : List ℕ)
        → (moves list).word o (made_with k n told) < suc (length homes)
        → (moves list).found (made_with k n told) ≡ get_or (at_homes list homes) ((moves list).word o (made_with k n told)) 0
        → set (at_homes list homes) ((moves list).word o (made_with k n told)) ((moves list).left (made_with k n told)) ≡ at_homes list after
        → Accounts list after (map all_steps (set seats id (more k n told)))
    counted k n told after list inside finds is = subst (λ (x : List ℕ × List (List (ℕ × Made))). AreMade (moves list) (λ i. is_same list []) (suc (slots_in z)) x.0 x.1) (λ i. (is i, sym (map-set all_steps seats id (more k n told)) i))
        (roster.made_step (moves list) (λ i. is_same list []) (suc (slots_in z)) (at_homes list homes) (map all_steps seats) (h list) id (all_steps v) (all_steps (more k n told)) (o, made_with k n told) (at_map all_steps seats id v at)
        (one_more (number_of v.own) o v.steps (map sign v.inherited) (made_with k n told) (ap number_of own)) (let l = length-map homes (is_home list) in omega arith) finds)

    -- that takes and frees no list
    untouched : (k : WaitStep) (n : ℕ) (told : List ℕ) (list : List ℕ) → (moves list).word o (made_with k n told) ≡ 0 → (moves list).found (made_with k n told) ≡ 0 → (moves list).left (made_with k n told) ≡ 0 → Accounts list homes (map all_steps (set seats id (more k n told)))
    untouched k n told list none finds leaves = counted k n told homes list (omega arith)
        (finds ∙ ap (λ (i : ℕ). get_or (at_homes list homes) i 0) (sym none))
        (λ i. set (at_homes list homes) (none i) (leaves i))

    taken_here : (k : WaitStep) (n x : ℕ) (found : Kept) (told : List ℕ) (list : List ℕ) → (moves list).word o (made_with k n told) ≡ suc x → (moves list).found (made_with k n told) ≡ is_same list found.list.items → (moves list).left (made_with k n told) ≡ 0
        → get_elem? homes x ≡ maybe.some (maybe.some found) → Accounts list (set homes x maybe.none) (map all_steps (set seats id (more k n told)))
    taken_here k n x found told list word finds leaves home = counted k n told (set homes x maybe.none) list (let inside = at_inside homes x (maybe.some found) home in omega arith)
        (finds ∙ (home_bit list homes x (maybe.some found) home ∙ ap (λ (i : ℕ). get_or (at_homes list homes) i 0) (sym word)))
        ((λ i. set (at_homes list homes) (word i) (leaves i)) ∙ slot_set list homes x maybe.none)

    freed_here : (k : WaitStep) (n x : ℕ) (left : Kept) (list : List ℕ) → (moves list).word o (made_with k n left.list.items) ≡ suc x → (moves list).found (made_with k n left.list.items) ≡ 0 → (moves list).left (made_with k n left.list.items) ≡ is_same list left.list.items
        → get_elem? homes x ≡ maybe.some maybe.none → Accounts list (set homes x (maybe.some left)) (map all_steps (set seats id (more k n left.list.items)))
    freed_here k n x left list word finds leaves home = counted k n left.list.items (set homes x (maybe.some left)) list (let inside = at_inside homes x maybe.none home in omega arith)
        (finds ∙ (home_bit list homes x maybe.none home ∙ ap (λ (i : ℕ). get_or (at_homes list homes) i 0) (sym word)))
        ((λ i. set (at_homes list homes) (word i) (leaves i)) ∙ slot_set list homes x (maybe.some left))

    -- a step of the machine
    pub lists_made_step : (k : WaitStep) (n : ℕ) (found : Kept) (place : Place) → Finds k n found homes
        → ListsAreMade z (homes_after homes (carried k o place) (act_of k n found)) (set seats id (more k n (list_of k n found o place)))
    lists_made_step (Take x begins) n found place ok list = by_word (eqb n 0) refl
      where
        by_word : (clear : Bool) → eqb n 0 ≡ clear → Accounts list (homes_after homes (carried (Take x begins) o place) (cond clear (takes (slot_of x) found) keeps)) (map all_steps (set seats id (more (Take x begins) n (cond clear found.list.items []))))
        by_word true e = taken_here (Take x begins) n (slot_of x) found found.list.items list (ap (λ (b : Bool). cond b (suc (slot_of x)) 0) e) (ap (λ (b : Bool). cond b (is_same list found.list.items) 0) e) refl (ok (eqb-true n 0 e))
        by_word false e = untouched (Take x begins) n [] list (ap (λ (b : Bool). cond b (suc (slot_of x)) 0) e) (ap (λ (b : Bool). cond b (is_same list []) 0) e) refl
    lists_made_step (Free x target) n found place ok list = freed_here (Free x target) n (slot_of x) (left_at o place) list refl refl refl ok
    lists_made_step (Sload q b) n found place ok list = untouched (Sload q b) n [] list refl refl refl
    lists_made_step (Sset q) n found place ok list = untouched (Sset q) n [] list refl refl refl
    lists_made_step (Reset b) n found place ok list = untouched (Reset b) n [] list refl refl refl
    lists_made_step (Mstore may) n found place ok list = untouched (Mstore may) n [] list refl refl refl
    lists_made_step (Mload q) n found place ok list = untouched (Mload q) n [] list refl refl refl
    lists_made_step (Byte q) n found place ok list = untouched (Byte q) n [] list refl refl refl
    lists_made_step Look n found place ok list = untouched Look n [] list refl refl refl
    lists_made_step Drain n found place ok list = untouched Drain n [] list refl refl refl
    lists_made_step (Shload b) n found place ok list = untouched (Shload b) n [] list refl refl refl
    lists_made_step (Shstore b) n found place ok list = untouched (Shstore b) n [] list refl refl refl
    lists_made_step (Spin x) n found place ok list = untouched (Spin x) n [] list refl refl refl

  -- a seat comes that made no step
  pub lists_made_snoc : (homes : Homes) (seats : List Doings) (own : Option ℕ) → ListsAreMade z homes seats → ListsAreMade z homes (seats ++ stepless own ∷ [])
  lists_made_snoc homes seats own h list = subst (Accounts list homes) (sym (map_push all_steps seats (stepless own))) (roster.made_snoc (moves list) (λ i. is_same list []) (suc (slots_in z)) (at_homes list homes) (map all_steps seats) (h list))

  -- a seat takes in another, and its steps
  pub lists_made_joined : (homes : Homes) (seats : List Doings) (id other : ℕ) (v w : Doings) → (other ≡ id → ⊥) → get_elem? seats id ≡ maybe.some v → get_elem? seats other ≡ maybe.some w → ListsAreMade z homes seats
      → ListsAreMade z homes (set (set seats id (took_over v w)) other (stepless None))
  lists_made_joined homes seats id other v w apart at there h list =
      subst (Accounts list homes) (sym (map-set all_steps (set seats id (took_over v w)) other (stepless None) ∙ ap (λ (l : List (List (ℕ × Made))). set l other []) (map-set all_steps seats id (took_over v w))))
      (roster.made_joined (moves list) (λ i. is_same list []) (suc (slots_in z)) (at_homes list homes) (map all_steps seats) (h list) id other (all_steps v) (all_steps w) (all_steps (took_over v w)) apart (at_map all_steps seats id v at) (at_map all_steps seats other w there) (both_made v w))

  -- the opening: nobody is on a list
  opened_bit : (phase : ℕ) (slots : List Kept) (list : List ℕ) (i : ℕ) → i < length slots → AllAsOpened phase slots → get_or (map (is_home list) (map maybe.some slots)) i 0 ≡ is_same list []
  opened_bit phase [] list i below all = absurd (omega arith)
  opened_bit phase (k ∷ slots) list zero below all = ap (is_same list) all.0.nobody
  opened_bit phase (k ∷ slots) list (suc i) below all = opened_bit phase slots list i (omega arith) all.1

  pub lists_made_open : (phase : ℕ) (slots : List Kept) (own : Option ℕ) → length slots ≡ slots_in z → AllAsOpened phase slots → ListsAreMade z (map maybe.some slots) (stepless own ∷ [])
  lists_made_open phase slots own long all list zero above below = absurd (omega arith)
  lists_made_open phase slots own long all list (suc i) above below = let a = opened_bit phase slots list i (omega arith) all in omega arith

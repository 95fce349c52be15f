-- A sentinel stays behind those who were on the list before it, for as long as they are.
use Rattle.std.proofs.Common.{◌≡◌, ◌≢◌, ◌⊎◌, ℕ, ◌<◌, ◌≤◌, Bool, true, false, cond, List, [], ◌∷◌, ◌++◌, length, set, None, Some, sym, refl, ap, ◌∙◌, subst, ⊎_elim, inl, inr, arith, ne_eqb}
use mathlib.Core.Logic.{dite}
use mathlib.Core.Option as maybe
use native.Mathlib.Decide.{ℕ_discrete}
use lib.ListN.{get_elem?}
use Rattle.wait_core.specs.declared.view.Frame.TheVariants.{Rousing}
use Rattle.wait_core.specs.declared.view.Kept.{Kept}
use Rattle.wait_core.specs.declared.view.Size.{Size}
use Rattle.seat_roster.specs.Roster.{times}
use Rattle.wait_core.specs.Words.{client_base, slots_in}
use Rattle.wait_core.specs.Lists.{is_listed, is_empty, rest_of, without, precedes}
use Rattle.wait_core.specs.Jobs.{resumed, rouses, rouses_on}
use Rattle.wait_core.specs.Machine.{Place}
use Rattle.wait_core.specs.Stances.{Stance, Homes, is_just, hand_at, sentinel_at, pops_at, times_on, order_on}
use Rattle.wait_core.specs.TargetsAreListed.{TargetsAreListed}
use Rattle.wait_core.proofs.Lists.{head_here, head_else, times_last, times_gone, not_listed, before_last, behind_joined, precedes_without, precedes_popped, stands_there, stands_behind}
use Rattle.wait_core.proofs.Turns.{in_hand, Sends, returns, stays_listed, joins, leaves, pops, signs, ends, Turn, stays, reaches, resets, takes, frees}
use Rattle.wait_core.proofs.Owning.{amount_same, amount_out, amount_sent, amount_apart, amount_held, Alone, own_counts, counts_most}
use Rattle.wait_core.proofs.SpinInOneHand.{Hands, SpinsAreFlags, one_hand, home_out, sends_hand}
use Rattle.wait_core.proofs.TargetsAreListed.{sends_listed}

-- p left a list by a step of its own, and belongs to none since; or this seat has popped it
abbrev pub LeftBy : ℕ → Stance → Type 0
LeftBy p w = ((w.own ≡ Some p) × (w.belongs ≡ None)) ⊎ (w.pops ≡ Some p)

-- LISTS. The free of another than q takes p off the list, or leaves it before q
abbrev IsOff : ℕ → List ℕ → Stance → Type 0
IsOff p left w = (times p left ≡ 0) × LeftBy p w

module _ (p q o c : ℕ) (found left : List ℕ) (v w : Stance) (own : v.own ≡ Some o) (apart : o ≢ q) (once : times p found ≤ 1) (mine : times o found ≤ is_just c v.belongs) (there : 1 ≤ precedes p q found) where
  same_order : left ≡ found → IsOff p left w ⊎ (1 ≤ precedes p q left)
  same_order e = inr (subst (λ (l : List ℕ). 1 ≤ precedes p q l) (sym e) there)

  popped_order : (x : ℕ) → found ≡ x ∷ left → (x ≡ p → LeftBy p w) → IsOff p left w ⊎ (1 ≤ precedes p q left)
  popped_order x e by = dite (ℕ_discrete x p)
      (λ (is : x ≡ p). let count = ap (times p) e in let head = head_here p x is in inl (omega arith, by is))
      (λ (ne : x ≢ p). let a = ap (precedes p q) e in let b = precedes_popped p q x left ne in inr (omega arith))

  sends_order : Sends o c found left v w → IsOff p left w ⊎ (1 ≤ precedes p q left)
  sends_order (returns b e still is) = same_order e
  sends_order (stays_listed h e some is) = same_order e
  sends_order (joins e none is) = let a = behind_joined p q o found in let b = ap (precedes p q) e in inr (omega arith)
  sends_order (leaves e here is) = dite (ℕ_discrete p o)
      (λ (same : p ≡ o). let gone : times p left ≡ 0 = ap (times p) e ∙ (ap (λ (n : ℕ). times n (without o found)) same ∙ times_gone o found) in inl (gone, inl (ap (λ (u : Stance). u.own) is ∙ (own ∙ ap Some (sym same)), ap (λ (u : Stance). u.belongs) is)))
      (λ (ne : p ≢ o). let a = ap (precedes p q) e in let b = precedes_without p q o found ne (λ e. apart (sym e)) in inr (omega arith))
  sends_order (pops x b e still is) = popped_order x e (λ same. inr (ap (λ (u : Stance). u.pops) is ∙ ap Some same))
  sends_order (signs x rest e f none quiet is) = dite (ℕ_discrete x p)
      (λ (same : x ≡ p). let count = ap (times p) e in let head = head_here p x same in let no = ap (is_just c) none in
      let ne : o ≢ p = λ (h : o ≡ p). let a : times o found ≡ times p found = ap (λ (n : ℕ). times n found) h in omega arith in
      let last = times_last p o rest ne in let gone = ap (times p) f in inl (omega arith, inr (ap (λ (u : Stance). u.pops) is ∙ ap Some same)))
      (λ (ne : x ≢ p). let a = ap (precedes p q) e in let b = precedes_popped p q x rest ne in let d = behind_joined p q o rest in let g = ap (precedes p q) f in inr (omega arith))
  sends_order (ends e here quiet is) = popped_order o e (λ same. inl (ap (λ (u : Stance). u.own) is ∙ (own ∙ ap Some same), ap (λ (u : Stance). u.belongs) is))

-- THE BROADCASTER. Its own free takes p off the list, or the sentinel is behind p
abbrev pub Goes : ℕ → ℕ → ℕ → List ℕ → Place → Type 0
Goes p q c left place = (hand_at place ≡ None) × (((times p left ≡ 0) × (pops_at place ≡ Some p)) ⊎ ((sentinel_at place ≡ Some c) × (1 ≤ precedes p q left)))

pub broadcast_goes : (p q c : ℕ) (behind : Place) (list : List ℕ) → p ≢ q → times p list ≤ 1 → 1 ≤ times p list → Goes p q c (cond (is_empty (rest_of list)) [] (rest_of list ++ q ∷ [])) (rouses c list behind)
broadcast_goes p q c behind [] ne once there = absurd (omega arith)
broadcast_goes p q c behind (x ∷ []) ne once there = dite (ℕ_discrete x p)
    (λ (is : x ≡ p). (refl, inl (refl, ap Some is))) (λ (other : x ≢ p). let none = head_else p x other in absurd (omega arith))
broadcast_goes p q c behind (x ∷ y ∷ rest) ne once there = dite (ℕ_discrete x p)
    (λ (is : x ≡ p). let head = head_here p x is in let last = times_last p q (y ∷ rest) (λ e. ne (sym e)) in (refl, inl (omega arith, ap Some is)))
    (λ (other : x ≢ p). let none = head_else p x other in (refl, inr (refl, before_last p q (y ∷ rest) (omega arith))))

pub rebroadcast_goes : (p q c : ℕ) (behind : Place) (list : List ℕ) → p ≢ q → times p list ≤ 1 → times q list ≤ 1 → 1 ≤ precedes p q list → Goes p q c (rest_of list) (rouses_on c q list behind)
rebroadcast_goes p q c behind [] ne once alone there = absurd (omega arith)
rebroadcast_goes p q c behind (x ∷ rest) ne once alone there = dite (ℕ_discrete x q)
    (λ (is : x ≡ q). let same = precedes_popped p q x rest (λ e. ne (sym e ∙ is)) in let more = stands_behind p q rest (omega arith) in let head = head_here q x is in absurd (omega arith))
    (λ (other : x ≢ q). subst (λ (b : Bool). Goes p q c rest (cond b (resumed behind) (Rousing c x (is_listed q rest) ∷ behind))) (sym (ne_eqb x q other)) (
      refl,
      dite (ℕ_discrete x p)
          (λ (is : x ≡ p). let head = head_here p x is in inl (omega arith, ap Some is))
          (λ (apart : x ≢ p). let same = precedes_popped p q x rest apart in inr (by_test (is_listed q rest) refl (stands_behind p q rest (omega arith)), omega arith)),
    ))
  where
    by_test : (b : Bool) → is_listed q rest ≡ b → 1 ≤ times q rest → sentinel_at (Rousing c x b ∷ behind) ≡ Some c
    by_test true e some = refl
    by_test false e some = let none = not_listed q rest e in absurd (omega arith)

-- TURNS. A turn of another, or of the seat of q where it has no list in hand
module _ (z : Size) (words : List ℕ) (homes : Homes) (seats : List Stance) (wide : client_base z ≤ length words) (flags : SpinsAreFlags z words) (hands : Hands z words homes seats) (alone : Alone seats)
    (listed : TargetsAreListed (slots_in z) homes seats) (id : ℕ) (v : Stance) (at : get_elem? seats id ≡ maybe.some v) (after : Homes) (i x : ℕ) (w : Stance) (p q c : ℕ) where
  -- p leaves the list, by a step of its own or of one who popped it
  pub record LeavesList : Type 0 where
    pub was : 1 ≤ times_on p c homes seats
    pub gone : times_on p c after (set seats id w) ≡ 0
    pub by : LeftBy p w

  abbrev Follows : Type 0
  Follows = LeavesList ⊎ (1 ≤ order_on p q c after (set seats id w))

  unmoved : after ≡ homes → w.hand ≡ v.hand → 1 ≤ order_on p q c homes seats → Follows
  unmoved stay hand there = inr (subst (λ (h : Homes). 1 ≤ order_on p q c h (set seats id w)) (sym stay) (let a = amount_same homes seats id v w at (precedes p q) refl c hand in omega arith))

  -- the list of c goes home
  sent : (o : ℕ) (found : List ℕ) (k : Kept) → c < slots_in z → v.own ≡ Some o → v.hand ≡ in_hand c found → after ≡ set homes c (maybe.some k) → w.hand ≡ None → 1 ≤ order_on p q c homes seats
      → (times p found ≤ 1 → times o found ≤ is_just c v.belongs → 1 ≤ precedes p q found → ((times p k.list.items ≡ 0) × LeftBy p w) ⊎ (1 ≤ precedes p q k.list.items)) → w.own ≡ v.own → Follows
  sent o found k inside own has goes free there f still =
      let out = home_out z words homes seats wide flags hands id c v found at inside has in let one = one_hand z words homes seats wide flags hands c inside in
      let count = amount_held (times p) refl homes seats id c v found at one out has in let mine = amount_held (times o) refl homes seats id c v found at one out has in
      let order = amount_held (precedes p q) refl homes seats id c v found at one out has in
      let most = counts_most seats p c (λ (u : Stance). u.belongs) alone in let low = listed p c inside in let own_low = listed o c inside in let counted = own_counts seats alone id o v w at own still (λ (u : Stance). u.belongs) c in
      let moved = amount_sent homes seats id v w at (times p) refl c c found k out has free refl in let turned = amount_sent homes seats id v w at (precedes p q) refl c c found k out has free refl in
      let some = stands_there p q found (omega arith) in
      ⊎_elim (λ (t : (times p k.list.items ≡ 0) × LeftBy p w). let none = t.0 in inl record {
        was = omega arith;
        gone = subst (λ (h : Homes). times_on p c h (set seats id w) ≡ 0) (sym goes) (omega arith);
        by = t.1;
      }) (λ (still : 1 ≤ precedes p q k.list.items). inr (subst (λ (h : Homes). 1 ≤ order_on p q c h (set seats id w)) (sym goes) (omega arith))) (f (omega arith) (omega arith) (omega arith))

  pub order_turn : (v.own ≡ Some q → v.hand ≡ None) → Turn z words homes after i x v w → 1 ≤ order_on p q c homes seats → Follows
  order_turn apart (stays still stay is) = unmoved stay (ap (λ (u : Stance). u.hand) is)
  order_turn apart (reaches r few at_r to stay popped is) = unmoved stay (ap (λ (u : Stance). u.hand) is)
  order_turn apart (resets r few own at_r to stay is) = unmoved stay (ap (λ (u : Stance). u.hand) is)
  order_turn apart (takes d k inside at_d to clear home goes free is) = λ there. inr (subst (λ (h : Homes). 1 ≤ order_on p q c h (set seats id w)) (sym goes)
      (let a = amount_out homes seats id v w at (precedes p q) refl c d k home free (ap (λ (u : Stance). u.hand) is) in omega arith))
  order_turn apart (frees o d found k few inside own at_d to has nobody goes sends) = λ there. dite (ℕ_discrete c d)
      (λ (same : c ≡ d). let s : Sends o c found k.list.items v w = subst (λ (j : ℕ). Sends o j found k.list.items v w) (sym same) sends in
      sent o found k (subst (λ (j : ℕ). j < slots_in z) (sym same) inside) own (subst (λ (j : ℕ). v.hand ≡ in_hand j found) (sym same) has) (subst (λ (j : ℕ). after ≡ set homes j (maybe.some k)) (sym same) goes)
      (sends_hand o d found k.list.items v w sends) there (λ once mine behind. sends_order p q o c found k.list.items v w own (λ (e : o ≡ q). let none = apart (own ∙ ap Some e) in absurd (cc)) once mine behind s)
      (sends_listed o d found k.list.items v w sends).own)
      (λ (ne : c ≢ d). inr (subst (λ (h : Homes). 1 ≤ order_on p q c h (set seats id w)) (sym goes)
      (let a = amount_apart homes seats id v w at (precedes p q) refl c d found (maybe.some k) has (sends_hand o d found k.list.items v w sends) ne in omega arith)))

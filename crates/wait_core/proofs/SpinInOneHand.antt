-- A spin word says who has in hand what it guards: what follows from it, and that each turn keeps it.
use Rattle.std.proofs.Common.{◌≡◌, ◌≢◌, ℕ, ◌<◌, ◌≤◌, List, [], ◌∷◌, ◌++◌, length, get_or, set, Option, None, sym, refl, ap, ◌∙◌, subst, arith, get_or-set_other, get_or-set_same}
use mathlib.Core.Logic.{dite}
use mathlib.Core.Option as maybe
use native.Mathlib.Decide.{ℕ_discrete}
use lib.ListN.{get_elem?}
use lib.Seq.{set-get_or}
use Rattle.atomic_table.proofs.Lists.{set_here, set_else}
use Rattle.wait_core.specs.declared.view.Kept.{Kept}
use Rattle.wait_core.specs.declared.view.Size.{Size}
use Rattle.seat_roster.specs.Totals.{total}
use Rattle.seat_roster.proofs.Totals.{total_set, total_snoc, total_at, at_inside}
use Rattle.wait_core.specs.Words.{spin_at, client_base, slots_in}
use Rattle.wait_core.specs.Stances.{Hand, Stance, Homes, has_slot, has_list}
use Rattle.wait_core.specs.SpinInOneHand.{SpinInOneHand}
use Rattle.wait_core.proofs.Turns.{in_hand, IsStill, reads, first, latches, marks, wakes, shuts, client, Sends, returns, stays_listed, joins, leaves, pops, signs, ends, Turn, stays, reaches, resets, takes, frees, idle}
use Rattle.wait_core.proofs.Owning.{slot_here, slot_else}

-- of the slots of the table
abbrev pub Hands : Size → List ℕ → Homes → List Stance → Type 0
Hands z words homes seats = (x : ℕ) → x < slots_in z → SpinInOneHand x (get_or words (spin_at z x) 0) (get_elem? homes x) seats

abbrev pub SpinsAreFlags : Size → List ℕ → Type 0
SpinsAreFlags z words = (x : ℕ) → x < slots_in z → get_or words (spin_at z x) 0 ≤ 1

abbrev hand_of : Stance → Option Hand
hand_of v = v.hand

-- what a seat does beside its list: it has no list in hand then
pub sends_hand : (p c : ℕ) (found left : List ℕ) (v w : Stance) → Sends p c found left v w → w.hand ≡ None
sends_hand p c found left v w (returns b e still is) = ap hand_of is
sends_hand p c found left v w (stays_listed h e some is) = ap hand_of is
sends_hand p c found left v w (joins e none is) = ap hand_of is
sends_hand p c found left v w (leaves e here is) = ap hand_of is
sends_hand p c found left v w (pops q b e still is) = ap hand_of is
sends_hand p c found left v w (signs q rest e f none quiet is) = ap hand_of is
sends_hand p c found left v w (ends e here quiet is) = ap hand_of is

-- no spin word changes
still_spins : (z : Size) (words : List ℕ) (i x : ℕ) → IsStill z words i x → (y : ℕ) → y < slots_in z → get_or (set words i x) (spin_at z y) 0 ≡ get_or words (spin_at z y) 0
still_spins z words i x (reads e) y below = ap (λ (n : ℕ). get_or (set words i n) (spin_at z y) 0) e ∙ ap (λ (l : List ℕ). get_or l (spin_at z y) 0) (set-get_or words i 0)
still_spins z words i x (first e) y below = get_or-set_other words i (spin_at z y) x 0 (λ is. omega arith)
still_spins z words i x (latches q less e one) y below = get_or-set_other words i (spin_at z y) x 0 (λ is. omega arith)
still_spins z words i x (marks q less e) y below = get_or-set_other words i (spin_at z y) x 0 (λ is. omega arith)
still_spins z words i x (wakes q less e) y below = get_or-set_other words i (spin_at z y) x 0 (λ is. omega arith)
still_spins z words i x (shuts e) y below = get_or-set_other words i (spin_at z y) x 0 (λ is. omega arith)
still_spins z words i x (client most) y below = get_or-set_other words i (spin_at z y) x 0 (λ is. omega arith)

module _ (z : Size) (words : List ℕ) (homes : Homes) (seats : List Stance) (wide : client_base z ≤ length words) (flags : SpinsAreFlags z words) (hands : Hands z words homes seats) where
  -- a list that a seat has in hand is out of its slot, and nobody else has it
  pub one_hand : (x : ℕ) → x < slots_in z → total (has_list x) seats ≤ 1
  one_hand x below = let one = (hands x below).one in let flag = flags x below in omega arith

  pub home_out : (id c : ℕ) (v : Stance) (found : List ℕ) → get_elem? seats id ≡ maybe.some v → c < slots_in z → v.hand ≡ in_hand c found → get_elem? homes c ≡ maybe.some maybe.none
  home_out id c v found at below has = let one = (hands c below).one in let flag = flags c below in let part = total_at (has_list c) seats id v at in let mine = slot_here c v.hand found has in (hands c below).out (omega arith)

  module _ (id : ℕ) (v : Stance) (at : get_elem? seats id ≡ maybe.some v) (after : Homes) (i x : ℕ) (w : Stance) where
    abbrev Kept_in : ℕ → Type 0
    Kept_in y = SpinInOneHand y (get_or (set words i x) (spin_at z y) 0) (get_elem? after y) (set seats id w)

    -- what this part sees of the slot stays
    unseen : (y : ℕ) → y < slots_in z → get_or (set words i x) (spin_at z y) 0 ≡ get_or words (spin_at z y) 0 → get_elem? after y ≡ get_elem? homes y → has_list y w ≡ has_list y v → Kept_in y
    unseen y below word home hand = let h = hands y below in let one = h.one in let sum = total_set (has_list y) seats id v w at in record {
      one = omega arith;
      out = λ e. home ∙ h.out (sym word ∙ e);
      at_home = λ e. let there = h.at_home (sym word ∙ e) in (there.0, home ∙ there.1);
    }

    -- no list moves
    same : ((y : ℕ) → y < slots_in z → get_or (set words i x) (spin_at z y) 0 ≡ get_or words (spin_at z y) 0) → after ≡ homes → w.hand ≡ v.hand → (y : ℕ) → y < slots_in z → Kept_in y
    same word stay hand y below = unseen y below (word y below) (ap (λ (o : Homes). get_elem? o y) stay) (ap (has_slot y) hand)

    -- that of c moves
    module _ (c : ℕ) (inside : c < slots_in z) (is : i ≡ spin_at z c) where
      moved : (o : maybe.Option Kept) → after ≡ set homes c o → ((y : ℕ) → y ≢ c → has_list y w ≡ has_list y v) → SpinInOneHand c x (maybe.some o) (set seats id w) → (home : maybe.Option Kept) → get_elem? homes c ≡ maybe.some home
          → (y : ℕ) → y < slots_in z → Kept_in y
      moved o goes else here home was y below = dite (ℕ_discrete y c)
          (λ (e : y ≡ c). let word : get_or (set words i x) (spin_at z c) 0 ≡ x = ap (λ (j : ℕ). get_or (set words i x) j 0) (sym is) ∙ get_or-set_same words i x 0 (omega arith) in
          let there : get_elem? after c ≡ maybe.some o = ap (λ (a : Homes). get_elem? a c) goes ∙ set_here homes c o (at_inside homes c home was) in
          subst (λ (j : ℕ). Kept_in j) (sym e) (subst (λ (n : ℕ). SpinInOneHand c n (get_elem? after c) (set seats id w)) (sym word)
          (subst (λ (h : maybe.Option (maybe.Option Kept)). SpinInOneHand c x h (set seats id w)) (sym there) here)))
          (λ (ne : y ≢ c). unseen y below (get_or-set_other words i (spin_at z y) x 0 (λ e. ne (omega arith))) (ap (λ (a : Homes). get_elem? a y) goes ∙ set_else homes c y o ne) (else y ne))

      taken : (k : Kept) → get_or words i 0 ≡ 0 → x ≡ 1 → get_elem? homes c ≡ maybe.some (maybe.some k) → after ≡ set homes c maybe.none → v.hand ≡ None → w.hand ≡ in_hand c k.list.items → (y : ℕ) → y < slots_in z → Kept_in y
      taken k clear to home goes free has = moved maybe.none goes (λ y ne. slot_else y c w.hand k.list.items has ne ∙ sym (ap (has_slot y) free)) record {
        one = let one = (hands c inside).one in let before : get_or words (spin_at z c) 0 ≡ 0 = ap (λ (j : ℕ). get_or words j 0) (sym is) ∙ clear in
            let none = ap (has_slot c) free in let here = slot_here c w.hand k.list.items has in let sum = total_set (has_list c) seats id v w at in omega arith;
        out = λ e. refl;
        at_home = λ e. absurd (omega arith);
      } (maybe.some k) home

      sent : (found : List ℕ) (k : Kept) → x ≡ 0 → after ≡ set homes c (maybe.some k) → v.hand ≡ in_hand c found → w.hand ≡ None → (y : ℕ) → y < slots_in z → Kept_in y
      sent found k to goes has free = moved (maybe.some k) goes (λ y ne. ap (has_slot y) free ∙ sym (slot_else y c v.hand found has ne)) record {
        one = let one = (hands c inside).one in let flag = flags c inside in let here = slot_here c v.hand found has in let none = ap (has_slot c) free in let part = total_at (has_list c) seats id v at in
            let sum = total_set (has_list c) seats id v w at in omega arith;
        out = λ e. absurd (omega arith);
        at_home = λ e. (k, refl);
      } maybe.none (home_out id c v found at inside has)

    pub hands_turn : Turn z words homes after i x v w → Hands z (set words i x) after (set seats id w)
    hands_turn (stays still stay is) = same (still_spins z words i x still) stay (ap hand_of is)
    hands_turn (reaches q less at_q to stay popped is) = same (λ y below. get_or-set_other words i (spin_at z y) x 0 (λ e. omega arith)) stay (ap hand_of is)
    hands_turn (resets p less own at_p to stay is) = same (λ y below. get_or-set_other words i (spin_at z y) x 0 (λ e. omega arith)) stay (ap hand_of is)
    hands_turn (takes c k inside at_c to clear home goes free is) = taken c inside at_c k clear to home goes free (ap hand_of is)
    hands_turn (frees p c found k less inside own at_c to has quiet goes sends) = sent c inside at_c found k to goes has (sends_hand p c found k.list.items v w sends)

-- the seats change, and not how many have what the word guards in hand
hands_same : (x word : ℕ) (home : maybe.Option (maybe.Option Kept)) (seats others : List Stance) → total (has_list x) others ≡ total (has_list x) seats → SpinInOneHand x word home seats → SpinInOneHand x word home others
hands_same x word home seats others same h = record { one = h.one ∙ sym same; out = h.out; at_home = h.at_home }

-- a seat comes that is in no call
pub hands_more : (z : Size) (words : List ℕ) (homes : Homes) (seats : List Stance) (own : Option ℕ) → Hands z words homes seats → Hands z words homes (seats ++ idle own ∷ [])
hands_more z words homes seats own h x below = let sum = total_snoc (has_list x) seats (idle own) in hands_same x (get_or words (spin_at z x) 0) (get_elem? homes x) seats (seats ++ idle own ∷ []) (omega arith) (h x below)

-- a seat in no call and without a target becomes another such
pub hands_idle : (z : Size) (words : List ℕ) (homes : Homes) (seats : List Stance) (id : ℕ) (own new : Option ℕ) → get_elem? seats id ≡ maybe.some (idle own) → Hands z words homes seats → Hands z words homes (set seats id (idle new))
hands_idle z words homes seats id own new at h x below = let sum = total_set (has_list x) seats id (idle own) (idle new) at in
    hands_same x (get_or words (spin_at z x) 0) (get_elem? homes x) seats (set seats id (idle new)) (omega arith) (h x below)

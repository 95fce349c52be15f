-- Each turn keeps that a backend is listed where it belongs, once.
use Rattle.std.proofs.Common.{◌≡◌, ◌≢◌, ℕ, ◌<◌, ◌≤◌, List, [], ◌∷◌, ◌++◌, length, set, Option, None, Some, sym, refl, ap, ◌∙◌, subst, ⊎_elim, arith}
use mathlib.Core.Logic.{dite}
use mathlib.Core.Option as maybe
use native.Mathlib.Decide.{ℕ_discrete}
use lib.ListN.{get_elem?}
use Rattle.wait_core.specs.declared.view.Kept.{Kept}
use Rattle.wait_core.specs.declared.view.Size.{Size}
use Rattle.seat_roster.specs.Totals.{total}
use Rattle.seat_roster.specs.Roster.{times}
use Rattle.seat_roster.proofs.Totals.{total_set, total_snoc}
use Rattle.wait_core.specs.Words.{client_base, slots_in}
use Rattle.wait_core.specs.Stances.{Stance, Homes, is_just, both_are, amount_by, belongs_to}
use Rattle.wait_core.specs.TargetsAreListed.{ListedWhereItBelongs, TargetsAreListed}
use Rattle.wait_core.proofs.Lists.{head_here, times_last, times_joined, times_gone, times_left}
use Rattle.wait_core.proofs.Turns.{in_hand, StillBelongs, Sends, returns, stays_listed, joins, leaves, pops, signs, ends, Turn, stays, reaches, resets, takes, frees, idle}
use Rattle.wait_core.proofs.Owning.{just_here, just_else, just_most, both_none, amount_same, amount_out, amount_sent, amount_apart, amount_held, Alone, own_counts, own_after, else_after}
use Rattle.wait_core.proofs.SpinInOneHand.{Hands, SpinsAreFlags, one_hand, home_out, sends_hand}

abbrev belongs_of : Stance → Option ℕ
belongs_of v = v.belongs

abbrev own_of : Stance → Option ℕ
own_of v = v.own

-- what the free of the list of c does to who is listed, and to what the seat belongs to
pub record SendsListed (p c : ℕ) (found left : List ℕ) (v w : Stance) : Type 0 where
  pub own : w.own ≡ v.own
  -- nobody else comes
  pub others : (q : ℕ) → p ≢ q → times q left ≤ times q found
  -- the seat is on the list where it belongs, once
  pub mine : times p found ≤ is_just c v.belongs → times p left ≤ is_just c w.belongs
  pub elsewhere : (x : ℕ) → x ≢ c → is_just x v.belongs ≤ is_just x w.belongs

still_mine : (p c : ℕ) (left : List ℕ) (was is : Option ℕ) → StillBelongs p c left was is → times p left ≤ is_just c was → times p left ≤ is_just c is
still_mine p c left was is still h = ⊎_elim (λ (e : is ≡ was). let a = ap (is_just c) e in omega arith) (λ (t : (is ≡ None) × (was ≡ Some c) × (times p left ≡ 0)). let none = t.2 in omega arith) still

still_else : (p c x : ℕ) (left : List ℕ) (was is : Option ℕ) → StillBelongs p c left was is → x ≢ c → is_just x was ≤ is_just x is
still_else p c x left was is still ne = ⊎_elim (λ (e : is ≡ was). let a = ap (is_just x) e in omega arith) (λ (t : (is ≡ None) × (was ≡ Some c) × (times p left ≡ 0)). let none = just_else x c was t.1 (λ e. ne (sym e)) in omega arith) still

pub sends_listed : (p c : ℕ) (found left : List ℕ) (v w : Stance) → Sends p c found left v w → SendsListed p c found left v w
sends_listed p c found left v w (returns b e still is) = let now = ap belongs_of is in record {
  own = ap own_of is;
  others = λ q ne. let a = ap (times q) e in omega arith;
  mine = λ h. let a = ap (times p) e in let b = still_mine p c left v.belongs b still (omega arith) in let d = ap (is_just c) now in omega arith;
  elsewhere = λ x ne. let a = still_else p c x left v.belongs b still ne in let d = ap (is_just x) now in omega arith;
}
sends_listed p c found left v w (stays_listed h e some is) = record {
  own = ap own_of is;
  others = λ q ne. let a = ap (times q) e in omega arith;
  mine = λ h. let a = ap (times p) e in let b = ap (is_just c) (ap belongs_of is) in omega arith;
  elsewhere = λ x ne. let b = ap (is_just x) (ap belongs_of is) in omega arith;
}
sends_listed p c found left v w (joins e none is) = let one = just_here c w.belongs (ap belongs_of is) in record {
  own = ap own_of is;
  others = λ q ne. let a = ap (times q) e in let b = times_last q p found ne in omega arith;
  mine = λ h. let a = ap (times p) e in let b = times_joined p found in
      ⊎_elim (λ (no : v.belongs ≡ None). let d = ap (is_just c) no in omega arith) (λ (t : (v.belongs ≡ Some c) × (times p found ≡ 0)). let d = t.1 in omega arith) none;
  elsewhere = λ x ne. ⊎_elim (λ (no : v.belongs ≡ None). let d = ap (is_just x) no in omega arith) (λ (t : (v.belongs ≡ Some c) × (times p found ≡ 0)). let d = just_else x c v.belongs t.0 (λ e. ne (sym e)) in omega arith) none;
}
sends_listed p c found left v w (leaves e here is) = record {
  own = ap own_of is;
  others = λ q ne. let a = ap (times q) e in let b = times_left q p found in omega arith;
  mine = λ h. let a = ap (times p) e in let b = times_gone p found in omega arith;
  elsewhere = λ x ne. let d = just_else x c v.belongs here (λ e. ne (sym e)) in omega arith;
}
sends_listed p c found left v w (pops q b e still is) = let now = ap belongs_of is in record {
  own = ap own_of is;
  others = λ r ne. let a = ap (times r) e in omega arith;
  mine = λ h. let a = ap (times p) e in let b = still_mine p c left v.belongs b still (omega arith) in let d = ap (is_just c) now in omega arith;
  elsewhere = λ x ne. let a = still_else p c x left v.belongs b still ne in let d = ap (is_just x) now in omega arith;
}
sends_listed p c found left v w (signs q rest e f none quiet is) = let one = just_here c w.belongs (ap belongs_of is) in record {
  own = ap own_of is;
  others = λ r ne. let a = ap (times r) e in let b = ap (times r) f in let d = times_last r p rest ne in omega arith;
  mine = λ h. let a = ap (times p) e in let b = ap (times p) f in let d = times_joined p rest in let no = ap (is_just c) none in omega arith;
  elsewhere = λ x ne. let no = ap (is_just x) none in omega arith;
}
sends_listed p c found left v w (ends e here quiet is) = let now = ap (is_just c) (ap belongs_of is) in record {
  own = ap own_of is;
  others = λ r ne. let a = ap (times r) e in omega arith;
  mine = λ h. let a = ap (times p) e in let head = head_here p p refl in let most = just_most c v.belongs in omega arith;
  elsewhere = λ x ne. let d = just_else x c v.belongs here (λ e. ne (sym e)) in omega arith;
}

module _ (z : Size) (words : List ℕ) (homes : Homes) (seats : List Stance) (wide : client_base z ≤ length words) (flags : SpinsAreFlags z words) (hands : Hands z words homes seats) (alone : Alone seats)
    (was : TargetsAreListed (slots_in z) homes seats) (id : ℕ) (v : Stance) (at : get_elem? seats id ≡ maybe.some v) (after : Homes) (i x : ℕ) (w : Stance) where
  -- no list moves, and the seat belongs where it did
  same : after ≡ homes → w.hand ≡ v.hand → w.own ≡ v.own → w.belongs ≡ v.belongs → TargetsAreListed (slots_in z) after (set seats id w)
  same stay hand own still p y below = subst (λ (o : Homes). ListedWhereItBelongs p y o (set seats id w)) (sym stay)
      (let times = amount_same homes seats id v w at (times p) refl y hand in let sum = total_set (belongs_to p y) seats id v w at in let mine : belongs_to p y w ≡ belongs_to p y v = λ j. both_are p y (own j) (still j) in let h = was p y below in omega arith)

  -- that of c leaves its slot
  taken : (c : ℕ) (k : Kept) → get_elem? homes c ≡ maybe.some (maybe.some k) → after ≡ set homes c maybe.none → v.hand ≡ None → w ≡ record v { hand = in_hand c k.list.items } → TargetsAreListed (slots_in z) after (set seats id w)
  taken c k home goes free is p y below = subst (λ (o : Homes). ListedWhereItBelongs p y o (set seats id w)) (sym goes)
      (let times = amount_out homes seats id v w at (times p) refl y c k home free (ap (λ (u : Stance). u.hand) is) in let sum = total_set (belongs_to p y) seats id v w at in
      let mine : belongs_to p y w ≡ belongs_to p y v = λ j. both_are p y (own_of (is j)) (belongs_of (is j)) in let h = was p y below in omega arith)

  -- it goes home
  module _ (o c : ℕ) (found : List ℕ) (k : Kept) (inside : c < slots_in z) (own : v.own ≡ Some o) (has : v.hand ≡ in_hand c found) (free : w.hand ≡ None) (facts : SendsListed o c found k.list.items v w) where
    out : get_elem? homes c ≡ maybe.some maybe.none
    out = home_out z words homes seats wide flags hands id c v found at inside has

    mine_before : (p y : ℕ) → o ≡ p → total (belongs_to p y) seats ≡ is_just y v.belongs
    mine_before p y is = ap (λ (q : ℕ). total (belongs_to q y) seats) (sym is) ∙ own_counts seats alone id o v w at own facts.own belongs_of y

    mine_after : (p y : ℕ) → o ≡ p → total (belongs_to p y) (set seats id w) ≡ is_just y w.belongs
    mine_after p y is = ap (λ (q : ℕ). total (belongs_to q y) (set seats id w)) (sym is) ∙ own_after seats alone id o v w at own facts.own belongs_of y

    -- of the list itself
    sent_here : (p : ℕ) → ListedWhereItBelongs p c (set homes c (maybe.some k)) (set seats id w)
    sent_here p = let moved = amount_sent homes seats id v w at (times p) refl c c found k out has free refl in let before = amount_held (times p) refl homes seats id c v found at (one_hand z words homes seats wide flags hands c inside) out has in
        let h = was p c inside in dite (ℕ_discrete o p)
        (λ (is : o ≡ p). let a = mine_before p c is in let b = mine_after p c is in
        let m : times p found ≤ is_just c v.belongs → times p k.list.items ≤ is_just c w.belongs = subst (λ (q : ℕ). times q found ≤ is_just c v.belongs → times q k.list.items ≤ is_just c w.belongs) is facts.mine in let n = m (omega arith) in omega arith)
        (λ (ne : o ≢ p). let a = else_after seats alone id o v w at own facts.own belongs_of c p ne in let l = facts.others p ne in omega arith)

    sent_apart : (p y : ℕ) → y < slots_in z → y ≢ c → ListedWhereItBelongs p y (set homes c (maybe.some k)) (set seats id w)
    sent_apart p y below apart = let moved = amount_apart homes seats id v w at (times p) refl y c found (maybe.some k) has free apart in let h = was p y below in dite (ℕ_discrete o p)
        (λ (is : o ≡ p). let e = facts.elsewhere y apart in let a = mine_before p y is in let b = mine_after p y is in omega arith)
        (λ (ne : o ≢ p). let a = else_after seats alone id o v w at own facts.own belongs_of y p ne in omega arith)

    sent : after ≡ set homes c (maybe.some k) → TargetsAreListed (slots_in z) after (set seats id w)
    sent goes p y below = subst (λ (h : Homes). ListedWhereItBelongs p y h (set seats id w)) (sym goes)
        (dite (ℕ_discrete y c) (λ (e : y ≡ c). subst (λ (j : ℕ). ListedWhereItBelongs p j (set homes c (maybe.some k)) (set seats id w)) (sym e) (sent_here p)) (λ (apart : y ≢ c). sent_apart p y below apart))

  pub listed_turn : Turn z words homes after i x v w → TargetsAreListed (slots_in z) after (set seats id w)
  listed_turn (stays still stay is) = same stay (ap (λ (u : Stance). u.hand) is) (ap own_of is) (ap belongs_of is)
  listed_turn (reaches q less at_q to stay popped is) = same stay (ap (λ (u : Stance). u.hand) is) (ap own_of is) (ap belongs_of is)
  listed_turn (resets p less own at_p to stay is) = same stay (ap (λ (u : Stance). u.hand) is) (ap own_of is) (ap belongs_of is)
  listed_turn (takes c k inside at_c to clear home goes free is) = taken c k home goes free is
  listed_turn (frees o c found k less inside own at_c to has quiet goes sends) =
      sent o c found k inside own has (sends_hand o c found k.list.items v w sends) (sends_listed o c found k.list.items v w sends) goes

-- a seat comes that is in no call and has no target
pub listed_more : (slots : ℕ) (homes : Homes) (seats : List Stance) (own : Option ℕ) → TargetsAreListed slots homes seats → TargetsAreListed slots homes (seats ++ idle own ∷ [])
listed_more slots homes seats own h p x below = let sum = total_snoc (amount_by (times p) x) seats (idle own) in let more = total_snoc (belongs_to p x) seats (idle own) in let was = h p x below in omega arith

-- such a seat becomes another
pub listed_idle : (slots : ℕ) (homes : Homes) (seats : List Stance) (id : ℕ) (own new : Option ℕ) → get_elem? seats id ≡ maybe.some (idle own) → TargetsAreListed slots homes seats → TargetsAreListed slots homes (set seats id (idle new))
listed_idle slots homes seats id own new at h p x below = let sum = total_set (amount_by (times p) x) seats id (idle own) (idle new) at in let more = total_set (belongs_to p x) seats id (idle own) (idle new) at in
    let none = both_none p x own in let was = h p x below in omega arith

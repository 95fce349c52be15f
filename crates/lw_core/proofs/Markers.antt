-- Who takes a backend off a list owes it a post until its waiting field is cleared; so a backend keeps no more wakes than it was poked.
use Rattle.std.proofs.Common.{◌≡◌, ◌≢◌, ℕ, ◌+◌, ◌<◌, ◌≤◌, Bool, true, false, List, [], ◌∷◌, ◌++◌, get_or, set, Option, None, Some, sym, refl, ap, subst, arith}
use mathlib.Core.Logic.{dite}
use mathlib.Core.Option as maybe
use native.Mathlib.Decide.{ℕ_discrete}
use lib.ListN.{get_elem?}
use Rattle.seat_roster.specs.Totals.{total}
use Rattle.seat_roster.proofs.Totals.{total_set, total_snoc, total_at, total_le, total_both}
use Rattle.seat_roster.proofs.Numbers as numbers
use Rattle.seat_roster.proofs.Stretches.{each_set, each_more}
use Rattle.lw_core.specs.declared.view.Size.{Size}
use Rattle.lw_core.specs.Words.{waiting_at}
use Rattle.lw_core.specs.WaitLists.{times_on}
use Rattle.lw_core.specs.Stances.{Stance, is_own, count_if, hand_times, on_lists, in_round}
use Rattle.lw_core.specs.WaitingTellsPlace.{adds_to, WaitingTellsPlace}
use Rattle.lw_core.specs.WakesAreConserved.{spends, earns, WakesAreConserved}
use Rattle.lw_core.specs.MarkersPost.{PostsMarked, spares, poked_times, MarkersPost}
use Rattle.lw_core.proofs.Turns.{Homes, Turn, stays, takes, flags, announces, queues, checks, leaves, was_taken, withdraws, marks, detaches, summons, returns, unmarks, posts, sees, sleeps_down, calls_down, wakes, oversleeps, gives_back, answers, allows, pokes, idle, takes_over, IsSound}
use Rattle.lw_core.proofs.Owning.{own_here, own_else, own_more, own_less, own_nothing, announces_for, in_one_round, round_quiet, out_of_round}
use Rattle.lw_core.proofs.Balance.{down_there}

-- the posts that a seat owes p; 1 where p took its semaphore down in a sleep; and how often a `down` of p ended
abbrev pub owed_times : ℕ → Stance → ℕ
owed_times p v = times_on p v.owed

abbrev pub sleeps_between : ℕ → Stance → ℕ
sleeps_between p v = count_if v.between (is_own p v.own)

-- what the seats spend for p, and what they earn, in parts
pub spends_parts : (p : ℕ) (seats : List Stance) → total (spends p) seats ≡ total (owed_times p) seats + (total (sleeps_between p) seats + total (spares p) seats)
spends_parts p seats = let a = total_both (owed_times p) (λ (u : Stance). sleeps_between p u + spares p u) seats in let b = total_both (sleeps_between p) (spares p) seats in omega arith

pub earns_parts : (p : ℕ) (seats : List Stance) → total (earns p) seats ≡ total (poked_times p) seats + total (in_round p) seats
earns_parts p seats = total_both (poked_times p) (in_round p) seats

module _ (z : Size) (words : List ℕ) (homes : Homes) (seats : List Stance) (alone : (p : ℕ) → total (λ (u : Stance). is_own p u.own) seats ≤ 1) (sound : (j : ℕ) (u : Stance) → get_elem? seats j ≡ maybe.some u → IsSound u)
    (told : WaitingTellsPlace z words homes seats) (have : MarkersPost z seats) where
  -- whose waiting field isn't 0, and who neither announced that it waits nor left a list, is on a list or is owed a post
  pub listed_or_owed : (p : ℕ) → p < z.procs → get_or words (waiting_at z p) 0 ≢ 0 → total (announces_for p) seats ≡ 0 → 1 ≤ on_lists p homes seats + total (owed_times p) seats
  listed_or_owed p below some none = let field = told p below in
      let most = total_le (adds_to p) (λ (u : Stance). announces_for p u + (hand_times p u + (owed_times p u + owed_times p u))) seats (λ i u e. let marked = (sound i u e).marked p in let owed = have.posts i u e p in omega arith) in
      let a = total_both (announces_for p) (λ (u : Stance). hand_times p u + (owed_times p u + owed_times p u)) seats in let b = total_both (hand_times p) (λ (u : Stance). owed_times p u + owed_times p u) seats in
      let c = total_both (owed_times p) (owed_times p) seats in omega arith

  module _ (id p : ℕ) (v : Stance) (at : get_elem? seats id ≡ maybe.some v) (own : v.own ≡ Some p) where
    none_announced : v.round ≡ true → total (announces_for p) seats ≡ 0
    none_announced round = let is : in_round p v ≡ is_own p v.own = ap (λ (b : Bool). count_if b (is_own p v.own)) round in
        let one = own_here p p v.own own refl in let mine = total_at (in_round p) seats id v at in round_quiet seats alone sound p (omega arith)

    module _ (was : WakesAreConserved z words homes seats) (below : p < z.procs) where
      -- where the wake of a sleep wasn't for it, or a call ends that is in no round, there was a poke for it
      overslept_room : get_or words (waiting_at z p) 0 ≢ 0 → v.between ≡ true → total (spares p) seats + 1 ≤ total (poked_times p) seats
      overslept_room some between = by_test v.round refl
        where
          by_test : (b : Bool) → v.round ≡ b → total (spares p) seats + 1 ≤ total (poked_times p) seats
          by_test true round = let sum = was.balance p below in let a = spends_parts p seats in let b = earns_parts p seats in let one = own_here p p v.own own refl in let mine = total_at (sleeps_between p) seats id v at in
              let is : sleeps_between p v ≡ is_own p v.own = ap (λ (b : Bool). count_if b (is_own p v.own)) between in let most = in_one_round seats alone p in
              let due = listed_or_owed p below some (none_announced round) in omega arith
          by_test false round = let sum = was.balance p below in let a = spends_parts p seats in let b = earns_parts p seats in let one = own_here p p v.own own refl in let mine = total_at (sleeps_between p) seats id v at in
              let is : sleeps_between p v ≡ is_own p v.own = ap (λ (b : Bool). count_if b (is_own p v.own)) between in let none = out_of_round seats alone p id v at own round in omega arith

      called_room : v.downing ≡ true → v.round ≡ false → total (spares p) seats + 1 ≤ total (poked_times p) seats
      called_room down round = let sum = was.balance p below in let a = spends_parts p seats in let b = earns_parts p seats in let none = out_of_round seats alone p id v at own round in let some = down_there z words homes seats was id p v at own below down in omega arith

-- a stance without what this part doesn't read
abbrev sight : Stance → Stance
sight u = record u { hand = None; flagged = None; announced = false; round = false; queued = None; leaving = None; due = None; marked = []; downing = false; between = false }

module _ (z : Size) (words : List ℕ) (homes : Homes) (seats : List Stance) (alone : (p : ℕ) → total (λ (u : Stance). is_own p u.own) seats ≤ 1) (sound : (j : ℕ) (u : Stance) → get_elem? seats j ≡ maybe.some u → IsSound u)
    (told : WaitingTellsPlace z words homes seats) (was : WakesAreConserved z words homes seats) (have : MarkersPost z seats) where
  module _ (id : ℕ) (v : Stance) (at : get_elem? seats id ≡ maybe.some v) where
    -- the stance becomes one that fits, and there is room for what it spares more
    became : (w : Stance) → PostsMarked w → ((p : ℕ) → p < z.procs → total (spares p) seats + (spares p w + poked_times p v) ≤ total (poked_times p) seats + (spares p v + poked_times p w)) → MarkersPost z (set seats id w)
    became w marked room = record {
      posts = each_set PostsMarked seats id w have.posts marked;
      poked = λ p below. let more = room p below in let a = total_set (spares p) seats id v w at in let b = total_set (poked_times p) seats id v w at in omega arith;
    }

    -- it spares no more, or is poked as often more
    spared : (w : Stance) → PostsMarked w → ((p : ℕ) → spares p w + poked_times p v ≤ spares p v + poked_times p w) → MarkersPost z (set seats id w)
    spared w marked less = became w marked (λ p below. let old = have.poked p below in let fewer = less p in omega arith)

    -- it spares one more for p, for which there is room
    spared_more : (p : ℕ) (w : Stance) → total (spares p) seats + 1 ≤ total (poked_times p) seats → PostsMarked w → ((q : ℕ) → spares q w ≡ spares q v + is_own q (Some p))
        → ((q : ℕ) → poked_times q w ≡ poked_times q v) → MarkersPost z (set seats id w)
    spared_more p w room marked more same = became w marked (λ q below. let old = have.poked q below in let one = more q in let none = same q in dite (ℕ_discrete q p)
        (λ is. let yes = own_here q p (Some p) refl is in let there : total (spares q) seats + 1 ≤ total (poked_times q) seats = subst (λ (n : ℕ). total (spares n) seats + 1 ≤ total (poked_times n) seats) (sym is) room in omega arith)
        (λ ne. let no = own_else q p (Some p) refl ne in omega arith))

    by : (w u : Stance) → w ≡ u → MarkersPost z (set seats id u) → MarkersPost z (set seats id w)
    by w u is = subst (λ (t : Stance). MarkersPost z (set seats id t)) (sym is)

    aside : (w : Stance) → sight w ≡ sight v → MarkersPost z (set seats id w)
    aside w same = spared w (subst PostsMarked (sym same) (have.posts id v at)) (λ p. let a : spares p w ≡ spares p v = ap (spares p) same in let b : poked_times p w ≡ poked_times p v = ap (poked_times p) same in omega arith)

    pub markers_turn : (after : Homes) (i x : ℕ) (w : Stance) → Turn z words homes after i x v w → MarkersPost z (set seats id w)
    markers_turn after i x w (stays _ _ is) = aside w (ap sight is)
    markers_turn after i x w (takes _ _ _ _ _ _ _ _ _ is) = aside w (ap sight is)
    markers_turn after i x w (flags _ _ _ _ _ _ _ _ is) = aside w (ap sight is)
    markers_turn after i x w (announces _ _ _ _ _ _ _ _ is) = aside w (ap sight is)
    markers_turn after i x w (queues _ _ _ _ _ _ _ _ _ _ _ _ _ _ _ _ _ is) = aside w (ap sight is)
    markers_turn after i x w (checks _ _ _ _ _ _ _ _ _ _ _ _ _ is) = aside w (ap sight is)
    markers_turn after i x w (leaves _ _ _ _ _ _ _ _ _ _ _ _ _ _ _ _ _ _ is) = aside w (ap sight is)
    markers_turn after i x w (was_taken _ _ _ _ _ _ _ _ _ _ _ _ _ _ _ _ _ is) = aside w (ap sight is)
    markers_turn after i x w (withdraws _ _ _ _ _ _ _ _ is) = aside w (ap sight is)
    markers_turn after i x w (marks _ _ _ _ _ _ _ _ _ _ _ _ _ is) = aside w (ap sight is)
    markers_turn after i x w (detaches l found list _ _ _ _ _ _ _ _ _ _ _ is) = by w _ is (spared _ (λ p. omega arith) (λ p. omega arith))
    markers_turn after i x w (summons l found list _ _ _ _ _ _ _ _ _ _ _ is) = by w _ is (spared _ (λ p. omega arith) (λ p. omega arith))
    markers_turn after i x w (returns _ _ _ _ _ _ _ _ _ _ _ _ is) = aside w (ap sight is)
    markers_turn after i x w (unmarks u us _ _ _ _ unlisted is) = by w _ is (spared _
        (λ p. let mine = have.posts id v at p in let one : times_on p v.unlisted ≡ is_own p (Some u.proc) + times_on p us = ap (times_on p) unlisted in omega arith) (λ p. omega arith))
    markers_turn after i x w (posts u us _ _ _ _ _ unlisted is) = by w _ is (spared _ (λ p. let same : times_on p v.unlisted ≡ times_on p us = ap (times_on p) unlisted in omega arith) (λ p. omega arith))
    markers_turn after i x w (sees _ _ _ _ _ _ _ _ is) = aside w (ap sight is)
    markers_turn after i x w (sleeps_down _ _ _ _ _ _ _ _ is) = aside w (ap sight is)
    markers_turn after i x w (calls_down p below own _ _ _ down round is) = by w _ is (spared_more p _ (called_room z words homes seats alone sound told have id p v at own was below down round) (have.posts id v at)
        (λ q. let more = numbers.times_append q v.downed (p ∷ []) in omega arith) (λ q. refl))
    markers_turn after i x w (wakes _ _ _ _ _ _ _ _ _ _ _ is) = aside w (ap sight is)
    markers_turn after i x w (oversleeps p below own is_i _ some _ between is) = by w _ is (spared_more p _
        (overslept_room z words homes seats alone sound told have id p v at own was below (subst (λ (n : ℕ). get_or words n 0 ≢ 0) is_i some) between) (have.posts id v at)
        (λ q. let mine = ap (is_own q) own in let more = own_more q v.surplus v.own in omega arith) (λ q. refl))
    markers_turn after i x w (gives_back p _ _ _ _ _ some is) = by w _ is (spared _ (have.posts id v at) (λ q. let less = own_less q v.surplus v.own some in omega arith))
    markers_turn after i x w (answers _ _ _ _ _ _ _ is) = aside w (ap sight is)
    markers_turn after i x w (allows _ _ _ _ _ _ is) = aside w (ap sight is)
    markers_turn after i x w (pokes q _ _ _ _ is) = by w _ is (spared _ (have.posts id v at) (λ p. let more = numbers.times_append p v.poked (q ∷ []) in omega arith))

module _ (z : Size) (seats : List Stance) where
  -- a seat comes
  pub markers_added : (own : Option ℕ) → MarkersPost z seats → MarkersPost z (seats ++ idle own [] [] ∷ [])
  markers_added own have = let u : Stance = idle own [] [] in record {
    posts = each_more PostsMarked seats u have.posts (λ p. omega arith);
    poked = λ p below. let old = have.poked p below in let a = total_snoc (spares p) seats u in let b = total_snoc (poked_times p) seats u in let none = own_nothing p own in omega arith;
  }

  -- a seat in no call is spent, and another takes over its pokes and ended downs
  pub markers_joined : (id other : ℕ) (v : Stance) (own : Option ℕ) (poked downed : List ℕ) → get_elem? seats id ≡ maybe.some v → get_elem? (set seats id (takes_over v poked downed)) other ≡ maybe.some (idle own poked downed)
      → MarkersPost z seats → MarkersPost z (set (set seats id (takes_over v poked downed)) other (idle None [] []))
  markers_joined id other v own poked downed at there have =
      let both : Stance = takes_over v poked downed in let spent : Stance = idle None [] [] in let gone : Stance = idle own poked downed in let halfway : List Stance = set seats id both in record {
        posts = each_set PostsMarked halfway other spent (each_set PostsMarked seats id both have.posts (have.posts id v at)) (λ p. omega arith);
        poked = λ p below. let old = have.poked p below in let a = total_set (spares p) seats id v both at in let b = total_set (poked_times p) seats id v both at in
            let c = total_set (spares p) halfway other gone spent there in let d = total_set (poked_times p) halfway other gone spent there in
            let e = numbers.times_append p v.poked poked in let f = numbers.times_append p v.downed downed in let none = own_nothing p own in omega arith;
      }

-- What the rule says of all seats together, and which turn each step is.
use Rattle.std.proofs.Common.{◌≡◌, ℕ, ◌<◌, ◌≤◌, List, length, map, get_or, Option, None, Some, sym, refl, ap, ◌∙◌, subst, arith}
use mathlib.Core.Option as maybe
use lib.ListN.{get_elem?}
use Rattle.atomic_table.specs.Table.{homes_after}
use Rattle.lw_core.specs.declared.step.LwStep.{LwStep}
use Rattle.lw_core.specs.declared.view.View.{View}
use Rattle.lw_core.specs.declared.view.Size.{Size}
use Rattle.lw_core.specs.declared.view.Waiter.{Waiter}
use Rattle.seat_roster.specs.Totals.{total}
use Rattle.lw_core.specs.Words.{state_at, locked}
use Rattle.lw_core.specs.WaitLists.{home_list}
use Rattle.lw_core.specs.Machine.{LwState, IsInRange, number_of, lock_number, mode_in, word_of, becomes, next, carried, act_of, Allowed}
use Rattle.lw_core.specs.Stances.{Stance, hand_of, is_own, has_list, stance_of}
use Rattle.lw_core.specs.SeatFits.{SeatFits}
use Rattle.lw_core.specs.Rule.{Rule, seating_of}
use Rattle.seat_roster.specs.Roster.{numbered}
use Rattle.seat_roster.proofs.Stretches.{at_seen, from_seen}
use Rattle.lw_core.proofs.Holders.{part_holds}
use Rattle.lw_core.proofs.Places.{places_step, places_draw, places_split, places_join, fresh_fits}
use Rattle.lw_core.proofs.Places as places
use Rattle.lw_core.proofs.Turns.{Turn, IsSound}
use Rattle.lw_core.proofs.Flags.{flag_most}
use Rattle.lw_core.proofs.Turning as turning
use Rattle.lw_core.proofs.Standing.{sound_stance, alone_seats, number_below, pokes_few}
use Rattle.lw_core.proofs.Hands.{home_out}

module _ (lawful : ℕ → List ℕ → Type 0) (z : Size) (s : LwState) (r : Rule lawful z s) where
  abbrev seats : List Stance
  seats = map stance_of s.views

  pub alone : (p : ℕ) → total (λ (u : Stance). is_own p u.own) seats ≤ 1
  alone = alone_seats z.procs (get_or s.words 0 0) s.views r.roster

  pub seat_fits : (j : ℕ) (u : View) → get_elem? s.views j ≡ maybe.some u → SeatFits (seating_of u)
  seat_fits j u at = places.mine lawful z s r j u at

  pub sound : (j : ℕ) (u : Stance) → get_elem? seats j ≡ maybe.some u → IsSound u
  sound j u at = let there = from_seen stance_of s.views j u at in subst IsSound there.2 (sound_stance there.0 (seat_fits j there.0 there.1))

  pub out : (j l : ℕ) (u : Stance) (found : List Waiter) → get_elem? seats j ≡ maybe.some u → l < z.locks → u.hand ≡ hand_of l found → get_elem? s.homes l ≡ maybe.some maybe.none
  out j l u found at below mine = home_out z s.words s.homes seats r.sized.long r.sized.slots r.lists j l u found at below mine

  pub one_hand : (l : ℕ) → l < z.locks → total (has_list l) seats ≤ 1
  one_hand l below = let a = (r.lists l below).one in let b = flag_most locked (get_or s.words (state_at l) 0) in omega arith

  pub few_poked : total (λ (u : Stance). length u.poked) seats ≤ 67108864
  few_poked = pokes_few z.procs (get_or s.words 0 0) s.views r.roster r.sized.procs seat_fits

  module _ (id : ℕ) (v : View) (at : get_elem? s.views id ≡ maybe.some v) where
    pub seat_at : get_elem? seats id ≡ maybe.some (stance_of v)
    seat_at = at_seen stance_of s.views id v (stance_of v) at refl

    pub own_inside : (p : ℕ) → v.own ≡ Some p → p < z.procs
    own_inside p own = number_below z.procs (get_or s.words 0 0) s.views r.roster id p v at own

    pub numbered_as : (v.own ≡ None → ⊥) → v.own ≡ Some (number_of v.own)
    numbered_as numbered = by_own v.own refl
      where
        by_own : (o : Option ℕ) → v.own ≡ o → v.own ≡ Some (number_of v.own)
        by_own None e = absurd (numbered e)
        by_own (Some p) e = e ∙ ap Some (sym (ap number_of e))

    -- what a step does to lists and wakes
    pub step_turn : (k : LwStep) → IsInRange z k → (v.own ≡ None → ⊥) → Allowed lawful k v → let n = get_or s.words (word_of z (number_of v.own) k) 0 in let found = home_list s.homes (lock_number k) in
        Turn z s.words s.homes (homes_after s.homes (carried k v) (act_of k n found)) (word_of z (number_of v.own) k) (becomes k n) (stance_of v) (stance_of (next k v n found))
    step_turn k inside numbered ok = let own = numbered_as numbered in
        turning.by_kind lawful z s.words s.homes v (places.mine lawful z s r id v at).place (number_of v.own) own (own_inside (number_of v.own) own) (λ l below clear. (r.lists l below).at_home clear)
        (λ l m below holds. part_holds (map (mode_in l) s.views) id (get_or s.words (state_at l) 0) m (at_seen (mode_in l) s.views id v (Some m) at holds) (r.counts l below)) k inside ok

-- What the rule says of those who sleep: no wake is lost; nobody sleeps for a lock that nobody holds, releases or answers for; and nobody for a change of a variable that was made, while nobody updates the lock.
use Rattle.std.proofs.Common.{◌≡◌, ℕ, ◌<◌, Bool, false, List, map, get_or, Option, None, Some, sym, refl, ap, ◌∙◌, ⊎_elim, arith}
use mathlib.Core.Option as maybe
use lib.ListN.{get_elem?}
use Rattle.proc_table.specs.declared.Mode.{Mode}
use Rattle.seat_roster.specs.Totals.{total}
use Rattle.seat_roster.proofs.Totals.{total_at, total_none}
use Rattle.seat_roster.proofs.Stretches.{at_seen, from_seen}
use Rattle.lw_core.specs.declared.view.Frame.TheVariants.{Asleep}
use Rattle.lw_core.specs.declared.view.Size.{Size}
use Rattle.lw_core.specs.Words.{state_at, lock_part}
use Rattle.lw_core.specs.Machine.{LwState, mode_in}
use Rattle.lw_core.specs.Stances.{Stance, is_own, count_if, in_round, between_at, stance_of}
use Rattle.lw_core.specs.CountsHolders.{is_shared, is_exclusive}
use Rattle.lw_core.specs.Rule.{Rule}
use Rattle.lw_core.specs.NoLostWake.{NoWakeIsLost, IsHeldByNobody, NoFreeLockIsSleptFor, NoStaleSleep}
use Rattle.lw_core.proofs.Touches.{top_is}
use Rattle.lw_core.proofs.Owning.{own_here, own_counts}
use Rattle.lw_core.proofs.Markers.{sleeps_between, spends_parts, earns_parts}
use Rattle.lw_core.proofs.Seats.{alone, own_inside}

module _ (lawful : ℕ → List ℕ → Type 0) (z : Size) (s : LwState) (r : Rule lawful z s) where
  abbrev seats : List Stance
  seats = map stance_of s.views

  -- no seat but the one that is p is between a `down` of p and its look at p's waiting field
  none_between : (id p : ℕ) (v : Stance) → get_elem? seats id ≡ maybe.some v → v.own ≡ Some p → v.between ≡ false → total (sleeps_between p) seats ≡ 0
  none_between id p v at own not = own_counts seats (alone lawful z s r) p id v at own (λ (u : Stance). u.between) ∙ ap (λ (b : Bool). count_if b (is_own p v.own)) not

  pub no_wake_is_lost : NoWakeIsLost z s
  no_wake_is_lost id p v at own asleep round off sem unowed =
      let there = at_seen stance_of s.views id v (stance_of v) at refl in let below = own_inside lawful z s r id v at p own in
      let balance = r.wakes.balance p below in let kept = r.markers.poked p below in let a = spends_parts p seats in let b = earns_parts p seats in
      let none = none_between id p (stance_of v) there own (ap between_at (top_is v.place Asleep asleep)) in
      let mine : in_round p (stance_of v) ≡ 1 = ap (λ (b : Bool). count_if b (is_own p v.own)) round ∙ own_here p p v.own own refl in
      let least = total_at (in_round p) seats id (stance_of v) there in omega arith

  -- a lock that nobody holds has no lock part
  nobody_counted : (l : ℕ) → l < z.locks → IsHeldByNobody l s → lock_part (get_or s.words (state_at l) 0) ≡ 0
  nobody_counted l below nobody = let c = (r.counts l below).counted in let a = total_none is_exclusive (map (mode_in l) s.views) (λ i o e. ap is_exclusive (free i o e)) in
      let b = total_none is_shared (map (mode_in l) s.views) (λ i o e. ap is_shared (free i o e)) in omega arith
    where
      free : (i : ℕ) (o : Option Mode) → get_elem? (map (mode_in l) s.views) i ≡ maybe.some o → o ≡ None
      free i o e = let t = from_seen (mode_in l) s.views i o e in sym t.2 ∙ nobody i t.0 t.1

  pub no_free_lock_is_slept_for : NoFreeLockIsSleptFor z s
  no_free_lock_is_slept_for l below nobody = r.free l below (nobody_counted l below nobody)

  pub no_stale_sleep : NoStaleSleep z s
  no_stale_sleep l old below nobody changed id p v at own asleep some = ⊎_elim changed (λ a. nobody a.id a.view a.at a.updates) ((r.variables l below).announced id p old v at own asleep some)

-- The four words of each lock are lawful unless its holder wrote one, after each kind of step and each move.
use Rattle.std.proofs.Common.{◌≡◌, ℕ, ◌+◌, ◌-◌, ◌<◌, Bool, cond, List, [], ◌∷◌, ◌++◌, length, map, set, get_or, None, Some, sym, refl, ap, ◌∙◌, subst, arith, get_or-set_other}
use mathlib.Core.Option as maybe
use lib.ListN.{get_elem?}
use lib.Seq.{set-get_or}
use Rattle.lw_core.specs.declared.step.GuardOp.TheVariants as guard
use Rattle.lw_core.specs.declared.step.LwStep.{LwStep}
use Rattle.lw_core.specs.declared.step.LwStep.TheVariants as kind
use Rattle.lw_core.specs.declared.view.Hold.{Hold}
use Rattle.lw_core.specs.declared.view.Frame.TheVariants.{Trying}
use Rattle.lw_core.specs.declared.view.View.{View}
use Rattle.lw_core.specs.declared.view.Size.{Size}
use Rattle.lw_core.specs.Words.{state_at, guard_at, guarded, grant_of}
use Rattle.lw_core.specs.WaitLists.{home_list}
use Rattle.lw_core.specs.Machine.{LwState, outer, not_held, held, hold_in, mode_in, known_at, learnt, written, number_of, lock_of, lock_number, IsInRange, word_of, becomes, moved, gripped, on_grant, let_go, next, Allowed, after, HoldsNothing, releasing, guard_becomes}
use Rattle.lw_core.specs.CountsHolders.{CountsHolders}
use Rattle.lw_core.specs.GuardedIsLawful.{GuardedIsLawful}
use Rattle.lw_core.specs.Told.{Reads}
use Rattle.lw_core.specs.Rule.{EachGuardedIsLawful, Rule}
use Rattle.lw_core.specs.Runs.{drew_one, stays, comes, both, spent, drawn, split, joined}
use Rattle.lw_core.specs.Seats.{mode_of_hold}
use Rattle.seat_roster.proofs.Stretches.{seen, seen_more, at_seen, unseen, for_same, map_twice}
use Rattle.lw_core.proofs.Guarding.{guarded_granted, guarded_released, guarded_learnt, guarded_written, guarded_more, guarded_spent, reads, learnt_here}
use Rattle.lw_core.proofs.Touches.{on_exchange, on_lock, some_mode, hold_here, hold_else, word_apart, guarded_same, guarded_at, guarded_off, guarded_set, fresh_hold}
use Rattle.lw_core.proofs.Places as places

module _ (lawful : ℕ → List ℕ → Type 0) (z : Size) (s : LwState) (r : Rule lawful z s) (id : ℕ) (v : View) (at : get_elem? s.views id ≡ maybe.some v) where
  -- the four words of l and the seat's hold of it are what they were
  same : (l : ℕ) (words : List ℕ) (w : View) → l < z.locks → guarded words l ≡ guarded s.words l → hold_in l w ≡ hold_in l v → GuardedIsLawful (lawful l) (guarded words l) (map (hold_in l) (set s.views id w))
  same l words w below four hold = for_same _ _ four (λ (x : List ℕ). GuardedIsLawful (lawful l) x (map (hold_in l) (set s.views id w)))
      (for_same _ _ (unseen (hold_in l) s.views id v w at hold) (GuardedIsLawful (lawful l) (guarded s.words l)) (r.guarded l below))

  -- the seat has another hold of l
  other : (l : ℕ) (words four : List ℕ) (h : Hold) (w : View) → guarded words l ≡ four → hold_in l w ≡ h → GuardedIsLawful (lawful l) four (set (map (hold_in l) s.views) id h)
      → GuardedIsLawful (lawful l) (guarded words l) (map (hold_in l) (set s.views id w))
  other l words four h w is hold g = for_same _ _ is (λ (x : List ℕ). GuardedIsLawful (lawful l) x (map (hold_in l) (set s.views id w))) (for_same _ _ (seen (hold_in l) s.views id w h hold) (GuardedIsLawful (lawful l) four) g)

  inside_holds : (l : ℕ) → l < z.locks → l < length v.holds
  inside_holds l below = let long = (places.mine lawful z s r id v at).long in let most = r.sized.locks in omega arith

  seen_hold : (l : ℕ) → get_elem? (map (hold_in l) s.views) id ≡ maybe.some (hold_in l v)
  seen_hold l = at_seen (hold_in l) s.views id v (hold_in l v) at refl

  pub counts_modes : (l : ℕ) → l < z.locks → CountsHolders (get_or s.words (state_at l) 0) (map mode_of_hold (map (hold_in l) s.views))
  counts_modes l below = subst (CountsHolders (get_or s.words (state_at l) 0)) (sym (map_twice mode_of_hold (hold_in l) s.views)) (r.counts l below)

  -- the lock that the step is on
  by_kind : (k : LwStep) → lock_of k ≡ Some (lock_number k) → lock_number k < z.locks → (v.own ≡ None → ⊥) → Allowed lawful k v → let n = get_or s.words (word_of z (number_of v.own) k) 0 in
      GuardedIsLawful (lawful (lock_number k)) (guarded (set s.words (word_of z (number_of v.own) k) (becomes k n)) (lock_number k)) (map (hold_in (lock_number k)) (set s.views id (next k v n (home_list s.homes (lock_number k)))))
  by_kind (kind.Grant l m w) on below numbered ok = let n : ℕ = get_or s.words (state_at l) 0 in let k : LwStep = kind.Grant l m w in let now = places.tries lawful z s r id v at l w m ok.0 in
      on_exchange n w (λ (b : Bool). GuardedIsLawful (lawful l) (guarded (set s.words (state_at l) (cond b (w + grant_of m) n)) l) (map (hold_in l) (set s.views id (cond b (gripped v k l n (on_grant v.surplus (outer v.place)) (held m) (v.grants + 1)) (moved v k n (Trying l m n ∷ outer v.place))))))
      (λ hit. other l _ (guarded s.words l) (held m) _ (guarded_off s.words l (w + grant_of m) l) (hold_here v k l n (on_grant v.surplus (outer v.place)) (held m) (v.grants + 1) (inside_holds l below))
      (guarded_granted (lawful l) (guarded s.words l) (map (hold_in l) s.views) (r.guarded l below) id (hold_in l v) m (seen_hold l) now.0))
      (λ miss. same l _ _ below (guarded_off s.words l n l) refl)
  by_kind (kind.Sub l m b) on below numbered ok = let n : ℕ = get_or s.words (state_at l) 0 in other l _ (guarded s.words l) not_held _ (guarded_off s.words l _ l) (hold_here v (kind.Sub l m b) l n (let_go b l (n - grant_of m) (releasing b v.place)) not_held v.grants (inside_holds l below))
      (guarded_released (lawful l) (guarded s.words l) (map (hold_in l) s.views) (r.guarded l below) id (hold_in l v) refl (seen_hold l) ok.2)
  by_kind (kind.Guard l k guard.Load) on below numbered ok = let n : ℕ = get_or s.words (guard_at l k) 0 in let is = some_mode (mode_in l v) ok.2 in
      other l (set s.words (guard_at l k) n) (guarded s.words l) (learnt (hold_in l v) k n) _ (ap (λ (x : List ℕ). guarded x l) (set-get_or s.words (guard_at l k) 0)) (hold_here v (kind.Guard l k guard.Load) l n v.place (learnt (hold_in l v) k n) v.grants (inside_holds l below))
      (subst (λ (x : ℕ). GuardedIsLawful (lawful l) (guarded s.words l) (set (map (hold_in l) s.views) id (learnt (hold_in l v) k x))) (guarded_at s.words l k ok.0)
      (guarded_learnt (lawful l) (guarded s.words l) (map (hold_in l) s.views) (r.guarded l below) id k (hold_in l v) is.0 ok.0 (seen_hold l) is.1))
  by_kind (kind.Guard l k o) on below numbered ok = let n : ℕ = get_or s.words (guard_at l k) 0 in let x : ℕ = guard_becomes o n in let wide = r.sized.long in
      other l (set s.words (guard_at l k) x) (set (guarded s.words l) k x) (written (hold_in l v) k x) _ (guarded_set s.words l k x ok.0 (omega arith)) (hold_here v (kind.Guard l k o) l n v.place (written (hold_in l v) k x) v.grants (inside_holds l below))
      (guarded_written (lawful l) (guarded s.words l) (map (hold_in l) s.views) (r.guarded l below) id k x _ (hold_in l v) ok.0 refl (seen_hold l) ok.2 (counts_modes l below))
  by_kind (kind.Post q b) on below numbered ok = absurd (cc)
  by_kind k on below numbered ok = let i : ℕ = word_of z (number_of v.own) k in let x : ℕ = becomes k (get_or s.words i 0) in
      same (lock_number k) (set s.words i x) _ below (guarded_same (set s.words i x) s.words (lock_number k) (λ j few. get_or-set_other s.words i (guard_at (lock_number k) j) x 0 (λ e. omega arith))) refl

  pub guards_step : (k : LwStep) → IsInRange z k → (v.own ≡ None → ⊥) → Allowed lawful k v → EachGuardedIsLawful lawful z (after z s id v k)
  guards_step k inside numbered ok l below =
      let i : ℕ = word_of z (number_of v.own) k in let n : ℕ = get_or s.words i 0 in let w : View = next k v n (home_list s.homes (lock_number k)) in
      on_lock k l (GuardedIsLawful (lawful l) (guarded (set s.words i (becomes k n)) l) (map (hold_in l) (set s.views id w)))
      (λ on. let here_is : lock_number k ≡ l = ap number_of on in
      subst (λ (j : ℕ). GuardedIsLawful (lawful j) (guarded (set s.words i (becomes k n)) j) (map (hold_in j) (set s.views id w))) here_is
      (by_kind k (on ∙ ap Some (sym here_is)) (subst (λ (j : ℕ). j < z.locks) (sym here_is) below) numbered ok))
      (λ off. same l (set s.words i (becomes k n)) w below
      (guarded_same (set s.words i (becomes k n)) s.words l (λ j few. get_or-set_other s.words i (guard_at l j) (becomes k n) 0 (word_apart lawful z (number_of v.own) k v ok l below off (guard_at l j) (omega arith) (omega arith))))
      (hold_else k v n (home_list s.homes (lock_number k)) l off))

  -- what a read tells
  pub reads_step : (l k : ℕ) → l < z.locks → Allowed lawful (kind.Guard l k guard.Load) v → Reads (lawful l) (hold_in l v) k (get_or s.words (guard_at l k) 0)
  reads_step l k below ok = let is = some_mode (mode_in l v) ok.2 in subst (Reads (lawful l) (hold_in l v) k) (guarded_at s.words l k ok.0)
      (reads (lawful l) (guarded s.words l) (map (hold_in l) s.views) (r.guarded l below) id k _ (hold_in l v) is.0 ok.0 refl (seen_hold l) is.1 (counts_modes l below))

  -- what a write tells
  pub writes_step : (l k x : ℕ) → l < z.locks → k < 4 → known_at (written (hold_in l v) k x) k ≡ Some x
  writes_step l k x below few = let four = ((r.guarded l below).knows id (hold_in l v) (seen_hold l)).four in learnt_here (hold_in l v) k x (omega arith)

  pub guards_draw : EachGuardedIsLawful lawful z (drawn s id v)
  guards_draw l below = same l (set s.words 0 (get_or s.words 0 0 + 1)) (drew_one v) below (guarded_same (set s.words 0 (get_or s.words 0 0 + 1)) s.words l (λ j few. get_or-set_other s.words 0 (guard_at l j) (get_or s.words 0 0 + 1) 0 (λ e. omega arith))) refl

  pub guards_split : EachGuardedIsLawful lawful z (split s id v)
  guards_split l below = for_same _ _ (seen_more (hold_in l) (set s.views id (stays v)) (comes v)) (GuardedIsLawful (lawful l) (guarded s.words l))
      (for_same _ _ (fresh_hold v.pending l) (λ (h : Hold). GuardedIsLawful (lawful l) (guarded s.words l) (map (hold_in l) (set s.views id (stays v)) ++ h ∷ []))
      (guarded_more (lawful l) (guarded s.words l) (map (hold_in l) (set s.views id (stays v))) (same l s.words (stays v) below refl refl)))

  pub guards_join : (other : ℕ) (w : View) → get_elem? (set s.views id (both v w)) other ≡ maybe.some w → HoldsNothing w → EachGuardedIsLawful lawful z (joined s id v other w)
  guards_join other w there empty l below = for_same _ _ (seen (hold_in l) (set s.views id (both v w)) other spent not_held (fresh_hold None l)) (GuardedIsLawful (lawful l) (guarded s.words l))
      (guarded_spent (lawful l) (guarded s.words l) (map (hold_in l) (set s.views id (both v w))) (same l s.words (both v w) below refl refl) other (hold_in l w)
      (at_seen (hold_in l) (set s.views id (both v w)) other w (hold_in l w) there refl) (empty l))

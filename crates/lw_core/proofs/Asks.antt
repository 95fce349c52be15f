-- The table allows each step, from what its caller knows.
use Rattle.std.proofs.Common.{◌≡◌, ℕ, ◌+◌, ◌-◌, ◌%◌, ◌^◌, ◌<◌, ◌≤◌, eqb, Bool, true, false, cond, List, [], get_or, set, map, Option, None, Some, sym, refl, ap, ◌∙◌, subst, arith}
use Rattle.std.proofs.lemmas.Bool.{eqb-true}
use mathlib.Core.Option as maybe
use lib.ListN.{get_elem?}
use lib.Seq.{set-get_or}
use prog.Atomic.{either}
use Rattle.atomic_table.specs.Table.{Allows, Splits, Joins, Act, Valid, keeps, takes, homes_after, stepped}
use Rattle.atomic_table.specs.Table as table
use Rattle.atomic_table.proofs.Lists.{set_again, set_else}
use Rattle.proc_table.specs.declared.Mode.{Mode}
use Rattle.proc_table.specs.declared.Mode.TheVariants.{Shared, Exclusive}
use Rattle.lw_core.specs.declared.step.GuardOp.TheVariants as guard
use Rattle.lw_core.specs.declared.step.LwStep.{LwStep}
use Rattle.lw_core.specs.declared.step.LwStep.TheVariants as kind
use Rattle.lw_core.specs.declared.step.WordOp.{WordOp}
use Rattle.lw_core.specs.declared.view.View.{View}
use Rattle.lw_core.specs.declared.view.Size.{Size}
use Rattle.lw_core.specs.declared.view.Waiter.{Waiter}
use Rattle.lw_core.specs.Words.{Waiters, state_at, grant_of, locked, has_flag}
use Rattle.lw_core.specs.WaitLists.{home_of, home_list}
use Rattle.lw_core.specs.Machine.{LwState, mode_in, number_of, lock_number, word_of, becomes, next, takes_list, as_waiters, act_of, carried, IsInRange, Allowed, HoldsNothing}
use Rattle.lw_core.specs.Rule.{Rule, numbers_of, seating_of}
use Rattle.lw_core.specs.Runs.{drew_one, stays, comes, both, spent}
use Rattle.lw_core.specs.Ops.{about, result_of, op_of, TableAllows}
use Rattle.lw_core.specs.Sending.{HasSlot}
use Rattle.lw_core.specs.Told.{Sat, does, looks, draws_one}
use Rattle.seat_roster.proofs.Stretches.{at_seen}
use Rattle.lw_core.proofs.Flags.{or_locked, or_ok, or_waiters, and_locked, and_locked_waiters}
use Rattle.lw_core.proofs.Turning.{hand_follows}
use Rattle.lw_core.proofs.Holders.{grant_below}
use Rattle.lw_core.proofs.Touches.{on_exchange}
use Rattle.lw_core.proofs.Seats.{own_inside}
use Rattle.lw_core.proofs.RuleKeeps as rule_keeps
use Rattle.lw_core.proofs.RuleKeeps.{rule_step, sem_small, rule_draw, rule_split, rule_join}

-- what is known of the word found, where the table's function of it is to be the machine's
abbrev pub Bounds : LwStep → ℕ → Type 0
Bounds (kind.Grant l m w) n = n < 2 ^ 32
Bounds (kind.Sub l m b) n = (n < 2 ^ 32) × (grant_of m ≤ n)
Bounds (kind.Post q b) n = n < 2 ^ 32
Bounds kind.Down n = (1 ≤ n) × (n < 2 ^ 32)
Bounds k n = n < 2 ^ 64

-- where the list goes home it is the one that the seat has out; else no slot is read
homes_same : (k : LwStep) (v : View) (n : ℕ) (found : List Waiter) (homes : List (maybe.Option Waiters)) (c : List (ℕ × Waiters)) → HasSlot k v c → homes_after homes (carried k v) (act_of k n found) ≡ homes_after homes c (act_of k n found)
homes_same (kind.Lock l b) v n found homes d h = on_exchange (has_flag locked n) 0 (λ (c : Bool). let a : Act Waiters = cond c (takes l (as_waiters found)) keeps in homes_after homes (carried (kind.Lock l b) v) a ≡ homes_after homes d a) (λ _. refl) (λ _. refl)
homes_same (kind.Unlock l clears) v n found homes c h = ap (λ (x : List (ℕ × Waiters)). homes_after homes x (act_of (kind.Unlock l clears) n found)) (sym h)
homes_same (kind.Wake l w to) v n found homes c h = ap (λ (x : List (ℕ × Waiters)). homes_after homes x (act_of (kind.Wake l w to) n found)) (sym h)
homes_same k v n found homes c h = refl

-- a list that is taken was at home
valid : (k : LwStep) (n : ℕ) (homes : List (maybe.Option Waiters)) (c : List (ℕ × Waiters)) → (takes_list k n ≡ true → (list : Waiters) × (get_elem? homes (lock_number k) ≡ maybe.some (maybe.some list))) → Valid homes c (act_of k n (home_list homes (lock_number k)))
valid (kind.Lock l b) n homes c h = taken (eqb (has_flag locked n) 0) h
  where
    taken : (b : Bool) → (b ≡ true → (list : Waiters) × (get_elem? homes l ≡ maybe.some (maybe.some list))) → Valid homes c (cond b (takes l (as_waiters (home_list homes l))) keeps)
    taken true h = let there = h refl in there.1 ∙ ap (λ (o : maybe.Option (maybe.Option Waiters)). maybe.some (maybe.some (as_waiters (home_of o)))) (sym there.1)
    taken false h = tt
valid (kind.Wake l w to) n homes c h = either_act (eqb n w)
  where
    either_act : (b : Bool) → Valid homes c (cond b table.gives keeps)
    either_act true = tt
    either_act false = tt
valid k n homes c h = tt

module _ (lawful : ℕ → List ℕ → Type 0) (z : Size) where
  enough : (s : LwState) (r : Rule lawful z s) (id l : ℕ) (v : View) (m : Mode) → get_elem? s.views id ≡ maybe.some v → l < z.locks → mode_in l v ≡ Some m → grant_of m ≤ get_or s.words (state_at l) 0
  enough s r id l v m at inside e = grant_below (map (mode_in l) s.views) id (get_or s.words (state_at l) 0) m (at_seen (mode_in l) s.views id v (Some m) at e) (r.counts l inside)

  own_below : (s : LwState) (r : Rule lawful z s) (id : ℕ) (v : View) → get_elem? s.views id ≡ maybe.some v → (o : Option ℕ) → v.own ≡ o → (o ≡ None → ⊥) → number_of o < z.procs
  own_below s r id v at None e numbered = absurd (numbered refl)
  own_below s r id v at (Some p) e numbered = own_inside lawful z s r id v at p e

  bounds : (s : LwState) (r : Rule lawful z s) (id : ℕ) (v : View) → get_elem? s.views id ≡ maybe.some v → (k : LwStep) → IsInRange z k → (v.own ≡ None → ⊥) → Allowed lawful k v
      → let n = get_or s.words (word_of z (number_of v.own) k) 0 in n < 2 ^ 64 → Bounds k n
  bounds s r id v at (kind.Grant l m w) inside numbered ok small = (r.counts l inside.0).fits
  bounds s r id v at (kind.Sub l m b) inside numbered ok small = ((r.counts l inside.0).fits, enough s r id l v m at inside.0 ok.1)
  bounds s r id v at (kind.Post q b) inside numbered ok small = sem_small lawful z s r id v at q inside.1
  bounds s r id v at kind.Down inside numbered ok small = (rule_keeps.by_kind lawful z s r id v at kind.Down inside numbered ok, sem_small lawful z s r id v at (number_of v.own) (own_below s r id v at v.own refl numbered))
  bounds s r id v at k inside numbered ok small = small

  -- the list that a step takes is at home
  at_home : (s : LwState) (r : Rule lawful z s) (own : ℕ) (k : LwStep) → IsInRange z k → takes_list k (get_or s.words (word_of z own k) 0) ≡ true → (list : Waiters) × (get_elem? s.homes (lock_number k) ≡ maybe.some (maybe.some list))
  at_home s r own (kind.Lock l b) inside taken = (r.lists l inside.0).at_home (eqb-true _ _ taken)
  at_home s r own k inside taken = absurd (cc)

  -- the step k, where the table's function f of the word is the machine's
  allows : (slots id : ℕ) (me : Sat) (k : LwStep) (f : ℕ → ℕ) → IsInRange z k → (me.0.own ≡ None → ⊥) → Allowed lawful k me.0 → HasSlot k me.0 me.1
      → ((n : ℕ) → Bounds k n → f n ≡ becomes k n) → Allows (Rule lawful z) slots id me (word_of z (number_of me.0.own) k) f (does lawful z k about me)
  allows slots id me k f inside numbered ok slot agrees s r _ at small =
      let own : ℕ = number_of me.0.own in let i : ℕ = word_of z own k in let n : ℕ = get_or s.words i 0 in let found : List Waiter = home_list s.homes (lock_number k) in let view : View = next k me.0 n found in (
        view,
        act_of k n found,
        valid k n s.homes me.1 (at_home s r own k inside),
        subst (λ (x : ℕ). Rule lawful z (stepped s i x id me.1 view (act_of k n found))) (sym (agrees n (bounds s r id me.0 at k inside numbered ok small)))
            (subst (λ (x : List (maybe.Option Waiters)). Rule lawful z record { words = set s.words i (becomes k n); homes = x; views = set s.views id view }) (homes_same k me.0 n found s.homes me.1 slot) (rule_step lawful z s r id me.0 at k inside numbered ok)),
        (found, refl, refl, rule_keeps.by_kind lawful z s r id me.0 at k inside numbered ok, hand_follows lawful z me.0 (r.places id (seating_of me.0) (at_seen seating_of s.views id me.0 (seating_of me.0) at refl)).place k n found ok),
      )

  -- seat 0 looks at the number that it may draw
  pub looks_allowed : (slots id : ℕ) (me : Sat) → Allows (Rule lawful z) slots id me 0 (λ n. n) (looks z about me)
  looks_allowed slots id me s r _ at _ = (
    me.0,
    keeps,
    tt,
    subst (λ (x : List View). Rule lawful z record { words = set s.words 0 (get_or s.words 0 0); homes = s.homes; views = x }) (sym (set_again s.views id me.0 at))
        (subst (λ (x : List ℕ). Rule lawful z record { words = x; homes = s.homes; views = s.views }) (sym (set-get_or s.words 0 0)) r),
    (refl, refl, λ zero_is. ((r.roster.drawer id (numbers_of me.0) (at_seen numbers_of s.views id me.0 (numbers_of me.0) at refl) zero_is).up_to, r.roster.few)),
  )

  pub draws_allowed : (slots id : ℕ) (me : Sat) → me.0.own ≡ Some 0 → me.0.pending ≡ None → me.0.drawn + 1 < z.procs → Allows (Rule lawful z) slots id me 0 (λ n. (n + 1) % 2 ^ 64) (draws_one about me)
  draws_allowed slots id me zero_is free more s r _ at _ = let n : ℕ = get_or s.words 0 0 in let few = r.roster.few in let procs = r.sized.procs in let fits : (n + 1) % 2 ^ 64 ≡ n + 1 = omega arith in (
    drew_one me.0,
    keeps,
    tt,
    subst (λ (x : ℕ). Rule lawful z (stepped s 0 x id [] (drew_one me.0) keeps)) (sym fits) (rule_draw lawful z s r id me.0 at zero_is free more),
    (refl, refl),
  )

  pub splits_allowed : (id : ℕ) (v : View) → Splits (Rule lawful z) id v (stays v) (comes v)
  splits_allowed id v s r at = rule_split lawful z s r id v at

  pub joins_allowed : (id : ℕ) (v : View) (other : ℕ) (w : View) → w.pending ≡ None → w.place ≡ [] → HoldsNothing w → Joins (Rule lawful z) id v other w (both v w) spent
  joins_allowed id v other w settled idle empty s r at apart there = rule_join lawful z s r id v at other w apart (sym (set_else s.views id other (both v w) apart) ∙ there) settled idle empty

sum_fits : (w : ℕ) (m : Mode) → w < 2 ^ 32 → (w + grant_of m) % 2 ^ 64 ≡ w + grant_of m
sum_fits w Shared small = omega arith
sum_fits w Exclusive small = omega arith

-- a subtraction that doesn't go below 0
subtracts : (n k : ℕ) → n < 2 ^ 32 → k ≤ n → (n + (2 ^ 64 - k)) % 2 ^ 64 ≡ n - k
subtracts n k small below = omega arith

-- the table's operation does to the word what the machine says
by_kind : (k : LwStep) (n : ℕ) → Bounds k n → result_of (op_of k) n ≡ becomes k n
by_kind (kind.Grant l m w) n small = on_exchange n w (λ (b : Bool). either b ((w + grant_of m) % 2 ^ 64) n ≡ cond b (w + grant_of m) n) (λ hit. sum_fits w m (omega arith)) (λ miss. refl)
by_kind (kind.Refuse l m w) n h = on_exchange n w (λ (b : Bool). either b w n ≡ n) (λ hit. sym hit) (λ miss. refl)
by_kind (kind.Sub l m b) n h = subtracts n (grant_of m) h.0 h.1
by_kind (kind.Lock l b) n h = or_locked n
by_kind (kind.Unlock l true) n h = and_locked_waiters n h
by_kind (kind.Unlock l false) n h = and_locked n h
by_kind (kind.Flag l) n h = or_waiters n
by_kind (kind.Wake l w to) n h = on_exchange n w (λ (b : Bool). either b to n ≡ cond b to n) (λ hit. refl) (λ miss. refl)
by_kind (kind.Post q b) n h = omega arith
by_kind kind.Down n h = subtracts n 1 h.1 h.0
by_kind (kind.SetReleaseOk l) n h = or_ok n
by_kind (kind.Guard l k guard.Load) n h = refl
by_kind k n h = refl

-- a step of a seat, at a table whose key is its size
pub table_allows : (lawful : ℕ → List ℕ → Type 0) (key z : Size) (k : LwStep) (me : Sat) (slots id own word : ℕ) (o : WordOp) → key ≡ z → me.0.own ≡ Some own → IsInRange z k → Allowed lawful k me.0 → HasSlot k me.0 me.1
    → word ≡ word_of z own k → o ≡ op_of k → TableAllows lawful key slots id me word (result_of o) k
table_allows lawful key z k me slots id own word o keyed mine inside ok slot at is =
    subst (λ (x : Size). TableAllows lawful x slots id me word (result_of o) k) (sym keyed)
    (subst (λ (i : ℕ). TableAllows lawful z slots id me i (result_of o) k) (ap (λ (x : Option ℕ). word_of z (number_of x) k) mine ∙ sym at)
    (allows lawful z slots id me k (result_of o) inside (λ none. absurd (cc)) ok slot
    (λ n b. ap (λ (x : WordOp). result_of x n) is ∙ by_kind k n b)))

-- the same, of one arm's operation, where the play names the table's size
pub table_allows_as : (lawful : ℕ → List ℕ → Type 0) (z y : Size) (slots id : ℕ) (me : Sat) (word : ℕ) (o arm : WordOp) (k : LwStep) → y ≡ z → o ≡ arm → TableAllows lawful z slots id me word (result_of o) k
    → Allows (Rule lawful z) slots id me word (result_of arm) (does lawful y k about me)
table_allows_as lawful z y slots id me word o arm k sized is h = subst (λ (x : Size × WordOp). Allows (Rule lawful z) slots id me word (result_of x.1) (does lawful x.0 k about me)) (λ j. (sym sized j, is j)) h

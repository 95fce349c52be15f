-- Over a run, each who was listed at the first take of a broadcast is taken off the list, or the sentinel is behind it.
use Rattle.std.proofs.Common.{◌≡◌, ◌≢◌, ◌⊎◌, ℕ, ◌<◌, ◌≤◌, true, false, List, [], ◌∷◌, ◌++◌, length, map, get_or, set, Option, None, Some, sym, refl, ap, ◌∙◌, subst, ⊎_elim, inl, inr, arith}
use mathlib.Core.List.{map-append}
use mathlib.Core.Logic.{dite}
use mathlib.Core.Option as maybe
use native.Mathlib.Decide.{ℕ_discrete}
use lib.ListN.{get_elem?}
use lib.Seq.{map-set}
use Rattle.atomic_table.specs.Table.{stepped}
use Rattle.atomic_table.proofs.Lists.{at_map, at_longer, set_else}
use Rattle.wait_core.specs.declared.party.ClientOp.{ClientOp}
use Rattle.wait_core.specs.declared.step.WaitStep.{WaitStep}
use Rattle.wait_core.specs.declared.step.WaitStep.TheVariants.{Sload, Sset, Reset, Mstore, Mload, Byte, Look, Drain, Shload, Shstore, Take, Spin, Free}
use Rattle.wait_core.specs.declared.view.Frame.TheVariants.{Holding}
use Rattle.wait_core.specs.declared.view.Job.{Job}
use Rattle.wait_core.specs.declared.view.Job.TheVariants as job
use Rattle.wait_core.specs.declared.view.Kept.{Kept}
use Rattle.wait_core.specs.declared.view.PartyView.{PartyView}
use Rattle.wait_core.specs.declared.view.Record.{Record}
use Rattle.wait_core.specs.declared.view.Size.{Size}
use Rattle.wait_core.specs.declared.view.WaitView.{WaitView}
use Rattle.wait_core.specs.Meanings.{Meanings}
use Rattle.seat_roster.specs.Roster.{times}
use Rattle.seat_roster.proofs.Numbers.{one_seat}
use Rattle.seat_roster.proofs.Stretches.{unseen}
use Rattle.seat_roster.proofs.Totals.{total_snoc, set_there}
use Rattle.wait_core.specs.Words.{slot_of, spin_at, client_base, slots_in}
use Rattle.wait_core.specs.Lists.{precedes}
use Rattle.wait_core.specs.Jobs.{spot_of, left_list, target_after, goes_on}
use Rattle.wait_core.specs.Machine.{WaitState, Place, number_of, word_of, becomes, left_at, home_in, slot_number, act_of, carried, freed, target_then, Permits, next_with, after}
use Rattle.wait_core.specs.Seating.{numbers_of, standing_of, client_moved, with_drawn, stays, comes, took_in, spent_view}
use Rattle.wait_core.specs.Fits.{Fits}
use Rattle.wait_core.specs.Stances.{Stance, Homes, stance_of, is_just, hand_at, sentinel_of, sentinel_at, target_or, pops_at, amount_by, amount_on, times_on, order_on}
use Rattle.wait_core.specs.Rule.{Rule}
use Rattle.wait_core.specs.Runs.{Deed, machine, client, draw, seat, join, Deeds, Steps, Runs, Somewhere}
use Rattle.wait_core.specs.Broadcasts.{StandsBehind, AtFirstTake, TakesOff}
use Rattle.wait_core.proofs.Lists.{stands_there}
use Rattle.wait_core.proofs.Turns.{in_hand, Turn, frees, idle}
use Rattle.wait_core.proofs.Turns as turn
use Rattle.wait_core.proofs.Turning.{view_turns}
use Rattle.wait_core.proofs.Owning.{amount_same, amount_sent, amount_held, Alone, alone_stances, own_counts, counts_most}
use Rattle.wait_core.proofs.SpinInOneHand.{SpinsAreFlags, one_hand, home_out}
use Rattle.wait_core.proofs.Sentinel.{Goes, broadcast_goes, rebroadcast_goes, order_turn}
use Rattle.wait_core.proofs.RuleKept.{own_below, word_inside}

-- PLACES. The seat has a list in hand, or none
hand_or_none : (p : Place) → (hand_at p ≡ None) ⊎ ((j : Job) × (list : List ℕ) × (found : Record) × (rest : Place) × (p ≡ Holding j list found ∷ rest))
hand_or_none (Holding j list found ∷ p) = inr (j, list, found, p, refl)
hand_or_none p = inl refl

-- a list in hand is freed
freed_next : (z : Size) (k : WaitStep) (own t : Option ℕ) (j : Job) (list : List ℕ) (found : Record) (p : Place) → Permits z k own t (Holding j list found ∷ p) → (a : Option ℕ) × (k ≡ Free (spot_of j) a) × (a ≡ target_after j t)
freed_next z (Free x a) own t j list found p ok = (a, (λ i. Free (sym ok.1.0 i) a), ok.1.1)
freed_next z (Sload q (Some c)) own t j list found p ok = absurd ok.1
freed_next z (Sload q None) own t j list found p ok = absurd ok.1
freed_next z (Sset q) own t j list found p ok = absurd (let e = ok.1 in cc)
freed_next z (Reset (Some c)) own t j list found p ok = absurd ok.1
freed_next z (Reset None) own t j list found p ok = absurd ok
freed_next z (Mstore true) own t j list found p ok = absurd ok
freed_next z (Mstore false) own t j list found p ok = absurd ok
freed_next z (Mload q) own t j list found p ok = absurd (let e = ok.1 in cc)
freed_next z (Byte q) own t j list found p ok = absurd ok.1
freed_next z Look own t j list found p ok = absurd ok
freed_next z Drain own t j list found p ok = absurd ok
freed_next z (Shload (Some c)) own t j list found p ok = absurd ok.1
freed_next z (Shload None) own t j list found p ok = absurd (cc)
freed_next z (Shstore b) own t j list found p ok = absurd ok.1
freed_next z (Take x (Some c)) own t j list found p ok = absurd ok.3
freed_next z (Take x None) own t j list found p ok = absurd ok.1
freed_next z (Spin x) own t j list found p ok = absurd ok.1

-- where none is in hand the target stays
target_stays : (z : Size) (k : WaitStep) (own t : Option ℕ) (p : Place) → Permits z k own t p → hand_at p ≡ None → target_then k t ≡ t
target_stays z (Free x a) own t (Holding j list found ∷ p) ok none = absurd (cc)
target_stays z (Free x a) own t p ok none = absurd ok.1
target_stays z k own t p ok none = refl

is_rebroadcast : (j : Job) (c : ℕ) → sentinel_of j ≡ Some c → j ≡ job.Rebroadcast c
is_rebroadcast (job.Rebroadcast d) c e = let same : d ≡ c = cc in ap job.Rebroadcast same
is_rebroadcast j c e = absurd (cc)

no_target : (t o : Option ℕ) → target_or t o ≡ None → t ≡ None
no_target (Some c) o e = absurd (cc)
no_target None o e = refl

-- where no list is in hand what the seat belongs to stays
belongs_stays : (z : Size) (words : List ℕ) (homes after : Homes) (i x : ℕ) (v w : Stance) → v.hand ≡ None → Turn z words homes after i x v w → w.belongs ≡ v.belongs
belongs_stays z words homes after i x v w none (turn.stays still stay is) = ap (λ (u : Stance). u.belongs) is
belongs_stays z words homes after i x v w none (turn.reaches q few at_q to stay popped is) = ap (λ (u : Stance). u.belongs) is
belongs_stays z words homes after i x v w none (turn.resets q few own at_q to stay is) = ap (λ (u : Stance). u.belongs) is
belongs_stays z words homes after i x v w none (turn.takes c k inside at_c to clear home goes free is) = ap (λ (u : Stance). u.belongs) is
belongs_stays z words homes after i x v w none (frees o c found k few inside own at_c to has nobody goes sends) = absurd (cc)

module _ {C : Type 0} (id q c p : ℕ) (list : List ℕ) where
  -- THE BROADCASTER, from its first free on while its sentinel is listed, with p before it
  pub record Later (s : WaitState C) : Type 0 where
    pub view : WaitView C
    pub at : get_elem? s.views id ≡ maybe.some view
    pub own : view.own ≡ Some q
    pub free : view.target ≡ None
    pub sentinel : sentinel_at view.place ≡ Some c
    pub behind : StandsBehind q p c s

  abbrev pub Covers : WaitState C → Type 0
  Covers s = AtFirstTake id q c list s ⊎ Later s

  -- its seat stays as it was, and so does the order
  covers_same : (s t : WaitState C) → ((v : WaitView C) → get_elem? s.views id ≡ maybe.some v → (v.place ≡ [] → ⊥) → (w : WaitView C) × (get_elem? t.views id ≡ maybe.some w) × (w.own ≡ v.own) × (w.target ≡ v.target) × (w.place ≡ v.place))
      → (StandsBehind q p c s → StandsBehind q p c t) → Covers s → Covers t
  covers_same s t kept order (inl a) = let w = kept a.view a.at (λ e. let h = a.place in absurd (cc)) in
      inl record { view = w.0; at = w.1; own = w.2 ∙ a.own; found = a.found; rest = a.rest; place = w.4 ∙ a.place }
  covers_same s t kept order (inr b) = let w = kept b.view b.at (λ e. let h : sentinel_at [] ≡ Some c = sym (ap sentinel_at e) ∙ b.sentinel in absurd (cc)) in
      inr record { view = w.0; at = w.1; own = w.2 ∙ b.own; free = w.3 ∙ b.free; sentinel = ap sentinel_at w.4 ∙ b.sentinel; behind = order b.behind }

  -- a seat's view changes in what this doesn't see
  covers_set : (s : WaitState C) (words : List ℕ) (j : ℕ) (u w : WaitView C) → get_elem? s.views j ≡ maybe.some u → w.own ≡ u.own → w.target ≡ u.target → w.place ≡ u.place → stance_of w ≡ stance_of u
      → Covers s → Covers record { words = words; homes = s.homes; views = set s.views j w }
  covers_set s words j u w at own target place same = covers_same s record { words = words; homes = s.homes; views = set s.views j w }
      (λ v there _. dite (ℕ_discrete id j)
      (λ (e : id ≡ j). let is : u ≡ v = maybe.some-injective u v (sym at ∙ (ap (λ (n : ℕ). get_elem? s.views n) (sym e) ∙ there)) in
      (w, ap (get_elem? (set s.views j w)) e ∙ set_there s.views j u w at, own ∙ ap (λ (x : WaitView C). x.own) is, target ∙ ap (λ (x : WaitView C). x.target) is, place ∙ ap (λ (x : WaitView C). x.place) is))
      (λ (ne : id ≢ j). (v, set_else s.views j id w ne ∙ there, refl, refl, refl)))
      (subst (λ (l : List Stance). 1 ≤ order_on p q c s.homes l) (sym (unseen stance_of s.views j u w at same)))

  -- a seat comes
  covers_more : (s : WaitState C) (w : WaitView C) → w.place ≡ [] → Covers s → Covers record { words = s.words; homes = s.homes; views = s.views ++ w ∷ [] }
  covers_more s w still = covers_same s record { words = s.words; homes = s.homes; views = s.views ++ w ∷ [] } (λ v there _. (v, at_longer s.views (w ∷ []) id v there, refl, refl, refl))
      (λ behind. subst (λ (l : List Stance). 1 ≤ order_on p q c s.homes l) (sym (map-append stance_of s.views (w ∷ []))) (let sum = total_snoc (amount_by (precedes p q) c) (map stance_of s.views) (stance_of w) in omega arith))

  -- a seat in no call is spent
  covers_spent : (s : WaitState C) (other : ℕ) (w left : WaitView C) → get_elem? s.views other ≡ maybe.some w → w.place ≡ [] → left.place ≡ [] → Covers s → Covers record { words = s.words; homes = s.homes; views = set s.views other left }
  covers_spent s other w left at still gone = covers_same s record { words = s.words; homes = s.homes; views = set s.views other left }
      (λ v there call. dite (ℕ_discrete id other)
      (λ (e : id ≡ other). let is : w ≡ v = maybe.some-injective w v (sym at ∙ (ap (λ (n : ℕ). get_elem? s.views n) (sym e) ∙ there)) in absurd (call (sym (ap (λ (x : WaitView C). x.place) is) ∙ still)))
      (λ (ne : id ≢ other). (v, set_else s.views other id left ne ∙ there, refl, refl, refl)))
      (λ behind. subst (λ (l : List Stance). 1 ≤ order_on p q c s.homes l) (sym (map-set stance_of s.views other left))
      (let a = amount_same s.homes (map stance_of s.views) other (stance_of w) (stance_of left) (at_map stance_of s.views other w at) (precedes p q) refl c (ap hand_at gone ∙ sym (ap hand_at still)) in omega arith))

-- what a list in hand frees as
left_is : (o : ℕ) (p : Place) (j : Job) (list : List ℕ) (found : Record) (rest : Place) → p ≡ Holding j list found ∷ rest → (left_at o p).list.items ≡ left_list j o list
left_is o p j list found rest e = ap (λ (x : Place). (left_at o x).list.items) e

-- the state after the step k of the backend o
abbrev pub moved : {C : Type 0} → Size → WaitState C → ℕ → WaitView C → ℕ → WaitStep → WaitState C
moved z s id v o k =
    let i : ℕ = word_of z o k in let n : ℕ = get_or s.words i 0 in let found : Kept = home_in s.homes (slot_number k) in
    stepped s i (becomes k n) id (carried k o v.place) (next_with z k v n found) (act_of k n found)

module _ {C : Type 0} (means : Meanings C) (z : Size) (phase count : ℕ) (s : WaitState C) (r : Rule means z phase count s) where
  abbrev seats : List Stance
  seats = map stance_of s.views

  spins : SpinsAreFlags z s.words
  spins x below = let long = r.sized.long in r.flags (spin_at z x) (omega arith) (omega arith)

  wide : client_base z ≤ length s.words
  wide = let long = r.sized.long in omega arith

  alone : Alone seats
  alone = alone_stances z.procs (get_or s.words 0 0) s.views r.roster

  -- whoever is on a list that a seat has in hand is on it once
  module _ (id o : ℕ) (v : WaitView C) (at : get_elem? s.views id ≡ maybe.some v) (own : v.own ≡ Some o) where
    there : get_elem? seats id ≡ maybe.some (stance_of v)
    there = at_map stance_of s.views id v at

    below : o < z.procs
    below = own_below means z phase count s r id v o at own

    fits : Fits z.cvs v.target v.place
    fits = r.places.fits id (standing_of v) (at_map standing_of s.views id v at)

    -- the turn of its step
    turned : (k : WaitStep) → Permits z k (Some o) v.target v.place → Turn z s.words s.homes (moved z s id v o k).homes (word_of z o k) (becomes k (get_or s.words (word_of z o k) 0)) (stance_of v) (stance_of (next_with z k v (get_or s.words (word_of z o k) 0) (home_in s.homes (slot_number k))))
    turned k ok = let inside = word_inside z o k r.sized.cvs v.target v.place below ok in view_turns z r.sized.cvs s.words s.homes o below v k (λ x less none. (r.lists.hands x less).at_home none) own ok fits (r.flags (word_of z o k) inside.0 inside.1)

    module _ (j : Job) (list : List ℕ) (found : Record) (rest : Place) (place : v.place ≡ Holding j list found ∷ rest) (inside : slot_of (spot_of j) < slots_in z) where
      hand : (stance_of v).hand ≡ in_hand (slot_of (spot_of j)) list
      hand = ap hand_at place

      out : get_elem? s.homes (slot_of (spot_of j)) ≡ maybe.some maybe.none
      out = home_out z s.words s.homes seats wide spins r.lists.hands id (slot_of (spot_of j)) (stance_of v) list there inside hand

      counted : (f : List ℕ → ℕ) → f [] ≡ 0 → amount_on f (slot_of (spot_of j)) s.homes seats ≡ f list
      counted f none = amount_held f none s.homes seats id (slot_of (spot_of j)) (stance_of v) list there (one_hand z s.words s.homes seats wide spins r.lists.hands (slot_of (spot_of j)) inside) out hand

      once : (q : ℕ) → times q list ≤ 1
      once q = let count = counted (times q) refl in let low = r.lists.listed q (slot_of (spot_of j)) inside in let most = counts_most seats q (slot_of (spot_of j)) (λ (u : Stance). u.belongs) alone in omega arith

      -- who belongs nowhere isn't on it
      not_mine : (stance_of v).belongs ≡ None → times o list ≡ 0
      not_mine none = let count = counted (times o) refl in let low = r.lists.listed o (slot_of (spot_of j)) inside in
          let mine = own_counts seats alone id o (stance_of v) (stance_of v) there own refl (λ (u : Stance). u.belongs) (slot_of (spot_of j)) in let no = ap (is_just (slot_of (spot_of j))) none in omega arith

      -- its free
      freed_goes : (p : ℕ) (k : WaitStep) → Permits z k (Some o) v.target v.place → v.target ≡ None → target_after j None ≡ None → 1 ≤ times p list → Goes p o (slot_of (spot_of j)) (left_list j o list) (goes_on j o list found rest) → (list' : List ℕ)
          → TakesOff p (slot_of (spot_of j)) s id (moved z s id v o k) ⊎ Covers id o (slot_of (spot_of j)) p list' (moved z s id v o k)
      freed_goes p k ok free still some goes list' = let f = freed_next z k (Some o) v.target j list found rest (subst (λ (x : Place). Permits z k (Some o) v.target x) place ok) in
          subst (λ (x : WaitStep). TakesOff p (slot_of (spot_of j)) s id (moved z s id v o x) ⊎ Covers id o (slot_of (spot_of j)) p list' (moved z s id v o x)) (sym f.1) (by_free f.0 (f.2 ∙ (ap (target_after j) free ∙ still)))
        where
          by_free : (a : Option ℕ) → a ≡ None → TakesOff p (slot_of (spot_of j)) s id (moved z s id v o (Free (spot_of j) a)) ⊎ Covers id o (slot_of (spot_of j)) p list' (moved z s id v o (Free (spot_of j) a))
          by_free a none =
              let k' : WaitStep = Free (spot_of j) a in let n : ℕ = get_or s.words (word_of z o k') 0 in let w : WaitView C = next_with z k' v n (home_in s.homes (slot_number k')) in
              let c : ℕ = slot_of (spot_of j) in let kept : Kept = left_at o v.place in
              let place' : w.place ≡ goes_on j o list found rest = ap (λ (x : ℕ). freed x v.place) (ap number_of own) ∙ ap (freed o) place in
              let seen : map stance_of (set s.views id w) ≡ set seats id (stance_of w) = map-set stance_of s.views id w in
              let items = left_is o v.place j list found rest place in
              let at' = set_there s.views id v w at in
              let sum = λ (f : List ℕ → ℕ) (zero : f [] ≡ 0). amount_sent s.homes seats id (stance_of v) (stance_of w) there f zero c c list kept out hand (ap hand_at place' ∙ goes.0) refl in
              let times_sum = sum (times p) refl in let order_sum = sum (precedes p o) refl in let count = counted (times p) refl in let order = counted (precedes p o) refl in
              let times_left = ap (times p) items in let order_left = ap (precedes p o) items in
              ⊎_elim (λ (t : (times p (left_list j o list) ≡ 0) × (pops_at (goes_on j o list found rest) ≡ Some p)). let none_left = t.0 in inl record {
                was = omega arith;
                gone = subst (λ (l : List Stance). times_on p c (set s.homes c (maybe.some kept)) l ≡ 0) (sym seen) (omega arith);
                view = w;
                at = at';
                by = inr (ap pops_at place' ∙ t.1);
              }) (λ (t : (sentinel_at (goes_on j o list found rest) ≡ Some c) × (1 ≤ precedes p o (left_list j o list))). let still_there = t.1 in inr (inr record {
                view = w;
                at = at';
                own = own;
                free = none;
                sentinel = ap sentinel_at place' ∙ t.0;
                behind = subst (λ (l : List Stance). 1 ≤ order_on p o c (set s.homes c (maybe.some kept)) l) (sym seen) (omega arith);
              })) goes.1

  module _ (id q c p : ℕ) (list : List ℕ) where
    -- who was found at the first take isn't the broadcaster
    first_apart : (a : AtFirstTake id q c list s) → 1 ≤ times p list → p ≢ q
    first_apart a some same =
        let fit = subst (Fits z.cvs a.view.target) a.place (fits id q a.view a.at a.own) in let few = fit.0 in
        let none = not_mine id q a.view a.at a.own (job.Broadcast c) list a.found a.rest a.place (omega arith) (λ i. target_or (fit.1 i) (sentinel_at (a.place i))) in
        let count : times p list ≡ times q list = ap (λ (n : ℕ). times n list) same in omega arith

    module _ (ne : p ≢ q) where
      -- the broadcaster's own step
      own_first : 1 ≤ times p list → (a : AtFirstTake id q c list s) (k : WaitStep) → Permits z k (Some q) a.view.target a.view.place → TakesOff p c s id (moved z s id a.view q k) ⊎ Covers id q c p list (moved z s id a.view q k)
      own_first some a k ok =
          let fit = subst (Fits z.cvs a.view.target) a.place (fits id q a.view a.at a.own) in let few = fit.0 in
          let most = r.sized.cvs in let inside : c < slots_in z = omega arith in
          freed_goes id q a.view a.at a.own (job.Broadcast c) list a.found a.rest a.place inside p k ok fit.1 refl some
          (broadcast_goes p q c a.rest list ne (once id q a.view a.at a.own (job.Broadcast c) list a.found a.rest a.place inside p) some) list

      own_later : (b : Later id q c p list s) (k : WaitStep) → Permits z k (Some q) b.view.target b.view.place → TakesOff p c s id (moved z s id b.view q k) ⊎ Covers id q c p list (moved z s id b.view q k)
      own_later b k ok = ⊎_elim by_none (λ (h : (j : Job) × (l : List ℕ) × (found : Record) × (rest : Place) × (b.view.place ≡ Holding j l found ∷ rest)). by_hand h.1 h.2 h.3
          (h.4 ∙ ap (λ (j : Job). Holding j h.1 h.2 ∷ h.3) (is_rebroadcast h.0 c (sym (ap sentinel_at h.4) ∙ b.sentinel)))) (hand_or_none b.view.place)
        where
          w : WaitView C
          w = next_with z k b.view (get_or s.words (word_of z q k) 0) (home_in s.homes (slot_number k))

          by_hand : (l : List ℕ) (found : Record) (rest : Place) → b.view.place ≡ Holding (job.Rebroadcast c) l found ∷ rest → TakesOff p c s id (moved z s id b.view q k) ⊎ Covers id q c p list (moved z s id b.view q k)
          by_hand l found rest place =
              let fit = subst (Fits z.cvs b.view.target) place (fits id q b.view b.at b.own) in let few = fit.0 in
              let most = r.sized.cvs in let inside : c < slots_in z = omega arith in let order = counted id q b.view b.at b.own (job.Rebroadcast c) l found rest place inside (precedes p q) refl in let behind = b.behind in
              let before : 1 ≤ precedes p q l = omega arith in
              let one = once id q b.view b.at b.own (job.Rebroadcast c) l found rest place inside in
              freed_goes id q b.view b.at b.own (job.Rebroadcast c) l found rest place inside p k ok fit.1 refl (stands_there p q l before)
              (rebroadcast_goes p q c rest l ne (one p) (one q) before) list

          by_none : hand_at b.view.place ≡ None → TakesOff p c s id (moved z s id b.view q k) ⊎ Covers id q c p list (moved z s id b.view q k)
          by_none none =
              let t = turned id q b.view b.at b.own k ok in let seen = map-set stance_of s.views id w in
              let target : w.target ≡ None = target_stays z k (Some q) b.view.target b.view.place ok none ∙ b.free in
              let belongs = belongs_stays z s.words s.homes (moved z s id b.view q k).homes (word_of z q k) (becomes k (get_or s.words (word_of z q k) 0)) (stance_of b.view) (stance_of w) none t in
              ⊎_elim (λ off. inl record {
                was = off.was;
                gone = subst (λ (l : List Stance). times_on p c (moved z s id b.view q k).homes l ≡ 0) (sym seen) off.gone;
                view = w;
                at = set_there s.views id b.view w b.at;
                by = ⊎_elim (λ t. inl (t.0, no_target _ _ t.1)) (λ popped. inr popped) off.by;
              }) (λ behind. inr (inr record {
                view = w;
                at = set_there s.views id b.view w b.at;
                own = b.own;
                free = target;
                sentinel = sym (ap (λ (x : Option ℕ). target_or x (sentinel_at w.place)) target) ∙ (belongs ∙ (λ i. target_or (b.free i) (b.sentinel i)));
                behind = subst (λ (l : List Stance). 1 ≤ order_on p q c (moved z s id b.view q k).homes l) (sym seen) behind;
              }))
              (order_turn z s.words s.homes seats wide spins r.lists.hands alone r.lists.listed id (stance_of b.view) (there id q b.view b.at b.own) (moved z s id b.view q k).homes (word_of z q k) (becomes k (get_or s.words (word_of z q k) 0)) (stance_of w) p q c (λ _. none) t b.behind)

      -- the step of another
      other_goes : (j o : ℕ) (u : WaitView C) (at : get_elem? s.views j ≡ maybe.some u) (own : u.own ≡ Some o) → j ≢ id → (k : WaitStep) → Permits z k (Some o) u.target u.place → Covers id q c p list s → TakesOff p c s j (moved z s j u o k) ⊎ Covers id q c p list (moved z s j u o k)
      other_goes j o u at own apart k ok (inl a) = inr (inl record { view = a.view; at = set_else s.views j id (next_with z k u (get_or s.words (word_of z o k) 0) (home_in s.homes (slot_number k))) (λ e. apart (sym e)) ∙ a.at; own = a.own; found = a.found; rest = a.rest; place = a.place })
      other_goes j o u at own apart k ok (inr b) =
          let w : WaitView C = next_with z k u (get_or s.words (word_of z o k) 0) (home_in s.homes (slot_number k)) in let seen = map-set stance_of s.views j w in
          ⊎_elim (λ off. inl record {
            was = off.was;
            gone = subst (λ (l : List Stance). times_on p c (moved z s j u o k).homes l ≡ 0) (sym seen) off.gone;
            view = w;
            at = set_there s.views j u w at;
            by = ⊎_elim (λ t. inl (t.0, no_target _ _ t.1)) (λ popped. inr popped) off.by;
          }) (λ behind. inr (inr record {
            view = b.view;
            at = set_else s.views j id w (λ e. apart (sym e)) ∙ b.at;
            own = b.own;
            free = b.free;
            sentinel = b.sentinel;
            behind = subst (λ (l : List Stance). 1 ≤ order_on p q c (moved z s j u o k).homes l) (sym seen) behind;
          }))
          (order_turn z s.words s.homes seats wide spins r.lists.hands alone r.lists.listed j (stance_of u) (there j o u at own) (moved z s j u o k).homes (word_of z o k) (becomes k (get_or s.words (word_of z o k) 0)) (stance_of w) p q c
          (λ mine. absurd (apart (one_seat z.procs (get_or s.words 0 0) (map numbers_of s.views) r.roster j id q (numbers_of u) (numbers_of b.view) (at_map numbers_of s.views j u at) (at_map numbers_of s.views id b.view b.at) mine b.own))) (turned j o u at own k ok) b.behind)

      -- a step of the machine
      machine_goes : 1 ≤ times p list → (j o : ℕ) (u : WaitView C) → get_elem? s.views j ≡ maybe.some u → u.own ≡ Some o → (k : WaitStep) → Permits z k (Some o) u.target u.place → Covers id q c p list s → TakesOff p c s j (moved z s j u o k) ⊎ Covers id q c p list (moved z s j u o k)
      machine_goes some j o u at own k ok covers = dite (ℕ_discrete j id) (λ (same : j ≡ id). by_own same covers) (λ (apart : j ≢ id). other_goes j o u at own apart k ok covers)
        where
          same_state : (v : WaitView C) → get_elem? s.views id ≡ maybe.some v → v.own ≡ Some q → j ≡ id → (Permits z k (Some q) v.target v.place → TakesOff p c s id (moved z s id v q k) ⊎ Covers id q c p list (moved z s id v q k)) → TakesOff p c s j (moved z s j u o k) ⊎ Covers id q c p list (moved z s j u o k)
          same_state v there mine same h =
              let is : v ≡ u = maybe.some-injective v u (sym there ∙ (sym (ap (get_elem? s.views) same) ∙ at)) in
              let number : q ≡ o = ap number_of (sym mine ∙ (ap (λ (x : WaitView C). x.own) is ∙ own)) in
              let goes = h (subst (λ (x : WaitView C × ℕ). Permits z k (Some x.1) x.0.target x.0.place) (λ i. (sym is i, sym number i)) ok) in
              subst (λ (x : ℕ × (WaitView C × ℕ)). TakesOff p c s x.0 (moved z s x.0 x.1.0 x.1.1 k) ⊎ Covers id q c p list (moved z s x.0 x.1.0 x.1.1 k)) (λ i. (sym same i, (is i, number i))) goes

          by_own : j ≡ id → Covers id q c p list s → TakesOff p c s j (moved z s j u o k) ⊎ Covers id q c p list (moved z s j u o k)
          by_own same (inl a) = same_state a.view a.at a.own same (λ may. own_first some a k may)
          by_own same (inr b) = same_state b.view b.at b.own same (λ may. own_later b k may)

module _ {C X : Type 0} (does : X → ClientOp) (may : PartyView C → X → Type 0) (then : PartyView C → X → ℕ → C) (first spent : C) (both : C → C → C) (means : Meanings C) (z : Size) (phase count : ℕ)
    (keeps : (s t : WaitState C) (e : ℕ × Deed X) → Rule means z phase count s → Steps does may then first spent both means z s e t → Rule means z phase count t)
    (id q c p : ℕ) (list : List ℕ) (ne : p ≢ q) (some : 1 ≤ times p list) where
  deed_goes : (s t : WaitState C) → Rule means z phase count s → (j o : ℕ) (u : WaitView C) → get_elem? s.views j ≡ maybe.some u → u.own ≡ Some o → (d : Deed X) → Deeds does may then first spent both means z s j u d t → Covers id q c p list s → TakesOff p c s j t ⊎ Covers id q c p list t
  deed_goes s t r j o u at own (machine k) h covers = subst (λ (x : WaitState C). TakesOff p c s j x ⊎ Covers id q c p list x) (sym (h.2 ∙ same))
      (machine_goes means z phase count s r id q c p list ne some j o u at own k (subst (λ (x : Option ℕ). Permits z k x u.target u.place) own h.0) covers)
    where
      same : after z s j u k ≡ moved z s j u o k
      same = ap (λ (x : ℕ). moved z s j u x k) (ap number_of own)
  deed_goes s t r j o u at own (client x) h covers = inr (subst (Covers id q c p list) (sym h.2) (covers_set id q c p list s _ j u (client_moved u _) at refl refl refl refl covers))
  deed_goes s t r j o u at own draw h covers = inr (subst (Covers id q c p list) (sym h.3) (covers_set id q c p list s _ j u (with_drawn u) at refl refl refl refl covers))
  deed_goes s t r j o u at own seat h covers = inr (subst (Covers id q c p list) (sym h.1)
      (covers_more id q c p list record { words = s.words; homes = s.homes; views = set s.views j (stays u) } (comes first u) refl (covers_set id q c p list s s.words j u (stays u) at refl refl refl refl covers)))
  deed_goes s t r j o u at own (join other) h covers = inr (subst (Covers id q c p list) (sym h.1.6)
      (covers_spent id q c p list record { words = s.words; homes = s.homes; views = set s.views j (took_in both u h.1.0) } other h.1.0 (spent_view spent) (set_else s.views j other (took_in both u h.1.0) h.1.2 ∙ h.1.1) h.1.3 refl
      (covers_set id q c p list s s.words j u (took_in both u h.1.0) at refl refl refl refl covers)))

  -- each event of the run takes p off, or leaves the broadcaster before its first free, or its sentinel behind p
  run_goes : (es : List (ℕ × Deed X)) (s t : WaitState C) (run : Runs does may then first spent both means z s es t) → Rule means z phase count s → Covers id q c p list s → Somewhere does may then first spent both means z (TakesOff p c) s es t run ⊎ Covers id q c p list t
  run_goes [] s t run r covers = inr (subst (Covers id q c p list) (sym run) covers)
  run_goes (e ∷ es) s t run r covers = ⊎_elim (λ off. inl (inl off)) (λ next. ⊎_elim (λ later. inl (inr later)) (λ end. inr end) (run_goes es run.0 t run.2 (keeps s run.0 e r run.1) next))
      (deed_goes s run.0 r e.0 run.1.1 run.1.0 run.1.2 run.1.3 e.1 run.1.4 covers)

module _ {C X : Type 0} (does : X → ClientOp) (may : PartyView C → X → Type 0) (then : PartyView C → X → ℕ → C) (first spent : C) (both : C → C → C) (means : Meanings C) (z : Size) (phase count : ℕ)
    (keeps : (s t : WaitState C) (e : ℕ × Deed X) → Rule means z phase count s → Steps does may then first spent both means z s e t → Rule means z phase count t)
    (es : List (ℕ × Deed X)) (s t : WaitState C) (run : Runs does may then first spent both means z s es t) (r : Rule means z phase count s) (id q c : ℕ) (list : List ℕ) (a : AtFirstTake id q c list s) where
  pub sentinel_behind : (p : ℕ) → 1 ≤ times p list → Somewhere does may then first spent both means z (TakesOff p c) s es t run ⊎ (AtFirstTake id q c list t ⊎ StandsBehind q p c t)
  sentinel_behind p some = ⊎_elim (λ off. inl off) (λ covers. inr (⊎_elim (λ still. inl still) (λ later. inr later.behind) covers))
      (run_goes does may then first spent both means z phase count keeps id q c p list (first_apart means z phase count s r id q c p list a some) some es s t run r (inl a))

  -- once the seat is in no call all were taken off
  pub all_taken_off : (w : WaitView C) → get_elem? t.views id ≡ maybe.some w → w.place ≡ [] → (p : ℕ) → 1 ≤ times p list → Somewhere does may then first spent both means z (TakesOff p c) s es t run
  all_taken_off w there idle p some = ⊎_elim (λ off. off) (λ covers. absurd (over covers))
      (run_goes does may then first spent both means z phase count keeps id q c p list (first_apart means z phase count s r id q c p list a some) some es s t run r (inl a))
    where
      over : Covers id q c p list t → ⊥
      over (inl b) = let is : b.view ≡ w = maybe.some-injective b.view w (sym b.at ∙ there) in let e = sym b.place ∙ (ap (λ (x : WaitView C). x.place) is ∙ idle) in cc
      over (inr b) = let is : b.view ≡ w = maybe.some-injective b.view w (sym b.at ∙ there) in let e : sentinel_at [] ≡ Some c = sym (ap sentinel_at (ap (λ (x : WaitView C). x.place) is ∙ idle)) ∙ b.sentinel in cc

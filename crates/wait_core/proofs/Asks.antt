-- What each call on the table owes to it, from what the call's caller knows.
use Rattle.std.proofs.Common.{◌≡◌, ℕ, ◌+◌, ◌^◌, ◌<◌, eqb, Bool, true, false, cond, List, [], ◌∷◌, ◌++◌, get_or, set, Option, None, Some, refl, sym, ap, ◌∙◌, subst, arith}
use Rattle.atomic_table.specs.Seated.{TableId}
use Rattle.atomic_table.specs.Table.{Me, Step, homes_after, keeps, takes, stepped}
use Rattle.atomic_table.proofs.Lists.{at_map, set_else}
use Rattle.wait_core.specs.declared.party.ClientOp.{ClientOp}
use Rattle.wait_core.specs.declared.step.Spot.{Spot}
use Rattle.wait_core.specs.declared.step.Call.{Call}
use Rattle.wait_core.specs.declared.step.WaitStep.{WaitStep}
use Rattle.wait_core.specs.declared.step.WaitStep.TheVariants.{Take, Free}
use Rattle.wait_core.specs.declared.view.Kept.{Kept}
use Rattle.wait_core.specs.declared.view.PartyView.{PartyView}
use Rattle.wait_core.specs.declared.view.Size.{Size}
use Rattle.wait_core.specs.declared.view.WaitView.{WaitView}
use Rattle.wait_core.specs.Meanings.{Meanings}
use Rattle.wait_core.specs.Ops.{op_at, op_gives}
use Rattle.wait_core.specs.Words.{slot_of, client_base}
use mathlib.Core.Option as maybe
use lib.ListN.{get_elem?}
use Rattle.wait_core.specs.Machine.{WaitState, number_of, word_of, becomes, home_in, slot_number, carried, act_of, next_with, Permits, Allowed}
use Rattle.wait_core.specs.Parties.{with_client, newcomer, joined, left_over, IsStep, IsDraw, IsJoin}
use Rattle.wait_core.specs.Seating.{numbers_of, standing_of, party_of, client_moved, with_drawn, stays, comes, took_in, spent_view}
use Rattle.wait_core.specs.Barriers.{StepSuits, waits_at}
use Rattle.wait_core.specs.Rule.{Rule}
use Rattle.wait_core.specs.Told.{TellsList, Tells, TellsBarrier, does, does_client, looks, draws, Turns, Cuts, Glues}
use Rattle.wait_core.specs.Seats.{TableView, table_view, size_of}
use Rattle.wait_core.specs.Sending.{HasSlot}
use Rattle.wait_core.specs.Stances.{stance_of, belongs_at}
use Rattle.wait_core.proofs.Turning.{belongs_follow}
use Rattle.wait_core.proofs.Hands.{hand_follows}
use Rattle.wait_core.proofs.InHand.{act_valid, step_tells}
use Rattle.wait_core.proofs.Arriving.{Owes}
use Rattle.wait_core.proofs.RecordsTold.{barrier_tells}
use Rattle.wait_core.proofs.RuleKept.{step_kept, word_inside, own_below}
use Rattle.wait_core.proofs.SeatsKept.{client_kept, draw_kept, seat_kept, join_kept}

-- what a call's caller knows of a table's value, the call owes of its fields, of what the table was told once, and of an operation that equals another
pub asked : {A C X : Type 0} (key about : A) → key ≡ about → (party : A → X) (size : A → Size) (phase count : A → ℕ) (law : X → Meanings C) (words_of : X → ℕ) (tid : TableId) (t : TableView X) → table_view tid (party about) (size about) (phase about) ≡ t → count about ≡ words_of (party about)
    → (seat : TableId) (id : ℕ) (me : Me Kept (WaitView C)) (word : ℕ) (o p : ClientOp) → o ≡ p → (gives : ℕ → Me Kept (WaitView C) → Type 0)
    → (seat ≡ t.table_id) × (word < t.table_id.words) → Turns (law t.party) (size_of t) t.phase (words_of t.party) t.table_id.slots id me word (op_gives o) gives
    → (seat ≡ tid) × (word < tid.words) × Turns (law (party key)) (size key) (phase key) (count key) tid.slots id me word (op_gives p) gives
asked key about told party size phase count law words_of tid t is counted seat id me word o p same gives table h =
    let tid_is : tid ≡ t.table_id = ap (λ (x : TableView _). x.table_id) is in (
      table.0 ∙ sym tid_is,
      subst (λ (x : TableId). word < x.words) (sym tid_is) table.1,
      subst (λ (a : _). Turns (law (party a)) (size a) (phase a) (count a) tid.slots id me word (op_gives p) gives) (sym told)
          (subst (λ (x : ClientOp). Turns (law (party about)) (size about) (phase about) (count about) tid.slots id me word (op_gives x) gives) same
          (subst (λ (n : ℕ). Turns (law (party about)) (size about) (phase about) n tid.slots id me word (op_gives o) gives) (sym counted)
          (subst (λ (x : TableView _). Turns (law x.party) (size_of x) x.phase (words_of x.party) x.table_id.slots id me word (op_gives o) gives) (sym is) h))),
    )

-- where what is in hand goes home it is what the seat has out; else no slot is read
homes_same : {C : Type 0} (z : Size) (k : WaitStep) (o n : ℕ) (found : Kept) (v : WaitView C) → number_of v.own ≡ o → (homes : List (maybe.Option Kept)) (c : List (ℕ × Kept)) → HasSlot k v c
    → homes_after homes (carried k o v.place) (act_of k n found) ≡ homes_after homes c (act_of k n found)
homes_same z (Take x b) o n found v is homes c h = by_word (eqb n 0)
  where
    by_word : (clear : Bool) → homes_after homes (carried (Take x b) o v.place) (cond clear (takes (slot_of x) found) keeps) ≡ homes_after homes c (cond clear (takes (slot_of x) found) keeps)
    by_word true = refl
    by_word false = refl
homes_same z (Free x after) o n found v is homes c h = ap (λ (y : ℕ). homes_after homes (carried (Free x after) y v.place) (act_of (Free x after) n found)) (sym is) ∙ ap (λ (l : List (ℕ × Kept)). homes_after homes l (act_of (Free x after) n found)) (sym h)
homes_same z k o n found v is homes c h = refl

module _ {C : Type 0} (means : Meanings C) (z : Size) (phase count : ℕ) where
  -- a step of the machine, where the table's operation does what the machine says
  pub step_turns : Owes means → (slots id : ℕ) (me : Me Kept (WaitView C)) (word o : ℕ) (k : WaitStep) (op : ClientOp) → word ≡ word_of z o k → ((n : ℕ) → op_gives op n ≡ becomes k n) → me.0.own ≡ Some o → Allowed z k me.0 → StepSuits means k me.0 → HasSlot k me.0 me.1
      → Turns means z phase count slots id me word (op_gives op) (does z (TellsBarrier means z phase count k id (waits_at me.0.place) (party_of me.0)) k me)
  step_turns laws slots id me word o k op at agrees own ok suits slot = subst (λ (i : ℕ). Turns means z phase count slots id me i (op_gives op) (does z (TellsBarrier means z phase count k id (waits_at me.0.place) (party_of me.0)) k me)) (sym at)
      (λ s r _ there _. let n : ℕ = get_or s.words (word_of z o k) 0 in let found : Kept = home_in s.homes (slot_number k) in let mine = subst (λ (x : Option ℕ). Permits z k x me.0.target me.0.place) own ok in
      let inside = word_inside z o k r.sized.cvs me.0.target me.0.place (own_below means z phase count s r id me.0 o there own) mine in
      let kept = step_kept means z phase count s r id me.0 o there own laws k mine suits in (
        next_with z k me.0 n found,
        act_of k n found,
        act_valid z r.sized.cvs (get_or s.words 0 0) s.words s.homes s.views r.roster.few r.roster r.lists o (Some o) me.0.target me.0.place k mine me.1,
        subst (λ (x : ℕ). Rule means z phase count (stepped s (word_of z o k) x id me.1 (next_with z k me.0 n found) (act_of k n found))) (sym (agrees n))
            (subst (λ (h : List (maybe.Option Kept)). Rule means z phase count record { words = set s.words (word_of z o k) (becomes k n); homes = h; views = set s.views id (next_with z k me.0 n found) })
            (homes_same z k o n found me.0 (ap number_of own) s.homes me.1 slot) kept),
        (found, refl, refl, r.flags (word_of z o k) inside.0 inside.1, tells s r there mine n found refl refl, barrier_tells means z phase count s r id me.0 there o k mine, hand_follows z me.0.target k me.0.own (number_of me.0.own) n found me.0.place ok (r.places.fits id (standing_of me.0) (at_map standing_of s.views id me.0 there))),
      ))
    where
      tells : (s : WaitState C) → Rule means z phase count s → get_elem? s.views id ≡ maybe.some me.0 → Permits z k (Some o) me.0.target me.0.place → (n : ℕ) (found : Kept) → n ≡ get_or s.words (word_of z o k) 0 → found ≡ home_in s.homes (slot_number k)
          → let w : WaitView C = next_with z k me.0 n found in Tells z k (number_of me.0.own) (belongs_at w.target w.place) n found.list.items
      tells s r there mine n found n_is found_is = subst (λ (x : ℕ × ℕ × Kept). Tells z k x.0 (belongs_at (next_with z k me.0 n found).target (next_with z k me.0 n found).place) x.1 x.2.list.items) (λ i. (sym (ap number_of own) i, sym n_is i, sym found_is i))
          (told_after k (λ x b is. let fit = r.places.fits id (standing_of me.0) (at_map standing_of s.views id me.0 there) in
          subst (λ (j : WaitStep). Permits z j (Some o) me.0.target me.0.place → belongs_at (next_with z j me.0 n found).target (next_with z j me.0 n found).place ≡ belongs_at me.0.target me.0.place) (sym is) (λ ok. belongs_follow z (Some o) me.0.target x b (number_of me.0.own) n found me.0.place ok fit) mine)
          (step_tells z r.sized.cvs (get_or s.words 0 0) s.words s.homes s.views r.roster.few r.roster r.lists o (Some o) me.0.target me.0.place k mine id (stance_of me.0) (at_map stance_of s.views id me.0 there) own (own_below means z phase count s r id me.0 o there own)))
        where
          told_after : (j : WaitStep) → ((x : Spot) (b : Option Call) → j ≡ Take x b → belongs_at (next_with z k me.0 n found).target (next_with z k me.0 n found).place ≡ belongs_at me.0.target me.0.place) → Tells z j o (belongs_at me.0.target me.0.place) (get_or s.words (word_of z o k) 0) (home_in s.homes (slot_number k)).list.items
              → Tells z j o (belongs_at (next_with z k me.0 n found).target (next_with z k me.0 n found).place) (get_or s.words (word_of z o k) 0) (home_in s.homes (slot_number k)).list.items
          told_after (Take x b) same told = λ clear. subst (λ (belongs : Option ℕ). TellsList z o belongs (slot_of x) (home_in s.homes (slot_number k)).list.items) (sym (same x b refl)) (told clear)
          told_after j same told = tt

  -- a step of the client
  pub client_turns : (slots id : ℕ) (me : Me Kept (WaitView C)) (word : ℕ) (op : ClientOp) (then : ℕ → C) (told : ℕ → Type 0) → word ≡ client_base z + op_at op → op_at op < count → (p : ℕ) → me.0.own ≡ Some p → me.0.place ≡ []
      → ((s : WaitState C) → Rule means z phase count s → get_elem? s.views id ≡ maybe.some me.0 → told (get_or s.words (client_base z + op_at op) 0))
      → ((words : List ℕ) (views : List (PartyView C)) (phases : List ℕ) → means.holds words views phases → IsStep views phases id (party_of me.0) → means.holds (set words (op_at op) (op_gives op (get_or words (op_at op) 0))) (set views id (with_client (party_of me.0) (then (get_or words (op_at op) 0)))) phases)
      → Turns means z phase count slots id me word (op_gives op) (does_client then told me)
  client_turns slots id me word op then told at inside p own idle tells law = subst (λ (i : ℕ). Turns means z phase count slots id me i (op_gives op) (does_client then told me)) (sym at)
      (λ s r _ there _. (
        client_moved me.0 (then (get_or s.words (client_base z + op_at op) 0)),
        keeps,
        tt,
        client_kept means z phase count s r id me.0 there p own idle (op_at op) (op_gives op) then inside law,
        (refl, refl, tells s r there),
      ))

  -- the number that is drawn next is read
  pub looks_allowed : (slots id : ℕ) (me : Me Kept (WaitView C)) → Turns means z phase count slots id me 0 (λ n. n) (looks z me)
  looks_allowed slots id me s r _ there _ = (
    me.0,
    keeps,
    tt,
    subst (Rule means z phase count) (sym same) r,
    (refl, refl, λ own. (r.roster.drawer id (numbers_of me.0) (at_map numbers_of s.views id me.0 there) own).up_to, r.roster.few),
  )
    where
      same : stepped s 0 (get_or s.words 0 0) id me.1 me.0 keeps ≡ s
      same i = record { words = lib.Seq.set-get_or s.words 0 0 i; homes = s.homes; views = Rattle.atomic_table.proofs.Lists.set_again s.views id me.0 there i }

  -- the seat with the number 0 draws
  pub draws_allowed : (slots id : ℕ) (me : Me Kept (WaitView C)) (st : Step Kept) (f : ℕ → ℕ) → me.0.own ≡ Some 0 → me.0.pending ≡ None → me.0.drawn + 1 < z.procs → ((n : ℕ) → n < 2 ^ 63 → f n ≡ n + 1)
      → Turns means z phase count slots id me 0 f (draws st me)
  draws_allowed slots id me st f own free room agrees s r _ there _ = (
    with_drawn me.0,
    keeps,
    tt,
    draw_kept means z phase count s r id me.0 there own free room (f (get_or s.words 0 0)) (agrees (get_or s.words 0 0) (let few = r.roster.few in let most = r.sized.procs in omega arith)),
    (refl, refl),
  )

  -- a new seat has the number drawn
  pub cuts_allowed : (id : ℕ) (v : WaitView C) (n : ℕ) → v.pending ≡ Some n → (c : C)
      → ((words : List ℕ) (views : List (PartyView C)) (phases : List ℕ) (proc : ℕ) → means.holds words views phases → IsDraw views phases proc → means.holds words (views ++ newcomer c (Some proc) ∷ []) phases)
      → Cuts means z phase count id v (stays v) (comes c v)
  cuts_allowed id v n drawn c law s r there = seat_kept means z phase count s r id v there n drawn c law

  -- a seat takes in another
  pub glues_allowed : (id : ℕ) (v : WaitView C) (p : ℕ) → v.own ≡ Some p → v.place ≡ [] → (other : ℕ) (w : WaitView C) → w.place ≡ [] → (w.target ≡ None) × (w.attached ≡ []) → w.pending ≡ None → (both : C → C → C) (c : C)
      → ((words : List ℕ) (views : List (PartyView C)) (phases : List ℕ) → means.holds words views phases → IsJoin views phases id (party_of v) other (party_of w) → means.holds words (set (set views id (joined both (party_of v) (party_of w))) other (left_over c)) phases)
      → Glues means z phase count id v other w (took_in both v w) (spent_view c)
  glues_allowed id v p own still other w idle free none both c law s r at apart there =
      join_kept means z phase count s r id v at p own still other w apart (sym (set_else s.views id other (took_in both v w) apart) ∙ there) idle free none both c law

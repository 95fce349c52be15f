-- What each call on the table owes to it, from what the call's caller knows.
use Rattle.std.proofs.Common.{◌≡◌, ◌⊎◌, ℕ, ◌+◌, ◌^◌, ◌<◌, ◌≤◌, eqb, eqb-true, nat_lt, Bool, true, false, cond, List, [], map, get_or, Option, None, Some, refl, sym, ap, ◌∙◌, subst, inl, inr, arith}
use mathlib.Core.Logic.{dite}
use mathlib.Core.Option as maybe
use native.Mathlib.Decide.{ℕ_discrete}
use lib.ListN.{get_elem?}
use Rattle.atomic_table.specs.Seated.{TableId}
use Rattle.atomic_table.specs.Table.{Step, keeps, stepped}
use Rattle.atomic_table.proofs.Lists.{at_map, set_else}
use Rattle.seat_roster.proofs.Totals.{total_some, total_at}
use Rattle.signal_core.specs.declared.step.SigStep.{SigStep}
use Rattle.signal_core.specs.declared.step.SigStep.TheVariants.{Hload, Hadd, Mor, Mswap, Gstore, Gload, Pstore, Pload, Pend, Pswap}
use Rattle.signal_core.specs.declared.step.WordOp.{WordOp}
use Rattle.signal_core.specs.declared.view.Frame.TheVariants.{Posting, Numbering}
use Rattle.signal_core.specs.declared.view.Emission.{Emission}
use Rattle.signal_core.specs.declared.view.Slot.{Slot}
use Rattle.signal_core.specs.declared.view.About.{About}
use Rattle.signal_core.specs.declared.view.SigView.{SigView}
use Rattle.signal_core.specs.Words.{gen_at}
use Rattle.signal_core.specs.Ops.{op_gives}
use Rattle.signal_core.specs.Machine.{SigState, Place, word_of, becomes, next, MayNumber, InRange, Permits, Allowed}
use Rattle.signal_core.specs.Seating.{Stance, numbers_of, stance_of, with_drawn, stays, comes, took_in, spent_view}
use Rattle.signal_core.specs.Places.{under_way, counts, emits, emitted, any}
use Rattle.signal_core.specs.GenerationsStand.{IsPublished, is_emitting, emitting}
use Rattle.signal_core.specs.EmissionsShow.{PlaceShows, EmissionsShow}
use Rattle.signal_core.specs.Rule.{Rule}
use Rattle.signal_core.specs.Told.{Tells, Sat, does, looks, settles, draws, Turns, Cuts, Glues}
use Rattle.signal_core.specs.Seats.{TableView, table_view, about_of}
use Rattle.signal_core.proofs.GenerationsKept.{own_published, gen_follows}
use Rattle.signal_core.proofs.RuleKept.{step_kept, own_below, few_seats, the_move}
use Rattle.signal_core.proofs.SeatsKept.{draw_kept, seat_kept, join_kept}

-- the kind that a step is on is one of 32
pub in_range : (shows : ℕ → ℕ → Type 0) (z : About) (x : SigStep) (own : Option ℕ) (t : Option Slot) (p : Place) → Permits shows z x own t p → InRange x
in_range shows z (Mor q j failed) own t p ok = ok.1
in_range shows z (Hload c) own t p ok = tt
in_range shows z Hadd own t p ok = tt
in_range shows z (Mswap c) own t p ok = tt
in_range shows z (Gstore g c) own t p ok = tt
in_range shows z (Gload q c) own t p ok = tt
in_range shows z (Pstore y) own t p ok = tt
in_range shows z (Pload q) own t p ok = tt
in_range shows z (Pend q) own t p ok = tt
in_range shows z (Pswap c) own t p ok = tt

-- an emission that counts shows its kind
abbrev Shown : (ℕ → ℕ → Type 0) → ℕ → Type 0
Shown shows k = (k < 32) × ((x : ℕ) × shows k x)

of_kind : (shows : ℕ → ℕ → Type 0) (j k x n : ℕ) → (j < 32) × shows j x → 1 ≤ cond (eqb j k) n 0 → Shown shows k
of_kind shows j k x n is some = by_case (eqb j k) refl some
  where
    by_case : (b : Bool) → eqb j k ≡ b → 1 ≤ cond b n 0 → Shown shows k
    by_case true e some = subst (Shown shows) (eqb-true j k e) (is.0, (x, is.1))
    by_case false e some = absurd (omega arith)

place_of : (shows : ℕ → ℕ → Type 0) (s k : ℕ) (p : Place) → PlaceShows shows p → 1 ≤ under_way s k p → Shown shows k
place_of shows s k (Some (Posting j x q)) is some = of_kind shows j k x (cond (nat_lt s q) 1 0) is some
place_of shows s k (Some (Numbering j x)) is some = of_kind shows j k x 1 is some
place_of shows s k None is some = absurd (omega arith)
place_of shows s k (Some f) is some = absurd (omega arith)

-- each bit of a mask shows
pub bits_show : (shows : ℕ → ℕ → Type 0) (s k : ℕ) (seats : List Stance) → EmissionsShow shows seats → 1 ≤ emitted s k any seats → Shown shows k
bits_show shows s k seats h some = let a = total_some (emits s k any) seats some in let v : Stance = a.1 in dite (ℕ_discrete (under_way s k v.place) 0)
    (λ none. let b = total_some (counts k any) v.emissions (let c = a.3 in omega arith) in let e : Emission = b.1 in of_kind shows e.kind k e.number 1 (h.numbered a.0 b.0 v e a.2 b.2) b.3)
    (λ more. place_of shows s k v.place (h.under_way a.0 v a.2) (omega arith))

abbrev NotAdd : SigStep → Type 0
NotAdd x = x ≡ Hadd → ⊥

number_emits : (p : Place) → MayNumber p → is_emitting p ≡ 1
number_emits (Some (Numbering j x)) ok = refl
number_emits p ok = absurd ok

-- a look leaves the state
looked : (s : SigState) (id : ℕ) (me : Sat) → get_elem? s.views id ≡ maybe.some me.0 → stepped s 0 (get_or s.words 0 0) id me.1 me.0 keeps ≡ s
looked s id me there i = record { words = lib.Seq.set-get_or s.words 0 0 i; homes = s.homes; views = Rattle.atomic_table.proofs.Lists.set_again s.views id me.0 there i }

module _ (shows : ℕ → ℕ → Type 0) (z : About) where
  -- what a step tells
  pub tells : (s : SigState) (r : Rule shows z s) (id : ℕ) (v : SigView) (o : ℕ) → get_elem? s.views id ≡ maybe.some v → v.own ≡ Some o → (x : SigStep) → Permits shows z x (Some o) v.slot v.place → Tells shows x v (get_or s.words (word_of o x) 0)
  tells s r id v o at own (Hload c) ok = ((let a = r.generations.bounded in omega arith), r.generations.slots id (stance_of v) (at_map stance_of s.views id v at))
  tells s r id v o at own Hadd ok = ((let a = r.generations.bounded in let b = total_at emitting (map stance_of s.views) id (stance_of v) (at_map stance_of s.views id v at) in let c = number_emits v.place ok in omega arith), r.generations.slots id (stance_of v) (at_map stance_of s.views id v at))
  tells s r id v o at own (Mor q j failed) ok = tt
  tells s r id v o at own (Mswap c) ok = λ k some. bits_show shows o k (map stance_of s.views) r.shown (r.bits.masked o k (own_below shows z s r id v o at own) some)
  tells s r id v o at own (Gstore g c) ok = tt
  tells s r id v o at own (Gload q (Some c)) ok = tt
  tells s r id v o at own (Gload q None) ok = let e : Some o ≡ Some q = ok.0 in let is : o ≡ q = cc in subst (λ (y : ℕ). IsPublished (get_or s.words (gen_at y) 0) v.slot) is
      (own_published shows z s.words (map stance_of s.views) (Gload q None) o id (get_or s.words (gen_at q) 0) (stance_of v) (the_move shows z s r id v o at own (Gload q None) ok) r.generations (few_seats shows z s r id v o at own) v.slot refl)
  tells s r id v o at own (Pstore y) ok = tt
  tells s r id v o at own (Pload q) ok = tt
  tells s r id v o at own (Pend q) ok = tt
  tells s r id v o at own (Pswap c) ok = tt

  -- a step of the machine, where the table's operation does what the machine says
  pub step_turns : (slots id : ℕ) (me : Sat) (word o : ℕ) (x : SigStep) (op : WordOp) → word ≡ word_of o x → ((n : ℕ) → (n < 2 ^ 63) ⊎ NotAdd x → op_gives op n ≡ becomes x n) → me.0.own ≡ Some o → Allowed shows z x me.0
      → Turns shows z slots id me word (op_gives op) (does shows z x me)
  step_turns slots id me word o x op at agrees own ok = subst (λ (i : ℕ). Turns shows z slots id me i (op_gives op) (does shows z x me)) (sym at)
      (λ s r _ there _. let n : ℕ = get_or s.words (word_of o x) 0 in let mine = subst (λ (y : Option ℕ). Permits shows z x y me.0.slot me.0.place) own ok in
      let told = tells s r id me.0 o there own x mine in (
        next z x me.0 n,
        keeps,
        tt,
        subst (λ (y : ℕ). Rule shows z (stepped s (word_of o x) y id [] (next z x me.0 n) keeps)) (sym (agrees n (small x n told))) (step_kept shows z s r id me.0 o there own x mine),
        (refl, refl, told, gen_follows shows z o x n me.0.slot me.0.place (r.places.fits id (stance_of me.0) (at_map stance_of s.views id me.0 there)) mine),
      ))
    where
      small : (x : SigStep) (n : ℕ) → Tells shows x me.0 n → (n < 2 ^ 63) ⊎ NotAdd x
      small Hadd n h = inl (let a = h.0 in omega arith)
      small (Hload c) n h = inr (λ e. absurd (cc))
      small (Mor q j failed) n h = inr (λ e. absurd (cc))
      small (Mswap c) n h = inr (λ e. absurd (cc))
      small (Gstore g c) n h = inr (λ e. absurd (cc))
      small (Gload q c) n h = inr (λ e. absurd (cc))
      small (Pstore y) n h = inr (λ e. absurd (cc))
      small (Pload q) n h = inr (λ e. absurd (cc))
      small (Pend q) n h = inr (λ e. absurd (cc))
      small (Pswap c) n h = inr (λ e. absurd (cc))

  -- the number that is drawn next is read
  pub looks_allowed : (slots id : ℕ) (me : Sat) → Turns shows z slots id me 0 (λ n. n) (looks z me)
  looks_allowed slots id me s r _ there _ = (
    me.0,
    keeps,
    tt,
    subst (Rule shows z) (sym (looked s id me there)) r,
    (refl, refl, λ own. (r.roster.drawer id (numbers_of me.0) (at_map numbers_of s.views id me.0 there) own).up_to, r.roster.few),
  )

  -- a look tells of the state
  pub settles_allowed : (slots id : ℕ) (me : Sat) (Fact : Type 0) → ((s : SigState) → Rule shows z s → get_elem? s.views id ≡ maybe.some me.0 → Fact) → Turns shows z slots id me 0 (λ n. n) (settles Fact me)
  settles_allowed slots id me Fact tells s r _ there _ = (
    me.0,
    keeps,
    tt,
    subst (Rule shows z) (sym (looked s id me there)) r,
    (refl, refl, tells s r there),
  )

  -- the seat with the number 0 draws
  pub draws_allowed : (slots id : ℕ) (me : Sat) (st : Step Rattle.signal_core.specs.declared.view.Nothing.Nothing) (f : ℕ → ℕ) → me.0.own ≡ Some 0 → me.0.pending ≡ None → me.0.drawn + 1 < z.procs → ((n : ℕ) → n < 2 ^ 63 → f n ≡ n + 1)
      → Turns shows z slots id me 0 f (draws st me)
  draws_allowed slots id me st f own free room agrees s r _ there _ = (
    with_drawn me.0,
    keeps,
    tt,
    draw_kept shows z s r id me.0 there own free room (f (get_or s.words 0 0)) (agrees (get_or s.words 0 0) (let few = r.roster.few in let most = r.sized.procs in omega arith)),
    (refl, refl),
  )

  -- a new seat has the number drawn
  pub cuts_allowed : (id : ℕ) (v : SigView) (n : ℕ) → v.pending ≡ Some n → Cuts shows z id v (stays v) (comes v)
  cuts_allowed id v n drawn s r there = seat_kept shows z s r id v there n drawn

  -- a seat takes in another
  pub glues_allowed : (id : ℕ) (v : SigView) (other : ℕ) (w : SigView) → (v.own ≡ None → ⊥) → w.place ≡ None → w.slot ≡ None → w.pending ≡ None → Glues shows z id v other w (took_in v w) spent_view
  glues_allowed id v other w mine free left none s r at apart there = join_kept shows z s r id v at mine other w apart (sym (set_else s.views id other (took_in v w) apart) ∙ there) free left none

-- what a call's caller knows of a table's value, the call owes of its fields and of its key
pub asked : (shows : ℕ → ℕ → Type 0) (key size : About) → key ≡ size → (tid : TableId) (t : TableView) → table_view tid size ≡ t → (seat : TableId) (id : ℕ) (me : Sat) (word : ℕ) (o p : WordOp) → o ≡ p → (gives : ℕ → Sat → Type 0)
    → (seat ≡ t.table_id) × (word < t.table_id.words) → Turns shows (about_of t) t.table_id.slots id me word (op_gives o) gives
    → (seat ≡ tid) × (word < tid.words) × Turns shows key tid.slots id me word (op_gives p) gives
asked shows key size told tid t is seat id me word o p same gives table h =
    let tid_is : tid ≡ t.table_id = ap (λ (x : TableView). x.table_id) is in (
      table.0 ∙ sym tid_is,
      subst (λ (x : TableId). word < x.words) (sym tid_is) table.1,
      subst (λ (a : About). Turns shows a tid.slots id me word (op_gives p) gives) (sym told)
          (subst (λ (x : WordOp). Turns shows size tid.slots id me word (op_gives x) gives) same
          (subst (λ (x : TableView). Turns shows (about_of x) x.table_id.slots id me word (op_gives o) gives) (sym is) h)),
    )

-- The signal machine: which word each step is on, what the word becomes, how the view of the seat goes on, and where the step is allowed.
use Rattle.std.specs.Prelude.{◌≡◌, ℕ, zero, suc, ◌+◌, ◌^◌, ◌<◌, ◌≤◌, ◌==◌, nat_lt, bit_or, cond, List, [], ◌∷◌, ◌++◌, slice_index, Option, None, Some, ⊤}
use Rattle.std.specs.Int.{bit_at}
use Rattle.atomic_table.specs.Table.{State, keeps, stepped}
use Rattle.signal_core.specs.declared.step.Call.{Call}
use Rattle.signal_core.specs.declared.step.Call.TheVariants as call
use Rattle.signal_core.specs.declared.step.SigStep.{SigStep}
use Rattle.signal_core.specs.declared.step.SigStep.TheVariants.{Hload, Hadd, Mor, Mswap, Gstore, Gload, Pstore, Pload, Pend, Pswap}
use Rattle.signal_core.specs.declared.view.Frame.{Frame}
use Rattle.signal_core.specs.declared.view.Frame.TheVariants.{Reading, Opening, Entering, Leaving, Posting, Numbering, Telling, Prodding, Comparing, Heading, Swapping, Taking, Keeping, Reminding}
use Rattle.signal_core.specs.declared.view.Made.{Made}
use Rattle.signal_core.specs.declared.view.Emission.{Emission}
use Rattle.signal_core.specs.declared.view.Slot.{Slot}
use Rattle.signal_core.specs.declared.view.Nothing.{Nothing}
use Rattle.signal_core.specs.declared.view.About.{About}
use Rattle.signal_core.specs.declared.view.SigView.{SigView}
use Rattle.signal_core.specs.Words.{header_at, pid_at, gen_at, mask_at, pend_at, gone, worn}

-- the words, and one view per seat
abbrev pub SigState : Type 0
SigState = State Nothing SigView

-- what is still to be done, or nothing
abbrev pub Place : Type 0
Place = Option Frame

abbrev pub number_of : Option ℕ → ℕ
number_of None = 0
number_of (Some n) = n

-- the word that the step of the backend `own` is on
abbrev pub word_of : ℕ → SigStep → ℕ
word_of own (Hload begins) = header_at
word_of own Hadd = header_at
word_of own (Mor q k failed) = mask_at q
word_of own (Mswap begins) = mask_at own
word_of own (Gstore g begins) = gen_at own
word_of own (Gload q begins) = gen_at q
word_of own (Pstore x) = pid_at own
word_of own (Pload q) = pid_at q
word_of own (Pend q) = pend_at q
word_of own (Pswap begins) = pend_at own

-- what the word n becomes
abbrev pub becomes : SigStep → ℕ → ℕ
becomes (Hload begins) n = n
becomes Hadd n = n + 1
becomes (Mor q k failed) n = bit_or n (2 ^ k)
becomes (Mswap begins) n = 0
becomes (Gstore g begins) n = g
becomes (Gload q begins) n = n
becomes (Pstore x) n = x
becomes (Pload q) n = n
becomes (Pend q) n = 1
becomes (Pswap begins) n = 0

-- THE PLACE after a step that found n

-- the header is read: to emit, to join, or to see whether there is anything to absorb
abbrev pub begun : Call → ℕ → Place
begun (call.Emit k x) n = cond (nat_lt n worn) (Some (Posting k x 0)) None
begun c n = None

abbrev pub headed : ℕ → Place → Place
headed n (Some Reading) = Some (Opening n)
headed n (Some (Heading g)) = cond (n == g) None (Some (Swapping n))
headed n p = p

abbrev pub numbered : Place → Place
numbered (Some (Numbering k x)) = Some (Telling 0)
numbered p = p

-- the mask of slot q has the bit: an emission goes on with the next slot, a kind that failed is put back
abbrev pub posted : About → ℕ → Option ℕ → Place → Place
posted z k failed (Some (Posting j x q)) = cond (q + 1 == z.procs) (Some (Numbering j x)) (Some (Posting j x (q + 1)))
posted z k None (Some (Keeping h found f done)) = Some (Reminding h found f k)
posted z k (Some f) (Some (Taking h found)) = Some (Reminding h found f k)
posted z k failed p = p

abbrev pub swapped : ℕ → Place → Place
swapped n (Some (Swapping h)) = Some (Taking h n)
swapped n p = p

abbrev pub opened : Place → Place
opened (Some (Opening h)) = Some (Entering h)
opened (Some (Taking h found)) = None
opened p = p

abbrev pub compared : ℕ → Place → Place
compared n (Some Comparing) = Some (Heading n)
compared n p = p

-- the next slot, or none
abbrev pub told : About → ℕ → Place
told z q = cond (q + 1 == z.procs) None (Some (Telling (q + 1)))

abbrev pub looked : About → ℕ → Place → Place
looked z n (Some (Telling q)) = cond (n == 0) (told z q) (Some (Prodding q))
looked z n p = p

-- the pending word is stored: an emission goes on with the next slot; a seat that puts kinds back with the next that failed
abbrev pub prodded : About → Place → Place
prodded z (Some (Prodding q)) = told z q
prodded z (Some (Reminding h found f k)) = cond (nat_lt f (2 ^ (k + 1))) None (Some (Keeping h found f (k + 1)))
prodded z p = p

abbrev pub place_after : About → SigStep → ℕ → Place → Place
place_after z (Hload (Some c)) n p = begun c n
place_after z (Hload None) n p = headed n p
place_after z Hadd n p = numbered p
place_after z (Mor q k failed) n p = posted z k failed p
place_after z (Mswap (Some c)) n p = Some Reading
place_after z (Mswap None) n p = swapped n p
place_after z (Gstore g (Some c)) n p = Some Leaving
place_after z (Gstore g None) n p = opened p
place_after z (Gload q (Some c)) n p = p
place_after z (Gload q None) n p = compared n p
place_after z (Pstore x) n p = None
place_after z (Pload q) n p = looked z n p
place_after z (Pend q) n p = prodded z p
place_after z (Pswap begins) n p = cond (n == 0) None (Some Comparing)

-- THE SLOT. A seat is joined from the store of its number, which ends its join, to the store of `gone`, with which its leave begins
abbrev pub entered : Place → Option Slot → Option Slot
entered (Some (Entering h)) t = Some record { joined = h; published = h }
entered p t = t

abbrev pub publishes : ℕ → Option Slot → Option Slot
publishes h None = None
publishes h (Some t) = Some record { joined = t.joined; published = h }

abbrev pub stored : Place → Option Slot → Option Slot
stored (Some (Taking h found)) t = publishes h t
stored p t = t

abbrev pub slot_after : SigStep → Place → Option Slot → Option Slot
slot_after (Pstore x) p t = entered p t
slot_after (Gstore g (Some c)) p t = None
slot_after (Gstore g None) p t = stored p t
slot_after k p t = t

-- THE EMISSIONS that have their generation
abbrev pub emission : ℕ → ℕ → ℕ → Emission
emission k x g = record { kind = k; number = x; generation = g }

abbrev pub gains : Place → ℕ → List Emission → List Emission
gains (Some (Numbering k x)) n es = es ++ emission k x (n + 1) ∷ []
gains p n es = es

abbrev pub emissions_after : SigStep → ℕ → Place → List Emission → List Emission
emissions_after Hadd n p es = gains p n es
emissions_after k n p es = es

-- THE KINDS ABSORBED. The kinds below n that are in the mask `found` and not in `failed`, from the lowest
abbrev pub takes : ℕ → ℕ → ℕ → ℕ
takes found failed k = cond (bit_at failed k == 0) (bit_at found k) 0

abbrev pub kinds_below : ℕ → (ℕ → ℕ) → List ℕ
kinds_below zero f = []
kinds_below (suc n) f = kinds_below n f ++ cond (f n == 0) [] (n ∷ [])

-- which kinds the step takes: all that were found, or all but those that failed
abbrev pub takes_at : Place → ℕ → ℕ → ℕ
takes_at (Some (Taking h found)) failed k = takes found failed k
takes_at p failed k = 0

abbrev pub taken_by : SigStep → Place → ℕ → ℕ
taken_by (Mor q j (Some failed)) p k = takes_at p failed k
taken_by (Gstore g None) p k = takes_at p 0 k
taken_by s p k = 0

abbrev pub absorbs : Place → ℕ → List ℕ → List ℕ
absorbs (Some (Taking h found)) failed ks = ks ++ kinds_below 32 (takes found failed)
absorbs p failed ks = ks

abbrev pub absorbed_after : SigStep → Place → List ℕ → List ℕ
absorbed_after (Mor q j (Some failed)) p ks = absorbs p failed ks
absorbed_after (Gstore g None) p ks = absorbs p 0 ks
absorbed_after s p ks = ks

-- WHERE A STEP IS ALLOWED

-- the kind that a step is on is one of 32
abbrev pub InRange : SigStep → Type 0
InRange (Mor q k failed) = k < 32
InRange x = ⊤

-- k is the lowest kind from `done` on that failed
abbrev pub IsLowest : ℕ → ℕ → ℕ → Type 0
IsLowest failed done k = (done ≤ k) × (bit_at failed k ≡ 1) × ((j : ℕ) → done ≤ j → j < k → bit_at failed j ≡ 0)

-- each kind that failed was found
abbrev pub IsPart : ℕ → ℕ → Type 0
IsPart failed found = (j : ℕ) → bit_at failed j ≤ bit_at found j

abbrev pub MayRead : Place → Type 0
MayRead (Some Reading) = ⊤
MayRead (Some (Heading g)) = ⊤
MayRead p = ⊥

abbrev pub MayNumber : Place → Type 0
MayNumber (Some (Numbering k x)) = ⊤
MayNumber p = ⊥

-- an emission posts its kind at the next slot; a seat that absorbs puts the next kind that failed back into its own mask
abbrev pub MayPost : About → Option ℕ → ℕ → ℕ → Option ℕ → Place → Type 0
MayPost z own q k None (Some (Posting j x r)) = (r ≡ q) × (j ≡ k)
MayPost z own q k None (Some (Keeping h found failed done)) = (own ≡ Some q) × IsLowest failed done k
MayPost z own q k (Some failed) (Some (Taking h found)) = (own ≡ Some q) × IsPart failed found × IsLowest failed 0 k
MayPost z own q k failed p = ⊥

abbrev pub MaySwap : Place → Type 0
MaySwap (Some (Swapping h)) = ⊤
MaySwap p = ⊥

-- what was read of the header is stored. Where kinds were found, none failed
abbrev pub MayStore : ℕ → Place → Type 0
MayStore g (Some (Opening h)) = h ≡ g
MayStore g (Some (Taking h found)) = h ≡ g
MayStore g p = ⊥

abbrev pub MayEnd : ℕ → Option ℕ → Place → Type 0
MayEnd x own (Some (Entering h)) = x ≡ number_of own + 1
MayEnd x own (Some Leaving) = x ≡ 0
MayEnd x own p = ⊥

abbrev pub MayTell : ℕ → Place → Type 0
MayTell q (Some (Telling r)) = r ≡ q
MayTell q p = ⊥

abbrev pub MayProd : Option ℕ → ℕ → Place → Type 0
MayProd own q (Some (Prodding r)) = r ≡ q
MayProd own q (Some (Reminding h found failed k)) = own ≡ Some q
MayProd own q p = ⊥

-- the slot is joined
abbrev pub IsJoined : Option Slot → Type 0
IsJoined None = ⊥
IsJoined (Some t) = ⊤

-- the call begins with a load of the header
abbrev pub BeginsLoad : (ℕ → ℕ → Type 0) → Call → Type 0
BeginsLoad shows (call.Emit k x) = (k < 32) × shows k x
BeginsLoad shows c = ⊥

-- a seat with this number, this slot and this place may make the step
abbrev pub Permits : (ℕ → ℕ → Type 0) → About → SigStep → Option ℕ → Option Slot → Place → Type 0
Permits shows z (Hload (Some c)) own t p = BeginsLoad shows c × (p ≡ None)
Permits shows z (Hload None) own t p = MayRead p
Permits shows z Hadd own t p = MayNumber p
Permits shows z (Mor q k failed) own t p = (q < z.procs) × (k < 32) × MayPost z own q k failed p
Permits shows z (Mswap (Some c)) own t p = (c ≡ call.Join) × (p ≡ None) × (t ≡ None)
Permits shows z (Mswap None) own t p = MaySwap p
Permits shows z (Gstore g (Some c)) own t p = (c ≡ call.Leave) × (g ≡ gone) × (p ≡ None) × IsJoined t
Permits shows z (Gstore g None) own t p = MayStore g p
Permits shows z (Gload q (Some c)) own t p = (c ≡ call.Published q) × (q < z.procs) × (p ≡ None)
Permits shows z (Gload q None) own t p = (own ≡ Some q) × (p ≡ Some Comparing)
Permits shows z (Pstore x) own t p = MayEnd x own p
Permits shows z (Pload q) own t p = (q < z.procs) × MayTell q p
Permits shows z (Pend q) own t p = (q < z.procs) × MayProd own q p
Permits shows z (Pswap begins) own t p = (begins ≡ Some call.Absorb) × (p ≡ None) × IsJoined t

abbrev pub made : SigStep → ℕ → Made
made k n = record { step = k; found = n }

-- the view after a step that found n
abbrev pub next : About → SigStep → SigView → ℕ → SigView
next z k v n = record v {
  place = place_after z k n v.place;
  steps = v.steps ++ made k n ∷ [];
  slot = slot_after k v.place v.slot;
  emissions = emissions_after k n v.place v.emissions;
  absorbed = absorbed_after k v.place v.absorbed;
}

-- the view's place allows the step, and a call that begins with it may begin
abbrev pub Allowed : (ℕ → ℕ → Type 0) → About → SigStep → SigView → Type 0
Allowed shows z k v = Permits shows z k v.own v.slot v.place

-- the state after the step k of the seat id, whose view is v
abbrev pub after : About → SigState → ℕ → SigView → SigStep → SigState
after z s id v k = let i = word_of (number_of v.own) k in let n = slice_index s.words i in stepped s i (becomes k n) id [] (next z k v n) keeps

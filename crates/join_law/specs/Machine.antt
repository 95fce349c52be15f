-- The steps of the join: the word of each, what it does to it, when a seat may make it, and what the seat knows after it.
use Rattle.std.specs.Prelude.{◌≡◌, ◌⊎◌, ℕ, zero, suc, ◌+◌, ◌-◌, ◌*◌, ◌<◌, ◌≤◌, ◌==◌, ◌&&◌, ◌||◌, cond, nat_le, true, List, [], ◌∷◌, ◌++◌, length, min, Option, Some, None, ⊤}
use Rattle.std.specs.Int.{IsPowerOfTwo}
use Rattle.wait_core.specs.declared.party.ClientOp.{ClientOp}
use Rattle.wait_core.specs.declared.party.ClientOp.TheVariants as op
use Rattle.wait_core.specs.Parties.{phase_of, Elected}
use Rattle.row_model.specs.declared.Side.{Side}
use Rattle.row_model.specs.declared.Side.TheVariants.{Inner, Outer}
use Rattle.seat_roster.specs.Roster.{times}
use Rattle.join_law.specs.declared.step.Word.{Word}
use Rattle.join_law.specs.declared.step.Word.TheVariants as word
use Rattle.join_law.specs.declared.step.Source.{Source}
use Rattle.join_law.specs.declared.step.Source.TheVariants as from
use Rattle.join_law.specs.declared.step.Look.{Look}
use Rattle.join_law.specs.declared.step.Look.TheVariants.{Plain, Cursor, TakeHead, TakeNext, WalkHead, WalkNext, Aside, GiveUp, Done, Late}
use Rattle.join_law.specs.declared.step.Look.TheVariants as look
use Rattle.join_law.specs.declared.step.HashStep.{HashStep}
use Rattle.join_law.specs.declared.step.HashStep.TheVariants.{Load, Claim, StoreHash, StoreNext, Push, Take, AddBatchSize, ClearBatchSize, StoreSizes, Draw, AddResults}
use Rattle.join_law.specs.declared.view.HashView.{HashView}
use Rattle.join_law.specs.declared.view.Taking.{Taking}
use Rattle.join_law.specs.declared.view.Walk.{Walk}
use Rattle.join_law.specs.declared.view.Swept.{Swept}
use Rattle.join_law.specs.Layout.{Join, SizesOf, sizes_of, place, Inside, store_no, outer_no}
use Rattle.join_law.specs.Routes.{batch_of, chain_at, outer_at, hashed_at, before_growth, old_head, old_heads}
use Rattle.join_law.specs.Views.{View, stretch, partners, dropped}
use Rattle.join_law.specs.Phases.{build, batch_bar, HASH_INNER, HASH_OUTER, RUN, FREE, LOAD, PROBE, SCAN, REALLOCATE, REINSERT, IsGrowth, growth_phase, growth_place, reads_sizes, With, WithSizes}

-- the head that a source names
abbrev pub source_head : Join → Source → ℕ
source_head j (from.Inner half batch) = store_no j half batch
source_head j (from.Outer batch) = outer_no j batch
source_head j (from.Old bar turn head) = head

-- the word of a side's cursor
abbrev pub cursor : Side → Word
cursor Inner = word.InnerCursor
cursor Outer = word.OuterCursor

-- the word that a load is of
abbrev pub looked_at : Join → Look → Word
looked_at j (Plain w) = w
looked_at j look.Sizes = word.Sizes
looked_at j (Cursor side) = cursor side
looked_at j (TakeHead source) = word.Head (source_head j source)
looked_at j (TakeNext row) = word.Next row
looked_at j (WalkHead row head) = word.Head head
looked_at j (WalkNext inner) = word.Next inner
looked_at j (Aside row) = word.Next row
looked_at j (GiveUp row) = word.Next row
looked_at j (Done batch) = word.Head (outer_no j batch)
looked_at j Late = word.Sizes

-- the word of a step
abbrev pub word_of : Join → HashStep → Word
word_of j (Load l) = looked_at j l
word_of j (Claim side) = cursor side
word_of j (StoreHash row hash) = word.Hash row
word_of j (StoreNext row next) = word.Next row
word_of j (Push row head found) = word.Head head
word_of j (Take row head next) = word.Head head
word_of j (AddBatchSize k by) = word.BatchSize k
word_of j (ClearBatchSize k) = word.BatchSize k
word_of j (StoreSizes bar w) = word.Sizes
word_of j Draw = word.Distributor
word_of j (AddResults row pairs) = word.Results

-- where the word stands, as far as 32 bits go
abbrev pub spot : Join → Word → ℕ
spot j w = min (place j w) 4294967295

-- what a step does to its word
abbrev pub step_op : Join → HashStep → ClientOp
step_op j (Load l) = op.Load (spot j (looked_at j l))
step_op j (Claim side) = op.Add (spot j (cursor side)) 64
step_op j (StoreHash row hash) = op.Store (spot j (word.Hash row)) hash
step_op j (StoreNext row next) = op.Store (spot j (word.Next row)) next
step_op j (Push row head found) = op.Change (spot j (word.Head head)) found (suc row)
step_op j (Take row head next) = op.Change (spot j (word.Head head)) (suc row) next
step_op j (AddBatchSize k by) = op.Add (spot j (word.BatchSize k)) by
step_op j (ClearBatchSize k) = op.Store (spot j (word.BatchSize k)) 0
step_op j (StoreSizes bar w) = op.Store (spot j word.Sizes) w
step_op j Draw = op.Add (spot j word.Distributor) 1
step_op j (AddResults row pairs) = op.Add (spot j word.Results) pairs

abbrev pub InHand : View → ℕ → Type 0
InHand v r = 1 ≤ times r v.client.hand

-- the view knows the barrier in this phase
abbrev pub At : View → ℕ → ℕ → Type 0
At v bar ph = phase_of v.attached bar ≡ Some ph

-- where a seat may put an inner row of this hash, and an outer row
abbrev pub InnerPush : Join → View → SizesOf → ℕ → ℕ → Type 0
InnerPush j v z x h = ((At v build HASH_INNER) × (growth_place v ≡ true) × (h ≡ hashed_at j z x))
    ⊎ ((At v (batch_bar (batch_of z x)) LOAD) × (h ≡ chain_at j z x))

abbrev pub OuterPush : Join → View → SizesOf → ℕ → ℕ → Type 0
OuterPush j v z x h = (At v build HASH_OUTER) × (h ≡ outer_at j z x)

-- where a seat may put a row
abbrev pub MayPush : Join → View → ℕ → ℕ → SizesOf → ℕ → Type 0
MayPush j v r h z x = (r < j.inner → InnerPush j v z x h) × (j.inner ≤ r → OuterPush j v z x h)

-- how many heads of the old half were seen at their end in this phase
abbrev pub swept_at : Option Swept → ℕ → ℕ → ℕ
swept_at None bar ph = 0
swept_at (Some s) bar ph = cond ((s.bar == bar) && (s.phase == ph)) s.heads 0

-- where a seat may take rows from, in a phase that it names: from a store in its batch's LOAD or PROBE; from the heads of the old half, while rows move
abbrev pub MayTake : Join → View → Source → ℕ → Type 0
MayTake j v (from.Inner half batch) ph = (At v (batch_bar batch) LOAD) × (batch < 64) × (ph ≡ RUN) × WithSizes v (λ z. half ≡ z.half)
MayTake j v (from.Outer batch) ph = (At v (batch_bar batch) PROBE) × (batch < 64) × (ph ≡ RUN)
MayTake j v (from.Old bar turn head) ph = (At v bar ph) × IsGrowth bar × (growth_phase bar ph ≡ REINSERT)
    × (growth_place v ≡ true) × (At v build HASH_INNER)
    × WithSizes v (λ z. (turn < old_heads (before_growth j bar z)) × (head ≡ old_head j (before_growth j bar z) turn))

abbrev pub or_zero : Option ℕ → ℕ
or_zero None = 0
or_zero (Some n) = n

-- the phase in which a source is taken from
abbrev pub source_phase : View → Source → ℕ
source_phase v (from.Inner half batch) = RUN
source_phase v (from.Outer batch) = RUN
source_phase v (from.Old bar turn head) = or_zero (phase_of v.attached bar)

-- a take under way that has its next word
abbrev pub TakeIsReady : Join → View → Option Taking → ℕ → ℕ → ℕ → Type 0
TakeIsReady j v None row head next = ⊥
TakeIsReady j v (Some t) row head next = (t.row ≡ row) × (t.head ≡ head) × (t.next ≡ Some next) × MayTake j v t.source t.phase

-- the row of the take under way
abbrev pub IsTaking : Option Taking → ℕ → Type 0
IsTaking None row = ⊥
IsTaking (Some t) row = t.row ≡ row

-- the walk stands at this inner row
abbrev pub HasReached : Option Walk → ℕ → Type 0
HasReached None inner = ⊥
HasReached (Some w) inner = w.stood ≡ suc inner

-- an outer row in hand at PROBE of its batch
abbrev pub Probing : Join → View → ℕ → (SizesOf → ℕ → Type 0) → Type 0
Probing j v r P = (InHand v r) × (j.inner ≤ r) × With (j.hash r) (λ x. WithSizes v (λ z. (At v (batch_bar (batch_of z x)) PROBE) × P z x))

-- the walk of the row is at its chain's end, and met so many rows
abbrev pub HasWalked : Join → Option Walk → ℕ → ℕ → Type 0
HasWalked j None row pairs = ⊥
HasWalked j (Some w) row pairs = (w.row ≡ row) × (w.stood ≡ 0) × (pairs ≡ length (partners j row w.passed))

-- when a seat may load a word for this reason
abbrev pub MayLook : Join → View → Look → Type 0
MayLook j v (Plain w) = ⊤
MayLook j v look.Sizes = ⊤
MayLook j v (Cursor side) = ⊤
MayLook j v (TakeHead source) = MayTake j v source (source_phase v source)
MayLook j v (TakeNext row) = IsTaking v.client.taking row
MayLook j v (WalkHead row head) = Probing j v row (λ z x. head ≡ chain_at j z x)
MayLook j v (WalkNext inner) = HasReached v.client.walk inner
MayLook j v (Aside row) = (InHand v row) × (j.hash row ≡ None)
MayLook j v (GiveUp row) = Probing j v row (λ z x. ⊤)
MayLook j v (Done batch) = (batch < 64) × With (phase_of v.attached (batch_bar batch)) (λ ph. SCAN ≤ ph)
MayLook j v Late = With (phase_of v.attached build) (λ ph. FREE ≤ ph)

-- how often a seat may still find a side's end by an add, and the phase in which it claims
abbrev pub claims_of : View → Side → ℕ
claims_of v Inner = v.client.inner_claims
claims_of v Outer = v.client.outer_claims

abbrev pub claim_phase : Side → ℕ
claim_phase Inner = HASH_INNER
claim_phase Outer = HASH_OUTER

-- the sizes w that a growth at this barrier may bring: powers of two with room, from which those before it can be told
abbrev pub Grown : Join → ℕ → SizesOf → SizesOf → Type 0
Grown j bar z w = (before_growth j bar w ≡ z) × (1 ≤ w.buckets) × (1 ≤ w.batches) × (w.batches ≤ 64) × (w.half ≤ 1)
    × (w.buckets * w.batches ≤ j.chains) × (w.buckets ≤ 262144) × (IsPowerOfTwo w.buckets) × (IsPowerOfTwo w.batches)

-- the other growth barrier
abbrev pub other_growth : ℕ → ℕ
other_growth bar = 3 - bar

-- who was elected for REALLOCATE may store new sizes once, while the other growth is at ELECT
abbrev pub MayStoreSizes : Join → View → ℕ → ℕ → Type 0
MayStoreSizes j v bar w = IsGrowth bar
    × With (phase_of v.attached bar) (λ ph. (growth_phase bar ph ≡ REALLOCATE) × (Elected v.elections bar ph) × (Elected v.client.stored bar ph → ⊥))
    × With (phase_of v.attached (other_growth bar)) (λ ph. growth_phase (other_growth bar) ph ≡ 0) × WithSizes v (λ z. Grown j bar z (sizes_of w))

-- when a seat may make a step
abbrev pub Allowed : Join → View → HashStep → Type 0
Allowed j v (Load l) = MayLook j v l
Allowed j v (Claim side) = (At v build (claim_phase side)) × (1 ≤ claims_of v side)
Allowed j v (StoreHash row hash) = (InHand v row) × With (j.hash row) (λ x. hash ≡ x)
Allowed j v (StoreNext row next) = InHand v row
Allowed j v (Push row head found) = (InHand v row) × (v.client.hashed ≡ Some row) × (v.client.linked ≡ Some (row, found))
    × With (j.hash row) (λ x. WithSizes v (λ z. MayPush j v row head z x))
Allowed j v (Take row head next) = TakeIsReady j v v.client.taking row head next
Allowed j v (AddBatchSize k by) = k < 128
Allowed j v (ClearBatchSize k) = k < 128
Allowed j v (StoreSizes bar w) = MayStoreSizes j v bar w
Allowed j v Draw = ⊤
Allowed j v (AddResults row pairs) = (Probing j v row (λ z x. ⊤)) × HasWalked j v.client.walk row pairs

-- the word is there, and the step is allowed
abbrev pub May : Join → View → HashStep → Type 0
May j v step = (Inside j (word_of j step)) × Allowed j v step

-- one head more of the old half was seen at its end, and one store of sizes more was made
abbrev pub swept_more : Option ℕ → Option Swept → ℕ → ℕ → Option Swept
swept_more None s bar turn = s
swept_more (Some ph) s bar turn = cond (turn == swept_at s bar ph) (Some (record { bar = bar; phase = ph; heads = suc turn })) s

abbrev pub stored_more : Option ℕ → List (ℕ × ℕ) → ℕ → List (ℕ × ℕ)
stored_more None list bar = list
stored_more (Some ph) list bar = (bar, ph) ∷ list

-- what a seat knows where it found the end of a source, and where it found a row
abbrev pub saw_end : View → Source → HashView
saw_end v (from.Inner half batch) = record (v.client) { emptied = batch ∷ v.client.emptied; taking = None }
saw_end v (from.Outer batch) = record (v.client) { drained = batch ∷ v.client.drained; taking = None }
saw_end v (from.Old bar turn head) = record (v.client) { taking = None; swept = swept_more (phase_of v.attached bar) v.client.swept bar turn }

abbrev pub found_head : Join → View → Source → ℕ → HashView
found_head j v source zero = saw_end v source
found_head j v source (suc row) =
    record (v.client) { taking = Some (record { source = source; head = source_head j source; phase = source_phase v source; row = row; next = None }) }

-- the row after the one that is taken was read, and a walk went on by one row
abbrev pub next_read : Option Taking → ℕ → Option Taking
next_read None n = None
next_read (Some t) n = Some (record t { next = Some n })

abbrev pub walked_on : Option Walk → ℕ → ℕ → Option Walk
walked_on None inner n = None
walked_on (Some w) inner n = Some (record w { passed = w.passed ++ inner ∷ []; stood = n })

abbrev pub passed_of : Option Walk → List ℕ
passed_of None = []
passed_of (Some w) = w.passed

-- what a seat knows after a load that found n
abbrev pub looked : Join → View → Look → ℕ → HashView
looked j v (Plain w) n = v.client
looked j v look.Sizes n = record (v.client) { known = reads_sizes v n }
looked j v (Cursor Inner) n = record (v.client) { inner_ended = v.client.inner_ended || nat_le j.inner n }
looked j v (Cursor Outer) n = record (v.client) { outer_ended = v.client.outer_ended || nat_le j.outer n }
looked j v (TakeHead source) n = found_head j v source n
looked j v (TakeNext row) n = record (v.client) { taking = next_read v.client.taking n }
looked j v (WalkHead row head) n = record (v.client) { walk = Some (record { row = row; passed = []; stood = n }) }
looked j v (WalkNext inner) n = record (v.client) { walk = walked_on v.client.walk inner n }
looked j v (Aside row) n = record (dropped v.client row) { aside = row ∷ v.client.aside }
looked j v (GiveUp row) n = record (dropped v.client row) { given = row ∷ v.client.given }
looked j v (Done batch) n = record (v.client) { done = batch ∷ v.client.done }
looked j v Late n = record (v.client) { late = true }

-- so many rows from the first one come to hand. A chunk of inner rows is counted
abbrev pub claimed_rows : HashView → ℕ → ℕ → ℕ → HashView
claimed_rows v first count chunk = record v { hand = v.hand ++ stretch first count; chunks = v.chunks + chunk; claimed = v.claimed + count }

-- what a claim gives that found the cursor at n
abbrev pub claimed_inner : Join → View → ℕ → HashView
claimed_inner j v n = cond (nat_le j.inner n) (record (v.client) { inner_ended = true; inner_claims = v.client.inner_claims - 1 })
    (claimed_rows v.client n (min 64 (j.inner - n)) 1)

abbrev pub claimed_outer : Join → View → ℕ → HashView
claimed_outer j v n = cond (nat_le j.outer n) (record (v.client) { outer_ended = true; outer_claims = v.client.outer_claims - 1 })
    (claimed_rows v.client (j.inner + n) (min 64 (j.outer - n)) 0)

-- what it knows after a push and a take that met the word they named
abbrev pub pushed : HashView → ℕ → HashView
pushed v row = dropped v row

abbrev pub took : HashView → ℕ → HashView
took v row = record v { hand = row ∷ v.hand; hashed = Some row; taking = None }

-- what a seat knows after a step that found n
abbrev pub after : Join → View → HashStep → ℕ → HashView
after j v (Load l) n = looked j v l n
after j v (Claim Inner) n = claimed_inner j v n
after j v (Claim Outer) n = claimed_outer j v n
after j v (StoreHash row hash) n = record (v.client) { hashed = Some row }
after j v (StoreNext row next) n = record (v.client) { linked = Some (row, next) }
after j v (Push row head found) n = cond (n == found) (pushed v.client row) (v.client)
after j v (Take row head next) n = cond (n == suc row) (took v.client row) (record (v.client) { taking = None })
after j v (AddBatchSize k by) n = v.client
after j v (ClearBatchSize k) n = v.client
after j v (StoreSizes bar w) n = record (v.client) { known = None; stored = stored_more (phase_of v.attached bar) v.client.stored bar }
after j v Draw n = v.client
after j v (AddResults row pairs) n =
    record (dropped v.client row) { probed = record { row = row; pairs = partners j row (passed_of v.client.walk) } ∷ v.client.probed }

-- Where each row of the join stands: what holds between any two steps, in parts.
use Rattle.std.specs.Prelude.{◌≡◌, ◌⊎◌, ℕ, suc, ◌+◌, ◌*◌, ◌%◌, ◌^◌, ◌<◌, ◌≤◌, min, cond, Bool, true, false, List, [], ◌∷◌, ◌++◌, length, get_or, Option, Some, None}
use Rattle.std.specs.Int.{IsPowerOfTwo}
use mathlib.Core.Option as maybe
use lib.ListN.{get_elem?}
use Rattle.seat_roster.specs.Totals.{total}
use Rattle.seat_roster.specs.Roster.{times, one_if}
use Rattle.wait_core.specs.Parties.{phase_of, now, Elected}
use Rattle.join_law.specs.declared.view.Taking.{Taking}
use Rattle.join_law.specs.declared.view.Walk.{Walk}
use Rattle.join_law.specs.declared.view.Known.{Known}
use Rattle.join_law.specs.declared.view.Swept.{Swept}
use Rattle.join_law.specs.declared.view.Probed.{Probed}
use Rattle.join_law.specs.declared.step.Source.{Source}
use Rattle.join_law.specs.declared.step.Source.TheVariants as from
use Rattle.join_law.specs.Layout.{Join, Memory, SizesOf, Laid, flat, sizes_of, rows, heads, store_no, outer_no}
use Rattle.join_law.specs.Routes.{batch_of, chain_at, store_at, outer_at, hashed_at, before_growth, old_head, old_heads}
use Rattle.join_law.specs.Views.{View, spent_view, claimed_by, held, results_of, inner_ended, outer_ended, inner_claims, outer_claims, below, unclaimed}
use Rattle.join_law.specs.Phases.{On, UnderWay, build, batch_growth, bucket_growth, batch_bar, growth_phase, IsGrowth, HASH_INNER, HASH_OUTER, RUN, FREE, LOAD, PROBE, SCAN, REALLOCATE, REINSERT, last_batch_growth, last_bucket_growth}

-- the list at a head
abbrev pub at_head : List (List ℕ) → ℕ → List ℕ
at_head lists h = get_or lists h []

-- the row stands in the list of the head
abbrev pub Listed : List (List ℕ) → ℕ → ℕ → Type 0
Listed lists h r = 1 ≤ times r (at_head lists h)

-- a view that is there
abbrev pub There : List View → ℕ → View → Type 0
There views id v = get_elem? views id ≡ maybe.some v

-- Rows that meet are an outer row and an inner row with one hash; and there aren't too many rows for words to count them
pub record RowsMeet (j : Join) : Type 0 where
  pub few : rows j ≤ 1073741824
  pub chains : j.chains ≤ 524288
  pub meet : (o i : ℕ) → j.meets o i ≡ true → (i < j.inner) × ((x : ℕ) × (j.hash i ≡ Some x) × (j.hash o ≡ Some x))

-- Sizes are powers of two with room for their chains
pub record SizesFit (j : Join) (z : SizesOf) : Type 0 where
  pub half : z.half ≤ 1
  pub buckets : 1 ≤ z.buckets
  pub batches : 1 ≤ z.batches
  pub most : z.batches ≤ 64
  pub room : z.buckets * z.batches ≤ j.chains
  pub few : z.buckets ≤ 262144
  pub powers : (IsPowerOfTwo z.buckets) × (IsPowerOfTwo z.batches)

-- Each row is unclaimed, in a list, in a hand, set aside, given up or probed, and that once
pub record OnePlace (j : Join) (inner outer : ℕ) (lists : List (List ℕ)) (views : List View) : Type 0 where
  pub once : (r : ℕ) → unclaimed j inner outer r + total (times r) lists + total (held r) views ≡ below r (rows j)

-- The list of a head is what the next words give from its word
abbrev pub Links : List ℕ → ℕ → List ℕ → Type 0
Links nexts w [] = w ≡ 0
Links nexts w (r ∷ rs) = (w ≡ suc r) × Links nexts (get_or nexts r 0) rs

pub record Linked (j : Join) (words nexts : List ℕ) (lists : List (List ℕ)) : Type 0 where
  pub many : length lists ≡ heads j
  pub links : (h : ℕ) → h < heads j → Links nexts (get_or words h 0) (at_head lists h)

-- What a seat stored into the next word of a row in its hand is there
pub record NextStored (nexts : List ℕ) (views : List View) : Type 0 where
  pub stored : (id : ℕ) (v : View) → There views id v → (r x : ℕ) → v.client.linked ≡ Some (r, x)
      → (1 ≤ times r v.client.hand) × (get_or nexts r 0 ≡ x)

-- Rows in lists, and the row whose hash a seat knows, have their key's hash in their hash word
abbrev pub HashIs : Join → List ℕ → ℕ → Type 0
HashIs j hashes r = (x : ℕ) × (j.hash r ≡ Some x) × (get_or hashes r 0 ≡ x)

pub record Hashes (j : Join) (hashes : List ℕ) (lists : List (List ℕ)) (views : List View) : Type 0 where
  pub listed : (h r : ℕ) → Listed lists h r → HashIs j hashes r
  pub known : (id : ℕ) (v : View) → There views id v → (r : ℕ) → v.client.hashed ≡ Some r → HashIs j hashes r

-- An inner row in a list stands in its chain (of batch 0, or from RUN on), in its store (of another batch, before PROBE), or where sizes before a growth say
abbrev pub InChain : Join → SizesOf → List ℕ → ℕ → ℕ → Type 0
InChain j z phases h x = (h ≡ chain_at j z x) × ((batch_of z x ≡ 0) ⊎ (RUN ≤ now phases build))

abbrev pub InStore : Join → SizesOf → List ℕ → ℕ → ℕ → Type 0
InStore j z phases h x = (h ≡ store_at j z x) × (1 ≤ batch_of z x) × (now phases (batch_bar (batch_of z x)) < PROBE)

abbrev pub InOld : Join → SizesOf → Option (ℕ × ℕ) → List ℕ → ℕ → ℕ → Type 0
InOld j z growth phases h x = (bar : ℕ) × (ph : ℕ) × (UnderWay growth phases bar ph) × (h ≡ hashed_at j (before_growth j bar z) x)

abbrev pub InnerStands : Join → SizesOf → Option (ℕ × ℕ) → List ℕ → ℕ → ℕ → Type 0
InnerStands j z growth phases h x = InChain j z phases h x ⊎ (InStore j z phases h x ⊎ InOld j z growth phases h x)

-- an outer row stands in the outer store of its batch, from HASH_OUTER to RUN and below SCAN
abbrev pub OuterStands : Join → SizesOf → List ℕ → ℕ → ℕ → Type 0
OuterStands j z phases h x = (h ≡ outer_at j z x) × (HASH_OUTER ≤ now phases build) × (now phases build ≤ RUN)
    × (now phases (batch_bar (batch_of z x)) < SCAN)

abbrev pub StandsWhereRouted : Join → SizesOf → Option (ℕ × ℕ) → List ℕ → ℕ → ℕ → Type 0
StandsWhereRouted j z growth phases h r = (x : ℕ) × (j.hash r ≡ Some x)
    × (r < j.inner → InnerStands j z growth phases h x) × (j.inner ≤ r → OuterStands j z phases h x)

pub record Routes (j : Join) (z : SizesOf) (growth : Option (ℕ × ℕ)) (phases : List ℕ) (lists : List (List ℕ)) : Type 0 where
  pub stands : (h r : ℕ) → Listed lists h r → StandsWhereRouted j z growth phases h r

-- Who has a row in hand works where it came to hand
abbrev pub InnerHand : Join → SizesOf → List ℕ → View → ℕ → Type 0
InnerHand j z phases v r = On phases v build HASH_INNER
    ⊎ ((x : ℕ) × (j.hash r ≡ Some x) × On phases v build RUN × On phases v (batch_bar (batch_of z x)) LOAD)

abbrev pub OuterHand : Join → SizesOf → List ℕ → View → ℕ → Type 0
OuterHand j z phases v r = On phases v build HASH_OUTER
    ⊎ ((x : ℕ) × (j.hash r ≡ Some x) × On phases v build RUN × On phases v (batch_bar (batch_of z x)) PROBE)

pub record Hands (j : Join) (z : SizesOf) (phases : List ℕ) (views : List View) : Type 0 where
  pub inner : (id : ℕ) (v : View) → There views id v → (r : ℕ) → 1 ≤ times r v.client.hand → r < j.inner → InnerHand j z phases v r
  pub outer : (id : ℕ) (v : View) → There views id v → (r : ℕ) → 1 ≤ times r v.client.hand → j.inner ≤ r → OuterHand j z phases v r

-- Rows set aside have no key; rows probed or given up are outer rows with a key; the pairs of a probed row are all that it meets, each once
abbrev pub meeting : Join → ℕ → ℕ → ℕ
meeting j o i = cond (j.meets o i) 1 0

pub record Gone (j : Join) (views : List View) : Type 0 where
  pub aside : (id : ℕ) (v : View) → There views id v → (r : ℕ) → 1 ≤ times r v.client.aside → j.hash r ≡ None
  pub given : (id : ℕ) (v : View) → There views id v → (r : ℕ) → 1 ≤ times r v.client.given
      → (j.inner ≤ r) × ((x : ℕ) × (j.hash r ≡ Some x))
  pub probed : (id : ℕ) (v : View) → There views id v → (k : ℕ) (p : Probed) → get_elem? v.client.probed k ≡ maybe.some p
      → (j.inner ≤ p.row) × ((x : ℕ) × (j.hash p.row ≡ Some x)) × ((i : ℕ) → times i p.pairs ≡ meeting j p.row i)

-- The result count is the number of pairs of the rows probed
pub record Counted (results : ℕ) (views : List View) : Type 0 where
  pub count : results ≡ total results_of views % 2 ^ 64

-- A side's cursor is at its end once the side's phase has passed, or a seat saw it there. It never comes far beyond
pub record CursorFits (count cursor next : ℕ) (ended : View → Bool) (claims : View → ℕ) (phases : List ℕ) (views : List View) : Type 0 where
  pub past : next ≤ now phases build → count ≤ cursor
  pub seen : (id : ℕ) (v : View) → There views id v → ended v ≡ true → count ≤ cursor
  pub few : total claims views ≤ length views
  pub near : cursor + 64 * total claims views ≤ count + 64 + 64 * length views

pub record Cursors (j : Join) (inner_at outer_at : ℕ) (phases : List ℕ) (views : List View) : Type 0 where
  pub inner : CursorFits j.inner inner_at HASH_OUTER inner_ended inner_claims phases views
  pub outer : CursorFits j.outer outer_at RUN outer_ended outer_claims phases views

-- Who is on a growth is on the build at HASH_INNER, who is on a batch is on it at RUN. A growth past ELECT has a seat attached. Before RUN no batch was begun
abbrev pub on_bar : ℕ → View → ℕ
on_bar bar v = one_if (phase_of v.attached bar)

pub record AttachedInside (phases : List ℕ) (views : List View) : Type 0 where
  pub growths : (id : ℕ) (v : View) → There views id v → (bar ph : ℕ) → IsGrowth bar → phase_of v.attached bar ≡ Some ph
      → On phases v build HASH_INNER
  pub batches : (id : ℕ) (v : View) → There views id v → (b ph : ℕ) → phase_of v.attached (batch_bar b) ≡ Some ph → On phases v build RUN
  pub manned : (bar : ℕ) → IsGrowth bar → 1 ≤ growth_phase bar (now phases bar) → 1 ≤ total (on_bar bar) views
  pub unbegun : now phases build < RUN → (b : ℕ) → now phases (batch_bar b) ≡ 0

-- Stores that a seat saw at their end, and batches that it found done
pub record Seen (z : SizesOf) (j : Join) (phases : List ℕ) (lists : List (List ℕ)) (views : List View) : Type 0 where
  pub emptied : (id : ℕ) (v : View) → There views id v → (b : ℕ) → 1 ≤ times b v.client.emptied
      → (RUN ≤ now phases build) × (LOAD ≤ now phases (batch_bar b)) × (at_head lists (store_no j z.half b) ≡ [])
  pub drained : (id : ℕ) (v : View) → There views id v → (b : ℕ) → 1 ≤ times b v.client.drained
      → (RUN ≤ now phases build) × (PROBE ≤ now phases (batch_bar b)) × (at_head lists (outer_no j b) ≡ [])
  pub done : (id : ℕ) (v : View) → There views id v → (b : ℕ) → 1 ≤ times b v.client.done
      → (RUN ≤ now phases build) × (SCAN ≤ now phases (batch_bar b))
  pub late : (id : ℕ) (v : View) → There views id v → v.client.late ≡ true → FREE ≤ now phases build

-- A row that is being taken is the first of its list, and its next word is what was read, or it is gone from there
abbrev pub IsFirst : List ℕ → List ℕ → Taking → Type 0
IsFirst nexts list t = (rest : List ℕ) × (list ≡ t.row ∷ rest) × ((x : ℕ) → t.next ≡ Some x → get_or nexts t.row 0 ≡ x)

-- its head only gives rows away, as long as the phase stands: stores from RUN on, heads of the old half in the phase in which rows move
abbrev pub Frozen : Join → SizesOf → List ℕ → Source → ℕ → ℕ → Type 0
Frozen j z phases (from.Inner half batch) h ph = (RUN ≤ now phases build) × (h ≡ store_no j half batch) × (half ≡ z.half) × (batch < 64)
Frozen j z phases (from.Outer batch) h ph = (RUN ≤ now phases build) × (h ≡ outer_no j batch) × (batch < 64)
Frozen j z phases (from.Old bar turn head) h ph = (h ≡ head) × IsGrowth bar × (growth_phase bar ph ≡ REINSERT) × (ph ≤ now phases bar)
    × (now phases bar ≡ ph → (turn < old_heads (before_growth j bar z)) × (head ≡ old_head j (before_growth j bar z) turn))

abbrev pub StillFrozen : List ℕ → Source → ℕ → Type 0
StillFrozen phases (from.Inner half batch) ph = 0 < 1
StillFrozen phases (from.Outer batch) ph = 0 < 1
StillFrozen phases (from.Old bar turn head) ph = now phases bar ≡ ph

pub record TakeFits (j : Join) (z : SizesOf) (phases nexts : List ℕ) (lists : List (List ℕ)) (t : Taking) : Type 0 where
  pub frozen : Frozen j z phases t.source t.head t.phase
  pub first : StillFrozen phases t.source t.phase → (times t.row (at_head lists t.head) ≡ 0) ⊎ IsFirst nexts (at_head lists t.head) t

pub record Takes (j : Join) (z : SizesOf) (phases nexts : List ℕ) (lists : List (List ℕ)) (views : List View) : Type 0 where
  pub fits : (id : ℕ) (v : View) → There views id v → (t : Taking) → v.client.taking ≡ Some t → TakeFits j z phases nexts lists t

-- An outer row in hand, the rows that it passed, and from the word where it stands the rest of its chain
pub record WalkFits (j : Join) (z : SizesOf) (phases nexts : List ℕ) (lists : List (List ℕ)) (hand : List ℕ) (w : Walk) : Type 0 where
  pub held : 1 ≤ times w.row hand
  pub outer : j.inner ≤ w.row
  pub hash : ℕ
  pub keyed : j.hash w.row ≡ Some hash
  pub running : RUN ≤ now phases build
  pub probing : PROBE ≤ now phases (batch_bar (batch_of z hash))
  pub rest : List ℕ
  pub chain : at_head lists (chain_at j z hash) ≡ w.passed ++ rest
  pub stands : Links nexts w.stood rest

pub record Walks (j : Join) (z : SizesOf) (phases nexts : List ℕ) (lists : List (List ℕ)) (views : List View) : Type 0 where
  pub fits : (id : ℕ) (v : View) → There views id v → (w : Walk) → v.client.walk ≡ Some w → WalkFits j z phases nexts lists v.client.hand w

-- A seat's sizes are in force: for good once settled, else while both growths are in the phases at which they were read and no new ones were stored in these
abbrev pub Settled : List ℕ → Type 0
Settled phases = HASH_OUTER ≤ now phases build

abbrev pub NotStored : Option (ℕ × ℕ) → ℕ → ℕ → Type 0
NotStored growth bar ph = growth ≡ Some (bar, ph) → ⊥

pub record KnownFits (sizes : ℕ) (growth : Option (ℕ × ℕ)) (phases : List ℕ) (k : Known) : Type 0 where
  pub settled : k.settled ≡ true → (Settled phases) × (sizes ≡ k.word)
  pub read : k.settled ≡ false → (k.batch_growth ≤ now phases batch_growth) × (k.bucket_growth ≤ now phases bucket_growth)
      × (now phases batch_growth ≡ k.batch_growth → now phases bucket_growth ≡ k.bucket_growth → NotStored growth batch_growth k.batch_growth
      → NotStored growth bucket_growth k.bucket_growth → sizes ≡ k.word)

pub record SizesKnown (sizes : ℕ) (growth : Option (ℕ × ℕ)) (phases : List ℕ) (views : List View) : Type 0 where
  pub fits : (id : ℕ) (v : View) → There views id v → (k : Known) → v.client.known ≡ Some k → KnownFits sizes growth phases k

-- The last new sizes were stored at a REALLOCATE that isn't to come, by a seat elected for it. The heads that a seat swept in the phase that stands are empty
abbrev pub StoredBy : List View → ℕ → ℕ → Type 0
StoredBy views bar ph = (id : ℕ) × (v : View) × (There views id v) × (Elected v.client.stored bar ph)

pub record Growth (j : Join) (z : SizesOf) (growth : Option (ℕ × ℕ)) (phases : List ℕ) (lists : List (List ℕ)) (views : List View) : Type 0 where
  pub last : (bar ph : ℕ) → growth ≡ Some (bar, ph) → IsGrowth bar × (growth_phase bar ph ≡ REALLOCATE) × (ph ≤ now phases bar)
      × (now phases bar ≤ suc ph → SizesFit j (before_growth j bar z)) × StoredBy views bar ph
  pub stored : (id : ℕ) (v : View) → There views id v → (bar ph : ℕ) → Elected v.client.stored bar ph → Elected v.elections bar ph
  pub swept : (id : ℕ) (v : View) → There views id v → (s : Swept) → v.client.swept ≡ Some s
      → IsGrowth s.bar × (growth_phase s.bar s.phase ≡ REINSERT) × (s.phase ≤ now phases s.bar)
      × (now phases s.bar ≡ s.phase → s.heads ≤ old_heads (before_growth j s.bar z))
      × (now phases s.bar ≡ s.phase → (k : ℕ) → k < s.heads → at_head lists (old_head j (before_growth j s.bar z) k) ≡ [])

-- A view without a number is what is left of a seat that was joined into another
pub record LeftOver (views : List View) : Type 0 where
  pub spent : (id : ℕ) (v : View) → There views id v → v.proc ≡ None → v.client ≡ spent_view

-- The rows that seats claimed are those that the cursors passed
pub record RowsClaimed (j : Join) (inner outer : ℕ) (views : List View) : Type 0 where
  pub all : total claimed_by views ≡ min inner j.inner + min outer j.outer

-- The build never comes past FREE, and a growth never past the ELECT phase in which nobody takes part any more
pub record PhasesEnd (phases : List ℕ) : Type 0 where
  pub of_build : now phases build ≤ FREE
  pub of_batches : now phases batch_growth ≤ last_batch_growth
  pub of_buckets : now phases bucket_growth ≤ last_bucket_growth

-- all parts together
pub record Parts (j : Join) (m : Memory) (lists : List (List ℕ)) (growth : Option (ℕ × ℕ)) (views : List View) (phases : List ℕ) : Type 0 where
  pub laid : Laid j m
  pub bars : length phases ≡ 67
  pub meet : RowsMeet j
  pub fit : SizesFit j (sizes_of m.sizes)
  pub place : OnePlace j m.inner_cursor m.outer_cursor lists views
  pub links : Linked j m.heads m.nexts lists
  pub next : NextStored m.nexts views
  pub hashes : Hashes j m.hashes lists views
  pub routes : Routes j (sizes_of m.sizes) growth phases lists
  pub hands : Hands j (sizes_of m.sizes) phases views
  pub gone : Gone j views
  pub count : Counted m.results views
  pub cursors : Cursors j m.inner_cursor m.outer_cursor phases views
  pub attached : AttachedInside phases views
  pub seen : Seen (sizes_of m.sizes) j phases lists views
  pub takes : Takes j (sizes_of m.sizes) phases m.nexts lists views
  pub walks : Walks j (sizes_of m.sizes) phases m.nexts lists views
  pub known : SizesKnown m.sizes growth phases views
  pub grown : Growth j (sizes_of m.sizes) growth phases lists views

-- Where everything stands: some lists at the heads, and some last growth, for which all parts hold
pub record Stands (j : Join) (words : List ℕ) (views : List View) (phases : List ℕ) : Type 0 where
  pub memory : Memory
  pub lists : List (List ℕ)
  pub growth : Option (ℕ × ℕ)
  pub same : words ≡ flat memory
  pub parts : Parts j memory lists growth views phases
  pub left : LeftOver views
  pub claims : RowsClaimed j memory.inner_cursor memory.outer_cursor views
  pub ends : PhasesEnd phases

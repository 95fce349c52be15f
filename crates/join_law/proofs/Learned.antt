-- What a seat learns from a word that it found.
use Rattle.std.proofs.Common.{◌≡◌, ◌⊎◌, ℕ, zero, suc, ◌+◌, ◌^◌, ◌<◌, ◌≤◌, List, [], ◌∷◌, ◌++◌, length, true, get_or, refl, sym, ap, ◌∙◌, subst, arith, inl, inr, ⊎_elim, Some, Option}
use mathlib.Core.Logic.{dite}
use native.Mathlib.Decide.{dec_le}
use Rattle.seat_roster.specs.Roster.{times}
use Rattle.seat_roster.proofs.Totals.{total_at}
use Rattle.seat_roster.proofs.Numbers.{times_append}
use Rattle.wait_core.specs.Ops.{op_at}
use Rattle.wait_core.specs.Parties.{Elected, IsStep}
use Rattle.row_model.specs.declared.Side.TheVariants as side
use Rattle.join_law.specs.declared.step.HashStep.{HashStep}
use Rattle.join_law.specs.declared.step.HashStep.TheVariants.{Load, Take, AddResults}
use Rattle.join_law.specs.declared.step.Look.TheVariants.{Plain, Cursor, WalkHead, WalkNext}
use Rattle.join_law.specs.declared.step.Look.TheVariants as look
use Rattle.join_law.specs.declared.step.Word.TheVariants as word
use Rattle.join_law.specs.Layout.{Join, Inside, sizes_of, place, read, rows, heads}
use Rattle.join_law.specs.Routes.{batch_of, chain_at}
use Rattle.join_law.specs.Phases.{build, batch_bar, batch_growth, bucket_growth, last_batch_growth, last_bucket_growth, HASH_OUTER, RUN, FREE, LOAD, PROBE, growth_place, known_word}
use Rattle.join_law.specs.Views.{View, below, held, results_of, partners}
use Rattle.join_law.specs.declared.view.Known.{Known}
use Rattle.join_law.specs.declared.view.Taking.{Taking}
use Rattle.join_law.specs.declared.view.Walk.{Walk}
use Rattle.join_law.specs.declared.step.Source.{Source}
use Rattle.join_law.specs.declared.step.Source.TheVariants as from
use Rattle.join_law.specs.Machine.{InHand, At, MayTake, TakeIsReady, May, step_op, word_of}
use Rattle.join_law.specs.Stands.{Stands, SizesFit, Links, Listed, Frozen, at_head, meeting}
use Rattle.join_law.proofs.Rows.{one, one_same, listed_total, listed_inside, links_row}
use Rattle.join_law.proofs.Heads.{chain_inside, chain_no_outer}
use Rattle.join_law.proofs.SizesInForce.{in_force_later}
use Rattle.join_law.proofs.TakeKeeps.{OfSource, of_source}
use Rattle.join_law.proofs.TakeHeads.{sizes_at_batch, sizes_while_hashed}
use Rattle.join_law.proofs.Flat.{flat_read}
use Rattle.join_law.proofs.Laws.{op_spot, in_range}
use Rattle.join_law.proofs.Results.{chain_has, walked_all}
use Rattle.join_law.proofs.Counts.{counted_exactly, few_results, few_pairs}

-- a seat works by the sizes that it knows: rows may be put while growths may come, or build is past HASH_INNER
abbrev pub WorksBySizes : View → Type 0
WorksBySizes v = (growth_place v ≡ true) ⊎ ((ph : ℕ) × (At v build ph) × (HASH_OUTER ≤ ph))

-- the row that a word names
abbrev pub named_row : ℕ → List ℕ
named_row zero = []
named_row (suc r) = r ∷ []

-- it is the first of what the next words give
named_first : (nexts : List ℕ) (w x : ℕ) (l : List ℕ) → Links nexts w l → times x (named_row w) ≤ times x l
named_first nexts w x [] e = let z : times x (named_row w) ≡ 0 = ap (λ n. times x (named_row n)) e in omega arith
named_first nexts w x (r ∷ rs) e = let z : times x (named_row w) ≡ one x r + 0 = ap (λ n. times x (named_row n)) e.0 in let b : times x (r ∷ rs) ≡ one x r + times x rs = refl in omega arith

-- a word names the first row of its list, or none
row_or_end : (nexts : List ℕ) (w : ℕ) (l : List ℕ) → Links nexts w l → (w ≡ 0) ⊎ ((r : ℕ) × (w ≡ suc r) × (1 ≤ times r l))
row_or_end nexts w [] e = inl e
row_or_end nexts w (r ∷ rs) e = inr (r, e.0, let o = one_same r r refl in let b : times r (r ∷ rs) ≡ one r r + times r rs = refl in omega arith)

module _ (j : Join) (words : List ℕ) (views : List View) (phases : List ℕ) (h : Stands j words views phases) (id : ℕ) (v : View) (s : IsStep views phases id v) where
  -- a step found the value of its word
  pub word_found : (step : HashStep) (n : ℕ) → get_or words (op_at (step_op j step)) 0 ≡ n → Inside j (word_of j step) → n ≡ read h.memory (word_of j step)
  word_found step n found inside =
      let at : op_at (step_op j step) ≡ place j (word_of j step) = op_spot j step ∙ in_range j (word_of j step) h.parts.meet inside in
      sym found ∙ (ap (λ (k : ℕ). get_or words k 0) at ∙ (ap (λ (l : List ℕ). get_or l (place j (word_of j step)) 0) h.same ∙ flat_read j h.memory h.parts.laid (word_of j step) inside))

  -- the build that the seat is attached to has no phase past FREE
  pub build_phase_found : (ph : ℕ) → At v build ph → ph ≤ FREE
  build_phase_found ph on = let end = h.ends.of_build in let here = s.here build ph on in omega arith

  -- nor those of the growths past their last ELECT
  pub batch_growth_found : (ph : ℕ) → At v batch_growth ph → ph ≤ last_batch_growth
  batch_growth_found ph on = let end = h.ends.of_batches in let here = s.here batch_growth ph on in omega arith

  pub bucket_growth_found : (ph : ℕ) → At v bucket_growth ph → ph ≤ last_bucket_growth
  bucket_growth_found ph on = let end = h.ends.of_buckets in let here = s.here bucket_growth ph on in omega arith

  -- the seat stored sizes in no phase that is to come
  pub stored_before : (bar ph later : ℕ) → At v bar ph → Elected v.client.stored bar later → later ≤ ph
  stored_before bar ph later on stored = let here = s.here bar ph on in let past = s.barriers.past id v s.at bar later (h.parts.grown.stored id v s.at bar later stored) in omega arith

  -- the hash word of the row whose hash the seat knows to be stored is the hash of its key
  pub hash_found : (row n : ℕ) → get_or words (op_at (step_op j (Load (Plain (word.Hash row))))) 0 ≡ n → row < rows j → v.client.hashed ≡ Some row → j.hash row ≡ Some n
  hash_found row n found inside known =
      let e = word_found (Load (Plain (word.Hash row))) n found inside in
      let right = h.parts.hashes.known id v s.at row known in
      right.1 ∙ ap Some (sym right.2 ∙ sym e)

  -- a cursor that the seat saw at its end is there
  pub inner_end_found : (n : ℕ) → get_or words (op_at (step_op j (Load (Cursor side.Inner)))) 0 ≡ n → v.client.inner_ended ≡ true → j.inner ≤ n
  inner_end_found n found ended = let e = word_found (Load (Cursor side.Inner)) n found (omega arith) in let end = h.parts.cursors.inner.seen id v s.at ended in omega arith

  pub outer_end_found : (n : ℕ) → get_or words (op_at (step_op j (Load (Cursor side.Outer)))) 0 ≡ n → v.client.outer_ended ≡ true → j.outer ≤ n
  outer_end_found n found ended = let e = word_found (Load (Cursor side.Outer)) n found (omega arith) in let end = h.parts.cursors.outer.seen id v s.at ended in omega arith

  -- sizes that the seat knows for good are in force
  pub sizes_found : (n : ℕ) (k : Known) → get_or words (op_at (step_op j (Load look.Sizes))) 0 ≡ n → v.client.known ≡ Some k → k.settled ≡ true → n ≡ k.word
  sizes_found n k found known settled = word_found (Load look.Sizes) n found (omega arith) ∙ ((h.parts.known.fits id v s.at k known).settled settled).1

  -- the sizes by which the seat works are in force
  pub known_in_force : (w : ℕ) → known_word v ≡ Some w → WorksBySizes v → h.memory.sizes ≡ w
  known_in_force w known works = ⊎_elim
      (λ place. sizes_while_hashed j h.memory h.lists h.growth views phases h.parts id v s w known place)
      (λ later. in_force_later j h.memory.sizes h.growth phases views id v w later.0 h.parts.attached h.parts.known s.at known later.1 later.2) works

  pub known_found : (w n : ℕ) → get_or words (op_at (step_op j (Load (Plain word.Sizes)))) 0 ≡ n → known_word v ≡ Some w → WorksBySizes v → n ≡ w
  known_found w n found known works = word_found (Load (Plain word.Sizes)) n found (omega arith) ∙ known_in_force w known works

  pub known_fit : (w : ℕ) → known_word v ≡ Some w → WorksBySizes v → SizesFit j (sizes_of w)
  known_fit w known works = subst (λ (n : ℕ). SizesFit j (sizes_of n)) (known_in_force w known works) h.parts.fit

  -- sizes that are found have room
  pub sizes_fit_found : (n : ℕ) → get_or words (op_at (step_op j (Load (Plain word.Sizes)))) 0 ≡ n → SizesFit j (sizes_of n)
  sizes_fit_found n found = subst (λ (w : ℕ). SizesFit j (sizes_of w)) (sym (word_found (Load (Plain word.Sizes)) n found (omega arith))) h.parts.fit

  -- a row in a list is a row
  pub listed_row : (head r : ℕ) → Listed h.lists head r → r < rows j
  listed_row head r l = let o = h.parts.place.once r in let t = listed_total h.lists head (listed_inside h.lists head r l) r in let b : 1 ≤ below r (rows j) = omega arith in omega arith

  -- and so is a row in hand
  pub hand_row : (r : ℕ) → InHand v r → r < rows j
  hand_row r mine = let o = h.parts.place.once r in let t = total_at (held r) views id v s.at in let b : 1 ≤ below r (rows j) = omega arith in omega arith

  -- a head is at its end, or names a row
  pub head_found : (step : HashStep) (head n : ℕ) → word_of j step ≡ word.Head head → head < heads j → get_or words (op_at (step_op j step)) 0 ≡ n → (n ≡ 0) ⊎ ((r : ℕ) × (n ≡ suc r) × (r < rows j))
  head_found step head n is inside found =
      let e = word_found step n found (subst (Inside j) (sym is) inside) ∙ ap (read h.memory) is in
      ⊎_elim (λ none. inl (e ∙ none)) (λ some. inr (some.0, e ∙ some.1, listed_row head some.0 some.2))
      (row_or_end h.memory.nexts (get_or h.memory.heads head 0) (at_head h.lists head) (h.parts.links.links head inside))

  -- a take that met its row found it in the list of its head, and of its source
  pub taken_found : (t : Taking) (r head next : ℕ) → v.client.taking ≡ Some t → May j v (Take r head next) → get_or words (op_at (step_op j (Take r head next))) 0 ≡ suc r → (Listed h.lists head r) × OfSource j (sizes_of h.memory.sizes) t.source r
  taken_found t r head next taking may found =
      let ready = subst (λ (o : Option Taking). TakeIsReady j v o r head next) taking may.1 in
      let first = word_found (Take r head next) (suc r) found may.0 in
      let listed : Listed h.lists head r = ⊎_elim (λ none. absurd (omega arith)) (λ some. let is = some.1 in let same : some.0 ≡ r = omega arith in subst (Listed h.lists head) same some.2)
      (row_or_end h.memory.nexts (get_or h.memory.heads head 0) (at_head h.lists head) (h.parts.links.links head may.0)) in
      let frozen = subst (λ (k : ℕ). Frozen j (sizes_of h.memory.sizes) phases t.source k t.phase) ready.1 (h.parts.takes.fits id v s.at t taking).frozen in
      (listed, of_source j h.memory h.lists h.growth views phases h.parts id v s t.source head r t.phase frozen ready.3 listed)

  -- who takes knows the sizes in force
  pub taking_in_force : (source : Source) (ph w : ℕ) → MayTake j v source ph → known_word v ≡ Some w → h.memory.sizes ≡ w
  taking_in_force (from.Inner half batch) ph w may known = sizes_at_batch j h.memory h.lists h.growth views phases h.parts id v s batch LOAD w may.0 known
  taking_in_force (from.Outer batch) ph w may known = sizes_at_batch j h.memory h.lists h.growth views phases h.parts id v s batch PROBE w may.0 known
  taking_in_force (from.Old bar turn head) ph w may known = sizes_while_hashed j h.memory h.lists h.growth views phases h.parts id v s w known may.3

  pub taken_known : (t : Taking) (r head next w : ℕ) → v.client.taking ≡ Some t → May j v (Take r head next) → get_or words (op_at (step_op j (Take r head next))) 0 ≡ suc r → known_word v ≡ Some w → OfSource j (sizes_of w) t.source r
  taken_known t r head next w taking may found known =
      let ready = subst (λ (o : Option Taking). TakeIsReady j v o r head next) taking may.1 in
      subst (λ (w : ℕ). OfSource j (sizes_of w) t.source r) (taking_in_force t.source t.phase w ready.3 known) (taken_found t r head next taking may found).1

  -- only inner rows stand in chains
  chain_row : (x r : ℕ) → Listed h.lists (chain_at j (sizes_of h.memory.sizes) x) r → r < j.inner
  chain_row x r l = dite (dec_le j.inner r)
      (λ outer. let t = h.parts.routes.stands (chain_at j (sizes_of h.memory.sizes) x) r l in absurd (chain_no_outer j (sizes_of h.memory.sizes) h.parts.fit x (batch_of (sizes_of h.memory.sizes) t.0) (t.3 outer).0))
      (λ less. omega arith)

  -- a chain that is walked is at its end, or goes on with an inner row
  pub walk_head_found : (row head x n : ℕ) → head ≡ chain_at j (sizes_of h.memory.sizes) x → get_or words (op_at (step_op j (Load (WalkHead row head)))) 0 ≡ n → (n ≡ 0) ⊎ ((r : ℕ) × (n ≡ suc r) × (r < j.inner))
  walk_head_found row head x n is found =
      let inside : head < heads j = subst (λ (k : ℕ). k < heads j) (sym is) (chain_inside j (sizes_of h.memory.sizes) h.parts.fit x) in
      let e = word_found (Load (WalkHead row head)) n found inside in
      ⊎_elim (λ none. inl (e ∙ none)) (λ some. inr (some.0, e ∙ some.1, chain_row x some.0 (subst (λ (k : ℕ). Listed h.lists k some.0) is some.2)))
      (row_or_end h.memory.nexts (get_or h.memory.heads head 0) (at_head h.lists head) (h.parts.links.links head inside))

  -- a walk stands in the chain of its row's hash
  reached : (q : Walk) (inner : ℕ) → v.client.walk ≡ Some q → q.stood ≡ suc inner
      → (x : ℕ) × (rest : List ℕ) × (at_head h.lists (chain_at j (sizes_of h.memory.sizes) x) ≡ q.passed ++ (inner ∷ rest)) × (Links h.memory.nexts (get_or h.memory.nexts inner 0) rest) × (Listed h.lists (chain_at j (sizes_of h.memory.sizes) x) inner)
  reached q inner walks stood =
      let f = h.parts.walks.fits id v s.at q walks in
      let row = links_row h.memory.nexts q.stood inner f.rest stood f.stands in
      let chain : at_head h.lists (chain_at j (sizes_of h.memory.sizes) f.hash) ≡ q.passed ++ (inner ∷ row.0) = f.chain ∙ ap (λ l. q.passed ++ l) row.1 in (
        f.hash,
        row.0,
        chain,
        row.2,
        subst (λ l. 1 ≤ times inner l) (sym chain) (let t = times_append inner q.passed (inner ∷ row.0) in let o = one_same inner inner refl in let b : times inner (inner ∷ row.0) ≡ one inner inner + times inner row.0 = refl in omega arith),
      )

  pub walk_next_found : (q : Walk) (inner n : ℕ) → v.client.walk ≡ Some q → q.stood ≡ suc inner → get_or words (op_at (step_op j (Load (WalkNext inner)))) 0 ≡ n → (n ≡ 0) ⊎ ((r : ℕ) × (n ≡ suc r) × (r < j.inner))
  walk_next_found q inner n walks stood found =
      let here = reached q inner walks stood in
      let e = word_found (Load (WalkNext inner)) n found (listed_row (chain_at j (sizes_of h.memory.sizes) here.0) inner here.4) in
      ⊎_elim (λ none. inl (e ∙ none))
      (λ some. inr (
        some.0,
        e ∙ some.1,
        chain_row here.0 some.0 (subst (λ l. 1 ≤ times some.0 l) (sym here.2) (let t = times_append some.0 q.passed (inner ∷ here.1) in let b : times some.0 (inner ∷ here.1) ≡ one some.0 inner + times some.0 here.1 = refl in let m = some.2 in omega arith)),
      ))
      (row_or_end h.memory.nexts (get_or h.memory.nexts inner 0) here.1 here.3)

  -- the hash word of the row where a walk stands is the hash of its key
  pub walk_hash_found : (q : Walk) (inner n : ℕ) → v.client.walk ≡ Some q → q.stood ≡ suc inner → get_or words (op_at (step_op j (Load (Plain (word.Hash inner))))) 0 ≡ n → (inner < j.inner) × (j.hash inner ≡ Some n)
  walk_hash_found q inner n walks stood found =
      let here = reached q inner walks stood in
      let e = word_found (Load (Plain (word.Hash inner))) n found (listed_row (chain_at j (sizes_of h.memory.sizes) here.0) inner here.4) in
      let right = h.parts.hashes.listed (chain_at j (sizes_of h.memory.sizes) here.0) inner here.4 in
      (chain_row here.0 inner here.4, right.1 ∙ ap Some (sym right.2 ∙ sym e))

  -- what a walk passed, and the row where it stands, are inner rows, each once
  pub walk_rows : (q : Walk) → v.client.walk ≡ Some q → (x : ℕ) → (times x (q.passed ++ named_row q.stood) ≤ 1) × (1 ≤ times x (q.passed ++ named_row q.stood) → x < j.inner)
  walk_rows q walks x =
      let f = h.parts.walks.fits id v s.at q walks in
      let chain : ℕ = chain_at j (sizes_of h.memory.sizes) f.hash in
      let first = named_first h.memory.nexts q.stood x f.rest f.stands in
      let a = times_append x q.passed (named_row q.stood) in
      let b = times_append x q.passed f.rest in
      let c : times x (at_head h.lists chain) ≡ times x (q.passed ++ f.rest) = ap (times x) f.chain in
      let inside = chain_inside j (sizes_of h.memory.sizes) h.parts.fit f.hash in
      let many = h.parts.links.many in
      let t = listed_total h.lists chain (let i : chain < length h.lists = omega arith in i) x in
      let o = h.parts.place.once x in
      let most : below x (rows j) ≤ 1 = omega arith in
      (omega arith, λ some. chain_row f.hash x (omega arith))

  -- a walk at its end: what the result add finds counts all pairs that the seat found before, and those of this row fit
  pub results_found : (q : Walk) (n : ℕ) → v.client.walk ≡ Some q → q.stood ≡ 0 → get_or words (op_at (step_op j (AddResults q.row (length (partners j q.row q.passed))))) 0 ≡ n
      → (results_of v ≤ n) × (n + length (partners j q.row q.passed) < 2 ^ 64) × ((i : ℕ) → times i (partners j q.row q.passed) ≡ meeting j q.row i)
  results_found q n walks stood found =
      let e = word_found (AddResults q.row (length (partners j q.row q.passed))) n found (omega arith) in
      let exact = counted_exactly j h.memory h.lists h.growth views phases h.parts in
      let few = few_results j h.memory h.lists h.growth views phases h.parts in
      let mine = total_at results_of views id v s.at in
      let all = walked_all j h.memory h.lists h.growth views phases h.parts id v s q walks stood in
      let pairs = few_pairs j h.memory h.lists h.growth views phases h.parts (record { row = q.row; pairs = partners j q.row q.passed }) all in
      let room = h.parts.meet.few in
      (omega arith, omega arith, all)

  -- an inner row of a batch that the seat probes stands in its chain, once
  pub chain_found : (row x : ℕ) → row < j.inner → j.hash row ≡ Some x → At v build RUN → At v (batch_bar (batch_of (sizes_of h.memory.sizes) x)) PROBE → times row (at_head h.lists (chain_at j (sizes_of h.memory.sizes) x)) ≡ 1
  chain_found row x inner key running probing =
      let run = s.here build RUN running in
      let probe = s.here (batch_bar (batch_of (sizes_of h.memory.sizes) x)) PROBE probing in
      chain_has j h.memory h.lists h.growth views phases h.parts row x inner key (omega arith) (omega arith)

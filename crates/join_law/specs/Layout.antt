-- The words of the join, in one row of words and as a memory of stretches.
use Rattle.std.specs.Prelude.{◌≡◌, ℕ, ◌+◌, ◌*◌, ◌/◌, ◌%◌, ◌<◌, List, ◌∷◌, ◌++◌, length, get_or, set, Option, Bool, ◌==◌, cond}
use Rattle.join_law.specs.declared.step.Word.{Word}
use Rattle.join_law.specs.declared.step.Word.TheVariants.{Sizes, InnerCursor, OuterCursor, Distributor, Results, BatchSize, Head, Next, Hash}

-- What a join is of. The rows of both tables have one numbering, the inner rows first
pub record Join : Type 0 where
  pub inner : ℕ
  pub outer : ℕ
  -- the hash of each row's key, where it has one, and which outer row meets which inner row
  pub hash : ℕ → Option ℕ
  pub meets : ℕ → ℕ → Bool
  -- how many chains there is room for in a half
  pub chains : ℕ
  -- how many buckets it begins with, and how many batches the first growth of batches brings
  pub buckets : ℕ
  pub first_batches : ℕ

abbrev pub rows : Join → ℕ
rows j = j.inner + j.outer

-- the heads of the chains of half 0 and of half 1, of the inner stores of half 0 and of half 1, and of the outer stores. Growth moves rows to the other half
abbrev pub heads : Join → ℕ
heads j = 2 * j.chains + 192

abbrev pub chain_no : Join → ℕ → ℕ → ℕ
chain_no j half chain = half * j.chains + chain

abbrev pub store_no : Join → ℕ → ℕ → ℕ
store_no j half batch = 2 * j.chains + (half * 64 + batch)

abbrev pub outer_no : Join → ℕ → ℕ
outer_no j batch = 2 * j.chains + (128 + batch)

-- the sizes in force, which stand in one word, so that one load reads them all
pub record SizesOf : Type 0 where
  pub half : ℕ
  pub buckets : ℕ
  pub batches : ℕ

abbrev pub sizes_of : ℕ → SizesOf
sizes_of w = record { half = w % 2; buckets = w / 256; batches = w / 2 % 128 }

abbrev pub size_word : SizesOf → ℕ
size_word z = z.buckets * 256 + (z.batches * 2 + z.half)

-- the words by what they are for
pub record Memory : Type 0 where
  pub sizes : ℕ
  pub inner_cursor : ℕ
  pub outer_cursor : ℕ
  pub distributor : ℕ
  pub results : ℕ
  pub batch_sizes : List ℕ
  pub heads : List ℕ
  pub nexts : List ℕ
  pub hashes : List ℕ

-- Seven words that no step names. So the next word is eight words from the one before it, and on another line of a cache
abbrev pub apart : List ℕ → List ℕ
apart words = 0 ∷ 0 ∷ 0 ∷ 0 ∷ 0 ∷ 0 ∷ 0 ∷ words

-- the words that all seats use, each on a line of its own. One word more, and what follows begins at a multiple of eight
abbrev pub hot : Memory → List ℕ → List ℕ
hot m words = apart (m.sizes ∷ apart (m.inner_cursor ∷ apart (m.outer_cursor ∷ apart (m.distributor ∷ apart (m.results ∷ apart (0 ∷ words))))))

-- the words in one row
abbrev pub flat : Memory → List ℕ
flat m = hot m (m.batch_sizes ++ (m.heads ++ (m.nexts ++ m.hashes)))

-- how long each stretch is: sizes of 64 batches in each half, heads, and two words for each row
pub record Laid (j : Join) (m : Memory) : Type 0 where
  pub batch_sizes : length m.batch_sizes ≡ 128
  pub heads : length m.heads ≡ heads j
  pub nexts : length m.nexts ≡ rows j
  pub hashes : length m.hashes ≡ rows j

-- where a word stands
abbrev pub place : Join → Word → ℕ
place j Sizes = 7
place j InnerCursor = 15
place j OuterCursor = 23
place j Distributor = 31
place j Results = 39
place j (BatchSize k) = 48 + k
place j (Head h) = 176 + h
place j (Next r) = 176 + heads j + r
place j (Hash r) = 176 + heads j + rows j + r

abbrev pub word_count : Join → ℕ
word_count j = 176 + heads j + rows j + rows j

-- the word is there
abbrev pub Inside : Join → Word → Type 0
Inside j (BatchSize k) = k < 128
Inside j (Head h) = h < heads j
Inside j (Next r) = r < rows j
Inside j (Hash r) = r < rows j
Inside j _ = 0 < 1

-- the word's value, and the memory with another value in it
abbrev pub read : Memory → Word → ℕ
read m Sizes = m.sizes
read m InnerCursor = m.inner_cursor
read m OuterCursor = m.outer_cursor
read m Distributor = m.distributor
read m Results = m.results
read m (BatchSize k) = get_or m.batch_sizes k 0
read m (Head h) = get_or m.heads h 0
read m (Next r) = get_or m.nexts r 0
read m (Hash r) = get_or m.hashes r 0

abbrev pub write : Memory → Word → ℕ → Memory
write m Sizes x = record m { sizes = x }
write m InnerCursor x = record m { inner_cursor = x }
write m OuterCursor x = record m { outer_cursor = x }
write m Distributor x = record m { distributor = x }
write m Results x = record m { results = x }
write m (BatchSize k) x = record m { batch_sizes = set m.batch_sizes k x }
write m (Head h) x = record m { heads = set m.heads h x }
write m (Next r) x = record m { nexts = set m.nexts r x }
write m (Hash r) x = record m { hashes = set m.hashes r x }

-- the sizes that the join begins with, and the opening words
abbrev pub first_sizes : Join → SizesOf
first_sizes j = record { half = 0; buckets = j.buckets; batches = 1 }

abbrev pub opens : Join → ℕ → ℕ
opens j at = cond (at == 7) (size_word (first_sizes j)) 0

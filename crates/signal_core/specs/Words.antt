-- The words of a table. First the number that is drawn next, and the header; then four words of each backend: its process word, its generation, its mask and its pending word.
use Rattle.std.specs.Prelude.{◌≡◌, ℕ, ◌+◌, ◌*◌, ◌%◌, ◌<◌, ◌==◌, cond, List, length, slice_index}
use Rattle.signal_core.specs.declared.view.About.{About}

abbrev pub header_at : ℕ
header_at = 1

abbrev pub pid_at : ℕ → ℕ
pid_at p = 4 * p + 2

abbrev pub gen_at : ℕ → ℕ
gen_at p = 4 * p + 3

abbrev pub mask_at : ℕ → ℕ
mask_at p = 4 * p + 4

abbrev pub pend_at : ℕ → ℕ
pend_at p = 4 * p + 5

abbrev pub word_count : About → ℕ
word_count z = 4 * z.procs + 2

-- the generation of a slot that isn't joined
abbrev pub gone : ℕ
gone = 0xffff_ffff_ffff_ffff

-- at this header nobody emits any more
abbrev pub worn : ℕ
worn = 0x4000_0000_0000_0000

-- the word i at the opening: the first number is given, the header is the opening generation, each slot has the generation `gone`, and all else is 0
abbrev pub opened : About → ℕ → ℕ
opened z i = cond (i == 0) 1 (cond (i == header_at) z.generation (cond (i % 4 == 3) gone 0))

abbrev pub Opens : About → List ℕ → Type 0
Opens z words = (length words ≡ word_count z) × ((i : ℕ) → i < word_count z → slice_index words i ≡ opened z i)

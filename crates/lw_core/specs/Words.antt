-- The words of the table: where each lies, and what a lock's state word says.
use Rattle.std.specs.Prelude.{◌≡◌, ℕ, ◌+◌, ◌-◌, ◌*◌, ◌/◌, ◌%◌, ◌<◌, ◌==◌, Bool, false, List, [], ◌∷◌, slice_index, ⊤}
use Rattle.arrayvec.specs.ArrayVec.{ArrayVec}
use Rattle.proc_table.specs.declared.Mode.{Mode}
use Rattle.proc_table.specs.declared.Mode.TheVariants.{Shared, Exclusive}
use Rattle.lw_core.specs.declared.view.Waiter.{Waiter}
use Rattle.lw_core.specs.declared.view.Size.{Size}

-- the lists of waiters, which lie in the slots
abbrev pub Waiters : Type 0
Waiters = ArrayVec Waiter

-- Word 0 is the number that is drawn next. Six words of each lock follow: its state, its variable and its four guarded words. Two words of each backend come last: whether it waits, and its semaphore
abbrev pub state_at : ℕ → ℕ
state_at l = 6 * l + 1

abbrev pub var_at : ℕ → ℕ
var_at l = 6 * l + 2

abbrev pub guard_at : ℕ → ℕ → ℕ
guard_at l k = 6 * l + 3 + k

abbrev pub waiting_at : Size → ℕ → ℕ
waiting_at z p = 1 + 6 * z.locks + 2 * p

abbrev pub sem_at : Size → ℕ → ℕ
sem_at z p = 2 + 6 * z.locks + 2 * p

abbrev pub word_count : Size → ℕ
word_count z = 1 + 6 * z.locks + 2 * z.procs

-- the four guarded words of a lock
abbrev pub guarded : List ℕ → ℕ → List ℕ
guarded words l = slice_index words (guard_at l 0) ∷ slice_index words (guard_at l 1) ∷ slice_index words (guard_at l 2) ∷ slice_index words (guard_at l 3) ∷ []

-- The lowest 24 bits of a state word count shared grants and bit 24 is the exclusive one: together they are the lock part. RELEASE_OK is bit 29
abbrev pub grant_of : Mode → ℕ
grant_of Shared = 1
grant_of Exclusive = 0x0100_0000

abbrev pub lock_part : ℕ → ℕ
lock_part word = word % 0x0200_0000

-- Three flags of a state word: somebody has the list in hand, a release may wake, and somebody waits
abbrev pub locked : ℕ
locked = 0x1000_0000

abbrev pub release_ok : ℕ
release_ok = 0x2000_0000

abbrev pub has_waiters : ℕ
has_waiters = 0x4000_0000

-- 1 where the flag is set
abbrev pub has_flag : ℕ → ℕ → ℕ
has_flag flag word = (word / flag) % 2

abbrev pub set_flag : ℕ → ℕ → ℕ
set_flag flag word = word + flag * (1 - has_flag flag word)

abbrev pub clear_flag : ℕ → ℕ → ℕ
clear_flag flag word = word - flag * has_flag flag word

-- a word is free for Exclusive where its lock part is 0, and for Shared where it has no exclusive grant
abbrev pub is_free : Mode → ℕ → Bool
is_free Shared word = (word / 0x0100_0000) % 2 == 0
is_free Exclusive word = lock_part word == 0

-- the word conflicts with the mode
abbrev pub Blocks : ℕ → Mode → Type 0
Blocks word m = is_free m word ≡ false

-- Exclusive conflicts with both modes, and Shared with Exclusive alone
abbrev pub Conflicts : Mode → Mode → Type 0
Conflicts Exclusive m = ⊤
Conflicts Shared Exclusive = ⊤
Conflicts Shared Shared = ⊥

-- the words at the start: the next number is 1, each state word has RELEASE_OK alone, and all else is 0
abbrev pub Opens : ℕ → List ℕ → Type 0
Opens locks words = (slice_index words 0 ≡ 1) × ((l : ℕ) → l < locks → slice_index words (state_at l) ≡ 0x2000_0000) × ((i : ℕ) → 0 < i → ((l : ℕ) → l < locks → i ≡ state_at l → ⊥) → slice_index words i ≡ 0)

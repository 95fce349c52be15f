-- The words of a table. First the number that is drawn next; then three words of each backend: its latch, whether it may sleep, and its wake byte; then the shutdown word, the spin words of conditions and of barriers, and the client's words.
use Rattle.std.specs.Prelude.{ℕ, zero, suc, ◌+◌, ◌*◌, List, [], ◌∷◌, ◌++◌, drop, replicate, slice_set}
use Rattle.wait_core.specs.declared.step.Spot.{Spot}
use Rattle.wait_core.specs.declared.step.Spot.TheVariants.{Cv, Bar}
use Rattle.wait_core.specs.declared.view.Size.{Size}

abbrev pub set_at : ℕ → ℕ
set_at p = 3 * p + 1

abbrev pub may_at : ℕ → ℕ
may_at p = 3 * p + 2

abbrev pub byte_at : ℕ → ℕ
byte_at p = 3 * p + 3

abbrev pub shut_at : Size → ℕ
shut_at z = 3 * z.procs + 1

-- What a spin word guards lies in the slot of its number: first the conditions' lists, and behind the most that a table has of them the barriers' records. So a seat knows by its place alone which slot it has out
abbrev pub most_conditions : ℕ
most_conditions = 160

abbrev pub slot_of : Spot → ℕ
slot_of (Cv c) = c
slot_of (Bar b) = most_conditions + b

abbrev pub slots_in : Size → ℕ
slots_in z = most_conditions + z.bars

abbrev pub spin_at : Size → ℕ → ℕ
spin_at z x = 3 * z.procs + 2 + x

abbrev pub client_base : Size → ℕ
client_base z = 3 * z.procs + 2 + slots_in z

abbrev pub client_words : Size → List ℕ → List ℕ
client_words z words = drop (client_base z) words

-- the phase that no barrier passes
abbrev pub last_phase : ℕ
last_phase = 4611686018427387904

-- each barrier's phase at the opening
abbrev pub opening_phases : Size → ℕ → List ℕ
opening_phases z phase = replicate z.bars phase

-- the first n numbers that f gives
abbrev pub opened : (ℕ → ℕ) → ℕ → List ℕ
opened f zero = []
opened f (suc n) = opened f n ++ f n ∷ []

-- the words at the opening: the first number is given, and all else of the machine is 0
abbrev pub opening_words : Size → (ℕ → ℕ) → ℕ → List ℕ
opening_words z f count = slice_set (replicate (client_base z) 0) 0 1 ++ opened f count

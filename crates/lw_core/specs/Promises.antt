-- The statements of the laws over states and over runs.
use Rattle.std.specs.Prelude.{◌≡◌, ℕ, ◌<◌, List, [], length, Some, IsSome}
use mathlib.Core.Option as maybe
use lib.ListN.{get_elem?}
use Rattle.atomic_table.specs.Table.{opening}
use Rattle.proc_table.specs.declared.Mode.{Mode}
use Rattle.proc_table.specs.declared.Mode.TheVariants.{Shared, Exclusive}
use Rattle.lw_core.specs.declared.step.LwStep.{LwStep}
use Rattle.lw_core.specs.declared.view.View.{View}
use Rattle.lw_core.specs.declared.view.Size.{Size}
use Rattle.lw_core.specs.Words.{Waiters, word_count, guarded, Conflicts, Opens}
use Rattle.lw_core.specs.Machine.{LwState, HoldsNothing, mode_in, fresh}
use Rattle.lw_core.specs.WaitLists.{AllEmpty}
use Rattle.lw_core.specs.Rule.{Rule}
use Rattle.lw_core.specs.Runs.{Steps, Event, Turns, Run}

-- a state that meets the rule, and one step of any kind or one move, give a state that meets the part
abbrev pub KeptByEach : (ℕ → List ℕ → Type 0) → Size → (LwState → Type 0) → Type 0
KeptByEach lawful z Part = (s t : LwState) (e : Event) → Rule lawful z s → Turns lawful z s e t → Part t

-- the state of a new table: the opening words, lists on which nobody is, and seat 0
abbrev pub IsOpening : Size → LwState → Type 0
IsOpening z s = (words : List ℕ) × (lists : List Waiters) × (length words ≡ word_count z) × Opens z.locks words × (length lists ≡ z.locks) × AllEmpty lists × (s ≡ opening {S = Waiters} words lists (fresh (Some 0)))

-- each state that a run from a new table reaches, by steps of any seats and moves in any order, is so
abbrev pub HoldsInRuns : (ℕ → List ℕ → Type 0) → Size → (LwState → Type 0) → Type 0
HoldsInRuns lawful z IsSo = (s t : LwState) (events : List Event) → IsOpening z s → Run lawful z s events t → IsSo t

-- a seat that is in a call has a step that its place allows
abbrev pub EachCallGoesOn : (ℕ → List ℕ → Type 0) → Size → LwState → Type 0
EachCallGoesOn lawful z s = (id : ℕ) (v : View) → get_elem? s.views id ≡ maybe.some v → (v.place ≡ [] → ⊥) → (k : LwStep) × (t : LwState) × Steps lawful z s id k t

-- no two backends hold one lock in conflicting modes
abbrev pub HoldersAgree : Size → LwState → Type 0
HoldersAgree z s = (l i j : ℕ) (v u : View) (m n : Mode) → l < z.locks → (j ≡ i → ⊥) → get_elem? s.views i ≡ maybe.some v → get_elem? s.views j ≡ maybe.some u
    → mode_in l v ≡ Some m → mode_in l u ≡ Some n → Conflicts m n → ⊥

-- the four words of a lock that nobody holds exclusively are lawful
abbrev pub UnheldAreLawful : (ℕ → List ℕ → Type 0) → Size → LwState → Type 0
UnheldAreLawful lawful z s = (l : ℕ) → l < z.locks → ((i : ℕ) (v : View) → get_elem? s.views i ≡ maybe.some v → mode_in l v ≡ Some Exclusive → ⊥) → lawful l (guarded s.words l)

-- seat 0, once it has taken over every number that it drew, is the only seat that holds a lock
abbrev pub LastHoldsAlone : LwState → Type 0
LastHoldsAlone s = (i j : ℕ) (v u : View) → (j ≡ i → ⊥) → get_elem? s.views i ≡ maybe.some v → get_elem? s.views j ≡ maybe.some u → v.own ≡ Some 0 → length v.taken ≡ v.drawn → HoldsNothing u

-- while a seat holds a lock, no step of another changes its words; and none at all where it is held Shared
abbrev pub WordsStand : (ℕ → List ℕ → Type 0) → Size → Type 0
WordsStand lawful z = (s t : LwState) (id holder l : ℕ) (k : LwStep) (v : View) → Rule lawful z s → Steps lawful z s id k t → l < z.locks → get_elem? s.views holder ≡ maybe.some v
    → IsSome (mode_in l v) → (id ≡ holder → mode_in l v ≡ Some Shared) → guarded t.words l ≡ guarded s.words l

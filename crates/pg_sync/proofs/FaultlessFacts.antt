-- Where nothing can fail, nothing does.
use Rattle.std.proofs.Common.{◌≡◌, ℕ, ◌++◌, List, length, take, Option, Some, None, refl, arith}
use Rattle.std.proofs.lemmas.List.{length-append, length-take}
use Rattle.csv_tables.specs.Appending.{AppendsPart, IsFull}
use Rattle.pg_sync.specs.declared.status.Status.{Status}
use Rattle.pg_sync.specs.declared.status.Status.TheVariants as status
use Rattle.pg_sync.specs.Answer.{AllIsThere, Counts, CountsShow, HasRoom, Leaves, NoInputFailed, NoneFailed}
use Rattle.std.specs.Prelude.{IsSome, IfSome}

-- a sink with room for a text that took a proper front of it isn't full
has_room : (taken taken' : Option (List ℕ)) (capacity : Option ℕ) (text : Option (List ℕ)) → HasRoom taken capacity text
    → IfSome text (λ t. AppendsPart taken taken' t) → IsFull taken' capacity → ⊥
has_room (Some a) (Some b) (Some m) (Some t) room part full =
    let n = part.0 in
    let fewer = part.1 in
    let size = length-append a (take n t) in
    let few = length-take n t in
    let all : length b ≡ length (a ++ take n t) = rw part.2 refl in
    omega arith
has_room (Some a) None (Some m) (Some t) room part full = part.2
has_room None b c t room part full = room
has_room (Some a) b None t room part full = room
has_room (Some a) b (Some m) None room part full = room

pub faultless : (steady : Type 0) (inner outer taken taken' : Option (List ℕ)) (capacity capacity' : Option ℕ) (text : Option (List ℕ)) (before now : Counts) (faults faults' : ℕ) (result : Status)
    → (steady → IsSome inner → IsSome outer → NoInputFailed result) → capacity' ≡ capacity → (result ≡ status.WriteFault → IsFull taken' capacity')
    → Leaves taken taken' text result → CountsShow before now faults faults' result
    → AllIsThere steady inner outer taken capacity text → NoneFailed before now faults faults'
faultless p i o a b c d t x y f g status.Done calm same full leaves counts there = counts
faultless p i o a b c d t x y f g status.Words calm same full leaves counts there = absurd counts
faultless p i o a b c d t x y f g (status.OpenFault s) calm same full leaves counts there = absurd (calm there.steady there.inner there.outer)
faultless p i o a b c d t x y f g (status.ReadFault s) calm same full leaves counts there = absurd (calm there.steady there.inner there.outer)
faultless p i o a b c d t x y f g (status.TooLong s) calm same full leaves counts there = counts
faultless p i o a b c d t x y f g (status.BadInput s k) calm same full leaves counts there = counts
faultless p i o a b c d t x y f g status.TooManyResults calm same full leaves counts there = counts
faultless p i o a b c d t x y f g status.WriteFault calm same full leaves counts there = absurd (has_room a b c t there.room leaves (rw same at (full refl)))
faultless p i o a b c d t x y f g status.NoMemory calm same full leaves counts there = counts
faultless p i o a b c d t x y f g (status.BadScript n) calm same full leaves counts there = counts

-- What the calls do to the view of the seat that makes them.
use Rattle.std.specs.Prelude.{◌≡◌, ℕ, ◌+◌, ◌≤◌, Bool, true, false, List, [], ◌∷◌, ◌++◌, Some, count_by}
use Rattle.lw_core.specs.declared.step.Call.TheVariants as call
use Rattle.lw_core.specs.declared.step.LwStep.{LwStep}
use Rattle.lw_core.specs.declared.step.LwStep.TheVariants as kind
use Rattle.lw_core.specs.declared.view.Made.{Made}
use Rattle.lw_core.specs.declared.view.View.{View}
use Rattle.lw_core.specs.Machine.{outer, made, downed_at}

-- The count fell by one: the last step found n, which isn't 0, and left n - 1. The seat stands where it goes on behind the semaphore, and a `down` that is no part of a sleep counts among those that ended; nothing else is different
abbrev pub CountFell : View → View → Type 0
CountFell v w = (more : List Made) × ((n : ℕ) × ((1 ≤ n) × (w ≡ record v { place = outer v.place; steps = v.steps ++ (more ++ made kind.Down n ∷ []); downed = downed_at (outer v.place) v.own v.downed })))

-- one more poke, of the backend q; nothing else is different but that the step was made
abbrev pub Poked : ℕ → View → View → Type 0
Poked q v w = (n : ℕ) × (w ≡ record v { steps = v.steps ++ made (kind.Post q (Some (call.Poke q))) n ∷ []; pokes = v.pokes + 1; poked = v.poked ++ q ∷ [] })

abbrev pub is_store : LwStep → Bool
is_store (kind.WaitStore q x) = true
is_store k = false

-- how many of these steps stored in a waiting field
abbrev pub stores : List Made → ℕ
stores made = count_by (λ m. is_store m.step) made

-- none of the steps made since the first view stored in a waiting field
abbrev pub StoresNone : View → View → Type 0
StoresNone v w = stores w.steps ≡ stores v.steps

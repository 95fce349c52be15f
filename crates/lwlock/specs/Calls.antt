-- What the calls do to the view of the seat that makes them.
use Rattle.std.specs.Prelude.{◌≡◌, ℕ, ◌+◌, List, [], ◌∷◌, ◌++◌, slice_set, ⊤}
use Rattle.proc_table.specs.declared.Mode.{Mode}
use Rattle.lw_core.specs.declared.step.LwStep.{LwStep}
use Rattle.lw_core.specs.declared.step.LwStep.TheVariants.{Refuse, WaitLoad, WaitStore}
use Rattle.lw_core.specs.declared.view.Frame.TheVariants.{Looking, Sleeping}
use Rattle.lw_core.specs.declared.view.Made.{Made}
use Rattle.lw_core.specs.declared.view.View.{View}
use Rattle.lw_core.specs.Machine.{Place, held, made, not_held}
use Rattle.lw_core.specs.Words.{Blocks}
use Rattle.semaphore.specs.Calls.{stores}

-- after some steps more the seat stands at the place p; nothing else is different
abbrev pub went : View → Place → List Made → View
went v p more = record v { place = p; steps = v.steps ++ more }

abbrev pub Went : Place → View → View → Type 0
Went p v w = (more : List Made) × (w ≡ went v p more)

-- the same, but that the seat has this many wakes to give back
abbrev pub WentWith : Place → ℕ → View → View → Type 0
WentWith p surplus v w = (more : List Made) × (w ≡ record v { place = p; steps = v.steps ++ more; surplus = surplus })

-- after some steps more the seat stands at the place p and holds the lock in the mode, with one grant more, no word known and none written; nothing else is different
abbrev pub Granted : ℕ → Mode → Place → View → View → Type 0
Granted l m p v w = (more : List Made) × (w ≡ record v { place = p; steps = v.steps ++ more; holds = slice_set v.holds l (held m); grants = v.grants + 1 })

-- The last step of the call found the word, which conflicts with the mode. Nothing is held that wasn't
abbrev pub Refused : ℕ → Mode → ℕ → Place → View → View → Type 0
Refused l m word p v w = Blocks word m × ((more : List Made) × (w ≡ went v p (more ++ made (Refuse l m word) word ∷ [])))

-- the same as Granted, in no call any more, after some sleeps; each wake that wasn't for the seat was given back
abbrev pub Acquires : ℕ → Mode → ℕ → View → View → Type 0
Acquires l m sleeps v w = (more : List Made) × (w ≡ record v { place = []; steps = v.steps ++ more; holds = slice_set v.holds l (held m); grants = v.grants + 1; waits = v.waits + sleeps; surplus = 0 })

-- one step made since the first view was the step k, and found the word
abbrev pub FoundInCall : View → View → LwStep → ℕ → Type 0
FoundInCall v w k word = (before : List Made) × ((since : List Made) × (w.steps ≡ v.steps ++ (before ++ (made k word ∷ since))))

-- a word that conflicts with the mode was found in the call, and refused
abbrev pub RefusedInCall : ℕ → Mode → View → View → Type 0
RefusedInCall l m v w = (word : ℕ) × (Blocks word m × FoundInCall v w (Refuse l m word) word)

-- Since the first view the backend stored 1 in its own waiting field; the steps made after that stored in no waiting field
abbrev pub Announced : ℕ → View → View → Type 0
Announced own v w = (found : ℕ) × ((before : List Made) × ((since : List Made) × ((w.steps ≡ v.steps ++ (before ++ (made (WaitStore own 1) found ∷ since))) × (stores since ≡ 0))))

-- the last step of the call found 0 in the waiting field
abbrev pub FoundClear : View → View → Type 0
FoundClear v w = (more : List Made) × (w.steps ≡ v.steps ++ (more ++ made WaitLoad 0 ∷ []))

-- The call stored 1 in the own waiting field; later it refused the word; and later it found 0 in the field. None of its steps in between stored in a waiting field: somebody else cleared it, who took the backend off the list
pub record FreedInCall (own lock : ℕ) (mode : Mode) (word : ℕ) (v w : View) : Type 0 where
  pub found : ℕ
  pub before : List Made
  pub listed : List Made
  pub asleep : List Made
  pub since : List Made
  pub steps : w.steps ≡ v.steps ++ (before ++ (made (WaitStore own 1) found ∷ (listed ++ (made (Refuse lock mode word) word ∷ (asleep ++ (made WaitLoad 0 ∷ since))))))
  pub listed_on : stores listed ≡ 0
  pub asleep_on : stores asleep ≡ 0

-- after some steps more the lock isn't held any more, and the seat is in no call; nothing else is different
abbrev pub Released : ℕ → View → View → Type 0
Released l v w = (more : List Made) × (w ≡ record v { place = []; steps = v.steps ++ more; holds = slice_set v.holds l not_held })

-- the seat is to sleep
abbrev pub IsSleep : Place → Type 0
IsSleep (Looking ∷ Sleeping l w answered ∷ p) = ⊤
IsSleep p = ⊥

-- What a wake does with the list that it found.
use Rattle.std.specs.Prelude.{◌≡◌, ℕ, ◌-◌, Bool, true, false, cond, not, count_by, List, [], ◌∷◌, ◌++◌, Option, None, Some}
use Rattle.proc_table.specs.declared.Mode.{Mode}
use Rattle.lw_core.specs.declared.step.Call.{Call}
use Rattle.lw_core.specs.declared.step.LwStep.{LwStep}
use Rattle.lw_core.specs.declared.step.LwStep.TheVariants.{Load, Lock, Sub, WaitStore, Wake, Post}
use Rattle.lw_core.specs.declared.view.Frame.{Frame}
use Rattle.lw_core.specs.declared.view.Frame.TheVariants.{TakingList, Waking, Calling, Marking}
use Rattle.lw_core.specs.declared.view.Made.{Made}
use Rattle.lw_core.specs.declared.view.View.{View}
use Rattle.lw_core.specs.declared.view.Waiter.{Waiter}
use Rattle.lw_core.specs.WaitLists.{taken_from, kept_from}
use Rattle.lw_core.specs.Words.{grant_of, locked, release_ok, has_waiters, has_flag, set_flag, clear_flag}
use Rattle.lw_core.specs.Machine.{Place, calls_for_wake, made, made_with, mode_in, woken_word}
use Rattle.lw_core.specs.Stances.{hand_at, hand_list}

-- the list in hand as it was found, as the place knows it
abbrev pub found_at : Place → List Waiter
found_at p = hand_list (hand_at p)

-- who marks waiters of the list in hand updates the lock's variable; else it wakes after a release
abbrev pub is_calling : Place → Bool
is_calling (Calling l found marked rest ∷ p) = true
is_calling p = false

-- the release before a wake came after a store of the lock's variable
abbrev pub updated_at : Place → Bool
updated_at (TakingList l ∷ Waking k updated ∷ p) = updated
updated_at (Marking l updated found marked rest ∷ p) = updated
updated_at p = false

-- some of those who are taken off the list in hand are marked, and the rest is to be
abbrev pub marking : Bool → ℕ → Bool → List Waiter → List Waiter → List Waiter → Frame
marking true l updated found marked rest = Calling l found marked rest
marking false l updated found marked rest = Marking l updated found marked rest

-- the state word after a wake that took somebody who wants the lock, or nobody who does: it is answered for, or the next release may wake
abbrev pub answered_to : ℕ → Bool → ℕ
answered_to w locker = cond locker (clear_flag release_ok (clear_flag locked w)) (set_flag release_ok (clear_flag locked w))

-- the same, where the wake left nobody or somebody
abbrev pub woken_to : ℕ → Bool → Bool → ℕ
woken_to w locker none = cond none (clear_flag has_waiters (answered_to w locker)) (answered_to w locker)

-- the steps, whatever they found
abbrev pub kinds : List Made → List LwStep
kinds [] = []
kinds (m ∷ ms) = m.step ∷ kinds ms

-- each of these is marked in turn: its wake is coming
abbrev pub marked_by : List Waiter → List LwStep
marked_by [] = []
marked_by (u ∷ us) = WaitStore u.proc 2 ∷ marked_by us

-- each of these is told in turn: it doesn't wait any more, and its semaphore is raised
abbrev pub told_by : List Waiter → List LwStep
told_by [] = []
told_by (u ∷ us) = WaitStore u.proc 0 ∷ Post u.proc None ∷ told_by us

-- after some steps more the seat stands at the place p, and these are their kinds; nothing else is different
abbrev pub WentBy : List LwStep → Place → View → View → Type 0
WentBy steps p v w = (more : List Made) × ((w ≡ record v { place = p; steps = v.steps ++ more }) × (kinds more ≡ steps))

-- a step by which a list is taken in hand, and one of the exchange of a wake: the state word is loaded, or is another one than was expected
abbrev pub takes_in_hand : LwStep → Bool
takes_in_hand (Load l begins) = true
takes_in_hand (Lock l begins) = true
takes_in_hand k = false

abbrev pub seeks_word : LwStep → Bool
seeks_word (Load l begins) = true
seeks_word (Wake l word to) = true
seeks_word k = false

-- the steps made since the first view took a list in hand, and did nothing else
abbrev pub OnlyTook : View → View → Type 0
OnlyTook v w = count_by (λ m. not (takes_in_hand m.step)) w.steps ≡ count_by (λ m. not (takes_in_hand m.step)) v.steps

-- all of the steps serve to take a list in hand, or seek the state word
abbrev pub AllTake : List Made → Type 0
AllTake made = count_by (λ m. not (takes_in_hand m.step)) made ≡ 0

abbrev pub AllSeek : List Made → Type 0
AllSeek made = count_by (λ m. not (seeks_word m.step)) made ≡ 0

-- the last of these steps found LOCKED clear, and took this list of the lock in hand
pub record TakesLast (l : ℕ) (found : List Waiter) (steps : List Made) : Type 0 where
  pub word : ℕ
  pub clear : has_flag locked word ≡ 0
  pub begins : Option Call
  pub before : List Made
  pub split : steps ≡ before ++ made_with (Lock l begins) word found ∷ []

-- the last step made since the first view took it
pub record TookList (l : ℕ) (found : List Waiter) (v w : View) : Type 0 where
  pub more : List Made
  pub steps : w.steps ≡ v.steps ++ more
  pub last : TakesLast l found more

-- the steps made since the first view exchanged the state word, as the last one found it, for the one after a wake of this list, and sent home whom the wake leaves on it
pub record Exchanged (l : ℕ) (found : List Waiter) (v w : View) : Type 0 where
  pub word : ℕ
  pub seeking : List Made
  pub steps : w.steps ≡ v.steps ++ (seeking ++ made_with (Wake l word (woken_word (taken_from found) (kept_from found) word)) word (kept_from found) ∷ [])
  pub only_sought : AllSeek seeking

-- The steps of a wake: the list is taken in hand, each whom the wake takes off it is marked, the state word is exchanged, by which the others go home in their order, and then each of them is told
pub record WakeSteps (l : ℕ) (steps : List Made) : Type 0 where
  pub found : List Waiter
  pub word : ℕ
  pub taking : List Made
  pub marks : List Made
  pub seeking : List Made
  pub since : List Made
  pub split : steps ≡ taking ++ (marks ++ (seeking ++ (made_with (Wake l word (woken_word (taken_from found) (kept_from found) word)) word (kept_from found) ∷ since)))
  pub taken : TakesLast l found taking
  pub only_took : AllTake taking
  pub marked : kinds marks ≡ marked_by (taken_from found)
  pub only_sought : AllSeek seeking
  pub told : kinds since ≡ told_by (taken_from found)

abbrev pub Wakes : ℕ → View → View → Type 0
Wakes l v w = (more : List Made) × ((w.steps ≡ v.steps ++ more) × WakeSteps l more)

-- where a wake is called for these are its steps, and else there are none
abbrev pub WakesIf : Bool → ℕ → List Made → Type 0
WakesIf true l more = WakeSteps l more
WakesIf false l more = more ≡ []

-- the release, which begins a call or is the last part of one, found the word, and a wake followed where the word that it left calls for one
abbrev pub WakesRightly : ℕ → Option Call → View → View → Type 0
WakesRightly l begins v w = (m : Mode) × (word : ℕ) × (more : List Made) × (mode_in l v ≡ Some m) × (w.steps ≡ v.steps ++ (made (Sub l m begins) word ∷ more)) × WakesIf (calls_for_wake (word - grant_of m)) l more

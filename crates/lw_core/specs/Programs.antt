-- Which step begins a call, and what it means that the steps of a seat are those of one call.
use Rattle.std.specs.Prelude.{◌≡◌, ℕ, Bool, true, List, ◌∷◌, ◌++◌, Option, None, Some, count_by, is_some}
use Rattle.lw_core.specs.declared.step.Call.{Call}
use Rattle.lw_core.specs.declared.step.LwStep.{LwStep}
use Rattle.lw_core.specs.declared.step.LwStep.TheVariants.{Load, Sub, Peek, Guard, Lock, Post, Look}
use Rattle.lw_core.specs.declared.view.Made.{Made}
use Rattle.lw_core.specs.declared.view.View.{View}

-- the call that begins with the step
abbrev pub begun_by : LwStep → Option Call
begun_by (Load l begins) = begins
begun_by (Sub l m begins) = begins
begun_by (Peek l begins) = begins
begun_by (Lock l begins) = begins
begun_by (Post q begins) = begins
begun_by (Look begins) = begins
begun_by k = None

-- it begins a call, or is one of its own: a guarded word that is read or written
abbrev pub begins_call : LwStep → Bool
begins_call (Guard l k o) = true
begins_call k = is_some (begun_by k)

-- how many of these steps do
abbrev pub calls : List Made → ℕ
calls made = count_by (λ m. begins_call m.step) made

-- none of the steps made since the first view begins a call
abbrev pub BeginsNone : View → View → Type 0
BeginsNone v w = calls w.steps ≡ calls v.steps

-- The steps made since the first view are those of the call c: the first of them begins it, and no other begins a call
pub record Makes (c : Call) (v w : View) : Type 0 where
  pub first : Made
  pub then : List Made
  pub steps : w.steps ≡ v.steps ++ (first ∷ then)
  pub begins : begun_by first.step ≡ Some c
  pub only : calls then ≡ 0

-- the same of a part of a program that may be the first one of a call
abbrev pub MakesFrom : Option Call → View → View → Type 0
MakesFrom None v w = BeginsNone v w
MakesFrom (Some c) v w = Makes c v w

-- How a look at a lock and its variable goes, and what was found in a call. Those who wait until a lock is free are the table's.
use Rattle.std.proofs.Common.{◌≡◌, ℕ, eqb, true, false, cond, List, [], ◌∷◌, ◌++◌, Option, None, Some, ap, ◌∙◌, append_assoc}
use Rattle.proc_table.specs.declared.Mode.TheVariants.{Shared}
use Rattle.lw_core.specs.declared.step.Call.{Call}
use Rattle.lw_core.specs.declared.step.Call.TheVariants.{WaitForVar}
use Rattle.lw_core.specs.declared.step.LwStep.TheVariants.{Peek, Unlock, VarLoad}
use Rattle.lw_core.specs.declared.view.Frame.TheVariants.{Comparing, Returning, TakingList, VarUnqueued}
use Rattle.lw_core.specs.declared.view.Made.{Made}
use Rattle.lw_core.specs.declared.view.View.{View}
use Rattle.lw_core.specs.declared.view.Waiter.{Waiter}
use Rattle.lw_core.specs.Machine.{compared, in_hand, left_at, made, made_with, next, number_of, on_conflict, on_outcome, outer, peeked, sent_home}
use Rattle.lw_core.specs.Words.{is_free}
use Rattle.lwlock.specs.Calls.{FoundInCall, went}
use Rattle.lwlock.proofs.Later.{found_before, found_since}
use Rattle.lwlock_variable.specs.declared.VarWait.{VarWait}
use Rattle.lwlock_variable.specs.declared.VarWait.TheVariants.{Free, Changed}
use Rattle.lwlock_variable.specs.Waits.{BeginsComparing, WaitEnds, OnChanged, OnFree, behind}

-- where the lock has an exclusive holder the variable is to be read
to_read : (l old n : ℕ) (b : Option Call) (v : View) → BeginsComparing l old b v → is_free Shared n ≡ false → peeked b v.surplus n v.place ≡ TakingList l ∷ Comparing l old ∷ behind b v.place
to_read l old n (Some (WaitForVar k older)) v may held = (λ i. cond (held i) v.place (TakingList k ∷ Comparing k older ∷ VarUnqueued k older ∷ v.place)) ∙ (λ i. TakingList (may.0 i) ∷ Comparing (may.0 i) (may.1 i) ∷ VarUnqueued k older ∷ v.place)
to_read l old n (Some c) v may held = absurd may
to_read l old n None v may held = ap (peeked None v.surplus n) may ∙ (λ i. cond (held i) (on_outcome false v.surplus (outer v.place)) (TakingList l ∷ Comparing l old ∷ outer v.place))

in_order : (v more : List Made) (x y z : Made) → (((v ++ x ∷ []) ++ more) ++ y ∷ []) ++ z ∷ [] ≡ v ++ (x ∷ (more ++ (y ∷ z ∷ [])))
in_order v more x y z = simp append_assoc

-- the variable was read, and the list is to go home as it was found
pub to_return : (l old n m : ℕ) (b : Option Call) (x y found : List Waiter) (more : List Made) (v a u d : View) → BeginsComparing l old b v → is_free Shared n ≡ false → a ≡ next (Peek l b) v n x → u ≡ went a (in_hand found (outer a.place)) more → d ≡ next (VarLoad l) u m y
    → d.place ≡ Returning l old found m ∷ behind b v.place
to_return l old n m b x y found more v a u d may held looked taken read =
    ap (λ (s : View). s.place) read ∙ (ap (λ (s : View). compared m s.place) taken ∙ (ap (λ (s : View). compared m (in_hand found (outer s.place))) looked ∙ (λ i. compared m (in_hand found (outer (to_read l old n b v may held i))))))

-- the look, the list in hand, the variable read and the list at home again
pub compares : (l old n m o : ℕ) (b : Option Call) (x y z found : List Waiter) (more : List Made) (v a u d w : View) → BeginsComparing l old b v → is_free Shared n ≡ false → a ≡ next (Peek l b) v n x → u ≡ went a (in_hand found (outer a.place)) more
    → d ≡ next (VarLoad l) u m y → w ≡ next (Unlock l false) d o z
    → w ≡ went v (cond (eqb m old) (on_conflict (behind b v.place)) (on_outcome true v.surplus (behind b v.place))) (made (Peek l b) n ∷ (more ++ (made (VarLoad l) m ∷ made_with (Unlock l false) o found ∷ [])))
compares l old n m o b x y z found more v a u d w may held looked taken read home =
    let last : View → View = λ (s : View). next (Unlock l false) s o z in let both : View → View = λ (s : View). last (next (VarLoad l) s m y) in let all : View → View = λ (s : View). both (went s (in_hand found (outer s.place)) more) in
    home ∙ (ap last read ∙ (ap both taken ∙ (ap all looked
    ∙ (λ i. record v { place = sent_home v.surplus (compared m (in_hand found (outer (to_read l old n b v may held i)))); steps = in_order v.steps more (made (Peek l b) n) (made (VarLoad l) m) (made_with (Unlock l false) o (left_at (compared m (in_hand found (outer (to_read l old n b v may held i)))) (number_of v.own))) i }))))

-- what was found in a part of a call was found in the call
pub ends_before : (l old : ℕ) (a : VarWait) (v u w : View) → WaitEnds l old a u w → (more : List Made) → u.steps ≡ v.steps ++ more → WaitEnds l old a v w
ends_before l old (Free seen) v u w ends more e = (ends.0, (ends.1.0, found_before v u w (Peek l ends.1.0) seen ends.1.1 more e))
ends_before l old (Changed value) v u w ends more e = (ends.0, found_before v u w (VarLoad l) value ends.1 more e)

-- and where it went on after that part
pub ends_within : (l old : ℕ) (a : VarWait) (v u w x : View) → WaitEnds l old a u w → (first last : List Made) → u.steps ≡ v.steps ++ first → x.steps ≡ w.steps ++ last → WaitEnds l old a v x
ends_within l old (Free seen) v u w x ends first last began ended = (ends.0, (ends.1.0, found_since v w x (Peek l ends.1.0) seen (found_before v u w (Peek l ends.1.0) seen ends.1.1 first began) last ended))
ends_within l old (Changed value) v u w x ends first last began ended = (ends.0, found_since v w x (VarLoad l) value (found_before v u w (VarLoad l) value ends.1 first began) last ended)

pub was_looked_at : (l old : ℕ) (a : VarWait) (v w : View) → WaitEnds l old a v w → OnFree a (λ seen. (begins : Option Call) × FoundInCall v w (Peek l begins) seen)
was_looked_at l old (Free seen) v w ends = ends.1
was_looked_at l old (Changed value) v w ends = tt

pub was_read : (l old : ℕ) (a : VarWait) (v w : View) → WaitEnds l old a v w → OnChanged a (λ value. FoundInCall v w (VarLoad l) value)
was_read l old (Free seen) v w ends = tt
was_read l old (Changed value) v w ends = ends.1

-- A wake's exchange and what follows it.
use Rattle.std.proofs.Common.{◌≡◌, ℕ, Bool, true, false, List, [], ◌∷◌, ◌++◌, None, refl, ap, ◌∙◌, append_assoc}
use Rattle.lw_core.specs.declared.step.LwStep.{LwStep}
use Rattle.lw_core.specs.declared.step.LwStep.TheVariants.{WaitStore, Post}
use Rattle.lw_core.specs.declared.view.Made.{Made}
use Rattle.lw_core.specs.declared.view.View.{View}
use Rattle.lw_core.specs.declared.view.Waiter.{Waiter}
use Rattle.lw_core.specs.Machine.{Place, made, next, stored, telling}
use Rattle.lwlock.specs.Calls.{went}
use Rattle.lwlock.specs.Wakes.{found_at, kinds, marked_by, marking, told_by}

pub kinds_append : (xs ys : List Made) → kinds (xs ++ ys) ≡ kinds xs ++ kinds ys
kinds_append [] ys = refl
kinds_append (x ∷ xs) ys = ap (λ (ks : List LwStep). x.step ∷ ks) (kinds_append xs ys)

-- these are still to be told; with those who were it makes all
abbrev pub ToldUpTo : List Waiter → List LwStep → View → View → Type 0
ToldUpTo us all v w = (more : List Made) × ((w ≡ went v (telling us []) more) × (kinds more ++ told_by us ≡ all))

-- one more was told
pub told_one : (n o : ℕ) (u : Waiter) (us found other : List Waiter) (all : List LwStep) (v a b w : View) → ToldUpTo (u ∷ us) all v a → b ≡ next (WaitStore u.proc 0) a n found → w ≡ next (Post u.proc None) b o other → ToldUpTo us all v w
told_one n o u us found other all v a b w told cleared posted =
    let p = u.proc in let two : List Made = made (WaitStore p 0) n ∷ made (Post p None) o ∷ [] in (
      told.0 ++ two,
      (
        posted
            ∙ (ap (λ (x : View). next (Post p None) x o other) (cleared ∙ ap (λ (x : View). next (WaitStore p 0) x n found) told.1.0)
            ∙ (λ i. record v { place = telling us []; steps = (append_assoc (v.steps ++ told.0) (made (WaitStore p 0) n ∷ []) (made (Post p None) o ∷ []) ∙ append_assoc v.steps told.0 two) i })),
        ap (λ (ks : List LwStep). ks ++ told_by us) (kinds_append told.0 two) ∙ (append_assoc (kinds told.0) (kinds two) (told_by us) ∙ told.1.1),
      ),
    )

-- these are still to be marked; with those who were it makes all
abbrev pub MarkedUpTo : Bool → ℕ → Bool → List Waiter → List Waiter → List Waiter → List LwStep → View → View → Type 0
MarkedUpTo updates l updated found marked us all v w = (more : List Made) × ((w ≡ went v (marking updates l updated found marked us ∷ []) more) × (kinds more ++ marked_by us ≡ all))

marks_next : (updates : Bool) (l surplus : ℕ) (updated : Bool) (found marked us : List Waiter) (u : Waiter) → stored surplus (marking updates l updated found marked (u ∷ us) ∷ []) ≡ marking updates l updated found (marked ++ u ∷ []) us ∷ []
marks_next true l surplus updated found marked us u = refl
marks_next false l surplus updated found marked us u = refl

-- one more was marked
pub marked_one : (updates : Bool) (l n : ℕ) (updated : Bool) (found marked us other : List Waiter) (u : Waiter) (all : List LwStep) (v a w : View) → MarkedUpTo updates l updated found marked (u ∷ us) all v a → w ≡ next (WaitStore u.proc 2) a n other
    → MarkedUpTo updates l updated found (marked ++ u ∷ []) us all v w
marked_one updates l n updated found marked us other u all v a w done is =
    let one : List Made = made (WaitStore u.proc 2) n ∷ [] in (
      done.0 ++ one,
      (
        is ∙ (ap (λ (x : View). next (WaitStore u.proc 2) x n other) done.1.0 ∙ (λ i. record v { place = marks_next updates l v.surplus updated found marked us u i; steps = append_assoc v.steps done.0 one i })),
        ap (λ (ks : List LwStep). ks ++ marked_by us) (kinds_append done.0 one) ∙ (append_assoc (kinds done.0) (kinds one) (marked_by us) ∙ done.1.1),
      ),
    )

-- those who are marked are on the list that was found
pub marks_found : (b : Bool) (l : ℕ) (updated : Bool) (found marked rest : List Waiter) (p : Place) → found_at (marking b l updated found marked rest ∷ p) ≡ found
marks_found true l updated found marked rest p = refl
marks_found false l updated found marked rest p = refl

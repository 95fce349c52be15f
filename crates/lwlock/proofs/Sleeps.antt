-- One turn of a sleep, and how a backend that is still on a list leaves it.
use Rattle.std.proofs.Common.{◌≡◌, ◌≢◌, ℕ, ◌+◌, eqb, Bool, cond, List, [], ◌∷◌, ◌++◌, None, sym, ap, ◌∙◌, append_assoc, eq-eqb, ne_eqb}
use Rattle.lw_core.specs.declared.step.LwStep.TheVariants.{Down, SetReleaseOk, Unlock, WaitLoad, WaitStore}
use Rattle.lw_core.specs.declared.view.Frame.TheVariants.{Dequeueing, Looking, Removing, Sleeping, TakingList}
use Rattle.lw_core.specs.declared.view.Made.{Made}
use Rattle.lw_core.specs.declared.view.View.{View}
use Rattle.lw_core.specs.declared.view.Waiter.{Waiter}
use Rattle.lw_core.specs.declared.view.Want.{Want}
use Rattle.lw_core.specs.Machine.{Place, answered, downed_at, in_hand, left_at, made, made_with, next, number_of, outer, resumed, sent_home, stored, taking, waits_after}
use Rattle.lw_core.specs.WaitLists.{without}
use Rattle.lwlock.specs.Calls.{IsSleep, went}

-- SLEEPS. The semaphore was taken down, and the own waiting field read
in_order : (v more down : List Made) (x y : Made) → (((v ++ more) ++ (down ++ x ∷ [])) ++ y ∷ []) ≡ v ++ (more ++ (down ++ (x ∷ y ∷ [])))
in_order v more down x y = simp append_assoc

pub slept : (p : Place) → IsSleep p → (v a d w : View) (s n m : ℕ) (found : List Waiter) (more down : List Made) → v.place ≡ p → a ≡ record v { place = v.place; steps = v.steps ++ more; surplus = s }
    → d ≡ record a { place = outer a.place; steps = a.steps ++ (down ++ made Down n ∷ []); downed = downed_at (outer a.place) a.own a.downed } → w ≡ next WaitLoad d m found
    → w ≡ record v { place = cond (eqb m 0) (resumed s (outer (outer v.place))) v.place; steps = v.steps ++ (more ++ (down ++ (made Down n ∷ made WaitLoad m ∷ []))); surplus = cond (eqb m 0) s (s + 1) }
slept (Looking ∷ Sleeping l x y ∷ q) is v a d w s n m found more down e began fell read =
    let taken : View → View = λ (u : View). next WaitLoad (record u { place = outer u.place; steps = u.steps ++ (down ++ made Down n ∷ []); downed = downed_at (outer u.place) u.own u.downed }) m found in
    read ∙ (ap (λ (u : View). next WaitLoad u m found) fell ∙ (ap taken began
    ∙ (ap (λ (r : Place). taken (record v { place = r; steps = v.steps ++ more; surplus = s })) e
    ∙ ((λ i. record v { place = cond (eqb m 0) (resumed s q) (Looking ∷ Sleeping l x y ∷ q); steps = in_order v.steps more down (made Down n) (made WaitLoad m) i; surplus = cond (eqb m 0) s (s + 1) })
    ∙ ap (λ (r : Place). record v { place = cond (eqb m 0) (resumed s (outer (outer r))) r; steps = v.steps ++ (more ++ (down ++ (made Down n ∷ made WaitLoad m ∷ []))); surplus = cond (eqb m 0) s (s + 1) }) (sym e)))))
slept p is v a d w s n m found more down e began fell read = absurd is

-- LEAVES. The list was taken in hand, the backend found itself on it, sent the list home without itself, and stored that it doesn't wait
left_in_order : (v took : List Made) (x y z : Made) → ((((v ++ took) ++ x ∷ []) ++ y ∷ []) ++ z ∷ []) ≡ v ++ (took ++ (x ∷ y ∷ z ∷ []))
left_in_order v took x y z = simp append_assoc

pub left_listed : (l own n x y : ℕ) (want : Want) (clears : Bool) (list f g h : List Waiter) (took : List Made) (v a b d e : View) → v.place ≡ TakingList l ∷ Dequeueing l want ∷ outer (outer v.place) → a ≡ went v (in_hand list (outer (taking None v.place))) took
    → b ≡ next WaitLoad a n f → n ≡ 1 → d ≡ next (Unlock l clears) b x g → e ≡ next (WaitStore own 0) d y h
    → e ≡ record v { place = resumed v.surplus (outer (outer v.place)); steps = v.steps ++ (took ++ (made WaitLoad n ∷ made_with (Unlock l clears) x (without (number_of v.own) list) ∷ made (WaitStore own 0) y ∷ [])) }
left_listed l own n x y want clears list f g h took v a b d e at taken read one home stores =
    let on : View → View = λ (u : View). next (WaitStore own 0) (next (Unlock l clears) (next WaitLoad u n f) x g) y h in let q : Place = outer (outer v.place) in
    stores ∙ (ap (λ (u : View). next (WaitStore own 0) u y h) home ∙ (ap (λ (u : View). next (WaitStore own 0) (next (Unlock l clears) u x g) y h) read ∙ (ap on taken
    ∙ (ap (λ (r : Place). on (went v (in_hand list (outer (taking None r))) took)) at
    ∙ (λ i. record v { place = stored v.surplus (sent_home v.surplus (Removing l want list (eq-eqb n 1 one i) ∷ q)); steps = left_in_order v.steps took (made WaitLoad n) (made_with (Unlock l clears) x (left_at (Removing l want list (eq-eqb n 1 one i) ∷ q) (number_of v.own))) (made (WaitStore own 0) y) i })))))

-- or it found itself taken, sent the list home as it was, set RELEASE_OK and slept
taken_in_order : (v took more : List Made) (x y z : Made) → (((((v ++ took) ++ x ∷ []) ++ y ∷ []) ++ z ∷ []) ++ more) ≡ v ++ (took ++ (x ∷ y ∷ z ∷ more))
taken_in_order v took more x y z = simp append_assoc

pub left_taken : (l n x y s : ℕ) (want : Want) (clears : Bool) (list f g h : List Waiter) (took more : List Made) (v a b d e w : View) → v.place ≡ TakingList l ∷ Dequeueing l want ∷ outer (outer v.place) → a ≡ went v (in_hand list (outer (taking None v.place))) took
    → b ≡ next WaitLoad a n f → n ≢ 1 → d ≡ next (Unlock l clears) b x g → e ≡ next (SetReleaseOk l) d y h → w ≡ record e { place = resumed s (outer (outer e.place)); steps = e.steps ++ more; surplus = s }
    → w ≡ record v { place = resumed s (outer (outer v.place)); steps = v.steps ++ (took ++ (made WaitLoad n ∷ made_with (Unlock l clears) x list ∷ made (SetReleaseOk l) y ∷ more)); surplus = s }
left_taken l n x y s want clears list f g h took more v a b d e w at taken read other home answers slept =
    let after : View → View = λ (u : View). record u { place = resumed s (outer (outer u.place)); steps = u.steps ++ more; surplus = s } in let answering : View → View = λ (u : View). after (next (SetReleaseOk l) u y h) in
    let sending : View → View = λ (u : View). answering (next (Unlock l clears) u x g) in let on : View → View = λ (u : View). sending (next WaitLoad u n f) in let q : Place = outer (outer v.place) in
    slept ∙ (ap after answers ∙ (ap answering home ∙ (ap sending read ∙ (ap on taken
    ∙ (ap (λ (r : Place). on (went v (in_hand list (outer (taking None r))) took)) at
    ∙ (λ i. let r = Removing l want list (ne_eqb n 1 other i) ∷ q in record v {
      place = resumed s (outer (outer (answered (sent_home v.surplus r))));
      steps = taken_in_order v.steps took more (made WaitLoad n) (made_with (Unlock l clears) x (left_at r (number_of v.own))) (made (SetReleaseOk l) y) i;
      waits = waits_after (sent_home v.surplus r) v.waits;
      surplus = s;
    }))))))

-- How the parts of an acquire follow one another, and what was refused in it before.
use Rattle.std.proofs.Common.{◌≡◌, ℕ, ◌+◌, Bool, true, false, cond, List, [], ◌∷◌, ◌++◌, None, Result, Ok, Err, MatchResult, is_ok, set, refl, sym, ap, ◌∙◌, arith, append_assoc, add_assoc}
use Rattle.proc_table.specs.declared.Mode.{Mode}
use Rattle.proc_table.specs.declared.Mode.TheVariants.{Shared, Exclusive}
use Rattle.lw_core.specs.declared.step.LwStep.{LwStep}
use Rattle.lw_core.specs.declared.step.LwStep.TheVariants.{Load, Refuse, SetReleaseOk, WaitLoad, WaitStore}
use Rattle.lw_core.specs.declared.view.Frame.TheVariants.{Attempting, Trying, Unqueued, Queued, TakingList, Queueing, Woken, GivingBack}
use Rattle.lw_core.specs.declared.view.Made.{Made}
use Rattle.lw_core.specs.declared.view.View.{View}
use Rattle.lw_core.specs.declared.view.Waiter.{Waiter}
use Rattle.lw_core.specs.Machine.{Place, held, made, next, on_grant, on_refusal, on_waking, outer, resumed, want_of}
use Rattle.lw_core.specs.Words.{Blocks}
use Rattle.semaphore.specs.Calls.{is_store, stores, StoresNone}
use Rattle.std.proofs.lemmas.List.Sums.{sum_by-append}
use Rattle.lwlock.specs.Calls.{went, Went, WentWith, Granted, Refused, Announced, FoundClear, FoundInCall, FreedInCall, RefusedInCall}
use Rattle.lwlock.specs.Rounds.{GrantedWith, Stands, HeldWith}

-- FOUND. What was found in a call was found in it after more steps, too
pub found_since : (v u w : View) (k : LwStep) (n : ℕ) → FoundInCall v u k n → (more : List Made) → w.steps ≡ u.steps ++ more → FoundInCall v w k n
found_since v u w k n found more e = (
  found.0,
  (
    found.1.0 ++ more,
    e ∙ (ap (λ (s : List Made). s ++ more) found.1.1 ∙ (append_assoc v.steps (found.0 ++ (made k n ∷ found.1.0)) more ∙ ap (λ (s : List Made). v.steps ++ s) (append_assoc found.0 (made k n ∷ found.1.0) more))),
  ),
)

-- and where the call began some steps before
pub found_before : (v u w : View) (k : LwStep) (n : ℕ) → FoundInCall u w k n → (more : List Made) → u.steps ≡ v.steps ++ more → FoundInCall v w k n
found_before v u w k n found more e = (
  more ++ found.0,
  (
    found.1.0,
    found.1.1 ∙ (ap (λ (s : List Made). s ++ (found.0 ++ (made k n ∷ found.1.0))) e ∙ (append_assoc v.steps more (found.0 ++ (made k n ∷ found.1.0)) ∙ ap (λ (s : List Made). v.steps ++ s) (sym (append_assoc more found.0 (made k n ∷ found.1.0))))),
  ),
)

pub refused_since : (l : ℕ) (m : Mode) (v u w : View) → RefusedInCall l m v u → (more : List Made) → w.steps ≡ u.steps ++ more → RefusedInCall l m v w
refused_since l m v u w refused more e = (refused.0, (refused.1.0, found_since v u w (Refuse l m refused.0) refused.0 refused.1.1 more e))

pub refused_before : (l : ℕ) (m : Mode) (v u w : View) → RefusedInCall l m u w → (more : List Made) → u.steps ≡ v.steps ++ more → RefusedInCall l m v w
refused_before l m v u w refused more e = (refused.0, (refused.1.0, found_before v u w (Refuse l m refused.0) refused.0 refused.1.1 more e))

-- ATTEMPTS. What an attempt ensures where it was granted, and where it was refused
pub was_granted : (l : ℕ) (m : Mode) (p q : Place) (u w : View) (r : Result Unit ℕ) → is_ok r ≡ true → MatchResult r (λ _. Granted l m p u w) (λ (e : ℕ). Refused l m e q u w) → Granted l m p u w
was_granted l m p q u w (Ok x) ok is = is
was_granted l m p q u w (Err e) ok is = absurd (cc)

pub was_refused : (l : ℕ) (m : Mode) (p q : Place) (u w : View) (r : Result Unit ℕ) → is_ok r ≡ false → MatchResult r (λ _. Granted l m p u w) (λ (e : ℕ). Refused l m e q u w) → (more : List Made) × (w ≡ went u q more)
was_refused l m p q u w (Ok x) ok is = absurd (cc)
was_refused l m p q u w (Err e) ok is = (is.1.0 ++ made (Refuse l m e) e ∷ [], is.1.1)

-- ROUNDS. The first attempt was granted
pub granted_stands : (l : ℕ) (m : Mode) (word sleeps surplus : ℕ) (waited : Bool) (v u w : View) → Stands (Trying l m word ∷ Unqueued l m (want_of m) waited ∷ []) sleeps surplus v u → Granted l m (on_grant u.surplus (outer u.place)) u w → HeldWith l m sleeps surplus v w
granted_stands l m word sleeps surplus waited v u w stands granted = (
  stands.0 ++ granted.0,
  granted.1
      ∙ (ap (λ (a : View). record a { place = on_grant a.surplus (outer a.place); steps = a.steps ++ granted.0; holds = set a.holds l (held m); grants = a.grants + 1 }) stands.1
      ∙ (λ i. record v { place = resumed surplus (GivingBack ∷ []); steps = append_assoc v.steps stands.0 granted.0 i; holds = set v.holds l (held m); grants = v.grants + 1; waits = v.waits + sleeps; surplus = surplus })),
)

-- it was refused
pub refused_stands : (l : ℕ) (m : Mode) (word sleeps surplus : ℕ) (waited : Bool) (v u w : View) → Stands (Trying l m word ∷ Unqueued l m (want_of m) waited ∷ []) sleeps surplus v u → Went (on_refusal (outer u.place)) u w
    → Stands (TakingList l ∷ Queueing l (want_of m) ∷ Attempting l m ∷ Queued l m (want_of m) ∷ []) sleeps surplus v w
refused_stands l m word sleeps surplus waited v u w stands refused = (
  stands.0 ++ refused.0,
  refused.1
      ∙ (ap (λ (a : View). went a (on_refusal (outer a.place)) refused.0) stands.1
      ∙ (λ i. record v { place = TakingList l ∷ Queueing l (want_of m) ∷ Attempting l m ∷ Queued l m (want_of m) ∷ []; steps = append_assoc v.steps stands.0 refused.0 i; waits = v.waits + sleeps; surplus = surplus })),
)

-- the round after it was granted
pub held_on : (l : ℕ) (m : Mode) (p : Place) (sleeps surplus more : ℕ) (v u w : View) → Stands p sleeps surplus v u → GrantedWith l m (u.surplus + more) u w → HeldWith l m sleeps (surplus + more) v w
held_on l m p sleeps surplus more v u w stands is = (
  stands.0 ++ is.0,
  is.1
      ∙ (ap (λ (a : View). record a { place = resumed (a.surplus + more) (GivingBack ∷ []); steps = a.steps ++ is.0; holds = set a.holds l (held m); grants = a.grants + 1; surplus = a.surplus + more }) stands.1
      ∙ (λ i. record v { place = resumed (surplus + more) (GivingBack ∷ []); steps = append_assoc v.steps stands.0 is.0 i; holds = set v.holds l (held m); grants = v.grants + 1; waits = v.waits + sleeps; surplus = surplus + more })),
)

-- it ended with a sleep
pub stands_on : (p q : Place) (sleeps surplus more : ℕ) (v u w : View) → Stands p sleeps surplus v u → WentWith q (u.surplus + more) u w → Stands q sleeps (surplus + more) v w
stands_on p q sleeps surplus more v u w stands is = (
  stands.0 ++ is.0,
  is.1
      ∙ (ap (λ (a : View). record a { place = q; steps = a.steps ++ is.0; surplus = a.surplus + more }) stands.1
      ∙ (λ i. record v { place = q; steps = append_assoc v.steps stands.0 is.0 i; waits = v.waits + sleeps; surplus = surplus + more })),
)

-- who slept for a mode wakes to try again
pub wakes : (surplus l : ℕ) (m : Mode) → resumed surplus (on_waking (want_of m) l m []) ≡ Woken l m ∷ []
wakes surplus l Shared = refl
wakes surplus l Exclusive = refl

-- and then the first attempt begins again
pub tries_again : (l : ℕ) (m : Mode) (o n sleeps surplus : ℕ) (other found : List Waiter) (v u a w : View) → Stands (resumed surplus (on_waking (want_of m) l m [])) sleeps surplus v u → a ≡ next (SetReleaseOk l) u o other → w ≡ next (Load l None) a n found
    → Stands (Trying l m n ∷ Unqueued l m (want_of m) true ∷ []) (sleeps + 1) surplus v w
tries_again l m o n sleeps surplus other found v u a w stands answered is =
    let both : View → View = λ (x : View). next (Load l None) (next (SetReleaseOk l) x o other) n found in
    let u' : u ≡ record v { place = Woken l m ∷ []; steps = v.steps ++ stands.0; waits = v.waits + sleeps; surplus = surplus } = stands.1 ∙ (λ i. record v { place = wakes surplus l m i; steps = v.steps ++ stands.0; waits = v.waits + sleeps; surplus = surplus }) in
    let set : Made = made (SetReleaseOk l) o in let load : Made = made (Load l None) n in (
      stands.0 ++ (set ∷ load ∷ []),
      is
          ∙ (ap (λ (x : View). next (Load l None) x n found) answered
          ∙ (ap both u'
          ∙ (λ i. record v { place = Trying l m n ∷ Unqueued l m (want_of m) true ∷ []; steps = (append_assoc (v.steps ++ stands.0) (set ∷ []) (load ∷ []) ∙ append_assoc v.steps stands.0 (set ∷ load ∷ [])) i; waits = add_assoc v.waits sleeps 1 i; surplus = surplus }))),
    )

-- AFTER A ROUND. A call that began with one attempt, which was refused, ends with its round
round_in_order : (v first tried more given : List Made) → ((((v ++ first) ++ tried) ++ more) ++ given) ≡ v ++ (first ++ (tried ++ (more ++ given)))
round_in_order v first tried more given = simp append_assoc

pub granted_after : (l : ℕ) (m : Mode) (p q r : Place) (s : ℕ) (first tried more : List Made) (v a u w x : View) → a ≡ went v p first → u ≡ went a q tried
    → w ≡ record u { place = r; steps = u.steps ++ more; holds = set u.holds l (held m); grants = u.grants + 1; surplus = s } → WentWith [] 0 w x → v.surplus ≡ 0 → Granted l m [] v x
granted_after l m p q r s first tried more v a u w x began refused ended given none = (
  first ++ (tried ++ (more ++ given.0)),
  given.1
      ∙ (ap (λ (y : View). record y { place = []; steps = y.steps ++ given.0; surplus = 0 }) ended
      ∙ (ap (λ (y : View). record y { place = []; steps = (y.steps ++ more) ++ given.0; holds = set y.holds l (held m); grants = y.grants + 1; surplus = 0 }) (refused ∙ ap (λ (y : View). went y q tried) began)
      ∙ (λ i. record v { place = []; steps = round_in_order v.steps first tried more given.0 i; holds = set v.holds l (held m); grants = v.grants + 1; surplus = sym none i }))),
)

pub went_after : (p q r : Place) (s : ℕ) (first tried more : List Made) (v a u w x : View) → a ≡ went v p first → u ≡ went a q tried → w ≡ record u { place = r; steps = u.steps ++ more; surplus = s } → WentWith [] 0 w x → v.surplus ≡ 0 → Went [] v x
went_after p q r s first tried more v a u w x began refused ended given none = (
  first ++ (tried ++ (more ++ given.0)),
  given.1
      ∙ (ap (λ (y : View). record y { place = []; steps = y.steps ++ given.0; surplus = 0 }) ended
      ∙ (ap (λ (y : View). record y { place = []; steps = (y.steps ++ more) ++ given.0; surplus = 0 }) (refused ∙ ap (λ (y : View). went y q tried) began)
      ∙ (λ i. record v { place = []; steps = round_in_order v.steps first tried more given.0 i; surplus = sym none i }))),
)

-- FREED. A sleep after a refusal: what the steps of queueing, of the attempt and of the sleep say together
stores-append : (xs ys : List Made) → stores (xs ++ ys) ≡ stores xs + stores ys
stores-append xs ys = sum_by-append (λ (a : Made). cond (is_store a.step) 1 0) xs ys

-- steps of which none stored: neither did those before the last of them
no_store : (v w : View) (more : List Made) (last : Made) → w.steps ≡ v.steps ++ (more ++ last ∷ []) → StoresNone v w → stores more ≡ 0
no_store v w more last is none =
    let all = ap stores is in let a = stores-append v.steps (more ++ last ∷ []) in let b = stores-append more (last ∷ []) in omega arith

one_list : (a b c d e : List Made) (x y z t : Made) → ((((a ++ (b ++ (x ∷ c))) ++ y ∷ []) ++ (d ++ z ∷ [])) ++ (e ++ t ∷ [])) ≡ a ++ (b ++ (x ∷ ((c ++ (y ∷ d)) ++ (z ∷ (e ++ t ∷ [])))))
one_list a b c d e x y z t = simp append_assoc

pub freed_by : (own l : ℕ) (m : Mode) (word n : ℕ) (v queued loaded refused asleep : View) → Announced own v queued → loaded.steps ≡ queued.steps ++ made (Load l None) n ∷ [] → (more : List Made) → refused.steps ≡ loaded.steps ++ (more ++ made (Refuse l m word) word ∷ [])
    → StoresNone loaded refused → FoundClear refused asleep → StoresNone refused asleep → FreedInCall own l m word v asleep
freed_by own l m word n v queued loaded refused asleep announced load more refuse none clear none' =
    let first = announced.1.1.1.0 in let since = announced.1.1.0 in
    let x : Made = made (WaitStore own 1) announced.0 in let y : Made = made (Load l None) n in let z : Made = made (Refuse l m word) word in let t : Made = made WaitLoad 0 in
    let few : stores (y ∷ more) ≡ 0 = let a = no_store loaded refused more z refuse none in let b = stores-append (y ∷ []) more in omega arith in
    record {
      found = announced.0;
      before = announced.1.0;
      listed = since ++ (y ∷ more);
      asleep = clear.0;
      since = [];
      steps = clear.1
          ∙ (ap (λ (s : List Made). s ++ (clear.0 ++ t ∷ [])) (refuse ∙ ap (λ (s : List Made). s ++ (more ++ z ∷ [])) (load ∙ ap (λ (s : List Made). s ++ y ∷ []) first))
          ∙ one_list v.steps announced.1.0 since more clear.0 x y z t);
      listed_on = let a = stores-append since (y ∷ more) in let b = announced.1.1.1.1 in omega arith;
      asleep_on = no_store refused asleep clear.0 t clear.1 none';
    }

within : (v first b c d e last : List Made) (x z t : Made) → (((v ++ first) ++ (b ++ (x ∷ (c ++ (z ∷ (d ++ (t ∷ e))))))) ++ last) ≡ v ++ ((first ++ b) ++ (x ∷ (c ++ (z ∷ (d ++ (t ∷ (e ++ last)))))))
within v first b c d e last x z t = simp append_assoc

-- it was freed in the call, too, that began some steps before and went on after it
pub freed_within : (own l : ℕ) (m : Mode) (word : ℕ) (v u w x : View) → FreedInCall own l m word u w → (first last : List Made) → u.steps ≡ v.steps ++ first → x.steps ≡ w.steps ++ last → FreedInCall own l m word v x
freed_within own l m word v u w x f first last began ended = record {
  found = f.found;
  before = first ++ f.before;
  listed = f.listed;
  asleep = f.asleep;
  since = f.since ++ last;
  steps = let rest : List Made = f.before ++ (made (WaitStore own 1) f.found ∷ (f.listed ++ (made (Refuse l m word) word ∷ (f.asleep ++ (made WaitLoad 0 ∷ f.since))))) in
      ended ∙ (ap (λ (s : List Made). s ++ last) (f.steps ∙ ap (λ (s : List Made). s ++ rest) began) ∙ within v.steps first f.before f.listed f.asleep f.since last (made (WaitStore own 1) f.found) (made (Refuse l m word) word) (made WaitLoad 0));
  listed_on = f.listed_on;
  asleep_on = f.asleep_on;
}

-- the word of it was refused in the call
pub freed_refused : (own l : ℕ) (m : Mode) (word : ℕ) (v w : View) → Blocks word m → FreedInCall own l m word v w → RefusedInCall l m v w
freed_refused own l m word v w blocks f =
    let x : Made = made (WaitStore own 1) f.found in let rest : List Made = made (Refuse l m word) word ∷ (f.asleep ++ (made WaitLoad 0 ∷ f.since)) in
    (word, (blocks, (f.before ++ (x ∷ f.listed), (f.asleep ++ (made WaitLoad 0 ∷ f.since), f.steps ∙ ap (λ (s : List Made). v.steps ++ s) (sym (append_assoc f.before (x ∷ f.listed) rest))))))

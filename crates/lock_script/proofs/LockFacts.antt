-- What a step leaves of a sketch of a lock machine.
use Rattle.std.proofs.Common.{◌≡◌, ◌∙◌, ℕ, zero, suc, ◌+◌, ◌-◌, ◌*◌, ◌%◌, ◌^◌, ◌<◌, ◌≤◌, nat_lt, eqb, Bool, true, false, cond, List, [], ◌∷◌, Vec, Global, map, length, set, get_or, Option, None, Some, refl, sym, ap, subst, inl, inr, arith, get_or-set_other}
use Rattle.std.specs.Prelude.{All, ◌&&◌, option_map, slice_index, slice_index_or}
use Rattle.std.specs.List.{range_with_len}
use Rattle.std.proofs.lemmas.Bool.Decides.{nat_tests}
use Rattle.std.proofs.lemmas.List.{get_or-map, length-map, length-set}
use Rattle.std.proofs.lemmas.List.FromFn.{length-map-range_with_len}
use Rattle.std.proofs.lemmas.List.Elements.{All-set}
use mathlib.Core.Logic.{dite}
use native.Mathlib.Decide.{ℕ_discrete}
use Rattle.proc_table.specs.declared.Mode.{Mode}
use Rattle.proc_table.specs.declared.Mode.TheVariants.{Shared, Exclusive}
use Rattle.lw_core.specs.declared.step.LwStep.{LwStep}
use Rattle.lw_core.specs.declared.step.LwStep.TheVariants as kind
use Rattle.lw_core.specs.declared.view.Size.{Size}
use Rattle.lw_core.specs.declared.view.Waiter.{Waiter}
use Rattle.lw_core.specs.Words.{clear_flag, grant_of, has_flag, has_waiters, locked, release_ok, set_flag, word_count}
use Rattle.lw_core.specs.WaitLists.{AllBelow, has_locker, is_empty}
use Rattle.lw_core.specs.Machine.{becomes, lock_number, woken_word, word_of}
use Rattle.lw_core.proofs.Flags.{flag_most}
use Rattle.lock_script.specs.declared.locks.Ask.{Ask}
use Rattle.lock_script.specs.declared.locks.Backend.{Backend}
use Rattle.script_play.specs.Play.{ComesTo}
use Rattle.script_play.proofs.ListFacts.{each-map, each-set, map-set}
use Rattle.lock_script.specs.Locks.{ask_lock, ask_of, mode_held, opened, step_at}
use Rattle.lock_script.specs.LockScripts.{first_homes, first_words, home_after}
use Rattle.lock_script.specs.LockSketch.{BackendFits, Counts, Fits, GainsLittle, IsCounted, SizeFits, Sketch, Stand, StepFits, begins, idle, mode_at, opening_sketch, stand_at, stand_of, started, told, turn, went, with_stand}

-- WORDS. A flag that is set adds to a word, and one that is cleared takes from it
set-little : (f w : ℕ) → f ≤ 2 ^ 30 → set_flag f w ≤ w + 2 ^ 30
set-little f w small = by_flag (has_flag f w) (flag_most f w)
  where
    by_flag : (h : ℕ) → h ≤ 1 → w + f * (1 - h) ≤ w + 2 ^ 30
    by_flag zero most = let e : f * (1 - 0) ≡ f = omega arith in rw e (omega arith)
    by_flag (suc h) most = let z : h ≡ 0 = omega arith in rw z (let e : f * (1 - 1) ≡ 0 = omega arith in rw e (omega arith))

clear-little : (f w : ℕ) → clear_flag f w ≤ w
clear-little f w = less w (f * has_flag f w)
  where
    less : (a b : ℕ) → a - b ≤ a
    less a b = omega arith

either-little : (b : Bool) (x y n : ℕ) → x ≤ n → y ≤ n → cond b x y ≤ n
either-little true x y n h k = h
either-little false x y n h k = k

pub woken-little : (took kept : List Waiter) (w : ℕ) → woken_word took kept w ≤ w + 2 ^ 30
woken-little took kept w =
    let free = clear_flag locked w in
    let low : free ≤ w = clear-little locked w in
    let one : clear_flag release_ok free ≤ w + 2 ^ 30 = omega (arith, clear-little release_ok free, low) in
    let two : set_flag release_ok free ≤ w + 2 ^ 30 = omega (arith, set-little release_ok free (omega arith), low) in
    let answered = cond (has_locker took) (clear_flag release_ok free) (set_flag release_ok free) in
    let most : answered ≤ w + 2 ^ 30 = either-little (has_locker took) _ _ _ one two in
    either-little (is_empty kept) _ _ _ (omega (arith, clear-little has_waiters answered, most)) most

grant-little : (m : Mode) → grant_of m ≤ 2 ^ 30
grant-little Shared = omega arith
grant-little Exclusive = omega arith

-- an exchange leaves one of two words
exchanged : (b : Bool) (n w to : ℕ) → eqb n w ≡ b → to ≤ w + 2 ^ 30 → cond b to n ≤ n + 2 ^ 30
exchanged true n w to is little = grind (arith, nat_tests, is, little)
exchanged false n w to is little = omega arith

gains : (z : Size) (p : ℕ) (k : LwStep) (n : ℕ) → lock_number k < z.locks → GainsLittle k → IsCounted z (word_of z p k) → becomes k n ≤ n + 2 ^ 30
gains z p (kind.Load l begins) n inside little counted = omega arith
gains z p (kind.Grant l m w) n inside little counted = exchanged (eqb n w) n w (w + grant_of m) refl (omega (arith, grant-little m))
gains z p (kind.Refuse l m w) n inside little counted = omega arith
gains z p (kind.Sub l m begins) n inside little counted = omega arith
gains z p (kind.Peek l begins) n inside little counted = omega arith
gains z p (kind.Guard l k o) n inside little counted = elim counted [ inl lock ↦ absurd (omega (arith, little, lock)) | inr far ↦ absurd (omega (arith, little, far, inside)) ]
gains z p (kind.Lock l begins) n inside little counted = set-little locked n (omega arith)
gains z p (kind.VarLoad l) n inside little counted = omega arith
gains z p (kind.VarStore l x) n inside little counted = elim counted [ inl lock ↦ absurd (omega (arith, lock)) | inr far ↦ absurd (omega (arith, far, inside)) ]
gains z p (kind.Unlock l clears) n inside little counted = either-little clears _ _ _ (omega (arith, clear-little has_waiters (clear_flag locked n), clear-little locked n)) (omega (arith, clear-little locked n))
gains z p (kind.Flag l) n inside little counted = set-little has_waiters n (omega arith)
gains z p (kind.WaitStore q x) n inside little counted = omega (arith, little)
gains z p kind.WaitLoad n inside little counted = omega arith
gains z p (kind.Wake l w to) n inside little counted = exchanged (eqb n w) n w to refl little
gains z p (kind.Post q begins) n inside little counted = omega arith
gains z p (kind.Look begins) n inside little counted = omega arith
gains z p kind.Down n inside little counted = omega arith
gains z p (kind.SetReleaseOk l) n inside little counted = set-little release_ok n (omega arith)

abbrev pub items : Vec Waiter Global → List Waiter
items h = h.items

pub stand-at : (bs : List Backend) (i : ℕ) (b : Backend) → i < length bs → b ≡ get_or bs i b → get_or (map stand_of bs) i idle ≡ stand_of b
stand-at bs i b inside is = get_or-map stand_of bs i b idle inside ∙ ap stand_of (sym is)

pub home-at : (hs : List (Vec Waiter Global)) (i : ℕ) (h : Vec Waiter Global) → i < length hs → h ≡ get_or hs i h → get_or (map items hs) i [] ≡ h.items
home-at hs i h inside is = get_or-map items hs i h [] inside ∙ ap items (sym is)

-- a word, a list at home and a backend are written
pub set-fits : (z : Size) (words more : List ℕ) (homes : List (Vec Waiter Global)) (backends : List Backend) (l p : ℕ) (h : Vec Waiter Global) (b : Backend)
    → Fits z words (map items homes) backends → length more ≡ length words → AllBelow z.procs h.items → BackendFits z b → Fits z more (map items (set homes l h)) (set backends p b)
set-fits z words more homes backends l p h b fits same below new = record {
  size = fits.size;
  words_are = same ∙ fits.words_are;
  homes_are = ap (λ (t : List (List Waiter)). length t) (map-set items homes l h) ∙ length-set (map items homes) l h.items ∙ fits.homes_are;
  backends_are = length-set backends p b ∙ fits.backends_are;
  lists = λ j. subst (λ (t : List (List Waiter)). AllBelow z.procs (get_or t j [])) (sym (map-set items homes l h)) (each-set (λ (us : List Waiter). AllBelow z.procs us) [] (map items homes) l h.items fits.lists below j);
  each = All-set (BackendFits z) backends p b new fits.each;
}

-- THE OPENING
pub opening-fits : (z : Size) (words : List ℕ) (homes : List (List Waiter)) (backends : List Backend)
    → SizeFits z → words ≡ first_words z → homes ≡ first_homes z → map stand_of backends ≡ map (λ _. idle) (range_with_len 0 z.procs) → All (BackendFits z) backends → Fits z words homes backends
opening-fits z words homes backends some ew eh es each = record {
  size = some;
  words_are = ap (λ (t : List ℕ). length t) ew ∙ length-map-range_with_len (λ i. cond (eqb i 0) z.procs (opened z i)) 0 (word_count z);
  homes_are = ap (λ (t : List (List Waiter)). length t) eh ∙ length-map-range_with_len none 0 z.locks;
  backends_are = sym (length-map backends stand_of) ∙ ap (λ (t : List Stand). length t) es ∙ length-map-range_with_len (λ _. idle) 0 z.procs;
  lists = λ l. subst (λ (t : List (List Waiter)). AllBelow z.procs (get_or t l [])) (sym eh) (each-map (λ (us : List Waiter). AllBelow z.procs us) none [] (range_with_len 0 z.locks) (λ _. tt) tt l);
  each = each;
}
  where
    none : ℕ → List Waiter
    none _ = []

first-little : (z : Size) (i : ℕ) → SizeFits z → cond (eqb i 0) z.procs (opened z i) ≤ (0 + 1) * 2 ^ 30
first-little z i some = either-little (eqb i 0) _ _ _ (omega (arith, some.procs)) (either-little (eqb (i % 6) 1 && nat_lt i (1 + 6 * z.locks)) release_ok 0 _ (omega arith) (omega arith))

pub counts-opening : (z : Size) → SizeFits z → Counts (opening_sketch z) 0
counts-opening z some = record {
  words = λ i counted. each-map (λ (x : ℕ). x ≤ (0 + 1) * 2 ^ 30) (λ i. cond (eqb i 0) z.procs (opened z i)) 0 (range_with_len 0 (word_count z)) (λ j. first-little z j some) (omega arith) i;
  stands = each-map (λ (b : Stand). (b.surplus ≤ 0) × (b.pokes ≤ 0)) (λ _. idle) idle (range_with_len 0 z.procs) (λ _. (omega arith, omega arith)) (omega arith, omega arith);
}

-- A STEP was made
counts-words : (z : Size) (words : List ℕ) (made p : ℕ) (k : LwStep) → ((i : ℕ) → IsCounted z i → get_or words i 0 ≤ (made + 1) * 2 ^ 30) → StepFits z p k
    → (i : ℕ) → IsCounted z i → get_or (set words (word_of z p k) (becomes k (get_or words (word_of z p k) 0))) i 0 ≤ (made + 1 + 1) * 2 ^ 30
counts-words z words made p k each fits i counted = dite (ℕ_discrete i at)
    (λ is. let here : IsCounted z at = subst (λ (j : ℕ). IsCounted z j) is counted in
    let new : becomes k (get_or words at 0) ≤ (made + 1 + 1) * 2 ^ 30 = omega (arith, gains z p k (get_or words at 0) fits.lock fits.little here, each at here) in
    subst (λ (j : ℕ). get_or (set words at (becomes k (get_or words at 0))) j 0 ≤ (made + 1 + 1) * 2 ^ 30) (sym is) (written words at (becomes k (get_or words at 0)) _ new (omega (arith, each at here))))
    (λ apart. subst (λ (x : ℕ). x ≤ (made + 1 + 1) * 2 ^ 30) (sym (get_or-set_other words at i (becomes k (get_or words at 0)) 0 apart)) (omega (arith, each i counted)))
  where
    at : ℕ
    at = word_of z p k

    written : (ws : List ℕ) (j x m : ℕ) → x ≤ m → get_or ws j 0 ≤ m → get_or (set ws j x) j 0 ≤ m
    written [] j x m h g = g
    written (y ∷ ys) zero x m h g = h
    written (y ∷ ys) (suc j) x m h g = written ys j x m h g

pub counts-after : (s : Sketch) (made p : ℕ) (k : LwStep) (homes : List (List Waiter)) (b c : Stand) → Counts s made → StepFits s.size p k → stand_at s p ≡ b → c.surplus ≤ b.surplus + 1 → c.pokes ≤ b.pokes + 1
    → (let t : Sketch = record { size = s.size; words = set s.words (word_of s.size p k) (becomes k (slice_index s.words (word_of s.size p k))); homes = homes; stands = set s.stands p c } in Counts t (made + 1))
counts-after s made p k homes b c counts fits at more pokes = record {
  words = counts-words s.size s.words made p k counts.words fits;
  stands = each-set (λ (x : Stand). (x.surplus ≤ made + 1) × (x.pokes ≤ made + 1)) idle s.stands p c (λ q. (omega (arith, (counts.stands q).0), omega (arith, (counts.stands q).1)))
      (let old = subst (λ (x : Stand). (x.surplus ≤ made) × (x.pokes ≤ made)) at (counts.stands p) in (omega (arith, old.0, more), omega (arith, old.1, pokes)));
}

-- a call began, or didn't
pub counts-begun : (s : Sketch) (made p : ℕ) (b c : Stand) → Counts s made → stand_at s p ≡ b → c.surplus ≡ b.surplus → c.pokes ≡ b.pokes → Counts (with_stand s p c) made
counts-begun s made p b c counts at more pokes = record {
  words = counts.words;
  stands = each-set (λ (x : Stand). (x.surplus ≤ made) × (x.pokes ≤ made)) idle s.stands p c counts.stands
      (let old = subst (λ (x : Stand). (x.surplus ≤ made) × (x.pokes ≤ made)) at (counts.stands p) in (omega (arith, old.0, more), omega (arith, old.1, pokes)));
}

comes-with : (s : Sketch) (p : ℕ) (o : Option Stand) (moved : Bool) (c : Stand) → ComesTo o moved c → ComesTo (option_map (with_stand s p) o) moved (with_stand s p c)
comes-with s p None moved c h = h
comes-with s p (Some d) moved c h = (h.0, ap (with_stand s p) h.1)

pub begins-by : (s : Sketch) (p : ℕ) (text : List ℕ) (a : Ask) (b c : Stand) (moved : Bool) → nat_lt p s.size.procs ≡ true → ask_of s.size text ≡ Some a → stand_at s p ≡ b → ComesTo (started b b.ask a) moved c
    → ComesTo (begins s p text) moved (with_stand s p c)
begins-by s p text a b c moved below asks at comes = rw (below, asks, at) (comes-with s p (started b b.ask a) moved c comes)

pub turned-by : (s : Sketch) (p i n x : ℕ) (a : Ask) (b c : Stand) (k : LwStep) (home new : List Waiter) → k ≡ step_at p a (mode_held (mode_at b.modes (ask_lock a))) b.place → i ≡ word_of s.size p k → n ≡ slice_index s.words i → x ≡ becomes k n
    → home ≡ slice_index_or s.homes (lock_number k) [] → new ≡ home_after k n b.place p home → c ≡ went k n home b
    → let r : Sketch = record { size = s.size; words = set s.words i x; homes = set s.homes (lock_number k) new; stands = set s.stands p c } in r ≡ (turn s p b a).0
unfolding turn
turned-by s p i n x a b c k home new ek ei en ex eh ew ec = rw (ec, ew, eh, ex, en, ei, ek) refl

pub told-by : (s : Sketch) (p i n : ℕ) (a : Ask) (b c : Stand) (k : LwStep) (home : List Waiter) → k ≡ step_at p a (mode_held (mode_at b.modes (ask_lock a))) b.place → i ≡ word_of s.size p k → n ≡ slice_index s.words i
    → home ≡ slice_index_or s.homes (lock_number k) [] → c ≡ went k n home b → told s.size p a k n c ≡ (turn s p b a).1
unfolding turn
told-by s p i n a b c k home ek ei en eh ec = rw (ec, eh, en, ei, ek) refl

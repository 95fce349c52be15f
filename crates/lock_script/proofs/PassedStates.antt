-- Each state that a script on locks passes meets the rule.
use Rattle.std.proofs.Common.{◌≡◌, ◌∙◌, ℕ, ◌-◌, ◌<◌, ◌≤◌, nat_lt, Bool, true, false, cond, List, [], ◌∷◌, map, length, set, get_or, Option, None, Some, refl, sym, ap, subst, arith, get_or-set_same, get_or-set_other}
use mathlib.Core.Option as maybe
use mathlib.Core.Logic.{dite}
use native.Mathlib.Decide.{ℕ_discrete}
use lib.ListN.{get_elem?}
use Rattle.std.specs.Prelude.{All, codes, option_map, option_and_then, slice_index}
use Rattle.std.specs.Str.{bytes_eq}
use Rattle.std.proofs.lemmas.Bool.Decides.{nat_tests}
use Rattle.std.proofs.lemmas.List.{get_or_default, length-set}
use Rattle.std.proofs.lemmas.List.Elements.{All-push}
use Rattle.std.proofs.lemmas.List.FromFn.{get_or-map-range_with_len, length-map-range_with_len}
use Rattle.atomic_table.specs.Table.{stepped}
use Rattle.atomic_table.proofs.Lists.{at_index, at_map}
use Rattle.decimal_word.specs.Numbers.{number_of}
use Rattle.decimal_word.proofs.NumberFacts.{number_of-range}
use Rattle.proc_table.specs.declared.Mode.{Mode}
use Rattle.seat_roster.specs.Roster.{Numbers}
use Rattle.lw_core.specs.declared.step.Call.TheVariants as call
use Rattle.lw_core.specs.declared.step.LwStep.{LwStep}
use Rattle.lw_core.specs.declared.view.Size.{Size}
use Rattle.lw_core.specs.declared.view.View.{View}
use Rattle.lw_core.specs.declared.view.Waiter.{Waiter}
use Rattle.lw_core.specs.WaitLists.{home_list}
use Rattle.lw_core.specs.Machine.{Allowed, IsInRange, LwState, act_of, as_waiters, becomes, left_at, lock_number, mode_in, next, word_of}
use Rattle.lw_core.specs.Machine as machine
use Rattle.lw_core.specs.SeatFits.{PlaceFits}
use Rattle.lw_core.specs.Rule.{Rule}
use Rattle.lw_core.proofs.Places as places
use Rattle.lw_core.proofs.Touches.{numbers_kept}
use Rattle.lw_core.proofs.RuleKeeps.{rule_step}
use Rattle.script_play.specs.Lines.{Numbered, after_word, first_word, number}
use Rattle.script_play.specs.Answers.{opening_moment}
use Rattle.script_play.specs.Play.{Bad, Ended, Outcome, silent}
use Rattle.script_play.proofs.Keeping.{ComesWith, EndsWith, played_keeps}
use Rattle.script_play.proofs.ListFacts.{map-set, set-same}
use Rattle.lock_script.specs.declared.locks.Ask.{Ask}
use Rattle.lock_script.specs.declared.locks.Ask.TheVariants.{Begin, Read, Write}
use Rattle.lock_script.specs.declared.locks.Heard.TheVariants as heard
use Rattle.lock_script.specs.Locks.{argued_ask, ask_lock, ask_of, lock_ask, may_begin, mode_ask, mode_held, mode_of, moded_ask, named_ask, read_ask, short_ask, step_at, still, value_ask, write_ask}
use Rattle.lock_script.specs.LockScripts.{Script, Seat, begins, begun, first_homes, first_seats, first_view, first_words, home_after, lock_play, nobody, opening_script, seat_at, slots_of, state_of, steps, turn, views_of, went}
use Rattle.lock_script.specs.LockSketch.{AskFits, AsksFit}
use Rattle.lock_script.specs.Passed.{EachMeetsTheRule, anything}
use Rattle.lock_script.proofs.Crowds.{opening_meets}
use Rattle.lock_script.proofs.MayStep.{AskSuits, asked_suits, goes_of, lets_go, permits, still_suits}
use Rattle.lock_script.proofs.Slots.{LieIn, Slots, slots_are, step_lies, with_views}

abbrev view_of : Seat → View
view_of x = x.view

-- CALLS name locks and backends of the table
module _ (z : Size) (locks : 0 < z.locks) (procs : 0 < z.procs) where
  fits_cond : (b : Bool) (o q : Option Ask) → AsksFit z o → AsksFit z q → AsksFit z (cond b o q)
  fits_cond true o q h k = h
  fits_cond false o q h k = k

  fits_map : (f : ℕ → Ask) (o : Option ℕ) → ((n : ℕ) → o ≡ Some n → AskFits z (f n)) → AsksFit z (option_map f o)
  fits_map f None each = tt
  fits_map f (Some n) each = each n refl

  fits_then : (f : ℕ → Option Ask) (o : Option ℕ) → ((n : ℕ) → o ≡ Some n → AsksFit z (f n)) → AsksFit z (option_and_then f o)
  fits_then f None each = tt
  fits_then f (Some n) each = each n refl

  lock_below : (n : ℕ) (word : List ℕ) → number_of 0 (z.locks - 1) word ≡ Some n → n < z.locks
  lock_below n word is = let most = (number_of-range 0 (z.locks - 1) n word is).1 in omega (arith, most, locks)

  proc_below : (n : ℕ) (word : List ℕ) → number_of 0 (z.procs - 1) word ≡ Some n → n < z.procs
  proc_below n word is = let most = (number_of-range 0 (z.procs - 1) n word is).1 in omega (arith, most, procs)

  short_fits : (name argument : List ℕ) → AsksFit z (short_ask z name argument)
  short_fits name argument = fits_cond (bytes_eq name (codes "release")) _ _ (fits_map _ (number_of 0 (z.locks - 1) argument) (λ n is. (lock_below n argument is, tt)))
      (fits_cond (bytes_eq name (codes "poke")) _ None (fits_map _ (number_of 0 (z.procs - 1) argument) (λ n is. (locks, proc_below n argument is))) tt)

  module _ (l : ℕ) (inside : l < z.locks) where
    mode_fits : (name : List ℕ) (m : Mode) → AsksFit z (mode_ask name l m)
    mode_fits name m = fits_cond (bytes_eq name (codes "acquire")) (Some (Begin (call.Acquire l m))) _ (inside, tt)
        (fits_cond (bytes_eq name (codes "try")) (Some (Begin (call.Try l m))) _ (inside, tt) (fits_cond (bytes_eq name (codes "orwait")) (Some (Begin (call.AcquireOrWait l m))) None (inside, tt) tt))

    read_fits : (k : ℕ) → AsksFit z (read_ask l k)
    read_fits k = by_case (nat_lt k 4) refl
      where
        by_case : (b : Bool) → nat_lt k 4 ≡ b → AsksFit z (cond b (Some (Read l k)) None)
        by_case true e = (inside, grind (arith, nat_tests, e))
        by_case false e = tt

    value_fits : (name : List ℕ) (x : ℕ) → AsksFit z (value_ask name l x)
    value_fits name x = fits_cond (bytes_eq name (codes "varwait")) (Some (Begin (call.WaitForVar l x))) _ (inside, tt)
        (fits_cond (bytes_eq name (codes "var")) (Some (Begin (call.UpdateVar l x))) _ (inside, tt)
        (fits_cond (bytes_eq name (codes "relvar")) (Some (Begin (call.ReleaseClearVar l x))) _ (inside, tt) (fits_cond (bytes_eq name (codes "read")) (read_ask l x) None (read_fits x) tt)))

    moded_fits : (name argument : List ℕ) (o : Option Mode) → AsksFit z (moded_ask name l argument o)
    moded_fits name argument None = fits_then (value_ask name l) (number argument) (λ x is. value_fits name x)
    moded_fits name argument (Some m) = mode_fits name m

    write_fits : (name at value : List ℕ) → AsksFit z (write_ask name l at value)
    write_fits name at value = fits_cond (bytes_eq name (codes "write")) _ None
        (fits_then _ (number_of 0 3 at) (λ k is. let most = (number_of-range 0 3 k at is).1 in fits_map (λ x. Write l k x) (number value) (λ x read. (inside, omega (arith, most))))) tt

    lock_fits : (name argument : List ℕ) (o : Option (List ℕ)) → AsksFit z (lock_ask name l argument o)
    lock_fits name argument None = moded_fits name argument (mode_of argument)
    lock_fits name argument (Some value) = write_fits name argument value

  argued_fits : (name argument : List ℕ) (o : Option (List ℕ)) → AsksFit z (argued_ask z name argument o)
  argued_fits name argument None = short_fits name argument
  argued_fits name argument (Some more) = fits_then _ (number_of 0 (z.locks - 1) argument) (λ l is. lock_fits l (lock_below l argument is) name (first_word more) (after_word more))

  named_fits : (name : List ℕ) (o : Option (List ℕ)) → AsksFit z (named_ask z name o)
  named_fits name None = fits_cond (bytes_eq name (codes "down")) (Some (Begin call.Down)) None (locks, tt) tt
  named_fits name (Some arguments) = argued_fits name (first_word arguments) (after_word arguments)

-- A SCRIPT whose states all meet it
record SeatGood (z : Size) (p : ℕ) (x : Seat) : Type 0 where
  pub own : x.view.own ≡ Some p
  pub ask : AskSuits z x.ask x.view x.view.place

record Good (z : Size) (s : Script) : Type 0 where
  pub size : s.size ≡ z
  pub rule : Rule anything z (state_of s.words s.homes s.seats)
  pub homes : LieIn (slots_of s.homes (views_of s.seats)) s.homes
  pub lists : length s.homes ≡ z.locks
  pub long : length s.seats ≡ z.procs
  pub seats : (p : ℕ) → p < z.procs → SeatGood z p (seat_at s p)
  pub passed : All (Rule anything z) s.passed

set_good : (z : Size) (s : Script) (p : ℕ) (y : Seat) → ((q : ℕ) → q < z.procs → SeatGood z q (seat_at s q)) → length s.seats ≡ z.procs → SeatGood z p y → (q : ℕ) → q < z.procs → SeatGood z q (get_or (set s.seats p y) q nobody)
set_good z s p y each long good q below = dite (ℕ_discrete q p)
    (λ is. subst (λ (x : Seat). SeatGood z q x) (sym (ap (λ (j : ℕ). get_or (set s.seats p y) j nobody) is ∙ get_or-set_same s.seats p y nobody (omega (arith, is, below, long)))) (subst (λ (j : ℕ). SeatGood z j y) (sym is) good))
    (λ apart. subst (λ (x : Seat). SeatGood z q x) (sym (get_or-set_other s.seats p q y nobody apart)) (each q below))

abbrev asked : Seat → Ask → Seat
asked x a = record { view = x.view; ask = Some a; waited = false; heard = heard.Nothing }

begun_good : (z : Size) (s : Script) (p : ℕ) (a : Ask) → p < z.procs → Good z s → (seat_at s p).ask ≡ None → AskFits z a → may_begin a (mode_in (ask_lock a) (seat_at s p).view) (seat_at s p).view.pokes ≡ true
    → Good z (record s { seats = set s.seats p (asked (seat_at s p) a) })
begun_good z s p a below good none fits may =
    let x : Seat = seat_at s p in
    let y : Seat = asked x a in
    let old : SeatGood z p x = good.seats p below in
    let same : views_of s.seats ≡ views_of (set s.seats p y) = ap (λ (xs : List Seat). map view_of xs) (sym (set-same nobody s.seats p)) ∙ map-set view_of s.seats p x ∙ sym (map-set view_of s.seats p y) in
    record {
      size = good.size;
      rule = subst (λ (vs : List View). Rule anything z (with_views s.words (slots_of s.homes vs) vs)) same good.rule;
      homes = subst (λ (vs : List View). LieIn (slots_of s.homes vs) s.homes) same good.homes;
      lists = good.lists;
      long = length-set s.seats p y ∙ good.long;
      seats = set_good z s p y good.seats good.long (record { own = old.own; ask = asked_suits z a x.view x.view.place (subst (λ (o : Option Ask). AskSuits z o x.view x.view.place) none old.ask) (fits, may) });
      passed = good.passed;
    }

turn_good : (z : Size) (s : Script) (p : ℕ) (a : Ask) → p < z.procs → Good z s → (seat_at s p).ask ≡ Some a → Good z (turn s p (seat_at s p) a).0
unfolding turn
turn_good z s p a below good asks =
    let x : Seat = seat_at s p in
    let v : View = x.view in
    let mode : Mode = mode_held (mode_in (ask_lock a) v) in
    let k : LwStep = step_at p a mode v.place in
    let n : ℕ = slice_index s.words (word_of s.size p k) in
    let home : List Waiter = get_or s.homes (lock_number k) [] in
    let y : Seat = went k n home x in
    let views : List View = views_of s.seats in
    let slots : Slots = slots_of s.homes views in
    let st : LwState = state_of s.words s.homes s.seats in
    let old : SeatGood z p x = good.seats p below in
    let at : get_elem? views p ≡ maybe.some v = at_map view_of s.seats p x (at_index s.seats p x (omega (arith, below, good.long)) (get_or_default s.seats p nobody x (omega (arith, below, good.long)))) in
    let fits : PlaceFits v.holds v.surplus v.place = (places.mine anything z st good.rule p v at).place in
    let suits : AskSuits z (Some a) v v.place = subst (λ (o : Option Ask). AskSuits z o v v.place) asks old.ask in
    let may : IsInRange z k × Allowed anything k v = permits z p below v old.own a v.place fits (good.rule.frames p v at) suits in
    let numbered : (v.own ≡ None → ⊥) = λ none. (let clash = sym none ∙ old.own in absurd cc) in
    let made : ℕ → Size → List Waiter → LwState = λ m w found.
    (let i = word_of w m k in let j = slice_index s.words i in stepped st i (becomes k j) p ((lock_number k, as_waiters (left_at v.place m)) ∷ []) (next k v j found) (act_of k j found)) in
    let own : machine.number_of v.own ≡ p = ap (λ (o : Option ℕ). machine.number_of o) old.own in
    let one : Rule anything z (made (machine.number_of v.own) z (home_list slots (lock_number k))) = rule_step anything z st good.rule p v at k may.0 numbered may.1 in
    let two : Rule anything z (made p z (home_list slots (lock_number k))) = subst (λ (m : ℕ). Rule anything z (made m z (home_list slots (lock_number k)))) own one in
    let three : Rule anything z (made p z home) = subst (λ (us : List Waiter). Rule anything z (made p z us)) (good.homes (lock_number k)) two in
    let four : Rule anything z (made p s.size home) = subst (λ (w : Size). Rule anything z (made p w home)) (sym good.size) three in
    let words : List ℕ = set s.words (word_of s.size p k) (becomes k n) in
    let homes : List (List Waiter) = set s.homes (lock_number k) (home_after k n v.place p home) in
    let seats : List Seat = set s.seats p y in
    let after : Slots = (made p s.size home).homes in
    let five : Rule anything z (with_views words after (views_of seats)) = subst (λ (vs : List View). Rule anything z (with_views words after vs)) (sym (map-set view_of s.seats p y)) four in
    let lists : length homes ≡ z.locks = length-set s.homes (lock_number k) (home_after k n v.place p home) ∙ good.lists in
    let lies : LieIn after homes = step_lies slots s.homes k n p v.place (good.rule.sized.slots ∙ sym good.lists) good.homes in
    let is : after ≡ slots_of homes (views_of seats) = slots_are z words after (views_of seats) homes five lists lies in
    let rule : Rule anything z (state_of words homes seats) = subst (λ (xs : Slots). Rule anything z (with_views words xs (views_of seats))) is five in
    let goes = lets_go p n home v mode a v.place fits (goes_of z a v v.place suits) in
    let suited : AskSuits z y.ask y.view y.view.place = subst (λ (o : Option Ask). AskSuits z (still y.view.place o) y.view y.view.place) (sym asks) (still_suits z a y.view y.view.place goes) in
    record {
      size = good.size;
      rule = rule;
      homes = subst (λ (xs : Slots). LieIn xs homes) is lies;
      lists = lists;
      long = length-set s.seats p y ∙ good.long;
      seats = set_good z s p y good.seats good.long (record { own = ap (λ (x : Numbers). x.own) (numbers_kept k v n home) ∙ old.own; ask = suited });
      passed = All-push (Rule anything z) s.passed (state_of words homes seats) good.passed rule;
    }

-- what calls and steps keep
begun_keeps : (z : Size) (s : Script) (p : ℕ) (a : Ask) → p < z.procs → Good z s → AskFits z a → (o : Option Ask) → (seat_at s p).ask ≡ o → ComesWith (Good z) (option_map (λ t. let r : Script × List ℕ = (t, []) in r) (begun s p (seat_at s p) o a))
begun_keeps z s p a below good fits (Some other) is = tt
begun_keeps z s p a below good fits None is = by_case (may_begin a (mode_in (ask_lock a) (seat_at s p).view) (seat_at s p).view.pokes) refl
  where
    by_case : (b : Bool) → may_begin a (mode_in (ask_lock a) (seat_at s p).view) (seat_at s p).view.pokes ≡ b
        → ComesWith (Good z) (option_map (λ t. let r : Script × List ℕ = (t, []) in r) (cond b (Some (record s { seats = set s.seats p (asked (seat_at s p) a) })) None))
    by_case true may = begun_good z s p a below good is fits may
    by_case false may = tt

below_from : (z : Size) (s : Script) (p : ℕ) → s.size ≡ z → nat_lt p s.size.procs ≡ true → p < z.procs
below_from z s p is e = let same : s.size.procs ≡ z.procs = ap (λ (w : Size). w.procs) is in grind (arith, nat_tests, e, same)

module _ (z : Size) (locks : (0 < z.locks) × (z.locks ≤ 200)) (procs : (0 < z.procs) × (z.procs ≤ 64)) where
  begins_keep : (s : Script) (p : ℕ) (text : List ℕ) → Good z s → ComesWith (Good z) (silent begins s p text)
  begins_keep s p text good = by_case (nat_lt p s.size.procs) refl (ask_of s.size text) (subst (λ (w : Size). AsksFit z (ask_of w text)) (sym good.size) (named_fits z locks.0 procs.0 (first_word text) (after_word text)))
    where
      by_case : (b : Bool) → nat_lt p s.size.procs ≡ b → (o : Option Ask) → AsksFit z o → ComesWith (Good z) (option_map (λ t. let r : Script × List ℕ = (t, []) in r) (cond b (option_and_then (begun s p (seat_at s p) (seat_at s p).ask) o) None))
      by_case false e o fits = tt
      by_case true e None fits = tt
      by_case true e (Some a) fits = begun_keeps z s p a (below_from z s p good.size e) good fits (seat_at s p).ask refl

  steps_keep : (s : Script) (p : ℕ) → Good z s → ComesWith (Good z) (steps s p)
  steps_keep s p good = by_case (nat_lt p s.size.procs) refl (seat_at s p).ask refl
    where
      by_case : (b : Bool) → nat_lt p s.size.procs ≡ b → (o : Option Ask) → (seat_at s p).ask ≡ o → ComesWith (Good z) (cond b (option_map (turn s p (seat_at s p)) o) None)
      by_case false e o asks = tt
      by_case true e None asks = tt
      by_case true e (Some a) asks = turn_good z s p a (below_from z s p good.size e) good asks

  opening_good : Good z (opening_script z)
  opening_good =
      let meets = opening_meets z locks.1 procs.0 procs.1 in
      let first : ℕ → Seat = λ p. record nobody { view = first_view z p } in
      record {
        size = refl;
        rule = meets.0;
        homes = meets.1;
        lists = length-map-range_with_len (λ _. let none : List Waiter = [] in none) 0 z.locks;
        long = length-map-range_with_len first 0 z.procs;
        seats = λ p below. subst (λ (x : Seat). SeatGood z p x) (sym (get_or-map-range_with_len first 0 z.procs p p nobody below (omega arith))) (record { own = refl; ask = tt });
        passed = All-push (Rule anything z) [] (state_of (first_words z) (first_homes z) (first_seats z)) (λ k d inside. absurd (omega arith)) meets.0;
      }

  ends_meet : (o : Outcome Script) → EndsWith (Good z) o → EachMeetsTheRule z o
  ends_meet (Ended m) good = good.passed
  ends_meet (Bad n) good = tt

  pub all_passed : (rest : List Numbered) → EachMeetsTheRule z (lock_play z rest)
  all_passed rest = ends_meet (lock_play z rest) (played_keeps (Good z) (silent begins) steps begins_keep steps_keep (opening_moment (opening_script z)) rest opening_good)

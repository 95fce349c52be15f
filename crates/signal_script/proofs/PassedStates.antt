-- Each state that a script on signals passes meets the rule.
use Rattle.std.proofs.Common.{◌≡◌, ◌∙◌, ℕ, ◌<◌, ◌≤◌, nat_lt, Bool, true, false, cond, List, [], map, length, set, get_or, Option, None, Some, refl, sym, ap, subst, arith, get_or-set_same, get_or-set_other}
use mathlib.Core.Option as maybe
use mathlib.Core.Logic.{dite}
use native.Mathlib.Decide.{ℕ_discrete}
use lib.ListN.{get_elem?}
use Rattle.std.specs.Prelude.{All, codes, option_map, option_and_then, slice_index}
use Rattle.std.specs.Str.{bytes_eq}
use Rattle.std.proofs.lemmas.Bool.Decides.{nat_tests}
use Rattle.std.proofs.lemmas.List.{get_or_default, length-set}
use Rattle.std.proofs.lemmas.List.Elements.{All-push}
use Rattle.std.proofs.lemmas.List.FromFn.{get_or-map-range_with_len, length-map-range_with_len}
use Rattle.atomic_table.proofs.Lists.{at_index, at_map}
use Rattle.decimal_word.specs.Numbers.{number_of}
use Rattle.decimal_word.proofs.NumberFacts.{number_of-range}
use Rattle.signal_core.specs.declared.step.SigStep.{SigStep}
use Rattle.signal_core.specs.declared.view.About.{About}
use Rattle.signal_core.specs.declared.view.SigView.{SigView}
use Rattle.signal_core.specs.declared.view.Slot.{Slot}
use Rattle.signal_core.specs.Words.{worn}
use Rattle.signal_core.specs.Machine.{Allowed, Place, SigState, after, becomes, next, word_of}
use Rattle.signal_core.specs.Machine as machine
use Rattle.signal_core.specs.Places.{in_hand}
use Rattle.signal_core.specs.Rule.{Rule}
use Rattle.signal_core.specs.Seating.{stance_of}
use Rattle.signal_core.proofs.RuleKept.{machine_kept}
use Rattle.script_play.specs.Lines.{Numbered, after_word, first_word}
use Rattle.script_play.specs.Answers.{opening_moment}
use Rattle.script_play.specs.Play.{Bad, Ended, Outcome, silent}
use Rattle.script_play.proofs.Keeping.{ComesWith, EndsWith, played_keeps}
use Rattle.script_play.proofs.ListFacts.{map-set, set-same}
use Rattle.signal_script.specs.declared.signals.Ask.{Ask}
use Rattle.signal_script.specs.declared.signals.Ask.TheVariants.{Join, Leave, Emit, Absorb}
use Rattle.signal_script.specs.Signals.{ask_named, ask_of, may_begin, step_at, still}
use Rattle.signal_script.specs.SignalScripts.{Script, Seat, begins, begun, first_seats, first_view, first_words, nobody, opening_script, seat_at, signal_play, state_of, steps, turn, went}
use Rattle.signal_script.specs.SignalSketch.{AskFits}
use Rattle.signal_script.specs.Passed.{EachMeetsTheRule, anything}
use Rattle.signal_script.proofs.Crowds.{opening_meets}
use Rattle.signal_script.proofs.MayStep.{AskSuits, CallSuits, HasFailed, failed_after, kind_below, permits}

abbrev view_of : Seat → SigView
view_of x = x.view

-- CALLS
fits_cond : (b : Bool) (o q : Option Ask) → AskFits o → AskFits q → AskFits (cond b o q)
fits_cond true o q h k = h
fits_cond false o q h k = k

emit_fits : (o : Option ℕ) → ((n : ℕ) → o ≡ Some n → n ≤ 31) → AskFits (option_map Emit o)
emit_fits None most = tt
emit_fits (Some n) most = let h = most n refl in omega (arith, h)

absorb_fits : (o : Option ℕ) → AskFits (option_map Absorb o)
absorb_fits None = tt
absorb_fits (Some n) = tt

named_fits : (word : List ℕ) (argument : Option (List ℕ)) → AskFits (ask_named word argument)
named_fits word None = fits_cond (bytes_eq word (codes "join")) (Some Join) _ tt (fits_cond (bytes_eq word (codes "leave")) (Some Leave) _ tt (fits_cond (bytes_eq word (codes "absorb")) (Some (Absorb 0)) None tt tt))
named_fits word (Some argument) = fits_cond (bytes_eq word (codes "emit")) (option_map Emit (number_of 0 31 argument)) _ (emit_fits (number_of 0 31 argument) (λ n is. (number_of-range 0 31 n argument is).1))
    (fits_cond (bytes_eq word (codes "absorb")) _ None (absorb_fits _) tt)

may_suit : (a : Ask) (t : Option Slot) → may_begin a t ≡ true → AskFits (Some a) → CallSuits a t
may_suit Join None may fits = refl
may_suit Join (Some t) may fits = absurd cc
may_suit Leave None may fits = absurd cc
may_suit Leave (Some t) may fits = tt
may_suit (Emit k) t may fits = fits
may_suit (Absorb failing) None may fits = absurd cc
may_suit (Absorb failing) (Some t) may fits = tt

asked_suits : (a : Ask) (p : Place) (t : Option Slot) → CallSuits a t → AskSuits (Some a) p t
asked_suits a None t h = h
asked_suits a (Some f) t h = tt

still_suits : (o : Option Ask) (p : Place) (t : Option Slot) → AskSuits (still p o) p t
still_suits o None t = tt
still_suits None (Some f) t = tt
still_suits (Some a) (Some f) t = tt

-- A SCRIPT whose states all meet it
record SeatGood (p : ℕ) (x : Seat) : Type 0 where
  pub own : x.view.own ≡ Some p
  pub ask : AskSuits x.ask x.view.place x.view.slot
  pub failed : HasFailed x.view.place

record Good (z : About) (s : Script) : Type 0 where
  pub about : s.about ≡ z
  pub rule : Rule anything z (state_of s.words s.seats)
  pub long : length s.seats ≡ z.procs
  pub seats : (p : ℕ) → p < z.procs → SeatGood p (seat_at s p)
  pub passed : All (Rule anything z) s.passed

set_good : (z : About) (s : Script) (p : ℕ) (y : Seat) → ((q : ℕ) → q < z.procs → SeatGood q (seat_at s q)) → length s.seats ≡ z.procs → SeatGood p y → (q : ℕ) → q < z.procs → SeatGood q (get_or (set s.seats p y) q nobody)
set_good z s p y each long good q below = dite (ℕ_discrete q p)
    (λ is. subst (λ (x : Seat). SeatGood q x) (sym (ap (λ (j : ℕ). get_or (set s.seats p y) j nobody) is ∙ get_or-set_same s.seats p y nobody (omega (arith, is, below, long)))) (subst (λ (j : ℕ). SeatGood j y) (sym is) good))
    (λ apart. subst (λ (x : Seat). SeatGood q x) (sym (get_or-set_other s.seats p q y nobody apart)) (each q below))

begun_good : (z : About) (s : Script) (p : ℕ) (a : Ask) → p < z.procs → Good z s → may_begin a (seat_at s p).view.slot ≡ true → AskFits (Some a)
    → Good z (record s { seats = set s.seats p (record (seat_at s p) { ask = Some a }) })
begun_good z s p a below good may fits =
    let x : Seat = seat_at s p in
    let old : SeatGood p x = good.seats p below in
    let same : map view_of s.seats ≡ map view_of (set s.seats p (record x { ask = Some a })) =
    ap (λ (xs : List Seat). map view_of xs) (sym (set-same nobody s.seats p)) ∙ map-set view_of s.seats p x ∙ sym (map-set view_of s.seats p (record x { ask = Some a })) in
    record {
      about = good.about;
      rule = subst (λ (vs : List SigView). Rule anything z (let t : SigState = record { words = s.words; homes = []; views = vs } in t)) same good.rule;
      long = length-set s.seats p (record x { ask = Some a }) ∙ good.long;
      seats = set_good z s p (record x { ask = Some a }) good.seats good.long (record { own = old.own; ask = asked_suits a x.view.place x.view.slot (may_suit a x.view.slot may fits); failed = old.failed });
      passed = good.passed;
    }

turn_good : (z : About) (s : Script) (p : ℕ) (a : Ask) → p < z.procs → Good z s → (seat_at s p).ask ≡ Some a → Good z (turn s p (seat_at s p) a).0
unfolding turn
turn_good z s p a below good asks =
    let x : Seat = seat_at s p in
    let v : SigView = x.view in
    let k : SigStep = step_at p a v.place in
    let n : ℕ = slice_index s.words (word_of p k) in
    let y : Seat = went s.about k n x in
    let views : List SigView = map view_of s.seats in
    let st : SigState = state_of s.words s.seats in
    let old : SeatGood p x = good.seats p below in
    let room : p < length s.seats = omega (arith, below, good.long) in
    let at : get_elem? views p ≡ maybe.some v = at_map view_of s.seats p x (at_index s.seats p x room (get_or_default s.seats p nobody x room)) in
    let stands : get_elem? (map stance_of views) p ≡ maybe.some (stance_of v) = at_map stance_of views p v at in
    let kinds : (j : ℕ) → 1 ≤ in_hand j v.place → j < 32 = λ j more. kind_below (map stance_of views) p j good.rule.shown (good.rule.bits.held p p j (stance_of v) stands old.own more) in
    let suits : AskSuits (Some a) v.place v.slot = subst (λ (o : Option Ask). AskSuits o v.place v.slot) asks old.ask in
    let may : Allowed anything z k v = permits z p below a v.own v.slot v.place old.own (good.rule.places.fits p (stance_of v) stands) (good.rule.shown.under_way p (stance_of v) stands) old.failed kinds suits in
    let made : ℕ → SigState = λ m. record { words = set s.words (word_of m k) (becomes k (slice_index s.words (word_of m k))); homes = []; views = set views p (next z k v (slice_index s.words (word_of m k))) } in
    let own : machine.number_of v.own ≡ p = ap (λ (o : Option ℕ). machine.number_of o) old.own in
    let one : Rule anything z (made p) = subst (λ (m : ℕ). Rule anything z (made m)) own (machine_kept anything z st good.rule p v p at old.own k may) in
    let words : List ℕ = set s.words (word_of p k) (becomes k n) in
    let with_views : List SigView → SigState = λ vs. record { words = words; homes = []; views = vs } in
    let two : Rule anything z (with_views (set views p y.view)) = subst (λ (w : About). Rule anything z (with_views (set views p (next w k v n)))) (sym good.about) one in
    let rule : Rule anything z (state_of words (set s.seats p y)) = subst (λ (vs : List SigView). Rule anything z (with_views vs)) (sym (map-set view_of s.seats p y)) two in
    record {
      about = good.about;
      rule = rule;
      long = length-set s.seats p y ∙ good.long;
      seats = set_good z s p y good.seats good.long (record { own = old.own; ask = still_suits x.ask y.view.place y.view.slot; failed = failed_after s.about p n a v.place old.failed });
      passed = All-push (Rule anything z) s.passed (state_of words (set s.seats p y)) good.passed rule;
    }

-- what calls and steps keep
begun_keeps : (z : About) (s : Script) (p : ℕ) (a : Ask) → p < z.procs → Good z s → AskFits (Some a) → (o : Option Ask) → ComesWith (Good z) (option_map (λ t. let r : Script × List ℕ = (t, []) in r) (begun s p (seat_at s p) o a))
begun_keeps z s p a below good fits (Some other) = tt
begun_keeps z s p a below good fits None = by_case (may_begin a (seat_at s p).view.slot) refl
  where
    by_case : (b : Bool) → may_begin a (seat_at s p).view.slot ≡ b → ComesWith (Good z) (option_map (λ t. let r : Script × List ℕ = (t, []) in r) (cond b (Some (record s { seats = set s.seats p (record (seat_at s p) { ask = Some a }) })) None))
    by_case true may = begun_good z s p a below good may fits
    by_case false may = tt

below_from : (z : About) (s : Script) (p : ℕ) → s.about ≡ z → nat_lt p s.about.procs ≡ true → p < z.procs
below_from z s p is e = let same : s.about.procs ≡ z.procs = ap (λ (w : About). w.procs) is in grind (arith, nat_tests, e, same)

begins_keep : (z : About) (s : Script) (p : ℕ) (call : List ℕ) → Good z s → ComesWith (Good z) (silent begins s p call)
begins_keep z s p call good = by_case (nat_lt p s.about.procs) refl (ask_of call) (named_fits (first_word call) (after_word call))
  where
    by_case : (b : Bool) → nat_lt p s.about.procs ≡ b → (o : Option Ask) → AskFits o → ComesWith (Good z) (option_map (λ t. let r : Script × List ℕ = (t, []) in r) (cond b (option_and_then (begun s p (seat_at s p) (seat_at s p).ask) o) None))
    by_case false e o fits = tt
    by_case true e None fits = tt
    by_case true e (Some a) fits = begun_keeps z s p a (below_from z s p good.about e) good fits (seat_at s p).ask

steps_keep : (z : About) (s : Script) (p : ℕ) → Good z s → ComesWith (Good z) (steps s p)
steps_keep z s p good = by_case (nat_lt p s.about.procs) refl (seat_at s p).ask refl
  where
    by_case : (b : Bool) → nat_lt p s.about.procs ≡ b → (o : Option Ask) → (seat_at s p).ask ≡ o → ComesWith (Good z) (cond b (option_map (turn s p (seat_at s p)) o) None)
    by_case false e o asks = tt
    by_case true e None asks = tt
    by_case true e (Some a) asks = turn_good z s p a (below_from z s p good.about e) good asks

opening_good : (z : About) → 0 < z.procs → z.procs ≤ 64 → z.generation ≤ worn → Good z (opening_script z)
opening_good z some most low =
    let rule : Rule anything z (state_of (first_words z) (first_seats z)) = opening_meets z some most low in
    let first : ℕ → Seat = λ p. record { view = first_view z p; ask = None } in
    record {
      about = refl;
      rule = rule;
      long = length-map-range_with_len first 0 z.procs;
      seats = λ p below. subst (λ (x : Seat). SeatGood p x) (sym (get_or-map-range_with_len first 0 z.procs p p nobody below (omega arith))) (record { own = refl; ask = tt; failed = tt });
      passed = All-push (Rule anything z) [] (state_of (first_words z) (first_seats z)) (λ k d inside. absurd (omega arith)) rule;
    }

ends_meet : (z : About) (o : Outcome Script) → EndsWith (Good z) o → EachMeetsTheRule z o
ends_meet z (Ended m) good = good.passed
ends_meet z (Bad n) good = tt

pub all_passed : (z : About) → 0 < z.procs → z.procs ≤ 64 → z.generation ≤ worn → (rest : List Numbered) → EachMeetsTheRule z (signal_play z rest)
all_passed z some most low rest = ends_meet z (signal_play z rest) (played_keeps (Good z) (silent begins) steps (begins_keep z) (steps_keep z) (opening_moment (opening_script z)) rest (opening_good z some most low))

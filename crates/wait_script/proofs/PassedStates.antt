-- Each state that a script on waits passes meets the rule.
use Rattle.std.proofs.Common.{◌≡◌, ◌∙◌, ℕ, ◌-◌, ◌<◌, ◌≤◌, nat_lt, Bool, true, false, cond, List, [], ◌∷◌, map, length, set, get_or, Option, None, Some, refl, sym, ap, subst, arith, get_or-set_same, get_or-set_other}
use mathlib.Core.Option as maybe
use mathlib.Core.Logic.{dite}
use native.Mathlib.Decide.{ℕ_discrete}
use lib.ListN.{get_elem?}
use Rattle.std.specs.Prelude.{All, codes, option_map, option_and_then, slice_index}
use Rattle.std.specs.List.{range_with_len}
use Rattle.std.specs.Str.{bytes_eq}
use Rattle.std.proofs.lemmas.Bool.Decides.{nat_tests}
use Rattle.std.proofs.lemmas.List.{get_or_default, length-set}
use Rattle.std.proofs.lemmas.List.Elements.{All-push}
use Rattle.std.proofs.lemmas.List.FromFn.{get_or-map-range_with_len, length-map-range_with_len}
use Rattle.atomic_table.proofs.Lists.{at_index, at_map}
use Rattle.decimal_word.specs.Numbers.{number_of}
use Rattle.decimal_word.proofs.NumberFacts.{number_of-range}
use Rattle.wait_core.specs.declared.step.Call.{Call}
use Rattle.wait_core.specs.declared.step.Call.TheVariants as call
use Rattle.wait_core.specs.declared.step.Until.TheVariants.{Latch, LatchOrShutdown}
use Rattle.wait_core.specs.declared.step.WaitStep.{WaitStep}
use Rattle.wait_core.specs.declared.view.Kept.{Kept}
use Rattle.wait_core.specs.declared.view.Size.{Size}
use Rattle.wait_core.specs.Words.{last_phase, most_conditions, slots_in}
use Rattle.wait_core.specs.Fits.{Fits, IsTarget}
use Rattle.wait_core.specs.Lists.{AllBelow}
use Rattle.wait_core.specs.Machine.{Allowed, Permits, Place, Stand, WaitState, act_of, after, becomes, carried, entered as entered_place, home_in, list_of, made_with, next_with, place_then, slot_number, stand_of, taken, word_of}
use Rattle.wait_core.specs.Machine as machine
use Rattle.wait_core.specs.Rule.{Rule}
use Rattle.wait_core.specs.Seating.{standing_of}
use Rattle.wait_core.proofs.RuleKept.{machine_kept, word_inside}
use Rattle.script_play.specs.Lines.{Numbered, after_word, first_word}
use Rattle.script_play.specs.Answers.{opening_moment}
use Rattle.script_play.specs.Play.{Bad, Ended, Outcome}
use Rattle.script_play.proofs.Keeping.{ComesWith, EndsWith, played_keeps}
use Rattle.script_play.proofs.ListFacts.{each-map, each-set, map-set, set-same}
use Rattle.wait_script.specs.declared.waits.Opening.{Opening}
use Rattle.wait_script.specs.declared.waits.Told.TheVariants as told
use Rattle.wait_script.specs.Waits.{ask_of, backend_ask, barrier_ask, condition_ask, has_step, may_begin, named_ask, or_else, plain_ask, step_at, still}
use Rattle.wait_script.specs.WaitScripts.{Script, Seat, begins, begun, entered, first_home, first_view, home_after, home_at, nobody, nothing, opening_script, opening_state, own_of, seat_at, state_of, steps, turn, wait_play, went}
use Rattle.wait_script.specs.Passed.{EachMeetsTheRule, no_client}
use Rattle.wait_script.proofs.Crowds.{View, opening_meets}
use Rattle.wait_script.proofs.MayStep.{AskSuits, CallNames, owes_nothing, permits, step_suits}
use Rattle.wait_script.proofs.NamesKept.{PlaceNames, below_home, names_after}
use Rattle.wait_script.proofs.SlotFacts.{before-spins, slots-follow, slots-long, view-same}

abbrev view_of : Seat → View
view_of x = x.view

-- CALLS name what is the table's
module _ (z : Size) where
  abbrev AskNames : Option Call → Type 0
  AskNames None = Unit {0}
  AskNames (Some a) = CallNames z a

  names_cond : (b : Bool) (o q : Option Call) → AskNames o → AskNames q → AskNames (cond b o q)
  names_cond true o q h k = h
  names_cond false o q h k = k

  names_or : (o q : Option Call) → AskNames o → AskNames q → AskNames (or_else o q)
  names_or None q h k = k
  names_or (Some a) q h k = h

  names_number : (f : ℕ → Option Call) (high : ℕ) (o : Option ℕ) → ((n : ℕ) → o ≡ Some n → n ≤ high) → ((n : ℕ) → n ≤ high → AskNames (f n)) → AskNames (option_and_then f o)
  names_number f high None most each = tt
  names_number f high (Some n) most each = each n (most n refl)

  names_backend : (name : List ℕ) (q : ℕ) → q < z.procs → AskNames (backend_ask name q)
  names_backend name q below = names_cond (bytes_eq name (codes "set")) (Some (call.Set q)) None (below, tt) tt

  names_condition : (name : List ℕ) (c : ℕ) → c < z.cvs → AskNames (condition_ask name c)
  names_condition name c below =
      names_cond (bytes_eq name (codes "prepare")) (Some (call.Prepare c)) _ (tt, below)
      (names_cond (bytes_eq name (codes "sleep")) (Some (call.Sleep c)) _ (tt, below)
      (names_cond (bytes_eq name (codes "signal")) (Some (call.Signal c)) _ (tt, below)
      (names_cond (bytes_eq name (codes "broadcast")) (Some (call.Broadcast c)) None (tt, below) tt)))

  names_barrier : (name : List ℕ) (b : ℕ) → b < z.bars → AskNames (barrier_ask name b)
  names_barrier name b below =
      names_cond (bytes_eq name (codes "attach")) (Some (call.Attach b)) _ (below, tt)
      (names_cond (bytes_eq name (codes "arrive")) (Some (call.Arrive b)) _ (below, tt)
      (names_cond (bytes_eq name (codes "detach")) (Some (call.Detach b)) _ (below, tt)
      (names_cond (bytes_eq name (codes "arrdetach")) (Some (call.ArriveDetach b)) _ (below, tt)
      (names_cond (bytes_eq name (codes "exceptlast")) (Some (call.ExceptLast b)) None (below, tt) tt))))

  names_plain : (name : List ℕ) → AskNames (plain_ask name)
  names_plain name =
      names_cond (bytes_eq name (codes "reset")) (Some call.Reset) _ (tt, tt)
      (names_cond (bytes_eq name (codes "isset")) (Some call.IsSet) _ (tt, tt)
      (names_cond (bytes_eq name (codes "waitlatch")) (Some (call.Wait LatchOrShutdown)) _ (tt, tt)
      (names_cond (bytes_eq name (codes "waitonly")) (Some (call.Wait Latch)) _ (tt, tt)
      (names_cond (bytes_eq name (codes "shut")) (Some call.Shut) _ (tt, tt)
      (names_cond (bytes_eq name (codes "cancel")) (Some call.Cancel) None (tt, tt) tt)))))

  names_ask : (name : List ℕ) (argument : Option (List ℕ)) → 0 < z.procs → 0 < z.cvs → 0 < z.bars → AskNames (named_ask z name argument)
  names_ask name None procs cvs bars = names_plain name
  names_ask name (Some argument) procs cvs bars =
      names_or (option_and_then (backend_ask name) (number_of 0 (z.procs - 1) argument)) _
      (names_number (backend_ask name) (z.procs - 1) _ (λ n is. (number_of-range 0 (z.procs - 1) n argument is).1) (λ n most. names_backend name n (omega arith)))
      (names_or (option_and_then (condition_ask name) (number_of 0 (z.cvs - 1) argument)) _
      (names_number (condition_ask name) (z.cvs - 1) _ (λ n is. (number_of-range 0 (z.cvs - 1) n argument is).1) (λ n most. names_condition name n (omega arith)))
      (names_number (barrier_ask name) (z.bars - 1) _ (λ n is. (number_of-range 0 (z.bars - 1) n argument is).1) (λ n most. names_barrier name n (omega arith))))

asked_suits : (z : Size) (a : Call) (p : Place) (t : Option ℕ) (attached : List (ℕ × ℕ)) → CallNames z a → has_step a t ≡ true → may_begin a attached ≡ true → AskSuits z (Some a) p t attached
asked_suits z a [] t attached names step may = (names, step, may)
asked_suits z a (f ∷ p) t attached names step may = tt

still_suits : (z : Size) (o : Option Call) (p : Place) (t : Option ℕ) (attached : List (ℕ × ℕ)) → AskSuits z (still p o) p t attached
still_suits z o [] t attached = tt
still_suits z None (f ∷ p) t attached = tt
still_suits z (Some a) (f ∷ p) t attached = tt

-- A SCRIPT whose states all meet it
abbrev Meets : Opening → WaitState (Unit {0}) → Type 0
Meets o = Rule no_client o.size o.phase 0

record SeatGood (z : Size) (p : ℕ) (x : Seat) : Type 0 where
  pub own : x.view.own ≡ Some p
  pub ask : AskSuits z x.ask x.view.place x.view.target x.view.attached
  pub names : PlaceNames z x.view.place

record Good (o : Opening) (s : Script) : Type 0 where
  pub opening : s.opening ≡ o
  pub rule : Meets s.opening (state_of s.opening.size s.words s.homes s.seats)
  pub long : length s.seats ≡ s.opening.size.procs
  pub seats : (p : ℕ) → p < s.opening.size.procs → SeatGood s.opening.size p (seat_at s p)
  pub lists : (x : ℕ) → AllBelow s.opening.size.procs (home_at s.homes x).list.items
  pub passed : All (Meets o) s.passed

set_good : (z : Size) (seats : List Seat) (p : ℕ) (y : Seat) → ((q : ℕ) → q < z.procs → SeatGood z q (get_or seats q nobody)) → length seats ≡ z.procs → SeatGood z p y → (q : ℕ) → q < z.procs → SeatGood z q (get_or (set seats p y) q nobody)
set_good z seats p y each long good q below = dite (ℕ_discrete q p)
    (λ is. subst (λ (x : Seat). SeatGood z q x) (sym (ap (λ (j : ℕ). get_or (set seats p y) j nobody) is ∙ get_or-set_same seats p y nobody (omega (arith, is, below, long)))) (subst (λ (j : ℕ). SeatGood z j y) (sym is) good))
    (λ apart. subst (λ (x : Seat). SeatGood z q x) (sym (get_or-set_other seats p q y nobody apart)) (each q below))

entered_good : (o : Opening) (s : Script) (p : ℕ) (a : Call) → p < s.opening.size.procs → Good o s → may_begin a (seat_at s p).view.attached ≡ true → CallNames s.opening.size a → (b : Bool) → has_step a (seat_at s p).view.target ≡ b → Good o (entered s p (seat_at s p) a b).0
entered_good o s p a below good may names false step = good
entered_good o s p a below good may names true step =
    let z : Size = s.opening.size in
    let x : Seat = seat_at s p in
    let y : Seat = record { view = x.view; ask = Some a; told = told.Nothing } in
    let old : SeatGood z p x = good.seats p below in
    let same : map view_of s.seats ≡ map view_of (set s.seats p y) =
    ap (λ (xs : List Seat). map view_of xs) (sym (set-same nobody s.seats p)) ∙ map-set view_of s.seats p x ∙ sym (map-set view_of s.seats p y) in
    record {
      opening = good.opening;
      rule = subst (λ (vs : List View). Meets s.opening (let t : WaitState (Unit {0}) = record (state_of z s.words s.homes s.seats) { views = vs } in t)) same good.rule;
      long = length-set s.seats p y ∙ good.long;
      seats = set_good z s.seats p y good.seats good.long (record { own = old.own; ask = asked_suits z a x.view.place x.view.target x.view.attached names step may; names = old.names });
      lists = good.lists;
      passed = good.passed;
    }

turn_good : (o : Opening) (s : Script) (p : ℕ) (a : Call) → p < s.opening.size.procs → Good o s → (seat_at s p).ask ≡ Some a → Good o (turn s p (seat_at s p) a).0
unfolding turn
turn_good o s p a below good asks =
    let z : Size = s.opening.size in
    let x : Seat = seat_at s p in
    let v : View = x.view in
    let own : ℕ = own_of x in
    let k : WaitStep = step_at own a v.target v.place in
    let i : ℕ = word_of z own k in
    let n : ℕ = slice_index s.words i in
    let home : Kept = home_at s.homes (slot_number k) in
    let y : Seat = went z k n home x in
    let st : WaitState (Unit {0}) = state_of z s.words s.homes s.seats in
    let found : Kept = home_in st.homes (slot_number k) in
    let old : SeatGood z p x = good.seats p below in
    let own_is : own ≡ p = ap (λ (q : Option ℕ). machine.number_of q) old.own in
    let mine : v.own ≡ Some own = old.own ∙ ap Some (sym own_is) in
    let own_below : own < z.procs = omega (arith, own_is, below) in
    let room : p < length s.seats = omega (arith, below, good.long) in
    let at : get_elem? st.views p ≡ maybe.some v = at_map view_of s.seats p x (at_index s.seats p x room (get_or_default s.seats p nobody x room)) in
    let fits : Fits z.cvs v.target v.place = good.rule.places.fits p (standing_of v) (at_map standing_of st.views p v at) in
    let inside : IsTarget z.cvs v.target = good.rule.places.targets p (standing_of v) (at_map standing_of st.views p v at) in
    let suits : AskSuits z (Some a) v.place v.target v.attached = subst (λ (q : Option Call). AskSuits z q v.place v.target v.attached) asks old.ask in
    let may : Permits z k (Some own) v.target v.place = permits z own a v.target v.place v.attached suits inside fits old.names in
    let word = word_inside z own k good.rule.sized.cvs v.target v.place own_below may in
    let small : n ≤ 1 = good.rule.flags i word.0 word.1 in
    let many : length s.homes ≡ slots_in z = sym (slots-long _ s.homes) ∙ good.rule.sized.slots in
    let kept : Meets s.opening (after z st p v k) = machine_kept no_client z s.opening.phase 0 st good.rule p v own at mine owes_nothing k (subst (λ (q : Option ℕ). Permits z k q v.target v.place) (sym mine) may) (step_suits own v z a v.target v.place suits) in
    let words : List ℕ = set s.words i (becomes k n) in
    let homes : List Kept = set s.homes (slot_number k) (home_after k n own v.place home) in
    let slots_are : (after z st p v k).homes ≡ (state_of z words homes s.seats).homes = sym (slots-follow z s.words s.homes good.rule.sized.long many k own n v.place found refl small (before-spins z own k v.target v.place own_below may)) in
    let views_are : (after z st p v k).views ≡ map view_of (set s.seats p y) = ap (λ (w : View). set st.views p w) (view-same z s.words s.homes good.rule.sized.long many k own n v refl) ∙ sym (map-set view_of s.seats p y) in
    let rule : Meets s.opening (state_of z words homes (set s.seats p y)) = subst (Meets s.opening) (λ j. let t : WaitState (Unit {0}) = record { words = words; homes = slots_are j; views = views_are j } in t) kept in
    record {
      opening = good.opening;
      rule = rule;
      long = length-set s.seats p y ∙ good.long;
      seats = set_good z s.seats p y good.seats good.long (record { own = old.own; ask = still_suits z x.ask y.view.place y.view.target y.view.attached; names = names_after z v.target k (Some own) own n home v.place (omega arith) may inside (good.lists (slot_number k)) old.names });
      lists = each-set (λ (h : Kept). AllBelow z.procs h.list.items) nothing s.homes (slot_number k) (home_after k n own v.place home) good.lists (below_home z k n own v.place home own_below old.names (good.lists (slot_number k)));
      passed = All-push (Meets o) s.passed (state_of z words homes (set s.seats p y)) good.passed (subst (λ (w : Opening). Meets w (state_of z words homes (set s.seats p y))) good.opening rule);
    }

-- what calls and steps keep
begun_keeps : (o : Opening) (s : Script) (p : ℕ) (a : Call) → p < s.opening.size.procs → Good o s → CallNames s.opening.size a → (q : Option Call) → ComesWith (Good o) (begun s p (seat_at s p) q a)
begun_keeps o s p a below good names (Some other) = tt
begun_keeps o s p a below good names None = by_case (may_begin a (seat_at s p).view.attached) refl
  where
    by_case : (b : Bool) → may_begin a (seat_at s p).view.attached ≡ b → ComesWith (Good o) (cond b (Some (entered s p (seat_at s p) a (has_step a (seat_at s p).view.target))) None)
    by_case true may = entered_good o s p a below good may names (has_step a (seat_at s p).view.target) refl
    by_case false may = tt

below_from : (p n : ℕ) → nat_lt p n ≡ true → p < n
below_from p n e = grind (arith, nat_tests, e)

begins_keep : (o : Opening) → 0 < o.size.bars → (s : Script) (p : ℕ) (text : List ℕ) → Good o s → ComesWith (Good o) (begins s p text)
begins_keep o some s p text good = by_case (nat_lt p z.procs) refl (ask_of z text) (names_ask z (first_word text) (after_word text) good.rule.sized.procs.0 (let wide = good.rule.sized.bars in omega (arith, bars, wide)) bars)
  where
    z : Size
    z = s.opening.size

    bars : 0 < z.bars
    bars = subst (λ (w : Opening). 0 < w.size.bars) (sym good.opening) some

    by_case : (b : Bool) → nat_lt p z.procs ≡ b → (q : Option Call) → AskNames z q → ComesWith (Good o) (cond b (option_and_then (begun s p (seat_at s p) (seat_at s p).ask) q) None)
    by_case false e q names = tt
    by_case true e None names = tt
    by_case true e (Some a) names = begun_keeps o s p a (below_from p z.procs e) good names (seat_at s p).ask

steps_keep : (o : Opening) (s : Script) (p : ℕ) → Good o s → ComesWith (Good o) (steps s p)
steps_keep o s p good = by_case (nat_lt p s.opening.size.procs) refl (seat_at s p).ask refl
  where
    by_case : (b : Bool) → nat_lt p s.opening.size.procs ≡ b → (q : Option Call) → (seat_at s p).ask ≡ q → ComesWith (Good o) (cond b (option_map (turn s p (seat_at s p)) q) None)
    by_case false e q asks = tt
    by_case true e None asks = tt
    by_case true e (Some a) asks = turn_good o s p a (below_from p s.opening.size.procs e) good asks

opening_good : (o : Opening) → Meets o (opening_state o) → Good o (opening_script o)
opening_good o rule =
    let first : ℕ → Seat = λ p. record { view = first_view o.size p; ask = None; told = told.Nothing } in
    record {
      opening = refl;
      rule = rule;
      long = length-map-range_with_len first 0 o.size.procs;
      seats = λ p below. subst (λ (x : Seat). SeatGood o.size p x) (sym (get_or-map-range_with_len first 0 o.size.procs p p nobody below (omega arith))) (record { own = refl; ask = tt; names = tt });
      lists = each-map (λ (h : Kept). AllBelow o.size.procs h.list.items) (λ _. first_home o.phase) nothing (range_with_len 0 (slots_in o.size)) (λ _. tt) tt;
      passed = All-push (Meets o) [] (opening_state o) (λ k d inside. absurd (omega arith)) rule;
    }

ends_meet : (o : Opening) (q : Outcome Script) → EndsWith (Good o) q → EachMeetsTheRule o q
ends_meet o (Ended m) good = good.passed
ends_meet o (Bad n) good = tt

pub all_passed : (o : Opening) → 0 < o.size.procs → o.size.procs ≤ 64 → o.size.cvs ≤ most_conditions → 0 < o.size.bars → o.size.bars ≤ o.size.cvs → o.phase ≤ last_phase → (rest : List Numbered) → EachMeetsTheRule o (wait_play o rest)
all_passed o some most few bars wide low rest = ends_meet o (wait_play o rest) (played_keeps (Good o) begins steps (begins_keep o bars) (steps_keep o) (opening_moment (opening_script o)) rest (opening_good o (opening_meets o some most few wide low)))

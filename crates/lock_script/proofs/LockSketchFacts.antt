-- A sketch of a lock machine goes on as the script that it is of.
use Rattle.std.proofs.Common.{◌≡◌, ◌∙◌, ℕ, zero, suc, ◌+◌, ◌++◌, nat_lt, Bool, true, false, cond, List, [], ◌∷◌, map, set, get_or, Option, None, Some, eqb, refl, sym, ap, arith}
use Rattle.std.proofs.lemmas.Bool.Decides.{nat_tests}
use Rattle.std.specs.Prelude.{option_map, option_and_then, slice_index, slice_index_or, ◌||◌, replicate}
use Rattle.std.specs.List.{range_with_len}
use Rattle.std.proofs.Math.ListN.{get_or-map}
use Rattle.proc_table.specs.declared.Mode.{Mode}
use Rattle.lw_core.specs.declared.step.Call.{Call}
use Rattle.lw_core.specs.declared.step.Call.TheVariants as call
use Rattle.lw_core.specs.declared.step.LwStep.{LwStep}
use Rattle.lw_core.specs.declared.step.LwStep.TheVariants as kind
use Rattle.lw_core.specs.declared.view.Frame.TheVariants as frame
use Rattle.lw_core.specs.declared.view.Hold.{Hold}
use Rattle.lw_core.specs.declared.view.Size.{Size}
use Rattle.lw_core.specs.declared.view.View.{View}
use Rattle.lw_core.specs.declared.view.Waiter.{Waiter}
use Rattle.lw_core.specs.Machine.{Place, becomes, gripped, guard_hold, held, hold_in, lock_number, mode_in, moved, next, not_held, on_grant, outer, poked_by, waits_after, word_of}
use Rattle.lw_core.specs.Sending.{modes_then, pokes_by}
use Rattle.lock_script.specs.declared.locks.Ask.{Ask}
use Rattle.lock_script.specs.declared.locks.Heard.TheVariants as heard
use Rattle.lock_script.specs.Locks.{answer, answer_line, ask_lock, ask_of, ended, heard_after, may_begin, mode_held, step_at, step_line, still}
use Rattle.lock_script.specs.LockScripts.{Script, Seat, home_after, lock_play, nobody, seat_at}
use Rattle.lock_script.specs.LockScripts as script
use Rattle.lock_script.specs.LockSketch.{Sketch, Stand, begun_with, idle, mode_at, no_modes, place_after, stand_at, standing, started, surplus_after, waited_after, with_stand}
use Rattle.lock_script.specs.LockSketch as sketch
use Rattle.script_play.specs.Lines.{Numbered}
use Rattle.script_play.specs.Play.{played, silent}
use Rattle.script_play.specs.Answers.{answer_by, opening_moment}
use Rattle.script_play.proofs.Likeness.{played_alike}
use Rattle.script_play.proofs.PlayFacts.{silent-alike}
use Rattle.script_play.proofs.ListFacts.{map-set}

abbrev pub mode_of : Hold → Option Mode
mode_of h = h.mode

abbrev pub stand_of : Seat → Stand
stand_of x = record { ask = x.ask; place = x.view.place; modes = map mode_of x.view.holds; surplus = x.view.surplus; pokes = x.view.pokes; waited = x.waited; heard = x.heard }

abbrev pub sketch_of : Script → Sketch
sketch_of s = record { size = s.size; words = s.words; homes = s.homes; stands = map stand_of s.seats }

-- a hold with the same mode leaves the modes as they were
same-modes : (hs : List Hold) (i : ℕ) (h : Hold) → h.mode ≡ (get_or hs i not_held).mode → map mode_of (set hs i h) ≡ map mode_of hs
same-modes [] i h is = refl
same-modes (g ∷ gs) zero h is = ap (λ (m : Option Mode). m ∷ map mode_of gs) is
same-modes (g ∷ gs) (suc i) h is = ap (λ (t : List (Option Mode)). g.mode ∷ t) (same-modes gs i h is)

no_modes-are : map mode_of (replicate 200 not_held) ≡ no_modes
unfolding no_modes
no_modes-are = refl

mode_is : (x : Seat) (l : ℕ) → mode_at (stand_of x).modes l ≡ mode_in l x.view
mode_is x l = get_or-map mode_of x.view.holds l not_held

stand_is : (s : Script) (p : ℕ) → stand_at (sketch_of s) p ≡ stand_of (seat_at s p)
stand_is s p = ap (λ (d : Stand). get_or (map stand_of s.seats) p d) idle-is ∙ get_or-map stand_of s.seats p nobody
  where
    idle-is : idle ≡ stand_of nobody
    idle-is = ap (λ (ms : List (Option Mode)). let t : Stand = record idle { modes = ms } in t) (sym no_modes-are)

-- WHAT THE NEXT VIEW has follows from the place and the surplus
poked-place : (b : Option Call) (v : View) → (poked_by b v).place ≡ v.place
poked-place None v = refl
poked-place (Some (call.Try l m)) v = refl
poked-place (Some (call.Acquire l m)) v = refl
poked-place (Some (call.AcquireOrWait l m)) v = refl
poked-place (Some (call.Release l)) v = refl
poked-place (Some (call.WaitForVar l old)) v = refl
poked-place (Some (call.UpdateVar l x)) v = refl
poked-place (Some (call.ReleaseClearVar l x)) v = refl
poked-place (Some call.Down) v = refl
poked-place (Some (call.Poke q)) v = refl

poked-holds : (b : Option Call) (v : View) → (poked_by b v).holds ≡ v.holds
poked-holds None v = refl
poked-holds (Some (call.Try l m)) v = refl
poked-holds (Some (call.Acquire l m)) v = refl
poked-holds (Some (call.AcquireOrWait l m)) v = refl
poked-holds (Some (call.Release l)) v = refl
poked-holds (Some (call.WaitForVar l old)) v = refl
poked-holds (Some (call.UpdateVar l x)) v = refl
poked-holds (Some (call.ReleaseClearVar l x)) v = refl
poked-holds (Some call.Down) v = refl
poked-holds (Some (call.Poke q)) v = refl

poked-surplus : (b : Option Call) (v : View) → (poked_by b v).surplus ≡ v.surplus
poked-surplus None v = refl
poked-surplus (Some (call.Try l m)) v = refl
poked-surplus (Some (call.Acquire l m)) v = refl
poked-surplus (Some (call.AcquireOrWait l m)) v = refl
poked-surplus (Some (call.Release l)) v = refl
poked-surplus (Some (call.WaitForVar l old)) v = refl
poked-surplus (Some (call.UpdateVar l x)) v = refl
poked-surplus (Some (call.ReleaseClearVar l x)) v = refl
poked-surplus (Some call.Down) v = refl
poked-surplus (Some (call.Poke q)) v = refl

poked-waits : (b : Option Call) (v : View) → (poked_by b v).waits ≡ v.waits
poked-waits None v = refl
poked-waits (Some (call.Try l m)) v = refl
poked-waits (Some (call.Acquire l m)) v = refl
poked-waits (Some (call.AcquireOrWait l m)) v = refl
poked-waits (Some (call.Release l)) v = refl
poked-waits (Some (call.WaitForVar l old)) v = refl
poked-waits (Some (call.UpdateVar l x)) v = refl
poked-waits (Some (call.ReleaseClearVar l x)) v = refl
poked-waits (Some call.Down) v = refl
poked-waits (Some (call.Poke q)) v = refl

poked-pokes : (q : ℕ) (b : Option Call) (v : View) → (poked_by b v).pokes ≡ v.pokes + pokes_by (kind.Post q b)
poked-pokes q None v = omega arith
poked-pokes q (Some (call.Try l m)) v = omega arith
poked-pokes q (Some (call.Acquire l m)) v = omega arith
poked-pokes q (Some (call.AcquireOrWait l m)) v = omega arith
poked-pokes q (Some (call.Release l)) v = omega arith
poked-pokes q (Some (call.WaitForVar l old)) v = omega arith
poked-pokes q (Some (call.UpdateVar l x)) v = omega arith
poked-pokes q (Some (call.ReleaseClearVar l x)) v = omega arith
poked-pokes q (Some call.Down) v = omega arith
poked-pokes q (Some (call.Poke r)) v = refl

either : {A : Type 0} (f : View → A) (b : Bool) (x y : View) → f (cond b x y) ≡ cond b (f x) (f y)
either f true x y = refl
either f false x y = refl

same : {A : Type 0} (b : Bool) (x : A) → cond b x x ≡ x
same true x = refl
same false x = refl

place_alike : (k : LwStep) (n : ℕ) (home : List Waiter) (v : View) → (next k v n home).place ≡ place_after k n home v.surplus v.place
place_alike (kind.Load l begins) n home v = refl
place_alike (kind.Grant l m w) n home v = either (λ u. u.place) (eqb n w) _ _ ∙ sym (either (λ u. u.place) (eqb n w) _ _)
place_alike (kind.Refuse l m w) n home v = refl
place_alike (kind.Sub l m begins) n home v = refl
place_alike (kind.Peek l begins) n home v = refl
place_alike (kind.Guard l k o) n home v = refl
place_alike (kind.Lock l begins) n home v = refl
place_alike (kind.VarLoad l) n home v = refl
place_alike (kind.VarStore l x) n home v = refl
place_alike (kind.Unlock l clears) n home v = refl
place_alike (kind.Flag l) n home v = refl
place_alike (kind.WaitStore q x) n home v = refl
place_alike kind.WaitLoad n home v = refl
place_alike (kind.Wake l w to) n home v = refl
place_alike (kind.Post q begins) n home v = poked-place begins _ ∙ sym (poked-place begins _)
place_alike (kind.Look begins) n home v = refl
place_alike kind.Down n home v = refl
place_alike (kind.SetReleaseOk l) n home v = refl

surplus_alike : (k : LwStep) (n : ℕ) (home : List Waiter) (v : View) → (next k v n home).surplus ≡ surplus_after k n v.surplus v.place
surplus_alike (kind.Load l begins) n home v = refl
surplus_alike (kind.Grant l m w) n home v = either (λ u. u.surplus) (eqb n w) _ _ ∙ sym (either (λ u. u.surplus) (eqb n w) _ _)
surplus_alike (kind.Refuse l m w) n home v = refl
surplus_alike (kind.Sub l m begins) n home v = refl
surplus_alike (kind.Peek l begins) n home v = refl
surplus_alike (kind.Guard l k o) n home v = refl
surplus_alike (kind.Lock l begins) n home v = refl
surplus_alike (kind.VarLoad l) n home v = refl
surplus_alike (kind.VarStore l x) n home v = refl
surplus_alike (kind.Unlock l clears) n home v = refl
surplus_alike (kind.Flag l) n home v = refl
surplus_alike (kind.WaitStore q x) n home v = refl
surplus_alike kind.WaitLoad n home v = refl
surplus_alike (kind.Wake l w to) n home v = refl
surplus_alike (kind.Post q begins) n home v = poked-surplus begins _ ∙ sym (poked-surplus begins _)
surplus_alike (kind.Look begins) n home v = refl
surplus_alike kind.Down n home v = refl
surplus_alike (kind.SetReleaseOk l) n home v = refl

pokes_alike : (k : LwStep) (n : ℕ) (home : List Waiter) (v : View) → (next k v n home).pokes ≡ v.pokes + pokes_by k
pokes_alike (kind.Load l begins) n home v = omega arith
pokes_alike (kind.Grant l m w) n home v = either (λ u. u.pokes) (eqb n w) _ _ ∙ same (eqb n w) v.pokes ∙ (omega arith)
pokes_alike (kind.Refuse l m w) n home v = omega arith
pokes_alike (kind.Sub l m begins) n home v = omega arith
pokes_alike (kind.Peek l begins) n home v = omega arith
pokes_alike (kind.Guard l k o) n home v = omega arith
pokes_alike (kind.Lock l begins) n home v = omega arith
pokes_alike (kind.VarLoad l) n home v = omega arith
pokes_alike (kind.VarStore l x) n home v = omega arith
pokes_alike (kind.Unlock l clears) n home v = omega arith
pokes_alike (kind.Flag l) n home v = omega arith
pokes_alike (kind.WaitStore q x) n home v = omega arith
pokes_alike kind.WaitLoad n home v = omega arith
pokes_alike (kind.Wake l w to) n home v = omega arith
pokes_alike (kind.Post q begins) n home v = poked-pokes q begins _
pokes_alike (kind.Look begins) n home v = omega arith
pokes_alike kind.Down n home v = omega arith
pokes_alike (kind.SetReleaseOk l) n home v = omega arith

modes_alike : (k : LwStep) (n : ℕ) (home : List Waiter) (v : View) → map mode_of (next k v n home).holds ≡ modes_then k n (map mode_of v.holds)
modes_alike (kind.Load l begins) n home v = refl
modes_alike (kind.Grant l m w) n home v = granted (eqb n w)
  where
    granted : (b : Bool) → map mode_of (cond b (gripped v (kind.Grant l m w) l n (on_grant v.surplus (outer v.place)) (held m) (v.grants + 1)) (moved v (kind.Grant l m w) n (frame.Trying l m n ∷ outer v.place))).holds ≡ cond b (set (map mode_of v.holds) l (Some m)) (map mode_of v.holds)
    granted true = map-set mode_of v.holds l (held m)
    granted false = refl
modes_alike (kind.Refuse l m w) n home v = refl
modes_alike (kind.Sub l m begins) n home v = map-set mode_of v.holds l not_held
modes_alike (kind.Peek l begins) n home v = refl
modes_alike (kind.Guard l k o) n home v = same-modes v.holds l (guard_hold o (hold_in l v) k n) refl
modes_alike (kind.Lock l begins) n home v = refl
modes_alike (kind.VarLoad l) n home v = refl
modes_alike (kind.VarStore l x) n home v = refl
modes_alike (kind.Unlock l clears) n home v = refl
modes_alike (kind.Flag l) n home v = refl
modes_alike (kind.WaitStore q x) n home v = refl
modes_alike kind.WaitLoad n home v = refl
modes_alike (kind.Wake l w to) n home v = refl
modes_alike (kind.Post q begins) n home v = ap (λ (hs : List Hold). map mode_of hs) (poked-holds begins _)
modes_alike (kind.Look begins) n home v = refl
modes_alike kind.Down n home v = refl
modes_alike (kind.SetReleaseOk l) n home v = refl

-- the sleep of an acquire ends at this step in the one view where it ends in the other
not-below : (n : ℕ) → nat_lt n n ≡ false
not-below n = grind (arith, nat_tests)

below-more : (n : ℕ) → nat_lt n (n + 1) ≡ true
below-more n = grind (arith, nat_tests)

answered-waits : (p : Place) (n : ℕ) → nat_lt n (waits_after p n) ≡ nat_lt 0 (waits_after p 0)
answered-waits [] n = not-below n
answered-waits (frame.Woken l m ∷ p) n = below-more n
answered-waits (f ∷ p) n = not-below n

waits_alike : (k : LwStep) (n : ℕ) (home : List Waiter) (v : View) → nat_lt v.waits (next k v n home).waits ≡ nat_lt 0 (next k (standing 0 v.place) n []).waits
waits_alike (kind.Load l begins) n home v = not-below v.waits
waits_alike (kind.Grant l m w) n home v = granted (eqb n w)
  where
    granted : (b : Bool) → nat_lt v.waits (cond b (gripped v (kind.Grant l m w) l n (on_grant v.surplus (outer v.place)) (held m) (v.grants + 1)) (moved v (kind.Grant l m w) n (frame.Trying l m n ∷ outer v.place))).waits
        ≡ nat_lt 0 (cond b (gripped (standing 0 v.place) (kind.Grant l m w) l n (on_grant 0 (outer v.place)) (held m) 1) (moved (standing 0 v.place) (kind.Grant l m w) n (frame.Trying l m n ∷ outer v.place))).waits
    granted true = not-below v.waits
    granted false = not-below v.waits
waits_alike (kind.Refuse l m w) n home v = not-below v.waits
waits_alike (kind.Sub l m begins) n home v = not-below v.waits
waits_alike (kind.Peek l begins) n home v = not-below v.waits
waits_alike (kind.Guard l k o) n home v = not-below v.waits
waits_alike (kind.Lock l begins) n home v = not-below v.waits
waits_alike (kind.VarLoad l) n home v = not-below v.waits
waits_alike (kind.VarStore l x) n home v = not-below v.waits
waits_alike (kind.Unlock l clears) n home v = not-below v.waits
waits_alike (kind.Flag l) n home v = not-below v.waits
waits_alike (kind.WaitStore q x) n home v = not-below v.waits
waits_alike kind.WaitLoad n home v = not-below v.waits
waits_alike (kind.Wake l w to) n home v = not-below v.waits
waits_alike (kind.Post q begins) n home v = ap (λ (m : ℕ). nat_lt v.waits m) (poked-waits begins _) ∙ not-below v.waits ∙ sym (ap (λ (m : ℕ). nat_lt 0 m) (poked-waits begins _))
waits_alike (kind.Look begins) n home v = not-below v.waits
waits_alike kind.Down n home v = not-below v.waits
waits_alike (kind.SetReleaseOk l) n home v = answered-waits v.place v.waits

abbrev made : LwStep → ℕ → Seat → Place → List (Option Mode) → ℕ → ℕ → Bool → Stand
made k n x p ms s ps w = record { ask = still p x.ask; place = p; modes = ms; surplus = s; pokes = ps; waited = w || x.waited; heard = heard_after k n x.heard }

went_alike : (k : LwStep) (n : ℕ) (home : List Waiter) (x : Seat) → sketch.went k n home (stand_of x) ≡ stand_of (script.went k n home x)
went_alike k n home x =
    let v : View = next k x.view n home in
    let p : Place = place_after k n home x.view.surplus x.view.place in
    let ms : List (Option Mode) = modes_then k n (map mode_of x.view.holds) in
    let s : ℕ = surplus_after k n x.view.surplus x.view.place in
    let w : Bool = nat_lt x.view.waits v.waits in
    sym (ap (λ (q : Place). made k n x q (map mode_of v.holds) v.surplus v.pokes w) (place_alike k n home x.view)
    ∙ ap (λ (q : List (Option Mode)). made k n x p q v.surplus v.pokes w) (modes_alike k n home x.view)
    ∙ ap (λ (q : ℕ). made k n x p ms q v.pokes w) (surplus_alike k n home x.view)
    ∙ ap (λ (q : ℕ). made k n x p ms s q w) (pokes_alike k n home x.view)
    ∙ ap (λ (q : Bool). made k n x p ms s (x.view.pokes + pokes_by k) q) (waits_alike k n home x.view))

begin_case : (s : Script) (p : ℕ) (x : Seat) (ask : Option Ask) (a : Ask) → option_map (with_stand (sketch_of s) p) (started (stand_of x) ask a) ≡ option_map sketch_of (script.begun s p x ask a)
begin_case s p x (Some other) a = refl
begin_case s p x None a = rw (mode_is x (ask_lock a)) (by_case (record { view = x.view; ask = Some a; waited = false; heard = heard.Nothing }) (may_begin a (mode_in (ask_lock a) x.view) x.view.pokes))
  where
    by_case : (y : Seat) (b : Bool) → option_map (with_stand (sketch_of s) p) (cond b (Some (stand_of y)) None) ≡ option_map sketch_of (cond b (Some (record s { seats = set s.seats p y })) None)
    by_case y true = ap (λ (bs : List Stand). Some (let t : Sketch = record { size = s.size; words = s.words; homes = s.homes; stands = bs } in t)) (sym (map-set stand_of s.seats p y))
    by_case y false = refl

pub begin_alike : (s : Script) (p : ℕ) (text : List ℕ) → sketch.begins (sketch_of s) p text ≡ option_map sketch_of (script.begins s p text)
begin_alike s p text = rw (stand_is s p) (by_case (nat_lt p s.size.procs) (ask_of s.size text))
  where
    by_case : (b : Bool) (o : Option Ask) → cond b (option_and_then (begun_with (sketch_of s) p (stand_of (seat_at s p))) o) None ≡ option_map sketch_of (cond b (option_and_then (script.begun s p (seat_at s p) (seat_at s p).ask) o) None)
    by_case false o = refl
    by_case true None = refl
    by_case true (Some a) = begin_case s p (seat_at s p) (seat_at s p).ask a

abbrev with_step : Script → ℕ → Seat → Ask → LwStep → Stand → Sketch × List ℕ
with_step s p x a j c =
    let m = slice_index s.words (word_of s.size p j) in
    let t : Sketch = record {
      size = s.size;
      words = set s.words (word_of s.size p j) (becomes j m);
      homes = set s.homes (lock_number j) (home_after j m x.view.place p (slice_index_or s.homes (lock_number j) []));
      stands = set (map stand_of s.seats) p c;
    } in
    (t, sketch.told s.size p a j m c)

abbrev with_mode : Script → ℕ → Seat → Ask → Option Mode → Sketch × List ℕ
with_mode s p x a o =
    let j = step_at p a (mode_held o) x.view.place in
    with_step s p x a j (sketch.went j (slice_index s.words (word_of s.size p j)) (slice_index_or s.homes (lock_number j) []) (stand_of x))

turn_alike : (s : Script) (p : ℕ) (x : Seat) (a : Ask) → sketch.turn (sketch_of s) p (stand_of x) a ≡ (let t = script.turn s p x a in (sketch_of t.0, t.1))
unfolding sketch.turn script.turn
turn_alike s p x a =
    let k : LwStep = step_at p a (mode_held (mode_in (ask_lock a) x.view)) x.view.place in
    let n : ℕ = slice_index s.words (word_of s.size p k) in
    let home : List Waiter = slice_index_or s.homes (lock_number k) [] in
    let y : Seat = script.went k n home x in
    let words : List ℕ = set s.words (word_of s.size p k) (becomes k n) in
    let homes : List (List Waiter) = set s.homes (lock_number k) (home_after k n x.view.place p home) in
    let line : Option Mode → List ℕ = λ o. step_line s.size p k n (word_of s.size p k) (becomes k n) ++ ended y.ask (answer_line p (answer a n o y.waited y.heard)) in
    let with_answer : Option Mode → Sketch × List ℕ = λ o. (let t : Sketch = record { size = s.size; words = words; homes = homes; stands = set (map stand_of s.seats) p (stand_of y) } in (t, line o)) in
    let with_stands : List Stand → Sketch × List ℕ = λ bs. (let t : Sketch = record { size = s.size; words = words; homes = homes; stands = bs } in (t, line (mode_in (ask_lock a) y.view))) in
    ap (λ (o : Option Mode). with_mode s p x a o) (mode_is x (ask_lock a)) ∙ ap (λ (c : Stand). with_step s p x a k c) (went_alike k n home x) ∙ ap with_answer (mode_is y (ask_lock a)) ∙ ap with_stands (sym (map-set stand_of s.seats p y))

pub step_alike : (s : Script) (p : ℕ) → sketch.steps (sketch_of s) p ≡ option_map (λ t. (sketch_of t.0, t.1)) (script.steps s p)
step_alike s p = rw (stand_is s p) (by_case (nat_lt p s.size.procs) (seat_at s p).ask)
  where
    by_case : (b : Bool) (o : Option Ask) → cond b (option_map (sketch.turn (sketch_of s) p (stand_of (seat_at s p))) o) None ≡ option_map (λ t. (sketch_of t.0, t.1)) (cond b (option_map (script.turn s p (seat_at s p)) o) None)
    by_case false o = refl
    by_case true None = refl
    by_case true (Some a) = ap Some (turn_alike s p (seat_at s p) a)

-- the opening of the one is that of the other
map-map-idle : (f : ℕ → Seat) (xs : List ℕ) → ((p : ℕ) → stand_of (f p) ≡ idle) → map (λ _. idle) xs ≡ map stand_of (map f xs)
map-map-idle f [] each = refl
map-map-idle f (x ∷ xs) each = rw (each x, ← map-map-idle f xs each) refl

pub opening_alike : (z : Size) → sketch.opening_sketch z ≡ sketch_of (script.opening_script z)
opening_alike z = ap (λ (bs : List Stand). let t : Sketch = record { size = z; words = script.first_words z; homes = script.first_homes z; stands = bs } in t)
    (map-map-idle (λ p. record { view = script.first_view z p; ask = None; waited = false; heard = heard.Nothing }) (range_with_len 0 z.procs) (λ _. ap (λ (ms : List (Option Mode)). let t : Stand = record idle { modes = ms } in t) no_modes-are))

-- so a sketch plays a script as the machine does
pub lock_sketch_plays : (z : Size) (rest : List Numbered) → answer_by sketch.ends (played (silent sketch.begins) sketch.steps (opening_moment (sketch.opening_sketch z)) rest) ≡ answer_by script.ends (lock_play z rest)
lock_sketch_plays z rest = rw (opening_alike z)
    (played_alike sketch_of (silent script.begins) script.steps (silent sketch.begins) sketch.steps (λ s p call. silent-alike sketch_of (script.begins s p call) (sketch.begins (sketch_of s) p call) (begin_alike s p call)) step_alike script.ends sketch.ends (λ s. refl) (opening_moment (script.opening_script z)) rest)

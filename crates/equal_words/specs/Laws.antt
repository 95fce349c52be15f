-- Each move of a seat, and each step of its barriers, keeps the law.
use Rattle.std.proofs.Common.{◌≡◌, ◌≢◌, ◌⊎◌, Option, Some, None, ℕ, suc, ◌+◌, ◌%◌, ◌^◌, ◌<◌, ◌≤◌, List, [], ◌∷◌, ◌++◌, length, get_or, set, refl, sym, ap, ◌∙◌, arith, length-set, length-append, get_or-set_same, get_or-set_other}
use mathlib.Core.Logic.{dite}
use mathlib.Core.Option.{some}
use native.Mathlib.Decide.{ℕ_discrete}
use lib.ListN.{get_elem?}
use Rattle.atomic_table.proofs.Lists.{set_else}
use Rattle.wait_core.specs.Ops.{op_at, op_gives}
use Rattle.wait_core.specs.Parties.{now, phase_of, with_client, newcomer, joined, left_over, elected, IsStep, IsJoin, IsEnter, IsNotice, IsElection, IsPass, IsLeave}
use Rattle.wait_core.specs.declared.view.PartyView.{PartyView}
use Rattle.seat_roster.proofs.Totals.{total_set, total_snoc, total_none}
use Rattle.seat_roster.proofs.Stretches.{each_set, each_more}
use Rattle.equal_words.specs.declared.Move.{Move}
use Rattle.equal_words.specs.declared.Move.TheVariants.{AddFirst, AddSecond, LookFirst, LookSecond}
use Rattle.equal_words.specs.declared.Progress.{Progress}
use Rattle.equal_words.specs.declared.Progress.TheVariants.{Fresh, Between, Done, Read}
use Rattle.equal_words.specs.Turns.{move_op, IsPast, MayMove, moved, IsQuiet, Passes, is_fresh, is_between, fresh_of, between_of, IsInside, HasRead, Lawful}

abbrev V : Type 0
V = PartyView Progress

pub move_inside : (m : Move) → op_at (move_op m) < 2
move_inside AddFirst = omega arith
move_inside AddSecond = omega arith
move_inside LookFirst = omega arith
move_inside LookSecond = omega arith

-- PHASES AND PROGRESS
none_some : (n : ℕ) → None ≡ Some n → ⊥
none_some n e = cc

same_phase : (n m : ℕ) → Some n ≡ Some m → n ≡ m
same_phase n m e = cc

same_read : (n m : ℕ) → Read n ≡ Read m → n ≡ m
same_read n m e = cc

not_between : (p : Progress) → (p ≡ Between → ⊥) → is_between p ≡ 0
not_between Fresh isnt = refl
not_between Between isnt = absurd (isnt refl)
not_between Done isnt = refl
not_between (Read n) isnt = refl

-- past phase 0 nobody is in between
past_between : (phases : List ℕ) (v : V) → IsInside phases v → 0 < now phases 0 → between_of v ≡ 0
past_between phases v inside past = not_between v.client (λ is. let stands = (inside is).1 in absurd (omega arith))

-- who is attached to nothing isn't in between
away_between : (phases : List ℕ) (v : V) → IsInside phases v → phase_of v.attached 0 ≡ None → between_of v ≡ 0
away_between phases v inside away = not_between v.client (λ is. none_some 0 (sym away ∙ (inside is).0))

-- THE WORDS
-- 1 was added to the word at a place, and the other word is as before
added_one : (words : List ℕ) (at other : ℕ) → length words ≡ 2 → at < 2 → other ≢ at → get_or words at 0 ≤ 64
    → let after = set words at ((get_or words at 0 + 1) % 2 ^ 64) in (length after ≡ 2) × (get_or after at 0 ≡ get_or words at 0 + 1) × (get_or after other 0 ≡ get_or words other 0)
added_one words at other two inside apart few =
    let x : ℕ = (get_or words at 0 + 1) % 2 ^ 64 in (
      length-set words at x ∙ two,
      get_or-set_same words at x 0 (omega arith) ∙ Rattle.std.proofs.Common.mod-eq_of_lt (omega arith),
      get_or-set_other words at other x 0 apart,
    )

-- a load leaves each word
loaded : (words : List ℕ) (at i : ℕ) → at < length words → get_or (set words at (get_or words at 0)) i 0 ≡ get_or words i 0
loaded words at i inside = dite (ℕ_discrete i at) (λ is. ap (λ (k : ℕ). get_or (set words at (get_or words at 0)) k 0) is ∙ (get_or-set_same words at (get_or words at 0) 0 inside ∙ ap (λ (k : ℕ). get_or words k 0) (sym is))) (λ apart. get_or-set_other words at i (get_or words at 0) 0 apart)

-- the words change as a seat's view does, and past phase 0 they don't
changes : (words after : List ℕ) (views : List V) (phases : List ℕ) (id : ℕ) (v w : V) → Lawful words views phases → get_elem? views id ≡ some v → length after ≡ 2
    → get_or after 0 0 + get_or words 1 0 + between_of v ≡ get_or words 0 0 + get_or after 1 0 + between_of w → get_or after 0 0 + fresh_of w ≤ get_or words 0 0 + fresh_of v
    → (0 < now phases 0 → (get_or after 0 0 ≡ get_or words 0 0) × (get_or after 1 0 ≡ get_or words 1 0)) → IsInside phases w → HasRead after phases w → Lawful after (set views id w) phases
changes words after views phases id v w b at two turns begun still inside read =
    let m = total_set between_of views id v w at in
    let f = total_set fresh_of views id v w at in
    let ahead = b.ahead in
    let once = b.once in
    let long = length-set views id w in
    record {
      two = two;
      ahead = omega arith;
      once = omega arith;
      inside = each_set (IsInside phases) views id w b.inside inside;
      equal = λ past. let s = still past in let e = b.equal past in s.0 ∙ (e ∙ sym s.1);
      read = each_set (HasRead after phases) views id w (λ j u e n is. let r = b.read j u e n is in (r.0, (still r.0).0 ∙ r.1)) read;
    }

-- A SEAT'S MOVES
looks : (words : List ℕ) (views : List V) (phases : List ℕ) (id at : ℕ) (v : V) → Lawful words views phases → IsStep views phases id v → IsPast v → at < 2
    → get_or words at 0 ≡ get_or words 0 0 → let n = get_or words at 0 in Lawful (set words at n) (set views id (with_client v (Read n))) phases
looks words views phases id at v b s past inside same =
    let n : ℕ = get_or words at 0 in
    let two = b.two in
    let stands : now phases 0 ≡ past.0 = s.here 0 past.0 past.2 in
    let later : 0 < now phases 0 = let p = past.1 in omega arith in
    let first = loaded words at 0 (omega arith) in
    let second = loaded words at 1 (omega arith) in
    let none = past_between phases v (b.inside id v s.at) later in
    changes words (set words at n) views phases id v (with_client v (Read n)) b s.at (length-set words at n ∙ two) (omega arith) (omega arith) (λ l. (first, second)) (λ is. absurd (cc))
    (λ m is. (later, first ∙ (sym same ∙ same_read n m is)))

pub move_keeps : (words : List ℕ) (views : List V) (phases : List ℕ) (id : ℕ) (v : V) (m : Move) → Lawful words views phases → IsStep views phases id v → MayMove v m
    → let n = get_or words (op_at (move_op m)) 0 in Lawful (set words (op_at (move_op m)) (op_gives (move_op m) n)) (set views id (with_client v (moved m n))) phases
move_keeps words views phases id v AddFirst b s may =
    let once = b.once in
    let few = s.few in
    let stands = s.here 0 0 may.0 in
    let fresh = ap is_fresh may.1 in
    let between = ap is_between may.1 in
    let a = added_one words 0 1 b.two (omega arith) (λ e. omega arith) (omega arith) in
    changes words _ views phases id v _ b s.at a.0 (omega arith) (omega arith) (λ past. absurd (omega arith)) (λ is. (may.0, stands)) (λ n is. absurd (cc))
move_keeps words views phases id v AddSecond b s may =
    let ahead = b.ahead in
    let once = b.once in
    let few = s.few in
    let stands = s.here 0 0 may.0 in
    let fresh = ap is_fresh may.1 in
    let between = ap is_between may.1 in
    let a = added_one words 1 0 b.two (omega arith) (λ e. omega arith) (omega arith) in
    changes words _ views phases id v _ b s.at a.0 (omega arith) (omega arith) (λ past. absurd (omega arith)) (λ is. absurd (cc)) (λ n is. absurd (cc))
move_keeps words views phases id v LookFirst b s may = looks words views phases id 0 v b s may (omega arith) refl
move_keeps words views phases id v LookSecond b s may =
    let stands = s.here 0 may.0 may.2 in let later = may.1 in
    looks words views phases id 1 v b s may (omega arith) (sym (b.equal (omega arith)))

-- SEATS COME AND ARE JOINED
pub draw_keeps_law : (words : List ℕ) (views : List V) (phases : List ℕ) (proc : ℕ) → Lawful words views phases → Lawful words (views ++ newcomer Fresh (Some proc) ∷ []) phases
draw_keeps_law words views phases proc b =
    let w : V = newcomer Fresh (Some proc) in
    let m = total_snoc between_of views w in
    let f = total_snoc fresh_of views w in
    let ahead = b.ahead in
    let once = b.once in
    let long = length-append views (w ∷ []) in
    record {
      two = b.two;
      ahead = omega arith;
      once = omega arith;
      inside = each_more (IsInside phases) views w b.inside (λ is. absurd (cc));
      equal = b.equal;
      read = each_more (HasRead words phases) views w b.read (λ n is. absurd (cc));
    }

-- a seat's view changes, but not what it has done
same_progress : (words : List ℕ) (views : List V) (phases : List ℕ) (id : ℕ) (v w : V) → Lawful words views phases → get_elem? views id ≡ some v → w.client ≡ v.client → IsInside phases w → Lawful words (set views id w) phases
same_progress words views phases id v w b at same inside =
    let m : between_of w ≡ between_of v = ap is_between same in
    let f : fresh_of w ≡ fresh_of v = ap is_fresh same in
    changes words words views phases id v w b at b.two (omega arith) (omega arith) (λ past. (refl, refl)) inside (λ n is. b.read id v at n (sym same ∙ is))

pub join_keeps_law : (words : List ℕ) (views : List V) (phases : List ℕ) (id other : ℕ) (v w : V) → Lawful words views phases → IsJoin views phases id v other w
    → Lawful words (set (set views id (joined (λ mine others. mine) v w)) other (left_over Done)) phases
join_keeps_law words views phases id other v w b j =
    let x : V = joined (λ mine others. mine) v w in
    let none = away_between phases w (b.inside other w j.there) (ap (λ l. phase_of l 0) j.free) in
    changes words words (set views id x) phases other w (left_over Done) (same_progress words views phases id v x b j.at refl (b.inside id v j.at)) (set_else views id other x j.apart ∙ j.there) b.two (omega arith) (omega arith)
    (λ past. (refl, refl)) (λ is. absurd (cc)) (λ n is. absurd (cc))

-- BARRIERS
-- a seat attaches: who is in between is attached to barrier 0 already
pub enter_keeps_law : (words : List ℕ) (views : List V) (phases : List ℕ) (id : ℕ) (v w : V) (bar : ℕ) → Lawful words views phases → IsEnter views phases id v w bar → Lawful words (set views id w) phases
enter_keeps_law words views phases id v w bar b s = same_progress words views phases id v w b s.at s.after.client
    (λ is. let i = b.inside id v s.at (sym s.after.client ∙ is) in dite (ℕ_discrete 0 bar)
    (λ (here : 0 ≡ bar). absurd (none_some 0 (sym s.away ∙ (ap (phase_of v.attached) (sym here) ∙ i.0))))
    (λ else. (s.after.elsewhere 0 else ∙ i.0, i.1)))

-- a seat finds that its phase has passed: where that is a phase of barrier 0, nobody is in between
pub notice_keeps_law : (words : List ℕ) (views : List V) (phases : List ℕ) (id : ℕ) (v w : V) (bar ph : ℕ) → Lawful words views phases → IsNotice views phases id v w bar ph → Lawful words (set views id w) phases
notice_keeps_law words views phases id v w bar ph b s = same_progress words views phases id v w b s.at s.after.client
    (λ is. let i = b.inside id v s.at (sym s.after.client ∙ is) in dite (ℕ_discrete 0 bar)
    (λ (here : 0 ≡ bar). let passed : now phases 0 ≡ suc ph = ap (now phases) here ∙ s.passed in let stands = i.1 in absurd (omega arith))
    (λ else. (s.after.elsewhere 0 else ∙ i.0, i.1)))

pub elect_keeps_law : (words : List ℕ) (views : List V) (phases : List ℕ) (id : ℕ) (v : V) (bar ph : ℕ) → Lawful words views phases → IsElection views phases id v bar ph → Lawful words (set views id (elected v bar ph)) phases
elect_keeps_law words views phases id v bar ph b s = same_progress words views phases id v (elected v bar ph) b s.at refl (b.inside id v s.at)

-- phase 0 passes: each seat that is attached is quiet, so nobody is in between
pub pass_keeps_law : (words : List ℕ) (views : List V) (phases : List ℕ) (bar id : ℕ) (v : V) → Lawful words views phases → IsPass IsQuiet views phases bar id v → Passes bar (now phases bar)
    → Lawful words views (set phases bar (suc (now phases bar)))
pass_keeps_law words views phases bar id v b s passes =
    let nobody : (j : ℕ) (u : V) → get_elem? views j ≡ some u → u.client ≡ Between → ⊥ = λ j u at is.
    let i = b.inside j u at is in
    let all = s.all j u 0 at (ap (phase_of u.attached) passes.0 ∙ i.0) in
    let done : u.client ≡ Done = all.1 passes.0 refl in absurd (cc) in
    let none = total_none between_of views (λ j u at. not_between u.client (nobody j u at)) in
    let stands : now phases 0 ≡ 0 = ap (now phases) (sym passes.0) ∙ passes.1 in
    let ahead = b.ahead in
    record {
      two = b.two;
      ahead = b.ahead;
      once = b.once;
      inside = λ j u at is. absurd (nobody j u at is);
      equal = λ past. omega arith;
      read = λ j u at n is. let r = b.read j u at n is in let p = r.0 in absurd (omega arith);
    }

-- a quiet seat leaves
pub leave_keeps_law : (stays : ℕ → ℕ → Type 0) (words : List ℕ) (views : List V) (phases : List ℕ) (id : ℕ) (v w : V) (bar ph : ℕ) → Lawful words views phases → IsLeave stays views phases id v w bar ph → IsQuiet v bar ph
    → Lawful words (set views id w) phases
leave_keeps_law stays words views phases id v w bar ph b s quiet = same_progress words views phases id v w b s.at s.after.client
    (λ is. let between = sym s.after.client ∙ is in let i = b.inside id v s.at between in dite (ℕ_discrete 0 bar)
    (λ (here : 0 ≡ bar).
    let first : 0 ≡ ph = same_phase 0 ph (sym i.0 ∙ (ap (phase_of v.attached) here ∙ s.attached)) in
    let done : v.client ≡ Done = quiet (sym here) (sym first) in absurd (cc))
    (λ else. (s.after.elsewhere 0 else ∙ i.0, i.1)))

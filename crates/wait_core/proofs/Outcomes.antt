-- Who is elected, where a seat waits, notices that its phase has passed or passes it, where a seat comes, and where one takes in another.
use Rattle.std.proofs.Common.{◌≡◌, ◌≢◌, ◌⊎◌, ℕ, suc, ◌+◌, ◌-◌, ◌<◌, ◌≤◌, List, [], ◌∷◌, ◌++◌, set, Some, refl, sym, ap, ◌∙◌, subst, ⊎_elim, inl, inr, arith}
use mathlib.Core.Logic.{dite}
use mathlib.Core.Option as maybe
use native.Mathlib.Decide.{ℕ_discrete}
use lib.ListN.{get_elem?}
use Rattle.atomic_table.proofs.Lists.{set_else}
use Rattle.seat_roster.specs.Totals.{total}
use Rattle.seat_roster.proofs.Totals.{total_set, total_snoc}
use Rattle.seat_roster.proofs.Stretches.{each_set, each_more}
use Rattle.wait_core.specs.Parties.{Elected}
use Rattle.wait_core.specs.OneElected.{Outcome, times_of, WaitedOut, elected_for, OneHas, OneElected}
use Rattle.wait_core.proofs.Attachments.{waited, waits_here, waits_else, waits_before}
use Rattle.wait_core.proofs.BarriersKept.{elected_more, elected_either, nobody_elected}

-- LISTS. One more is on it
pub times_here : (b ph : ℕ) (l : List (ℕ × ℕ)) → times_of b ph ((b, ph) ∷ l) ≡ suc (times_of b ph l)
times_here b ph l = let one = waits_here b ph (waited b ph) refl in omega arith

pub times_else : (b ph c g : ℕ) (l : List (ℕ × ℕ)) → ((c ≡ b) → (g ≡ ph) → ⊥) → times_of b ph ((c, g) ∷ l) ≡ times_of b ph l
times_else b ph c g l ne = dite (ℕ_discrete c b)
    (λ (e : c ≡ b). let none = waits_before b ph g (waited c g) (ap (λ (n : ℕ). waited n g) e) (ne e) in omega arith)
    (λ other. let none = waits_else b ph c g (waited c g) refl other in omega arith)

-- so it was on it before, or is the new one
pub waited_more : (b ph c g : ℕ) (l : List (ℕ × ℕ)) → WaitedOut ((c, g) ∷ l) b ph → ((c ≡ b) × (g ≡ ph)) ⊎ WaitedOut l b ph
waited_more b ph c g l some = dite (ℕ_discrete c b)
    (λ (e : c ≡ b). dite (ℕ_discrete g ph) (λ same. inl (e, same)) (λ other. inr (let t = times_else b ph c g l (λ x y. other y) in omega arith)))
    (λ other. inr (let t = times_else b ph c g l (λ x y. other x) in omega arith))

pub times_both : (b ph : ℕ) (l m : List (ℕ × ℕ)) → times_of b ph (l ++ m) ≡ times_of b ph l + times_of b ph m
times_both b ph [] m = omega arith
times_both b ph (x ∷ l) m = let r = times_both b ph l m in omega arith

-- it stands there
pub times_elected : (b ph : ℕ) (l : List (ℕ × ℕ)) → 1 ≤ times_of b ph l → Elected l b ph
times_elected b ph [] some = absurd (omega arith)
times_elected b ph (x ∷ l) some = ⊎_elim (λ (t : (x.0 ≡ b) × (x.1 ≡ ph)). (0, λ i. maybe.some (t.0 i, t.1 i))) (λ more. let r = times_elected b ph l more in (suc r.0, r.1)) (waited_more b ph x.0 x.1 l some)

pub elected_times : (b ph : ℕ) (l : List (ℕ × ℕ)) → Elected l b ph → 1 ≤ times_of b ph l
elected_times b ph [] e = absurd (nobody_elected b ph e)
elected_times b ph (x ∷ l) e = ⊎_elim (λ (t : (x.0 ≡ b) × (x.1 ≡ ph)). let h = times_here b ph l in let same : times_of b ph (x ∷ l) ≡ times_of b ph ((b, ph) ∷ l) = λ i. times_of b ph ((t.0 i, t.1 i) ∷ l) in omega arith)
    (λ old. let r = elected_times b ph l old in omega arith) (elected_more l x.0 x.1 b ph e)

module _ (bars opening : ℕ) where
  -- what the rule says of each seat, of its waiting and of its elections
  abbrev WaitsSince : Outcome → Type 0
  WaitsSince v = (b ph : ℕ) → v.waits ≡ Some (b, ph) → opening ≤ ph

  abbrev HasWaited : Outcome → Type 0
  HasWaited v = (b ph : ℕ) → Elected v.elections b ph → (opening < ph) × WaitedOut v.passed b (ph - 1)

  -- and of the phases that it waited out, where these are the seats
  abbrev OneHasNext : List Outcome → Outcome → Type 0
  OneHasNext seats v = (b ph : ℕ) → WaitedOut v.passed b ph → OneHas seats b (suc ph)

  -- the records say what they said
  pub says_same : (elected after : ℕ → ℕ) (seats : List Outcome) → OneElected bars opening elected seats → ((b : ℕ) → b < bars → after b ≡ elected b) → OneElected bars opening after seats
  says_same elected after seats h says = record {
    waits = h.waits;
    waited = h.waited;
    one = h.one;
    last = λ b below since. let is = says b below in subst (OneHas seats b) (sym is) (h.last b below (omega arith));
  }

  -- no seat is there, and no record says that anybody was elected
  pub one_of_none : OneElected bars opening (λ b. opening) []
  one_of_none = record {
    waits = λ i v e. absurd (maybe.some-ne-none v (sym e));
    waited = λ i v e. absurd (maybe.some-ne-none v (sym e));
    one = λ i v e. absurd (maybe.some-ne-none v (sym e));
    last = λ b below since. absurd (omega arith);
  }

  -- ONE SEAT GOES ON, from v to w
  module _ (elected after : ℕ → ℕ) (seats : List Outcome) (h : OneElected bars opening elected seats) (id : ℕ) (v w : Outcome) (at : get_elem? seats id ≡ maybe.some v) (waits : WaitsSince w) where
    abbrev now_seats : List Outcome
    now_seats = set seats id w

    sum : (b ph : ℕ) → total (elected_for b ph) now_seats + elected_for b ph v ≡ total (elected_for b ph) seats + elected_for b ph w
    sum b ph = total_set (elected_for b ph) seats id v w at

    -- what it may have waited out now: what it had, or one for whose next phase one is elected
    abbrev HasPassed : Type 0
    HasPassed = (b ph : ℕ) → WaitedOut w.passed b ph → WaitedOut v.passed b ph ⊎ OneHas seats b (suc ph)

    abbrev StillPassed : Type 0
    StillPassed = (b ph : ℕ) → WaitedOut v.passed b ph → WaitedOut w.passed b ph

    -- it isn't elected, and each record says what it said
    unelected : w.elections ≡ v.elections → HasPassed → StillPassed → ((b : ℕ) → b < bars → after b ≡ elected b) → OneElected bars opening after now_seats
    unelected same new old says = record {
      waits = each_set WaitsSince seats id w h.waits waits;
      waited = each_set HasWaited seats id w h.waited (λ b ph e. let was = h.waited id v at b ph (subst (λ (l : List (ℕ × ℕ)). Elected l b ph) same e) in (was.0, old b (ph - 1) was.1));
      one = each_set (OneHasNext now_seats) seats id w (λ j u e b ph out. still b (suc ph) (h.one j u e b ph out)) (λ b ph out. still b (suc ph) (⊎_elim (λ had. h.one id v at b ph had) (λ has. has) (new b ph out)));
      last = λ b below since. let is = says b below in subst (OneHas now_seats b) (sym is) (still b (elected b) (h.last b below (omega arith)));
    }
      where
        still : (b ph : ℕ) → OneHas seats b ph → OneHas now_seats b ph
        still b ph one = let s = sum b ph in let e : elected_for b ph w ≡ elected_for b ph v = ap (times_of b ph) same in omega arith

    -- where it waited out no further phase, and where it did, for whose next one is elected
    pub keeps : w.passed ≡ v.passed → w.elections ≡ v.elections → ((b : ℕ) → b < bars → after b ≡ elected b) → OneElected bars opening after now_seats
    keeps passed same says = unelected same (λ b ph out. inl (subst (λ (l : List (ℕ × ℕ)). WaitedOut l b ph) passed out)) (λ b ph out. subst (λ (l : List (ℕ × ℕ)). WaitedOut l b ph) (sym passed) out) says

    pub notices : (b ph : ℕ) → w.passed ≡ (b, ph) ∷ v.passed → OneHas seats b (suc ph) → w.elections ≡ v.elections → ((b : ℕ) → b < bars → after b ≡ elected b) → OneElected bars opening after now_seats
    notices b ph passed one same says = unelected same
        (λ c g out. ⊎_elim (λ (t : (b ≡ c) × (ph ≡ g)). inr (subst (λ (x : ℕ × ℕ). OneHas seats x.0 (suc x.1)) (λ i. (t.0 i, t.1 i)) one)) (λ had. inl had) (waited_more c g b ph v.passed (subst (λ (l : List (ℕ × ℕ)). WaitedOut l c g) passed out)))
        (λ c g out. subst (λ (l : List (ℕ × ℕ)). WaitedOut l c g) (sym passed) (omega arith)) says

    -- it is elected for the phase above one that it waited out, for which nobody was, and that barrier's record says so
    pub gains : (b ph : ℕ) → opening ≤ ph → w.passed ≡ (b, ph) ∷ v.passed → w.elections ≡ (b, suc ph) ∷ v.elections → total (elected_for b (suc ph)) seats ≡ 0
        → after b ≡ suc ph → ((c : ℕ) → c < bars → c ≢ b → after c ≡ elected c) → OneElected bars opening after now_seats
    gains b ph since passed won none says others = record {
      waits = each_set WaitsSince seats id w h.waits waits;
      waited = each_set HasWaited seats id w h.waited (λ c g e. ⊎_elim (λ (t : (b ≡ c) × (suc ph ≡ g)). newly c g t.0 t.1) (λ had. let was = h.waited id v at c g had in (was.0, longer c (g - 1) was.1)) (elected_more v.elections b (suc ph) c g (subst (λ (l : List (ℕ × ℕ)). Elected l c g) won e)));
      one = each_set (OneHasNext now_seats) seats id w (λ j u e c g out. still c (suc g) (h.one j u e c g out))
          (λ c g out. ⊎_elim (λ (t : (b ≡ c) × (ph ≡ g)). subst (λ (x : ℕ × ℕ). OneHas now_seats x.0 (suc x.1)) (λ i. (t.0 i, t.1 i)) here) (λ had. still c (suc g) (h.one id v at c g had)) (waited_more c g b ph v.passed (subst (λ (l : List (ℕ × ℕ)). WaitedOut l c g) passed out)));
      last = λ c below above. dite (ℕ_discrete c b) (λ (same : c ≡ b). subst (λ (x : ℕ × ℕ). OneHas now_seats x.0 x.1) (λ i. (sym same i, (sym says ∙ ap after (sym same)) i)) here)
          (λ other. let is = others c below other in subst (OneHas now_seats c) (sym is) (still c (elected c) (h.last c below (omega arith))));
    }
      where
        here : OneHas now_seats b (suc ph)
        here = let s = sum b (suc ph) in let e : elected_for b (suc ph) w ≡ times_of b (suc ph) ((b, suc ph) ∷ v.elections) = ap (times_of b (suc ph)) won in let one = times_here b (suc ph) v.elections in omega arith

        -- whoever was elected alone for another phase still is
        still : (c g : ℕ) → OneHas seats c g → OneHas now_seats c g
        still c g one = let s = sum c g in let e : elected_for c g w ≡ times_of c g ((b, suc ph) ∷ v.elections) = ap (times_of c g) won in
            let same = times_else c g b (suc ph) v.elections (λ x y. let was : total (elected_for c g) seats ≡ total (elected_for b (suc ph)) seats = λ i. total (elected_for (sym x i) (sym y i)) seats in absurd (omega arith)) in omega arith

        longer : (c g : ℕ) → WaitedOut v.passed c g → WaitedOut w.passed c g
        longer c g had = subst (λ (l : List (ℕ × ℕ)). WaitedOut l c g) (sym passed) (omega arith)

        newly : (c g : ℕ) → b ≡ c → suc ph ≡ g → (opening < g) × WaitedOut w.passed c (g - 1)
        newly c g x y = let here = times_here b ph v.passed in let is : ph ≡ g - 1 = omega arith in
            (omega arith, subst (λ (n : ℕ × ℕ). WaitedOut w.passed n.0 n.1) (λ i. (x i, is i)) (subst (λ (l : List (ℕ × ℕ)). WaitedOut l b ph) (sym passed) (omega arith)))

  -- A SEAT COMES
  pub one_more : (elected after : ℕ → ℕ) (seats : List Outcome) (w : Outcome) → OneElected bars opening elected seats → WaitsSince w → w.passed ≡ [] → w.elections ≡ [] → ((b : ℕ) → b < bars → after b ≡ elected b) → OneElected bars opening after (seats ++ w ∷ [])
  one_more elected after seats w h waits passed won says = record {
    waits = each_more WaitsSince seats w h.waits waits;
    waited = each_more HasWaited seats w h.waited (λ b ph e. absurd (nobody_elected b ph (subst (λ (l : List (ℕ × ℕ)). Elected l b ph) won e)));
    one = each_more (OneHasNext (seats ++ w ∷ [])) seats w (λ j u e b ph out. still b (suc ph) (h.one j u e b ph out)) (λ b ph out. let none : times_of b ph w.passed ≡ 0 = ap (times_of b ph) passed in absurd (omega arith));
    last = λ b below since. let is = says b below in subst (OneHas (seats ++ w ∷ []) b) (sym is) (still b (elected b) (h.last b below (omega arith)));
  }
    where
      still : (b ph : ℕ) → OneHas seats b ph → OneHas (seats ++ w ∷ []) b ph
      still b ph one = let s = total_snoc (elected_for b ph) seats w in let none : elected_for b ph w ≡ 0 = ap (times_of b ph) won in omega arith

  -- A SEAT TAKES IN ANOTHER: x has what v and w had, and y nothing
  pub one_joined : (elected after : ℕ → ℕ) (seats : List Outcome) (id other : ℕ) (v w x y : Outcome) → OneElected bars opening elected seats → (other ≡ id → ⊥) → get_elem? seats id ≡ maybe.some v → get_elem? seats other ≡ maybe.some w → WaitsSince x → WaitsSince y
      → x.passed ≡ v.passed ++ w.passed → x.elections ≡ v.elections ++ w.elections → y.passed ≡ [] → y.elections ≡ [] → ((b : ℕ) → b < bars → after b ≡ elected b) → OneElected bars opening after (set (set seats id x) other y)
  one_joined elected after seats id other v w x y h apart at there waits idle passed won nothing nobody says = record {
    waits = each_set WaitsSince (set seats id x) other y (each_set WaitsSince seats id x h.waits waits) idle;
    waited = each_set HasWaited (set seats id x) other y (each_set HasWaited seats id x h.waited (λ b ph e. ⊎_elim (λ mine. let was = h.waited id v at b ph mine in (was.0, mine_too b (ph - 1) was.1)) (λ its. let was = h.waited other w there b ph its in (was.0, its_too b (ph - 1) was.1)) (either b ph e)))
        (λ b ph e. absurd (nobody_elected b ph (subst (λ (l : List (ℕ × ℕ)). Elected l b ph) nobody e)));
    one = each_set (OneHasNext after_seats) (set seats id x) other y (each_set (OneHasNext after_seats) seats id x (λ j u e b ph out. still b (suc ph) (h.one j u e b ph out))
        (λ b ph out. still b (suc ph) (let sum = of_both b ph in dite (ℕ_discrete (times_of b ph v.passed) 0) (λ none. h.one other w there b ph (omega arith)) (λ some. h.one id v at b ph (omega arith)))))
        (λ b ph out. let none : times_of b ph y.passed ≡ 0 = ap (times_of b ph) nothing in absurd (omega arith));
    last = λ b below since. let is = says b below in subst (OneHas after_seats b) (sym is) (still b (elected b) (h.last b below (omega arith)));
  }
    where
      after_seats : List Outcome
      after_seats = set (set seats id x) other y

      of_both : (b ph : ℕ) → times_of b ph x.passed ≡ times_of b ph v.passed + times_of b ph w.passed
      of_both b ph = ap (times_of b ph) passed ∙ times_both b ph v.passed w.passed

      mine_too : (b ph : ℕ) → WaitedOut v.passed b ph → WaitedOut x.passed b ph
      mine_too b ph out = let sum = of_both b ph in omega arith

      its_too : (b ph : ℕ) → WaitedOut w.passed b ph → WaitedOut x.passed b ph
      its_too b ph out = let sum = of_both b ph in omega arith

      either : (b ph : ℕ) → Elected x.elections b ph → Elected v.elections b ph ⊎ Elected w.elections b ph
      either b ph e = let a = subst (λ (l : List (ℕ × ℕ)). Elected l b ph) won e in elected_either v.elections w.elections b ph a.0 a.1

      still : (b ph : ℕ) → OneHas seats b ph → OneHas after_seats b ph
      still b ph one =
          let first = total_set (elected_for b ph) seats id v x at in let second = total_set (elected_for b ph) (set seats id x) other w y (set_else seats id other x apart ∙ there) in
          let sum : elected_for b ph x ≡ elected_for b ph v + elected_for b ph w = ap (times_of b ph) won ∙ times_both b ph v.elections w.elections in let none : elected_for b ph y ≡ 0 = ap (times_of b ph) nobody in omega arith

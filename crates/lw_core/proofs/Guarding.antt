-- Of one lock: its four words and what each seat has of it, after each thing that a seat does to them.
use Rattle.std.proofs.Common.{◌≡◌, ◌≢◌, ℕ, zero, suc, ◌<◌, ◌≤◌, Bool, true, false, List, [], ◌∷◌, ◌++◌, length, get_or, set, map, Option, None, Some, sym, refl, ap, ◌∙◌, subst, ⊎_elim, arith, length-set, get_or-set_other, get_or-set_same}
use mathlib.Core.Logic.{dite}
use mathlib.Core.Option as maybe
use native.Mathlib.Decide.{ℕ_discrete}
use lib.ListN.{get_elem?}
use Rattle.atomic_table.proofs.Lists.{at_set, at_map}
use Rattle.proc_table.specs.declared.Mode.{Mode}
use Rattle.proc_table.specs.declared.Mode.TheVariants.{Shared, Exclusive}
use Rattle.lw_core.specs.declared.view.Hold.{Hold}
use Rattle.seat_roster.specs.Totals.{total}
use Rattle.lw_core.specs.Machine.{not_held, held, known_at, learnt, written, LeavesLawful}
use Rattle.lw_core.specs.CountsHolders.{is_shared, is_exclusive, CountsHolders}
use Rattle.lw_core.specs.GuardedIsLawful.{one_where, writes, Knows, GuardedIsLawful}
use Rattle.lw_core.specs.Told.{Reads}
use Rattle.lw_core.specs.Seats.{mode_of_hold}
use Rattle.seat_roster.proofs.Totals.{total_set, total_snoc, total_at, total_map, total_le, total_gap}
use Rattle.seat_roster.proofs.Stretches.{each_set, each_more}
use Rattle.lw_core.proofs.Holders.{alone_holds}

blank : (k : ℕ) → known_at not_held k ≡ None
blank zero = refl
blank (suc zero) = refl
blank (suc (suc zero)) = refl
blank (suc (suc (suc zero))) = refl
blank (suc (suc (suc (suc k)))) = refl

-- who has learnt nothing yet
knows_nothing : (words : List ℕ) (m : Option Mode) → Knows words record { mode = m; known = None ∷ None ∷ None ∷ None ∷ []; wrote = false }
knows_nothing words m = record { four = refl; right = λ k n few e. let none = blank k in absurd (cc); none = λ _ k. blank k; wrote = omega arith }

pub knows_not_held : (words : List ℕ) → Knows words not_held
knows_not_held words = knows_nothing words None

-- a word that is known then
pub learnt_here : (h : Hold) (k x : ℕ) → k < length h.known → get_or (set h.known k (Some x)) k None ≡ Some x
learnt_here h k x inside = get_or-set_same h.known k (Some x) None inside

four_words : (words : List ℕ) → length words ≡ 4 → words ≡ get_or words 0 0 ∷ get_or words 1 0 ∷ get_or words 2 0 ∷ get_or words 3 0 ∷ []
four_words [] e = absurd (omega arith)
four_words (a ∷ []) e = absurd (omega arith)
four_words (a ∷ b ∷ []) e = absurd (omega arith)
four_words (a ∷ b ∷ c ∷ []) e = absurd (omega arith)
four_words (a ∷ b ∷ c ∷ d ∷ []) e = refl
four_words (a ∷ b ∷ c ∷ d ∷ x ∷ xs) e = absurd (omega arith)

-- two lists of four words that agree
pub same_four : (words others : List ℕ) → length words ≡ 4 → length others ≡ 4 → ((k : ℕ) → k < 4 → get_or words k 0 ≡ get_or others k 0) → words ≡ others
same_four words others long long' same = four_words words long ∙ ((λ i. same 0 (omega arith) i ∷ same 1 (omega arith) i ∷ same 2 (omega arith) i ∷ same 3 (omega arith) i ∷ []) ∙ sym (four_words others long'))

module _ (lawful : List ℕ → Type 0) (words : List ℕ) (holds : List Hold) (g : GuardedIsLawful lawful words holds) where
  -- one seat has another hold, which knows rightly
  changed : (id : ℕ) (h h' : Hold) → get_elem? holds id ≡ maybe.some h → Knows words h' → (total writes (set holds id h') ≡ 0 → lawful words) → GuardedIsLawful lawful words (set holds id h')
  changed id h h' at knows unwritten = record {
    unwritten = unwritten;
    knows = each_set (Knows words) holds id h' g.knows knows;
  }

  -- a grant
  pub guarded_granted : (id : ℕ) (h : Hold) (m : Mode) → get_elem? holds id ≡ maybe.some h → h.mode ≡ None → GuardedIsLawful lawful words (set holds id (held m))
  guarded_granted id h m at none = changed id h (held m) at (knows_nothing words (Some m))
      (λ zeros. let sum = total_set writes holds id h (held m) at in let w = (g.knows id h at).wrote in let e : is_exclusive h.mode ≡ 0 = ap is_exclusive none in g.unwritten (omega arith))

  -- a release, which leaves lawful words
  pub guarded_released : (id : ℕ) (h : Hold) → length words ≡ 4 → get_elem? holds id ≡ maybe.some h → LeavesLawful lawful h → GuardedIsLawful lawful words (set holds id not_held)
  guarded_released id h long at leaves = changed id h not_held at (knows_nothing words None) (λ zeros. by_case h.wrote refl zeros)
    where
      by_case : (b : Bool) → h.wrote ≡ b → total writes (set holds id not_held) ≡ 0 → lawful words
      by_case true e zeros = leaves e words (long, (g.knows id h at).right)
      by_case false e zeros = let sum = total_set writes holds id h not_held at in let w : writes h ≡ 0 = ap one_where e in g.unwritten (omega arith)

  -- a holder reads the word k
  pub guarded_learnt : (id k : ℕ) (h : Hold) (m : Mode) → k < 4 → get_elem? holds id ≡ maybe.some h → h.mode ≡ Some m → GuardedIsLawful lawful words (set holds id (learnt h k (get_or words k 0)))
  guarded_learnt id k h m few at held = let o = g.knows id h at in let four = o.four in let x : ℕ = get_or words k 0 in let here = learnt_here h k x (omega arith) in
      changed id h (learnt h k x) at record {
        four = length-set h.known k (Some x) ∙ o.four;
        right = λ j n below e. dite (ℕ_discrete j k)
            (λ is. let there : get_or (set h.known k (Some x)) k None ≡ Some n = ap (λ (y : ℕ). get_or (set h.known k (Some x)) y None) (sym is) ∙ e in ap (λ (y : ℕ). get_or words y 0) is ∙ cc)
            (λ ne. o.right j n below (sym (get_or-set_other h.known k j (Some x) None ne) ∙ e));
        none = λ none. absurd (cc);
        wrote = o.wrote;
      }
      (λ zeros. let sum = total_set writes holds id h (learnt h k x) at in g.unwritten (omega arith))

  -- the exclusive holder writes the word k
  pub guarded_written : (id k x n : ℕ) (h : Hold) → k < 4 → length words ≡ 4 → get_elem? holds id ≡ maybe.some h → h.mode ≡ Some Exclusive → CountsHolders n (map mode_of_hold holds) → GuardedIsLawful lawful (set words k x) (set holds id (written h k x))
  guarded_written id k x n h few long at mine counts = let o = g.knows id h at in let four = o.four in let here = learnt_here h k x (omega arith) in let exclusive : is_exclusive h.mode ≡ 1 = ap is_exclusive mine in record {
    unwritten = λ zeros. let sum = total_set writes holds id h (written h k x) at in let part = total_at writes holds id h at in absurd (omega arith);
    knows = λ j u e. ⊎_elim
        (λ (t : (j ≡ id) × (written h k x ≡ u)). subst (Knows (set words k x)) t.1 record {
          four = length-set h.known k (Some x) ∙ o.four;
          right = λ i m below e'. dite (ℕ_discrete i k)
              (λ is. let there : get_or (set h.known k (Some x)) k None ≡ Some m = ap (λ (y : ℕ). get_or (set h.known k (Some x)) y None) (sym is) ∙ e' in
              let same = get_or-set_same words k x 0 (omega arith) in ap (λ (y : ℕ). get_or (set words k x) y 0) is ∙ (same ∙ cc))
              (λ ne. get_or-set_other words k i x 0 ne ∙ o.right i m below (sym (get_or-set_other h.known k i (Some x) None ne) ∙ e'));
          none = λ none. absurd (cc);
          wrote = omega arith;
        })
        (λ (t : (j ≢ id) × (get_elem? holds j ≡ maybe.some u)). let p = g.knows j u t.1 in
        let free = alone_holds (map mode_of_hold holds) id j n u.mode t.0 (at_map mode_of_hold holds id h at ∙ ap maybe.some mine) (at_map mode_of_hold holds j u t.1) counts in record {
          four = p.four;
          right = λ i m below e'. let none = p.none free i in absurd (cc);
          none = p.none;
          wrote = p.wrote;
        })
        (at_set holds id j (written h k x) u e);
  }

  -- one seat more
  pub guarded_more : GuardedIsLawful lawful words (holds ++ not_held ∷ [])
  guarded_more = record {
    unwritten = λ zeros. let sum = total_snoc writes holds not_held in g.unwritten (omega arith);
    knows = each_more (Knows words) holds not_held g.knows (knows_not_held words);
  }

  -- a seat that doesn't hold the lock is spent
  pub guarded_spent : (id : ℕ) (h : Hold) → get_elem? holds id ≡ maybe.some h → h.mode ≡ None → GuardedIsLawful lawful words (set holds id not_held)
  guarded_spent id h at none = changed id h not_held at (knows_not_held words)
      (λ zeros. let sum = total_set writes holds id h not_held at in let w = (g.knows id h at).wrote in let e : is_exclusive h.mode ≡ 0 = ap is_exclusive none in g.unwritten (omega arith))

  writes_le : (i : ℕ) (h : Hold) → get_elem? holds i ≡ maybe.some h → writes h ≤ is_exclusive h.mode
  writes_le i h at = (g.knows i h at).wrote

  -- nobody has written a word of a lock that nobody holds exclusively
  pub lawful_unheld : total is_exclusive (map mode_of_hold holds) ≡ 0 → lawful words
  lawful_unheld free = let same = total_map is_exclusive mode_of_hold holds in let le = total_le writes (λ (h : Hold). is_exclusive h.mode) holds writes_le in g.unwritten (omega arith)

  -- nobody has written a word of a lock that a seat holds, where that seat hasn't
  holder_unwritten : (id n : ℕ) (h : Hold) (m : Mode) → get_elem? holds id ≡ maybe.some h → h.mode ≡ Some m → h.wrote ≡ false → CountsHolders n (map mode_of_hold holds) → total writes holds ≡ 0
  holder_unwritten id n h m at mine clean c = by_mode m mine
    where
      same : total is_exclusive (map mode_of_hold holds) ≡ total (λ (u : Hold). is_exclusive u.mode) holds
      same = total_map is_exclusive mode_of_hold holds

      by_mode : (m : Mode) → h.mode ≡ Some m → total writes holds ≡ 0
      by_mode Shared e = let gap = total_gap writes (λ (u : Hold). is_exclusive u.mode) holds id h writes_le at in let part = total_at is_shared (map mode_of_hold holds) id (Some Shared) (at_map mode_of_hold holds id h at ∙ ap maybe.some e) in
          let no : is_exclusive h.mode ≡ 0 = ap is_exclusive e in let w : writes h ≡ 0 = ap one_where clean in let sum = same in let alone = c.alone in
          dite (ℕ_discrete (total is_exclusive (map mode_of_hold holds)) 0) (λ free. omega arith) (λ some. let one = alone (omega arith) in absurd (omega arith))
      by_mode Exclusive e = let gap = total_gap writes (λ (u : Hold). is_exclusive u.mode) holds id h writes_le at in let part = total_at is_exclusive (map mode_of_hold holds) id (Some Exclusive) (at_map mode_of_hold holds id h at ∙ ap maybe.some e) in
          let yes : is_exclusive h.mode ≡ 1 = ap is_exclusive e in let w : writes h ≡ 0 = ap one_where clean in let sum = same in let one = c.alone (omega arith) in omega arith

  -- what a holder learns by a read
  pub reads : (id k n : ℕ) (h : Hold) (m : Mode) → k < 4 → length words ≡ 4 → get_elem? holds id ≡ maybe.some h → h.mode ≡ Some m → CountsHolders n (map mode_of_hold holds) → Reads lawful h k (get_or words k 0)
  reads id k n h m few long at mine c = let o = g.knows id h at in let four = o.four in let x : ℕ = get_or words k 0 in let here = learnt_here h k x (omega arith) in (
    λ j e. o.right k j few e,
    here,
    λ clean all known.
        let there : (j : ℕ) → j < 4 → get_or words j 0 ≡ get_or all j 0 = λ j below. word j (get_or all j 0) below (known.1 j below) in
        subst lawful (same_four words all long known.0 there) (g.unwritten (holder_unwritten id n h m at mine clean c)),
  )
    where
      word : (j y : ℕ) → j < 4 → get_or (set h.known k (Some (get_or words k 0))) j None ≡ Some y → get_or words j 0 ≡ y
      word j y below e = let four = (g.knows id h at).four in dite (ℕ_discrete j k)
          (λ is. let here = learnt_here h k (get_or words k 0) (omega arith) in let there : get_or (set h.known k (Some (get_or words k 0))) k None ≡ Some y = ap (λ (i : ℕ). get_or (set h.known k (Some (get_or words k 0))) i None) (sym is) ∙ e in
          ap (λ (i : ℕ). get_or words i 0) is ∙ cc)
          (λ ne. (g.knows id h at).right j y below (sym (get_or-set_other h.known k j (Some (get_or words k 0)) None ne) ∙ e))

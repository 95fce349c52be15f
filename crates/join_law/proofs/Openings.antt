-- Everything stands at the opening.
use Rattle.std.proofs.Common.{◌≡◌, ◌⊎◌, ℕ, zero, suc, ◌+◌, ◌*◌, ◌/◌, ◌%◌, ◌≤◌, List, [], ◌∷◌, ◌++◌, length, get_or, refl, sym, ap, ◌∙◌, subst, arith, ⊎_elim, None, Some, replicate, cond, ne_eqb, append_assoc, append-nil}
use Rattle.std.proofs.lemmas.List.{length-replicate, get_or-replicate, replicate-append-replicate, replicate_more}
use Rattle.std.proofs.lemmas.Option.{none-some}
use mathlib.Core.Option as maybe
use mathlib.Core.Logic.{dite}
use native.Mathlib.Decide.{dec_le}
use Rattle.seat_roster.specs.Totals.{total}
use Rattle.seat_roster.specs.Roster.{times}
use Rattle.wait_core.specs.Parties.{newcomer, now}
use Rattle.wait_core.specs.Words.{opened}
use Rattle.join_law.specs.Layout.{Join, Memory, sizes_of, size_word, first_sizes, opens, flat, rows, heads, word_count}
use Rattle.join_law.specs.Views.{View, first_view, unclaimed, below}
use Rattle.join_law.specs.Phases.{batch_bar, growth_phase}
use Rattle.join_law.specs.Stands.{at_head, Listed, There, RowsMeet, SizesFit, Parts, Stands}
use Rattle.join_law.proofs.Seats.{draw_keeps}
use Rattle.join_law.proofs.LeftOvers.{left_more}

-- what opens at 0 from the word k on
opened_zero : (f : ℕ → ℕ) (k : ℕ) → ((n : ℕ) → k ≤ n → f n ≡ 0) → (n m : ℕ) → m ≡ k + n → opened f m ≡ opened f k ++ replicate n 0
opened_zero f k z zero m e = let same : m ≡ k = omega arith in ap (opened f) same ∙ sym (append-nil (opened f k))
opened_zero f k z (suc n) zero e = absurd (omega arith)
opened_zero f k z (suc n) (suc m) e =
    let h : opened f m ≡ opened f k ++ replicate n 0 = opened_zero f k z n m (omega arith) in
    let more : n + 1 ≡ suc n = omega arith in
    ap (λ l. l ++ f m ∷ []) h ∙ (ap (λ x. (opened f k ++ replicate n 0) ++ x ∷ []) (z m (omega arith)) ∙ (append_assoc (opened f k) (replicate n 0) (0 ∷ []) ∙ ap (λ l. opened f k ++ l) (replicate_more n 0 ∙ ap (λ x. replicate x 0) more)))

-- the sizes of the opening word
first_read : (k b : ℕ) → b ≤ 64 → sizes_of (size_word (record { half = 0; buckets = k; batches = b })) ≡ record { half = 0; buckets = k; batches = b }
first_read k b few =
    let w : ℕ = k * 256 + (b * 2 + 0) in
    let h : w % 2 ≡ 0 = omega arith in
    let n : w / 256 ≡ k = omega arith in
    let c : w / 2 % 128 ≡ b = omega arith in
    λ i. record { half = h i; buckets = n i; batches = c i }

module _ (j : Join) (meet : RowsMeet j) (fit : SizesFit j (first_sizes j)) where
  abbrev m : Memory
  m = record { sizes = size_word (first_sizes j); inner_cursor = 0; outer_cursor = 0; distributor = 0; results = 0; batch_sizes = replicate 128 0; heads = replicate (heads j) 0; nexts = replicate (rows j) 0; hashes = replicate (rows j) 0 }

  abbrev lists : List (List ℕ)
  lists = replicate (heads j) []

  nobody : (id : ℕ) (v : View) → There [] id v → ⊥
  nobody id v e = maybe.some-ne-none v (sym e)

  none_at : (h : ℕ) → at_head lists h ≡ []
  none_at h = dite (dec_le (suc h) (heads j)) (λ inside. get_or-replicate (heads j) h [] [] inside) (λ past. past_end lists h (let l : length lists ≡ heads j = length-replicate (heads j) [] in omega arith))
    where
      past_end : (l : List (List ℕ)) (i : ℕ) → length l ≤ i → get_or l i [] ≡ []
      past_end [] i le = refl
      past_end (x ∷ xs) zero le = absurd (omega arith)
      past_end (x ∷ xs) (suc i) le = past_end xs i (omega arith)

  no_rows : (h r : ℕ) → Listed lists h r → ⊥
  no_rows h r l = let e : times r (at_head lists h) ≡ 0 = ap (times r) (none_at h) in absurd (omega arith)

  no_total : (r n : ℕ) → total (times r) (replicate n []) ≡ 0
  no_total r zero = refl
  no_total r (suc n) = let t = no_total r n in omega arith

  at_zero : (b : ℕ) → now (replicate 67 0) b ≡ 0
  at_zero b = dite (dec_le (suc b) 67) (λ inside. get_or-replicate 67 b 0 0 inside) (λ past. let ps : List ℕ = replicate 67 0 in let l : length ps ≡ 67 = length-replicate {A = ℕ} 67 0 in past_end ps b (omega arith))
    where
      past_end : (l : List ℕ) (i : ℕ) → length l ≤ i → get_or l i 0 ≡ 0
      past_end [] i le = refl
      past_end (x ∷ xs) zero le = absurd (omega arith)
      past_end (x ∷ xs) (suc i) le = past_end xs i (omega arith)

  none_begun : (bar : ℕ) → (bar ≡ 1) ⊎ (bar ≡ 2) → growth_phase bar (now (replicate 67 0) bar) ≡ 0
  none_begun bar is = ⊎_elim (λ e. subst (λ (b : ℕ). growth_phase b (now (replicate 67 0) b) ≡ 0) (sym e) refl) (λ e. subst (λ (b : ℕ). growth_phase b (now (replicate 67 0) b) ≡ 0) (sym e) refl) is

  all_open : (r : ℕ) → unclaimed j 0 0 r ≡ below r (rows j)
  all_open r = omega arith

  empty : Parts j m lists None [] (replicate 67 0)
  empty = record {
    laid = record { batch_sizes = length-replicate {A = ℕ} 128 0; heads = length-replicate {A = ℕ} (heads j) 0; nexts = length-replicate {A = ℕ} (rows j) 0; hashes = length-replicate {A = ℕ} (rows j) 0 };
    bars = length-replicate {A = ℕ} 67 0;
    meet = meet;
    fit = subst (SizesFit j) (sym (first_read j.buckets 1 fit.most)) fit;
    place = record { once = λ r. let a = all_open r in let t = no_total r (heads j) in omega arith };
    links = record { many = length-replicate (heads j) []; links = λ h inside. subst (λ (l : List ℕ). Rattle.join_law.specs.Stands.Links m.nexts (get_or m.heads h 0) l) (sym (none_at h)) (get_or-replicate (heads j) h 0 0 inside) };
    next = record { stored = λ id v at. absurd (nobody id v at) };
    hashes = record { listed = λ h r l. absurd (no_rows h r l); known = λ id v at. absurd (nobody id v at) };
    routes = record { stands = λ h r l. absurd (no_rows h r l) };
    hands = record { inner = λ id v at. absurd (nobody id v at); outer = λ id v at. absurd (nobody id v at) };
    gone = record { aside = λ id v at. absurd (nobody id v at); given = λ id v at. absurd (nobody id v at); probed = λ id v at. absurd (nobody id v at) };
    count = record { count = refl };
    cursors = record {
      inner = record { past = λ past. absurd (omega arith); seen = λ id v at. absurd (nobody id v at); few = omega arith; near = omega arith };
      outer = record { past = λ past. absurd (omega arith); seen = λ id v at. absurd (nobody id v at); few = omega arith; near = omega arith };
    };
    attached = record {
      growths = λ id v at. absurd (nobody id v at);
      batches = λ id v at. absurd (nobody id v at);
      manned = λ bar is past. let n = none_begun bar is in absurd (omega arith);
      unbegun = λ _ b. at_zero (batch_bar b);
    };
    seen = record { emptied = λ id v at. absurd (nobody id v at); drained = λ id v at. absurd (nobody id v at); done = λ id v at. absurd (nobody id v at); late = λ id v at. absurd (nobody id v at) };
    takes = record { fits = λ id v at. absurd (nobody id v at) };
    walks = record { fits = λ id v at. absurd (nobody id v at) };
    known = record { fits = λ id v at. absurd (nobody id v at) };
    grown = record { last = λ bar ph e. absurd (none-some (bar, ph) e); stored = λ id v at. absurd (nobody id v at); swept = λ id v at. absurd (nobody id v at) };
  }

  words_same : opened (opens j) (word_count j) ≡ flat m
  words_same =
      let n : ℕ = 40 + (128 + (heads j + (rows j + rows j))) in
      let a : opened (opens j) (word_count j) ≡ opened (opens j) 8 ++ replicate n 0 =
      opened_zero (opens j) 8 (λ k past. ap (λ b. cond b (size_word (first_sizes j)) 0) (ne_eqb k 7 (λ e. absurd (omega arith)))) n (word_count j) (omega arith) in
      let r1 : replicate (rows j) 0 ++ replicate (rows j) 0 ≡ replicate (rows j + rows j) 0 = replicate-append-replicate (rows j) (rows j) 0 in
      let r2 : replicate (heads j) 0 ++ replicate (rows j + rows j) 0 ≡ replicate (heads j + (rows j + rows j)) 0 = replicate-append-replicate (heads j) (rows j + rows j) 0 in
      let r3 : replicate 128 0 ++ replicate (heads j + (rows j + rows j)) 0 ≡ replicate (128 + (heads j + (rows j + rows j))) 0 = replicate-append-replicate 128 (heads j + (rows j + rows j)) 0 in
      let r4 : replicate 40 0 ++ replicate (128 + (heads j + (rows j + rows j))) 0 ≡ replicate n 0 = replicate-append-replicate 40 (128 + (heads j + (rows j + rows j))) 0 in
      let t : replicate 128 0 ++ (replicate (heads j) 0 ++ (replicate (rows j) 0 ++ replicate (rows j) 0)) ≡ replicate (128 + (heads j + (rows j + rows j))) 0 =
      ap (λ l. replicate 128 0 ++ (replicate (heads j) 0 ++ l)) r1 ∙ (ap (λ l. replicate 128 0 ++ l) r2 ∙ r3) in
      a ∙ ap (λ l. opened (opens j) 8 ++ l) (sym (ap (λ l. replicate 40 0 ++ l) t ∙ r4))

  pub opening_stands : (own : ℕ) → Stands j (opened (opens j) (word_count j)) (newcomer first_view (Some own) ∷ []) (replicate 67 0)
  opening_stands own = record { memory = m; lists = lists; growth = None; same = words_same; parts = draw_keeps j m lists None [] (replicate 67 0) empty (Some own); left = left_more [] (record { spent = λ id v at. absurd (nobody id v at) }) (newcomer first_view (Some own)) own refl; claims = record { all = omega arith }; ends = record { of_build = let z = at_zero 0 in omega arith; of_batches = let z = at_zero 1 in omega arith; of_buckets = let z = at_zero 2 in omega arith } }

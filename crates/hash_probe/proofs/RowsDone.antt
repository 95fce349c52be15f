-- What is done with rows adds up.
use Rattle.std.proofs.Common.{◌≡◌, ℕ, ◌+◌, ◌≤◌, List, [], ◌∷◌, ◌++◌, length, refl, sym, ap, ◌∙◌, arith}
use Rattle.std.proofs.lemmas.List.{append-nil, append_assoc}
use Rattle.row_model.specs.declared.Pair.{Pair}
use Rattle.join_law.specs.declared.view.HashView.{HashView}
use Rattle.join_law.specs.declared.view.Probed.{Probed}
use Rattle.row_model.specs.declared.Side.TheVariants.{Outer}
use Rattle.join_law.specs.Layout.{Join}
use Rattle.join_law.specs.Machine.{took}
use Rattle.join_law.specs.Views.{probed_rows}
use Rattle.join_party.specs.declared.party.HashParty.{HashParty}
use Rattle.join_party.specs.Joins.{join}
use Rattle.shared_tuples.specs.Tuples.{found_empty}
use Rattle.hash_probe.specs.Loads.{ProbesNone}
use Rattle.hash_probe.specs.Probing.{pairs_of_row}
use Rattle.hash_probe.specs.Rows.{DoesRows, EachMeets, ProbesOnly, found_done, looks_at, pairs_found, times_done}

-- of rows that were probed after others
pairs_append : (n : ℕ) (later rows : List Probed) → pairs_found n (later ++ rows) ≡ pairs_found n rows ++ pairs_found n later
pairs_append n [] rows = sym (append-nil (pairs_found n rows))
pairs_append n (q ∷ qs) rows = ap (λ (l : List Pair). l ++ pairs_of_row n q) (pairs_append n qs rows) ∙ append_assoc (pairs_found n rows) (pairs_found n qs) (pairs_of_row n q)

meets_append : (j : Join) (later rows : List Probed) → EachMeets j later → EachMeets j rows → EachMeets j (later ++ rows)
meets_append j [] rows a b = b
meets_append j (q ∷ qs) rows a b = (a.0, meets_append j qs rows a.1 b)

pub looks_append : (p : HashParty) (later rows : List ℕ) → looks_at p (later ++ rows) ≡ looks_at p later + looks_at p rows
looks_append p [] rows = omega arith
looks_append p (r ∷ rs) rows = let i = looks_append p rs rows in omega arith

rows_append : (later rows : List Probed) → probed_rows (later ++ rows) ≡ probed_rows later ++ probed_rows rows
rows_append [] rows = refl
rows_append (q ∷ qs) rows = ap (λ (l : List ℕ). q.row ∷ l) (rows_append qs rows)

pub only_on : (u v w : HashView) → ProbesOnly u v → ProbesOnly v w → ProbesOnly u w
only_on u v w a b = record {
  aside = b.aside ∙ a.aside;
  known = b.known ∙ a.known;
  ended = (b.ended.0 ∙ a.ended.0, b.ended.1 ∙ a.ended.1);
  claims = (b.claims.0 ∙ a.claims.0, b.claims.1 ∙ a.claims.1);
  chunks = b.chunks ∙ a.chunks;
  claimed = b.claimed ∙ a.claimed;
  swept = b.swept ∙ a.swept;
  stored = b.stored ∙ a.stored;
  late = b.late ∙ a.late;
  done = λ x. let m = a.done x in let n = b.done x in omega arith;
}

pub none_on : (u v w : HashView) → ProbesNone u v → ProbesNone v w → ProbesNone u w
none_on u v w a b = record { probed = b.probed ∙ a.probed; given = b.given ∙ a.given; only = only_on u v w a.only b.only }

module _ (p : HashParty) where
  pub does_on : (rows later : List Probed) (given after : List ℕ) (u v w : HashView) (a b c : List Pair) (k l m : ℕ) → DoesRows p rows given u v a b k l → DoesRows p later after v w b c l m → DoesRows p (later ++ rows) (after ++ given) u w a c k m
  does_on rows later given after u v w a b c k l m x y =
      let n : ℕ = length p.inner.now.rows in
      let probed : looks_at p (probed_rows (later ++ rows)) ≡ looks_at p (probed_rows later) + looks_at p (probed_rows rows) = ap (looks_at p) (rows_append later rows) ∙ looks_append p (probed_rows later) (probed_rows rows) in
      let gave = looks_append p after given in
      let first = x.looks in
      let second = y.looks in
      record {
        probed = y.probed ∙ (ap (λ (l : List Probed). later ++ l) x.probed ∙ sym (append_assoc later rows u.probed));
        gave = y.gave ∙ (ap (λ (l : List ℕ). after ++ l) x.gave ∙ sym (append_assoc after given u.given));
        each = meets_append (join p) later rows y.each x.each;
        pairs = y.pairs ∙ (ap (λ (l : List Pair). l ++ pairs_found n later) x.pairs ∙ (append_assoc a (pairs_found n rows) (pairs_found n later) ∙ ap (λ (l : List Pair). a ++ l) (sym (pairs_append n later rows))));
        looks = omega arith;
        only = only_on u v w x.only y.only;
      }

  -- where no row was probed or given up
  pub does_none : (v w : HashView) (a : List Pair) (k : ℕ) → ProbesNone v w → DoesRows p [] [] v w a a k k
  does_none v w a k x = record { probed = x.probed; gave = x.given; each = tt; pairs = sym (append-nil a); looks = omega arith; only = x.only }

-- what changes while rows are probed: those in hand, probed and given up, what a seat knows of them, and which stores it saw at their end
abbrev moved : HashView → HashView → HashView
moved v w = record v { hand = w.hand; hashed = w.hashed; linked = w.linked; walk = w.walk; taking = w.taking; probed = w.probed; given = w.given; emptied = w.emptied; drained = w.drained; done = w.done }

pub moved_only : (v w : HashView) → ((b : ℕ) → times_done b v ≤ times_done b w) → ProbesOnly v (moved v w)
moved_only v w more = record {
  aside = refl;
  known = refl;
  ended = (refl, refl);
  claims = (refl, refl);
  chunks = refl;
  claimed = refl;
  swept = refl;
  stored = refl;
  late = refl;
  done = more;
}

pub stays_none : (v : HashView) → ProbesNone v v
stays_none v = record { probed = refl; given = refl; only = moved_only v v (λ b. omega arith) }

-- a row was taken out of a store
pub took_none : (v : HashView) (row : ℕ) → ProbesNone v (took v row)
took_none v row = record { probed = refl; given = refl; only = moved_only v (took v row) (λ b. omega arith) }

-- an outer store was found at its end, and a batch was found done
pub drained_none : (v : HashView) (b : ℕ) → ProbesNone v (found_empty Outer b v)
drained_none v b = record { probed = refl; given = refl; only = moved_only v (found_empty Outer b v) (λ x. omega arith) }

pub done_none : (v : HashView) (b : ℕ) → ProbesNone v (found_done b v)
done_none v b = record { probed = refl; given = refl; only = moved_only v (found_done b v) (λ x. omega arith) }

-- The cursor of one side, once a view is changed, a seat is drawn or joined, or rows are claimed.
use Rattle.std.proofs.Common.{◌≡◌, ◌⊎◌, ℕ, ◌+◌, ◌%◌, ◌^◌, ◌<◌, ◌≤◌, Bool, true, false, List, [], ◌∷◌, ◌++◌, length, set, sym, ◌∙◌, subst, arith, inl, ⊎_elim, length-set, length-append, mod-eq_of_lt}
use Rattle.std.proofs.lemmas.Bool.{false≢true}
use Rattle.seat_roster.specs.Totals.{total}
use Rattle.seat_roster.proofs.Totals.{total_set, total_snoc}
use Rattle.seat_roster.proofs.Stretches.{each_set, each_more}
use Rattle.join_law.specs.Layout.{Join}
use Rattle.join_law.specs.Phases.{HASH_OUTER, RUN}
use Rattle.join_law.specs.Views.{View, inner_ended, outer_ended, inner_claims, outer_claims}
use Rattle.join_law.specs.Stands.{There, CursorFits, Cursors}
use Rattle.join_law.proofs.Views.{total_still}

module _ (count cursor next : ℕ) (ended : View → Bool) (claims : View → ℕ) (phases : List ℕ) (views : List View) (c : CursorFits count cursor next ended claims phases views) where
  abbrev Still : List View → Type 0
  Still all = CursorFits count cursor next ended claims phases all

  -- a seat may have seen the end
  pub cursor_seen : (id : ℕ) (v w : View) → There views id v → (ended w ≡ true → (ended v ≡ true) ⊎ (count ≤ cursor)) → claims w ≡ claims v → Still (set views id w)
  cursor_seen id v w at sees same =
      let t = total_still claims views id v w at same in let l = length-set views id w in let f = c.few in let n = c.near in
      record { past = c.past; seen = each_set (λ (u : View). ended u ≡ true → count ≤ cursor) views id w c.seen (λ e. ⊎_elim (c.seen id v at) (λ end. end) (sees e)); few = omega arith; near = omega arith }

  -- a seat saw no more than before
  pub cursor_still : (id : ℕ) (v w : View) → There views id v → ended w ≡ ended v → claims w ≡ claims v → Still (set views id w)
  cursor_still id v w at same = cursor_seen id v w at (λ e. inl (sym same ∙ e))

  -- a seat is drawn
  pub cursor_more : (w : View) → ended w ≡ false → claims w ≡ 1 → Still (views ++ w ∷ [])
  cursor_more w new one =
      let t = total_snoc claims views w in let l = length-append views (w ∷ []) in let f = c.few in let n = c.near in
      record { past = c.past; seen = each_more (λ (u : View). ended u ≡ true → count ≤ cursor) views w c.seen (λ e. absurd (false≢true (sym new ∙ e))); few = omega arith; near = omega arith }

  -- two seats are joined
  pub cursor_joined : (all : List View) → total claims all ≡ total claims views → length all ≡ length views → ((id : ℕ) (u : View) → There all id u → ended u ≡ true → count ≤ cursor) → Still all
  cursor_joined all t l seen = let f = c.few in let n = c.near in record { past = c.past; seen = seen; few = omega arith; near = omega arith }

  -- the cursor stands far below where it would wrap
  pub cursor_low : length views ≤ 64 → count ≤ 1073741824 → cursor < 2 ^ 63
  cursor_low few room = let f = c.few in let n = c.near in omega arith

  pub cursor_up : length views ≤ 64 → count ≤ 1073741824 → (cursor + 64) % 2 ^ 64 ≡ cursor + 64
  cursor_up few room = let low = cursor_low few room in mod-eq_of_lt (omega arith)

  -- a claim finds rows, or the end, which a seat may find so once less
  pub cursor_moves : (id : ℕ) (v w : View) → There views id v → length views ≤ 64 → count ≤ 1073741824 → (ended w ≡ true → (ended v ≡ true) ⊎ (count ≤ cursor)) → ((count ≤ cursor) × (claims w + 1 ≡ claims v)) ⊎ ((cursor < count) × (claims w ≡ claims v))
      → CursorFits count ((cursor + 64) % 2 ^ 64) next ended claims phases (set views id w)
  cursor_moves id v w at few room sees found =
      let t = total_set claims views id v w at in let l = length-set views id w in let f = c.few in let n = c.near in
      subst (λ (k : ℕ). CursorFits count k next ended claims phases (set views id w)) (sym (cursor_up few room)) record {
        past = λ past. let a = c.past past in omega arith;
        seen = each_set (λ (u : View). ended u ≡ true → count ≤ cursor + 64) views id w (λ k u there e. let a = c.seen k u there e in omega arith) (λ e. ⊎_elim (λ x. let a = c.seen id v at x in omega arith) (λ end. omega arith) (sees e));
        few = ⊎_elim (λ x. let a = x.1 in omega arith) (λ x. let a = x.1 in omega arith) found;
        near = ⊎_elim (λ x. let a = x.1 in omega arith) (λ x. let a = x.0 in let b = x.1 in omega arith) found;
      }

-- a seat's view is changed, but not in what the cursors see
pub cursors_still : (j : Join) (inner outer : ℕ) (phases : List ℕ) (views : List View) (id : ℕ) (v w : View) → There views id v → inner_ended w ≡ inner_ended v → outer_ended w ≡ outer_ended v → inner_claims w ≡ inner_claims v → outer_claims w ≡ outer_claims v
    → Cursors j inner outer phases views → Cursors j inner outer phases (set views id w)
cursors_still j inner outer phases views id v w at ie oe ic oc c = record {
  inner = cursor_still j.inner inner HASH_OUTER inner_ended inner_claims phases views c.inner id v w at ie ic;
  outer = cursor_still j.outer outer RUN outer_ended outer_claims phases views c.outer id v w at oe oc;
}

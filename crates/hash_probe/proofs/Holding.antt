-- What a seat may do with the outer rows that it has taken.
use Rattle.std.proofs.Common.{◌≡◌, ℕ, ◌+◌, ◌≤◌, Bool, cond, ne_eqb, List, [], ◌∷◌, ◌++◌, refl, sym, ap, ◌∙◌, subst, arith, Some}
use Rattle.std.specs.Prelude.{All}
use Rattle.std.proofs.lemmas.List.{map-append}
use Rattle.std.proofs.lemmas.List.Elements.{All-head, All-push, All-tail}
use Rattle.std.proofs.lemmas.Option.{same_Some}
use Rattle.row_model.specs.declared.Side.TheVariants.{Outer}
use Rattle.seat_roster.specs.Roster.{times}
use Rattle.seat_roster.proofs.Numbers.{times_append}
use Rattle.wait_core.specs.Parties.{phase_of}
use Rattle.join_law.specs.Layout.{Join, sizes_of}
use Rattle.join_law.specs.Machine.{At}
use Rattle.join_law.specs.Phases.{build, batch_bar, known_at, known_word, RUN, PROBE}
use Rattle.join_law.specs.Routes.{batch_of}
use Rattle.join_law.specs.Views.{View, without}
use Rattle.join_law.proofs.Callers.{with_there}
use Rattle.join_law.proofs.Rows.{one, one_same, times_without}
use Rattle.shared_tuples.specs.Tuples.{IsRowOf}
use Rattle.shared_tuples.proofs.Tuples.{routed}
use Rattle.hash_probe.specs.declared.stores.Held.{Held}
use Rattle.hash_probe.specs.Holding.{HoldsRows, IsRowWithHash, rows_held}
use Rattle.hash_probe.specs.Probing.{MayProbe}
use Rattle.hash_probe.proofs.Attached.{phase_first}

-- one more is held
held_more : (row : ℕ) (held : List Held) (h : Held) → times row (rows_held (held ++ h ∷ [])) ≡ times row (rows_held held) + one row h.row
held_more row held h =
    let more = ap (times row) (map-append (λ (x : Held). x.row) held (h ∷ [])) ∙ times_append row (rows_held held) (h.row ∷ []) in omega arith

-- a list in which no row is has no members
empty_hand : (hand : List ℕ) → ((row : ℕ) → times row hand ≡ 0) → hand ≡ []
empty_hand [] none = refl
empty_hand (x ∷ xs) none = let here = none x in let mine = one_same x x refl in absurd (omega arith)

module _ (j : Join) (v : View) (batch : ℕ) (held : List Held) (h : HoldsRows j v batch held) where
  knows : known_word v ≡ Some h.word
  knows = ap (λ o. known_at o (phase_of v.attached 1) (phase_of v.attached 2)) h.known

  at_build : At v build RUN
  at_build = ap (λ (l : List (ℕ × ℕ)). phase_of l build) h.attached ∙ ap (λ (x : Bool). cond x (Some PROBE) (Some RUN)) (ne_eqb (batch_bar batch) build (λ e. absurd (omega arith)))

  at_batch : At v (batch_bar batch) PROBE
  at_batch = ap (λ (l : List (ℕ × ℕ)). phase_of l (batch_bar batch)) h.attached ∙ phase_first (batch_bar batch) PROBE ((build, RUN) ∷ [])

  -- a row of the batch's store, by its hash
  with_hash : (row hash : ℕ) → IsRowOf j v Outer batch row → j.hash row ≡ Some hash → IsRowWithHash j h.word batch (record { row = row; hash = hash })
  with_hash row hash is key =
      let r = routed j v row (λ z x. batch_of z x ≡ batch) is.1 in
      let known : h.word ≡ r.1 = same_Some h.word r.1 (sym knows ∙ r.3) in
      let same : hash ≡ r.0 = same_Some hash r.0 (sym key ∙ r.2) in
      record { outer = is.0; key = key; leads = ap {A = ℕ × ℕ} (λ n. batch_of (sizes_of n.0) n.1) (λ i. (known i, same i)) ∙ r.4 }

  -- one more was taken
  pub holds_more : (w : View) (row hash : ℕ) → IsRowOf j v Outer batch row → j.hash row ≡ Some hash → w.attached ≡ v.attached → w.client.known ≡ v.client.known → w.client.hand ≡ row ∷ v.client.hand → HoldsRows j w batch (held ++ record { row = row; hash = hash } ∷ [])
  holds_more w row hash is key attached known hand =
      let x : Held = record { row = row; hash = hash } in
      record {
        word = h.word;
        known = known ∙ h.known;
        attached = attached ∙ h.attached;
        hand = λ n. let more = ap (times n) hand in let held' = held_more n held x in let same = h.hand n in omega arith;
        each = All-push (IsRowWithHash j h.word batch) held x h.each (with_hash row hash is key);
      }

  -- when none is left the hand is empty
  pub none_held : held ≡ [] → v.client.hand ≡ []
  none_held none = empty_hand v.client.hand (λ row. h.hand row ∙ ap (λ (l : List Held). times row (rows_held l)) none)

  module _ (x : Held) (rest : List Held) (first : held ≡ x ∷ rest) where
    in_hand : (row : ℕ) → times row v.client.hand ≡ one row x.row + times row (rows_held rest)
    in_hand row = h.hand row ∙ ap (λ (l : List Held). times row (rows_held l)) first

    each_held : All (IsRowWithHash j h.word batch) (x ∷ rest)
    each_held = subst (All (IsRowWithHash j h.word batch)) first h.each

    first_is_held : 1 ≤ times x.row v.client.hand
    first_is_held = let mine = one_same x.row x.row refl in let all = in_hand x.row in omega arith

    -- the first one may be probed
    pub may_probe_first : MayProbe j v x.row × (j.hash x.row ≡ Some x.hash)
    may_probe_first =
        let k = All-head (IsRowWithHash j h.word batch) x rest each_held in
        let there : At v (batch_bar (batch_of (sizes_of h.word) x.hash)) PROBE = subst (λ (b : ℕ). At v (batch_bar b) PROBE) (sym k.leads) at_batch in (
          record {
            hand = first_is_held;
            outer = k.outer;
            running = at_build;
            probing = with_there (j.hash x.row) _ x.hash k.key (with_there (known_word v) _ h.word knows there);
          },
          k.key,
        )

    -- and when it left the hand the others are there
    pub holds_fewer : (w : View) → w.attached ≡ v.attached → w.client.known ≡ v.client.known → w.client.hand ≡ without x.row v.client.hand → HoldsRows j w batch rest
    holds_fewer w attached known hand = record {
      word = h.word;
      known = known ∙ h.known;
      attached = attached ∙ h.attached;
      hand = λ row. let left = times_without x.row v.client.hand first_is_held row in let fewer = ap (times row) hand in let all = in_hand row in omega arith;
      each = All-tail (IsRowWithHash j h.word batch) x rest each_held;
    }

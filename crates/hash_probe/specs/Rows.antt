-- What a worker that probes does with rows.
use Rattle.std.specs.Prelude.{◌≡◌, ℕ, ◌+◌, ◌≤◌, List, [], ◌∷◌, ◌++◌, length, ⊤}
use Rattle.row_model.specs.declared.Pair.{Pair}
use Rattle.seat_roster.specs.Roster.{times}
use Rattle.join_law.specs.declared.view.HashView.{HashView}
use Rattle.join_law.specs.declared.view.Probed.{Probed}
use Rattle.join_law.specs.Layout.{Join}
use Rattle.join_law.specs.Stands.{meeting}
use Rattle.join_law.specs.Views.{probed_rows}
use Rattle.join_party.specs.declared.party.HashParty.{HashParty}
use Rattle.join_party.specs.Joins.{join}
use Rattle.hash_probe.specs.Looks.{walk_of}
use Rattle.hash_probe.specs.Probing.{pairs_of_row}

-- of rows that were probed the last comes first; their pairs are in the order of their probing
abbrev pub pairs_found : ℕ → List Probed → List Pair
pairs_found inner [] = []
pairs_found inner (q ∷ qs) = pairs_found inner qs ++ pairs_of_row inner q

-- each with the inner rows that it meets, each once
abbrev pub EachMeets : Join → List Probed → Type 0
EachMeets j [] = ⊤
EachMeets j (q ∷ qs) = ((i : ℕ) → times i q.pairs ≡ meeting j q.row i) × EachMeets j qs

-- the looks at keys that these rows take at most
abbrev pub looks_at : HashParty → List ℕ → ℕ
looks_at p [] = 0
looks_at p (r ∷ rs) = walk_of p.outer.now p.inner.now p.buckets r + looks_at p rs

-- a batch whose outer store was seen at its end, or that was found done
abbrev pub times_done : ℕ → HashView → ℕ
times_done b v = times b v.drained + times b v.done

-- a batch was found at SCAN or FREE
abbrev pub found_done : ℕ → HashView → HashView
found_done b v = record v { done = b ∷ v.done }

-- nothing was claimed, set aside or sized; batches that were done are done
pub record ProbesOnly (v w : HashView) : Type 0 where
  pub aside : w.aside ≡ v.aside
  pub known : w.known ≡ v.known
  pub ended : (w.inner_ended ≡ v.inner_ended) × (w.outer_ended ≡ v.outer_ended)
  pub claims : (w.inner_claims ≡ v.inner_claims) × (w.outer_claims ≡ v.outer_claims)
  pub chunks : w.chunks ≡ v.chunks
  pub claimed : w.claimed ≡ v.claimed
  pub swept : w.swept ≡ v.swept
  pub stored : w.stored ≡ v.stored
  pub late : w.late ≡ v.late
  pub done : (b : ℕ) → times_done b v ≤ times_done b w

-- these rows were probed, and those given up
pub record DoesRows (p : HashParty) (rows : List Probed) (given : List ℕ) (v w : HashView) (before after : List Pair) (looks_before looks_after : ℕ) : Type 0 where
  pub probed : w.probed ≡ rows ++ v.probed
  pub gave : w.given ≡ given ++ v.given
  pub each : EachMeets (join p) rows
  pub pairs : after ≡ before ++ pairs_found (length p.inner.now.rows) rows
  pub looks : looks_after ≤ looks_before + (looks_at p (probed_rows rows) + looks_at p given)
  pub only : ProbesOnly v w

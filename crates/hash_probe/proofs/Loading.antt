-- How an inner row that is taken out of its store is inserted.
use Rattle.std.proofs.Common.{◌≡◌, ℕ, ◌≤◌, sym, ap, ◌∙◌, subst, inr, Some}
use Rattle.std.specs.Int.{IsPowerOfTwo}
use Rattle.std.proofs.lemmas.Option.{same_Some}
use Rattle.row_model.specs.declared.Route.{Route}
use Rattle.row_model.specs.Routes as routes
use Rattle.wait_core.specs.Parties.{phase_of}
use Rattle.join_law.specs.Layout.{Join, SizesOf, sizes_of}
use Rattle.join_law.specs.Machine.{At}
use Rattle.join_law.specs.Phases.{known_at, known_word, batch_bar, LOAD}
use Rattle.join_law.specs.Routes.{batch_of}
use Rattle.join_law.specs.Views.{View}
use Rattle.join_law.proofs.Callers.{with_there}
use Rattle.shared_tuples.specs.Tuples.{MayInsert}
use Rattle.shared_tuples.proofs.Tuples.{routed}
use Rattle.hash_probe.specs.declared.HashTable.{HashTable}
use Rattle.hash_probe.specs.Loads.{MayLoad}
use Rattle.hash_probe.specs.Working.{KnowsTable}

-- what the seat knows of the table is what it knows for good
known_table : (j : Join) (v : View) (table : HashTable) → (k : KnowsTable j v.client.known table) → known_word v ≡ Some k.word
known_table j v table k = ap (λ o. known_at o (phase_of v.attached 1) (phase_of v.attached 2)) k.is

-- the numbers of buckets and batches are powers of two, and not too many
pub table_fits : (j : Join) (v : View) (table : HashTable) → KnowsTable j v.client.known table → (IsPowerOfTwo table.buckets × (table.buckets ≤ 262144)) × (IsPowerOfTwo table.batches × (table.batches ≤ 64))
table_fits j v table k =
    let z : SizesOf = sizes_of k.word in (
      subst (λ (n : ℕ). IsPowerOfTwo n × (n ≤ 262144)) k.buckets (k.fit.powers.0, k.fit.few),
      subst (λ (n : ℕ). IsPowerOfTwo n × (n ≤ 64)) k.batches (k.fit.powers.1, k.fit.most),
    )

-- the row may be inserted where its hash leads
pub may_insert : (j : Join) (v : View) (table : HashTable) (route : Route) (row x : ℕ) → MayLoad j v table row → j.hash row ≡ Some x → route.bucket ≡ routes.bucket_of table.buckets x → route.batch ≡ routes.batch_of table.buckets table.batches x → MayInsert j v route row
may_insert j v table route row x may key bucket batch =
    let k = may.known in
    let z : SizesOf = sizes_of k.word in
    let b : routes.bucket_of z.buckets x ≡ route.bucket = ap (λ (n : ℕ). routes.bucket_of n x) k.buckets ∙ sym bucket in
    let c : routes.batch_of z.buckets z.batches x ≡ route.batch = ap {A = ℕ × ℕ} (λ n. routes.batch_of n.0 n.1 x) (λ i. (k.buckets i, k.batches i)) ∙ sym batch in
    let r = routed j v row (λ z x. At v (batch_bar (batch_of z x)) LOAD) may.loading in
    let same : r.0 ≡ x = same_Some r.0 x (sym r.2 ∙ key) in
    let word : r.1 ≡ k.word = same_Some r.1 k.word (sym r.3 ∙ known_table j v table k) in
    let here : batch_of (sizes_of r.1) r.0 ≡ route.batch = ap {A = ℕ × ℕ} (λ n. batch_of (sizes_of n.0) n.1) (λ i. (word i, same i)) ∙ c in
    record {
      ready = may.ready;
      inner = may.inner;
      fills = inr (may.running, subst (λ (n : ℕ). At v (batch_bar n) LOAD) here r.4);
      leads = with_there (j.hash row) _ x key (with_there (known_word v) _ k.word (known_table j v table k) (b, c));
    }

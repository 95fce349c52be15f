-- Rows are probed or given up.
use Rattle.std.proofs.Common.{◌≡◌, ℕ, suc, ◌+◌, ◌≤◌, List, [], ◌∷◌, ◌++◌, length, refl, sym, ap, ◌∙◌, subst, arith, inl, inr, None, true}
use Rattle.std.proofs.lemmas.Bool.{true≢false}
use Rattle.std.proofs.lemmas.List.{append-nil, length-append, length-map}
use Rattle.row_model.specs.declared.Pair.{Pair}
use Rattle.row_model.specs.Table.{nested_loop}
use Rattle.seat_roster.specs.Roster.{times}
use Rattle.wait_core.specs.declared.view.WaitView.{WaitView}
use Rattle.wait_core.specs.Seating.{client_moved}
use Rattle.signal_core.specs.declared.seat.SigSeat.{SigSeat}
use Rattle.signal_core.specs.declared.view.SigView.{SigView}
use Rattle.join_law.specs.declared.view.HashView.{HashView}
use Rattle.join_law.specs.declared.view.Probed as row
use Rattle.join_law.specs.Stands.{meeting}
use Rattle.join_law.specs.Layout.{Join}
use Rattle.join_law.specs.Views.{pairs_in}
use Rattle.join_party.specs.declared.party.HashParty.{HashParty}
use Rattle.join_party.specs.declared.tables.JoinSeats.{JoinSeats}
use Rattle.join_party.specs.declared.tables.JoinTables.{JoinTables}
use Rattle.join_party.specs.Joins.{join}
use Rattle.hash_probe.specs.declared.Probed.{Probed}
use Rattle.hash_probe.specs.Loads.{ProbesNone}
use Rattle.hash_probe.specs.Looks.{walk_of}
use Rattle.hash_probe.specs.Marks.{CountsRow, IsUnmarked, Says, SaysOver}
use Rattle.hash_probe.specs.Probing.{ProbesRow, pairs_of_row, with_given, with_probed}
use Rattle.hash_probe.specs.Rows.{DoesRows, ProbesOnly}
use Rattle.hash_probe.specs.Signals.{GoesOn, STOP, swaps}
use Rattle.hash_probe.specs.Working.{HandlesRow, StaysAttached, Worked}
use Rattle.hash_probe.proofs.RowsDone.{does_none, does_on, moved_only, stays_none}
use Rattle.hash_probe.proofs.Saying.{says_on}
use Rattle.hash_probe.proofs.Signals.{stays_on, swaps_on, tells_on}
use Rattle.hash_probe.proofs.Working.{numbers_on, worked_none, worked_on}

-- the seat is attached as before
pub stays_moved : (v w : WaitView HashView) (c : HashView) → w ≡ client_moved v c → StaysAttached v w
stays_moved v w c is = record {
  attached = ap (λ (y : WaitView HashView). y.attached) is;
  numbers = record {
    own = ap (λ (y : WaitView HashView). y.own) is;
    pending = ap (λ (y : WaitView HashView). y.pending) is;
    taken = ap (λ (y : WaitView HashView). y.taken) is;
    drawn = ap (λ (y : WaitView HashView). y.drawn) is;
  };
}

module _ (p : HashParty) (procs : ℕ) where
  -- what a row says that was probed
  says_over : (m n : Probed) (q : row.Probed) (count added : ℕ) (v w : SigView) → m.over ≡ None → count ≤ length (nested_loop p.outer.now p.inner.now) → added ≤ length q.pairs → CountsRow procs count added m n v w → SaysOver p procs (q ∷ []) m.over n.over v w
  says_over m n q count added v w none all many (inl c) = inl (ap (λ (x : Probed). x.over) c.0, ap (λ (x : SigView). x.emissions) c.1)
  says_over m n q count added v w none all many (inr c) =
      let carried = c.1.carried in
      inr (none, count, ap (λ (x : Probed). x.over) c.0, record { past = c.1.past; all = all; by = q; later = []; earlier = []; among = refl; carried = omega arith; tells = c.1.tells })

  says_counted : (m n : Probed) (q : row.Probed) (count added : ℕ) (v w : SigView) → IsUnmarked m → count ≤ length (nested_loop p.outer.now p.inner.now) → added ≤ length q.pairs → CountsRow procs count added m n v w → Says p procs (q ∷ []) [] m n v w
  says_counted m n q count added v w none all many (inl c) = record {
    heard = λ still. (none.1, ap (λ (x : SigView). times STOP x.absorbed) c.1);
    count = ap (λ (x : Probed). x.probed) c.0;
    on = subst (GoesOn v) (sym c.1) (stays_on v);
    over = says_over m n q count added v w none.0 all many (inl c);
    stopped = inl (ap (λ (x : Probed). x.stopped) c.0);
    unmarked = λ still. (refl, none);
  }
  says_counted m n q count added v w none all many (inr c) = record {
    heard = λ still. (none.1, ap (times STOP) c.1.unheard);
    count = ap (λ (x : Probed). x.probed) c.0;
    on = tells_on procs count v w c.1.tells;
    over = says_over m n q count added v w none.0 all many (inr c);
    stopped = inl (ap (λ (x : Probed). x.stopped) c.0);
    unmarked = λ still. (refl, none);
  }

  -- what is said of a row that was given up, where there is a mark
  says_given : (m n : Probed) (r : ℕ) (v : SigView) → n.probed ≡ m.probed → n.over ≡ m.over → n.stopped ≡ m.stopped → (IsUnmarked n → ⊥) → Says p procs [] (r ∷ []) m n v v
  says_given m n r v count over stopped marked = record { count = omega arith; on = stays_on v; over = inl (over, refl); stopped = inl stopped; unmarked = λ none. absurd (marked none); heard = λ none. (sym stopped ∙ none, refl) }

  -- what was done with a row that was probed, and with one that was given up
  does_probed : (v w : WaitView HashView) (r count : ℕ) (before after : List Pair) (k l : ℕ) → (d : ProbesRow (join p) v w r before after count) → l ≤ k + walk_of p.outer.now p.inner.now p.buckets r → DoesRows p (d.probed ∷ []) [] v.client w.client before after k l
  does_probed v w r count before after k l d few =
      let q = d.probed in
      let view : w.client ≡ with_probed v.client q = ap (λ (y : WaitView HashView). y.client) d.view in
      let looks : walk_of p.outer.now p.inner.now p.buckets q.row ≡ walk_of p.outer.now p.inner.now p.buckets r = ap (walk_of p.outer.now p.inner.now p.buckets) d.same in
      record {
        probed = ap (λ (y : HashView). y.probed) view;
        gave = ap (λ (y : HashView). y.given) view;
        each = (λ i. d.once i ∙ ap (λ (o : ℕ). meeting (join p) o i) (sym d.same), tt);
        pairs = d.pairs;
        looks = omega arith;
        only = subst (ProbesOnly v.client) (sym view) (moved_only v.client (with_probed v.client q) (λ b. omega arith));
      }

  pub does_given : (v w : WaitView HashView) (r : ℕ) (a : List Pair) (k l : ℕ) → w ≡ client_moved v (with_given v.client r) → l ≤ k + walk_of p.outer.now p.inner.now p.buckets r → DoesRows p [] (r ∷ []) v.client w.client a a k l
  does_given v w r a k l is few =
      let view : w.client ≡ with_given v.client r = ap (λ (y : WaitView HashView). y.client) is in
      record {
        probed = ap (λ (y : HashView). y.probed) view;
        gave = ap (λ (y : HashView). y.given) view;
        each = tt;
        pairs = sym (append-nil a);
        looks = omega arith;
        only = subst (ProbesOnly v.client) (sym view) (moved_only v.client (with_given v.client r) (λ b. omega arith));
      }

-- how many pairs a probed row has
pub added_by : (j : Join) (v w : WaitView HashView) (r count : ℕ) (before after : List Pair) → (d : ProbesRow j v w r before after count) → (length after ≡ length before + length d.probed.pairs) × (length d.probed.pairs ≤ count)
added_by j v w r count before after d =
    let all : length after ≡ length before + length d.probed.pairs = ap length d.pairs ∙ (length-append before (pairs_of_row j.inner d.probed) ∙ ap (λ (n : ℕ). length before + n) (length-map d.probed.pairs _)) in
    let view : pairs_in w.client.probed ≡ length d.probed.pairs + pairs_in v.client.probed = ap (λ (y : WaitView HashView). pairs_in y.client.probed) d.view in
    let least = d.counted in
    (all, omega arith)

module _ (t : JoinTables) where
  pub handles_probed : (v w : JoinSeats) (u : WaitView HashView) (m n : Probed) (r count added : ℕ) (before after : List Pair) (k l : ℕ) → IsUnmarked m → (d : ProbesRow (join t.waits.party) v.wait.view u r before after count) → count ≤ length (nested_loop t.waits.party.outer.now t.waits.party.inner.now)
      → l ≤ k + walk_of t.waits.party.outer.now t.waits.party.inner.now t.waits.party.buckets r → length after ≡ length before + added → w.wait.view ≡ u → w.lock ≡ v.lock → CountsRow t.signals.procs count added m n v.signal.view w.signal.view → HandlesRow t v w m n before after k l
  handles_probed v w u m n r count added before after k l none d all few more is lock counts =
      let p = t.waits.party in
      let mine = added_by (join p) v.wait.view u r count before after d in
      let many = mine.0 in
      record {
        rows = d.probed ∷ [];
        given = [];
        one = omega arith;
        does = subst (λ (y : WaitView HashView). DoesRows p (d.probed ∷ []) [] v.wait.view.client y.client before after k l) (sym is) (does_probed p t.signals.procs v.wait.view u r count before after k l d few);
        says = says_counted p t.signals.procs m n d.probed count added v.signal.view w.signal.view none all (omega arith) counts;
        drained = ap (λ (y : WaitView HashView). y.client.drained) (is ∙ d.view);
        stays = stays_moved v.wait.view w.wait.view _ (is ∙ d.view);
        lock = lock;
      }

  pub handles_given : (v w : JoinSeats) (m n : Probed) (r : ℕ) (before after : List Pair) (k l : ℕ) → w.wait.view ≡ client_moved v.wait.view (with_given v.wait.view.client r) → after ≡ before → n.probed ≡ m.probed → n.over ≡ m.over → n.stopped ≡ m.stopped → (IsUnmarked n → ⊥)
      → l ≤ k + walk_of t.waits.party.outer.now t.waits.party.inner.now t.waits.party.buckets r → w.lock ≡ v.lock → w.signal ≡ v.signal → HandlesRow t v w m n before after k l
  handles_given v w m n r before after k l is same count over stopped marked few lock signal =
      let p = t.waits.party in
      let sig : v.signal.view ≡ w.signal.view = ap (λ (s : SigSeat). s.view) (sym signal) in
      record {
        rows = [];
        given = r ∷ [];
        one = omega arith;
        does = subst (λ (a : List Pair). DoesRows p [] (r ∷ []) v.wait.view.client w.wait.view.client before a k l) (sym same) (does_given p t.signals.procs v.wait.view w.wait.view r before k l is few);
        says = subst (λ (y : SigView). Says p t.signals.procs [] (r ∷ []) m n v.signal.view y) sig (says_given p t.signals.procs m n r v.signal.view count over stopped marked);
        drained = ap (λ (y : WaitView HashView). y.client.drained) is;
        stays = stays_moved v.wait.view w.wait.view _ is;
        lock = lock;
      }

  -- a row is handled after signals were looked for
  pub row_worked : (v u w : JoinSeats) (m k n : Probed) (before after : List Pair) (x y : ℕ) → u.wait.view.client ≡ v.wait.view.client → StaysAttached v.wait.view u.wait.view → u.lock ≡ v.lock → Says t.waits.party t.signals.procs [] [] m k v.signal.view u.signal.view
      → suc (swaps v.signal.view.steps) ≤ swaps u.signal.view.steps → HandlesRow t u w k n before after x y → (w.wait.view.attached ≡ v.wait.view.attached) × Worked t v w m n before after x y
  row_worked v u w m k n before after x y client stays lock says looked h =
      let p = t.waits.party in
      let none : ProbesNone v.wait.view.client u.wait.view.client = subst (ProbesNone v.wait.view.client) (sym client) (stays_none v.wait.view.client) in
      let first = does_none p v.wait.view.client u.wait.view.client before x none in
      let more = swaps_on u.signal.view w.signal.view h.says.on in
      let one = h.one in
      let long = length-append h.rows [] in (
        h.stays.attached ∙ stays.attached,
        record {
          rows = h.rows ++ [];
          given = h.given ++ [];
          does = does_on p [] h.rows [] h.given v.wait.view.client u.wait.view.client w.wait.view.client before before after x x y first h.does;
          says = says_on p t.signals.procs [] h.rows [] h.given m k n v.signal.view u.signal.view w.signal.view says h.says;
          looked = omega arith;
          numbers = numbers_on v.wait.view u.wait.view w.wait.view stays.numbers h.stays.numbers;
          lock = h.lock ∙ lock;
        },
      )

  -- rows were taken, and then handled
  pub worked_some : (s u v w : JoinSeats) (k m n : Probed) (a b c : List Pair) (x y z : ℕ) → Worked t s u k m a b x y → v.wait.view ≡ client_moved u.wait.view v.wait.view.client → ProbesNone u.wait.view.client v.wait.view.client → v.lock ≡ u.lock → v.signal ≡ u.signal
      → Worked t v w m n b c y z → Worked t s w k n a c x z
  worked_some s u v w k m n a b c x y z before view none lock signal handled =
      let taken = worked_none t u v m b y none (stays_moved u.wait.view v.wait.view v.wait.view.client view).numbers lock signal in
      worked_on t s v w k m n a b c x y z (worked_on t s u v k m m a b b x y y before taken) handled

-- a worker at whose row memory ran out has a mark
pub unmarked_not : (m : Probed) → IsUnmarked (record m { out_of_memory = true }) → ⊥
unmarked_not m none = true≢false none.2

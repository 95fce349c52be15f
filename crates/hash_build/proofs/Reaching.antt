-- How far a worker comes that hashes inner rows: by one chunk, and by a growth after it.
use Rattle.std.proofs.Common.{◌≡◌, ℕ, ◌+◌, [], refl, sym, ap, ◌∙◌, subst, arith}
use Rattle.row_model.specs.declared.Side.TheVariants.{Inner}
use Rattle.lw_core.specs.declared.seat.LwSeat.{LwSeat}
use Rattle.wait_core.specs.declared.view.WaitView.{WaitView}
use Rattle.wait_core.specs.Seating.{client_moved}
use Rattle.join_law.specs.declared.view.HashView.{HashView}
use Rattle.join_law.specs.Layout.{Join}
use Rattle.join_law.specs.Machine.{claimed_rows}
use Rattle.join_party.specs.declared.tables.JoinSeats.{JoinSeats}
use Rattle.join_party.specs.declared.tables.JoinTables.{JoinTables}
use Rattle.join_party.specs.Claims.{Claimed}
use Rattle.hash_build.specs.declared.growths.GrowthPhases.{GrowthPhases}
use Rattle.hash_build.specs.Growths.{Grows, IsGrowing}
use Rattle.hash_build.specs.Hashing.{ClaimsNone, HashesOnly, HoldsNoMore, IsFree, Reached, SameNumbers, SameWaitNumbers}
use Rattle.hash_build.proofs.Hashing.{hashes_on}

same_on : (u v w : WaitView HashView) → SameWaitNumbers u v → SameWaitNumbers v w → SameWaitNumbers u w
same_on u v w a b = record { own = b.own ∙ a.own; pending = b.pending ∙ a.pending; taken = b.taken ∙ a.taken; drawn = b.drawn ∙ a.drawn }

-- what claiming a chunk of inner rows does to the client's view
claimed_only : (v : HashView) (first count : ℕ) → HashesOnly v (claimed_rows v first count 1)
claimed_only v first count = record { given = refl; probed = refl; emptied = refl; drained = refl; done = refl; late = refl }

-- a chunk of inner rows was claimed, hashed and reported
pub reached_chunk : (j : Join) (v l a b : JoinSeats) (first count x y z : ℕ) → Reached v l x y → Claimed j Inner l.wait.view a.wait.view first count → a.lock ≡ l.lock → a.signal ≡ l.signal
    → b.wait.view ≡ client_moved a.wait.view b.wait.view.client → HashesOnly a.wait.view.client b.wait.view.client → ClaimsNone a.wait.view.client b.wait.view.client → b.wait.view.client.hand ≡ []
    → IsFree b.lock.view → SameNumbers a.lock.view b.lock.view → HoldsNoMore a.lock.view b.lock.view → b.lock.view.grants ≡ a.lock.view.grants + 1 → b.signal ≡ a.signal → z ≡ y + count → Reached v b x z
reached_chunk j v l a b first count x y z r c lock signal view only none hand free same holds grants still looks =
    let client : a.wait.view.client ≡ claimed_rows l.wait.view.client first count 1 = ap (λ (u : WaitView HashView). u.client) c.view in
    let held : a.lock.view.grants ≡ l.lock.view.grants = λ i. (lock i).view.grants in
    let chunks : a.wait.view.client.chunks ≡ l.wait.view.client.chunks + 1 = ap (λ (u : HashView). u.chunks) client in
    let claimed : a.wait.view.client.claimed ≡ l.wait.view.client.claimed + count = ap (λ (u : HashView). u.claimed) client in
    let chunks' = none.chunks in
    let claimed' = none.claimed in
    let reports = r.reports in
    let looked = r.looks in
    record {
      hand = hand;
      only = hashes_on v.wait.view.client l.wait.view.client b.wait.view.client r.only
          (hashes_on l.wait.view.client a.wait.view.client b.wait.view.client (subst (HashesOnly l.wait.view.client) (sym client) (claimed_only l.wait.view.client first count)) only);
      free = free;
      holds = λ nothing. holds (subst (λ (s : LwSeat). HoldsNoMore l.lock.view s.view) (sym lock) (λ n. n) (r.holds nothing));
      numbers = (
        record {
          own = same.own ∙ ((λ i. (lock i).view.own) ∙ r.numbers.0.own);
          pending = same.pending ∙ ((λ i. (lock i).view.pending) ∙ r.numbers.0.pending);
          taken = same.taken ∙ ((λ i. (lock i).view.taken) ∙ r.numbers.0.taken);
          drawn = same.drawn ∙ ((λ i. (lock i).view.drawn) ∙ r.numbers.0.drawn);
        },
        same_on v.wait.view l.wait.view b.wait.view r.numbers.1
            (record {
              own = ap (λ (u : WaitView HashView). u.own) view ∙ ap (λ (u : WaitView HashView). u.own) c.view;
              pending = ap (λ (u : WaitView HashView). u.pending) view ∙ ap (λ (u : WaitView HashView). u.pending) c.view;
              taken = ap (λ (u : WaitView HashView). u.taken) view ∙ ap (λ (u : WaitView HashView). u.taken) c.view;
              drawn = ap (λ (u : WaitView HashView). u.drawn) view ∙ ap (λ (u : WaitView HashView). u.drawn) c.view;
            }),
      );
      signal = still ∙ (signal ∙ r.signal);
      reports = omega arith;
      looks = omega arith;
    }

-- a growth came after it
pub reached_growth : (t : JoinTables) (v a b : JoinSeats) (p : GrowthPhases) (x y : ℕ) → Reached v a x y → Grows a b → IsGrowing t b p → Reached v b x y
reached_growth t v a b p x y r g growing =
    let grants = g.grants in
    let chunks = g.claims.chunks in
    let claimed = g.claims.claimed in
    let reports = r.reports in
    let looks = r.looks in
    record {
      hand = growing.hand;
      only = hashes_on v.wait.view.client a.wait.view.client b.wait.view.client r.only g.only;
      free = growing.free;
      holds = λ nothing. g.holds (r.holds nothing);
      numbers = (
        record { own = g.numbers.0.own ∙ r.numbers.0.own; pending = g.numbers.0.pending ∙ r.numbers.0.pending; taken = g.numbers.0.taken ∙ r.numbers.0.taken; drawn = g.numbers.0.drawn ∙ r.numbers.0.drawn },
        same_on v.wait.view a.wait.view b.wait.view r.numbers.1 g.numbers.1,
      );
      signal = g.signal ∙ r.signal;
      reports = omega arith;
      looks = omega arith;
    }

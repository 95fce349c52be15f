-- How far a worker came adds up.
use Rattle.std.proofs.Common.{◌≡◌, ℕ, ◌+◌, List, [], ◌++◌, length, refl, sym, ap, ◌∙◌, subst, arith}
use Rattle.std.proofs.lemmas.List.{length-append}
use Rattle.row_model.specs.declared.Pair.{Pair}
use Rattle.wait_core.specs.declared.view.WaitView.{WaitView}
use Rattle.signal_core.specs.declared.seat.SigSeat.{SigSeat}
use Rattle.signal_core.specs.declared.view.SigView.{SigView}
use Rattle.join_law.specs.declared.view.HashView.{HashView}
use Rattle.join_party.specs.declared.tables.JoinSeats.{JoinSeats}
use Rattle.join_party.specs.declared.tables.JoinTables.{JoinTables}
use Rattle.generation_barrier.specs.Waiting.{HasLeft}
use Rattle.hash_build.specs.Hashing.{SameWaitNumbers}
use Rattle.hash_probe.specs.declared.Probed.{Probed}
use Rattle.hash_probe.specs.Loads.{ProbesNone}
use Rattle.hash_probe.specs.Marks.{Says}
use Rattle.hash_probe.specs.Signals.{swaps}
use Rattle.hash_probe.specs.Working.{IsCounted, Worked}
use Rattle.hash_probe.proofs.Saying.{says_left, says_none, says_on}
use Rattle.hash_probe.proofs.RowsDone.{does_none, does_on, stays_none}
use Rattle.hash_probe.proofs.Signals.{swaps_on}

pub numbers_on : (u v w : WaitView HashView) → SameWaitNumbers u v → SameWaitNumbers v w → SameWaitNumbers u w
numbers_on u v w a b = record { own = b.own ∙ a.own; pending = b.pending ∙ a.pending; taken = b.taken ∙ a.taken; drawn = b.drawn ∙ a.drawn }

module _ (t : JoinTables) where
  pub worked_on : (u v w : JoinSeats) (k m n : Probed) (a b c : List Pair) (x y z : ℕ) → Worked t u v k m a b x y → Worked t v w m n b c y z → Worked t u w k n a c x z
  worked_on u v w k m n a b c x y z f s =
      let first = f.looked in
      let second = s.looked in
      let all = length-append s.rows f.rows in
      record {
        rows = s.rows ++ f.rows;
        given = s.given ++ f.given;
        does = does_on t.waits.party f.rows s.rows f.given s.given u.wait.view.client v.wait.view.client w.wait.view.client a b c x y z f.does s.does;
        says = says_on t.waits.party t.signals.procs f.rows s.rows f.given s.given k m n u.signal.view v.signal.view w.signal.view f.says s.says;
        looked = omega arith;
        numbers = numbers_on u.wait.view v.wait.view w.wait.view f.numbers s.numbers;
        lock = s.lock ∙ f.lock;
      }

  -- steps with no outer row
  pub worked_none : (v w : JoinSeats) (m : Probed) (a : List Pair) (x : ℕ) → ProbesNone v.wait.view.client w.wait.view.client → SameWaitNumbers v.wait.view w.wait.view → w.lock ≡ v.lock → w.signal ≡ v.signal → Worked t v w m m a a x x
  worked_none v w m a x none numbers lock signal = record {
    rows = [];
    given = [];
    does = does_none t.waits.party v.wait.view.client w.wait.view.client a x none;
    says = subst (λ (s : SigView). Says t.waits.party t.signals.procs [] [] m m v.signal.view s) (ap (λ (s : SigSeat). s.view) (sym signal)) (says_none t.waits.party t.signals.procs m v.signal.view);
    looked = let same : swaps w.signal.view.steps ≡ swaps v.signal.view.steps = ap (λ (s : SigSeat). swaps s.view.steps) signal in omega arith;
    numbers = numbers;
    lock = lock;
  }

  -- what a worker counted is in its view, as before
  pub counted_on : (v w : JoinSeats) (m n : Probed) (a b : List Pair) (x y : ℕ) → Worked t v w m n a b x y → IsCounted m v → IsCounted n w
  counted_on v w m n a b x y f is =
      let count = f.says.count in
      let probed : length w.wait.view.client.probed ≡ length f.rows + length v.wait.view.client.probed = ap length f.does.probed ∙ length-append f.rows v.wait.view.client.probed in
      omega arith

  pub worked_start : (v : JoinSeats) (m : Probed) (a : List Pair) (x : ℕ) → Worked t v v m m a a x x
  worked_start v m a x = worked_none v v m a x (stays_none v.wait.view.client) (record { own = refl; pending = refl; taken = refl; drawn = refl }) refl refl

  -- the slot was left
  pub worked_left : (v w : JoinSeats) (m : Probed) (a : List Pair) (x : ℕ) → w.wait.view.client ≡ v.wait.view.client → SameWaitNumbers v.wait.view w.wait.view → w.lock ≡ v.lock → HasLeft v.signal.view w.signal.view → Worked t v w m m a a x x
  worked_left v w m a x client numbers lock left =
      let says = says_left t.waits.party t.signals.procs m v.signal.view w.signal.view left in
      let more = swaps_on v.signal.view w.signal.view says.on in
      record {
        rows = [];
        given = [];
        does = does_none t.waits.party v.wait.view.client w.wait.view.client a x (subst (ProbesNone v.wait.view.client) (sym client) (stays_none v.wait.view.client));
        says = says;
        looked = omega arith;
        numbers = numbers;
        lock = lock;
      }

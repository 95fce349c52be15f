-- What a worker that probes has to say.
use Rattle.std.specs.Prelude.{◌≡◌, ◌⊎◌, ℕ, ◌+◌, ◌<◌, ◌≤◌, false, List, [], ◌∷◌, ◌++◌, length, Option, None, Some}
use Rattle.row_model.specs.Table.{nested_loop}
use Rattle.seat_roster.specs.Roster.{times}
use Rattle.signal_core.specs.declared.view.SigView.{SigView}
use Rattle.join_law.specs.declared.view.Probed as row
use Rattle.join_party.specs.declared.party.HashParty.{HashParty}
use Rattle.hash_probe.specs.declared.Probed.{Probed}
use Rattle.hash_probe.specs.Signals.{GoesOn, STOP, StopsAt, TellsOver}

-- the count of all pairs that no join may pass
abbrev pub most_pairs : ℕ
most_pairs = 4194304

-- it carried the count of all pairs past that, by one of these rows, and told so
pub record CarriesOver (p : HashParty) (procs : ℕ) (rows : List row.Probed) (count : ℕ) (v w : SigView) : Type 0 where
  pub past : most_pairs < count
  pub all : count ≤ length (nested_loop p.outer.now p.inner.now)
  pub by : row.Probed
  pub later : List row.Probed
  pub earlier : List row.Probed
  pub among : rows ≡ later ++ by ∷ earlier
  pub carried : count ≤ most_pairs + length by.pairs
  pub tells : TellsOver procs count v w

abbrev pub SaysOver : HashParty → ℕ → List row.Probed → Option ℕ → Option ℕ → SigView → SigView → Type 0
SaysOver p procs rows m n v w = ((n ≡ m) × (w.emissions ≡ v.emissions)) ⊎ ((m ≡ None) × (count : ℕ) × (n ≡ Some count) × CarriesOver p procs rows count v w)

-- One row more was probed, which added so many pairs and carried the count to this. Where that passed the limit it says so
abbrev pub counted : Probed → Probed
counted m = record m { probed = m.probed + 1 }

pub record PassesLimit (procs count added : ℕ) (v w : SigView) : Type 0 where
  pub past : most_pairs < count
  pub carried : count ≤ most_pairs + added
  pub tells : TellsOver procs count v w
  pub unheard : w.absorbed ≡ v.absorbed

abbrev pub CountsRow : ℕ → ℕ → ℕ → Probed → Probed → SigView → SigView → Type 0
CountsRow procs count added m n v w = ((n ≡ counted m) × (w ≡ v)) ⊎ ((n ≡ record (counted m) { over = Some count }) × PassesLimit procs count added v w)

-- it absorbed STOP
abbrev pub SaysStopped : Option ℕ → Option ℕ → SigView → SigView → Type 0
SaysStopped m n v w = (n ≡ m) ⊎ ((g : ℕ) × (n ≡ Some g) × StopsAt g v w)

-- nothing but how many rows it probed
abbrev pub IsUnmarked : Probed → Type 0
IsUnmarked n = (n.over ≡ None) × (n.stopped ≡ None) × (n.out_of_memory ≡ false)

-- from what it had to say to what it has now, after it probed these rows and gave up those. It gave up none without a mark, and where it doesn't say that it was stopped it absorbed no STOP
pub record Says (p : HashParty) (procs : ℕ) (rows : List row.Probed) (given : List ℕ) (m n : Probed) (v w : SigView) : Type 0 where
  pub count : n.probed ≡ m.probed + length rows
  pub on : GoesOn v w
  pub over : SaysOver p procs rows m.over n.over v w
  pub stopped : SaysStopped m.stopped n.stopped v w
  pub unmarked : IsUnmarked n → (given ≡ []) × IsUnmarked m
  pub heard : n.stopped ≡ None → (m.stopped ≡ None) × (times STOP w.absorbed ≡ times STOP v.absorbed)

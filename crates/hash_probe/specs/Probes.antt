-- When a worker may probe, and what it did then.
use Rattle.std.specs.Prelude.{ℕ, false, List, [], ◌∷◌, None}
use Rattle.row_model.specs.declared.Pair.{Pair}
use Rattle.join_law.specs.Phases.{build, RUN}
use Rattle.join_party.specs.declared.tables.JoinSeats.{JoinSeats}
use Rattle.join_party.specs.declared.tables.JoinTables.{JoinTables}
use Rattle.hash_build.specs.declared.Built.{Built}
use Rattle.hash_build.specs.declared.Built.TheVariants.{Late, Ready}
use Rattle.hash_probe.specs.declared.Probed.{Probed}
use Rattle.hash_probe.specs.Working.{IsWorking, Worked}

-- the table is built, as `build` answered, and the seats are as it left them, with the slot of signals joined
abbrev pub AsBuilt : JoinTables → Built → JoinSeats → Type 0
AsBuilt t Late s = ⊥
AsBuilt t (Ready buckets batches elected) s = IsWorking t s (record { buckets = buckets; batches = batches }) ((build, RUN) ∷ [])

-- nothing to say yet
abbrev pub nothing_said : Probed
nothing_said = record { probed = 0; over = None; stopped = None; out_of_memory = false }

-- all that it did, from the first batch on until it left
abbrev pub Probes : JoinTables → JoinSeats → JoinSeats → Probed → List Pair → List Pair → ℕ → ℕ → Type 0
Probes t v w n before after looks_before looks_after = Worked t v w nothing_said n before after looks_before looks_after

-- How the rounds of an acquire go.
use Rattle.std.specs.Prelude.{◌≡◌, ◌↔◌, ◌⊎◌, ℕ, ◌+◌, ◌<◌, ◌^◌, IsTrue, List, [], ◌∷◌, ◌++◌, slice_set, ⊤}
use Rattle.proc_table.specs.declared.Mode.{Mode}
use Rattle.lw_core.specs.declared.view.Frame.TheVariants.{GivingBack}
use Rattle.lw_core.specs.declared.view.Made.{Made}
use Rattle.lw_core.specs.declared.view.View.{View}
use Rattle.lw_core.specs.declared.view.Want.{Want}
use Rattle.lw_core.specs.Machine.{Place, held, hold_in, number_of, on_waking, resumed}
use Rattle.lw_core.specs.Words.{Blocks}
use Rattle.lwlock.specs.declared.rounds.Round.{Round}
use Rattle.lwlock.specs.declared.rounds.Round.TheVariants as round
use Rattle.lwlock.specs.declared.rounds.Rounds.{Rounds}
use Rattle.lwlock.specs.Calls.{FreedInCall, RefusedInCall, WentWith}

-- after some steps and some sleeps more the seat stands at the place p, and has this many wakes to give back
abbrev pub Stands : Place → ℕ → ℕ → View → View → Type 0
Stands p sleeps surplus v w = (more : List Made) × (w ≡ record v { place = p; steps = v.steps ++ more; waits = v.waits + sleeps; surplus = surplus })

-- after some steps more the lock is held, and there are this many wakes to give back
abbrev pub GrantedWith : ℕ → Mode → ℕ → View → View → Type 0
GrantedWith l m surplus v w = (more : List Made) × (w ≡ record v { place = resumed surplus (GivingBack ∷ []); steps = v.steps ++ more; holds = slice_set v.holds l (held m); grants = v.grants + 1; surplus = surplus })

-- the same, after some sleeps
abbrev pub HeldWith : ℕ → Mode → ℕ → ℕ → View → View → Type 0
HeldWith l m sleeps surplus v w = (more : List Made) × (w ≡ record v { place = resumed surplus (GivingBack ∷ []); steps = v.steps ++ more; holds = slice_set v.holds l (held m); grants = v.grants + 1; waits = v.waits + sleeps; surplus = surplus })

-- the round was granted, or the seat slept and goes on as one who queued for this does
abbrev pub RoundEnds : ℕ → Mode → Want → Round → View → View → Type 0
RoundEnds l m want (round.Granted more) v w = GrantedWith l m (v.surplus + more) v w × ((hold_in l w ≡ held m) × ((more ≡ 0) ⊎ (v.surplus + more < 2 ^ 32)))
RoundEnds l m want (round.Woken seen more) v w = WentWith (resumed (v.surplus + more) (on_waking want l m [])) (v.surplus + more) v w × (v.surplus + more < 2 ^ 32)

-- where it slept, the word that was seen conflicts, and somebody took the backend off the list since
abbrev pub RoundFreed : ℕ → Mode → Round → View → View → Type 0
RoundFreed l m (round.Granted more) v w = ⊤
RoundFreed l m (round.Woken seen more) v w = (seen < 2 ^ 32) × Blocks seen m × FreedInCall (number_of v.own) l m seen v w

-- the lock is held, and where the seat slept a word that conflicts was refused before
abbrev pub RoundsEnd : ℕ → Mode → Rounds → View → View → Type 0
RoundsEnd l m r v w = (sleeps : ℕ) × (HeldWith l m sleeps r.surplus v w × ((IsTrue r.waited ↔ (0 < sleeps)) × (IsTrue r.waited → RefusedInCall l m v w)))

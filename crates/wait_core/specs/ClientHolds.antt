-- The client's law.
use Rattle.std.specs.Prelude.{map}
use Rattle.wait_core.specs.declared.view.Size.{Size}
use Rattle.wait_core.specs.Words.{client_words}
use Rattle.wait_core.specs.Machine.{WaitState}
use Rattle.wait_core.specs.Meanings.{Meanings}
use Rattle.wait_core.specs.Seating.{party_of}
use Rattle.wait_core.specs.Barriers.{phases_in}

-- it holds of the client's words, of the views of its seats, and of each barrier's phase
abbrev pub ClientHolds : {C : Type 0} → Meanings C → Size → WaitState C → Type 0
ClientHolds means z s = means.holds (client_words z s.words) (map party_of s.views) (phases_in z s)

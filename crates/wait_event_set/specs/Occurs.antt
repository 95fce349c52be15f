-- What a set that is waited for or looked at reports.
use Rattle.std.specs.Prelude.{◌≡◌, ◌⊎◌, ℕ, List}
use mathlib.Core.Option as maybe
use lib.ListN.{get_elem?}
use Rattle.wait_core.specs.declared.view.Made.{Made}
use Rattle.latch.specs.Reads.{ReadLatch, ReadShutdown}
use Rattle.wait_event_set.specs.declared.set.Event.{Event}
use Rattle.wait_event_set.specs.declared.set.Event.TheVariants.{Latch, Shutdown}
use Rattle.wait_event_set.specs.declared.set.Member.{Member}
use Rattle.wait_event_set.specs.declared.wait.Occurred.{Occurred}
use Rattle.wait_event_set.specs.Members.{FirstAt, NoneSuch, flag_of}

-- among the steps of the backend p there is a load of the event's word that found n
abbrev pub ReadEvent : ℕ → Event → ℕ → List Made → Type 0
ReadEvent p Latch n more = ReadLatch p n more
ReadEvent p Shutdown n more = ReadShutdown n more

-- the first member with the event, with its position, its user's number and its flag
pub record Reports (e : Event) (ms : List Member) (o : Occurred) : Type 0 where
  pub first : FirstAt e ms o.position
  pub user : get_elem? ms o.position ≡ maybe.some record { event = e; user = o.user }
  pub flag : o.flags ≡ flag_of e

-- a member is reported that was read ready
pub record Occurs (p : ℕ) (ms : List Member) (o : Occurred) (more : List Made) : Type 0 where
  pub event : Event
  pub reports : Reports event ms o
  pub read : ReadEvent p event 1 more

-- no member has the event, or its word was read 0
abbrev pub NotReady : ℕ → Event → List Member → List Made → Type 0
NotReady p e ms more = NoneSuch e ms ⊎ ReadEvent p e 0 more

-- each member was read not ready
abbrev pub NothingReady : ℕ → List Member → List Made → Type 0
NothingReady p ms more = (at : ℕ) (m : Member) → get_elem? ms at ≡ maybe.some m → ReadEvent p m.event 0 more

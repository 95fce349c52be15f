-- The members of a set.
use Rattle.std.specs.Prelude.{◌≡◌, ℕ, ◌<◌, List, length}
use mathlib.Core.Option as maybe
use lib.ListN.{get_elem?}
use Rattle.wait_event_set.specs.declared.set.Event.{Event}
use Rattle.wait_event_set.specs.declared.set.Event.TheVariants.{Latch, Shutdown}
use Rattle.wait_event_set.specs.declared.set.Member.{Member}
use Rattle.wait_event_set.specs.declared.set.AddFault.{AddFault}
use Rattle.wait_event_set.specs.declared.set.AddFault.TheVariants.{SecondLatch, Full}

-- PostgreSQL's WL_LATCH_SET and WL_POSTMASTER_DEATH
abbrev pub flag_of : Event → ℕ
flag_of Latch = 1
flag_of Shutdown = 16

-- no member has the event
abbrev pub NoneSuch : Event → List Member → Type 0
NoneSuch e ms = (at : ℕ) (m : Member) → get_elem? ms at ≡ maybe.some m → m.event ≡ e → ⊥

-- the first member with the event is here
pub record FirstAt (e : Event) (ms : List Member) (at : ℕ) : Type 0 where
  pub user : ℕ
  pub here : get_elem? ms at ≡ maybe.some record { event = e; user = user }
  pub before : (j : ℕ) (m : Member) → j < at → get_elem? ms j ≡ maybe.some m → m.event ≡ e → ⊥

-- a latch isn't added beside another
abbrev pub LatchFits : Event → List Member → Type 0
LatchFits Latch ms = NoneSuch Latch ms
LatchFits Shutdown ms = Unit {0}

-- the event may be added
abbrev pub IsAddable : Event → List Member → Type 0
IsAddable e ms = LatchFits e ms × (length ms < 4)

-- why it may not: a latch stands here; or there are four, and no latch is added beside another
abbrev pub Refuses : Event → List Member → AddFault → Type 0
Refuses e ms (SecondLatch at) = (e ≡ Latch) × FirstAt Latch ms at
Refuses e ms Full = (length ms ≡ 4) × LatchFits e ms

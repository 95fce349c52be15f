-- What a seat may do, and the law of the two words.
use mathlib.Core.Option as maybe
use lib.ListN.{get_elem?}
use Rattle.std.specs.Prelude.{◌≡◌, ℕ, ◌+◌, ◌<◌, ◌≤◌, ⊤, List, length, Some, slice_index}
use Rattle.wait_core.specs.declared.party.ClientOp.{ClientOp}
use Rattle.wait_core.specs.declared.party.ClientOp.TheVariants.{Add, Load}
use Rattle.wait_core.specs.declared.view.PartyView.{PartyView}
use Rattle.wait_core.specs.declared.view.WaitView.{WaitView}
use Rattle.wait_core.specs.Closing.{Stood}
use Rattle.wait_core.specs.Meanings.{Meanings}
use Rattle.wait_core.specs.Parties.{now, phase_of}
use Rattle.wait_core.specs.Seating.{party_of}
use Rattle.wait_core.specs.Seats.{TableView}
use Rattle.seat_roster.specs.Totals.{total}
use Rattle.equal_words.specs.declared.Move.{Move}
use Rattle.equal_words.specs.declared.Move.TheVariants.{AddFirst, AddSecond, LookFirst, LookSecond}
use Rattle.equal_words.specs.declared.Progress.{Progress}
use Rattle.equal_words.specs.declared.Progress.TheVariants.{Fresh, Between, Done, Read}

abbrev pub move_op : Move → ClientOp
move_op AddFirst = Add 0 1
move_op AddSecond = Add 1 1
move_op LookFirst = Load 0
move_op LookSecond = Load 1

-- the seat is attached to barrier 0, and knows this phase of it
abbrev pub IsAt : ℕ → PartyView Progress → Type 0
IsAt phase v = phase_of v.attached 0 ≡ Some phase

-- it knows a phase past phase 0
abbrev pub IsPast : PartyView Progress → Type 0
IsPast v = (phase : ℕ) × (0 < phase) × IsAt phase v

-- in phase 0 a seat adds to the first word and then to the second, once; past that it may look
abbrev pub MayMove : PartyView Progress → Move → Type 0
MayMove v AddFirst = IsAt 0 v × (v.client ≡ Fresh)
MayMove v AddSecond = IsAt 0 v × (v.client ≡ Between)
MayMove v LookFirst = IsPast v
MayMove v LookSecond = IsPast v

-- what it has done after a move that found n
abbrev pub moved : Move → ℕ → Progress
moved AddFirst n = Between
moved AddSecond n = Done
moved LookFirst n = Read n
moved LookSecond n = Read n

-- phase 0 of barrier 0 asks for both additions, and nothing else is asked anywhere
abbrev pub IsQuiet : PartyView Progress → ℕ → ℕ → Type 0
IsQuiet v bar phase = bar ≡ 0 → phase ≡ 0 → v.client ≡ Done

-- that phase is the one that passes
abbrev pub Passes : ℕ → ℕ → Type 0
Passes bar phase = (bar ≡ 0) × (phase ≡ 0)

-- 1 where no addition is made, and 1 where one is
abbrev pub is_fresh : Progress → ℕ
is_fresh Fresh = 1
is_fresh p = 0

abbrev pub is_between : Progress → ℕ
is_between Between = 1
is_between p = 0

abbrev pub fresh_of : PartyView Progress → ℕ
fresh_of v = is_fresh v.client

abbrev pub between_of : PartyView Progress → ℕ
between_of v = is_between v.client

-- who is in between takes part in phase 0, which stands
abbrev pub IsInside : List ℕ → PartyView Progress → Type 0
IsInside phases v = v.client ≡ Between → IsAt 0 v × (now phases 0 ≡ 0)

-- who has read a word has read what it is, past phase 0
abbrev pub HasRead : List ℕ → List ℕ → PartyView Progress → Type 0
HasRead words phases v = (n : ℕ) → v.client ≡ Read n → (0 < now phases 0) × (slice_index words 0 ≡ n)

-- the first word is ahead of the second by the seats in between. Past phase 0 there is none: the words are equal, and stay so
pub record Lawful (words : List ℕ) (views : List (PartyView Progress)) (phases : List ℕ) : Type 0 where
  pub two : length words ≡ 2
  pub ahead : slice_index words 0 ≡ slice_index words 1 + total between_of views
  -- no seat adds twice, so no word wraps
  pub once : slice_index words 0 + total fresh_of views ≤ length views
  pub inside : (id : ℕ) (v : PartyView Progress) → get_elem? views id ≡ maybe.some v → IsInside phases v
  pub equal : 0 < now phases 0 → slice_index words 0 ≡ slice_index words 1
  pub read : (id : ℕ) (v : PartyView Progress) → get_elem? views id ≡ maybe.some v → HasRead words phases v

-- any seat may attach at any time, and each that is quiet may leave
abbrev pub meanings : Meanings Progress
meanings = record { holds = Lawful; quiet = IsQuiet; passes = Passes; enters = λ _ _. ⊤; stays = λ _ _. ⊥ }

-- past phase 0 the seat read n in the word at a place, in a state that meets the rule
abbrev pub Reads : {P : Type 0} → TableView P → ℕ → ℕ → ℕ → Type 0
Reads t id at n = (v : WaitView Progress) × IsPast (party_of v) × Stood meanings 2 t id v at n

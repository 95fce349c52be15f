-- What a seat's place says of lists, of rounds of sleep and of wakes.
use Rattle.std.specs.Prelude.{ℕ, ◌+◌, ◌==◌, Bool, true, false, cond, List, [], ◌∷◌, Option, None, Some}
use mathlib.Core.Option as maybe
use Rattle.seat_roster.specs.Totals.{total}
use Rattle.lw_core.specs.declared.view.Frame.TheVariants.{Attempting, Trying, Queued, TakingList, Spinning, Flagging, Announcing, Appending, Dequeueing, Checking, Removing, Withdrawing, Answering, Looking, Asleep, Downing, Sleeping, Woken, Marking, Detaching, Clearing, Posting, Peeking, Comparing, Reading, Returning, Allowing, VarQueued, Publishing, Calling, Unhanding}
use Rattle.lw_core.specs.declared.view.View.{View}
use Rattle.lw_core.specs.declared.view.Want.{Want}
use Rattle.lw_core.specs.declared.view.Want.TheVariants as want
use Rattle.lw_core.specs.declared.view.Waiter.{Waiter}
use Rattle.lw_core.specs.Words.{Waiters}
use Rattle.lw_core.specs.WaitLists.{same_want, times_on, times_with, taken_from, home_of}
use Rattle.lw_core.specs.Machine.{Place}

-- a lock with its list in hand, as it was found
pub record Hand : Type 0 where
  pub lock : ℕ
  pub list : List Waiter

-- a lock on whose list the backend may be, and what it waits for
pub record Entry : Type 0 where
  pub lock : ℕ
  pub want : Want

pub record Stance : Type 0 where
  -- the seat's number
  pub own : Option ℕ
  -- the list that it has in hand, and the lock whose HAS_WAITERS it set to queue
  pub hand : Option Hand
  pub flagged : Option ℕ
  -- it stored that it waits and isn't on the list yet, or left the list and hasn't stored that it doesn't wait
  pub announced : Bool
  -- it is in a round: it queued, and neither left the list by itself nor was woken since
  pub round : Bool
  -- in which it may still be on the list
  pub queued : Option Entry
  -- with the list in hand it found whether it is still on it
  pub leaving : Option Bool
  -- the lock whose RELEASE_OK it will set, since it queued for the lock
  pub due : Option ℕ
  -- those that it marked on the list in hand; and those that it took off the list, marked still, and not posted yet
  pub marked : List Waiter
  pub unlisted : List Waiter
  pub owed : List Waiter
  -- it will take its semaphore down, or did so in a sleep and hasn't read its waiting field since
  pub downing : Bool
  pub between : Bool
  -- the wakes that it has to give back; the numbers poked, and those whose `down` ended
  pub surplus : ℕ
  pub poked : List ℕ
  pub downed : List ℕ

abbrev pub hand_of : ℕ → List Waiter → Option Hand
hand_of l ws = Some record { lock = l; list = ws }

abbrev pub hand_at : Place → Option Hand
hand_at (Flagging l w found ∷ p) = hand_of l found
hand_at (Announcing l w found ∷ p) = hand_of l found
hand_at (Appending l w found ∷ p) = hand_of l found
hand_at (Checking l w found ∷ p) = hand_of l found
hand_at (Removing l w found here ∷ p) = hand_of l found
hand_at (Marking l updated found marked rest ∷ p) = hand_of l found
hand_at (Detaching l updated found w ∷ p) = hand_of l found
hand_at (Reading l old found ∷ p) = hand_of l found
hand_at (Returning l old found n ∷ p) = hand_of l found
hand_at (Publishing l x found releases ∷ p) = hand_of l found
hand_at (Calling l found marked rest ∷ p) = hand_of l found
hand_at (Unhanding l found ∷ p) = hand_of l found
hand_at p = None

abbrev pub flagged_at : Place → Option ℕ
flagged_at (Announcing l w found ∷ p) = Some l
flagged_at (Appending l w found ∷ p) = Some l
flagged_at p = None

abbrev pub announced_at : Place → Bool
announced_at (Appending l w found ∷ p) = true
announced_at (Withdrawing ∷ p) = true
announced_at p = false

abbrev pub sleeps : Place → Bool
sleeps (Sleeping l w answered ∷ p) = true
sleeps p = false

abbrev pub round_at : Place → Bool
round_at (Attempting l m ∷ Queued k n w ∷ p) = true
round_at (Trying l m w ∷ Queued k n u ∷ p) = true
round_at (TakingList l ∷ Dequeueing k w ∷ p) = true
round_at (Spinning l ∷ Dequeueing k w ∷ p) = true
round_at (Checking l w found ∷ p) = true
round_at (Removing l w found here ∷ p) = true
round_at (Answering l w ∷ p) = true
round_at (Looking ∷ p) = sleeps p
round_at (Asleep ∷ p) = sleeps p
round_at (Downing ∷ p) = sleeps p
round_at (Sleeping l w answered ∷ p) = true
round_at (Allowing l ∷ p) = true
round_at (Peeking l old ∷ VarQueued k older ∷ p) = true
round_at (TakingList l ∷ Comparing k old ∷ VarQueued j older ∷ p) = true
round_at (Spinning l ∷ Comparing k old ∷ VarQueued j older ∷ p) = true
round_at (Reading l old found ∷ VarQueued k older ∷ p) = true
round_at (Returning l old found n ∷ VarQueued k older ∷ p) = true
round_at p = false

abbrev pub entry_of : ℕ → Want → Option Entry
entry_of l w = Some record { lock = l; want = w }

abbrev pub sleep_entry : Place → Option Entry
sleep_entry (Sleeping l w false ∷ p) = entry_of l w
sleep_entry p = None

abbrev pub queued_at : Place → Option Entry
queued_at (Attempting l m ∷ Queued k n w ∷ p) = entry_of k w
queued_at (Trying l m w ∷ Queued k n u ∷ p) = entry_of k u
queued_at (TakingList l ∷ Dequeueing k w ∷ p) = entry_of k w
queued_at (Spinning l ∷ Dequeueing k w ∷ p) = entry_of k w
queued_at (Checking l w found ∷ p) = entry_of l w
queued_at (Removing l w found here ∷ p) = entry_of l w
queued_at (Looking ∷ p) = sleep_entry p
queued_at (Asleep ∷ p) = sleep_entry p
queued_at (Downing ∷ p) = sleep_entry p
queued_at (Sleeping l w answered ∷ p) = sleep_entry (Sleeping l w answered ∷ p)
queued_at (Allowing l ∷ p) = entry_of l want.UntilFree
queued_at (Peeking l old ∷ VarQueued k older ∷ p) = entry_of k want.UntilFree
queued_at (TakingList l ∷ Comparing k old ∷ VarQueued j older ∷ p) = entry_of j want.UntilFree
queued_at (Spinning l ∷ Comparing k old ∷ VarQueued j older ∷ p) = entry_of j want.UntilFree
queued_at (Reading l old found ∷ VarQueued k older ∷ p) = entry_of k want.UntilFree
queued_at (Returning l old found n ∷ VarQueued k older ∷ p) = entry_of k want.UntilFree
queued_at p = None

abbrev pub leaving_at : Place → Option Bool
leaving_at (Removing l w found here ∷ p) = Some here
leaving_at p = None

-- who queued for the lock, and not until it is free, has to set its RELEASE_OK once it was taken off the list
abbrev pub due_of : Option Entry → Option ℕ
due_of None = None
due_of (Some e) = cond (same_want e.want want.UntilFree) None (Some e.lock)

abbrev pub due_at : Place → Option ℕ
due_at (Answering l w ∷ p) = due_of (entry_of l w)
due_at (Woken l m ∷ p) = Some l
due_at p = due_of (queued_at p)

abbrev pub marked_at : Place → List Waiter
marked_at (Marking l updated found marked rest ∷ p) = marked
marked_at (Detaching l updated found w ∷ p) = taken_from found
marked_at (Calling l found marked rest ∷ p) = marked
marked_at p = []

abbrev pub rest_of : List Waiter → List Waiter
rest_of [] = []
rest_of (u ∷ us) = us

abbrev pub unlisted_at : Place → List Waiter
unlisted_at (Clearing us ∷ p) = us
unlisted_at (Posting us ∷ p) = rest_of us
unlisted_at p = []

abbrev pub owed_at : Place → List Waiter
owed_at (Clearing us ∷ p) = us
owed_at (Posting us ∷ p) = us
owed_at p = []

abbrev pub downing_at : Place → Bool
downing_at (Downing ∷ p) = true
downing_at p = false

abbrev pub between_at : Place → Bool
between_at (Sleeping l w answered ∷ p) = true
between_at p = false

abbrev pub stance_of : View → Stance
stance_of v = record {
  own = v.own;
  hand = hand_at v.place;
  flagged = flagged_at v.place;
  announced = announced_at v.place;
  round = round_at v.place;
  queued = queued_at v.place;
  leaving = leaving_at v.place;
  due = due_at v.place;
  marked = marked_at v.place;
  unlisted = unlisted_at v.place;
  owed = owed_at v.place;
  downing = downing_at v.place;
  between = between_at v.place;
  surplus = v.surplus;
  poked = v.poked;
  downed = v.downed;
}

-- COUNTS. 1 where the seat has the number p
abbrev pub is_own : ℕ → Option ℕ → ℕ
is_own p None = 0
is_own p (Some q) = cond (q == p) 1 0

-- n where the seat has the number p
abbrev pub own_amount : ℕ → Option ℕ → ℕ → ℕ
own_amount p None n = 0
own_amount p (Some q) n = cond (q == p) n 0

abbrev pub count_if : Bool → ℕ → ℕ
count_if true n = n
count_if false n = 0

-- 1 where the seat has the list of l in hand
abbrev pub has_hand : ℕ → Option Hand → ℕ
has_hand l None = 0
has_hand l (Some h) = cond (h.lock == l) 1 0

abbrev pub has_list : ℕ → Stance → ℕ
has_list l v = has_hand l v.hand

abbrev pub hand_list : Option Hand → List Waiter
hand_list None = []
hand_list (Some h) = h.list

-- how often p is on the list in hand, and on that of l with this want
abbrev pub hand_times : ℕ → Stance → ℕ
hand_times p v = times_on p (hand_list v.hand)

abbrev pub hand_with : ℕ → ℕ → Want → Option Hand → ℕ
hand_with l p w None = 0
hand_with l p w (Some h) = cond (h.lock == l) (times_with p w h.list) 0

abbrev pub home_times : ℕ → maybe.Option Waiters → ℕ
home_times p o = times_on p (home_of (maybe.some o))

-- how often p is on a list, at home or in hand
abbrev pub on_lists : ℕ → List (maybe.Option Waiters) → List Stance → ℕ
on_lists p homes seats = total (home_times p) homes + total (hand_times p) seats

-- 1 where p is in a round, and where it may be on the list of l with this want
abbrev pub in_round : ℕ → Stance → ℕ
in_round p v = count_if v.round (is_own p v.own)

abbrev pub entry_is : ℕ → Want → Option Entry → Bool
entry_is l w None = false
entry_is l w (Some e) = cond (e.lock == l) (same_want e.want w) false

abbrev pub may_be_listed : ℕ → Want → ℕ → Stance → ℕ
may_be_listed l w p v = count_if (entry_is l w v.queued) (is_own p v.own)

abbrev pub unlisted_times : ℕ → Stance → ℕ
unlisted_times p v = times_on p v.unlisted

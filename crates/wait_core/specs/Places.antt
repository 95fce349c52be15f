-- What a place says of its seat.
use Rattle.std.specs.Prelude.{ℕ, ◌+◌, ◌==◌, nat_lt, Bool, true, false, cond, List, Option, None, Some}
use Rattle.wait_core.specs.declared.step.Until.TheVariants.{LatchOrShutdown}
use Rattle.wait_core.specs.declared.view.Frame.{Frame}
use Rattle.wait_core.specs.declared.view.Frame.TheVariants.{Telling, Waking, Rechecking, CheckingShutdown, Looking, Asleep, Retracting, LeavingSet, LeavingShutdown, Stopping}
use Rattle.wait_core.specs.Machine.{top, bit}
use Rattle.wait_core.specs.Seating.{Standing}
use Rattle.seat_roster.specs.Totals.{total}

-- it stored that it may sleep, and not yet that it may not
abbrev pub may_sleep : Option Frame → Bool
may_sleep (Some (Rechecking u)) = true
may_sleep (Some CheckingShutdown) = true
may_sleep (Some (Looking u)) = true
may_sleep (Some (Asleep u)) = true
may_sleep (Some (Retracting u)) = true
may_sleep (Some LeavingSet) = true
may_sleep (Some LeavingShutdown) = true
may_sleep f = false

-- it is past the second look at the latch, which found it clear, and may sleep
abbrev pub past_latch : Option Frame → Bool
past_latch (Some CheckingShutdown) = true
past_latch (Some (Looking u)) = true
past_latch (Some (Asleep u)) = true
past_latch (Some (Retracting u)) = true
past_latch (Some LeavingShutdown) = true
past_latch f = false

-- it is past the look at the shutdown word, which found it clear, and may sleep
abbrev pub past_shutdown : Option Frame → Bool
past_shutdown (Some (Looking LatchOrShutdown)) = true
past_shutdown (Some (Asleep LatchOrShutdown)) = true
past_shutdown (Some (Retracting LatchOrShutdown)) = true
past_shutdown f = false

-- it looked at its wake byte and found it clear
abbrev pub is_asleep : Option Frame → Bool
is_asleep (Some (Asleep u)) = true
is_asleep f = false

-- it set the latch of p, and has still to see to it that p wakes
abbrev pub tells : ℕ → Option Frame → Bool
tells p (Some (Telling q)) = q == p
tells p (Some (Waking q)) = q == p
tells p f = false

-- it stored the shutdown word, and has still to store the wake byte of p
abbrev pub stops : ℕ → Option Frame → Bool
stops p (Some (Stopping q)) = nat_lt q (p + 1)
stops p f = false

abbrev pub stands_for : ℕ → Option ℕ → Bool
stands_for p None = false
stands_for p (Some q) = q == p

-- 1 where the seat has the number p, and its innermost frame is such
abbrev pub of_backend : ℕ → (Option Frame → Bool) → Standing → ℕ
of_backend p f v = cond (stands_for p v.own) (bit (f (top v.place))) 0

-- 1 where its innermost frame is such
abbrev pub of_any : (Option Frame → Bool) → Standing → ℕ
of_any f v = bit (f (top v.place))

-- how many seats with the number p, or how many seats, have such an innermost frame
abbrev pub backend_count : ℕ → (Option Frame → Bool) → List Standing → ℕ
backend_count p f seats = total (of_backend p f) seats

abbrev pub count_of : (Option Frame → Bool) → List Standing → ℕ
count_of f seats = total (of_any f) seats

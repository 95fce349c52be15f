-- A seat that is in a call has a step that its place allows.
use Rattle.std.proofs.Common.{◌≡◌, ℕ, ◌<◌, Bool, true, false, List, [], ◌∷◌, ◌++◌, None, Some, refl, sym, subst}
use Rattle.proc_table.specs.declared.Mode.TheVariants.{Exclusive}
use Rattle.lw_core.specs.declared.step.LwStep.{LwStep}
use Rattle.lw_core.specs.declared.step.LwStep.TheVariants as kind
use Rattle.lw_core.specs.declared.view.Frame.TheVariants.{Attempting, Trying, TakingList, Spinning, Queueing, Flagging, Announcing, Appending, Dequeueing, Checking, Removing, Withdrawing, Answering, Looking, Asleep, Downing, Sleeping, Woken, GivingBack, Waking, Marking, Detaching, Clearing, Posting, Peeking, Comparing, Reading, Returning, Allowing, Storing, Publishing, Calling, Unhanding, Releasing}
use Rattle.lw_core.specs.declared.view.Size.{Size}
use Rattle.lw_core.specs.declared.view.View.{View}
use Rattle.lw_core.specs.declared.view.Waiter.{Waiter}
use Rattle.lw_core.specs.Words.{is_free}
use Rattle.lw_core.specs.WaitLists.{AllBelow, taken_from, kept_from, until_free_from}
use Rattle.lw_core.specs.Machine.{LwState, Place, number_of, woken_word, IsInRange, Allowed, after}
use Rattle.lw_core.specs.SeatFits.{PlaceFits}
use Rattle.lw_core.specs.FramesStand.{AllStand}
use Rattle.lw_core.specs.Rule.{Rule}
use Rattle.lw_core.specs.Promises.{EachCallGoesOn}
use Rattle.lw_core.proofs.Below.{taken_below, until_free_below, behind_below}
use Rattle.lw_core.proofs.Places as places
use Rattle.lw_core.proofs.Seats.{numbered_as, own_inside}

module _ (lawful : ℕ → List ℕ → Type 0) (z : Size) (v : View) (p : ℕ) (mine : v.own ≡ Some p) (below : p < z.procs) where
  -- at the place q
  abbrev GoesOn : Place → Type 0
  GoesOn q = (k : LwStep) × IsInRange z k × Allowed lawful k record v { place = q }

  next_below : (marked us ws : List Waiter) (u : Waiter) → marked ++ u ∷ us ≡ ws → AllBelow z.procs ws → u.proc < z.procs
  next_below marked us ws u is all = (behind_below z.procs marked (u ∷ us) (subst (AllBelow z.procs) (sym is) all)).0

  takes : (l : ℕ) (q : Place) → PlaceFits v.holds v.surplus (TakingList l ∷ q) → l < z.locks → GoesOn (TakingList l ∷ q)
  takes l (Queueing j w ∷ q) fits inside = (kind.Lock l None, (inside, tt), refl)
  takes l (Dequeueing j w ∷ q) fits inside = (kind.Lock l None, (inside, tt), refl)
  takes l (Waking j updated ∷ q) fits inside = (kind.Lock l None, (inside, tt), refl)
  takes l (Comparing j old ∷ q) fits inside = (kind.Lock l None, (inside, tt), refl)
  takes l (Storing j x releases ∷ q) fits inside = (kind.Lock l None, (inside, tt), refl)
  takes l q fits inside = absurd fits

  goes_on : (q : Place) → (q ≡ [] → ⊥) → PlaceFits v.holds v.surplus q → AllStand lawful z v.holds q → GoesOn q
  goes_on [] some fits h = absurd (some refl)
  goes_on (Attempting l m ∷ []) some fits h = absurd fits
  goes_on (Attempting l m ∷ f ∷ q) some fits h = (kind.Load l None, (h.0, tt), refl)
  goes_on (Trying l m w ∷ q) some fits h = by_word (is_free m w) refl
    where
      by_word : (b : Bool) → is_free m w ≡ b → GoesOn (Trying l m w ∷ q)
      by_word true free = (kind.Grant l m w, (h.0, tt), (refl, free))
      by_word false free = (kind.Refuse l m w, (h.0, tt), (refl, free))
  goes_on (TakingList l ∷ q) some fits h = takes l q fits h.0
  goes_on (Spinning l ∷ q) some fits h = (kind.Load l None, (h.0, tt), refl)
  goes_on (Flagging l w found ∷ q) some fits h = (kind.Flag l, (h.0, tt), refl)
  goes_on (Announcing l w found ∷ q) some fits h = (kind.WaitStore p 1, (tt, below), (mine, refl))
  goes_on (Appending l w found ∷ q) some fits h = (kind.Unlock l false, (h.0, tt), (refl, refl))
  goes_on (Checking l w found ∷ q) some fits h = (kind.WaitLoad, (tt, tt), tt)
  goes_on (Removing l w found here ∷ q) some fits h = (kind.Unlock l _, (h.0, tt), (refl, refl))
  goes_on (Withdrawing ∷ q) some fits h = (kind.WaitStore p 0, (tt, below), (mine, refl))
  goes_on (Answering l w ∷ q) some fits h = (kind.SetReleaseOk l, (h.0, tt), refl)
  goes_on (Looking ∷ q) some fits h = (kind.Look None, (tt, tt), tt)
  goes_on (Asleep ∷ q) some fits h = (kind.Look None, (tt, tt), tt)
  goes_on (Downing ∷ q) some fits h = (kind.Down, (tt, tt), refl)
  goes_on (Sleeping l w answered ∷ q) some fits h = (kind.WaitLoad, (tt, tt), tt)
  goes_on (Woken l m ∷ q) some fits h = (kind.SetReleaseOk l, (h.0, tt), refl)
  goes_on (GivingBack ∷ q) some fits h = (kind.Post p None, (tt, below), mine)
  goes_on (Marking l updated found marked [] ∷ q) some fits h = (kind.Load l None, (h.0.0, tt), refl)
  goes_on (Marking l updated found marked (u ∷ us) ∷ q) some fits h = (kind.WaitStore u.proc 2, (tt, next_below marked us (taken_from found) u fits.0 (taken_below z.procs false found h.0.1)), (refl, refl))
  goes_on (Detaching l updated found w ∷ q) some fits h = (kind.Wake l w (woken_word (taken_from found) (kept_from found) w), (h.0.0, tt), (refl, refl, refl))
  goes_on (Clearing (u ∷ us) ∷ q) some fits h = (kind.WaitStore u.proc 0, (tt, h.0.0), (refl, refl))
  goes_on (Posting (u ∷ us) ∷ q) some fits h = (kind.Post u.proc None, (tt, h.0.0), refl)
  goes_on (Peeking l old ∷ q) some fits h = (kind.Peek l None, (h.0, tt), refl)
  goes_on (Reading l old found ∷ q) some fits h = (kind.VarLoad l, (h.0, tt), refl)
  goes_on (Returning l old found n ∷ q) some fits h = (kind.Unlock l false, (h.0, tt), (refl, refl))
  goes_on (Allowing l ∷ q) some fits h = (kind.SetReleaseOk l, (h.0, tt), refl)
  goes_on (Publishing l x found releases ∷ q) some fits h = (kind.VarStore l x, (h.0.0, tt), (refl, refl))
  goes_on (Calling l found marked [] ∷ q) some fits h = (kind.Unlock l false, (h.0.0, tt), (refl, refl))
  goes_on (Calling l found marked (u ∷ us) ∷ q) some fits h = (kind.WaitStore u.proc 2, (tt, next_below marked us (until_free_from found) u fits.0 (until_free_below z.procs found h.0.1)), (refl, refl))
  goes_on (Unhanding l found ∷ q) some fits h = (kind.Unlock l false, (h.0.0, tt), (refl, refl))
  goes_on (Releasing l ∷ q) some fits h = (kind.Sub l Exclusive None, (h.0.0, tt), (refl, fits.0, h.0.1))
  goes_on q some fits h = absurd fits

pub each_goes_on : (lawful : ℕ → List ℕ → Type 0) (z : Size) (s : LwState) → Rule lawful z s → EachCallGoesOn lawful z s
each_goes_on lawful z s r id v at some =
    let fits = places.mine lawful z s r id v at in let numbered : v.own ≡ None → ⊥ = λ e. some (fits.idle e).0 in let own = numbered_as lawful z s r id v at numbered in let p : ℕ = number_of v.own in
    let k = goes_on lawful z v p own (own_inside lawful z s r id v at p own) v.place some fits.place (r.frames id v at) in
    (k.0, after z s id v k.0, record { view = v; at = at; range = k.1; numbered = numbered; allowed = k.2; is = refl })

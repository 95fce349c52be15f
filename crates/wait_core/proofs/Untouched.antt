-- What touches no word of the machine, and no seat that stands in a call, keeps the machine's parts of the rule.
use Rattle.std.proofs.Common.{◌≡◌, ◌⊎◌, ◌≢◌, ℕ, zero, suc, ◌<◌, Bool, true, false, cond, List, [], ◌∷◌, ◌++◌, get_or, set, Option, None, refl, sym, ap, ◌∙◌, subst, ⊎_elim, inl, inr, arith}
use mathlib.Core.Option as maybe
use lib.ListN.{get_elem?}
use Rattle.atomic_table.proofs.Lists.{at_set}
use Rattle.wait_core.specs.declared.view.Frame.{Frame}
use Rattle.wait_core.specs.declared.view.Size.{Size}
use Rattle.wait_core.specs.Words.{set_at, may_at, byte_at, shut_at, client_base}
use Rattle.wait_core.specs.Machine.{bit}
use Rattle.wait_core.specs.Seating.{Standing}
use Rattle.wait_core.specs.Places.{stands_for, may_sleep, past_latch, past_shutdown, tells, stops, of_backend, of_any, backend_count, count_of}
use Rattle.wait_core.specs.Fits.{Fits, IsTarget, PlacesFit}
use Rattle.wait_core.specs.MaySleepIsMarked.{MaySleepIsMarked}
use Rattle.wait_core.specs.SetLatchWakes.{SetLatchWakes}
use Rattle.wait_core.specs.ShutdownWakes.{ShutdownWakes}
use Rattle.wait_core.specs.Rule.{Flags}
use Rattle.seat_roster.proofs.Totals.{total_set, total_snoc}

-- the words of backends and the shutdown word are the same
abbrev pub Agree : Size → List ℕ → List ℕ → Type 0
Agree z words new = (i : ℕ) → 0 < i → i < client_base z → get_or new i 0 ≡ get_or words i 0

-- as many seats stand at each frame
pub record SameCounts (seats new : List Standing) : Type 0 where
  pub backend : (p : ℕ) (f : Option Frame → Bool) → f None ≡ false → backend_count p f new ≡ backend_count p f seats
  pub any : (f : Option Frame → Bool) → f None ≡ false → count_of f new ≡ count_of f seats

pub same_counts : (seats : List Standing) → SameCounts seats seats
same_counts seats = record { backend = λ p f none. refl; any = λ f none. refl }

pub counts_are : (seats new : List Standing) → new ≡ seats → SameCounts seats new
counts_are seats new is = subst (SameCounts seats) (sym is) (same_counts seats)

-- where a seat with this number stands that is in no call and has no target
abbrev pub idle : Option ℕ → Standing
idle own = record { own = own; target = None; place = [] }

pub idle_backend : (p : ℕ) (f : Option Frame → Bool) (own : Option ℕ) → f None ≡ false → of_backend p f (idle own) ≡ 0
idle_backend p f own none = by_case (stands_for p own)
  where
    by_case : (b : Bool) → cond b (bit (f None)) 0 ≡ 0
    by_case true = ap bit none
    by_case false = refl

-- a seat comes that is in no call
pub counts_snoc : (seats : List Standing) (own : Option ℕ) → SameCounts seats (seats ++ idle own ∷ [])
counts_snoc seats own = record {
  backend = λ p f none. let a = total_snoc (of_backend p f) seats (idle own) in let b = idle_backend p f own none in omega arith;
  any = λ f none. let a = total_snoc (of_any f) seats (idle own) in let b : bit (f None) ≡ 0 = ap bit none in omega arith;
}

-- a seat in no call stays in none
pub counts_idle : (seats : List Standing) (id : ℕ) (own new : Option ℕ) → get_elem? seats id ≡ maybe.some (idle own) → SameCounts seats (set seats id (idle new))
counts_idle seats id own new at = record {
  backend = λ p f none. let a = total_set (of_backend p f) seats id (idle own) (idle new) at in let b = idle_backend p f own none in let c = idle_backend p f new none in omega arith;
  any = λ f none. let a = total_set (of_any f) seats id (idle own) (idle new) at in omega arith;
}

module _ (z : Size) (words new : List ℕ) (seats after : List Standing) (agree : Agree z words new) (same : SameCounts seats after) where
  pub flags_same : Flags z words → Flags z new
  flags_same h i some below = let a = agree i some below in let b = h i some below in omega arith

  pub may_same : MaySleepIsMarked z.procs words seats → MaySleepIsMarked z.procs new after
  may_same h p below = agree (may_at p) (omega arith) (omega arith) ∙ (h p below ∙ sym (same.backend p may_sleep refl))

  pub latches_same : SetLatchWakes z.procs words seats → SetLatchWakes z.procs new after
  latches_same h p below come up = let a = same.backend p past_latch refl in let b = same.any (tells p) refl in let byte = agree (byte_at p) (omega arith) (omega arith) in
      let before = h p below (omega arith) (sym (agree (set_at p) (omega arith) (omega arith)) ∙ up) in omega arith

  pub shutdown_same : ShutdownWakes z words seats → ShutdownWakes z new after
  shutdown_same h p below come up = let a = same.backend p past_shutdown refl in let b = same.any (stops p) refl in let byte = agree (byte_at p) (omega arith) (omega arith) in
      let before = h p below (omega arith) (sym (agree (shut_at z) (omega arith) (omega arith)) ∙ up) in omega arith

at_end : (l : List Standing) (a b : Standing) (j : ℕ) → get_elem? (l ++ a ∷ []) j ≡ maybe.some b → (get_elem? l j ≡ maybe.some b) ⊎ (a ≡ b)
at_end [] a b zero e = inr (maybe.some-injective a b e)
at_end [] a b (suc j) e = absurd (maybe.some-ne-none b (sym e))
at_end (x ∷ xs) a b zero e = inl e
at_end (x ∷ xs) a b (suc j) e = at_end xs a b j e

-- a seat comes that is in no call, or ends in none
idle_fits : (cvs : ℕ) (own : Option ℕ) (v : Standing) → idle own ≡ v → Fits cvs v.target v.place
idle_fits cvs own v is = subst (λ (x : Standing). Fits cvs x.target x.place) is tt

idle_target : (cvs : ℕ) (own : Option ℕ) (v : Standing) → idle own ≡ v → IsTarget cvs v.target
idle_target cvs own v is = subst (λ (x : Standing). IsTarget cvs x.target) is (λ c some. absurd (cc))

idle_empty : (own : Option ℕ) (v : Standing) → idle own ≡ v → (v.place ≡ []) × (v.target ≡ None)
idle_empty own v is = (sym (ap (λ (x : Standing). x.place) is), sym (ap (λ (x : Standing). x.target) is))

pub places_snoc : (cvs : ℕ) (seats : List Standing) (own : Option ℕ) → PlacesFit cvs seats → PlacesFit cvs (seats ++ idle own ∷ [])
places_snoc cvs seats own h = record {
  fits = λ id v e. ⊎_elim (λ old. h.fits id v old) (λ is. idle_fits cvs own v is) (at_end seats (idle own) v id e);
  targets = λ id v e. ⊎_elim (λ old. h.targets id v old) (λ is. idle_target cvs own v is) (at_end seats (idle own) v id e);
  unnumbered = λ id v e none. ⊎_elim (λ old. h.unnumbered id v old none) (λ is. idle_empty own v is) (at_end seats (idle own) v id e);
}

pub places_idle : (cvs : ℕ) (seats : List Standing) (id : ℕ) (own : Option ℕ) → PlacesFit cvs seats → PlacesFit cvs (set seats id (idle own))
places_idle cvs seats id own h = record {
  fits = λ j v e. ⊎_elim (λ (t : (j ≡ id) × (idle own ≡ v)). idle_fits cvs own v t.1) (λ (t : (j ≢ id) × (get_elem? seats j ≡ maybe.some v)). h.fits j v t.1) (at_set seats id j (idle own) v e);
  targets = λ j v e. ⊎_elim (λ (t : (j ≡ id) × (idle own ≡ v)). idle_target cvs own v t.1) (λ (t : (j ≢ id) × (get_elem? seats j ≡ maybe.some v)). h.targets j v t.1) (at_set seats id j (idle own) v e);
  unnumbered = λ j v e none. ⊎_elim (λ (t : (j ≡ id) × (idle own ≡ v)). idle_empty own v t.1) (λ (t : (j ≢ id) × (get_elem? seats j ≡ maybe.some v)). h.unnumbered j v t.1 none) (at_set seats id j (idle own) v e);
}

-- A new table meets the rule.
use Rattle.std.proofs.Common.{◌≡◌, ◌≢◌, ℕ, zero, suc, ◌%◌, ◌<◌, ◌≤◌, eqb, Bool, cond, List, [], ◌∷◌, get_or, None, Some, sym, ap, ◌∙◌, subst, arith}
use mathlib.Core.Option as maybe
use lib.ListN.{get_elem?}
use Rattle.atomic_table.specs.Table.{opening}
use Rattle.std.specs.Int.{bit_at}
use Rattle.std.proofs.lemmas.Nat.Bits.{bit_at-zero}
use Rattle.seat_roster.specs.Roster.{Roster, numbered, times}
use Rattle.seat_roster.proofs.Numbers.{roster_first}
use Rattle.signal_core.specs.declared.view.Nothing.{Nothing}
use Rattle.signal_core.specs.declared.view.About.{About}
use Rattle.signal_core.specs.declared.view.SigView.{SigView}
use Rattle.signal_core.specs.Words.{header_at, gen_at, mask_at, gone, worn, opened, Opens}
use Rattle.signal_core.specs.Machine.{SigState}
use Rattle.signal_core.specs.Seating.{Stance, fresh, idle}
use Rattle.signal_core.specs.Places.{in_hand, swapped_at}
use Rattle.signal_core.specs.PlacesFit.{PlaceFits}
use Rattle.signal_core.specs.GenerationsStand.{SlotStands, PlaceStands}
use Rattle.signal_core.specs.EmissionsShow.{PlaceShows}
use Rattle.signal_core.specs.Rule.{Rule}
use Rattle.signal_core.specs.Promises.{IsOpening}
use Rattle.std.proofs.lemmas.Bool.{ne_eqb}
use Rattle.std.proofs.Common.{eq-eqb}

-- the one seat that there is
only : (id : ℕ) (v : Stance) → get_elem? (idle (Some 0) [] ∷ []) id ≡ maybe.some v → idle (Some 0) [] ≡ v
only zero v e = maybe.some-injective _ _ e
only (suc i) v e = absurd (maybe.some-ne-none v (sym e))

only_view : (id : ℕ) (v : SigView) → get_elem? (fresh (Some 0) ∷ []) id ≡ maybe.some v → fresh (Some 0) ≡ v
only_view zero v e = maybe.some-injective _ _ e
only_view (suc i) v e = absurd (maybe.some-ne-none v (sym e))

-- which word is which at the opening
pub opened_behind : (z : About) (i : ℕ) → 1 < i → opened z i ≡ cond (eqb (i % 4) 3) gone 0
opened_behind z i more = ap (λ (b : Bool). cond b 1 (cond (eqb i header_at) z.generation (cond (eqb (i % 4) 3) gone 0))) (ne_eqb i 0 (λ e. omega arith))
    ∙ ap (λ (b : Bool). cond b z.generation (cond (eqb (i % 4) 3) gone 0)) (ne_eqb i header_at (λ e. omega arith))

pub opened_gone : (z : About) (p : ℕ) → opened z (gen_at p) ≡ gone
opened_gone z p = opened_behind z (gen_at p) (omega arith) ∙ ap (λ (b : Bool). cond b gone 0) (eq-eqb (gen_at p % 4) 3 (omega arith))

pub opened_clear : (z : About) (i : ℕ) → 1 < i → i % 4 ≢ 3 → opened z i ≡ 0
opened_clear z i more ne = opened_behind z i more ∙ ap (λ (b : Bool). cond b gone 0) (ne_eqb (i % 4) 3 ne)

pub opens : (shows : ℕ → ℕ → Type 0) (z : About) (words : List ℕ) (xs : List Nothing) → 0 < z.procs → z.procs ≤ 64 → z.generation ≤ worn → Opens z words → Rule shows z (opening words xs (fresh (Some 0)))
opens shows z words xs some most low h = let first : get_or words 0 0 ≡ 1 = h.1 0 (omega arith) in let header : get_or words header_at 0 ≡ z.generation = h.1 header_at (omega arith) in record {
  sized = record { procs = (some, most); long = h.0 };
  roster = subst (λ (n : ℕ). Roster z.procs n (numbered (Some 0) ∷ [])) (sym first) (roster_first z.procs some);
  counted = omega arith;
  made = λ i above below. let a = h.1 i below in omega arith;
  places = record {
    fits = λ id v e. subst (λ (c : Stance). PlaceFits z c.slot c.place) (only id v e) tt;
    unnumbered = λ id v e none. absurd (let a : Some 0 ≡ v.own = ap (λ (c : Stance). c.own) (only id v e) in let b : Some 0 ≡ None = a ∙ none in cc);
  };
  bits = record {
    masked = λ s k below bit. absurd (let a : get_or words (mask_at s) 0 ≡ 0 = h.1 (mask_at s) (omega arith) ∙ opened_clear z (mask_at s) (omega arith) (λ e. omega arith) in let b : bit_at (get_or words (mask_at s) 0) k ≡ 0 = ap (λ (n : ℕ). bit_at n k) a ∙ bit_at-zero k in omega arith);
    held = λ id s k v e own hand. absurd (let a : 0 ≡ in_hand k v.place = ap (λ (c : Stance). in_hand k c.place) (only id v e) in omega arith);
  };
  owed = λ id s k v t e own slot bit. absurd (let a : None ≡ v.slot = ap (λ (c : Stance). c.slot) (only id v e) in let b : None ≡ Some t = a ∙ slot in cc);
  newer = λ id s k g v e own swap bit kept. absurd (let a : None ≡ swapped_at v.place = ap (λ (c : Stance). swapped_at c.place) (only id v e) in let b : None ≡ Some g = a ∙ swap in cc);
  generations = record {
    words_are = λ s below. let a : get_or words (gen_at s) 0 ≡ gone = h.1 (gen_at s) (omega arith) ∙ opened_gone z s in let b = Rattle.signal_core.proofs.SeatsKept.idle_short s (Some 0) [] in omega arith;
    slots = λ id v e. subst (λ (c : Stance). SlotStands (get_or words header_at 0) c.slot) (only id v e) tt;
    read = λ id v e. subst (λ (c : Stance). PlaceStands (get_or words header_at 0) c.slot c.place) (only id v e) tt;
    bounded = omega arith;
  };
  shown = record {
    numbered = λ id i v c e at. absurd (maybe.some-ne-none c (sym (ap (λ (d : Stance). get_elem? d.emissions i) (only id v e) ∙ at)));
    under_way = λ id v e. subst (λ (c : Stance). PlaceShows shows c.place) (only id v e) tt;
  };
  absorbed = λ id k v e some. absurd (let a : 0 ≡ times k v.absorbed = ap (λ (c : SigView). times k c.absorbed) (only_view id v e) in omega arith);
}

pub opening_kept : (shows : ℕ → ℕ → Type 0) (z : About) (s : SigState) → IsOpening z s → Rule shows z s
opening_kept shows z s h = subst (Rule shows z) (sym h.is) (opens shows z h.words [] h.procs.0 h.procs.1 h.generation h.opens)

-- What a step changes of what masks, hands and emissions say.
use Rattle.std.proofs.Common.{◌≡◌, ◌≢◌, ◌⊎◌, ℕ, ◌+◌, ◌^◌, ◌<◌, ◌≤◌, eqb, nat_lt, bit_or, Bool, true, false, cond, List, length, get_or, set, Option, None, Some, refl, sym, ap, ◌∙◌, subst, inl, inr, ⊎_elim, arith, eq-eqb}
use Rattle.std.proofs.lemmas.Bool.Decides.{nat_tests}
use Rattle.std.specs.Int.{bit_at}
use Rattle.signal_core.specs.declared.step.Call.{Call}
use Rattle.signal_core.specs.declared.step.Call.TheVariants as call
use Rattle.signal_core.specs.declared.step.SigStep.{SigStep}
use Rattle.signal_core.specs.declared.step.SigStep.TheVariants.{Hload, Hadd, Mor, Mswap, Gstore, Gload, Pstore, Pload, Pend, Pswap}
use Rattle.signal_core.specs.declared.view.Frame.TheVariants.{Reading, Opening, Entering, Leaving, Posting, Numbering, Telling, Prodding, Comparing, Heading, Swapping, Taking, Keeping, Reminding}
use Rattle.signal_core.specs.declared.view.Emission.{Emission}
use Rattle.signal_core.specs.declared.view.Slot.{Slot}
use Rattle.signal_core.specs.declared.view.About.{About}
use Rattle.seat_roster.specs.Totals.{total}
use Rattle.seat_roster.proofs.Totals.{total_snoc}
use Rattle.signal_core.specs.Words.{header_at, pid_at, gen_at, mask_at, pend_at}
use Rattle.signal_core.specs.Machine.{Place, word_of, becomes, begun, headed, posted, swapped, opened, compared, told, looked, prodded, place_after, slot_after, stored, publishes, gains, emission, emissions_after, MayRead, MayNumber, MayPost, MaySwap, MayStore, MayEnd, MayTell, MayProd, IsLowest, IsPart, Permits, BeginsLoad}
use Rattle.signal_core.specs.Seating.{Stance}
use Rattle.signal_core.specs.Places.{in_hand, put_back, swapped_at, under_way, counts, emits}
use Rattle.signal_core.specs.PlacesFit.{PlaceFits}
use Rattle.signal_core.proofs.Bits.{cut_le, cut_most, lt_true, lt_false, mask_else, mask_or, mask_cleared, mask_clear}
use Rattle.signal_core.proofs.EitherWay.{either_way}

-- EMISSIONS. No step but the one that takes a number ends an emission under way

-- a place with no emission under way
abbrev IsStill : Place → Type 0
IsStill p = (s k : ℕ) → under_way s k p ≡ 0

none_still : (p : Place) → p ≡ None → IsStill p
none_still p e s k = ap (under_way s k) e

read_still : (p : Place) → MayRead p → IsStill p
read_still (Some Reading) ok s k = refl
read_still (Some (Heading g)) ok s k = refl
read_still p ok s k = absurd ok

swap_still : (p : Place) → MaySwap p → IsStill p
swap_still (Some (Swapping h)) ok s k = refl
swap_still p ok s k = absurd ok

store_still : (g : ℕ) (p : Place) → MayStore g p → IsStill p
store_still g (Some (Opening h)) ok s k = refl
store_still g (Some (Taking h found)) ok s k = refl
store_still g p ok s k = absurd ok

end_still : (x : ℕ) (own : Option ℕ) (p : Place) → MayEnd x own p → IsStill p
end_still x own (Some (Entering h)) ok s k = refl
end_still x own (Some Leaving) ok s k = refl
end_still x own p ok s k = absurd ok

tell_still : (q : ℕ) (p : Place) → MayTell q p → IsStill p
tell_still q (Some (Telling r)) ok s k = refl
tell_still q p ok s k = absurd ok

prod_still : (own : Option ℕ) (q : ℕ) (p : Place) → MayProd own q p → IsStill p
prod_still own q (Some (Prodding r)) ok s k = refl
prod_still own q (Some (Reminding h found failed j)) ok s k = refl
prod_still own q p ok s k = absurd ok

-- a post under way goes on: slot q has it now
module _ (z : About) where
  post_on : (s k j x q : ℕ) (last b c d : Bool) → nat_lt s q ≡ c → nat_lt s (q + 1) ≡ d → cond b (cond c 1 0) 0 ≤ cond last (cond b 1 0) (cond b (cond d 1 0) 0)
  post_on s k j x q true true true d ec ed = omega arith
  post_on s k j x q true true false d ec ed = omega arith
  post_on s k j x q true false c d ec ed = omega arith
  post_on s k j x q false false c d ec ed = omega arith
  post_on s k j x q false true false d ec ed = omega arith
  post_on s k j x q false true true true ec ed = omega arith
  post_on s k j x q false true true false ec ed = absurd (grind (arith, nat_tests, ec, ed))

  after_last : (s k j x q : ℕ) (last : Bool) → under_way s k (cond last (Some (Numbering j x)) (Some (Posting j x (q + 1)))) ≡ cond last (cond (eqb j k) 1 0) (cond (eqb j k) (cond (nat_lt s (q + 1)) 1 0) 0)
  after_last s k j x q true = refl
  after_last s k j x q false = refl

  post_grows : (s k : ℕ) (own : Option ℕ) (q j : ℕ) (failed : Option ℕ) (p : Place) → MayPost z own q j failed p → under_way s k p ≤ under_way s k (posted z j failed p)
  post_grows s k own q j None (Some (Posting i x r)) ok = let a = post_on s k i x r (eqb (r + 1) z.procs) (eqb i k) (nat_lt s r) (nat_lt s (r + 1)) refl refl in let b = after_last s k i x r (eqb (r + 1) z.procs) in omega arith
  post_grows s k own q j None (Some (Keeping h found failed done)) ok = omega arith
  post_grows s k own q j (Some failed) (Some (Taking h found)) ok = omega arith
  post_grows s k own q j None p ok = absurd ok
  post_grows s k own q j (Some failed) p ok = absurd ok

  -- and it is there for the slot
  post_there : (j x q : ℕ) → 1 ≤ under_way q j (cond (eqb (q + 1) z.procs) (Some (Numbering j x)) (Some (Posting j x (q + 1))))
  post_there j x q = let a = after_last q j j x q (eqb (q + 1) z.procs) in let b = after (eqb (q + 1) z.procs) (eqb j j) (nat_lt q (q + 1)) (eq-eqb j j refl) (lt_true q (q + 1) (omega arith)) in omega arith
    where
      after : (last b d : Bool) → b ≡ true → d ≡ true → 1 ≤ cond last (cond b 1 0) (cond b (cond d 1 0) 0)
      after true true true eb ed = omega arith
      after false true true eb ed = omega arith
      after last false d eb ed = absurd (cc)
      after last b false eb ed = absurd (cc)

number_grows : (s k n : ℕ) (f : ℕ → Bool) → f (n + 1) ≡ true → (p : Place) (es : List Emission) → MayNumber p → under_way s k p + total (counts k f) es ≤ under_way s k (Rattle.signal_core.specs.Machine.numbered p) + total (counts k f) (gains p n es)
number_grows s k n f new (Some (Numbering j x)) es ok = let a = total_snoc (counts k f) es (emission j x (n + 1)) in let b = one (eqb j k) (f (n + 1)) new in omega arith
  where
    one : (b c : Bool) → c ≡ true → (cond b (cond c 1 0) 0 ≤ cond b 1 0) × (cond b 1 0 ≤ cond b (cond c 1 0) 0)
    one true true e = (omega arith, omega arith)
    one false true e = (omega arith, omega arith)
    one b false e = absurd (cc)
number_grows s k n f new p es ok = absurd ok

-- the stance after a step
abbrev pub turned : About → SigStep → ℕ → Stance → Stance
turned z k n v = record { own = v.own; place = place_after z k n v.place; slot = slot_after k v.place v.slot; emissions = emissions_after k n v.place v.emissions }

still_le : (a b t : ℕ) → a ≡ 0 → a + t ≤ b + t
still_le a b t e = omega arith

-- each emission is still there, with a generation above the header where it has just got it
pub emissions_grow : (shows : ℕ → ℕ → Type 0) (z : About) (x : SigStep) (n : ℕ) (own : Option ℕ) (v : Stance) → Permits shows z x own v.slot v.place → (s k : ℕ) (f : ℕ → Bool) → (x ≡ Hadd → f (n + 1) ≡ true) → emits s k f v ≤ emits s k f (turned z x n v)
emissions_grow shows z (Hload (Some c)) n own v ok s k f new = still_le _ _ _ (none_still v.place ok.1 s k)
emissions_grow shows z (Hload None) n own v ok s k f new = still_le _ _ _ (read_still v.place ok s k)
emissions_grow shows z Hadd n own v ok s k f new = number_grows s k n f (new refl) v.place v.emissions ok
emissions_grow shows z (Mor q j failed) n own v ok s k f new = let a = post_grows z s k own q j failed v.place ok.2 in omega arith
emissions_grow shows z (Mswap (Some c)) n own v ok s k f new = still_le _ _ _ (none_still v.place ok.1 s k)
emissions_grow shows z (Mswap None) n own v ok s k f new = still_le _ _ _ (swap_still v.place ok s k)
emissions_grow shows z (Gstore g (Some c)) n own v ok s k f new = still_le _ _ _ (none_still v.place ok.2 s k)
emissions_grow shows z (Gstore g None) n own v ok s k f new = still_le _ _ _ (store_still g v.place ok s k)
emissions_grow shows z (Gload q (Some c)) n own v ok s k f new = omega arith
emissions_grow shows z (Gload q None) n own v ok s k f new = still_le _ _ _ (ap (under_way s k) ok.1)
emissions_grow shows z (Pstore y) n own v ok s k f new = still_le _ _ _ (end_still y own v.place ok s k)
emissions_grow shows z (Pload q) n own v ok s k f new = still_le _ _ _ (tell_still q v.place ok.1 s k)
emissions_grow shows z (Pend q) n own v ok s k f new = still_le _ _ _ (prod_still own q v.place ok.1 s k)
emissions_grow shows z (Pswap b) n own v ok s k f new = still_le _ _ _ (none_still v.place ok.1 s k)

-- MASKS. A bit that is new in the mask of s was posted there, or put back by s itself
abbrev pub PutsBack : ℕ → ℕ → ℕ → Place → Place → Type 0
PutsBack o s k p u = (s ≡ o) × (1 ≤ in_hand k p) × (1 ≤ put_back k u)

abbrev pub MaskSays : List ℕ → List ℕ → ℕ → Place → Place → Type 0
MaskSays words new o p u = (s k : ℕ) → (bit_at (get_or new (mask_at s) 0) k ≤ bit_at (get_or words (mask_at s) 0) k) ⊎ ((1 ≤ under_way s k u) ⊎ PutsBack o s k p u)

back_put : (failed j done : ℕ) → bit_at failed j ≡ 1 → 1 ≤ cond (nat_lt j (j + 1)) (bit_at failed j) 0
back_put failed j done is = let a = lt_true j (j + 1) (omega arith) in let b = by_case (nat_lt j (j + 1)) a in omega arith
  where
    by_case : (b : Bool) → b ≡ true → cond b (bit_at failed j) 0 ≡ bit_at failed j
    by_case true e = refl
    by_case false e = absurd (cc)

hand_at : (found j done : ℕ) → done ≤ j → 1 ≤ bit_at found j → 1 ≤ cond (nat_lt j done) 0 (bit_at found j)
hand_at found j done le is = by_case (nat_lt j done) (lt_false j done le)
  where
    by_case : (b : Bool) → b ≡ false → 1 ≤ cond b 0 (bit_at found j)
    by_case false e = is
    by_case true e = absurd (cc)

posts_mask : (z : About) (words : List ℕ) (o q j : ℕ) (failed : Option ℕ) (t : Option Slot) (p : Place) → PlaceFits z t p → mask_at q < length words → MayPost z (Some o) q j failed p
    → MaskSays words (set words (mask_at q) (bit_or (get_or words (mask_at q) 0) (2 ^ j))) o p (posted z j failed p)
posts_mask z words o q j None t (Some (Posting i x r)) fits wide ok s k = ⊎_elim inl (λ (e : (s ≡ q) × (k ≡ j)). inr (inl (subst (λ (y : ℕ × ℕ). 1 ≤ under_way y.0 y.1 (posted z j None (Some (Posting i x r)))) (λ a. ((ok.0 ∙ sym e.0) a, (ok.1 ∙ sym e.1) a)) (post_there z i x r)))) (mask_or words q j s k wide)
posts_mask z words o q j None t (Some (Keeping h found failed done)) fits wide ok s k = ⊎_elim inl (λ (e : (s ≡ q) × (k ≡ j)). inr (inr (
  (let a : o ≡ q = cc (ok.0) in e.0 ∙ sym a),
  subst (λ (y : ℕ). 1 ≤ cond (nat_lt y done) 0 (bit_at found y)) (sym e.1) (hand_at found j done ok.1.0 (let a = fits.1 j in let b = ok.1.1 in omega arith)),
  subst (λ (y : ℕ). 1 ≤ cond (nat_lt y (j + 1)) (bit_at failed y) 0) (sym e.1) (back_put failed j done ok.1.1),
))) (mask_or words q j s k wide)
posts_mask z words o q j (Some failed) t (Some (Taking h found)) fits wide ok s k = ⊎_elim inl (λ (e : (s ≡ q) × (k ≡ j)). inr (inr (
  (let a : o ≡ q = cc (ok.0) in e.0 ∙ sym a),
  (let a = ok.1 k in let b = ok.2.1 in let c : bit_at failed k ≡ bit_at failed j = ap (bit_at failed) e.1 in omega arith),
  subst (λ (y : ℕ). 1 ≤ cond (nat_lt y (j + 1)) (bit_at failed y) 0) (sym e.1) (back_put failed j 0 ok.2.1),
))) (mask_or words q j s k wide)
posts_mask z words o q j None t p fits wide ok s k = absurd ok
posts_mask z words o q j (Some failed) t p fits wide ok s k = absurd ok

same_mask : (words : List ℕ) (o i x : ℕ) (p u : Place) → ((s : ℕ) → mask_at s ≢ i) → MaskSays words (set words i x) o p u
same_mask words o i x p u apart s k = inl (let a = mask_else words s i x k (apart s) in omega arith)

pub masks_say : (shows : ℕ → ℕ → Type 0) (z : About) (words : List ℕ) (o : ℕ) (x : SigStep) (n : ℕ) (t : Option Slot) (p : Place) → PlaceFits z t p → (o < z.procs) → ((q : ℕ) → q < z.procs → mask_at q < length words) → n ≡ get_or words (word_of o x) 0 → Permits shows z x (Some o) t p
    → MaskSays words (set words (word_of o x) (becomes x n)) o p (place_after z x n p)
masks_say shows z words o (Hload c) n t p fits below wide is ok = same_mask words o header_at _ p _ (λ s e. omega arith)
masks_say shows z words o Hadd n t p fits below wide is ok = same_mask words o header_at _ p _ (λ s e. omega arith)
masks_say shows z words o (Mor q j failed) n t p fits below wide is ok = subst (λ (m : ℕ). MaskSays words (set words (mask_at q) (bit_or m (2 ^ j))) o p (posted z j failed p)) (sym is) (posts_mask z words o q j failed t p fits (wide q ok.0) ok.2)
masks_say shows z words o (Mswap c) n t p fits below wide is ok = λ s k. inl (mask_cleared words o s k (wide o below))
masks_say shows z words o (Gstore g c) n t p fits below wide is ok = same_mask words o (gen_at o) _ p _ (λ s e. omega arith)
masks_say shows z words o (Gload q c) n t p fits below wide is ok = same_mask words o (gen_at q) _ p _ (λ s e. omega arith)
masks_say shows z words o (Pstore y) n t p fits below wide is ok = same_mask words o (pid_at o) _ p None (λ s e. omega arith)
masks_say shows z words o (Pload q) n t p fits below wide is ok = same_mask words o (pid_at q) _ p _ (λ s e. omega arith)
masks_say shows z words o (Pend q) n t p fits below wide is ok = same_mask words o (pend_at q) _ p _ (λ s e. omega arith)
masks_say shows z words o (Pswap c) n t p fits below wide is ok = same_mask words o (pend_at o) _ p _ (λ s e. omega arith)

-- HANDS. What is new in the hand of the backend o was in its mask
abbrev pub HandSays : List ℕ → ℕ → Place → Place → Type 0
HandSays words o p u = (k : ℕ) → in_hand k u ≤ in_hand k p + bit_at (get_or words (mask_at o) 0) k

empty_hand : (words : List ℕ) (o : ℕ) (p u : Place) → ((k : ℕ) → in_hand k u ≡ 0) → HandSays words o p u
empty_hand words o p u none k = let a = none k in omega arith

begun_empty : (c : Call) (n k : ℕ) → in_hand k (begun c n) ≡ 0
begun_empty (call.Emit j x) n k = either_way (λ (u : Place). in_hand k u ≡ 0) (nat_lt n Rattle.signal_core.specs.Words.worn) (Some (Posting j x 0)) None refl refl
begun_empty call.Join n k = refl
begun_empty call.Leave n k = refl
begun_empty call.Absorb n k = refl
begun_empty (call.Published q) n k = refl

headed_empty : (n k : ℕ) (p : Place) → MayRead p → in_hand k (headed n p) ≡ 0
headed_empty n k (Some Reading) ok = refl
headed_empty n k (Some (Heading g)) ok = either_way (λ (u : Place). in_hand k u ≡ 0) (eqb n g) None (Some (Swapping n)) refl refl
headed_empty n k p ok = absurd ok

numbered_empty : (k : ℕ) (p : Place) → MayNumber p → in_hand k (Rattle.signal_core.specs.Machine.numbered p) ≡ 0
numbered_empty k (Some (Numbering j x)) ok = refl
numbered_empty k p ok = absurd ok

opened_empty : (g k : ℕ) (p : Place) → MayStore g p → in_hand k (opened p) ≡ 0
opened_empty g k (Some (Opening h)) ok = refl
opened_empty g k (Some (Taking h found)) ok = refl
opened_empty g k p ok = absurd ok

told_empty : (z : About) (q k : ℕ) → in_hand k (told z q) ≡ 0
told_empty z q k = either_way (λ (u : Place). in_hand k u ≡ 0) (eqb (q + 1) z.procs) None (Some (Telling (q + 1))) refl refl

looked_empty : (z : About) (q n k : ℕ) (p : Place) → MayTell q p → in_hand k (looked z n p) ≡ 0
looked_empty z q n k (Some (Telling r)) ok = either_way (λ (u : Place). in_hand k u ≡ 0) (eqb n 0) (told z r) (Some (Prodding r)) (told_empty z r k) refl
looked_empty z q n k p ok = absurd ok

post_hand : (z : About) (own : Option ℕ) (k q j : ℕ) (failed : Option ℕ) (p : Place) → MayPost z own q j failed p → in_hand k (posted z j failed p) ≤ in_hand k p
post_hand z own k q j None (Some (Posting i x r)) ok = let a = by_case (eqb (r + 1) z.procs) in omega arith
  where
    by_case : (b : Bool) → in_hand k (cond b (Some (Numbering i x)) (Some (Posting i x (r + 1)))) ≡ 0
    by_case true = refl
    by_case false = refl
post_hand z own k q j None (Some (Keeping h found failed done)) ok = cut_le k done (j + 1) (bit_at found k) (let a = ok.1.0 in omega arith)
post_hand z own k q j (Some failed) (Some (Taking h found)) ok = cut_most (nat_lt k (j + 1)) (bit_at found k)
post_hand z own k q j None p ok = absurd ok
post_hand z own k q j (Some failed) p ok = absurd ok

prod_hand : (z : About) (own : Option ℕ) (k q : ℕ) (p : Place) → MayProd own q p → in_hand k (prodded z p) ≤ in_hand k p
prod_hand z own k q (Some (Prodding r)) ok = let a = told_empty z r k in omega arith
prod_hand z own k q (Some (Reminding h found failed j)) ok = either_way (λ (u : Place). in_hand k u ≤ cond (nat_lt k (j + 1)) 0 (bit_at found k)) (nat_lt failed (2 ^ (j + 1))) None (Some (Keeping h found failed (j + 1))) (omega arith) (omega arith)
prod_hand z own k q p ok = absurd ok

pub hands_say : (shows : ℕ → ℕ → Type 0) (z : About) (words : List ℕ) (o : ℕ) (x : SigStep) (n : ℕ) (t : Option Slot) (p : Place) → n ≡ get_or words (word_of o x) 0 → Permits shows z x (Some o) t p → HandSays words o p (place_after z x n p)
hands_say shows z words o (Hload (Some c)) n t p is ok k = let a = begun_empty c n k in omega arith
hands_say shows z words o (Hload None) n t p is ok k = let a = headed_empty n k p ok in omega arith
hands_say shows z words o Hadd n t p is ok k = let a = numbered_empty k p ok in omega arith
hands_say shows z words o (Mor q j failed) n t p is ok k = let a = post_hand z (Some o) k q j failed p ok.2 in omega arith
hands_say shows z words o (Mswap (Some c)) n t p is ok k = omega arith
hands_say shows z words o (Mswap None) n t (Some (Swapping h)) is ok k = let a : bit_at n k ≡ bit_at (get_or words (mask_at o) 0) k = ap (λ (m : ℕ). bit_at m k) is in omega arith
hands_say shows z words o (Mswap None) n t p is ok k = absurd ok
hands_say shows z words o (Gstore g (Some c)) n t p is ok k = omega arith
hands_say shows z words o (Gstore g None) n t p is ok k = let a = opened_empty g k p ok in omega arith
hands_say shows z words o (Gload q (Some c)) n t p is ok k = omega arith
hands_say shows z words o (Gload q None) n t p is ok k = let a : in_hand k (compared n p) ≡ 0 = ap (λ (u : Place). in_hand k (compared n u)) ok.1 in omega arith
hands_say shows z words o (Pstore y) n t p is ok k = omega arith
hands_say shows z words o (Pload q) n t p is ok k = let a = looked_empty z q n k p ok.1 in omega arith
hands_say shows z words o (Pend q) n t p is ok k = prod_le (prod_hand z (Some o) k q p ok.1)
  where
    prod_le : in_hand k (prodded z p) ≤ in_hand k p → in_hand k (prodded z p) ≤ in_hand k p + bit_at (get_or words (mask_at o) 0) k
    prod_le h = omega arith
hands_say shows z words o (Pswap c) n t p is ok k = let a = by_case (eqb n 0) in omega arith
  where
    by_case : (b : Bool) → in_hand k (cond b None (Some Comparing)) ≡ 0
    by_case true = refl
    by_case false = refl

-- THE SLOT of the seat
pub data SlotTurn (v w : Stance) : Type 0 where
  same : w.slot ≡ v.slot → SlotTurn v w
  leaves : w.slot ≡ None → SlotTurn v w
  enters : (h : ℕ) → w.slot ≡ Some record { joined = h; published = h } → w.place ≡ None → SlotTurn v w
  advances : (h j : ℕ) → swapped_at v.place ≡ Some h → ((k : ℕ) → put_back k v.place ≡ 0) → w.slot ≡ Some record { joined = j; published = h } → w.place ≡ None → SlotTurn v w

pub slot_turns : (shows : ℕ → ℕ → Type 0) (z : About) (x : SigStep) (n : ℕ) (own o : Option ℕ) (es : List Emission) (t : Option Slot) (p : Place) → PlaceFits z t p → Permits shows z x own t p → SlotTurn (record { own = o; place = p; slot = t; emissions = es }) (turned z x n record { own = o; place = p; slot = t; emissions = es })
slot_turns shows z (Hload c) n own o es t p fits ok = same refl
slot_turns shows z Hadd n own o es t p fits ok = same refl
slot_turns shows z (Mor q j failed) n own o es t p fits ok = same refl
slot_turns shows z (Mswap c) n own o es t p fits ok = same refl
slot_turns shows z (Gstore g (Some c)) n own o es t p fits ok = leaves refl
slot_turns shows z (Gstore g None) n own o es t (Some (Opening h)) fits ok = same refl
slot_turns shows z (Gstore g None) n own o es (Some t) (Some (Taking h found)) fits ok = advances h t.joined refl (λ k. refl) refl refl
slot_turns shows z (Gstore g None) n own o es None (Some (Taking h found)) fits ok = absurd fits
slot_turns shows z (Gstore g None) n own o es t p fits ok = absurd ok
slot_turns shows z (Gload q c) n own o es t p fits ok = same refl
slot_turns shows z (Pstore y) n own o es t (Some (Entering h)) fits ok = enters h refl refl
slot_turns shows z (Pstore y) n own o es t (Some Leaving) fits ok = same refl
slot_turns shows z (Pstore y) n own o es t p fits ok = absurd ok
slot_turns shows z (Pload q) n own o es t p fits ok = same refl
slot_turns shows z (Pend q) n own o es t p fits ok = same refl
slot_turns shows z (Pswap c) n own o es t p fits ok = same refl

-- AFTER A SWAP: the seat was past the same swap, and put back as much or less; or its mask is clear
abbrev pub SwapSays : List ℕ → ℕ → Place → Place → ℕ → Type 0
SwapSays new o p u h = ((swapped_at p ≡ Some h) × ((k : ℕ) → put_back k p ≤ put_back k u)) ⊎ ((k : ℕ) → bit_at (get_or new (mask_at o) 0) k ≡ 0)

absent : {A : Type 0} (o : Option ℕ) (h : ℕ) → o ≡ None → o ≡ Some h → A
absent o h none some = let e : None ≡ Some h = sym none ∙ some in absurd (cc)

begun_unswapped : (c : Call) (n : ℕ) → swapped_at (begun c n) ≡ None
begun_unswapped (call.Emit j x) n = either_way (λ (u : Place). swapped_at u ≡ None) (nat_lt n Rattle.signal_core.specs.Words.worn) (Some (Posting j x 0)) None refl refl
begun_unswapped call.Join n = refl
begun_unswapped call.Leave n = refl
begun_unswapped call.Absorb n = refl
begun_unswapped (call.Published q) n = refl

headed_unswapped : (n : ℕ) (p : Place) → MayRead p → swapped_at (headed n p) ≡ None
headed_unswapped n (Some Reading) ok = refl
headed_unswapped n (Some (Heading g)) ok = either_way (λ (u : Place). swapped_at u ≡ None) (eqb n g) None (Some (Swapping n)) refl refl
headed_unswapped n p ok = absurd ok

numbered_unswapped : (p : Place) → MayNumber p → swapped_at (Rattle.signal_core.specs.Machine.numbered p) ≡ None
numbered_unswapped (Some (Numbering j x)) ok = refl
numbered_unswapped p ok = absurd ok

opened_unswapped : (g : ℕ) (p : Place) → MayStore g p → swapped_at (opened p) ≡ None
opened_unswapped g (Some (Opening h)) ok = refl
opened_unswapped g (Some (Taking h found)) ok = refl
opened_unswapped g p ok = absurd ok

told_unswapped : (z : About) (q : ℕ) → swapped_at (told z q) ≡ None
told_unswapped z q = either_way (λ (u : Place). swapped_at u ≡ None) (eqb (q + 1) z.procs) None (Some (Telling (q + 1))) refl refl

looked_unswapped : (z : About) (q n : ℕ) (p : Place) → MayTell q p → swapped_at (looked z n p) ≡ None
looked_unswapped z q n (Some (Telling r)) ok = either_way (λ (u : Place). swapped_at u ≡ None) (eqb n 0) (told z r) (Some (Prodding r)) (told_unswapped z r) refl
looked_unswapped z q n p ok = absurd ok

back_le : (k a b x : ℕ) → a ≤ b → cond (nat_lt k a) x 0 ≤ cond (nat_lt k b) x 0
back_le k a b x le = by_case (nat_lt k a) (nat_lt k b) refl refl
  where
    by_case : (p q : Bool) → nat_lt k a ≡ p → nat_lt k b ≡ q → cond p x 0 ≤ cond q x 0
    by_case false q ea eb = omega arith
    by_case true true ea eb = omega arith
    by_case true false ea eb = absurd (grind (arith, nat_tests, ea, eb, le))

post_swap : (z : About) (new : List ℕ) (own : Option ℕ) (o q j : ℕ) (failed : Option ℕ) (p : Place) → MayPost z own q j failed p → (h : ℕ) → swapped_at (posted z j failed p) ≡ Some h → SwapSays new o p (posted z j failed p) h
post_swap z new own o q j None (Some (Posting i x r)) ok h e = absent _ h (either_way (λ (u : Place). swapped_at u ≡ None) (eqb (r + 1) z.procs) (Some (Numbering i x)) (Some (Posting i x (r + 1))) refl refl) e
post_swap z new own o q j None (Some (Keeping g found failed done)) ok h e = inl (e, λ k. back_le k done (j + 1) (bit_at failed k) (let a = ok.1.0 in omega arith))
post_swap z new own o q j (Some failed) (Some (Taking g found)) ok h e = inl (e, λ k. omega arith)
post_swap z new own o q j None p ok h e = absurd ok
post_swap z new own o q j (Some failed) p ok h e = absurd ok

prod_swap : (z : About) (new : List ℕ) (own : Option ℕ) (o q : ℕ) (p : Place) → MayProd own q p → (h : ℕ) → swapped_at (prodded z p) ≡ Some h → SwapSays new o p (prodded z p) h
prod_swap z new own o q (Some (Prodding r)) ok h e = absent _ h (told_unswapped z r) e
prod_swap z new own o q (Some (Reminding g found failed j)) ok h e = by_case (nat_lt failed (2 ^ (j + 1))) e
  where
    by_case : (b : Bool) → swapped_at (cond b None (Some (Keeping g found failed (j + 1)))) ≡ Some h → SwapSays new o (Some (Reminding g found failed j)) (cond b None (Some (Keeping g found failed (j + 1)))) h
    by_case true e = absent _ h refl e
    by_case false e = inl (e, λ k. omega arith)
prod_swap z new own o q p ok h e = absurd ok

pub swap_says : (shows : ℕ → ℕ → Type 0) (z : About) (words : List ℕ) (o : ℕ) (x : SigStep) (n : ℕ) (t : Option Slot) (p : Place) → mask_at o < length words → Permits shows z x (Some o) t p → (h : ℕ) → swapped_at (place_after z x n p) ≡ Some h → SwapSays (set words (word_of o x) (becomes x n)) o p (place_after z x n p) h
swap_says shows z words o (Hload (Some c)) n t p wide ok h e = absent _ h (begun_unswapped c n) e
swap_says shows z words o (Hload None) n t p wide ok h e = absent _ h (headed_unswapped n p ok) e
swap_says shows z words o Hadd n t p wide ok h e = absent _ h (numbered_unswapped p ok) e
swap_says shows z words o (Mor q j failed) n t p wide ok h e = post_swap z _ (Some o) o q j failed p ok.2 h e
swap_says shows z words o (Mswap c) n t p wide ok h e = inr (λ k. mask_clear words o k wide)
swap_says shows z words o (Gstore g (Some c)) n t p wide ok h e = absent _ h refl e
swap_says shows z words o (Gstore g None) n t p wide ok h e = absent _ h (opened_unswapped g p ok) e
swap_says shows z words o (Gload q (Some c)) n t p wide ok h e = inl (e, λ k. omega arith)
swap_says shows z words o (Gload q None) n t p wide ok h e = absent _ h (ap (λ (u : Place). swapped_at (compared n u)) ok.1) e
swap_says shows z words o (Pstore y) n t p wide ok h e = absent _ h refl e
swap_says shows z words o (Pload q) n t p wide ok h e = absent _ h (looked_unswapped z q n p ok.1) e
swap_says shows z words o (Pend q) n t p wide ok h e = prod_swap z _ (Some o) o q p ok.1 h e
swap_says shows z words o (Pswap c) n t p wide ok h e = absent _ h (either_way (λ (u : Place). swapped_at u ≡ None) (eqb n 0) None (Some Comparing) refl refl) e

-- The steps of absorb up to the swap of the mask.
use Rattle.std.proofs.Common.{◌≡◌, ℕ, ◌<◌, ◌≤◌, eqb, ne_eqb, Bool, true, false, cond, List, [], ◌∷◌, ◌++◌, Option, None, Some, refl, sym, ap, ◌∙◌, arith}
use Rattle.std.proofs.lemmas.List.{append_assoc}
use Rattle.signal_core.specs.declared.step.Call.TheVariants as call
use Rattle.signal_core.specs.declared.step.SigStep.TheVariants.{Hload, Mswap, Gstore, Gload, Pswap}
use Rattle.signal_core.specs.declared.view.Frame.TheVariants.{Comparing, Heading, Swapping, Taking}
use Rattle.signal_core.specs.declared.view.Made.{Made}
use Rattle.signal_core.specs.declared.view.About.{About}
use Rattle.signal_core.specs.declared.view.SigView.{SigView}
use Rattle.signal_core.specs.declared.view.Slot.{Slot}
use Rattle.signal_core.specs.GenerationsStand.{SlotStands, IsPublished}
use Rattle.signal_core.specs.Machine.{Place, IsJoined, made, next, takes, kinds_below}
use Rattle.generation_barrier.specs.Absorbing.{upto, went, publishes}

not_zero : (n : ℕ) → (n ≡ 0 → ⊥) → cond (eqb n 0) None (Some Comparing) ≡ Some Comparing
not_zero n ne = by_case (eqb n 0) (ne_eqb n 0 ne)
  where
    by_case : (b : Bool) → b ≡ false → cond b None (Some Comparing) ≡ Some Comparing
    by_case false e = refl
    by_case true e = absurd (cc)

not_same : (h g : ℕ) → (h ≡ g → ⊥) → cond (eqb h g) None (Some (Swapping h)) ≡ Some (Swapping h)
not_same h g ne = by_case (eqb h g) (ne_eqb h g ne)
  where
    by_case : (b : Bool) → b ≡ false → cond b None (Some (Swapping h)) ≡ Some (Swapping h)
    by_case false e = refl
    by_case true e = absurd (cc)

pub up_to_swap : (z : About) (v0 v1 v2 v3 v4 : SigView) (n p g h found : ℕ) → v1 ≡ next z (Pswap (Some call.Absorb)) v0 n → (n ≡ 0 → ⊥) → v2 ≡ next z (Gload p None) v1 g → v3 ≡ next z (Hload None) v2 h → (h ≡ g → ⊥) → v4 ≡ next z (Mswap None) v3 found
    → v4 ≡ record v0 { place = Some (Taking h found); steps = v0.steps ++ upto n p g h found }
up_to_swap z v0 v1 v2 v3 v4 n p g h found e1 some e2 e3 apart e4 =
    let a : List Made = made (Pswap (Some call.Absorb)) n ∷ [] in let b : List Made = made (Gload p None) g ∷ [] in let c : List Made = made (Hload None) h ∷ [] in let d : List Made = made (Mswap None) found ∷ [] in
    let f1 : v1 ≡ record v0 { place = Some Comparing; steps = v0.steps ++ a } = e1 ∙ (λ i. record v0 { place = not_zero n some i; steps = v0.steps ++ a }) in
    let f2 : v2 ≡ record v0 { place = Some (Heading g); steps = v0.steps ++ (a ++ b) } = e2 ∙ (ap (λ (u : SigView). next z (Gload p None) u g) f1 ∙ (λ i. record v0 { place = Some (Heading g); steps = append_assoc v0.steps a b i })) in
    let f3 : v3 ≡ record v0 { place = Some (Swapping h); steps = v0.steps ++ ((a ++ b) ++ c) } = e3 ∙ (ap (λ (u : SigView). next z (Hload None) u h) f2 ∙ (λ i. record v0 { place = not_same h g apart i; steps = append_assoc v0.steps (a ++ b) c i })) in
    e4 ∙ (ap (λ (u : SigView). next z (Mswap None) u found) f3 ∙ (λ i. record v0 { place = Some (Taking h found); steps = append_assoc v0.steps ((a ++ b) ++ c) d i }))

-- the slot is as before the call
pub slot_stays : (z : About) (v v1 v2 : SigView) (n p g : ℕ) → v1 ≡ next z (Pswap (Some call.Absorb)) v n → v2 ≡ next z (Gload p None) v1 g → (v1.slot ≡ v.slot) × (v2.slot ≡ v.slot)
slot_stays z v v1 v2 n p g e1 e2 = let once : v1.slot ≡ v.slot = ap (λ (u : SigView). u.slot) e1 in let again : v2.slot ≡ v1.slot = ap (λ (u : SigView). u.slot) e2 in (once, again ∙ once)

-- the view after the header is stored
pub published_view : (z : About) (v w y : SigView) (n p g h found was : ℕ) → w ≡ record v { place = Some (Taking h found); steps = v.steps ++ upto n p g h found } → y ≡ next z (Gstore h None) w was
    → (y.slot ≡ Rattle.signal_core.specs.Machine.publishes h v.slot) × (y ≡ went v (upto n p g h found ++ made (Gstore h None) was ∷ []) y.slot (v.absorbed ++ kinds_below 32 (takes found 0)))
published_view z v w y n p g h found was at does =
    let m : List Made = made (Gstore h None) was ∷ [] in
    let ks : List ℕ = v.absorbed ++ kinds_below 32 (takes found 0) in
    let stored : y ≡ went v (upto n p g h found ++ m) (Rattle.signal_core.specs.Machine.publishes h v.slot) ks =
    does ∙ (ap (λ (u : SigView). next z (Gstore h None) u was) at ∙ (λ i. record (went v [] (Rattle.signal_core.specs.Machine.publishes h v.slot) ks) { steps = append_assoc v.steps (upto n p g h found) m i })) in
    let slot = ap (λ (u : SigView). u.slot) stored in
    (slot, stored ∙ (λ i. went v (upto n p g h found ++ m) (sym slot i) ks))

-- a header that isn't the published generation is above it
pub publishes_more : (h g : ℕ) (t s : Option Slot) → IsJoined t → SlotStands h t → IsPublished g t → (h ≡ g → ⊥) → s ≡ Rattle.signal_core.specs.Machine.publishes h t → publishes h t s
publishes_more h g None s joined stands is apart e = absurd joined
publishes_more h g (Some r) s joined stands is apart e = ((let most = stands.1 in lt_of r.published h most (λ same. apart (sym same ∙ sym is))), e)
  where
    lt_of : (a b : ℕ) → a ≤ b → (a ≡ b → ⊥) → a < b
    lt_of a b le ne = omega arith

-- the view after the kinds that failed are put back
pub kept_view : (v w y : SigView) (n p g : ℕ) {h : ℕ} (found failed same : ℕ) (more : List Made) → failed ≡ same → w ≡ record v { place = Some (Taking h found); steps = v.steps ++ upto n p g h found } → y ≡ went w more w.slot (w.absorbed ++ kinds_below 32 (takes found failed))
    → y ≡ went v (upto n p g h found ++ more) v.slot (v.absorbed ++ kinds_below 32 (takes found same))
kept_view v w y n p g {h} found failed same more is at back = back ∙ (ap (λ (u : SigView). went u more u.slot (u.absorbed ++ kinds_below 32 (takes found failed))) at ∙ (λ i. record (went v [] v.slot (v.absorbed ++ kinds_below 32 (takes found (is i)))) { steps = append_assoc v.steps (upto n p g h found) more i }))

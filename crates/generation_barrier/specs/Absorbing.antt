-- What a call of absorb leaves, and what it asked.
use Rattle.std.specs.Prelude.{◌≡◌, ◌⊎◌, ℕ, zero, suc, ◌^◌, ◌<◌, bit_or, Bool, true, false, List, [], ◌∷◌, ◌++◌, Option, None, Some}
use Rattle.std.specs.Int.{bit_at}
use Rattle.generation_barrier.specs.declared.outcome.Absorb.{Absorb}
use Rattle.generation_barrier.specs.declared.outcome.Absorb.TheVariants.{Idle, Published, Kept}
use Rattle.signal_core.specs.declared.step.Call.TheVariants as call
use Rattle.signal_core.specs.declared.step.SigStep.TheVariants.{Hload, Mor, Mswap, Gstore, Gload, Pend, Pswap}
use Rattle.signal_core.specs.declared.view.Made.{Made}
use Rattle.signal_core.specs.declared.view.Slot.{Slot}
use Rattle.signal_core.specs.declared.view.SigView.{SigView}
use Rattle.signal_core.specs.Machine.{made, takes, kinds_below}
use Rattle.signal_core.specs.GenerationsStand.{IsPublished}
use Rattle.signal_core.specs.Told.{BitsShow}

-- the view in no call, after these steps more, with this slot and these kinds absorbed: nothing else changed
abbrev pub went : SigView → List Made → Option Slot → List ℕ → SigView
went v more t ks = record v { place = None; steps = v.steps ++ more; slot = t; absorbed = ks }

-- WHAT WAS ASKED. A kind that failed has its bit
abbrev pub FailsAs : ℕ → Bool → ℕ → ℕ → Type 0
FailsAs k true before after = after ≡ before
FailsAs k false before after = after ≡ bit_or before (2 ^ k)

module _ {A : Type 0} (meets : A → ℕ → Bool → A → Type 0) where
  -- the kind k is asked for where it was found
  abbrev pub AsksOne : ℕ → ℕ → A → ℕ → ℕ → A → Type 0
  AsksOne found k a before after b = ((bit_at found k ≡ 0) × (b ≡ a) × (after ≡ before)) ⊎ ((bit_at found k ≡ 1) × ((answer : Bool) × meets a k answer b × FailsAs k answer before after))

  -- a run of the relation over the kinds below n that were found, from the lowest: from the state a to b, and these failed
  abbrev pub Asks : ℕ → ℕ → A → ℕ → A → Type 0
  Asks found zero a failed b = (failed ≡ 0) × (b ≡ a)
  Asks found (suc n) a failed b = (m : A) × (before : ℕ) × Asks found n a before m × AsksOne found n m before failed b

-- WHAT WAS DONE. All steps up to the swap: the own generation is read, then the header as h, and then the mask is swapped out
abbrev pub upto : ℕ → ℕ → ℕ → ℕ → ℕ → List Made
upto n p g h found = made (Pswap (Some call.Absorb)) n ∷ made (Gload p None) g ∷ made (Hload None) h ∷ made (Mswap None) found ∷ []

-- the kind k, if it failed, is put back into the own mask, and the own pending word is stored
abbrev pub PutsBack : ℕ → ℕ → ℕ → List Made → List Made → Type 0
PutsBack p failed k before more = ((bit_at failed k ≡ 0) × (more ≡ before)) ⊎ ((bit_at failed k ≡ 1) × ((carried : Option ℕ) × (mask : ℕ) × (pending : ℕ) × (more ≡ before ++ (made (Mor p k carried) mask ∷ made (Pend p) pending ∷ []))))

-- so are the kinds below n that failed, from the lowest
abbrev pub PutBack : ℕ → ℕ → ℕ → List Made → Type 0
PutBack p failed zero more = more ≡ []
PutBack p failed (suc n) more = (before : List Made) × PutBack p failed n before × PutsBack p failed n before more

-- pending was read 0, and nothing else was done
abbrev pub NothingPends : SigView → SigView → Type 0
NothingPends v w = w ≡ went v (made (Pswap (Some call.Absorb)) 0 ∷ []) v.slot v.absorbed

-- the own generation and the header were read equal, and nothing else was done
abbrev pub NothingIsNewer : ℕ → SigView → SigView → Type 0
NothingIsNewer g v w = (p n : ℕ) × (v.own ≡ Some p) × (w ≡ went v (made (Pswap (Some call.Absorb)) n ∷ made (Gload p None) g ∷ made (Hload None) g ∷ []) v.slot v.absorbed)

-- the slot has published h, which it hadn't before
abbrev pub publishes : ℕ → Option Slot → Option Slot → Type 0
publishes h None t = ⊥
publishes h (Some r) t = (r.published < h) × (t ≡ Some record { joined = r.joined; published = h })

-- THE ANSWERS of absorb, of a seat whose slot is joined. Idle: g is the published generation, and nobody was asked
pub record IsIdle {A : Type 0} (g : ℕ) (v : SigView) (a : A) (w : SigView) (b : A) : Type 0 where
  pub untouched : b ≡ a
  pub published : IsPublished g v.slot
  pub read : NothingPends v w ⊎ NothingIsNewer g v w

module _ {A : Type 0} (meets : A → ℕ → Bool → A → Type 0) (shows : ℕ → ℕ → Type 0) where
  -- Published: every kind that was swapped out was asked for and taken, and some number shows what each stands for; h is the header as it was read before the swap, and is the published generation now
  pub record IsPublishedNow (h : ℕ) (v : SigView) (a : A) (w : SigView) (b : A) : Type 0 where
    pub found : ℕ
    pub asked : Asks meets found 32 a 0 b
    pub shown : BitsShow shows found
    pub slot : publishes h v.slot w.slot
    pub backend : ℕ
    pub own : v.own ≡ Some backend
    pub pending : ℕ
    pub before : ℕ
    pub was : ℕ
    pub view : w ≡ went v (upto pending backend before h found ++ made (Gstore h None) was ∷ []) w.slot (v.absorbed ++ kinds_below 32 (takes found 0))

  -- Kept: these kinds were asked for and failed, at least one, and were put back; the others that were swapped out were taken; the published generation is as before
  pub record IsKept (failed : ℕ) (v : SigView) (a : A) (w : SigView) (b : A) : Type 0 where
    pub found : ℕ
    pub asked : Asks meets found 32 a failed b
    pub shown : BitsShow shows found
    pub some : 0 < failed
    pub backend : ℕ
    pub own : v.own ≡ Some backend
    pub pending : ℕ
    pub before : ℕ
    pub header : ℕ
    pub back : List Made
    pub put : PutBack backend failed 32 back
    pub view : w ≡ went v (upto pending backend before header found ++ back) v.slot (v.absorbed ++ kinds_below 32 (takes found failed))

  abbrev pub Answers : SigView → A → Absorb → SigView → A → Type 0
  Answers v a (Idle g) w b = IsIdle g v a w b
  Answers v a (Published h) w b = IsPublishedNow h v a w b
  Answers v a (Kept failed) w b = IsKept failed v a w b

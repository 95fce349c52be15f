-- Laws of scripts played on a machine.
use Rattle.std.proofs.Common.{◌≡◌, ℕ, zero, suc, ◌-◌, ◌<◌, Bool, true, false, List, [], ◌∷◌, Option, None, Some, refl, ap, sym, append-nil, arith}
use Rattle.std.specs.Prelude.{option_map}
use Rattle.script_play.specs.Play.{Bad, ComesTo, Ended, Moment, Prints, played, repeated, stepped, taken}
use Rattle.script_play.specs.Lines.{Numbered}

pub came : {X : Type 0} (o : Option X) (x : X) → ComesTo o true x → o ≡ Some x
came None x h = absurd cc
came (Some y) x h = ap Some (sym h.1)

pub stayed : {X : Type 0} (o : Option X) (x : X) → ComesTo o false x → o ≡ None
stayed None x h = refl
stayed (Some y) x h = absurd cc

pub comes : {X : Type 0} (o : Option X) (x : X) → o ≡ Some x → ComesTo o true x
comes None x h = absurd cc
comes (Some y) x h = (refl, cc)

pub stays : {X : Type 0} (o : Option X) (x : X) → o ≡ None → ComesTo o false x
stays None x h = refl
stays (Some y) x h = absurd cc

-- a call that began, or didn't, and printed nothing
pub silent-prints : {M : Type 0} (o : Option M) (moved : Bool) (m : M) (text : List ℕ) → ComesTo o moved m → Prints (option_map (λ t. (t, [])) o) moved m text text
silent-prints None moved m text h = h
silent-prints (Some n) moved m text h = (h.0, h.1, sym (append-nil text))

-- the same of a map that ties two such machines
pub silent-alike : {A B : Type 0} (h : A → B) (o : Option A) (q : Option B) → q ≡ option_map h o → option_map (λ t. let r : B × List ℕ = (t, []) in r) q ≡ option_map (λ t. let r : B × List ℕ = (h t.0, t.1) in r) (option_map (λ t. let r : A × List ℕ = (t, []) in r) o)
silent-alike h None q e = rw e refl
silent-alike h (Some t) q e = rw e refl

module _ {M : Type 0} (begins : M → ℕ → List ℕ → Option (M × List ℕ)) (steps : M → ℕ → Option (M × List ℕ)) where
  pub repeated-none : (m : Moment M) (p n : ℕ) → n ≡ 0 → repeated begins steps m p n ≡ Some m
  unfolding repeated
  repeated-none m p n e = rw e refl

  -- the first of some steps, and the others
  pub repeated-more : (m k : Moment M) (p n : ℕ) → 0 < n → stepped begins steps m p ≡ Some k → repeated begins steps m p n ≡ repeated begins steps k p (n - 1)
  unfolding repeated
  repeated-more m k p zero some e = absurd (omega arith)
  repeated-more m k p (suc n) some e = let less : suc n - 1 ≡ n = omega arith in rw (e, less) refl

  pub repeated-stuck : (m : Moment M) (p n : ℕ) → 0 < n → stepped begins steps m p ≡ None → repeated begins steps m p n ≡ None
  unfolding repeated
  repeated-stuck m p zero some e = absurd (omega arith)
  repeated-stuck m p (suc n) some e = rw e refl

  pub played-none : (m : Moment M) (all : List Numbered) → all ≡ [] → played begins steps m all ≡ Ended m
  unfolding played
  played-none m all e = rw e refl

  pub played-more : (m k : Moment M) (all rest : List Numbered) (line : Numbered) → all ≡ line ∷ rest → taken begins steps m line.text ≡ Some k → played begins steps m all ≡ played begins steps k rest
  unfolding played
  played-more m k all rest line e h = rw (e, h) refl

  pub played-bad : (m : Moment M) (all rest : List Numbered) (line : Numbered) → all ≡ line ∷ rest → taken begins steps m line.text ≡ None → played begins steps m all ≡ Bad line.number
  unfolding played
  played-bad m all rest line e h = rw (e, h) refl

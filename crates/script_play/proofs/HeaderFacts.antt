-- What holds of all that a first line can open.
use Rattle.std.proofs.Common.{◌≡◌, Bool, true, false, cond, Option, None, Some, refl, subst}
use Rattle.std.specs.Prelude.{IfSome, option_and_then, option_map}
use Rattle.std.proofs.lemmas.Option.{none-some, same_Some}

module _ {B : Type 0} (P : B → Type 0) where
  pub if_map : {A : Type 0} (f : A → B) (o : Option A) → ((x : A) → o ≡ Some x → P (f x)) → IfSome (option_map f o) P
  if_map f None each = tt
  if_map f (Some x) each = each x refl

  pub if_then : {A : Type 0} (f : A → Option B) (o : Option A) → ((x : A) → o ≡ Some x → IfSome (f x) P) → IfSome (option_and_then f o) P
  if_then f None each = tt
  if_then f (Some x) each = each x refl

  -- the first word names the machine, or nothing opens
  pub if_named : (named : Bool) (o : Option B) → IfSome o P → IfSome (cond named o None) P
  if_named true o h = h
  if_named false o h = tt

  pub if_opens : (o : Option B) (x : B) → o ≡ Some x → IfSome o P → P x
  if_opens None x is h = absurd (none-some x is)
  if_opens (Some y) x is h = subst P (same_Some y x is) h

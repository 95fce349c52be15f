-- Each step of the machine leaves a word that the steps of the seats account for.
use Rattle.std.proofs.Common.{◌≡◌, ℕ, ◌<◌, List, [], ◌∷◌, ◌++◌, length, map, get_or, set, Option, None, Some, refl, sym, ap, ◌∙◌, subst}
use Rattle.std.proofs.lemmas.List.{map_push}
use mathlib.Core.List.{map-append}
use mathlib.Core.Option as maybe
use lib.ListN.{get_elem?}
use lib.Seq.{map-set}
use Rattle.atomic_table.proofs.Lists.{at_map}
use Rattle.wait_core.specs.declared.step.WaitStep.{WaitStep}
use Rattle.wait_core.specs.declared.view.Made.{Made}
use Rattle.wait_core.specs.declared.view.Size.{Size}
use Rattle.seat_roster.specs.WordsAreMade.{signed as signed_by, AreMade}
use Rattle.seat_roster.proofs.WordsAreMade.{Both, one_more, both_signed}
use Rattle.seat_roster.proofs.WordsAreMade as roster
use Rattle.wait_core.specs.Words.{client_base}
use Rattle.wait_core.specs.Machine.{number_of, word_of, becomes, made_with}
use Rattle.wait_core.specs.Seating.{Doings, signed}
use Rattle.wait_core.specs.WordsAreMade.{effect, sign, all_steps, WordsAreMade}
use Rattle.wait_core.proofs.Untouched.{Agree}

abbrev pub took_over : Doings → Doings → Doings
took_over v w = record v { inherited = v.inherited ++ (signed w.own w.steps ++ w.inherited) }

abbrev pub stepless : Option ℕ → Doings
stepless own = record { own = own; steps = []; inherited = [] }

signed_same : (own : Option ℕ) (steps : List Made) → map sign (signed own steps) ≡ signed_by (number_of own) steps
signed_same own [] = refl
signed_same own (m ∷ steps) = ap (λ (l : List (ℕ × Made)). (number_of own, m) ∷ l) (signed_same own steps)

-- a seat that took in another has the steps of both
pub both_made : (v w : Doings) → Both (all_steps v) (all_steps w) (all_steps (took_over v w))
both_made v w = both_signed sign (signed_by (number_of v.own) v.steps) v.inherited (signed w.own w.steps ++ w.inherited) (all_steps w)
    (map-append sign (signed w.own w.steps) w.inherited ∙ ap (λ (l : List (ℕ × Made)). l ++ map sign w.inherited) (signed_same w.own w.steps))

module _ (z : Size) where
  abbrev Accounts : List ℕ → List (List (ℕ × Made)) → Type 0
  Accounts words seats = AreMade (effect z) (λ i. 0) (client_base z) words seats

  -- a step of the machine
  pub made_step : (words : List ℕ) (seats : List Doings) (id : ℕ) (v : Doings) (o : ℕ) (k : WaitStep) (list : List ℕ) → get_elem? seats id ≡ maybe.some v → v.own ≡ Some o → word_of z o k < length words → WordsAreMade z words seats
      → let n = get_or words (word_of z o k) 0 in WordsAreMade z (set words (word_of z o k) (becomes k n)) (set seats id record v { steps = v.steps ++ made_with k n list ∷ [] })
  made_step words seats id v o k list at own inside h =
      let n : ℕ = get_or words (word_of z o k) 0 in let w : Doings = record v { steps = v.steps ++ made_with k n list ∷ [] } in
      subst (Accounts (set words (word_of z o k) (becomes k n))) (sym (map-set all_steps seats id w))
      (roster.made_step (effect z) (λ i. 0) (client_base z) words (map all_steps seats) h id (all_steps v) (all_steps w) (o, made_with k n list) (at_map all_steps seats id v at) (one_more (number_of v.own) o v.steps (map sign v.inherited) (made_with k n list) (ap number_of own)) inside refl)

  -- no word of the machine is touched
  pub made_same : (words new : List ℕ) (seats : List Doings) → Agree z words new → WordsAreMade z words seats → WordsAreMade z new seats
  made_same words new seats agree h = roster.made_same (effect z) (λ i. 0) (client_base z) words (map all_steps seats) h new agree

  -- a seat comes that made no step
  pub made_snoc : (words : List ℕ) (seats : List Doings) (own : Option ℕ) → WordsAreMade z words seats → WordsAreMade z words (seats ++ stepless own ∷ [])
  made_snoc words seats own h = subst (Accounts words) (sym (map_push all_steps seats (stepless own))) (roster.made_snoc (effect z) (λ i. 0) (client_base z) words (map all_steps seats) h)

  -- a seat takes in another, and its steps
  pub made_joined : (words : List ℕ) (seats : List Doings) (id other : ℕ) (v w : Doings) → (other ≡ id → ⊥) → get_elem? seats id ≡ maybe.some v → get_elem? seats other ≡ maybe.some w → WordsAreMade z words seats
      → WordsAreMade z words (set (set seats id (took_over v w)) other (stepless None))
  made_joined words seats id other v w apart at there h =
      subst (Accounts words) (sym (map-set all_steps (set seats id (took_over v w)) other (stepless None) ∙ ap (λ (l : List (List (ℕ × Made))). set l other []) (map-set all_steps seats id (took_over v w))))
      (roster.made_joined (effect z) (λ i. 0) (client_base z) words (map all_steps seats) h id other (all_steps v) (all_steps w) (all_steps (took_over v w)) apart (at_map all_steps seats id v at) (at_map all_steps seats other w there) (both_made v w))

-- A hash has 32 bits.
use Rattle.std.proofs.Common.{◌≡◌, ℕ, ◌-◌, ◌*◌, ◌^◌, ◌<◌, nat_lt, Bool, true, false, cond, List, [], ◌∷◌, length, get_or, sym, ap, ◌∙◌, subst, arith, ⊎_elim, Some, None, Option}
use Rattle.std.specs.Prelude.{fold, bit_xor}
use Rattle.std.proofs.lemmas.Bool.{cases_Bool}
use Rattle.std.proofs.lemmas.Option.{none-some, same_Some}
use Rattle.row_model.specs.Table.{is_present, key_of}
use Rattle.row_model.specs.Hash.{fnv1a, fnv1a_step, hash_of_key}
use Rattle.wait_core.specs.declared.view.WaitView.{WaitView}
use Rattle.wait_core.specs.Ops.{op_at}
use Rattle.wait_core.specs.Parties.{IsStep}
use Rattle.wait_core.specs.Seating.{party_of}
use Rattle.join_law.specs.declared.view.HashView.{HashView}
use Rattle.join_law.specs.declared.step.HashStep.TheVariants.{Load}
use Rattle.join_law.specs.declared.step.Look.TheVariants.{Plain}
use Rattle.join_law.specs.declared.step.Word.TheVariants.{Hash}
use Rattle.join_law.specs.Machine.{step_op}
use Rattle.join_law.specs.Stands.{Stands}
use Rattle.join_law.specs.Views.{View}
use Rattle.join_law.proofs.Learned.{hand_row, hash_found}
use Rattle.join_party.specs.declared.party.HashParty.{HashParty}
use Rattle.join_party.specs.Joins.{join}
use Rattle.shared_tuples.specs.Tuples.{IsReady}

fold_few : (bytes : List ℕ) (hash : ℕ) → hash < 2 ^ 32 → fold fnv1a_step hash bytes < 2 ^ 32
fold_few [] hash few = few
fold_few (x ∷ xs) hash few = fold_few xs (fnv1a_step hash x) (let n : ℕ = bit_xor hash x * 16777619 in omega arith)

fnv1a_few : (bytes : List ℕ) → fnv1a bytes < 2 ^ 32
unfolding fnv1a
fnv1a_few bytes = fold_few bytes 2166136261 (omega arith)

pub hash_few : (key : List ℕ) (hash : ℕ) → hash_of_key key ≡ Some hash → hash < 2 ^ 32
hash_few key hash is = ⊎_elim
    (λ (there : is_present key ≡ true). subst (λ (n : ℕ). n < 2 ^ 32) (same_Some (fnv1a key) hash (sym (ap (λ b. cond b (Some (fnv1a key)) None) there) ∙ is)) (fnv1a_few key))
    (λ (none : is_present key ≡ false). absurd (none-some hash (sym (ap (λ b. cond b (Some (fnv1a key)) None) none) ∙ is)))
    (cases_Bool (is_present key))

-- the hash of any row's key
row_hash_few : (p : HashParty) (row hash : ℕ) → (join p).hash row ≡ Some hash → hash < 2 ^ 32
row_hash_few p row hash is =
    let inner : Option ℕ = hash_of_key (key_of p.inner.now row) in
    let outer : Option ℕ = hash_of_key (key_of p.outer.now (row - length p.inner.now.rows)) in
    ⊎_elim
    (λ (low : nat_lt row (length p.inner.now.rows) ≡ true). hash_few (key_of p.inner.now row) hash (sym (ap (λ (b : Bool). cond b inner outer) low) ∙ is))
    (λ (past : nat_lt row (length p.inner.now.rows) ≡ false). hash_few (key_of p.outer.now (row - length p.inner.now.rows)) hash (sym (ap (λ (b : Bool). cond b inner outer) past) ∙ is))
    (cases_Bool (nat_lt row (length p.inner.now.rows)))

-- the word that was found is the hash of the row's key, which has 32 bits
pub hash_word_found : (p : HashParty) (words : List ℕ) (views : List View) (phases : List ℕ) (h : Stands (join p) words views phases) (id : ℕ) (w : WaitView HashView) (s : IsStep views phases id (party_of w)) (row n : ℕ) → IsReady (party_of w) row
    → get_or words (op_at (step_op (join p) (Load (Plain (Hash row))))) 0 ≡ n → ((join p).hash row ≡ Some n) × (n < 2 ^ 32)
hash_word_found p words views phases h id w s row n ready found =
    let there = hand_row (join p) words views phases h id (party_of w) s row ready.0 in
    let key = hash_found (join p) words views phases h id (party_of w) s row n found there ready.1 in
    (key, row_hash_few p row n key)

-- The words in one row, and as a memory.
use Rattle.std.proofs.Common.{◌≡◌, ℕ, zero, suc, ◌+◌, ◌<◌, List, [], ◌∷◌, ◌++◌, length, get_or, set, refl, ap, ◌∙◌, arith}
use Rattle.std.proofs.lemmas.List.{set-get_or}
use Rattle.join_law.specs.declared.step.Word.{Word}
use Rattle.join_law.specs.declared.step.Word.TheVariants.{Sizes, InnerCursor, OuterCursor, Distributor, Results, BatchSize, Head, Next, Hash}
use Rattle.join_law.specs.Layout.{Join, Memory, Laid, hot, flat, place, Inside, read, write, rows, heads, word_count}

module _ {A : Type 0} where
  read_left : (xs ys : List A) (i : ℕ) (d : A) → i < length xs → get_or (xs ++ ys) i d ≡ get_or xs i d
  read_left [] ys i d h = absurd (omega arith)
  read_left (x ∷ xs) ys zero d h = refl
  read_left (x ∷ xs) ys (suc i) d h = read_left xs ys i d (omega arith)

  read_right : (xs ys : List A) (n i : ℕ) (d : A) → length xs ≡ n → get_or (xs ++ ys) (n + i) d ≡ get_or ys i d
  read_right [] ys n i d h = let e : n + i ≡ i = omega arith in ap (λ k. get_or ys k d) e
  read_right (x ∷ xs) ys zero i d h = absurd (omega arith)
  read_right (x ∷ xs) ys (suc n) i d h = let e : suc n + i ≡ suc (n + i) = omega arith in ap (λ k. get_or (x ∷ (xs ++ ys)) k d) e ∙ read_right xs ys n i d (omega arith)

  write_left : (xs ys : List A) (i : ℕ) (a : A) → i < length xs → set (xs ++ ys) i a ≡ set xs i a ++ ys
  write_left [] ys i a h = absurd (omega arith)
  write_left (x ∷ xs) ys zero a h = refl
  write_left (x ∷ xs) ys (suc i) a h = λ k. x ∷ write_left xs ys i a (omega arith) k

  write_right : (xs ys : List A) (n i : ℕ) (a : A) → length xs ≡ n → set (xs ++ ys) (n + i) a ≡ xs ++ set ys i a
  write_right [] ys n i a h = let e : n + i ≡ i = omega arith in ap (λ k. set ys k a) e
  write_right (x ∷ xs) ys zero i a h = absurd (omega arith)
  write_right (x ∷ xs) ys (suc n) i a h = let e : suc n + i ≡ suc (n + i) = omega arith in ap (λ k. set (x ∷ (xs ++ ys)) k a) e ∙ (λ k. x ∷ write_right xs ys n i a (omega arith) k)

module _ (j : Join) (m : Memory) (laid : Laid j m) where
  abbrev tail : List ℕ
  tail = m.batch_sizes ++ (m.heads ++ (m.nexts ++ m.hashes))

  -- where a word of the longer stretches stands among them
  at_tail : (k n : ℕ) → n ≡ 48 + k → get_or (flat m) n 0 ≡ get_or tail k 0
  at_tail k n e = ap (λ i. get_or (flat m) i 0) e ∙ read_right (hot m []) tail 48 k 0 refl

  set_tail : (k n x : ℕ) → n ≡ 48 + k → set (flat m) n x ≡ hot m (set tail k x)
  set_tail k n x e = ap (λ i. set (flat m) i x) e ∙ write_right (hot m []) tail 48 k x refl

  pub flat_read : (w : Word) → Inside j w → get_or (flat m) (place j w) 0 ≡ read m w
  flat_read Sizes i = refl
  flat_read InnerCursor i = refl
  flat_read OuterCursor i = refl
  flat_read Distributor i = refl
  flat_read Results i = refl
  flat_read (BatchSize k) i = at_tail k (48 + k) refl ∙ read_left m.batch_sizes _ k 0 (let l = laid.batch_sizes in omega arith)
  flat_read (Head h) i = at_tail (128 + h) (176 + h) (omega arith) ∙ (read_right m.batch_sizes _ 128 h 0 laid.batch_sizes ∙ read_left m.heads _ h 0 (let l = laid.heads in omega arith))
  flat_read (Next r) i = at_tail (128 + (heads j + r)) (176 + heads j + r) (omega arith) ∙ (read_right m.batch_sizes _ 128 (heads j + r) 0 laid.batch_sizes ∙ (read_right m.heads _ (heads j) r 0 laid.heads ∙ read_left m.nexts _ r 0 (let l = laid.nexts in omega arith)))
  flat_read (Hash r) i = at_tail (128 + (heads j + (rows j + r))) (176 + heads j + rows j + r) (omega arith) ∙ (read_right m.batch_sizes _ 128 (heads j + (rows j + r)) 0 laid.batch_sizes
      ∙ (read_right m.heads _ (heads j) (rows j + r) 0 laid.heads ∙ read_right m.nexts _ (rows j) r 0 laid.nexts))

  pub flat_write : (w : Word) (x : ℕ) → Inside j w → set (flat m) (place j w) x ≡ flat (write m w x)
  flat_write Sizes x i = refl
  flat_write InnerCursor x i = refl
  flat_write OuterCursor x i = refl
  flat_write Distributor x i = refl
  flat_write Results x i = refl
  flat_write (BatchSize k) x i = set_tail k (48 + k) x refl ∙ ap (hot m) (write_left m.batch_sizes _ k x (let l = laid.batch_sizes in omega arith))
  flat_write (Head h) x i = set_tail (128 + h) (176 + h) x (omega arith) ∙ ap (hot m) (write_right m.batch_sizes _ 128 h x laid.batch_sizes ∙ ap (λ l. m.batch_sizes ++ l) (write_left m.heads _ h x (let l = laid.heads in omega arith)))
  flat_write (Next r) x i = set_tail (128 + (heads j + r)) (176 + heads j + r) x (omega arith) ∙ ap (hot m) (write_right m.batch_sizes _ 128 (heads j + r) x laid.batch_sizes ∙ ap (λ l. m.batch_sizes ++ l)
      (write_right m.heads _ (heads j) r x laid.heads ∙ ap (λ l. m.heads ++ l) (write_left m.nexts _ r x (let l = laid.nexts in omega arith))))
  flat_write (Hash r) x i = set_tail (128 + (heads j + (rows j + r))) (176 + heads j + rows j + r) x (omega arith) ∙ ap (hot m) (write_right m.batch_sizes _ 128 (heads j + (rows j + r)) x laid.batch_sizes ∙ ap (λ l. m.batch_sizes ++ l)
      (write_right m.heads _ (heads j) (rows j + r) x laid.heads ∙ ap (λ l. m.heads ++ l) (write_right m.nexts _ (rows j) r x laid.nexts)))

  -- a word that is written as it was
  pub write_same : (w : Word) → write m w (read m w) ≡ m
  write_same Sizes = refl
  write_same InnerCursor = refl
  write_same OuterCursor = refl
  write_same Distributor = refl
  write_same Results = refl
  write_same (BatchSize k) = λ i. record m { batch_sizes = set-get_or m.batch_sizes k 0 i }
  write_same (Head h) = λ i. record m { heads = set-get_or m.heads h 0 i }
  write_same (Next r) = λ i. record m { nexts = set-get_or m.nexts r 0 i }
  write_same (Hash r) = λ i. record m { hashes = set-get_or m.hashes r 0 i }

pub place_below : (j : Join) (w : Word) → Inside j w → place j w < word_count j
place_below j Sizes i = omega arith
place_below j InnerCursor i = omega arith
place_below j OuterCursor i = omega arith
place_below j Distributor i = omega arith
place_below j Results i = omega arith
place_below j (BatchSize k) i = omega arith
place_below j (Head h) i = omega arith
place_below j (Next r) i = omega arith
place_below j (Hash r) i = omega arith

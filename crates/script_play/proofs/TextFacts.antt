-- Laws of the texts of the items of a list.
use Rattle.std.proofs.Common.{◌≡◌, ℕ, ◌+◌, ◌++◌, ◌<◌, ◌≤◌, List, [], length, drop, get_or, refl, add-one, drop-cons}
use Rattle.std.proofs.lemmas.List.{drop_all}
use Rattle.script_play.specs.Texts.{texts_of}

pub texts-none : {A : Type 0} (text : ℕ → A → List ℕ) (xs : List A) (i j : ℕ) → length xs ≤ i → texts_of text (drop i xs) j ≡ []
unfolding texts_of
texts-none text xs i j past = rw (drop_all i xs past) refl

pub texts-more : {A : Type 0} (text : ℕ → A → List ℕ) (xs : List A) (i j : ℕ) (d : A) → i < length xs → texts_of text (drop i xs) j ≡ text j (get_or xs i d) ++ texts_of text (drop (i + 1) xs) (j + 1)
unfolding texts_of
texts-more text xs i j d inside = rw (add-one, drop-cons xs i d inside) refl

-- Texts of the items of a list, one after the other.
use Rattle.std.specs.Prelude.{ℕ, ◌+◌, ◌++◌, List, [], ◌∷◌}

-- the text of each item, with its number, where the first has the number i
unfoldable pub texts_of : {A : Type 0} → (ℕ → A → List ℕ) → List A → ℕ → List ℕ
texts_of text [] i = []
texts_of text (x ∷ xs) i = text i x ++ texts_of text xs (i + 1)

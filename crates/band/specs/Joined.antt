-- Pieces one after another, and a sum over them. Assumes nothing.
use Rattle.std.specs.Prelude.{ℕ, ◌+◌, List, [], ◌++◌}
use Rattle.exact.specs.Loop.{up_to}

-- f 0, f 1, .. f (n - 1), one after another
unfoldable pub joined : {A : Type 0} → (ℕ → List A) → ℕ → List A
joined {A} f n = up_to (λ (k : ℕ) (xs : List A). xs ++ f k) 0 n []

-- f 0 + f 1 + .. + f (n - 1)
unfoldable pub totalled : (ℕ → ℕ) → ℕ → ℕ
totalled f n = up_to (λ (k s : ℕ). s + f k) 0 n 0

-- That a statement holds of each element of a list. Assumes nothing.
use Rattle.std.specs.Prelude.{List, [], ◌∷◌}

abbrev pub Each : {A : Type 0} → (A → Type 0) → List A → Type 0
Each {A} P [] = Unit {0}
Each {A} P (x ∷ xs) = P x × Each P xs

-- Lists of floats as the code holds them. Past its end a list reads as a NaN; no definition reads there. Assumes
-- nothing.
use Rattle.std.specs.Prelude.{ℕ, List, get_or, Float}
use Rattle.std.specs.Float.{nan}

abbrev pub Vector : Type 0
Vector = List Float

-- v[k]
abbrev pub at : Vector → ℕ → Float
at v k = get_or v k nan

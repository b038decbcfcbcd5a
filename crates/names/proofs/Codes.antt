-- What a lookup finds is below m where every code of the table is, which is one test that antt computes. Assumes
-- nothing.
use Rattle.std.specs.Prelude.{Option, Some}
use mathlib.Core.Bool.{Bool, true, false, cond}
use mathlib.Core.List.{List, [], ◌∷◌}
use Prim.Native.Nat.{ℕ}
use lib.Dec.{T, ltb, ltb→lt}
use Rattle.names.specs.Names.{same_name, lookup, Below}

-- every code of the table is below m
abbrev pub codes_below : ℕ → List (List ℕ × ℕ) → Bool
codes_below m [] = true
codes_below m ((name, n) ∷ table) = cond (ltb n m) (codes_below m table) false

cond_both : (a b : Bool) → T (cond a b false) → T a × T b
cond_both true b t = (tt, t)
cond_both false b t = absurd t

cond_below : (m : ℕ) (b : Bool) (x y : Option ℕ) → Below m x → Below m y → Below m (cond b x y)
cond_below m true x y p q = p
cond_below m false x y p q = q

pub lookup_below : (m : ℕ) (table : List (List ℕ × ℕ)) (s : List ℕ) → T (codes_below m table) → Below m (lookup table s)
unfolding lookup
lookup_below m [] s t = tt
lookup_below m ((name, n) ∷ table) s t =
    let both = cond_both (ltb n m) (codes_below m table) t in
    cond_below m (same_name s name) (Some n) (lookup table s) (ltb→lt n m both.0) (lookup_below m table s both.1)

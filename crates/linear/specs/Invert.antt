-- `invert_affine` and `invert3`: none where the determinant's magnitude is too small. One that is a NaN passes.
-- Specification 5.3. Assumes nothing.
use Rattle.std.specs.Prelude.{cond, [], ◌∷◌, Option, Some, None, Float}
use Rattle.std.specs.Float.{binary64}
use Rattle.std.specs.Float.Ieee.{of_bits, lt, neg}
use Rattle.exact.specs.Double.{◌⊕◌, ◌⊖◌, ◌⊗◌, ◌⊘◌, least_divisor, one}
use Rattle.number.specs.Magnitude.{abs}
use Rattle.exact.specs.Vector.{Vector, at}

-- ---- u = m0 x + m1 y + m2, v = m3 x + m4 y + m5

abbrev pub det2 : Vector → Float
det2 m = at m 0 ⊗ at m 4 ⊖ at m 1 ⊗ at m 3

-- a, b, c and d are the four of the inverse
abbrev pub affine_rows : Vector → Float → Float → Float → Float → Vector
affine_rows m a b c d = a ∷ b ∷ neg (a ⊗ at m 2 ⊕ b ⊗ at m 5) ∷ c ∷ d ∷ neg (c ⊗ at m 2 ⊕ d ⊗ at m 5) ∷ []

unfoldable pub invert_affine : Vector → Option Vector
invert_affine m =
    cond (lt (abs (det2 m)) least_divisor)
    None
    (Some (affine_rows m (at m 4 ⊘ det2 m) (neg (at m 1) ⊘ det2 m) (neg (at m 3) ⊘ det2 m) (at m 0 ⊘ det2 m)))

-- ---- a homography

abbrev pub det3 : Vector → Float
det3 m =
    at m 0 ⊗ (at m 4 ⊗ at m 8 ⊖ at m 5 ⊗ at m 7)
    ⊖ at m 1 ⊗ (at m 3 ⊗ at m 8 ⊖ at m 5 ⊗ at m 6)
    ⊕ at m 2 ⊗ (at m 3 ⊗ at m 7 ⊖ at m 4 ⊗ at m 6)

-- each entry of the adjugate times i
abbrev pub adjugate : Vector → Float → Vector
adjugate m i =
    ((at m 4 ⊗ at m 8 ⊖ at m 5 ⊗ at m 7) ⊗ i)
    ∷ ((at m 2 ⊗ at m 7 ⊖ at m 1 ⊗ at m 8) ⊗ i)
    ∷ ((at m 1 ⊗ at m 5 ⊖ at m 2 ⊗ at m 4) ⊗ i)
    ∷ ((at m 5 ⊗ at m 6 ⊖ at m 3 ⊗ at m 8) ⊗ i)
    ∷ ((at m 0 ⊗ at m 8 ⊖ at m 2 ⊗ at m 6) ⊗ i)
    ∷ ((at m 2 ⊗ at m 3 ⊖ at m 0 ⊗ at m 5) ⊗ i)
    ∷ ((at m 3 ⊗ at m 7 ⊖ at m 4 ⊗ at m 6) ⊗ i)
    ∷ ((at m 1 ⊗ at m 6 ⊖ at m 0 ⊗ at m 7) ⊗ i)
    ∷ ((at m 0 ⊗ at m 4 ⊖ at m 1 ⊗ at m 3) ⊗ i)
    ∷ []

-- a homography's own limit
abbrev pub least_det3 : Float
least_det3 = of_bits binary64 0x3cd2_03af_9ee7_5616  -- 1e-15

unfoldable pub invert3 : Vector → Option Vector
invert3 m = cond (lt (abs (det3 m)) least_det3) None (Some (adjugate m (one ⊘ det3 m)))

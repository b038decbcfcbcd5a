-- The rows of least squares that a pair gives, as the Rust's `vec![..]` has them, each in an array of 21. Specification
-- 5.2. Assumes nothing.
use Rattle.std.specs.Prelude.{[], ◌∷◌, Float}
use Rattle.std.specs.Float.Ieee.{neg}
use Rattle.exact.specs.Double.{◌⊗◌, one}
use Rattle.mappings.specs.declared.pair.Pair.{Pair}
use Rattle.mappings.specs.declared.rows.Terms.{Terms}
use Rattle.mappings.specs.declared.rows.Terms.TheVariants.{Affine, Polynomial, Forward}
use Rattle.mappings.specs.declared.rows.Side.{Side}
use Rattle.mappings.specs.declared.rows.Side.TheVariants.{OfU, OfV, OfX, OfY}
use Rattle.mappings.specs.declared.rows.Twin.{Twin}
use Rattle.mappings.specs.declared.rows.Twin.TheVariants.{Similarity, Perspective}
use Rattle.exact.specs.Vector.{Vector}
use Rattle.linear.specs.Matrix.{nought}
use Rattle.mappings.specs.Monomials.{monomials}
use Rattle.mappings.specs.Padded.{padded}

-- ---- one row a pair

abbrev pub row_of : Terms → Pair → Vector
row_of Affine p = padded 21 (p.x ∷ p.y ∷ one ∷ [])
row_of (Polynomial order) p = padded 21 (monomials order p.x p.y)
row_of Forward p = padded 21 (monomials 0 p.u p.v)  -- 1, u, v, uv

abbrev pub side_of : Side → Pair → Float
side_of OfU p = p.u
side_of OfV p = p.v
side_of OfX p = p.x
side_of OfY p = p.y

-- ---- two rows a pair: the first gives u, the second v

abbrev pub first_row : Twin → Pair → Vector
first_row Similarity p = padded 21 (p.x ∷ neg p.y ∷ one ∷ nought ∷ [])
first_row Perspective p =
    padded 21 (p.x ∷ p.y ∷ one ∷ nought ∷ nought ∷ nought ∷ (neg p.u ⊗ p.x) ∷ (neg p.u ⊗ p.y) ∷ [])

abbrev pub second_row : Twin → Pair → Vector
second_row Similarity p = padded 21 (p.y ∷ p.x ∷ nought ∷ one ∷ [])
second_row Perspective p =
    padded 21 (nought ∷ nought ∷ nought ∷ p.x ∷ p.y ∷ one ∷ (neg p.v ⊗ p.x) ∷ (neg p.v ⊗ p.y) ∷ [])

-- The source point worked in exact fractions, with the fitted coefficients as the fractions that their bits name: sums,
-- and in the perspective kind over the denominator. Only the three kinds of the exact chain have one. Specification
-- 11.3. Assumes nothing.
use Rattle.std.specs.Prelude.{ℕ, ◌+◌, ◌-◌, min, cond, List, [], ◌∷◌, ◌++◌, length, get_or, eqb, Float}
use Rattle.exact.specs.Fraction.{Fraction, frac, value, ◌*F◌, ◌/F◌}
use Rattle.exact.specs.Loop.{up_to}
use Rattle.exact.specs.Power.{pow_f}
use Rattle.exact.specs.Sums.{linear_f, summed_f}
use Rattle.exact.specs.Vector.{Vector, at}
use Rattle.inverse.specs.Polynomial.{of_u, of_v}
use Rattle.mappings.specs.declared.mapping.Kind.{Kind}

-- ---- affine, and perspective
abbrev pub sum_u : Vector → Fraction → Fraction → Fraction
sum_u m X Y = linear_f (at m 0) (at m 1) (at m 2) X Y

abbrev pub sum_v : Vector → Fraction → Fraction → Fraction
sum_v m X Y = linear_f (at m 3) (at m 4) (at m 5) X Y

abbrev pub denominator_f : Vector → Fraction → Fraction → Fraction
denominator_f m X Y = linear_f (at m 6) (at m 7) (at m 8) X Y

-- ---- the monomials, in the order of the rounded ones
unfoldable pub push_f : Fraction → Fraction → ℕ → ℕ → List Fraction → List Fraction
push_f X Y total j out = out ++ ((pow_f X (total - j) *F pow_f Y j) ∷ [])

unfoldable pub of_degree_f : Fraction → Fraction → ℕ → List Fraction → List Fraction
of_degree_f X Y total out = up_to (push_f X Y total) 0 (total + 1) out

unfoldable pub monomials_f : ℕ → Fraction → Fraction → List Fraction
monomials_f order X Y = cond (eqb order 0) (frac 1 1 ∷ X ∷ Y ∷ (X *F Y) ∷ [])
    (up_to (of_degree_f X Y) 0 (min order 5 + 1) [])

-- the k-th of them, and how many there are
abbrev pub power_at : ℕ → Fraction → Fraction → ℕ → Fraction
power_at order X Y k = get_or (monomials_f order X Y) k (frac 0 1)

abbrev pub many : ℕ → Fraction → Fraction → ℕ
many order X Y = length (monomials_f order X Y)

abbrev pub poly_f : ℕ → Fraction → Fraction → (ℕ → Float) → Fraction
poly_f order X Y c = summed_f (λ (k : ℕ). power_at order X Y k *F value (c k)) (many order X Y)

-- ---- u and v by the kind: affine, perspective, polynomial
unfoldable pub exact_point : Kind → ℕ → Vector → Fraction → Fraction → Fraction × Fraction
exact_point Kind.Nothing order m X Y = (frac 0 1, frac 0 1)
exact_point Kind.Affine order m X Y = (sum_u m X Y, sum_v m X Y)
exact_point Kind.Perspective order m X Y = (sum_u m X Y /F denominator_f m X Y, sum_v m X Y /F denominator_f m X Y)
exact_point Kind.Poly order m X Y = (poly_f order X Y (of_u m), poly_f order X Y (of_v m (many order X Y)))
exact_point Kind.BilinearForward order m X Y = (frac 0 1, frac 0 1)
exact_point Kind.Barrel order m X Y = (frac 0 1, frac 0 1)
exact_point Kind.BarrelInverse order m X Y = (frac 0 1, frac 0 1)
exact_point Kind.Shepards order m X Y = (frac 0 1, frac 0 1)

-- What the two affine methods are fitted to: u = m0 x + m1 y + m2, v = m3 x + m4 y + m5. Specification 5.2. Assumes
-- nothing.
use Rattle.std.specs.Prelude.{ℕ, cond, [], ◌∷◌, ◌==◌, Option, option_map}
use Rattle.std.specs.Float.Ieee.{neg}
use Rattle.exact.specs.Double.{◌⊖◌, one}
use Rattle.arguments.specs.Method.{affine_terms}
use Rattle.mappings.specs.declared.pair.Pair.{Pair}
use Rattle.mappings.specs.declared.rows.Terms.TheVariants.{Affine}
use Rattle.mappings.specs.declared.rows.Twin.TheVariants.{Similarity}
use Rattle.fit.specs.Fit.{fit_twin, fit_both, u_and_v}
use Rattle.linear.specs.Invert.{invert_affine}
use Rattle.mappings.specs.Mapping.{Fitted, affine_kind, mapping, fitted, solved_or8}
use Rattle.exact.specs.Vector.{Vector, at}
use Rattle.linear.specs.Matrix.{nought}
use Rattle.mappings.specs.Pairs.{pair_at}

-- ---- the arguments are a forward map, column by column

abbrev pub affine_forward : Vector → Vector
affine_forward values = at values 0 ∷ at values 2 ∷ at values 4 ∷ at values 1 ∷ at values 3 ∷ at values 5 ∷ []

abbrev pub affine_inverse : Option Vector → Fitted
affine_inverse inverse = solved_or8 (option_map (mapping affine_kind 0) inverse)

unfoldable pub fit_affine_projection : Vector → Fitted
fit_affine_projection values = affine_inverse (invert_affine (affine_forward values))

-- ---- pairs: one is a shift, two are a similarity, u = a x - b y + c and v = b x + a y + d

abbrev pub shifted : Pair → Vector
shifted p = one ∷ nought ∷ (p.u ⊖ p.x) ∷ nought ∷ one ∷ (p.v ⊖ p.y) ∷ []

unfoldable pub shift : Vector → Fitted
shift values = fitted (mapping affine_kind 0 (shifted (pair_at values 0 0)))

abbrev pub similar : Vector → Vector
similar s = at s 0 ∷ neg (at s 1) ∷ at s 2 ∷ at s 1 ∷ at s 0 ∷ at s 3 ∷ []

abbrev pub similar_solution : Option Vector → Fitted
similar_solution s = solved_or8 (option_map (λ x. mapping affine_kind 0 (similar x)) s)

unfoldable pub similarity : Vector → Fitted
similarity values = similar_solution (fit_twin values 2 Similarity (affine_terms 2))

unfoldable pub fit_affine : Vector → ℕ → Fitted
fit_affine values pairs =
    cond (pairs == 1) (shift values)
    (cond (pairs == 2) (similarity values)
    (fit_both values 0 pairs Affine u_and_v (affine_terms pairs) affine_kind 0))

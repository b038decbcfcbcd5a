-- The methods by their codes, which count from 0 in the order of the Rust enum's declaration; the four that are absent
-- have theirs too. Then what each method states: its least pair count and its term count. Specification 1.2, 3.2.
-- Assumes nothing.
use Rattle.std.specs.Prelude.{◌≡◌, ℕ, Bool, false, not, ◌&&◌, ◌||◌, cond, eqb, ltb, leb, Result, MatchResult, Float}
use Rattle.refusals.specs.declared.Refusal.{Refusal}
use Rattle.refusals.specs.declared.Refusal.TheVariants.{Code}
use Rattle.arguments.specs.declared.code.Method.{Method}
use Rattle.arguments.specs.declared.code.Method.TheVariants.{
  Affine,
  AffineProjection,
  Perspective,
  PerspectiveProjection,
  BilinearReverse,
  BilinearForward,
  Polynomial,
  Barrel,
  BarrelInverse,
  Shepards,
}
use Rattle.arguments.specs.Order.{terms_of}

abbrev pub affine_code : ℕ
affine_code = 0

abbrev pub affine_projection_code : ℕ
affine_projection_code = 1

abbrev pub perspective_code : ℕ
perspective_code = 3

abbrev pub perspective_projection_code : ℕ
perspective_projection_code = 4

abbrev pub bilinear_reverse_code : ℕ
bilinear_reverse_code = 5

abbrev pub bilinear_forward_code : ℕ
bilinear_forward_code = 6

abbrev pub polynomial_code : ℕ
polynomial_code = 7

abbrev pub barrel_code : ℕ
barrel_code = 11

abbrev pub barrel_inverse_code : ℕ
barrel_inverse_code = 12

abbrev pub shepards_code : ℕ
shepards_code = 13

-- the codes of those that are absent; that of `Polar` stands between the last two
abbrev pub scale_rotate_translate_code : ℕ
scale_rotate_translate_code = 2

abbrev pub arc_code : ℕ
arc_code = 8

abbrev pub de_polar_code : ℕ
de_polar_code = 10

-- `Shepards` is the last
unfoldable pub present : ℕ → Bool
present m = leb m shepards_code && not (eqb m scale_rotate_translate_code) && (ltb m arc_code || ltb de_polar_code m)

-- ---- a method's code, and the method of a code: none for one that is absent

abbrev pub code_of : Method → ℕ
code_of Affine = affine_code
code_of AffineProjection = affine_projection_code
code_of Perspective = perspective_code
code_of PerspectiveProjection = perspective_projection_code
code_of BilinearReverse = bilinear_reverse_code
code_of BilinearForward = bilinear_forward_code
code_of Polynomial = polynomial_code
code_of Barrel = barrel_code
code_of BarrelInverse = barrel_inverse_code
code_of Shepards = shepards_code

abbrev pub Judged : ℕ → Result Method Refusal → Type 0
Judged code r = MatchResult r (λ m. code_of m ≡ code) (λ e. (e ≡ Code) × (present code ≡ false))

-- the methods that take pairs
unfoldable pub pair_method : ℕ → Bool
pair_method m =
    eqb m affine_code || eqb m perspective_code || eqb m bilinear_reverse_code || eqb m bilinear_forward_code
    || eqb m polynomial_code
    || eqb m shepards_code

-- how many arguments stand before the pairs: a polynomial's order
unfoldable pub skip : ℕ → ℕ
skip m = cond (eqb m polynomial_code) 1 0

-- the least pairs of the method m, a polynomial's at its order; 0 where a method takes none
unfoldable pub least_pairs : ℕ → Float → ℕ
least_pairs m order =
    cond (eqb m affine_code) 1
    (cond (eqb m perspective_code) 4
    (cond (eqb m bilinear_reverse_code) 4
    (cond (eqb m bilinear_forward_code) 4
    (cond (eqb m polynomial_code) (terms_of order)
    (cond (eqb m shepards_code) 1
    0)))))

-- a similarity, of two pairs, has four unknowns in one system; else there are three for u and three for v
unfoldable pub affine_terms : ℕ → ℕ
affine_terms pairs = cond (eqb pairs 2) 4 3

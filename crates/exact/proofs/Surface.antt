-- The surface is a line of lines, so its laws are the line's twice: once over the columns, once over the rows.
-- Provides: `surface_unit`, `surface_near`, `surface_move`, `surface_eval`. Assumes nothing.
use lib.IntN.{ℤ, suc_ℤ}
use Rattle.exact.specs.Fraction.{Fraction, whole, ◌≈◌, ◌+F◌, Within, Unit01}
use Rattle.exact.specs.Surface.{mix_f, lin, surface}
use Rattle.exact.proofs.Near.{within_trans}
use Rattle.exact.proofs.Products.{eq_refl, ◌⨟◌}
use Rattle.exact.proofs.Mix.{mix_same}
use Rattle.exact.proofs.Line.{lin_unit, lin_near, lin_eval, lin_move}

-- the values of row j
abbrev row : (ℤ → ℤ → Fraction) → ℤ → ℤ → Fraction
row a j i = a i j

-- the line along row j, at x
abbrev along : (ℤ → ℤ → Fraction) → Fraction → ℤ → Fraction
along a x j = lin (row a j) x

pub surface_unit : (a : ℤ → ℤ → Fraction) (x y : Fraction) → ((i j : ℤ) → Unit01 (a i j)) → Unit01 (surface a x y)
unfolding surface
surface_unit a x y h = lin_unit (along a x) y (λ j. lin_unit (row a j) x (λ i. h i j))

pub surface_near : (a b : ℤ → ℤ → Fraction) (x y e : Fraction) → ((i j : ℤ) → Within (a i j) (b i j) e)
    → Within (surface a x y) (surface b x y) e
unfolding surface
surface_near a b x y e h = lin_near (along a x) (along b x) y e (λ j. lin_near (row a j) (row b j) x e (λ i. h i j))

module _ (a : ℤ → ℤ → Fraction) where
  -- in any cell that the point touches: the fractions may be 1
  pub surface_eval : (x y t s : Fraction) (k l : ℤ) → Unit01 t → Unit01 s → x ≈ whole k +F t → y ≈ whole l +F s
      → surface a x y ≈ mix_f s (mix_f t (a k l) (a (suc_ℤ k) l)) (mix_f t (a k (suc_ℤ l)) (a (suc_ℤ k) (suc_ℤ l)))
  unfolding surface
  surface_eval x y t s k l u v h g =
      lin_eval (along a x) y s l v g ⨟ mix_same (eq_refl s) (lin_eval (row a l) x t k u h)
      (lin_eval (row a (suc_ℤ l)) x t k u h)

  -- between any two points of the plane: first along the row, then along the column
  pub surface_move : ((i j : ℤ) → Unit01 (a i j)) → (x x' y y' d e : Fraction) → Within x x' d → Within y y' e
      → Within (surface a x y) (surface a x' y') (d +F e)
  unfolding surface
  surface_move u x x' y y' d e h k =
      within_trans (lin (along a x) y) (lin (along a x') y) (lin (along a x') y') d e
      (lin_near (along a x) (along a x') y d (λ j. lin_move (row a j) (λ i. u i j) x x' d h))
      (lin_move (along a x') (λ j. lin_unit (row a j) x' (λ i. u i j)) y y' e k)

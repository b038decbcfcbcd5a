-- Blends along two axes, as mixes and as sums of taps; and the surface as such a blend. The law that the callers use is
-- `taps_near`: however the point was put into a cell, with a fraction of 1 too, four taps near the surface's values
-- give a blend near the surface. Provides: `bilinear`, `four_taps`, `surface_blend`, `taps_near`. Assumes nothing.
use mathlib.Core.Path.{refl}
use mathlib.Core.List.{List, [], ◌∷◌}
use mathlib.Core.Bool.{Bool, false, cond, ◌&&◌}
use Prim.Native.Nat.{ℕ}
use native.Mathlib.Omega.{arith}
use lib.Dec.{eqb}
use lib.IntN.{ℤ, pos, negsuc, suc_ℤ}
use Rattle.exact.specs.Fraction.{Fraction, frac, ratio, whole, ◌≤F◌, ◌≈◌, ◌+F◌, ◌-F◌, ◌*F◌, Within, Unit01}
use Rattle.exact.specs.Surface.{mix_f, surface}
use Rattle.exact.specs.Blend.{weights_f, dot_f, blend_f, folded_f, four_around, Pairwise}
use Rattle.exact.proofs.Scale.{at_eq, at_add, common}
use Rattle.exact.proofs.Near.{within_trans}
use Rattle.exact.proofs.Products.{eq_refl, ◌⨟◌, back, at_zero}
use Rattle.exact.proofs.NearProducts.{within_like}
use Rattle.exact.proofs.Surface.{surface_eval, surface_move}
use Rattle.exact.proofs.Weights.{weights_two}
use Rattle.exact.proofs.Dot.{dot_same}
use Rattle.exact.proofs.Blend.{blend_near, blend_fold, blend_one}

-- ---- two axes and three
pub bilinear : (t s a b c d : Fraction) → blend_f (t ∷ s ∷ []) (a ∷ b ∷ c ∷ d ∷ []) ≈ mix_f s (mix_f t a b) (mix_f t c d)
unfolding folded_f
bilinear t s a b c d =
    blend_fold t (s ∷ []) (a ∷ b ∷ c ∷ d ∷ []) ⨟ blend_fold s [] (mix_f t a b ∷ mix_f t c d ∷ []) ⨟ blend_one
    (mix_f s (mix_f t a b) (mix_f t c d))

-- the sum of four taps, from the left
pub four_taps : (t s a b c d : Fraction)
    → blend_f (t ∷ s ∷ []) (a ∷ b ∷ c ∷ d ∷ []) ≈ (frac 1 1 -F t) *F (frac 1 1 -F s) *F a +F t *F (frac 1 1 -F s) *F b
    +F (frac 1 1 -F t) *F s *F c +F t *F s *F d
unfolding blend_f dot_f
four_taps t s a b c d =
    let t' : Fraction = frac 1 1 -F t in
    let s' : Fraction = frac 1 1 -F s in
    dot_same (weights_f (t ∷ s ∷ [])) ((t' *F s') ∷ (t *F s') ∷ (t' *F s) ∷ (t *F s) ∷ []) (a ∷ b ∷ c ∷ d ∷ []) (a ∷ b
    ∷ c ∷ d ∷ []) (weights_two t s)
    (eq_refl a, (eq_refl b, (eq_refl c, (eq_refl d, tt))))
    ⨟ left (t' *F s' *F a) (t *F s' *F b) (t' *F s *F c) (t *F s *F d)
  where
    left : (x y z w : Fraction) → x +F (y +F (z +F (w +F frac 0 1))) ≈ x +F y +F z +F w
    left x y z w =
        common (x ∷ y ∷ z ∷ w ∷ [])
        (λ D D0 ((_, _, X), ((_, _, Y), ((_, _, Z), ((_, _, W), _)))).
        at_eq D D0 (at_add X (at_add Y (at_add Z (at_add W (at_zero D))))) (at_add (at_add (at_add X Y) Z) W)
        (omega arith))

-- ---- the surface is the blend of the four values around the point, in any cell that the point touches
module _ (a : ℤ → ℤ → Fraction) where
  pub surface_blend : (x y t s : Fraction) (k l : ℤ) → Unit01 t → Unit01 s → x ≈ whole k +F t → y ≈ whole l +F s
      → surface a x y ≈ blend_f (t ∷ s ∷ []) (four_around a k l)
  surface_blend x y t s k l u v h g =
      surface_eval a x y t s k l u v h g ⨟ back
      (bilinear t s (a k l) (a (suc_ℤ k) l) (a k (suc_ℤ l)) (a (suc_ℤ k) (suc_ℤ l)))

  -- four taps, each near its value, blended at a point near (x, y), in whatever cell that point was put
  pub taps_near : ((i j : ℤ) → Unit01 (a i j)) → (x y t s d e c : Fraction) (k l : ℤ) (vs : List Fraction) → Unit01 t
      → Unit01 s
      → Within (whole k +F t) x d → Within (whole l +F s) y e → frac 0 1 ≤F c
      → Pairwise (λ v w. Within v w c) vs (four_around a k l)
      → Within (blend_f (t ∷ s ∷ []) vs) (surface a x y) (c +F (d +F e))
  taps_near values x y t s d e c k l vs u v h g c0 near =
      within_trans (blend_f (t ∷ s ∷ []) vs) (blend_f (t ∷ s ∷ []) (four_around a k l)) (surface a x y) c (d +F e)
      (blend_near (t ∷ s ∷ []) (u, (v, tt)) vs (four_around a k l) c c0 near)
      (within_like (surface_blend (whole k +F t) (whole l +F s) t s k l u v (eq_refl (whole k +F t))
      (eq_refl (whole l +F s))) (eq_refl (surface a x y)) (eq_refl (d +F e))
      (surface_move a values (whole k +F t) x (whole l +F s) y d e h g))

-- ---- by example
halfway : blend_f (frac 1 2 ∷ frac 1 4 ∷ []) (frac 0 1 ∷ frac 1 1 ∷ frac 0 1 ∷ frac 1 1 ∷ []) ≈ frac 1 2
unfolding blend_f
halfway = record { eq = refl }

-- the second corner's weight is t (1 - s)
second : blend_f (frac 1 4 ∷ frac 1 3 ∷ []) (frac 0 1 ∷ frac 1 1 ∷ frac 0 1 ∷ frac 0 1 ∷ []) ≈ frac 1 6
unfolding blend_f
second = record { eq = refl }

-- 1 at column 0 and row 2, and 0 elsewhere: at (-1/4, 5/3) the surface is 3/4 of 2/3
is : ℕ → ℤ → Bool
is n (pos m) = eqb m n
is n (negsuc m) = false

peak : ℤ → ℤ → Fraction
unfolding is
peak i j = cond (is 0 i && is 2 j) (frac 1 1) (frac 0 1)

beside : surface peak (ratio 0 1 4) (frac 5 3) ≈ frac 1 2
unfolding surface peak
beside = record { eq = refl }

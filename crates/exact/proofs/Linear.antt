-- Sums of three terms, m x + n y + o: the products are at most b, the sums at most 2 b and 4 b, so the four roundings
-- cost half an ulp at each of these. Provides: `linear_near` (at any three powers of two), `linear_terms` (terms up to
-- 16,384: within 2 ^ -37), `linear_small` (terms up to 4: within 2 ^ -49), `affine_close` (a coordinate up to 16,384:
-- at most 16,385 in size). Assumes nothing.
use Prim.Native.Nat.{◌^◌}
use lib.Dec.{T, lit≤}
use lib.Ieee.{Float, binary64}
use lib.Ieee.Scale.{finite}
use Rattle.exact.specs.Fraction.{Fraction, frac, value, ◌≤F◌, ◌≈◌, ◌+F◌, ◌*F◌, abs_f}
use Rattle.exact.specs.Rounds.{Close}
use Rattle.exact.specs.Double.{◌⊗◌}
use Rattle.exact.specs.Sums.{linear, linear_f, PixelCoordinate, Linear}
use Rattle.exact.proofs.Near.{le_refl, le_trans}
use Rattle.exact.proofs.Products.{eq_refl, mul_same}
use Rattle.exact.proofs.Magnitude.{abs_alike}
use Rattle.exact.proofs.Steps.{close_own, close_more, close_along}
use Rattle.exact.proofs.Powers.{close_size}
use Rattle.exact.proofs.Sums.{Step, step_fine, add_near, mul_near}

-- a product with a coordinate
module _ {h B : Fraction} (step : Step binary64 h B) where
  product_near : (m : Float) {x : Float} {X : Fraction} → T (finite m) → PixelCoordinate x X → abs_f (value m *F X) ≤F B
      → Close (m ⊗ x) (value m *F X) h B
  product_near m {x} {X} t c k =
      let e : value m *F value x ≈ value m *F X = mul_same (eq_refl (value m)) c.is in
      close_along e (mul_near step m x t c.number
      (le_trans (abs_f (value m *F value x)) (abs_f (value m *F X)) B
      (abs_alike (value m *F value x) (value m *F X) e) k))

module _ {h1 B1 h2 B2 h3 B3 : Fraction} (one : Step binary64 h1 B1) (two : Step binary64 h2 B2)
    (three : Step binary64 h3 B3) (k2 : B1 +F B1 ≤F B2) (k3 : B2 +F B1 ≤F B3) where
  pub linear_near : {m n o x y : Float} {X Y : Fraction} → PixelCoordinate x X → PixelCoordinate y Y
      → Linear m n o X Y B1
      → Close (linear m n o x y) (linear_f m n o X Y) (h3 +F (h2 +F (h1 +F h1) +F frac 0 1)) B3
  linear_near {m} {n} {o} c d L =
      add_near three (add_near two (product_near one m L.number_m c L.term_x)
      (product_near one n L.number_n d L.term_y) k2) (close_own o B1 L.number_o L.term_1) k3

module _ {x y : Float} {X Y : Fraction} (c : PixelCoordinate x X) (d : PixelCoordinate y Y) {m n o : Float} where
  pub linear_terms : Linear m n o X Y (frac 16384 1)
      → Close (linear m n o x y) (linear_f m n o X Y) (frac 1 (2 ^ 37)) (frac 65536 1)
  linear_terms L =
      close_more parts (le_refl (frac 65536 1) (frac 65536 1))
      (linear_near (step_fine binary64 1088 16384 1 1 (2 ^ 40) tt) (step_fine binary64 1089 32768 1 1 (2 ^ 39) tt)
      (step_fine binary64 1090 65536 1 1 (2 ^ 38) tt) twice thrice c d L)
    where
      twice : frac 16384 1 +F frac 16384 1 ≤F frac 32768 1
      twice = unfold ◌+F◌ in record { le = lit≤ tt }

      thrice : frac 32768 1 +F frac 16384 1 ≤F frac 65536 1
      thrice = unfold ◌+F◌ in record { le = lit≤ tt }

      parts : frac 1 (2 ^ 38) +F (frac 1 (2 ^ 39) +F (frac 1 (2 ^ 40) +F frac 1 (2 ^ 40)) +F frac 0 1) ≤F frac 1
          (2 ^ 37)
      parts = unfold ◌+F◌ in record { le = lit≤ tt }

  pub linear_small : Linear m n o X Y (frac 4 1)
      → Close (linear m n o x y) (linear_f m n o X Y) (frac 1 (2 ^ 49)) (frac 16 1)
  linear_small L =
      close_more parts (le_refl (frac 16 1) (frac 16 1))
      (linear_near (step_fine binary64 1076 4 1 1 (2 ^ 52) tt) (step_fine binary64 1077 8 1 1 (2 ^ 51) tt)
      (step_fine binary64 1078 16 1 1 (2 ^ 50) tt) twice thrice c d L)
    where
      twice : frac 4 1 +F frac 4 1 ≤F frac 8 1
      twice = unfold ◌+F◌ in record { le = lit≤ tt }

      thrice : frac 8 1 +F frac 4 1 ≤F frac 16 1
      thrice = unfold ◌+F◌ in record { le = lit≤ tt }

      parts : frac 1 (2 ^ 50) +F (frac 1 (2 ^ 51) +F (frac 1 (2 ^ 52) +F frac 1 (2 ^ 52)) +F frac 0 1) ≤F frac 1
          (2 ^ 49)
      parts = unfold ◌+F◌ in record { le = lit≤ tt }

  pub affine_close : Linear m n o X Y (frac 16384 1) → abs_f (linear_f m n o X Y) ≤F frac 16384 1
      → Close (linear m n o x y) (linear_f m n o X Y) (frac 1 (2 ^ 37)) (frac 16385 1)
  affine_close L h = close_size (frac 16384 1) (frac 16385 1) (linear_terms L) h small
    where
      small : frac 16384 1 +F frac 1 (2 ^ 37) ≤F frac 16385 1
      small = unfold ◌+F◌ in record { le = lit≤ tt }

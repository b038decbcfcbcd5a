-- Coefficients that meet the conditions of the exact chain, at the pixel (0, 1), for each of the three kinds, so that
-- no premise of the laws is empty: 1, 1, 1, 2, 2, 3, 2, 2, 3. Assumes nothing.
use mathlib.Core.Bool.{false}
use mathlib.Core.List.{[], ◌∷◌}
use Prim.Native.Nat.{ℕ, zero, suc, ◌<◌}
use native.Mathlib.Omega.{arith}
use lib.Dec.{T, lit≤}
use lib.IntN.{pos}
use lib.Ieee.{Float, fin}
use lib.Ieee.Scale.{finite}
use Rattle.exact.specs.Fraction.{Fraction, frac, value, ◌≤F◌, ◌+F◌, ◌*F◌, ◌/F◌, abs_f}
use Rattle.exact.specs.Loop.{up_to, turns}
use Rattle.exact.specs.Sums.{asked, asked_f}
use Rattle.exact.specs.Vector.{Vector}
use Rattle.inverse.specs.Polynomial.{of_u, of_v}
use Rattle.inverse.specs.Inverse.{inverse}
use Rattle.mappings.specs.declared.mapping.Kind.{Kind}
use Rattle.chain.specs.ExactPoint.{monomials_f, power_at, exact_point}
use Rattle.chain.specs.Conditions.{TermsMeet, Meets, Faithful}
use Rattle.chain.proofs.PointNear.{asked_near}

abbrev one : Float
one = fin false 1 (pos 0)

abbrev two : Float
two = fin false 1 (pos 1)

abbrev three : Float
three = fin false 3 (pos 0)

abbrev m : Vector
m = one ∷ one ∷ one ∷ two ∷ two ∷ three ∷ two ∷ two ∷ three ∷ []

abbrev X : Fraction
X = asked_f 0 (pos 0)

abbrev Y : Fraction
Y = asked_f 1 (pos 0)

pub affine_meets : Meets Kind.Affine 0 m X Y
unfolding TermsMeet exact_point abs_f ◌*F◌ ◌+F◌
affine_meets = record {
  terms = record {
    u = record {
      number_m = tt;
      number_n = tt;
      number_o = tt;
      term_x = record { le = lit≤ tt };
      term_y = record { le = lit≤ tt };
      term_1 = record { le = lit≤ tt };
    };
    v = record {
      number_m = tt;
      number_n = tt;
      number_o = tt;
      term_x = record { le = lit≤ tt };
      term_y = record { le = lit≤ tt };
      term_1 = record { le = lit≤ tt };
    };
  };
  u = record { le = lit≤ tt };
  v = record { le = lit≤ tt };
}

pub perspective_meets : Meets Kind.Perspective 0 m X Y
unfolding TermsMeet exact_point abs_f ◌*F◌ ◌+F◌ ◌/F◌
perspective_meets = record {
  terms = record {
    u = record {
      number_m = tt;
      number_n = tt;
      number_o = tt;
      term_x = record { le = lit≤ tt };
      term_y = record { le = lit≤ tt };
      term_1 = record { le = lit≤ tt };
    };
    v = record {
      number_m = tt;
      number_n = tt;
      number_o = tt;
      term_x = record { le = lit≤ tt };
      term_y = record { le = lit≤ tt };
      term_1 = record { le = lit≤ tt };
    };
    w = record {
      number_m = tt;
      number_n = tt;
      number_o = tt;
      term_x = record { le = lit≤ tt };
      term_y = record { le = lit≤ tt };
      term_1 = record { le = lit≤ tt };
    };
    least = record { le = lit≤ tt };
  };
  u = record { le = lit≤ tt };
  v = record { le = lit≤ tt };
}

-- 1 + x + y + 2 x y and 2 + 3 x + 2 y + 2 x y: the terms 1, x, y and x y are four
four : (P : ℕ → Type 0) → P 0 → P 1 → P 2 → P 3 → (k : ℕ) → k < 4 → P k
four P a b c d zero h = a
four P a b c d (suc zero) h = b
four P a b c d (suc (suc zero)) h = c
four P a b c d (suc (suc (suc zero))) h = d
four P a b c d (suc (suc (suc (suc k)))) h = absurd (past k h)
  where
    past : (k : ℕ) → suc (suc (suc (suc k))) < 4 → ⊥
    past k h = omega arith

pub polynomial_meets : Meets Kind.Poly 0 m X Y
unfolding TermsMeet exact_point abs_f ◌*F◌ ◌+F◌ monomials_f up_to turns
polynomial_meets = record {
  terms = (
    record {
      number = four (λ (k : ℕ). T (finite (of_u m k))) tt tt tt tt;
      size = four (λ (k : ℕ). abs_f (power_at 0 X Y k *F value (of_u m k)) ≤F frac 16384 1) (record { le = lit≤ tt })
          (record { le = lit≤ tt }) (record { le = lit≤ tt }) (record { le = lit≤ tt });
    },
    record {
      number = four (λ (k : ℕ). T (finite (of_v m 4 k))) tt tt tt tt;
      size = four (λ (k : ℕ). abs_f (power_at 0 X Y k *F value (of_v m 4 k)) ≤F frac 16384 1) (record { le = lit≤ tt })
          (record { le = lit≤ tt }) (record { le = lit≤ tt }) (record { le = lit≤ tt });
    },
  );
  u = record { le = lit≤ tt };
  v = record { le = lit≤ tt };
}

pub polynomial_faithful : Faithful (inverse Kind.Poly 0 8 m (asked 0 (pos 0)) (asked 1 (pos 0))) (exact_point Kind.Poly 0 m X Y)
polynomial_faithful = asked_near 0 1 (pos 0) (pos 0) (lit≤ tt) (lit≤ tt) (lit≤ tt) (lit≤ tt) Kind.Poly 0 8 m polynomial_meets

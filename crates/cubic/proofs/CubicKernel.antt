-- The code's kernel at a float x of at most 2 in magnitude: its tests are the exact ones, since the order of floats is
-- that of their values, so both sides take the same piece, and the pieces' errors are divided by 6. Provides:
-- `Coefficients` (of one row: closed numbers), `catrom_coefficients`, `spline_coefficients`; `same_less` (the
-- tests), `kernel_close` (within 41 parts up to 2). Assumes nothing.
use mathlib.Core.Path.{◌≡◌, refl, sym, subst}
use mathlib.Core.Bool.{Bool, true, false, cond}
use Prim.Native.Nat.{◌^◌}
use lib.Dec.{T, lit≤}
use lib.Ieee.{Float, binary32, neg, of_bits, lt}
use lib.Ieee.Scale.{finite}
use Rattle.exact.specs.Fraction.{Fraction, frac, value, ◌≤F◌, ◌<F◌, ◌≈◌, neg_f, ◌+F◌, ◌-F◌, ◌*F◌, abs_f, distance}
use Rattle.exact.specs.Rounds.{Close}
use Rattle.exact.specs.Single.{◌⊘◌}
use Rattle.exact.proofs.Near.{le_refl, le_trans, lt_le, eq_le}
use Rattle.exact.proofs.Products.{eq_refl, back, mul_same, lt_le_trans, le_lt_trans}
use Rattle.exact.proofs.Magnitude.{abs_alike}
use Rattle.exact.proofs.NearProducts.{abs_self, abs_nonneg}
use Rattle.exact.proofs.Operands.{same_test}
use Rattle.exact.proofs.Signed.{lt_value}
use Rattle.exact.proofs.Steps.{close_more, close_along}
use Rattle.exact.proofs.Sums.{step_fine}
use Rattle.number.specs.Magnitude.{abs}
use Rattle.cubic.specs.declared.cubic.CubicRow.{CubicRow}
use Rattle.cubic.specs.Cubic.{
  zero,
  one,
  two,
  six,
  catrom_row,
  spline_row,
  near_piece,
  far_piece,
  pieces,
  kernel,
}
use Rattle.cubic.specs.Mitchell.{less_f, near3, near2, near0, near_f, far3, far2, far1, far0, far_f, mitchell}
use Rattle.cubic.proofs.Sizes.{abs_magnitude}
use Rattle.cubic.proofs.CubicExact.{less_true, true_less, alike_near, alike_far}
use Rattle.cubic.proofs.CubicPieces.{parts, near_close, far_close, sixth_close}

-- ---- a row's numbers are the exact formula's with B and C, and of these sizes
pub record Coefficients (row : CubicRow) (B C : Fraction) : Type 0 where
  pub near_3 : Close row.near3 (near3 B C) (frac 0 1) (frac 16 1)
  pub near_2 : Close row.near2 (near2 B C) (frac 0 1) (frac 16 1)
  pub near_0 : Close row.near0 (near0 B) (frac 0 1) (frac 8 1)
  pub far_3 : Close row.far3 (far3 B C) (frac 0 1) (frac 4 1)
  pub far_2 : Close row.far2 (far2 B C) (frac 0 1) (frac 16 1)
  pub far_1 : Close row.far1 (far1 B C) (frac 0 1) (frac 32 1)
  pub far_0 : Close row.far0 (far0 B C) (frac 0 1) (frac 16 1)

pub catrom_coefficients : Coefficients catrom_row (frac 0 1) (frac 1 2)
unfolding neg of_bits neg_f ◌+F◌ ◌-F◌ ◌*F◌ abs_f distance
catrom_coefficients = record {
  near_3 = record { number = tt; near = record { le = lit≤ tt }; small = record { le = lit≤ tt } };
  near_2 = record { number = tt; near = record { le = lit≤ tt }; small = record { le = lit≤ tt } };
  near_0 = record { number = tt; near = record { le = lit≤ tt }; small = record { le = lit≤ tt } };
  far_3 = record { number = tt; near = record { le = lit≤ tt }; small = record { le = lit≤ tt } };
  far_2 = record { number = tt; near = record { le = lit≤ tt }; small = record { le = lit≤ tt } };
  far_1 = record { number = tt; near = record { le = lit≤ tt }; small = record { le = lit≤ tt } };
  far_0 = record { number = tt; near = record { le = lit≤ tt }; small = record { le = lit≤ tt } };
}

pub spline_coefficients : Coefficients spline_row (frac 1 1) (frac 0 1)
unfolding neg of_bits neg_f ◌+F◌ ◌-F◌ ◌*F◌ abs_f distance
spline_coefficients = record {
  near_3 = record { number = tt; near = record { le = lit≤ tt }; small = record { le = lit≤ tt } };
  near_2 = record { number = tt; near = record { le = lit≤ tt }; small = record { le = lit≤ tt } };
  near_0 = record { number = tt; near = record { le = lit≤ tt }; small = record { le = lit≤ tt } };
  far_3 = record { number = tt; near = record { le = lit≤ tt }; small = record { le = lit≤ tt } };
  far_2 = record { number = tt; near = record { le = lit≤ tt }; small = record { le = lit≤ tt } };
  far_1 = record { number = tt; near = record { le = lit≤ tt }; small = record { le = lit≤ tt } };
  far_0 = record { number = tt; near = record { le = lit≤ tt }; small = record { le = lit≤ tt } };
}

-- ---- the tests
module _ (x : Float) (t : T (finite x)) where
  pub same_less : (y : Float) → T (finite y) → (n : Fraction) → value y ≈ n → lt (abs x) y ≡ less_f (abs_f (value x)) n
  same_less y u n e =
      let m = abs_magnitude x t in
      same_test (lt (abs x) y) (less_f (abs_f (value x)) n)
      (λ h. true_less (abs_f (value x)) n (lt_same m.1 e ((lt_value (abs x) y m.0 u).0 h)))
      (λ h. (lt_value (abs x) y m.0 u).1 (lt_same (back m.1) (back e) (less_true (abs_f (value x)) n h)))
    where
      lt_same : {a a' b b' : Fraction} → a ≈ a' → b ≈ b' → a <F b → a' <F b'
      lt_same {a} {a'} {b} {b'} h k l = lt_le_trans (le_lt_trans (eq_le a' a (back h)) l) (eq_le b b' k)

  module _ {row : CubicRow} {B C : Fraction} (K : Coefficients row B C) where
    abbrev size : Fraction
    size = abs_f (value x)

    own_size : abs_f (value (abs x)) ≤F size
    own_size = let m = abs_magnitude x t in
        le_trans (abs_f (value (abs x))) (abs_f size) size (abs_alike (value (abs x)) size m.1)
        (abs_self size (abs_nonneg (value x) size (le_refl size size)))

    near_sixth : size ≤F frac 1 1
        → Close (near_piece row (abs x) ⊘ six) (frac 1 6 *F near_f B C size) (parts 41) (frac 128 1)
    near_sixth h =
        let m = abs_magnitude x t in
        close_more error (record { le = lit≤ tt })
        (close_along (mul_same (eq_refl (frac 1 6)) (alike_near (near3 B C) (near2 B C) (near0 B) m.1))
        (sixth_close (step_fine binary32 153 16 1 2 (2 ^ 22) tt)
        (near_close row (abs x) m.0 K.near_3 K.near_2 K.near_0
        (le_trans (abs_f (value (abs x))) size (frac 1 1) own_size h)) room))
      where
        room : frac 1 6 *F frac 64 1 ≤F frac 16 1
        room = unfold ◌*F◌ in record { le = lit≤ tt }

        error : parts 2 +F frac 1 6 *F parts 22 ≤F parts 41
        error = unfold ◌+F◌ ◌*F◌ in record { le = lit≤ tt }

    far_sixth : size ≤F frac 2 1
        → Close (far_piece row (abs x) ⊘ six) (frac 1 6 *F far_f B C size) (parts 41) (frac 128 1)
    far_sixth h =
        let m = abs_magnitude x t in
        close_more error (le_refl (frac 128 1) (frac 128 1))
        (close_along (mul_same (eq_refl (frac 1 6)) (alike_far (far3 B C) (far2 B C) (far1 B C) (far0 B C) m.1))
        (sixth_close (step_fine binary32 156 128 1 16 (2 ^ 22) tt)
        (far_close row (abs x) m.0 K.far_3 K.far_2 K.far_1 K.far_0
        (le_trans (abs_f (value (abs x))) size (frac 2 1) own_size h)) room))
      where
        room : frac 1 6 *F frac 512 1 ≤F frac 128 1
        room = unfold ◌*F◌ in record { le = lit≤ tt }

        error : parts 16 +F frac 1 6 *F parts 148 ≤F parts 41
        error = unfold ◌+F◌ ◌*F◌ in record { le = lit≤ tt }

    none_sixth : Close (zero ⊘ six) (frac 1 6 *F frac 0 1) (parts 41) (frac 128 1)
    none_sixth =
        close_more error (le_refl (frac 128 1) (frac 128 1))
        (sixth_close (step_fine binary32 156 128 1 16 (2 ^ 22) tt) nought room)
      where
        nought : Close zero (frac 0 1) (frac 0 1) (frac 0 1)
        nought = unfold of_bits abs_f distance ◌-F◌ in
            record { number = tt; near = record { le = lit≤ tt }; small = record { le = lit≤ tt } }

        room : frac 1 6 *F frac 0 1 ≤F frac 128 1
        room = unfold ◌*F◌ in record { le = lit≤ tt }

        error : parts 16 +F frac 1 6 *F frac 0 1 ≤F parts 41
        error = unfold ◌+F◌ ◌*F◌ in record { le = lit≤ tt }

    pub kernel_close : size ≤F frac 2 1 → Close (kernel row x) (mitchell B C (value x)) (parts 41) (frac 128 1)
    unfolding pieces mitchell
    kernel_close h =
        subst (λ (s : Bool). Close
        (cond s (near_piece row (abs x)) (cond (lt (abs x) two) (far_piece row (abs x)) zero) ⊘ six)
        (mitchell B C (value x)) (parts 41) (frac 128 1)) (sym below_one)
        (subst (λ (s : Bool). Close
        (cond (less_f size (frac 1 1)) (near_piece row (abs x)) (cond s (far_piece row (abs x)) zero) ⊘ six)
        (mitchell B C (value x)) (parts 41) (frac 128 1)) (sym below_two)
        (go (less_f size (frac 1 1)) (less_f size (frac 2 1)) (less_true size (frac 1 1))))
      where
        below_one : lt (abs x) one ≡ less_f size (frac 1 1)
        below_one = same_less one (unfold of_bits in tt) (frac 1 1) (unfold of_bits in record { eq = refl })

        below_two : lt (abs x) two ≡ less_f size (frac 2 1)
        below_two = same_less two (unfold of_bits in tt) (frac 2 1) (unfold of_bits in record { eq = refl })

        go : (s u : Bool) → (T s → size <F frac 1 1)
            → Close (cond s (near_piece row (abs x)) (cond u (far_piece row (abs x)) zero) ⊘ six)
            (frac 1 6 *F cond s (near_f B C size) (cond u (far_f B C size) (frac 0 1))) (parts 41) (frac 128 1)
        go true u k = near_sixth (lt_le size (frac 1 1) (k tt))
        go false true k = far_sixth h
        go false false k = none_sixth

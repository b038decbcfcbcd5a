-- The inner piece, divided by 6, is at most 1 in the code's arithmetic too, since rounding keeps the order: the cubic
-- term is no larger than the square one, to which it is added with the other sign, so their sum is not above 0, and the
-- constant is at most 6. Provides: `near_top`. Assumes nothing.
use mathlib.Core.List.{[], ◌∷◌}
use Prim.Native.Nat.{◌^◌}
use native.Mathlib.Omega.{arith}
use lib.Dec.{T, lit≤}
use lib.Ieee.{Float, binary32, of_bits, fits}
use lib.Ieee.Scale.{finite}
use Rattle.exact.specs.Fraction.{Fraction, frac, value, ◌≤F◌, neg_f, ◌+F◌, ◌*F◌, abs_f, Unit01}
use Rattle.exact.specs.Single.{◌⊕◌, ◌⊗◌, ◌⊘◌}
use Rattle.exact.proofs.Scale.{at_le, le_at, at_neg, at_add, common}
use Rattle.exact.proofs.Near.{le_refl, le_trans, add_mono}
use Rattle.exact.proofs.Products.{eq_refl, at_zero, mul_zero, mul_one, mul_comm, mul_le, le_same}
use Rattle.exact.proofs.NearProducts.{abs_at, at_abs_le, abs_unit, abs_mul}
use Rattle.exact.proofs.Factors.{mul_abs}
use Rattle.exact.proofs.Monotone.{rounds_abs, rounds_no_larger, rounds_fits, rounds_nonpos, rounds_at_most}
use Rattle.exact.proofs.Operations.{add_rounds, mul_rounds}
use Rattle.exact.proofs.Sums.{step_fine}
use Rattle.cubic.specs.declared.cubic.CubicRow.{CubicRow}
use Rattle.cubic.specs.Cubic.{one, six, near_piece}
use Rattle.cubic.specs.Bounded.{Bounded}
use Rattle.cubic.proofs.Sizes.{mul_bounded, add_bounded}
use Rattle.cubic.proofs.CubicPieces.{sixth_rounds}

-- ---- the order of the roundings
-- |a x| ≤ |b x| where |a| ≤ |b|, also when each is rounded
mul_larger : (a b x : Float) → T (finite a) → T (finite b) → T (finite x) → T (finite (a ⊗ x)) → T (finite (b ⊗ x))
    → abs_f (value a) ≤F abs_f (value b) → abs_f (value (a ⊗ x)) ≤F abs_f (value (b ⊗ x))
mul_larger a b x p q t u w h =
    rounds_abs (mul_rounds binary32 a x p t) (mul_rounds binary32 b x q t) u w
    (le_trans (abs_f (value a *F value x)) (abs_f (value b) *F abs_f (value x)) (abs_f (value b *F value x))
    (abs_mul (value a) (value x) (abs_f (value b)) (abs_f (value x)) h (le_refl (abs_f (value x)) (abs_f (value x))))
    (mul_abs (value b) (value x)))

-- |a x| ≤ |a| where |x| ≤ 1, for a product a
mul_smaller : (a x : Float) → T (finite a) → T (fits binary32 a) → T (finite x) → abs_f (value x) ≤F frac 1 1
    → abs_f (value (a ⊗ x)) ≤F abs_f (value a)
mul_smaller a x p f t h =
    (rounds_no_larger (mul_rounds binary32 a x p t) a f p
    (le_same (eq_refl (abs_f (value a *F value x))) (mul_one (abs_f (value a)))
    (abs_mul (value a) (value x) (abs_f (value a)) (frac 1 1) (le_refl (abs_f (value a)) (abs_f (value a))) h))).1

-- a x ≤ 0 where a ≤ 0 ≤ x
mul_nonpos : (a x : Float) → T (finite a) → T (finite x) → T (finite (a ⊗ x)) → value a ≤F frac 0 1
    → frac 0 1 ≤F value x → value (a ⊗ x) ≤F frac 0 1
mul_nonpos a x p t u h k =
    rounds_nonpos (mul_rounds binary32 a x p t) u
    (le_same (mul_comm (value x) (value a)) (mul_zero (value x)) (mul_le k h))

-- x + y ≤ 0 where |x| ≤ |y| and y ≤ 0
opposite : (x y : Fraction) → abs_f x ≤F abs_f y → y ≤F frac 0 1 → x +F y ≤F frac 0 1
opposite x y h k =
    common (x ∷ y ∷ [])
    (λ D D0 ((_, _, X), ((_, _, Y), _)).
    let a = le_at D D0 Y (at_zero D) k in
    let b = abs_at D D0 X (at_neg Y)
    (le_trans (abs_f x) (abs_f y) (neg_f y) h (at_abs_le D D0 Y (at_neg Y) (omega arith) (omega arith))) in
    at_le D D0 (at_add X Y) (at_zero D) (omega arith))

-- ---- the inner piece, divided by 6, is at most 1
module _ (row : CubicRow) (ax : Float) (A : Bounded (frac 16 1) row.near3) (B : Bounded (frac 16 1) row.near2)
    (D : Bounded (frac 8 1) row.near0) (t : T (finite ax)) (u : Unit01 (value ax))
    (larger : abs_f (value row.near3) ≤F abs_f (value row.near2)) (down : value row.near2 ≤F frac 0 1)
    (last : value row.near0 ≤F frac 6 1) where
  abbrev a : Float
  a = row.near3

  abbrev b : Float
  b = row.near2

  abbrev d : Float
  d = row.near0

  times : (x : Float) → Bounded (frac 16 1) x → Bounded (frac 16 1) (x ⊗ ax)
  times x p =
      mul_bounded (step_fine binary32 153 16 1 2 (2 ^ 22) tt) p (record { number = t; size = abs_unit (value ax) u })
      room
    where
      room : frac 16 1 *F frac 1 1 ≤F frac 16 1
      room = unfold ◌*F◌ in record { le = lit≤ tt }

  a1 : Bounded (frac 16 1) (a ⊗ ax)
  a1 = times a A

  a2 : Bounded (frac 16 1) (a ⊗ ax ⊗ ax)
  a2 = times (a ⊗ ax) a1

  a3 : Bounded (frac 16 1) (a ⊗ ax ⊗ ax ⊗ ax)
  a3 = times (a ⊗ ax ⊗ ax) a2

  b1 : Bounded (frac 16 1) (b ⊗ ax)
  b1 = times b B

  b2 : Bounded (frac 16 1) (b ⊗ ax ⊗ ax)
  b2 = times (b ⊗ ax) b1

  sum_two : Bounded (frac 32 1) (a ⊗ ax ⊗ ax ⊗ ax ⊕ b ⊗ ax ⊗ ax)
  sum_two = add_bounded (step_fine binary32 154 32 1 4 (2 ^ 22) tt) a3 b2 (unfold ◌+F◌ in record { le = lit≤ tt })

  sum_three : Bounded (frac 64 1) (near_piece row ax)
  sum_three = add_bounded (step_fine binary32 155 64 1 8 (2 ^ 22) tt) sum_two D (unfold ◌+F◌ in record { le = lit≤ tt })

  two_nonpos : value (a ⊗ ax ⊗ ax ⊗ ax ⊕ b ⊗ ax ⊗ ax) ≤F frac 0 1
  two_nonpos =
      rounds_nonpos (add_rounds binary32 (a ⊗ ax ⊗ ax ⊗ ax) (b ⊗ ax ⊗ ax) a3.number b2.number) sum_two.number
      (opposite (value (a ⊗ ax ⊗ ax ⊗ ax)) (value (b ⊗ ax ⊗ ax))
      (le_trans (abs_f (value (a ⊗ ax ⊗ ax ⊗ ax))) (abs_f (value (a ⊗ ax ⊗ ax))) (abs_f (value (b ⊗ ax ⊗ ax)))
      (mul_smaller (a ⊗ ax ⊗ ax) ax a2.number (rounds_fits (mul_rounds binary32 (a ⊗ ax) ax a1.number t)) t
      (abs_unit (value ax) u))
      (mul_larger (a ⊗ ax) (b ⊗ ax) ax a1.number b1.number t a2.number b2.number
      (mul_larger a b ax A.number B.number t a1.number b1.number larger)))
      (mul_nonpos (b ⊗ ax) ax b1.number t b2.number (mul_nonpos b ax B.number t b1.number down u.0)
      u.0))

  six_fits : T (fits binary32 six)
  six_fits = unfold of_bits fits in tt

  one_fits : T (fits binary32 one)
  one_fits = unfold of_bits fits in tt

  pub near_top : T (finite (near_piece row ax ⊘ six)) → value (near_piece row ax ⊘ six) ≤F frac 1 1
  near_top f =
      let s = a ⊗ ax ⊗ ax ⊗ ax ⊕ b ⊗ ax ⊗ ax in
      let v = near_piece row ax in
      let q : value v ≤F value six =
      rounds_at_most (add_rounds binary32 s d sum_two.number D.number) six six_fits (unfold of_bits in tt)
      sum_three.number
      (le_trans (value s +F value d) (frac 0 1 +F frac 6 1) (value six)
      (add_mono (value s) (frac 0 1) (value d) (frac 6 1) two_nonpos last) (unfold of_bits ◌+F◌ in
      record { le = lit≤ tt })) in
      le_trans (value (v ⊘ six)) (value one) (frac 1 1)
      (rounds_at_most (sixth_rounds v sum_three.number) one one_fits (unfold of_bits in tt) f
      (le_trans (frac 1 6 *F value v) (frac 1 6 *F value six) (value one) (mul_le (record { le = lit≤ tt }) q)
      (unfold of_bits ◌*F◌ in record { le = lit≤ tt })))
      (unfold of_bits in record { le = lit≤ tt })

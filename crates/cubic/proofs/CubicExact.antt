-- The exact kernel: its test is the order of fractions; its pieces meet at 1 and the outer one ends in 0 at 2, so that
-- each piece may be used with both ends of its range. Provides: `less_true`, `less_not` (the test), `alike_near`,
-- `alike_far` (equal arguments), `mitchell_near` (up to 1), `mitchell_far` (from 1 to 2). Assumes nothing.
use mathlib.Core.Path.{◌≡◌, sym, subst}
use mathlib.Core.List.{[], ◌∷◌}
use mathlib.Core.Bool.{Bool, true, false, not, cond}
use Prim.Native.Nat.{ℕ, ◌+◌, ◌*◌}
use native.Mathlib.Nat.{mul-pos, zero-lt-suc, lt_irrefl}
use native.Mathlib.Omega.{arith}
use lib.Dec.{T, ltb→lt, nltb→le, lt→ltb, lit<}
use lib.Ieee.Bits.{is_true}
use Rattle.exact.specs.Fraction.{Fraction, over, frac, ◌≤F◌, ◌<F◌, ◌≈◌, ◌+F◌, ◌*F◌, abs_f}
use Rattle.exact.proofs.Scale.{At, at_eq, at_more, at_neg, at_add, at_sub, at_mul, common}
use Rattle.exact.proofs.Near.{le_antisym, add_same}
use Rattle.exact.proofs.Products.{eq_refl, ◌⨟◌, back, at_zero, at_one, at_count, mul_same, lt_le_trans, le_lt_trans}
use Rattle.cubic.specs.Mitchell.{
  less_f,
  times,
  without_linear_f,
  with_linear_f,
  near3,
  near2,
  near0,
  near_f,
  far3,
  far2,
  far1,
  far0,
  far_f,
  mitchell,
}

-- ---- the test
pub less_true : (x y : Fraction) → T (less_f x y) → x <F y
unfolding less_f
less_true x y t = record { lt = ltb→lt (x.plus * over y + y.minus * over x) (y.plus * over x + x.minus * over y) t }

pub true_less : (x y : Fraction) → x <F y → T (less_f x y)
unfolding less_f
true_less x y h = lt→ltb (x.plus * over y + y.minus * over x) (y.plus * over x + x.minus * over y) h.lt

pub less_not : (x y : Fraction) → T (not (less_f x y)) → y ≤F x
unfolding less_f
less_not x y t = record { le = nltb→le (x.plus * over y + y.minus * over x) (y.plus * over x + x.minus * over y) t }

-- ---- equal arguments
square_same : {x y : Fraction} → x ≈ y → x *F x ≈ y *F y
square_same h = mul_same h h

cube_same : {x y : Fraction} → x ≈ y → x *F x *F x ≈ y *F y *F y
cube_same h = mul_same (square_same h) h

pub alike_near : (a b d : Fraction) {x y : Fraction} → x ≈ y → without_linear_f a b d x ≈ without_linear_f a b d y
alike_near a b d {x} {y} h =
    add_same (a *F (x *F x *F x) +F b *F (x *F x)) (a *F (y *F y *F y) +F b *F (y *F y)) d d
    (add_same (a *F (x *F x *F x)) (a *F (y *F y *F y)) (b *F (x *F x)) (b *F (y *F y))
    (mul_same (eq_refl a) (cube_same h)) (mul_same (eq_refl b) (square_same h)))
    (eq_refl d)

pub alike_far : (a b c d : Fraction) {x y : Fraction} → x ≈ y → with_linear_f a b c d x ≈ with_linear_f a b c d y
alike_far a b c d {x} {y} h =
    add_same (a *F (x *F x *F x) +F b *F (x *F x) +F c *F x) (a *F (y *F y *F y) +F b *F (y *F y) +F c *F y) d d
    (add_same (a *F (x *F x *F x) +F b *F (x *F x)) (a *F (y *F y *F y) +F b *F (y *F y)) (c *F x) (c *F y)
    (add_same (a *F (x *F x *F x)) (a *F (y *F y *F y)) (b *F (x *F x)) (b *F (y *F y))
    (mul_same (eq_refl a) (cube_same h)) (mul_same (eq_refl b) (square_same h)))
    (mul_same (eq_refl c) h))
    (eq_refl d)

-- ---- where the pieces meet
-- n x at the scale of x, for a numeral n
at_times : {D : ℕ} (n : ℕ) {x : Fraction} {p m : ℕ} → At D x p m → At D (times n x) (n * p) (n * m)
at_times {D} n {x} {p} {m} X = record { at = go (at_mul (at_count 1 n) X).at }
  where
    go : (times n x).plus * (1 * D) + (n * 1 * m + 0 * p) * over (times n x) ≡ (n * 1 * p + 0 * m) * over (times n x) +
        (times n x).minus * (1 * D)
        → (times n x).plus * D + n * m * over (times n x) ≡ n * p * over (times n x) + (times n x).minus * D
    go h = flat (times n x).plus (times n x).minus (over (times n x)) D n p m h
      where
        flat : (a b o D n p m : ℕ) → a * (1 * D) + (n * 1 * m + 0 * p) * o ≡ (n * 1 * p + 0 * m) * o + b * (1 * D)
            → a * D + n * m * o ≡ n * p * o + b * D
        flat a b o D n p m h = omega arith

module _ (B C : Fraction) where
  abbrev one : Fraction
  one = frac 1 1

  abbrev two : Fraction
  two = frac 2 1

  -- both are B at 1
  near_one : near_f B C one ≈ B
  near_one =
      common (B ∷ C ∷ [])
      (λ D D0 ((_, _, X), ((_, _, Y), _)).
      let i = at_one 1 in
      at_eq (D * 1) (mul-pos D0 (zero-lt-suc 0))
      (at_add
      (at_add (at_mul (at_sub (at_sub (at_count D 12) (at_times 9 X)) (at_times 6 Y)) (at_mul (at_mul i i) i))
      (at_mul (at_add (at_add (at_neg (at_count D 18)) (at_times 12 X)) (at_times 6 Y)) (at_mul i i)))
      (at_more D 1 (at_sub (at_count D 6) (at_times 2 X))))
      (at_more D 1 X) (omega arith))

  far_one : far_f B C one ≈ B
  far_one =
      common (B ∷ C ∷ [])
      (λ D D0 ((_, _, X), ((_, _, Y), _)).
      let i = at_one 1 in
      at_eq (D * 1) (mul-pos D0 (zero-lt-suc 0))
      (at_add
      (at_add
      (at_add (at_mul (at_sub (at_neg X) (at_times 6 Y)) (at_mul (at_mul i i) i))
      (at_mul (at_add (at_times 6 X) (at_times 30 Y)) (at_mul i i)))
      (at_mul (at_sub (at_neg (at_times 12 X)) (at_times 48 Y)) i))
      (at_more D 1 (at_add (at_times 8 X) (at_times 24 Y))))
      (at_more D 1 X) (omega arith))

  far_two : far_f B C two ≈ frac 0 1
  far_two =
      common (B ∷ C ∷ [])
      (λ D D0 ((_, _, X), ((_, _, Y), _)).
      let i = at_count 1 2 in
      at_eq (D * 1) (mul-pos D0 (zero-lt-suc 0))
      (at_add
      (at_add
      (at_add (at_mul (at_sub (at_neg X) (at_times 6 Y)) (at_mul (at_mul i i) i))
      (at_mul (at_add (at_times 6 X) (at_times 30 Y)) (at_mul i i)))
      (at_mul (at_sub (at_neg (at_times 12 X)) (at_times 48 Y)) i))
      (at_more D 1 (at_add (at_times 8 X) (at_times 24 Y))))
      (at_zero (D * 1)) (omega arith))

  -- ---- each piece with both ends
  abbrev sixth : Fraction → Fraction
  sixth v = frac 1 6 *F v

  module _ (x : Fraction) where
    abbrev ax : Fraction
    ax = abs_f x

    abbrev pick : Bool → Bool → Fraction
    pick s t = sixth (cond s (near_f B C ax) (cond t (far_f B C ax) (frac 0 1)))

    pub mitchell_near : ax ≤F one → mitchell B C x ≈ sixth (near_f B C ax)
    unfolding mitchell
    mitchell_near h = go (less_f ax one) (less_not ax one)
      where
        go : (s : Bool) → (T (not s) → one ≤F ax) → pick s (less_f ax two) ≈ sixth (near_f B C ax)
        go true k = eq_refl (sixth (near_f B C ax))
        go false k =
            let e : ax ≈ one = le_antisym ax one h (k tt) in
            subst (λ (t : Bool). pick false t ≈ sixth (near_f B C ax))
            (sym (is_true (less_f ax two) (true_less ax two (le_lt_trans h (record { lt = lit< tt })))))
            (mul_same (eq_refl (frac 1 6))
            (alike_far (far3 B C) (far2 B C) (far1 B C) (far0 B C) e ⨟ far_one ⨟ back near_one ⨟ back
            (alike_near (near3 B C) (near2 B C) (near0 B) e)))

    pub mitchell_far : one ≤F ax → ax ≤F two → mitchell B C x ≈ sixth (far_f B C ax)
    unfolding mitchell
    mitchell_far h l = go (less_f ax one) (less_true ax one)
      where
        last : (t : Bool) → (T (not t) → two ≤F ax) → pick false t ≈ sixth (far_f B C ax)
        last true k = eq_refl (sixth (far_f B C ax))
        last false k = mul_same (eq_refl (frac 1 6))
            (back (alike_far (far3 B C) (far2 B C) (far1 B C) (far0 B C) (le_antisym ax two l (k tt)) ⨟ far_two))

        go : (s : Bool) → (T s → ax <F one) → pick s (less_f ax two) ≈ sixth (far_f B C ax)
        go true k = absurd (lt_irrefl _ (lt_le_trans (k tt) h).lt)
        go false k = last (less_f ax two) (less_not ax two)

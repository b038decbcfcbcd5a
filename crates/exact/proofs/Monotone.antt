-- Rounding keeps the order of exact fractions, both signs and both zeros included, and a float of the format is the
-- rounding of itself. So a float bounds what rounds to it from the side on which it bounds the exact value, and a value
-- that the format holds comes out unchanged. Provides, of `Rounds f r X`: `rounds_mono`, `rounds_abs`, `rounds_finite`
-- (from a larger one's), `rounds_value` (one X, one value); `rounds_own`; `rounds_at_most`, `rounds_at_least`,
-- `rounds_no_larger`, `rounds_exact` (against a float that fits); `rounds_fixed` (X is q 2 ^ j units); `rounds_nonneg`,
-- `rounds_nonpos`, `rounds_fits`. Assumes nothing.
use mathlib.Core.Path.{◌≡◌, refl, sym, ap, ◌∙◌, subst}
use mathlib.Core.Bool.{Bool, true, false, cond}
use Prim.Native.Nat.{ℕ, ◌*◌, ◌^◌, ◌≤◌, ◌<◌}
use native.Mathlib.Nat.{le_of_eq, lt_of_le_of_lt, le_trans, mul_comm, mul_right_comm, mul-le-mul_right, mul-pos}
use native.Mathlib.Omega.{arith}
use lib.IntN.{pos}
use lib.Dec.{T}
use lib.Pow.{pow_pos}
use lib.Ieee.{Float, nan, inf, fin, Format, prec, low, up, down, round, fits}
use lib.Ieee.Fits.{down_pos, round-fits}
use lib.Ieee.Order.{drop, kept}
use lib.Ieee.Scale.{grid, overflow, finite}
use Rattle.exact.specs.Fraction.{Fraction, frac, value, ◌≤F◌, ◌≈◌, abs_f}
use Rattle.exact.specs.Rounds.{signed_f, Rounds}
use Rattle.exact.proofs.Scale.{At, at_le, le_at}
use Rattle.exact.proofs.Near.{eq_le, eq_sym, eq_trans, le_antisym}
use Rattle.exact.proofs.GridOrder.{grid_mono, grid_zero}
use Rattle.exact.proofs.Signed.{Lower, Level, eq_signed}
use Rattle.exact.proofs.Magnitude.{Sized, sized_same, sized_more, size_le, le_size, abs_sized, abs_alike}
use Rattle.exact.proofs.Held.{round_held}
use Rattle.exact.proofs.Formats.{prec_pos}
use Rattle.exact.proofs.RoundedValue.{round_under}
use Rattle.exact.proofs.Rounding.{round_finite, round_sized, round_fixed}

-- ---- in units
unit_mono : (f : Format) (a c b d : ℕ) → 0 < c → 0 < d → a * d ≤ b * c → grid f a c ≤ grid f b d
unit_mono f a c b d C D h =
    let L = 2 ^ low f in
    grid_mono (prec f) (a * L) c (b * L) d (prec_pos f) C D
    (le_trans (le_of_eq (mul_right_comm a L d)) (le_trans (mul-le-mul_right L h) (le_of_eq (mul_right_comm b c L))))

unit_zero : (f : Format) (a c d : ℕ) → 0 < c → 0 < d → a * d ≤ 0 → grid f a c ≡ 0
unit_zero f a c d C D h =
    none (grid f a c) (le_trans (unit_mono f a c 0 d C D (le_trans h (le_of_eq (sym (zero c)))))
    (le_of_eq (flat ∙ grid_zero (prec f) d D)))
  where
    zero : (c : ℕ) → 0 * c ≡ 0
    zero c = omega arith

    none : (g : ℕ) → g ≤ 0 → g ≡ 0
    none g h = omega arith

    flat : grid f 0 d ≡ kept (prec f) 0 d * 2 ^ drop (prec f) 0 d
    flat = ap (λ (z : ℕ). kept (prec f) z d * 2 ^ drop (prec f) z d) (zero (2 ^ low f))

-- with g and h the units of a / c and b / d: the order of the signed sizes is that of the signed units
lower : (s : Bool) (x g : ℕ) (t : Bool) (y h : ℕ) → (x ≤ y → g ≤ h) → (y ≤ x → h ≤ g) → (x ≤ 0 → g ≡ 0)
    → (y ≤ 0 → h ≡ 0) → Lower s x t y → Lower s g t h
lower false x g false y h up down gz hz l = let k = up (omega arith) in omega arith
lower true x g true y h up down gz hz l = let k = down (omega arith) in omega arith
lower true x g false y h up down gz hz l = omega arith
lower false x g true y h up down gz hz l = let k = gz (omega arith) in let m = hz (omega arith) in omega arith

level_sizes : (s : Bool) (x : ℕ) (t : Bool) (y : ℕ) → Level s x t y → x ≡ y
level_sizes true x true y e = omega arith
level_sizes true x false y e = omega arith
level_sizes false x true y e = omega arith
level_sizes false x false y e = omega arith

-- ---- one rounding, in units
module _ {f : Format} {r : Float} {X : Fraction} (R : Rounds f r X) where
  exact_sized : Sized R.den X R.sign R.num
  exact_sized = sized_same R.sign R.num R.den R.den_pos R.exact

  value_sized : T (finite r) → Sized (2 ^ low f) (value r) R.sign (grid f R.num R.den)
  value_sized t =
      subst (λ (z : Float). Sized (2 ^ low f) (value z) R.sign (grid f R.num R.den)) (sym R.is)
      (round_sized f R.sign R.num R.den (subst (λ (z : Float). T (finite z)) R.is t))

  pub rounds_fits : T (fits f r)
  rounds_fits = subst (λ (z : Float). T (fits f z)) (sym R.is) (round-fits f R.sign R.num R.den)

  pub rounds_fixed : (t : Bool) (q j : ℕ) → q ≤ 2 ^ prec f → q * 2 ^ j < overflow f
      → X ≈ signed_f t (q * 2 ^ j) (2 ^ low f) → T (finite r) × (value r ≈ X)
  rounds_fixed t q j Q O e =
      let s = R.sign in
      let a = R.num in
      let c = R.den in
      let n : a * 2 ^ low f ≡ q * 2 ^ j * c =
      level_sizes s (a * 2 ^ low f) t (q * 2 ^ j * c)
      (eq_signed s a c t (q * 2 ^ j) (2 ^ low f) R.den_pos (pow_pos (low f))
      (eq_trans (signed_f s a c) X (signed_f t (q * 2 ^ j) (2 ^ low f)) R.exact e)) in
      let w = round_fixed f s a c q j R.den_pos Q O n in
      subst (λ (z : Float). T (finite z) × (value z ≈ X)) (sym R.is)
      (w.0, eq_trans (value (round f s a c)) (signed_f s a c) X w.1 R.exact)

-- ---- two roundings
module _ {f : Format} {r : Float} {X : Fraction} (R : Rounds f r X) {q : Float} {Y : Fraction} (Q : Rounds f q Y) where
  at_both : At (R.den * Q.den) Y (cond Q.sign 0 (Q.num * R.den)) (cond Q.sign (Q.num * R.den) 0)
  at_both =
      subst (λ (z : ℕ). Sized z Y Q.sign (Q.num * R.den)) (mul_comm Q.den R.den)
      (sized_more Q.sign Q.den Q.num R.den (exact_sized Q))

  pub rounds_mono : T (finite r) → T (finite q) → X ≤F Y → value r ≤F value q
  rounds_mono t u h =
      at_le (2 ^ low f) (pow_pos (low f)) (value_sized R t) (value_sized Q u)
      (lower R.sign (R.num * Q.den) (grid f R.num R.den) Q.sign (Q.num * R.den)
      (grid f Q.num Q.den)
      (unit_mono f R.num R.den Q.num Q.den R.den_pos Q.den_pos)
      (unit_mono f Q.num Q.den R.num R.den Q.den_pos R.den_pos)
      (unit_zero f R.num R.den Q.den R.den_pos Q.den_pos)
      (unit_zero f Q.num Q.den R.den Q.den_pos R.den_pos)
      (le_at (R.den * Q.den) (mul-pos R.den_pos Q.den_pos)
      (sized_more R.sign R.den R.num Q.den (exact_sized R)) at_both h))

  -- a smaller size has no more units
  fewer : abs_f X ≤F abs_f Y → grid f R.num R.den ≤ grid f Q.num Q.den
  fewer h =
      let D = R.den * Q.den in
      let D0 : 0 < D = mul-pos R.den_pos Q.den_pos in
      unit_mono f R.num R.den Q.num Q.den R.den_pos Q.den_pos
      (le_size D D0 (abs_sized D D0 R.sign (R.num * Q.den)
      (sized_more R.sign R.den R.num Q.den (exact_sized R)))
      (abs_sized D D0 Q.sign (Q.num * R.den) at_both) h)

  pub rounds_finite : T (finite q) → abs_f X ≤F abs_f Y → T (finite r)
  rounds_finite u h =
      subst (λ (z : Float). T (finite z)) (sym R.is)
      (round_finite f R.sign R.num R.den
      (lt_of_le_of_lt (fewer h)
      (round_under f Q.sign Q.num Q.den (subst (λ (z : Float). T (finite z)) Q.is u))))

  pub rounds_abs : T (finite r) → T (finite q) → abs_f X ≤F abs_f Y → abs_f (value r) ≤F abs_f (value q)
  rounds_abs t u h =
      let L = 2 ^ low f in
      let L0 = pow_pos (low f) in
      size_le L L0 (abs_sized L L0 R.sign (grid f R.num R.den) (value_sized R t))
      (abs_sized L L0 Q.sign (grid f Q.num Q.den) (value_sized Q u)) (fewer h)

-- two roundings of one fraction differ at most in the sign of a zero
pub rounds_value : {f : Format} {r q : Float} {X Y : Fraction} → Rounds f r X → Rounds f q Y → T (finite r)
    → T (finite q) → X ≈ Y → value r ≈ value q
rounds_value {f} {r} {q} {X} {Y} R Q t u e =
    le_antisym (value r) (value q) (rounds_mono R Q t u (eq_le X Y e)) (rounds_mono Q R u t (eq_le Y X (eq_sym X Y e)))

-- ---- against a float that fits
pub rounds_own : (f : Format) (y : Float) → T (fits f y) → T (finite y) → Rounds f y (value y)
rounds_own f nan p t = absurd t
rounds_own f (inf s) p t = absurd t
rounds_own f (fin s m e) p t =
    record {
      sign = s;
      num = m * up e;
      den = down e;
      den_pos = down_pos e;
      is = sym (round_held f (fin s m e) s (m * up e) (down e) (down_pos e) p (refl, refl));
      exact =
          record { eq = refl };
    }

module _ {f : Format} {r : Float} {X : Fraction} (R : Rounds f r X) (y : Float) (p : T (fits f y)) (u : T (finite y))
  where
    pub rounds_at_most : T (finite r) → X ≤F value y → value r ≤F value y
    rounds_at_most t h = rounds_mono R (rounds_own f y p u) t u h

    pub rounds_at_least : T (finite r) → value y ≤F X → value y ≤F value r
    rounds_at_least t h = rounds_mono (rounds_own f y p u) R u t h

    pub rounds_no_larger : abs_f X ≤F abs_f (value y) → T (finite r) × (abs_f (value r) ≤F abs_f (value y))
    rounds_no_larger h = let t = rounds_finite R (rounds_own f y p u) u h in
        (t, rounds_abs R (rounds_own f y p u) t u h)

    pub rounds_exact : X ≈ value y → T (finite r) × (value r ≈ value y)
    rounds_exact e =
        let own = rounds_own f y p u in
        let t = rounds_finite R own u (abs_alike X (value y) e) in
        (t, rounds_value R own t u e)

zero_fits : (f : Format) → T (fits f (fin false 0 (pos 0)))
unfolding fits
zero_fits f = tt

module _ {f : Format} {r : Float} {X : Fraction} (R : Rounds f r X) (t : T (finite r)) where
  pub rounds_nonneg : frac 0 1 ≤F X → frac 0 1 ≤F value r
  rounds_nonneg h = rounds_at_least R (fin false 0 (pos 0)) (zero_fits f) tt t h

  pub rounds_nonpos : X ≤F frac 0 1 → value r ≤F frac 0 1
  rounds_nonpos h = rounds_at_most R (fin false 0 (pos 0)) (zero_fits f) tt t h

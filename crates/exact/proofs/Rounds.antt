-- The error of one rounding: r is X rounded once, so r and X are two sizes with one sign at the scale of a unit times
-- X's denominator, and the whole numbers' laws (Ulp) are the error's. Provides, of `Rounds f r X`: `rounds_self`,
-- `rounds_along` (equal fractions); `rounds_within` (half an ulp below a power of two, with the size and that r is a
-- number), `rounds_relative` (2 ^ -prec of X and half a unit), `rounds_normal` (without the half unit, in the normal
-- range); and the same of `round f s a c` itself: `round_within`, `round_relative`, `round_normal`. Assumes nothing.
use mathlib.Core.Path.{◌≡◌, refl, sym, ap, ◌∙◌, subst}
use mathlib.Core.Bool.{Bool, false}
use Prim.Native.Nat.{ℕ, suc, ◌+◌, ◌-◌, ◌*◌, ◌^◌, ◌≤◌, ◌<◌}
use native.Mathlib.Nat.{lt_of_le_of_lt, mul_comm, mul_right_comm, mul-pos, pow-suc, one-mul, zero-lt-suc}
use native.Mathlib.Omega.{arith}
use lib.Dec.{T}
use lib.Pow.{pow_pos, pow-lt}
use lib.Ieee.{Float, Format, prec, emax, low, round}
use lib.Ieee.Scale.{grid, finite}
use Rattle.exact.specs.Fraction.{Fraction, frac, value, ◌≤F◌, ◌≈◌, ◌+F◌, ◌*F◌, abs_f, Within}
use Rattle.exact.specs.Rounds.{signed_f, Rounds, Close, least_normal, power_f, half_ulp}
use Rattle.exact.proofs.Scale.{At, at_ratio, at_add, at_mul, at_more}
use Rattle.exact.proofs.Near.{eq_trans}
use Rattle.exact.proofs.Ulp.{grid_under, grid_sharp, grid_relative, grid_normal}
use Rattle.exact.proofs.Magnitude.{Sized, sized_same, sized_more, size_le, le_size, abs_sized, near_sized}
use Rattle.exact.proofs.Formats.{prec_pos}
use Rattle.exact.proofs.Rounding.{round_finite, round_sized}

pub rounds_self : (f : Format) (s : Bool) (a c : ℕ) → 0 < c → Rounds f (round f s a c) (signed_f s a c)
rounds_self f s a c C = record { sign = s; num = a; den = c; den_pos = C; is = refl; exact = record { eq = refl } }

pub rounds_along : {f : Format} {r : Float} {X Y : Fraction} → X ≈ Y → Rounds f r X → Rounds f r Y
rounds_along {X = X} {Y = Y} e R = record {
  sign = R.sign;
  num = R.num;
  den = R.den;
  den_pos = R.den_pos;
  is = R.is;
  exact = eq_trans (signed_f R.sign R.num R.den) X Y R.exact e;
}

-- ---- of `round f s a c`, for an X that is a / c
module _ (f : Format) (s : Bool) (a c : ℕ) (C : 0 < c) (X : Fraction) (x : signed_f s a c ≈ X) where
  sized : Sized c X s a
  sized = sized_same s a c C x

  -- |X| ≤ 2 ^ K units
  under : (K : ℕ) → abs_f X ≤F power_f f K → a * 2 ^ low f ≤ 2 ^ K * c
  under K h =
      let L = 2 ^ low f in
      le_size (c * L) (mul-pos C (pow_pos (low f))) (sized_more false c a L (abs_sized c C s a sized))
      (subst (λ (z : ℕ). At z (power_f f K) (2 ^ K * c) 0) (mul_comm L c)
      (sized_more false L (2 ^ K) c (at_ratio (2 ^ K) 0 L (pow_pos (low f))))) h

  pub round_within : (K : ℕ) → K ≤ low f + emax f → a * 2 ^ low f ≤ 2 ^ K * c
      → Close (round f s a c) X (half_ulp f K) (power_f f K)
  round_within K top n =
      let L = 2 ^ low f in
      let g = grid f a c in
      let small : g ≤ 2 ^ K = grid_under (prec f) (a * L) c (prec_pos f) C K n in
      let w = grid_sharp (prec f) (a * L) c (prec_pos f) C K n in
      let t = round_finite f s a c (lt_of_le_of_lt small (pow-lt (over K (low f) (emax f) top))) in
      let v = round_sized f s a c t in
      record {
        number = t;
        near = near_sized s L g c a 2 (2 ^ (K - prec f) * c) (pow_pos (low f)) C (zero-lt-suc 1) v sized
            (subst (λ (z : ℕ). At z (half_ulp f K) (2 ^ (K - prec f) * c) 0) (mul_right_comm L 2 c)
            (sized_more false (L * 2) (2 ^ (K - prec f)) c
            (at_ratio (2 ^ (K - prec f)) 0 (L * 2) (mul-pos (pow_pos (low f)) (zero-lt-suc 1)))))
            (swap (g * c * 2) (a * L * 2) c (2 ^ (K - prec f)) w.0)
            (swap (a * L * 2) (g * c * 2) c (2 ^ (K - prec f)) w.1);
        small = size_le L (pow_pos (low f)) (abs_sized L (pow_pos (low f)) s g v)
            (at_ratio (2 ^ K) 0 L (pow_pos (low f))) small;
      }
    where
      over : (K l e : ℕ) → K ≤ l + e → K < l + suc e
      over K l e h = omega arith

      swap : (x y c t : ℕ) → x ≤ y + c * t → x ≤ y + t * c
      swap x y c t h = omega arith

  -- |X| 2 ^ -prec, at the scale of a unit times c times 2 ^ prec
  share : At (2 ^ low f * c * (2 ^ (prec f - 1) * 2)) (abs_f X *F frac 1 (2 ^ prec f)) (a * 2 ^ low f) 0
  share = go (2 ^ low f) (2 ^ (prec f - 1) * 2) (2 ^ prec f) (power_suc (prec f) (prec_pos f)) (pow_pos (prec f))
    where
      power_suc : (p : ℕ) → 0 < p → 2 ^ p ≡ 2 ^ (p - 1) * 2
      power_suc p h = ap (λ (z : ℕ). 2 ^ z) (back p h) ∙ pow-suc 2 (p - 1)
        where
          back : (p : ℕ) → 0 < p → p ≡ suc (p - 1)
          back p h = omega arith

      scale : (c q L : ℕ) → c * q * L ≡ L * c * q
      scale c q L = omega arith

      plus : (a L : ℕ) → (a * 1 + 0 * 0) * L ≡ a * L
      plus a L = omega arith

      minus : (a L : ℕ) → (a * 0 + 0 * 1) * L ≡ 0
      minus a L = omega arith

      go : (L q p : ℕ) → p ≡ q → 0 < p → At (L * c * q) (abs_f X *F frac 1 p) (a * L) 0
      go L q p e P =
          let z = at_more (c * p) L (at_mul (abs_sized c C s a sized) (at_ratio 1 0 p P)) in
          subst (λ (w : ℕ). At (L * c * w) (abs_f X *F frac 1 p) (a * L) 0) e
          (subst (λ (w : ℕ). At w (abs_f X *F frac 1 p) (a * L) 0) (scale c p L)
          (subst (λ (w : ℕ). At (c * p * L) (abs_f X *F frac 1 p) (a * L) w) (minus a L)
          (subst (λ (w : ℕ). At (c * p * L) (abs_f X *F frac 1 p) w ((a * 0 + 0 * 1) * L)) (plus a L) z)))

  -- half a unit there
  half_unit : At (2 ^ low f * c * (2 ^ (prec f - 1) * 2)) (frac 1 (2 ^ low f * 2)) (2 ^ (prec f - 1) * c) 0
  half_unit = go (2 ^ low f) (2 ^ (prec f - 1)) (pow_pos (low f))
    where
      scale : (L c t : ℕ) → L * 2 * (t * c) ≡ L * c * (t * 2)
      scale L c t = omega arith

      go : (L t : ℕ) → 0 < L → At (L * c * (t * 2)) (frac 1 (L * 2)) (t * c) 0
      go L t L0 =
          subst (λ (w : ℕ). At w (frac 1 (L * 2)) (t * c) 0) (scale L c t)
          (subst (λ (w : ℕ). At (L * 2 * (t * c)) (frac 1 (L * 2)) w 0) (one-mul (t * c))
          (sized_more false (L * 2) 1 (t * c) (at_ratio 1 0 (L * 2) (mul-pos L0 (zero-lt-suc 1)))))

  pub round_relative : T (finite (round f s a c))
      → Within (value (round f s a c)) X (abs_f X *F frac 1 (2 ^ prec f) +F frac 1 (2 ^ low f * 2))
  round_relative t =
      let w = grid_relative (prec f) (a * 2 ^ low f) c (prec_pos f) C in
      near_sized s (2 ^ low f) (grid f a c) c a (2 ^ (prec f - 1) * 2) (a * 2 ^ low f + 2 ^ (prec f - 1) * c)
      (pow_pos (low f)) C (mul-pos (pow_pos (prec f - 1)) (zero-lt-suc 1))
      (round_sized f s a c t) sized (at_add share half_unit) w.0 w.1

  pub round_normal : T (finite (round f s a c)) → least_normal f ≤F abs_f X
      → Within (value (round f s a c)) X (abs_f X *F frac 1 (2 ^ prec f))
  round_normal t h =
      let w = grid_normal (prec f) (a * 2 ^ low f) c (prec_pos f) C from in
      near_sized s (2 ^ low f) (grid f a c) c a (2 ^ (prec f - 1) * 2) (a * 2 ^ low f) (pow_pos (low f)) C
      (mul-pos (pow_pos (prec f - 1)) (zero-lt-suc 1))
      (round_sized f s a c t) sized share w.0 w.1
    where
      from : 2 ^ (prec f - 1) * c ≤ a * 2 ^ low f
      from =
          let L = 2 ^ low f in
          le_size (L * c) (mul-pos (pow_pos (low f)) C)
          (sized_more false L (2 ^ (prec f - 1)) c (at_ratio (2 ^ (prec f - 1)) 0 L (pow_pos (low f))))
          (subst (λ (z : ℕ). At z (abs_f X) (a * L) 0) (mul_comm c L)
          (sized_more false c a L (abs_sized c C s a sized))) h

-- ---- of a rounding
module _ {f : Format} {r : Float} {X : Fraction} (R : Rounds f r X) where
  pub rounds_within : (K : ℕ) → K ≤ low f + emax f → abs_f X ≤F power_f f K → Close r X (half_ulp f K) (power_f f K)
  rounds_within K top h =
      subst (λ (z : Float). Close z X (half_ulp f K) (power_f f K)) (sym R.is)
      (round_within f R.sign R.num R.den R.den_pos X R.exact K top
      (under f R.sign R.num R.den R.den_pos X R.exact K h))

  pub rounds_relative : T (finite r) → Within (value r) X (abs_f X *F frac 1 (2 ^ prec f) +F frac 1 (2 ^ low f * 2))
  rounds_relative t =
      subst (λ (z : Float). Within (value z) X (abs_f X *F frac 1 (2 ^ prec f) +F frac 1 (2 ^ low f * 2))) (sym R.is)
      (round_relative f R.sign R.num R.den R.den_pos X R.exact
      (subst (λ (z : Float). T (finite z)) R.is t))

  pub rounds_normal : T (finite r) → least_normal f ≤F abs_f X → Within (value r) X (abs_f X *F frac 1 (2 ^ prec f))
  rounds_normal t h =
      subst (λ (z : Float). Within (value z) X (abs_f X *F frac 1 (2 ^ prec f))) (sym R.is)
      (round_normal f R.sign R.num R.den R.den_pos X R.exact
      (subst (λ (z : Float). T (finite z)) R.is t) h)

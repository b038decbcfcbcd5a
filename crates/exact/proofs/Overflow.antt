-- Where a format ends, by patterns: below the infinity's pattern no value reaches 2 ^ (emax + 1), and from it on every
-- one does. Both are comparisons of exponents. Provides: `lead_finite` (a field below the infinity's), `units_over` (k
-- * hid + q from the infinity's pattern on). Assumes nothing.
use mathlib.Core.Path.{◌≡◌, sym, ap, ◌∙◌}
use mathlib.Core.Logic.{◌⊎◌, inl, inr}
use Prim.Native.Nat.{ℕ, zero, suc, ◌+◌, ◌-◌, ◌*◌, ◌^◌, ◌≤◌, ◌<◌}
use native.Mathlib.Nat.{
  le_trans,
  le_of_eq,
  le_of_suc-le-suc,
  lt_of_lt_of_le,
  eq-or-lt_of_le,
  mul_assoc,
  mul_comm,
  mul-le-mul_right,
  mul-le-mul_left,
  le_of_mul-le-mul_right,
  zero-mul,
  pow-succ',
  lt_of_mul-lt-mul_right,
}
use native.Mathlib.Omega.{arith}
use lib.Pow.{pow_mono, shl_lt}
use lib.Ieee.{Format, prec, emax, hid, ones}
use lib.Ieee.Fits.{two, reach}
use lib.Ieee.Scale.{overflow}
use Rattle.exact.proofs.Formats.{twice_hid}
use Rattle.exact.proofs.Patterns.{lead}

-- ---- below the infinity's pattern no value overflows, from it on every one does
room : (p e x : ℕ) → 2 ≤ p → suc x < 2 * e + 1 → p + x ≤ e + p - 2 + suc e
room p e x a b = omega arith

room_low : (p e : ℕ) → 2 ≤ p → p ≤ suc e → p - 1 ≤ e + p - 2 + suc e
room_low p e a b = omega arith

pub lead_finite : (f : Format) (x t : ℕ) → x < ones f → t < hid f → lead (hid f) x t < overflow f
lead_finite f zero t X H = lt_of_lt_of_le H (pow_mono (room_low (prec f) (emax f) (two f) (reach f)))
lead_finite f (suc x) t X H =
    lt_of_lt_of_le (shl_lt (prec f) x (with_lead (hid f) t (2 ^ prec f) (twice_hid f) H))
    (pow_mono (room (prec f) (emax f) x (two f) X))
  where
    with_lead : (h t w : ℕ) → w ≡ 2 * h → t < h → h + t < w
    with_lead h t w e l = omega arith

far : (o k q h : ℕ) → 0 < h → (o + 1) * h ≤ k * h + q → q < 2 * h → o ≤ k
far o k q h H a b = le_of_suc-le-suc (lt_of_mul-lt-mul_right h (step o k q h a b))
  where
    step : (o k q h : ℕ) → (o + 1) * h ≤ k * h + q → q < 2 * h → o * h < suc k * h
    step o k q h a b = omega arith

pub units_over : (h o q k : ℕ) → 0 < h → q ≤ 2 * h → (k ≡ 0) ⊎ (h ≤ q) → (o + 1) * h ≤ k * h + q → h * 2 ^ o ≤ q * 2 ^ k
units_over h o q k H b c g = elim (eq-or-lt_of_le b) [
  | inl e ↦ le_trans (mul-le-mul_left h (pow_mono (le_of_mul-le-mul_right (two_more o k q h e g) H)))
      (le_of_eq (twice e))
  | inr l ↦ le_trans (mul-le-mul_right (2 ^ o) (filled c)) (mul-le-mul_left q (pow_mono (far o k q h H g l)))
]
  where
    two_more : (o k q h : ℕ) → q ≡ 2 * h → (o + 1) * h ≤ k * h + q → o * h ≤ suc k * h
    two_more o k q h e g = omega arith

    twice : q ≡ 2 * h → h * 2 ^ suc k ≡ q * 2 ^ k
    twice e = ap (λ (x : ℕ). h * x) (pow-succ' 2 k) ∙ sym (mul_assoc h 2 (2 ^ k))
        ∙ ap (λ (x : ℕ). x * 2 ^ k) (mul_comm h 2 ∙ sym e)

    alone : (o h q j : ℕ) → j ≡ 0 → (o + 1) * h ≤ j + q → h ≤ q
    alone o h q j z g = omega arith

    filled : (k ≡ 0) ⊎ (h ≤ q) → h ≤ q
    filled (inl z) = alone o h q (k * h) (ap (λ (x : ℕ). x * h) z ∙ zero-mul h) g
    filled (inr g) = g

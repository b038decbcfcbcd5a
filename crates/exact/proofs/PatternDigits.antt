-- The digits and the place that a pattern below the infinity's stands for, as tests and quotients of it: the digits
-- with their leading one, which a field of 0 lacks, and the field less one. Provides: `digits_of`, `place_of`,
-- `pattern_units` (the pattern's value is so many units, for both signs). Assumes nothing.
use mathlib.Core.Path.{◌≡◌, sym, ap, ◌∙◌, subst}
use Prim.Native.Nat.{ℕ, zero, suc, ◌+◌, ◌-◌, ◌*◌, ◌/◌, ◌%◌, ◌^◌, ◌≤◌, ◌<◌}
use native.Mathlib.Nat.{
  add_comm,
  mul-one,
  mod-lt,
  mod-eq_of_lt,
  div-eq_of_lt,
  div-lt_iff_lt-mul,
  le-div_iff_mul-le,
  one-mul,
  le_trans,
  le_of_eq,
}
use native.Mathlib.Omega.{arith}
use mathlib.Core.Bool.{Bool, true, false, not, cond}
use lib.Dec.{T, ltb, ltb→lt, nltb→le}
use lib.Ieee.{Format, low, hid, top, of_bits}
use lib.Ieee.Exact.{HasValue}
use lib.Ieee.Scale.{overflow}
use Rattle.exact.proofs.Formats.{infinite, hid_pos, twice_hid}
use Rattle.exact.proofs.Overflow.{lead_finite}
use Rattle.exact.proofs.Patterns.{lead, worth, pattern_value}
use Rattle.exact.proofs.Units.{Units}

abbrev pub digits_of : Format → ℕ → ℕ
digits_of f p = cond (ltb p (hid f)) p (p % hid f + hid f)

abbrev pub place_of : Format → ℕ → ℕ
place_of f p = cond (ltb p (hid f)) 0 (p / hid f - 1)

-- ---- h is the weight of the field, and p its pattern
module _ (h p : ℕ) (H : 0 < h) where
  few : p < h → lead h (p / h) (p % h) ≡ p * 1
  few l = ap (λ (x : ℕ). lead h x (p % h)) (div-eq_of_lt l) ∙ mod-eq_of_lt l ∙ sym (mul-one p)

  full : (x : ℕ) → 0 < x → lead h x (p % h) ≡ (p % h + h) * 2 ^ (x - 1)
  full zero l = absurd (nothing l)
    where
      nothing : 0 < 0 → ⊥
      nothing l = omega arith
  full (suc x) l = ap (λ (q : ℕ). q * 2 ^ x) (add_comm h (p % h)) ∙ ap (λ (y : ℕ). (p % h + h) * 2 ^ y) (less x)
    where
      less : (x : ℕ) → x ≡ suc x - 1
      less x = omega arith

  field_pos : h ≤ p → 0 < p / h
  field_pos l = (le-div_iff_mul-le H).1 (le_trans (le_of_eq (one-mul h)) l)

module _ (f : Format) (s : Bool) (p : ℕ) (P : p < infinite f) where
  finite_worth : worth f p < overflow f
  finite_worth = lead_finite f (p / hid f) (p % hid f) ((div-lt_iff_lt-mul (hid_pos f)).1 P) (mod-lt p (hid_pos f))

  of_digits : (m k : ℕ) → worth f p ≡ m * 2 ^ k → m < 2 * hid f → Units f (of_bits f (cond s (top f) 0 + p)) s m k
  of_digits m k e l = record {
    short = subst (λ (x : ℕ). m < x) (sym (twice_hid f)) l;
    under = subst (λ (x : ℕ). x < overflow f) e finite_worth;
    value = subst (λ (x : ℕ). HasValue (of_bits f (cond s (top f) 0 + p)) s x (2 ^ low f)) e (pattern_value f s p P);
  }

  pub pattern_units : Units f (of_bits f (cond s (top f) 0 + p)) s (digits_of f p) (place_of f p)
  pattern_units = go (ltb p (hid f)) (ltb→lt p (hid f)) (nltb→le p (hid f))
    where
      below : (t h : ℕ) → t < h → t < 2 * h
      below t h l = omega arith

      with_lead : (t h : ℕ) → t < h → t + h < 2 * h
      with_lead t h l = omega arith

      go : (b : Bool) → (T b → p < hid f) → (T (not b) → hid f ≤ p)
          → Units f (of_bits f (cond s (top f) 0 + p)) s (cond b p (p % hid f + hid f)) (cond b 0 (p / hid f - 1))
      go true y n = of_digits p 0 (few (hid f) p (hid_pos f) (y tt)) (below p (hid f) (y tt))
      go false y n =
          of_digits (p % hid f + hid f) (p / hid f - 1)
          (full (hid f) p (hid_pos f) (p / hid f) (field_pos (hid f) p (hid_pos f) (n tt)))
          (with_lead (p % hid f) (hid f) (mod-lt p (hid_pos f)))

-- k * hid + q is the pattern of q * 2 ^ k units, whatever q and k are, as long as q has all its digits or k is 0. A q
-- that was carried to one digit more moves into the next exponent's field by itself, and the pattern after the last
-- finite one is the infinity's. Provides, of such q and k: `units_value` (what the pattern stands for), `units_pattern`
-- (the units as a float have that pattern), `units_infinity` (from the infinity's pattern on). Assumes nothing.
use mathlib.Core.Path.{◌≡◌, sym, ap, ◌∙◌, subst}
use mathlib.Core.Logic.{◌⊎◌, inl, inr}
use Prim.Native.Nat.{ℕ, suc, ◌+◌, ◌-◌, ◌*◌, ◌/◌, ◌%◌, ◌^◌, ◌≤◌, ◌<◌}
use native.Mathlib.Nat.{
  le_refl,
  le_trans,
  le_of_eq,
  lt_of_le_of_lt,
  eq-or-lt_of_le,
  add-sub_of_le,
  mul-one,
  mul_assoc,
  mod-lt,
  div-lt_iff_lt-mul,
  pow-succ',
}
use native.Mathlib.Omega.{arith}
use mathlib.Core.Bool.{Bool, cond}
use lib.Dec.{T, ltb}
use lib.Arith.{digits_div, digits_mod, le→nltb}
use lib.Pow.{pow_pos, pow-lt}
use lib.Ieee.{inf, Format, prec, emax, low, odd, units, hid, top, fits, of_bits}
use lib.Ieee.Fits.{odd-fits, cond-fits, inf-fits}
use lib.Ieee.Bits.{cond_no, of_bits-fits}
use lib.Ieee.Exact.{HasValue, units_val}
use lib.Ieee.Scale.{overflow}
use Rattle.exact.proofs.Formats.{infinite, hid_pos, twice_hid, overflow-is}
use Rattle.exact.proofs.Naturals.{lt_or_le}
use Rattle.exact.proofs.Overflow.{lead_finite, units_over}
use Rattle.exact.proofs.Patterns.{lead, worth, pattern_value, pattern_infinity}
use Rattle.exact.proofs.Value.{unique}

-- ---- k * hid + q is q * 2 ^ k units
lead_at : (h x t : ℕ) → t < h → lead h ((x * h + t) / h) ((x * h + t) % h) ≡ lead h x t
lead_at h x t l = ap (λ (y : ℕ). lead h y ((x * h + t) % h)) (digits_div x l)
    ∙ ap (λ (y : ℕ). lead h x y) (digits_mod x l)

module _ (h : ℕ) (H : 0 < h) (q k : ℕ) where
  -- fewer digits than the format keeps: no field
  few : q < h → k ≡ 0 → lead h ((k * h + q) / h) ((k * h + q) % h) ≡ q * 2 ^ k
  few l z =
      ap (λ (j : ℕ). lead h ((j * h + q) / h) ((j * h + q) % h)) z ∙ lead_at h 0 q l ∙ sym (mul-one q)
      ∙ ap (λ (j : ℕ). q * 2 ^ j) (sym z)

  -- as many: the leading one adds one to the field
  same : h ≤ q → q < 2 * h → lead h ((k * h + q) / h) ((k * h + q) % h) ≡ q * 2 ^ k
  same g l =
      let e : k * h + q ≡ suc k * h + (q - h) = omega arith in
      ap (λ (p : ℕ). lead h (p / h) (p % h)) e ∙ lead_at h (suc k) (q - h) (omega arith)
      ∙ ap (λ (x : ℕ). x * 2 ^ k) (add-sub_of_le g)

  -- one more: only its leading one is left, and it adds two to the field
  carried : q ≡ 2 * h → lead h ((k * h + q) / h) ((k * h + q) % h) ≡ q * 2 ^ k
  carried e =
      let p : k * h + q ≡ suc (suc k) * h + 0 = omega arith in
      ap (λ (p : ℕ). lead h (p / h) (p % h)) p
      ∙ lead_at h (suc (suc k)) 0 H
      ∙ ap (λ (x : ℕ). (h + 0) * x) (pow-succ' 2 k)
      ∙ sym (mul_assoc (h + 0) 2 (2 ^ k))
      ∙ ap (λ (x : ℕ). x * 2 ^ k) (turned h q e)
    where
      turned : (h q : ℕ) → q ≡ 2 * h → (h + 0) * 2 ≡ q
      turned h q e = omega arith

  full : h ≤ q → q ≤ 2 * h → lead h ((k * h + q) / h) ((k * h + q) % h) ≡ q * 2 ^ k
  full g b = elim (eq-or-lt_of_le b) [ inl e ↦ carried e | inr l ↦ same g l ]

  lead_units : q ≤ 2 * h → (k ≡ 0) ⊎ (h ≤ q) → lead h ((k * h + q) / h) ((k * h + q) % h) ≡ q * 2 ^ k
  lead_units b (inl z) = elim (lt_or_le q h) [ inl l ↦ few l z | inr g ↦ full g b ]
  lead_units b (inr g) = full g b

-- ---- the laws
units_in : (f : Format) (s : Bool) (q k : ℕ) → q ≤ 2 ^ prec f → q * 2 ^ k < overflow f → T (fits f (units f s q k))
unfolding units
units_in f s q k a b =
    cond-fits f (ltb (q * 2 ^ k) (overflow f)) (odd (suc (prec f)) s q k (low f)) (inf s)
    (odd-fits f (suc (prec f)) s q k (lt_of_le_of_lt a (pow-lt (le_refl (suc (prec f))))) a b) (inf-fits f s)

units_past : (f : Format) (s : Bool) (q k : ℕ) → overflow f ≤ q * 2 ^ k → units f s q k ≡ inf s
unfolding units
units_past f s q k h = cond_no (ltb (q * 2 ^ k) (overflow f)) (odd (suc (prec f)) s q k (low f)) (inf s)
    (le→nltb (q * 2 ^ k) (overflow f) h)

module _ (f : Format) (s : Bool) (q k : ℕ) (b : q ≤ 2 ^ prec f) (c : (k ≡ 0) ⊎ (hid f ≤ q)) where
  digits : q ≤ 2 * hid f
  digits = le_trans b (le_of_eq (twice_hid f))

  worth_units : worth f (k * hid f + q) ≡ q * 2 ^ k
  worth_units = lead_units (hid f) (hid_pos f) q k digits c

  pub units_value : k * hid f + q < infinite f
      → HasValue (of_bits f (cond s (top f) 0 + (k * hid f + q))) s (q * 2 ^ k) (2 ^ low f)
  units_value h =
      let p = k * hid f + q in
      subst (λ (x : ℕ). HasValue (of_bits f (cond s (top f) 0 + p)) s x (2 ^ low f)) worth_units (pattern_value f s p h)

  pub units_infinity : infinite f ≤ k * hid f + q → units f s q k ≡ inf s
  units_infinity h = units_past f s q k
      (le_trans (le_of_eq (overflow-is f)) (units_over (hid f) (2 * emax f) q k (hid_pos f) digits c h))

  units_below : k * hid f + q < infinite f → units f s q k ≡ of_bits f (cond s (top f) 0 + (k * hid f + q))
  units_below h =
      let p = k * hid f + q in
      let u : q * 2 ^ k < overflow f =
      subst (λ (x : ℕ). x < overflow f) worth_units
      (lead_finite f (p / hid f) (p % hid f) ((div-lt_iff_lt-mul (hid_pos f)).1 h) (mod-lt p (hid_pos f))) in
      unique f f (units f s q k) (of_bits f (cond s (top f) 0 + p)) s (q * 2 ^ k) (2 ^ low f) (pow_pos (low f))
      (units_in f s q k b u) (of_bits-fits f (cond s (top f) 0 + p))
      (units_val f s q k u) (units_value h)

  pub units_pattern : k * hid f + q ≤ infinite f → units f s q k ≡ of_bits f (cond s (top f) 0 + (k * hid f + q))
  units_pattern h = elim (eq-or-lt_of_le h) [
    | inl e ↦ units_infinity (le_of_eq (sym e))
        ∙ sym (ap (λ (p : ℕ). of_bits f (cond s (top f) 0 + p)) e ∙ pattern_infinity f s)
    | inr l ↦ units_below l
  ]

-- What a bit pattern stands for. Without its sign's bit it is a whole number p that counts a format's values in order:
-- the exponent's field and the digits are read off it, with the sign's bit there or not. Up to the infinity's pattern
-- none is a NaN's, and above it each is. Provides: `lead`, `worth` (the size that p stands for, in units of the
-- format's smallest value), `pattern_value`, `pattern_infinity` (of p with either sign); `pattern_rest` (p again, from
-- both); `pattern_nan`, `pattern_number` (which patterns are NaNs); `pattern_back` (what is written for the value that
-- was read). Assumes nothing.
use mathlib.Core.Path.{◌≡◌, sym, ap, ◌∙◌, subst}
use Prim.Native.Nat.{ℕ, zero, suc, ◌+◌, ◌*◌, ◌/◌, ◌%◌, ◌^◌, ◌≤◌, ◌<◌}
use native.Mathlib.Nat.{
  le_refl,
  le_of_eq,
  le_trans,
  le_of_lt,
  lt_irrefl,
  zero-add,
  le-add_right,
  mul-one,
  mod-eq_of_lt,
  add-mod_left,
  mul-add-mod_self_left,
  mul-mod_left,
  mul-div_cancel,
  div-lt_iff_lt-mul,
}
use native.Mathlib.Omega.{arith}
use mathlib.Core.Bool.{Bool, true, false, not, cond}
use lib.Dec.{T, leb, eqb, le→leb}
use lib.Arith.{lt→nleb}
use lib.Ieee.{Float, nan, inf, Format, prec, emax, low, odd, hid, ones, top, of_fields, of_bits, nan_bits, to_bits}
use lib.Ieee.Fits.{eq→eqb}
use lib.Ieee.Bits.{is_true, is_false, to_bits-of_bits, nan_bits_is, nan_bits_above}
use lib.Ieee.Exact.{HasValue, odd_sign}
use borrow.Author.Tests.{lt-ltb, le-ltb, ne_eqb}
use Rattle.exact.proofs.Formats.{infinite, hid_pos, below_top}
use Rattle.exact.proofs.Nan.{from_is_nan}

-- ---- the value of a field and its digits: a field of 0 has no leading digit, and counts as a field of 1
abbrev pub lead : ℕ → ℕ → ℕ → ℕ
lead h zero t = t
lead h (suc x) t = (h + t) * 2 ^ x

abbrev pub worth : Format → ℕ → ℕ
worth f p = lead (hid f) (p / hid f) (p % hid f)

-- ---- a pattern is its sign's bit and the rest, and the rest is a field and its digits
pub pattern_rest : (f : Format) (s : Bool) (p : ℕ) → p < top f → (cond s (top f) 0 + p) % top f ≡ p
pattern_rest f true p h = add-mod_left (top f) p ∙ mod-eq_of_lt h
pattern_rest f false p h = ap (λ (x : ℕ). x % top f) (zero-add p) ∙ mod-eq_of_lt h

fields : (f : Format) (s : Bool) (p : ℕ) → p < top f
    → of_bits f (cond s (top f) 0 + p) ≡ of_fields f s (p / hid f) (p % hid f)
unfolding of_bits
fields f true p h =
    ap (λ (b : Bool). of_fields f b ((top f + p) % top f / hid f) ((top f + p) % hid f))
    (is_true (leb (top f) (top f + p)) (le→leb (top f) (top f + p) (le-add_right (top f) p)))
    ∙ ap (λ (x : ℕ). of_fields f true (x / hid f) ((top f + p) % hid f)) (pattern_rest f true p h)
    ∙ ap (λ (x : ℕ). of_fields f true (p / hid f) x) (mul-add-mod_self_left (hid f) (suc (ones f)) p)
fields f false p h =
    ap (λ (x : ℕ). of_fields f (leb (top f) x) (x % top f / hid f) (x % hid f)) (zero-add p)
    ∙ ap (λ (b : Bool). of_fields f b (p % top f / hid f) (p % hid f)) (is_false (leb (top f) p) (lt→nleb (top f) p h))
    ∙ ap (λ (x : ℕ). of_fields f false (x / hid f) (p % hid f)) (mod-eq_of_lt h)

-- ---- the value of a finite pattern
fields_value : (f : Format) (s : Bool) (x t : ℕ) → x < ones f
    → HasValue (of_fields f s x t) s (lead (hid f) x t) (2 ^ low f)
unfolding of_fields
fields_value f s zero t h = subst (λ (a : ℕ). HasValue (odd (prec f) s t 0 (low f)) s a (2 ^ low f)) (mul-one t)
    (odd_sign (prec f) s t 0 (low f))
fields_value f s (suc x) t h =
    subst (λ (b : Bool). HasValue (cond b (cond (eqb t 0) (inf s) nan) (odd (prec f) s (hid f + t) x (low f))) s
    ((hid f + t) * 2 ^ x) (2 ^ low f))
    (sym (ne_eqb (suc x) (ones f) (λ e. lt_irrefl (ones f) (subst (λ (n : ℕ). n < ones f) e h))))
    (odd_sign (prec f) s (hid f + t) x (low f))

pub pattern_value : (f : Format) (s : Bool) (p : ℕ) → p < infinite f
    → HasValue (of_bits f (cond s (top f) 0 + p)) s (worth f p) (2 ^ low f)
pattern_value f s p h =
    subst (λ (v : Float). HasValue v s (worth f p) (2 ^ low f)) (sym (fields f s p (below_top f p (le_of_lt h))))
    (fields_value f s (p / hid f) (p % hid f) ((div-lt_iff_lt-mul (hid_pos f)).1 h))

-- ---- the infinity's pattern
fields_infinity : (f : Format) (s : Bool) (x : ℕ) → x ≡ ones f → of_fields f s x 0 ≡ inf s
unfolding of_fields
fields_infinity f s zero e = absurd (no_field (emax f) e)
  where
    no_field : (e : ℕ) → 0 ≡ 2 * e + 1 → ⊥
    no_field e h = omega arith
fields_infinity f s (suc x) e =
    ap (λ (b : Bool). cond b (inf s) (odd (prec f) s (hid f + 0) x (low f))) (is_true (eqb (suc x) (ones f)) (eq→eqb e))

pub pattern_infinity : (f : Format) (s : Bool) → of_bits f (cond s (top f) 0 + infinite f) ≡ inf s
pattern_infinity f s =
    fields f s (infinite f) (below_top f (infinite f) (le_refl (infinite f)))
    ∙ ap (λ (t : ℕ). of_fields f s (infinite f / hid f) t) (mul-mod_left (ones f) (hid f))
    ∙ fields_infinity f s (infinite f / hid f) (mul-div_cancel (ones f) (hid_pos f))

-- ---- without its sign, a NaN's pattern lies above the infinity's, and every pattern there is a NaN's
pub pattern_nan : (f : Format) (n : ℕ) → infinite f < n % top f → of_bits f n ≡ nan
pattern_nan f n h = from_is_nan (of_bits f n) (sym (nan_bits_is f n) ∙ nan_bits_above f n ∙ lt-ltb (infinite f) (n % top f) h)

pub pattern_number : (f : Format) (n : ℕ) → n % top f ≤ infinite f → T (not (nan_bits f n))
pattern_number f n h = subst (λ (b : Bool). T (not b)) (sym (nan_bits_above f n ∙ le-ltb (infinite f) (n % top f) h)) tt

-- ---- what is written for the value that is read from a pattern
pub pattern_back : (f : Format) (s : Bool) (p : ℕ) → p ≤ infinite f
    → to_bits f (of_bits f (cond s (top f) 0 + p)) ≡ cond s (top f) 0 + p
pattern_back f s p h =
    let n = cond s (top f) 0 + p in
    let P = below_top f p h in
    to_bits-of_bits f n (wide s (top f) p P)
    (subst (λ (b : Bool). T (not b)) (nan_bits_is f n)
    (pattern_number f n (le_trans (le_of_eq (pattern_rest f s p P)) h)))
  where
    both : (t p : ℕ) → p < t → t + p < 2 * t
    both t p h = omega arith

    one : (t p : ℕ) → p < t → 0 + p < 2 * t
    one t p h = omega arith

    wide : (s : Bool) (t p : ℕ) → p < t → cond s t 0 + p < 2 * t
    wide true t p h = both t p h
    wide false t p h = one t p h

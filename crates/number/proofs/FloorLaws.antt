-- What the floor is, for those who use it: where it stands beside x, its size, and its two answers. Each comes from the
-- definition, by the division with remainder that it is. Assumes nothing.
use Rattle.std.proofs.Common.{◌≡◌, ℕ, zero, suc, ◌+◌, ◌-◌, ◌*◌, ◌/◌, ◌<◌, ◌≤◌, Bool, true, false, cond, not, T, ℤ, pos, negsuc, neg_ℤ, nat_abs, sym, refl, ◌∙◌, subst, le_refl, le_of_suc-le-suc, div-lt_iff_lt-mul, div-mul-le_self, arith, leb→le}
use lib.Ieee.{Float, nan, inf, fin, binary64, up, down, of_bits, of_int}
use lib.Ieee.Fits.{down_pos}
use Rattle.exact.proofs.Booleans.{yes_of, no_of}
use Rattle.exact.proofs.Floor.{plusℤ, minusℤ}
use Rattle.exact.proofs.Integer.{nat_abs_neg}
use Rattle.number.specs.Floor.{ceil_div, floorℤ, in_domain, is_zero, floor_i64, floor_f64}

-- ---- the quotients
div_below : (a c : ℕ) → 0 < c → a < suc (a / c) * c
div_below a c P = (div-lt_iff_lt-mul P).0 (le_refl (suc (a / c)))

-- -q, where q is a / c rounded up: q * c is a or more, by less than c
negative_below : (a c q : ℕ) → q * c ≤ a + (c - 1) → a + (c - 1) < suc q * c → 0 < c
    → plusℤ (neg_ℤ (pos q)) * c + a ≤ 0 + minusℤ (neg_ℤ (pos q)) * c
negative_below a c zero lo hi P = omega arith
negative_below a c (suc q) lo hi P = omega arith

negative_above : (a c q : ℕ) → q * c ≤ a + (c - 1) → a + (c - 1) < suc q * c → 0 < c
    → 0 + minusℤ (neg_ℤ (pos q)) * c < a + plusℤ (neg_ℤ (pos q)) * c + c
negative_above a c zero lo hi P = omega arith
negative_above a c (suc q) lo hi P = omega arith

-- ---- floor x ≤ x < floor x + 1, over the denominator of x = ±(m * up e) / down e
pub floor_below : (s : Bool) (m : ℕ) (e : ℤ)
    → plusℤ (floorℤ (fin s m e)) * down e + cond s (m * up e) 0 ≤ cond s 0 (m * up e) + minusℤ (floorℤ (fin s m e)) *
    down e
unfolding floorℤ
floor_below false m e = let h = div-mul-le_self (m * up e) (down e) in omega arith
floor_below true m e = negative_below (m * up e) (down e) (ceil_div (m * up e) (down e))
    (div-mul-le_self (m * up e + (down e - 1)) (down e)) (div_below (m * up e + (down e - 1)) (down e) (down_pos e))
    (down_pos e)

pub floor_above : (s : Bool) (m : ℕ) (e : ℤ)
    → cond s 0 (m * up e) + minusℤ (floorℤ (fin s m e)) * down e < cond s (m * up e) 0 + plusℤ (floorℤ (fin s m e)) *
    down e + down e
unfolding floorℤ
floor_above false m e = let h = div_below (m * up e) (down e) (down_pos e) in omega arith
floor_above true m e = negative_above (m * up e) (down e) (ceil_div (m * up e) (down e))
    (div-mul-le_self (m * up e + (down e - 1)) (down e)) (div_below (m * up e + (down e - 1)) (down e) (down_pos e))
    (down_pos e)

-- ---- its size
pub floor_size : (x : Float) → T (in_domain x) → nat_abs (floorℤ x) ≤ 2147483648
unfolding floorℤ in_domain
floor_size nan d = absurd d
floor_size (inf s) d = absurd d
floor_size (fin false m e) d =
    let h = leb→le (m * up e) (2147483648 * down e) d in
    let p = down_pos e in
    le_of_suc-le-suc ((div-lt_iff_lt-mul (down_pos e)).1 (omega arith))
floor_size (fin true m e) d =
    let h = leb→le (m * up e) (2147483648 * down e) d in
    let p = down_pos e in
    subst (λ (q : ℕ). q ≤ 2147483648) (sym (nat_abs_neg (pos (ceil_div (m * up e) (down e)))))
    (le_of_suc-le-suc ((div-lt_iff_lt-mul (down_pos e)).1 (omega arith)))

-- ---- the two answers, in the domain and outside it
module _ (x : Float) where
  pub floor_integer : T (in_domain x) → floor_i64 x ≡ floorℤ x
  unfolding floor_i64
  floor_integer d = yes_of (in_domain x) (floorℤ x) (negsuc 9223372036854775807) d

  pub floor_integer_out : T (not (in_domain x)) → floor_i64 x ≡ negsuc 9223372036854775807
  unfolding floor_i64
  floor_integer_out d = no_of (in_domain x) (floorℤ x) (negsuc 9223372036854775807) d

  pub floor_float : T (in_domain x) → T (not (is_zero x)) → floor_f64 x ≡ of_int binary64 (floorℤ x)
  unfolding floor_f64
  floor_float d n = yes_of (in_domain x) (cond (is_zero x) x (of_int binary64 (floorℤ x))) nan d
      ∙ no_of (is_zero x) x (of_int binary64 (floorℤ x)) n

  pub floor_zero : T (in_domain x) → T (is_zero x) → floor_f64 x ≡ x
  unfolding floor_f64
  floor_zero d z = yes_of (in_domain x) (cond (is_zero x) x (of_int binary64 (floorℤ x))) nan d
      ∙ yes_of (is_zero x) x (of_int binary64 (floorℤ x)) z

-- ---- -0.25 gives -1, and -0 stays -0
quarter : floor_i64 (of_bits binary64 0xbfd0_0000_0000_0000) ≡ negsuc 0
unfolding floor_i64 floorℤ in_domain of_bits
quarter = refl

minus_zero : floor_f64 (of_bits binary64 0x8000_0000_0000_0000) ≡ of_bits binary64 0x8000_0000_0000_0000
unfolding floor_f64 floorℤ in_domain is_zero of_bits
minus_zero = refl

-- What x has beyond its floor is one rounded fraction, over the denominator of x; where x is 2^-73 at least that has at
-- most 126 digits, so that the fraction is 0 or 2^-126 at least. Assumes nothing.
use mathlib.Core.Path.{◌≡◌, refl, sym, ap, ◌∙◌, subst}
use mathlib.Core.Logic.{◌⊎◌, inl, inr}
use mathlib.Core.Bool.{Bool, false, not}
use Prim.Native.Nat.{ℕ, zero, suc, ◌-◌, ◌*◌, ◌/◌, ◌^◌, ◌≤◌, ◌<◌}
use native.Mathlib.Nat.{le_refl, le_trans, le_of_lt, mul-one, zero-mul, zero-lt-suc, div-mul-le_self, div-lt_iff_lt-mul}
use native.Mathlib.Omega.{arith}
use borrow.Author.Tests.{ne_eqb}
use lib.Dec.{T}
use lib.IntN.{ℤ, pos}
use lib.Pow.{pow_pos}
use lib.Ieee.{Float, fin, binary64, up, down, round, sub, le, of_bits, of_int, fits}
use lib.Ieee.Bits.{of_bits-fits}
use lib.Ieee.Fits.{down_pos, round-fits}
use lib.Ieee.Order.{round_mono}
use Rattle.exact.specs.Double.{◌⊖◌, one}
use Rattle.exact.proofs.Held.{round_held, round_zero}
use Rattle.exact.proofs.Nan.{zero_bits}
use Rattle.exact.proofs.Operands.{sub_values}
use Rattle.exact.proofs.Value.{rescale}
use Rattle.number.specs.Floor.{floorℤ, floor_f64, in_domain, is_zero}
use Rattle.number.proofs.FloorLaws.{floor_float}
use Rattle.fast_cells.specs.Inner.{nought, under, least_short, Short, Parted}
use Rattle.fast_cells.proofs.OrderLaws.{above, whole_value, under_digits, under_finite}
use Rattle.fast_cells.proofs.HalfLaws.{sum_less, tiny, tiny_value, digits_end, significand}
use Rattle.fast_cells.proofs.FlooredLaws.{floored}

-- ---- a fraction of at most 1 whose denominator has 126 digits rounds to a short number
least_is : round binary64 false 1 (2 ^ 126) ≡ least_short
least_is = round_held binary64 least_short false 1 (2 ^ 126) (pow_pos 126)
    (of_bits-fits binary64 0x3810_0000_0000_0000) (unfold of_bits in (refl, refl))

one_is : round binary64 false 1 1 ≡ one
one_is = round_held binary64 one false 1 1 (zero-lt-suc 0)
    (of_bits-fits binary64 0x3ff0_0000_0000_0000) (unfold of_bits in (refl, refl))

short_round : (r c : ℕ) → 0 < c → r ≤ c → c ≤ 2 ^ 126 → Short (round binary64 false r c)
short_round r c C h l = record { held = round-fits binary64 false r c; short = go r h }
  where
    far : (r c p : ℕ) → c ≤ p → 1 * c ≤ suc r * p
    far r c p h = omega arith

    go : (r : ℕ) → r ≤ c → (round binary64 false r c ≡ nought)
        ⊎ (T (le least_short (round binary64 false r c))
        × T (le (round binary64 false r c) one))
    go zero h = inl (round_zero binary64 false c C ∙ sym (zero_bits binary64))
    go (suc r) h = inr (
      subst (λ (y : Float). T (le y (round binary64 false (suc r) c))) least_is
          (round_mono binary64 1 (2 ^ 126) (suc r) c (pow_pos 126) C (far r c (2 ^ 126) l)),
      subst (λ (y : Float). T (le (round binary64 false (suc r) c) y)) one_is
          (round_mono binary64 (suc r) c 1 1 C (zero-lt-suc 0) (turned (suc r) c h)),
    )
      where
        turned : (r c : ℕ) → r ≤ c → r * 1 ≤ 1 * c
        turned r c h = omega arith

pub parted_nought : Parted nought
parted_nought = unfold floor_f64 floorℤ in_domain is_zero of_bits of_int sub fits in
    record { same = refl; rest = record { held = tt; short = inl refl } }

module _ (reach : ℕ) (R : reach ≤ 65536) where
  -- ---- what x has beyond it
  module _ (m : ℕ) (e : ℤ) (t : T (fits binary64 (fin false m e))) (lo : 1 * down e ≤ m * up e * 2 ^ 73)
      (hi : m * up e < reach * down e) where
    not_zero : (m : ℕ) → 1 * down e ≤ m * up e * 2 ^ 73 → T (not (is_zero (fin false m e)))
    not_zero zero l = absurd
        (none (down e) (0 * up e * 2 ^ 73) (down_pos e) l (ap (λ (z : ℕ). z * 2 ^ 73) (zero-mul (up e))))
      where
        none : (d a : ℕ) → 0 < d → 1 * d ≤ a → a ≡ 0 → ⊥
        none d a D h z = omega arith
    not_zero (suc m) l = unfold is_zero in subst (λ (b : Bool). T (not b)) (sym (ne_eqb (suc m) 0 (some m))) tt
      where
        some : (m : ℕ) → suc m ≡ 0 → ⊥
        some m h = omega arith

    same : floor_f64 (fin false m e) ≡ of_int binary64 (floorℤ (fin false m e))
    same = floor_float (fin false m e) (floored reach R m e hi).domain (not_zero m lo)

    rest_is : fin false m e ⊖ floor_f64 (fin false m e) ≡ round binary64 false (m * up e - m * up e / down e * down e)
        (down e)
    unfolding floorℤ
    rest_is =
        let w = m * up e / down e in
        ap (λ (y : Float). fin false m e ⊖ y) same
        ∙ sub_values binary64 (fin false m e) (of_int binary64 (pos w)) false false (m * up e) (w * down e) (down e)
        (down_pos e) (refl, refl)
        (rescale (of_int binary64 (pos w)) false w 1 (w * down e) (down e) (zero-lt-suc 0) (sym (mul-one (w * down e)))
        (whole_value w (le_trans (le_of_lt ((div-lt_iff_lt-mul (down_pos e)).1 hi)) R)))
        ∙ sum_less binary64 (m * up e) (w * down e) (down e) (div-mul-le_self (m * up e) (down e))

    pub parted : Parted (fin false m e)
    parted = record {
      same = same;
      rest = subst (λ (y : Float). Short y) (sym rest_is)
          (short_round (m * up e - m * up e / down e * down e) (down e) (down_pos e)
          (less (m * up e) (m * up e / down e) (down e)
          ((div-lt_iff_lt-mul (down_pos e)).0 (le_refl (suc (m * up e / down e)))))
          (digits_end m e (2 ^ 73) (pow_pos 73) (significand m e t) lo));
    }
      where
        less : (a w d : ℕ) → a < suc w * d → a - w * d ≤ d
        less a w d h = omega arith

  -- from 2^-73 on
  pub later_parted : (x : Float) → T (fits binary64 x) → T (le tiny x) → T (under reach x) → Parted x
  later_parted x t l h = elim (above 1 (2 ^ 73) tiny x (zero-lt-suc 0) (pow_pos 73) tiny_value l) [
    | inl e ↦ absurd (under_finite reach R (subst (λ (y : Float). T (under reach y)) e h))
    | inr a ↦
        subst (λ (y : Float). Parted y) (sym a.is)
        (parted a.digits a.place (subst (λ (y : Float). T (fits binary64 y)) a.is t) a.least
        (under_digits reach R a.digits a.place (subst (λ (y : Float). T (under reach y)) a.is h)))
  ]

-- Between the two bounds the bits are a pattern without a sign, and its 29 digits fewer are the answer's bits
-- (`narrow_bits`). Assumes nothing.
use Rattle.std.proofs.Common.{◌≡◌, ℕ, ◌+◌, ◌*◌, ◌/◌, ◌%◌, ◌<◌, ◌≤◌, not, T, sym, ap, ◌∙◌, subst, le_trans, arith, ltb-true}
use native.Mathlib.Nat.{mod-le}
use lib.Ieee.{Float, binary32, binary64, of_bits, to_bits, fits, is_nan}
use Rattle.exact.proofs.Patterns.{pattern_number}
use Rattle.number.specs.Narrow.{narrow}
use Rattle.number.proofs.NarrowBits.{bits_le, narrow_bits}
use Rattle.number.proofs.NarrowNormal.{short}
use Rattle.number.proofs.narrow.narrow_number.Goals as goal

-- a pattern below the sign's bit
unsigned : (b p : ℕ) → b < 0x47f0000000000000 → (b / 0x8000000000000000 * 0x80000000 + p ≡ p)
    × (b % 0x8000000000000000 ≡ b)
unsigned b p h = (omega arith, omega arith)

module _ (x : Float) (r : ℕ) (n : T (not (is_nan x))) (f : T (fits binary64 x)) (e : r ≡ short (to_bits binary64 x))
    (h : to_bits binary64 x < 0x47f0000000000000) where
  least : r ≤ 0x7f800000
  least = subst (λ (p : ℕ). p ≤ 0x7f800000) (sym e) (bits_le (to_bits binary64 x) (omega arith))

  answer : of_bits binary32 r ≡ narrow x
  answer =
      let b = to_bits binary64 x in
      ap (of_bits binary32) (e ∙ sym (unsigned b (short b) h).0
      ∙ ap (λ (m : ℕ). b / 0x8000000000000000 * 0x80000000 + short m) (sym (unsigned b 0 h).1))
      ∙ narrow_bits x n f

pub ordinary-requires : goal.ordinary-requires
ordinary-requires c = (c.if-bits-ge-LEAST_NORMAL.true, ltb-true _ _ c.if-bits-lt-PAST_LARGEST.true-raw)

module _ (c : goal.After-ordinary) where
  small : to_bits binary64 c.args.x < 0x47f0000000000000
  small = ltb-true _ _ c.if-bits-lt-PAST_LARGEST.true-raw

  held : T (fits binary64 c.args.x)
  held = subst T (sym c.well_formed.0.1) tt

  below : c.ordinary.result ≤ 0x7f800000
  below = least c.args.x c.ordinary.result c.requires held
      c.ordinary.ensures small

pub overflow_cast-result : goal.overflow_cast-result
overflow_cast-result c = omega (arith, below c)

pub float_from_bits-result : goal.float_from_bits-result
float_from_bits-result c = pattern_number binary32 c.ordinary.result (le_trans (mod-le _ _) (below c))

pub returns-then-bits-lt-PAST_LARGEST : goal.returns-then-bits-lt-PAST_LARGEST
returns-then-bits-lt-PAST_LARGEST c = answer c.args.x c.ordinary.result c.requires (held c)
    c.ordinary.ensures (small c)

-- In units of 2 ^ -149 the value is the significand over a power of two (`subnormal_bits`), or less than half
-- (`zero_bits`). The rest is that the shift makes that power. Assumes nothing.
use Rattle.std.proofs.Common.{◌≡◌, ℕ, zero, suc, ◌+◌, ◌-◌, ◌*◌, ◌/◌, ◌%◌, ◌^◌, ◌<◌, ◌≤◌, sym, ap, ◌∙◌, subst, lt_irrefl, one-mul, pow-suc, arith, pow_pos, pow_mono, shl_exact}
use native.Mathlib.Nat.{mul-mod_left}
use lib.Ieee.Nearest.{closest}
use Rattle.number.proofs.NarrowBits.{subnormal_bits}
use Rattle.number.proofs.NarrowLow.{zero_bits}
use Rattle.number.proofs.narrow.subnormal.Goals as goal

even-pow : (i : ℕ) → 0 < i → 2 ^ i % 2 ≡ 0
even-pow zero h = absurd (lt_irrefl 0 h)
even-pow (suc i) h = ap (λ (x : ℕ). x % 2) (pow-suc 2 i) ∙ mul-mod_left (2 ^ i) 2

-- a shift of 1 that is not cut off
unit : (i : ℕ) → 30 ≤ i → i ≤ 53 → (1 * 2 ^ i % 0x10000000000000000 ≡ 2 ^ i) × (2 ^ i % 2 ≡ 0) × (0 < 2 ^ i)
    × (2 ^ i ≤ 0x20000000000000)
unit i a b = (
  shl_exact {a = 1} 1 i 64 (omega arith) (omega arith) ∙ one-mul (2 ^ i),
  even-pow i (omega arith),
  pow_pos i,
  pow_mono {i = i} {j = 53} b,
)

pub returns-then-field-lt-LEAST_FIELD : goal.returns-then-field-lt-LEAST_FIELD
returns-then-field-lt-LEAST_FIELD c = sym (zero_bits c.args.m c.if-field-lt-LEAST_FIELD.true)

pub closest-requires : goal.closest-requires
closest-requires c =
    let m = c.args.m in
    let u = unit (926 - m / 0x10000000000000) (omega arith) (omega arith) in
    subst (λ (u : ℕ). (u % 2 ≡ 0) × ((0 < u) × (0x10000000000000 + m % 0x10000000000000 + u < 0x10000000000000000)))
    (sym u.0) (u.1, (u.2, omega arith))

pub returns : goal.returns
returns c =
    let m = c.args.m in
    let u = unit (926 - m / 0x10000000000000) (omega arith) (omega arith) in
    c.closest.ensures
    ∙ ap (λ (u : ℕ). closest (0x10000000000000 + m % 0x10000000000000) u) u.0
    ∙ sym (subnormal_bits m c.requires c.if-field-lt-LEAST_FIELD.false)

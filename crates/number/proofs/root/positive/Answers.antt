-- `number::root::positive` meets its contract: the pattern's significand and place are the number's units, and the
-- steps on them are those of the definition (`RootPositive.antt`). Assumes nothing.
use Rattle.std.proofs.Common.{◌≡◌, true, ℕ, ◌+◌, ◌-◌, ◌*◌, ◌/◌, ◌%◌, ◌^◌, ◌<◌, ◌≤◌, T, sym, ap, ◌∙◌, subst, arith}
use lib.Count.{count_leading_zeros, leading_le}
use lib.Ieee.{Float, binary64, fits, of_bits}
use Rattle.exact.proofs.Patterns.{pattern_number}
use Rattle.number.proofs.RootPositive.{Steps, from_bits}
use Rattle.number.proofs.root.positive.Goals as goal

-- what owning an f64 tells: the format holds it
held : (x : Float) → fits binary64 x ≡ true → T (fits binary64 x)
held x e = subst T (sym e) tt

pub overflow_cast-zeros : goal.overflow_cast-zeros
overflow_cast-zeros c = omega (arith, leading_le 64 c.significand-m.result)

known : (c : goal.After-exponent)
    → Steps c.args.x c.significand-m.result c.exponent.result
known c =
    let s = c in
    from_bits s.args.x s.args.bits c.significand-m.result c.exponent.result s.requires.0 (held _ c.well_formed.0.1)
    s.requires.1 s.requires.2 c.significand-m.ensures c.exponent.ensures

pub overflow_sub-lead : goal.overflow_sub-lead
overflow_sub-lead c = (known c).zeros_le

pub overflow_add-lead : goal.overflow_add-lead
overflow_add-lead c = omega (arith, (known c).leads_lt)

pub overflow_sub-n : goal.overflow_sub-n
overflow_sub-n c = (known c).zeros_ge

pub overflow_add-n : goal.overflow_add-n
overflow_add-n c = omega (arith, (known c).zeros_le)

pub overflow_shl-n : goal.overflow_shl-n
overflow_shl-n c = omega (arith, (known c).zeros_le)

pub nearest-q-requires : goal.nearest-q-requires
nearest-q-requires c = (known c).in_range

pub overflow_mul-result : goal.overflow_mul-result
overflow_mul-result c = omega (arith, (known c.before).leads_lt)

digits_lt : (c : goal.After-nearest-q) → c.nearest-q.result < 2 ^ 53
digits_lt c = subst (λ (q : ℕ). q < 2 ^ 53) (sym c.nearest-q.ensures) (known c.before).digits_lt

pub overflow_add-result-2 : goal.overflow_add-result-2
overflow_add-result-2 c = omega (arith, (known c.before).leads_lt, digits_lt c)

below_infinity : (l q : ℕ) → l < 2098 → q < 2 ^ 53
    → ((l / 2 + 485) * 4503599627370496 + q) % 9223372036854775808 ≤ 9218868437227405312
below_infinity l q h k = omega arith

pub float_from_bits-result : goal.float_from_bits-result
float_from_bits-result c =
    let d = c in
    let l = d.exponent.result + (63 - count_leading_zeros 64 d.significand-m.result) in
    pattern_number binary64 ((l / 2 + 485) * 4503599627370496 + c.nearest-q.result)
    (below_infinity l c.nearest-q.result (known c.before).leads_lt (digits_lt c))

pub returns : goal.returns
returns c =
    let d = c in
    let l = d.exponent.result + (63 - count_leading_zeros 64 d.significand-m.result) in
    ap (λ (q : ℕ). of_bits binary64 ((l / 2 + 485) * 4503599627370496 + q)) c.nearest-q.ensures ∙ (known c.before).answer

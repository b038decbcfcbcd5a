-- `number::wrapping::wrapping_mul` meets its contract. With a and b cut into halves of 32 bits, a * b is what the code
-- adds up and a multiple of 2^64: the product of the upper halves, and what the crossed products have above 32 bits.
-- Assumes nothing.
use Rattle.std.proofs.Common.{◌≡◌, ℕ, ◌+◌, ◌*◌, ◌/◌, ◌%◌, ◌^◌, ◌<◌, sym, ap, ◌∙◌, lt_of_le_of_lt, le_of_lt, mul-le-mul_left, mul-lt-mul_of_pos_right, div-add-mod', arith, lit<}
use native.Mathlib.Nat.{mul-add-mod_self_left}
use Rattle.number.proofs.wrapping.wrapping_mul.Goals as goal

half_product : (a b : ℕ) → a < 4294967296 → b < 4294967296 → a * b < 18446744073709551616
half_product a b p q = lt_of_le_of_lt (mul-le-mul_left a (le_of_lt q)) (mul-lt-mul_of_pos_right p (lit< tt))

-- a and b by their halves, and the crossed products' sum by its own
multiplied : (ah al bh bl q r : ℕ) → ah * bl + al * bh ≡ q * 4294967296 + r
    → (ah * 4294967296 + al) * (bh * 4294967296 + bl) ≡ 18446744073709551616 * (ah * bh + q) +
    (al * bl + r * 4294967296)
multiplied ah al bh bl q r h = omega arith

cut_twice : (x : ℕ) → x % 18446744073709551616 % 4294967296 ≡ x % 4294967296
cut_twice x = omega arith

product : (a b : ℕ)
    → (a % 4294967296 * (b % 4294967296)
    + (a / 4294967296 * (b % 4294967296) + a % 4294967296 * (b / 4294967296)) % 2 ^ 64 % 4294967296 * 4294967296)
    % 2 ^ 64
    ≡ a * b % 2 ^ 64
product a b =
    let ah = a / 4294967296 in
    let al = a % 4294967296 in
    let bh = b / 4294967296 in
    let bl = b % 4294967296 in
    let x = ah * bl + al * bh in
    ap (λ (r : ℕ). (al * bl + r * 4294967296) % 2 ^ 64) (cut_twice x)
    ∙ sym (mul-add-mod_self_left (2 ^ 64) (ah * bh + x / 4294967296) (al * bl + x % 4294967296 * 4294967296))
    ∙ ap (λ (n : ℕ). n % 2 ^ 64)
    (sym (multiplied ah al bh bl (x / 4294967296) (x % 4294967296) (sym (div-add-mod' x 4294967296)))
    ∙ ap (λ (n : ℕ). n * (bh * 4294967296 + bl)) (div-add-mod' a 4294967296)
    ∙ ap (λ (n : ℕ). a * n) (div-add-mod' b 4294967296))

low : (a : ℕ) → a % 4294967296 < 4294967296
low a = omega arith

high : (a : ℕ) → a < 18446744073709551616 → a / 4294967296 < 4294967296
high a h = omega arith

pub overflow_mul-ah : goal.overflow_mul-ah
overflow_mul-ah c = record { fits = half_product _ _ (high c.args.a c.ranges.a.fits) (low c.args.b) }

pub overflow_mul-al : goal.overflow_mul-al
overflow_mul-al c = record { fits = half_product _ _ (low c.args.a) (high c.args.b c.ranges.b.fits) }

pub overflow_mul-al-2 : goal.overflow_mul-al-2
overflow_mul-al-2 c = record { fits = half_product _ _ (low c.args.a) (low c.args.b) }

pub returns : goal.returns
returns c =
    c.wrapping_add_u64.ensures.value
    ∙ rw c.wrapping_add_u64-crossed.ensures.value (product c.args.a c.args.b)

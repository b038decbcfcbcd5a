-- The exact test without a number beyond 64 bits: with q in two halves, n * 2 ^ 52 + q - q * q is reached in three
-- steps, each a difference that did not wrap, since it is small; and that number between 1 and 2 * q says that q is
-- the nearest root. Assumes nothing.
use Rattle.std.proofs.Common.{◌≡◌, ℕ, ◌+◌, ◌*◌, ◌/◌, ◌%◌, ◌^◌, ◌<◌, ◌≤◌, sym, ap, ◌∙◌, subst, le_of_lt, mod-eq_of_lt, mul-le-mul, arith}
use Rattle.number.proofs.RootScale.{raised_pos, raised_lt}
use Rattle.number.proofs.RootWhole.{Nearest, nearest_by}
use Rattle.number.specs.Root.{nearest_root}

-- ---- the three steps
-- a, b and c stand for the squares and the product
steps : (n h l d f t a b c : ℕ) → d + 4 * a ≡ n → f + 2 * b ≡ d * 33554432 + h → t + c ≡ f * 134217728 + l
    → t + (18014398509481984 * a + 268435456 * b + c) ≡ n * 2 ^ 52 + (h * 134217728 + l)
steps n h l d f t a b c x y z = omega arith

square : (h l : ℕ) → (h * 134217728 + l) * (h * 134217728 + l) ≡ 18014398509481984 * (h * h) + 268435456 * (h * l) + l
    * l
square h l = omega arith

four : (h : ℕ) → 4 * h * h ≡ 4 * (h * h)
four h = omega arith

two : (h l : ℕ) → h * (2 * l) ≡ 2 * (h * l)
two h l = omega arith

in_halves : (n h l d f t : ℕ) → d + 4 * h * h ≡ n → f + h * (2 * l) ≡ d * 33554432 + h → t + l * l ≡ f * 134217728 + l
    → t + (h * 134217728 + l) * (h * 134217728 + l) ≡ n * 2 ^ 52 + (h * 134217728 + l)
in_halves n h l d f t x y z =
    ap (λ (w : ℕ). t + w) (square h l)
    ∙ steps n h l d f t (h * h) (h * l) (l * l) (ap (λ (w : ℕ). d + w) (sym (four h)) ∙ x)
    (ap (λ (w : ℕ). f + w) (sym (two h l)) ∙ y) z

halves : (q : ℕ) → q / 134217728 * 134217728 + q % 134217728 ≡ q
halves q = omega arith

-- ---- the products fit
pub product_le : (a b x y : ℕ) → a ≤ x → b ≤ y → a * b ≤ x * y
product_le a b x y h k = mul-le-mul h k

-- ---- the test
near : (q a t : ℕ) → t + q * q ≡ a + q → 0 < t → t ≤ 2 * q → Nearest a q
near q a t e x y = omega arith

-- ---- a difference that wraps
-- one that is small did not
unwrapped : (r b a m : ℕ) → (r + b) % 2 ^ 64 ≡ a → r ≤ m → m + b < 2 ^ 64 → r + b ≡ a
unwrapped r b a m e h k = sym (mod-eq_of_lt (omega arith)) ∙ e

-- ---- the code's numbers, its tests passed
module _ (n q d f t : ℕ) where
  abbrev h : ℕ
  h = q / 134217728

  abbrev l : ℕ
  l = q % 134217728

  pub settled : 2 ^ 52 ≤ n → n < 2 ^ 54 → q ≤ 2 ^ 53
      → (d + 4 * h * h) % 2 ^ 64 ≡ n → (f + h * (2 * l)) % 2 ^ 64 ≡ d % 1073741824 * 33554432 + h
      → (t + (l * l + 1)) % 2 ^ 64 ≡ f % 1073741824 * 134217728 + l
      → d < 1073741824 → f < 1073741824 → t < 2 * q
      → q ≡ nearest_root (n * 2 ^ 52)
  settled lo hi top x y z a b c =
      nearest_by (n * 2 ^ 52) q (raised_pos n lo) (raised_lt n hi)
      (near q (n * 2 ^ 52) (t + 1)
      (subst (λ (r : ℕ). t + 1 + r * r ≡ n * 2 ^ 52 + r) (halves q)
      (in_halves n h l d f (t + 1) first second third))
      (omega arith) (omega arith))
    where
      high : (q : ℕ) → q ≤ 2 ^ 53 → q / 134217728 ≤ 2 ^ 26
      high q h = omega arith

      low : (q : ℕ) → q % 134217728 ≤ 2 ^ 27
      low q = omega arith

      few : (h : ℕ) → h * h ≤ 2 ^ 26 * 2 ^ 26 → 1073741824 + 4 * h * h < 2 ^ 64
      few h k = omega arith

      first : d + 4 * h * h ≡ n
      first = unwrapped d (4 * h * h) n 1073741824 x (le_of_lt a)
          (few h (product_le h h (2 ^ 26) (2 ^ 26) (high q top) (high q top)))

      crossed : (h l : ℕ) → h * l ≤ 2 ^ 26 * 2 ^ 27 → 1073741824 + h * (2 * l) < 2 ^ 64
      crossed h l k = omega arith

      second : f + h * (2 * l) ≡ d * 33554432 + h
      second =
          unwrapped f (h * (2 * l)) _ 1073741824 y (le_of_lt b)
          (crossed h l (product_le h l (2 ^ 26) (2 ^ 27) (high q top) (low q)))
          ∙ ap (λ (z : ℕ). z * 33554432 + h) (mod-eq_of_lt a)

      ended : (q s : ℕ) → q ≤ 2 ^ 53 → s ≤ 2 ^ 27 * 2 ^ 27 → 2 * q + (s + 1) < 2 ^ 64
      ended q s h k = omega arith

      moved : (t s : ℕ) → t + 1 + s ≡ t + (s + 1)
      moved t s = omega arith

      third : t + 1 + l * l ≡ f * 134217728 + l
      third =
          moved t (l * l)
          ∙ unwrapped t (l * l + 1) _ (2 * q) z (le_of_lt c)
          (ended q (l * l) top (product_le l l (2 ^ 27) (2 ^ 27) (low q) (low q)))
          ∙ ap (λ (z : ℕ). z * 134217728 + l) (mod-eq_of_lt b)

-- Floats in bytes: a float that was put is read back, for both formats by one law, and what is read beside it is as
-- it was; then the same of the samples by number. Assumes nothing.
use mathlib.Core.Path.{◌≡◌, refl, ap, ◌∙◌, subst}
use mathlib.Core.Logic.{◌⊎◌, inl, inr}
use mathlib.Core.List.{List}
use Prim.Native.Nat.{ℕ, ◌+◌, ◌*◌, ◌^◌, ◌≤◌, ◌<◌}
use native.Mathlib.Nat.{mod-eq_of_lt}
use native.Mathlib.Omega.{arith}
use lib.Dec.{T, leb, leb→le, nleb→lt}
use mathlib.Core.Bool.{Bool, true, false, not}
use lib.ListN.{length}
use lib.Ieee.{Float, Format, binary32, binary64, top, fits, of_bits, to_bits}
use lib.Ieee.Bits.{of_bits-to_bits, to_bits-lt}
use Rattle.endian.specs.Bytes.{number_at, store_number, f32_at, f64_at, store_f32, store_f64, sample_at}
use Rattle.endian.proofs.BytesLaws.{number_put, number_beside}

-- ---- one float

-- in k bytes, which hold every pattern of the format
store_read : (f : Format) (k : ℕ) (s : List ℕ) (at : ℕ) (x : Float) → 2 * top f ≡ 256 ^ k → T (fits f x)
    → at + k ≤ length s
    → of_bits f (number_at k (store_number k s at (to_bits f x)) at) ≡ x
store_read f k s at x w t r =
    ap (of_bits f) (number_put k s at (to_bits f x) r
    ∙ mod-eq_of_lt (subst (λ (n : ℕ). to_bits f x < n) w (to_bits-lt f x t))) ∙ of_bits-to_bits f x t

pub f32_put : (s : List ℕ) (at : ℕ) (x : Float) → T (fits binary32 x) → at + 4 ≤ length s
    → f32_at (store_f32 s at x) at ≡ x
f32_put s at x t r = store_read binary32 4 s at x refl t r

pub f64_put : (s : List ℕ) (at : ℕ) (x : Float) → T (fits binary64 x) → at + 8 ≤ length s
    → f64_at (store_f64 s at x) at ≡ x
f64_put s at x t r = store_read binary64 8 s at x refl t r

pub f32_beside : (s : List ℕ) (at : ℕ) (x : Float) (j : ℕ) → (j + 4 ≤ at) ⊎ (at + 4 ≤ j)
    → f32_at (store_f32 s at x) j ≡ f32_at s j
f32_beside s at x j h = ap (of_bits binary32) (number_beside 4 4 s at (to_bits binary32 x) j h)

pub f64_beside : (s : List ℕ) (at : ℕ) (x : Float) (j : ℕ) → (j + 8 ≤ at) ⊎ (at + 8 ≤ j)
    → f64_at (store_f64 s at x) j ≡ f64_at s j
f64_beside s at x j h = ap (of_bits binary64) (number_beside 8 8 s at (to_bits binary64 x) j h)

-- ---- by number

apart : (i j : ℕ) → (i ≡ j → ⊥) → (4 * i + 4 ≤ 4 * j) ⊎ (4 * j + 4 ≤ 4 * i)
apart i j h = go (leb (i + 1) j) (leb→le (i + 1) j) (nleb→lt (i + 1) j)
  where
    go : (t : Bool) → (T t → i + 1 ≤ j) → (T (not t) → j < i + 1) → (4 * i + 4 ≤ 4 * j) ⊎ (4 * j + 4 ≤ 4 * i)
    go true l g = inl (omega (arith, l tt))
    go false l g = inr (omega (arith, g tt, h))

pub sample_put : (s : List ℕ) (k : ℕ) (x : Float) → T (fits binary32 x) → 4 * k + 4 ≤ length s
    → sample_at (store_f32 s (4 * k) x) k ≡ x
sample_put s k x t r = f32_put s (4 * k) x t r

pub sample_beside : (s : List ℕ) (k : ℕ) (x : Float) (j : ℕ) → (j ≡ k → ⊥)
    → sample_at (store_f32 s (4 * k) x) j ≡ sample_at s j
sample_beside s k x j h = f32_beside s (4 * k) x (4 * j) (apart j k h)

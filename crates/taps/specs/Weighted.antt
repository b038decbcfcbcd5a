-- The weighted mean of taps, colours weighted by alpha: the Rust's `weighted`, rounded once per operation in the order
-- written. A tap is a colour and its weight. Specification 9. Assumes nothing.
use Rattle.std.specs.Prelude.{ℕ, ◌+◌, ◌*◌, ◌≡◌, cond, List, get_or, Float}
use Rattle.std.specs.Float.{nan}
use Rattle.std.specs.Float.Ieee.{lt}
use Rattle.exact.specs.Fraction.{Fraction}
use Rattle.exact.specs.Loop.{up_to}
use Rattle.exact.specs.Single.{◌⊕◌, ◌⊗◌, ◌⊘◌}
use Rattle.exact.specs.Weighted.{Unit32}
pub use Rattle.exact.specs.Weighted.{least}
use Rattle.number.specs.Magnitude.{abs}
pub use Rattle.cubic.specs.Bounded.{Bounded}
use Rattle.picture.specs.Colour.{zero, one, grey}
use Rattle.picture.specs.declared.colour.Rgba.{Rgba}
use Rattle.taps.specs.declared.weighted.Sums.{Sums}

-- acc and wsum before the first tap
abbrev pub nothing : Sums
nothing = record { r = zero; g = zero; b = zero; a = zero; weight = zero }

-- acc[c] += w * p[c] * p[3] for the three colours, acc[3] += w * p[3], wsum += w
unfoldable pub added : Rgba → Float → Sums → Sums
added p w s = record {
  r = s.r ⊕ w ⊗ p.r ⊗ p.a;
  g = s.g ⊕ w ⊗ p.g ⊗ p.a;
  b = s.b ⊕ w ⊗ p.b ⊗ p.a;
  a = s.a ⊕ w ⊗ p.a;
  weight = s.weight ⊕ w;
}

-- x / y, or 0 where y is at most `least` in magnitude
unfoldable pub quotient : Float → Float → Float
quotient x y = cond (lt least (abs y)) (x ⊘ y) zero

unfoldable pub mean : Sums → Rgba
mean s = record {
  r = quotient s.r s.a;
  g = quotient s.g s.a;
  b = quotient s.b s.a;
  a = quotient s.a s.weight;
}

-- taps[k] and weights[k], below 16
abbrev pub tap_at : List Rgba → ℕ → Rgba
tap_at taps k = get_or taps k (grey nan nan)

abbrev pub weight_at : List Float → ℕ → Float
weight_at weights k = get_or weights k nan

-- the sums over the first n taps
abbrev pub tap_sums : List Rgba → List Float → ℕ → Sums
tap_sums taps weights n = up_to (λ (k : ℕ). added (tap_at taps k) (weight_at weights k)) 0 n nothing

-- the sums with the taps of row j of n by n added
abbrev pub lined : List Rgba → List Float → ℕ → ℕ → Sums → Sums
lined taps weights n j s = up_to (λ (k : ℕ). added (tap_at taps k) (weight_at weights k)) (j * n) (j * n + n) s

unfoldable pub weighted : List Rgba → List Float → ℕ → Rgba
weighted taps weights n = mean (tap_sums taps weights n)

-- ---- what the laws speak of
-- samples from 0 to 1, and alpha 1
pub record Opaque (p : Rgba) : Type 0 where
  pub red : Unit32 p.r
  pub green : Unit32 p.g
  pub blue : Unit32 p.b
  pub alpha : p.a ≡ one

-- each component is a number of at most b in magnitude
pub record BoundedBy (b : Fraction) (p : Rgba) : Type 0 where
  pub red : Bounded b p.r
  pub green : Bounded b p.g
  pub blue : Bounded b p.b
  pub alpha : Bounded b p.a

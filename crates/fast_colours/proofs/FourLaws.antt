-- Four sums are a cell's three and the next cell's first: the samples of neighbouring pixels follow each other. Assumes
-- nothing.
use mathlib.Core.Path.{◌≡◌}
use mathlib.Core.List.{List}
use Prim.Native.Nat.{ℕ, ◌+◌, ◌*◌}
use native.Mathlib.Omega.{arith}
use lib.Ieee.{Float}
use Rattle.exact.specs.Single.{◌⊕◌, ◌⊗◌, ◌⊘◌}
use Rattle.endian.specs.Bytes.{sample_at}
use Rattle.picture.specs.Colour.{zero, one}
use Rattle.picture.specs.Pixel.{widened, pixel_at}
use Rattle.picture.specs.declared.colour.Rgba.{Rgba}
use Rattle.taps.specs.Weighted.{added}
use Rattle.sampler.specs.TwoByTwo.{two_by_two_sums, mixed}
use Rattle.fast_colours.specs.Broad.{four_sums, broad}

-- the quotients
abbrev pub quotients : Rgba → Float → Rgba
quotients t s = record { r = t.r ⊘ s; g = t.g ⊘ s; b = t.b ⊘ s; a = t.a ⊘ s }

-- where the taps' first samples stand
along : (w i j : ℕ) → (j * w + i) * 3 + 3 ≡ (j * w + (i + 1)) * 3
along w i j = omega arith

below : (w i j : ℕ) → (j * w + i) * 3 + w * 3 ≡ ((j + 1) * w + i) * 3
below w i j = omega arith

across : (w i j : ℕ) → (j * w + i) * 3 + w * 3 + 3 ≡ ((j + 1) * w + (i + 1)) * 3
across w i j = omega arith

along_two : (w i j : ℕ) → (j * w + i) * 3 + 3 + 3 ≡ (j * w + (i + 1 + 1)) * 3
along_two w i j = omega arith

across_two : (w i j : ℕ) → (j * w + i) * 3 + w * 3 + 3 + 3 ≡ ((j + 1) * w + (i + 1 + 1)) * 3
across_two w i j = omega arith

module _ (bytes : List ℕ) (w i j : ℕ) (a b c d s : Float) where
  -- of the samples numbered p, q, u and v
  abbrev of : ℕ → ℕ → ℕ → ℕ → Float
  of p q u v =
      (zero ⊕ a ⊗ sample_at bytes p ⊗ one ⊕ b ⊗ sample_at bytes q ⊗ one ⊕ c ⊗ sample_at bytes u ⊗ one
      ⊕ d ⊗ sample_at bytes v ⊗ one) ⊘ s

  pub four_broad : quotients (four_sums bytes ((j * w + i) * 3) (w * 3) a b c d) s ≡ broad bytes w i j a b c d s
  unfolding mixed two_by_two_sums added pixel_at widened
  four_broad =
      λ t. record {
        r = of ((j * w + i) * 3) (along w i j t) (below w i j t) (across w i j t);
        g = of ((j * w + i) * 3 + 1) (along w i j t + 1) (below w i j t + 1) (across w i j t + 1);
        b = of ((j * w + i) * 3 + 2) (along w i j t + 2) (below w i j t + 2) (across w i j t + 2);
        a = of (along w i j t) (along_two w i j t) (across w i j t) (across_two w i j t);
      }

-- What the parts of a cell ask of a number in index space, so that each is a few operations without a choice. Assumes
-- nothing.
use Rattle.std.specs.Prelude.{◌≡◌, ◌⊎◌, Bool, ◌&&◌, List, ℕ, ◌<◌, T, pos, get_or, Float}
use Rattle.std.specs.Float.{nan, binary64}
use Rattle.std.specs.Float.Ieee.{of_bits, of_int, le, lt, fits}
use Rattle.exact.specs.Double.{◌⊕◌, ◌⊖◌, one}
pub use Rattle.exact.specs.Double.{nought}
use Rattle.exact.specs.Warp.{half}
use Rattle.number.specs.Floor.{floorℤ, floor_f64, in_domain}

-- x is below the whole number `reach`
abbrev pub under : ℕ → Float → Bool
under reach x = lt x (of_int binary64 (pos reach))

-- u - 0.5 stands from 0 up to below `reach`
abbrev pub has_cell : ℕ → Float → Bool
has_cell reach u = le half u && under reach (u ⊖ half)

-- u is not negative, so that u - 0.5 + 0.5 is not either, and that is below `reach`
abbrev pub has_place : ℕ → Float → Bool
has_place reach u = le nought u && under reach (u ⊖ half ⊕ half)

-- each of the first n of a list passes
pub record Every (test : Float → Bool) (n : ℕ) (us : List Float) : Type 0 where
  pub each : (k : ℕ) → k < n → T (test (get_or us k nan))

-- the widest reach: a whole number below it has 16 bits
abbrev pub widest_reach : ℕ
widest_reach = 65536

-- the whole number below z is a natural number of 16 bits
pub record Low (z : Float) : Type 0 where
  pub domain : T (in_domain z)
  pub whole : ℕ
  pub small : whole < widest_reach
  pub floor : floorℤ z ≡ pos whole

-- the least number with all an f32's digits
abbrev pub least_short : Float
least_short = of_bits binary64 0x3810_0000_0000_0000  -- 2^-126

-- d is +0, or from 2^-126 up to 1: the f32 next to it has all its digits
pub record Short (d : Float) : Type 0 where
  pub held : T (fits binary64 d)
  pub short : (d ≡ nought)
      ⊎ (T (le least_short d) × T (le d one))

-- z is no -0, and what it has beyond its floor is short
pub record Parted (z : Float) : Type 0 where
  pub same : floor_f64 z ≡ of_int binary64 (floorℤ z)
  pub rest : Short (z ⊖ floor_f64 z)

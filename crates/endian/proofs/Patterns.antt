-- Patterns: the NaN's, and that of a signed number in two's complement. Assumes nothing.
use mathlib.Core.Path.{◌≡◌, refl}
use Prim.Native.Nat.{◌+◌, ◌/◌}
use lib.IntN.{ℤ, pos, negsuc}
use lib.Ieee.{nan, Format, binary32, binary64, hid, of_bits}
use Rattle.exact.proofs.Formats.{infinite}
use mir.Syntax.{w64}
use mir.Val.{of_z}
use Rattle.endian.specs.Bytes.{twos_complement}

-- the NaN of the language, `f32::NAN` and `f64::NAN`
pub nan_pattern : (f : Format) → of_bits f (infinite f + hid f / 2) ≡ nan
unfolding of_bits
nan_pattern binary32 = refl
nan_pattern binary64 = refl

-- the library's word for the bits of a signed number
pub unsigned : (z : ℤ) → of_z w64 z ≡ twos_complement z
unfolding twos_complement
unsigned (pos n) = refl
unsigned (negsuc n) = refl

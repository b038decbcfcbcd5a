-- Colours of four f32 components, and the Rec. 601 luma, rounded once per operation in the order written. Specification
-- 8, 10. Assumes nothing.
use Rattle.std.specs.Prelude.{Float}
use Rattle.std.specs.Float.{binary32}
use Rattle.std.specs.Float.Ieee.{of_bits}
use Rattle.exact.specs.Single.{◌⊕◌, ◌⊗◌}
pub use Rattle.exact.specs.Single.{zero, half, one}
use Rattle.picture.specs.declared.colour.Rgba.{Rgba}

abbrev pub grey : Float → Float → Rgba
grey v alpha = record { r = v; g = v; b = v; a = alpha }

-- 0.299 * r + 0.587 * g + 0.114 * b
abbrev pub luma : Rgba → Float
luma c = of_bits binary32 0x3e99_1687 ⊗ c.r ⊕ of_bits binary32 0x3f16_45a2 ⊗ c.g ⊕ of_bits binary32 0x3de9_78d5 ⊗ c.b

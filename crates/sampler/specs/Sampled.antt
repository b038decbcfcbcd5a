-- The colour that a picture with its surroundings has at a point of index space, by an interpolation. Assumes nothing.
use Rattle.std.specs.Prelude.{Float}
use Rattle.picture.specs.declared.colour.Rgba.{Rgba}
use Rattle.taps.specs.Sampler.{plane_of}
use Rattle.taps.specs.declared.interpolation.Interpolation.{Interpolation}
use Rattle.taps.specs.declared.sampler.Sampler.{Sampler}
use Rattle.sampler.specs.Interpolate.{interpolated}

abbrev pub sampled : Sampler → Interpolation → Float → Float → Rgba
sampled s i x y = interpolated i (plane_of s) s.background x y

-- The colours that a picture with its surroundings names for good. Assumes nothing.
use Rattle.policies.specs.Named.{code_of}
use Rattle.picture.specs.At.{at}
use Rattle.taps.specs.Taps.{Plane}
use Rattle.taps.specs.declared.sampler.Sampler.{Sampler}

abbrev pub plane_of : Sampler → Plane
plane_of s = at s.picture.bytes.now s.picture.width s.picture.height s.picture.channels (code_of s.policy) s.background

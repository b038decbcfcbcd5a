-- `sampler::fast_bilinear::anywhere` meets its contract: the four taps are those of the list.
use Rattle.taps.proofs.TapsLaws.{four_taps}
use Rattle.sampler.proofs.fast_bilinear.anywhere.Goals as goal

pub returns : goal.returns
returns c =
    rw (c.blended.ensures, c.tap-4.ensures, c.tap-3.ensures, c.tap-2.ensures, c.tap.ensures) (four_taps _ _ _ _)
